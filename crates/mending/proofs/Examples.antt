-- Worked jobs, as rows of one table: the table's number of the answer, or 0, and the prevs of the job's bytes afterwards; computed from the bytes on.
use mathlib.Core.Path.{◌≡◌, refl}
use mathlib.Core.List.{List, [], ◌∷◌, ◌++◌, map}
use Prim.Native.Nat.{ℕ}
use Rattle.std.specs.Prelude.{Result, Ok, Err}
use Rattle.numbers.specs.Bytes.{le}
use Rattle.job.specs.Field.{body_of, field_of}
use Rattle.job.specs.declared.refusal.Refusal.{Refusal}
use Rattle.store.specs.Words.{cell, put}
use Rattle.audit.specs.Tests.{any_below}
use Rattle.reading.specs.Fill.{turn_of, run, fill_of}
use Rattle.reading.specs.Read.{read_of}
use Rattle.job.specs.Refusal.{number_of}
use Rattle.mending.specs.Mend.{Mended, mended, prev_at, past_mending, before_of, checked_of, fix_of, mend_of}

abbrev settings : List ℕ
settings = 1 ∷ 1 ∷ 0 ∷ 0 ∷ []

-- a point at x and 0, with its next, prev and record
abbrev at : ℕ → ℕ → ℕ → ℕ → List ℕ
at x nx pv r = 2 ∷ 18 ∷ 0 ∷ x ∷ 0 ∷ 0 ∷ 0 ∷ 0 ∷ 0 ∷ 0 ∷ 0 ∷ nx ∷ 0 ∷ pv ∷ 0 ∷ r ∷ 0 ∷ 0 ∷ 0 ∷ 0 ∷ 0 ∷ []

-- a closed record without owner, first point 0
abbrev closed : List ℕ
closed = 3 ∷ 5 ∷ 0 ∷ 0 ∷ 255 ∷ 255 ∷ 0 ∷ 0 ∷ []

abbrev number : Result (Unit {0}) Refusal → ℕ
number (Ok _) = 0
number (Err r) = number_of r

-- the answer's number, and the first three prevs
abbrev said : Mended → List ℕ
said m = number m.answer ∷ le 2 (prev_at 0) m.bytes ∷ le 2 (prev_at 1) m.bytes ∷ le 2 (prev_at 2) m.bytes ∷ []

-- one ring: backward links all to point 0, and right ones
abbrev bad : List ℕ
bad = settings ++ at 0 1 0 0 ++ at 1 2 0 0 ++ at 2 0 0 0 ++ closed

abbrev good : List ℕ
good = settings ++ at 0 1 2 0 ++ at 1 2 0 0 ++ at 2 0 1 0 ++ closed

abbrev jobs : List (List ℕ)
jobs =
    -- mended
    bad
    -- mutual links: as they were
    ∷ good
    -- point 1 is the next of two, point 2 of none: 17
    ∷ (settings ++ at 0 1 2 0 ++ at 1 0 0 0 ++ at 2 1 1 0 ++ closed)
    -- a prev that names nothing, in a job past mending: 5 comes first
    ∷ (settings ++ at 0 1 3 0 ++ at 1 1 0 0 ++ at 2 0 1 0 ++ closed)
    -- two rings of one record's number, mended; the later rows do not count here
    ∷ (settings ++ at 0 0 1 0 ++ at 1 2 1 0 ++ at 2 1 1 0 ++ closed)
    ∷ []

answers : map (λ (j : List ℕ). said (mend_of j)) jobs ≡ (0 ∷ 2 ∷ 0 ∷ 1 ∷ []) ∷ (0 ∷ 2 ∷ 0 ∷ 1 ∷ []) ∷ (17 ∷ 2 ∷ 0 ∷ 1 ∷ []) ∷ (5 ∷ 3 ∷ 0 ∷ 1 ∷ []) ∷ (0 ∷ 0 ∷ 2 ∷ 1 ∷ []) ∷ []
unfolding mend_of checked_of fix_of past_mending before_of read_of fill_of run turn_of field_of body_of cell put any_below
answers = refl

-- every byte of it
whole : mend_of bad ≡ mended (Ok tt) good
unfolding mend_of checked_of fix_of past_mending before_of read_of fill_of run turn_of field_of body_of cell put any_below
whole = refl
