-- A line for each record, in plain words, with numbers: document 02, Ask 5, "one reason for each record of a finished job".
use Rattle.std.specs.Prelude.{ℕ, zero, suc, Bool, true, false, List, [], ◌∷◌, ◌++◌}
use Rattle.store.specs.Words.{Store}
use Rattle.store.specs.Sound.{recs}
use Rattle.text.specs.Text.{NEWLINE, decimal}
use Rattle.telling.specs.declared.Reason.{Reason}
use Rattle.telling.specs.declared.Reason.TheVariants.{NoRing, Joined, SmallRing, RingFell, SmallArea, ShortPath, SmallPath, Written}
use Rattle.telling.specs.Telling.{reason_at}
use Rattle.job_reasons.specs.Words.{RECORD, COLON, NO_RING_IN_JOB, JOINED_INTO, SMALL_RING, RING_FELL, SMALL_AREA, SHORT_PATH, SMALL_PATH, CLOSED_OUTLINE, OPEN_OUTLINE}

-- "an outline was written, with its place, from 0, in the closed or open list"
abbrev pub outline_text : Bool → ℕ → List ℕ
outline_text false place = CLOSED_OUTLINE ++ decimal place
outline_text true place = OPEN_OUTLINE ++ decimal place

-- the eight, in their order: "joined into another record, with the number of the one that took it in that join"
abbrev pub why_text : Reason → List ℕ
why_text NoRing = NO_RING_IN_JOB
why_text (Joined taker) = JOINED_INTO ++ decimal taker
why_text SmallRing = SMALL_RING
why_text RingFell = RING_FELL
why_text SmallArea = SMALL_AREA
why_text ShortPath = SHORT_PATH
why_text SmallPath = SMALL_PATH
why_text (Written o place) = outline_text o place

-- record i's line
abbrev pub line_of : ℕ → Reason → List ℕ
line_of i x = RECORD ++ decimal i ++ COLON ++ why_text x ++ (NEWLINE ∷ [])

-- the lines of the records below n, one after another
abbrev pub lines_below : Store → ℕ → List ℕ
lines_below s zero = []
lines_below s (suc n) = lines_below s n ++ line_of n (reason_at s n)

-- of all records
unfoldable pub reasons_text : Store → List ℕ
reasons_text s = lines_below s (recs s)
