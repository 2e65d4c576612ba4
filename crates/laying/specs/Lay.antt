-- Document 02, Ask 11, "Two drawings on one table": laying together as a call, what it answers and the words that it leaves, on every two work spaces. "Each refusal changes neither"; the second's work space is only read.
use Rattle.std.specs.Prelude.{ℕ, ◌+◌, ◌%◌, Bool, true, false, cond, not, ◌&&◌, ◌||◌, List, eqb, ltb, length, Result, Ok, Err}
use Rattle.job.specs.Limits as limit
use Rattle.job.specs.declared.refusal.Refusal.{Refusal}
use Rattle.job.specs.declared.refusal.Refusal.TheVariants.{Full, OutOfTurn, SettingsDiffer}
use Rattle.store.specs.Field.{rc, ct, FIRST, MARK, PRESENT, CUT, REASON, SETTINGS, NONE, LENGTH}
use Rattle.store.specs.Words.{Store, view}
use Rattle.store.specs.Sound.{pts, recs, ringless, is_open}
use Rattle.store.specs.Reason.{JOINED}
use Rattle.store.specs.States.{BYTES}
use Rattle.audit.specs.Tests.{any_below}
use Rattle.handed.specs.Handed.{tested_of}
use Rattle.audit.specs.Left.{Left, left}
use Rattle.pooling.specs.Words.{pooled_words}

-- ---- "16 'settings differ': the two settings bytes are unequal"

-- the settings byte of a work space: the low byte of its settings word
abbrev pub settings_byte : Store → ℕ
settings_byte s = s (ct SETTINGS) 0 % BYTES

abbrev pub settings_differ : Store → Store → Bool
settings_differ s t = not (eqb (settings_byte s) (settings_byte t))

-- ---- "then 12 if any record is an offcut or discarded by a step, or any closed ring isn't at its start"

-- it names a record that it was cut from
abbrev pub is_offcut : Store → ℕ → Bool
is_offcut s i = not (eqb (s (rc CUT) i) NONE)

-- "at its start, the validity test, with its first point as present place"
abbrev pub is_at_start : Store → ℕ → Bool
is_at_start s i = eqb (s (rc MARK) i) 0 && eqb (s (rc PRESENT) i) (s (rc FIRST) i)

-- the reason that it keeps is one of a step's, 3 to 5. (A record without a ring keeps one of 1 to 5, else its work space has met 7)
abbrev pub is_discarded : Store → ℕ → Bool
is_discarded s i = ltb JOINED (s (rc REASON) i)

-- an offcut; or without a ring, and "discarded by a step"; or a closed ring that isn't at its start. Of an open ring nothing else is asked
unfoldable pub is_stepped : Store → ℕ → Bool
is_stepped s i = cond (is_offcut s i) true (cond (ringless s i) (is_discarded s i) (cond (is_open s i) false (not (is_at_start s i))))

unfoldable pub any_stepped : Store → Bool
any_stepped s = any_below (recs s) (is_stepped s)

-- ---- "then 10 for a crowd": "Point and record limits now bind the pair"

abbrev pub crowd : Store → Store → Bool
crowd s t = ltb limit.POINTS (pts s + pts t) || ltb limit.RECORDS (recs s + recs t)

-- ---- the call: what it answers, and the words left in the first's work space

-- where no record was stepped: is there room?
unfoldable pub lay_room : List ℕ → List ℕ → Left
lay_room w v = cond (crowd (view w) (view v)) (left (Err Full) w) (left (Ok tt) (pooled_words w v))

-- on work spaces that passed their tests
unfoldable pub lay_tested : List ℕ → List ℕ → Left
lay_tested w v = cond (settings_differ (view w) (view v)) (left (Err SettingsDiffer) w) (cond (any_stepped (view w) || any_stepped (view v)) (left (Err OutOfTurn) w) (lay_room w v))

-- "their own tests, the first's first": by what the second's say, and the first's
abbrev pub lay_second : Result (Unit {0}) Refusal → List ℕ → List ℕ → Left
lay_second (Err r) w v = left (Err r) w
lay_second (Ok _) w v = lay_tested w v

abbrev pub lay_by : Result (Unit {0}) Refusal → List ℕ → List ℕ → Left
lay_by (Err r) w v = left (Err r) w
lay_by (Ok _) w v = lay_second (tested_of v) w v

-- `lay_together`: "tested once both work spaces have passed their lengths, then their own tests"
unfoldable pub lay_of : List ℕ → List ℕ → Left
lay_of w v = cond (ltb (length w) LENGTH) (left (Err Full) w) (cond (ltb (length v) LENGTH) (left (Err Full) w) (lay_by (tested_of w) w v))
