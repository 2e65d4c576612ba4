-- What reading leaves out: words that were there before, and what is within the limits once a job is read.
use Rattle.std.specs.Prelude.{ℕ, ◌*◌, ◌^◌, ◌≤◌, ◌<◌, ◌≡◌, List, get_or, Ok, Err}
use Rattle.job.specs.Job.{Within}
use Rattle.job.specs.declared.Job.{Job}
use Rattle.store.specs.Field.{PointCol, pt, Z}
use Rattle.store.specs.Words.{view}
use Rattle.store.specs.Named.{settings_of, points_of, records_of, flags_of, owner_of, first_of, kept_of}
use Rattle.reading.specs.Fill.{ReadEnd, end, reason_read}
use Rattle.reading.specs.Needs.{Space}
use Rattle.reading.specs.Read.{read_of}

-- two work spaces, with their lists, that hold the same job j: in the columns that are read, and as far as was counted
pub record SameJob (j : Job) (w w' ss ss' js js' : List ℕ) : Type 0 where
  pub points : (c : PointCol) (i : ℕ) → i < j.points → view w' (pt c) i ≡ view w (pt c) i
  pub flags : (i : ℕ) → i < j.records → flags_of w' i ≡ flags_of w i
  pub owners : (i : ℕ) → i < j.records → owner_of w' i ≡ owner_of w i
  pub firsts : (i : ℕ) → i < j.records → first_of w' i ≡ first_of w i
  pub reasons : (i : ℕ) → i < j.records → kept_of w' i ≡ kept_of w i
  pub segments : (i : ℕ) → i < j.segments → get_or ss' i 0 ≡ get_or ss i 0
  pub joins : (i : ℕ) → i < 2 * j.joins → get_or js' i 0 ≡ get_or js i 0

-- the same refusal, or the same job
abbrev pub SameEnd : ReadEnd → ReadEnd → Type 0
SameEnd (end (Ok j) w ss js) (end (Ok j') w' ss' js') = (j' ≡ j) × SameJob j w w' ss ss' js js'
SameEnd (end (Ok j) w ss js) (end (Err r') w' ss' js') = ⊥
SameEnd (end (Err r) w ss js) (end (Ok j') w' ss' js') = ⊥
SameEnd (end (Err r) w ss js) (end (Err r') w' ss' js') = r' ≡ r

-- what was in the words and lists before does not matter (`ignores`, proofs/Ignoring)
pub record Ignores (bytes : List ℕ) : Type 0 where
  pub same : (w w' ss ss' js js' : List ℕ) → Space w ss js → Space w' ss' js' → SameEnd (read_of bytes w ss js) (read_of bytes w' ss' js')

-- no unused bit is set (row 2): the settings and every record's flags have bits 0 and 1 only
pub record Bits (w : List ℕ) : Type 0 where
  pub settings : settings_of w ≤ 3
  pub flags : (i : ℕ) → i < records_of w → flags_of w i ≤ 3
  -- a z has 32 bits, whatever stands in the job
  pub depths : (k : ℕ) → k < points_of w → view w (pt Z) k < 2 ^ 32

-- each record keeps whether the job has a ring for it
pub record Unringed (w : List ℕ) : Type 0 where
  pub reasons : (i : ℕ) → i < records_of w → kept_of w i ≡ reason_read (first_of w i)

-- what the words say of a job that was read
pub record Counts (j : Job) (w : List ℕ) : Type 0 where
  pub within : Within j
  pub settings : settings_of w ≡ j.bits
  pub points : points_of w ≡ j.points
  pub records : records_of w ≡ j.records
