-- Document 02, Ask 14, "Mend the backward links": what the mender's answer means, a line for each sentence. Beside it read Mend (`mend_of`). Proved of every list of bytes in proofs/Theorem.
use Rattle.std.specs.Prelude.{ℕ, ◌+◌, ◌*◌, ◌^◌, ◌≤◌, ◌<◌, ◌≡◌, ◌⊎◌, ◌≢◌, ◌↔◌, Bool, true, false, List, ltb, length, take, replicate, Ok, Err, Result}
use Rattle.numbers.specs.Bytes.{le}
use Rattle.rings.specs.Links.{All}
use Rattle.job.specs.Limits as limit
use Rattle.job.specs.Field.{NEXT_AT}
use Rattle.job.specs.Refusal.{number_of}
use Rattle.job.specs.declared.refusal.Refusal.{Refusal}
use Rattle.job.specs.declared.refusal.Refusal.TheVariants.{Loose, PastMending}
use Rattle.store.specs.Field.{BLOCK}
use Rattle.job.specs.declared.Job.{Job}
use Rattle.reading.specs.Fill.{ReadEnd, end}
use Rattle.reading.specs.Needs.{Space}
use Rattle.reading.specs.Read.{read_of}
use Rattle.reading.specs.Standing.{value_at}
use Rattle.accepting.specs.Accept.{accept_of}
use Rattle.opening.specs.Open as opening
use Rattle.opening.specs.Open.{open_of}
use Rattle.prefix.specs.Decides.{LONGEST, DECIDES}
use Rattle.mending.specs.Mend.{mended, times_next, with_prevs, mend_of}

-- ---- acceptance

abbrev pub outcome_of : ReadEnd → Result Job Refusal
outcome_of (end o w ss js) = o

-- rows 1 to 8 of a job, in any work space and lists that are long enough: the first that holds, or the job as read
abbrev pub acceptance : List ℕ → List ℕ → List ℕ → List ℕ → Result Job Refusal
acceptance bytes w ss js = outcome_of (accept_of bytes w ss js)

-- it meets none of rows 1 to n
abbrev pub passes_rows : ℕ → Result Job Refusal → Bool
passes_rows n (Ok j) = true
passes_rows n (Err r) = ltb n (number_of r)

-- ---- the job's points, and the next of each, as its bytes say them

-- as many as reading counts; none in a job that rows 1 to 3 refuse
abbrev pub count_read : ReadEnd → ℕ
count_read (end (Ok j) w ss js) = j.points
count_read (end (Err r) w ss js) = 0

unfoldable pub job_points : List ℕ → ℕ
job_points bytes = count_read (read_of bytes (replicate BLOCK 0) (replicate limit.SEGMENTS 0) (replicate (2 * limit.JOINS) 0))

abbrev pub next_in : List ℕ → ℕ → ℕ
next_in bytes k = le 2 (value_at k + NEXT_AT) bytes

-- "every point is the next of exactly one point"; "some point is the next of none or of more than one"
abbrev pub EachOnce : List ℕ → Type 0
EachOnce bytes = (k : ℕ) → k < job_points bytes → times_next (next_in bytes) (job_points bytes) k ≡ 1

pub record SomeNotOnce (bytes : List ℕ) : Type 0 where
  pub point : ℕ
  pub low : point < job_points bytes
  pub none_or_more : times_next (next_in bytes) (job_points bytes) point ≢ 1

-- ---- backward links, one for each of so many points

-- such that two bytes hold them; and such that each names one of the points, so that row 5 has nothing to say of them
abbrev pub Writable : ℕ → (ℕ → ℕ) → Type 0
Writable points g = (k : ℕ) → k < points → g k < 256 ^ 2

abbrev pub Choice : ℕ → (ℕ → ℕ) → Type 0
Choice points g = (k : ℕ) → k < points → g k < points

-- a job of so many points, and its bytes after mending
pub record MendedWell (points : ℕ) (bytes out : List ℕ) : Type 0 where
  pub prevs : ℕ → ℕ
  -- "it sets each prev .. All other bytes are kept"
  pub is : out ≡ with_prevs prevs points bytes
  -- ".. to that point": the one whose next it is, as the job's bytes say it
  pub named : Choice points prevs
  pub leads : (k : ℕ) → k < points → next_in bytes (prevs k) ≡ k
  -- "Its result never meets 6", nor 1 to 5
  pub never_6 : (w ss js : List ℕ) → Space w ss js → passes_rows 6 (acceptance out w ss js) ≡ true
  -- "no other choice of backward links would avoid 6": any links to points meet 6, or are the mender's
  pub no_other : (g : ℕ → ℕ) → Choice points g → (w ss js : List ℕ) → Space w ss js → (acceptance (with_prevs g points bytes) w ss js ≡ Err Loose) ⊎ (with_prevs g points bytes ≡ out)
  -- and any links at all that pass 1 to 6 are the mender's
  pub only : (g : ℕ → ℕ) → Writable points g → (w ss js : List ℕ) → Space w ss js → passes_rows 6 (acceptance (with_prevs g points bytes) w ss js) ≡ true → with_prevs g points bytes ≡ out

-- row 17 is right: no choice of backward links would avoid 6, and none at all passes 1 to 6
pub record NoneWould (points : ℕ) (bytes : List ℕ) : Type 0 where
  pub none : (g : ℕ → ℕ) → Choice points g → (w ss js : List ℕ) → Space w ss js → acceptance (with_prevs g points bytes) w ss js ≡ Err Loose
  pub never : (g : ℕ → ℕ) → Writable points g → (w ss js : List ℕ) → Space w ss js → passes_rows 6 (acceptance (with_prevs g points bytes) w ss js) ≡ false

-- ---- the statement

pub record Mends (bytes : List ℕ) : Type 0 where
  -- "The mender works on a job that passes everything up to 5": refused with one of these rows exactly where acceptance refuses the job with it
  pub one_to_five : (r : Refusal) → number_of r ≤ 5 → (w ss js : List ℕ) → Space w ss js → ((mend_of bytes).answer ≡ Err r) ↔ (acceptance bytes w ss js ≡ Err r)
  -- "If every point is the next of exactly one point"
  pub mended_where : (w ss js : List ℕ) → Space w ss js → ((mend_of bytes).answer ≡ Ok tt) ↔ ((passes_rows 5 (acceptance bytes w ss js) ≡ true) × EachOnce bytes)
  -- "17 "past mending": some point is the next of none or of more than one, tested after 5"
  pub seventeen : (w ss js : List ℕ) → Space w ss js → ((mend_of bytes).answer ≡ Err PastMending) ↔ ((passes_rows 5 (acceptance bytes w ss js) ≡ true) × SomeNotOnce bytes)
  -- "On any refusal of the mender nothing is altered"
  pub refused : (r : Refusal) → (mend_of bytes).answer ≡ Err r → (mend_of bytes).bytes ≡ bytes
  pub done : (mend_of bytes).answer ≡ Ok tt → MendedWell (job_points bytes) bytes (mend_of bytes).bytes
  -- on the entry point: opening what was mended, in a work space of any length, is never refused with 6
  pub opens : (mend_of bytes).answer ≡ (Ok tt) → (lent words : List ℕ) → open_of (mend_of bytes).bytes lent ≢ opening.end (Err Loose) words
  pub past_means : (mend_of bytes).answer ≡ Err PastMending → NoneWould (job_points bytes) bytes
  -- "a job with mutual links comes back unaltered": one that passes rows 1 to 6
  pub unaltered : All (λ (r : ℕ). r < 256) bytes → (w ss js : List ℕ) → Space w ss js → passes_rows 6 (acceptance bytes w ss js) ≡ true → mend_of bytes ≡ mended (Ok tt) bytes
  -- so mending what was mended changes nothing
  pub again : All (λ (r : ℕ). r < 256) bytes → (mend_of bytes).answer ≡ Ok tt → mend_of (mend_of bytes).bytes ≡ mend_of bytes
  -- the program reads so many bytes: they decide the answer, and a job that is mended has no more
  pub decided : (mend_of (take DECIDES bytes)).answer ≡ (mend_of bytes).answer
  pub longest : (mend_of bytes).answer ≡ Ok tt → length bytes ≤ LONGEST
