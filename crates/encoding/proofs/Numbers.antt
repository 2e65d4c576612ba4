-- A sheet's numbers, and that words and lists have them.
use Prim.Native.Nat.{ℕ, ◌+◌, ◌*◌, ◌≤◌, ◌<◌}
use mathlib.Core.Path.{◌≡◌, ◌∙◌}
use mathlib.Core.List.{List}
use lib.ListN.{get_or}
use Rattle.job.specs.Limits as limit
use Rattle.store.specs.Field.{PointCol, RecordCol, pt, rc, X, Y, Z, NEXT, PREV, REC, FLAGS, OWNER, FIRST}
use Rattle.store.specs.Words.{Store, view}
use Rattle.encoding.specs.Sheet.{Sheet}

-- every count is within its limit, and every number fits its bytes
pub record SheetFits (t : Sheet) : Type 0 where
  pub bits : t.bits ≤ 3
  pub points : t.points ≤ limit.POINTS
  pub records : t.records ≤ limit.RECORDS
  pub segments : t.segments ≤ limit.SEGMENTS
  pub joins : t.joins ≤ limit.JOINS
  pub x : (k : ℕ) → k < t.points → t.x k ≤ 2 * limit.COORDINATE
  pub y : (k : ℕ) → k < t.points → t.y k ≤ 2 * limit.COORDINATE
  pub next : (k : ℕ) → k < t.points → t.next k < 65536
  pub prev : (k : ℕ) → k < t.points → t.prev k < 65536
  pub rec : (k : ℕ) → k < t.points → t.rec k < 65536
  pub z : (k : ℕ) → k < t.points → t.z k < 4294967296
  pub flags : (i : ℕ) → i < t.records → t.flags i ≤ 3
  pub owner : (i : ℕ) → i < t.records → t.owner i < 65536
  pub first : (i : ℕ) → i < t.records → t.first i < 65536
  pub segment : (i : ℕ) → i < t.segments → t.segment i < 65536
  pub one : (i : ℕ) → i < t.joins → t.one i < 65536
  pub two : (i : ℕ) → i < t.joins → t.two i < 65536

-- ---- as far as they are counted

-- the first n points of a store, and its first n records
pub record PointsAs (t : Sheet) (n : ℕ) (s : Store) : Type 0 where
  pub x : (k : ℕ) → k < n → s (pt X) k ≡ t.x k
  pub y : (k : ℕ) → k < n → s (pt Y) k ≡ t.y k
  pub next : (k : ℕ) → k < n → s (pt NEXT) k ≡ t.next k
  pub prev : (k : ℕ) → k < n → s (pt PREV) k ≡ t.prev k
  pub rec : (k : ℕ) → k < n → s (pt REC) k ≡ t.rec k
  pub z : (k : ℕ) → k < n → s (pt Z) k ≡ t.z k

pub record RecordsAs (t : Sheet) (n : ℕ) (s : Store) : Type 0 where
  pub flags : (i : ℕ) → i < n → s (rc FLAGS) i ≡ t.flags i
  pub owner : (i : ℕ) → i < n → s (rc OWNER) i ≡ t.owner i
  pub first : (i : ℕ) → i < n → s (rc FIRST) i ≡ t.first i

-- the first n numbers of a list of segments, and of a list of joins
abbrev pub SegmentsAs : Sheet → ℕ → List ℕ → Type 0
SegmentsAs t n ss = (i : ℕ) → i < n → get_or ss i 0 ≡ t.segment i

pub record JoinsAs (t : Sheet) (n : ℕ) (js : List ℕ) : Type 0 where
  pub one : (i : ℕ) → i < n → get_or js (2 * i) 0 ≡ t.one i
  pub two : (i : ℕ) → i < n → get_or js (2 * i + 1) 0 ≡ t.two i

-- all of them
pub record NumbersAs (t : Sheet) (p r s q : ℕ) (w ss js : List ℕ) : Type 0 where
  pub points : PointsAs t p (view w)
  pub records : RecordsAs t r (view w)
  pub segments : SegmentsAs t s ss
  pub joins : JoinsAs t q js

-- where no word of a point, or of a record, changed
pub points_kept : (t : Sheet) (n : ℕ) (s u : Store) → ((c : PointCol) (k : ℕ) → u (pt c) k ≡ s (pt c) k) → PointsAs t n s → PointsAs t n u
points_kept t n s u e a =
    record {
      x = λ k h. e X k ∙ a.x k h;
      y = λ k h. e Y k ∙ a.y k h;
      next = λ k h. e NEXT k ∙ a.next k h;
      prev = λ k h. e PREV k ∙ a.prev k h;
      rec = λ k h. e REC k ∙ a.rec k h;
      z = λ k h. e Z k ∙ a.z k h;
    }

pub records_kept : (t : Sheet) (n : ℕ) (s u : Store) → ((c : RecordCol) (k : ℕ) → u (rc c) k ≡ s (rc c) k) → RecordsAs t n s → RecordsAs t n u
records_kept t n s u e a = record { flags = λ i h. e FLAGS i ∙ a.flags i h; owner = λ i h. e OWNER i ∙ a.owner i h; first = λ i h. e FIRST i ∙ a.first i h }

-- under other names of the counts
pub counts_are : (t : Sheet) (w ss js : List ℕ) (p p' r r' s s' q q' : ℕ) → p ≡ p' → r ≡ r' → s ≡ s' → q ≡ q' → NumbersAs t p r s q w ss js → NumbersAs t p' r' s' q' w ss js
counts_are t w ss js p p' r r' s s' q q' e f g h a = rw (← e, ← f, ← g, ← h) a
