-- What holds after an accepted opening.
use Rattle.std.specs.Prelude.{ℕ, ◌≤◌, ◌<◌, ◌≡◌, true, false, List, ◌++◌, length, drop, replicate, Ok}
use Rattle.store.specs.Field.{pt, rc, X, Y, Z, FLAGS, START, BLOCK, STATES, KEPT}
use Rattle.store.specs.Words.{Store, view}
use Rattle.store.specs.Named.{progress_of, present_of, first_of, records_of}
use Rattle.store.specs.Sound.{pts, recs, ring_at, is_open}
use Rattle.store.specs.Good.{Sound}
use Rattle.store.specs.Boxes.{sides_at, sides_of, ring_box}
use Rattle.store.specs.States.{is_name, name_at}
use Rattle.handed.specs.Handed.{handed_of}
use Rattle.joins.specs.Resolved.{Ready}
use Rattle.acts.specs.Opened.{Fresh}

-- of the live block that it leaves
pub record AfterOpening (w : List ℕ) : Type 0 where
  -- counts and coordinates within the limits, every point on one ring, each ring's points resolving to its own record
  pub ready : Ready w
  -- rings linked both ways, no two records sharing one
  pub sound : Sound (view w)
  -- each ring's box stands beside it, open rings' too; zeros beside a record without a ring
  pub boxes : (i : ℕ) → i < records_of w → sides_at w i ≡ sides_of (ring_box (view w) i)
  -- "at its start, the validity test", cut from none
  pub fresh : (i : ℕ) → i < records_of w → Fresh (view w) i
  -- and of every record, with a ring or without: its mark, and "with its first point as present place", and as its start
  pub marks : (i : ℕ) → i < records_of w → progress_of w i ≡ 0
  pub present : (i : ℕ) → i < records_of w → present_of w i ≡ first_of w i
  pub starts : (i : ℕ) → i < records_of w → view w (rc START) i ≡ first_of w i

-- of every word, lent being the work space as it was lent
pub record OpenedOver (lent w : List ℕ) : Type 0 where
  pub live : AfterOpening w
  pub long : length w ≡ length lent
  -- behind the live block every place is free, and the copies are as found
  pub rest : drop BLOCK w ≡ replicate STATES 0 ++ drop KEPT lent
  -- "A newly opened job has no name kept, whatever the work space held before"
  pub no_name : (p : ℕ) → p < STATES → is_name (name_at w p) ≡ false
  -- "a work space that came from opening .. passes all these tests", the names' too
  pub tests : handed_of w ≡ Ok tt

-- of the job's open rings, s being the store as the job was read and u as it is left: they are as given, point for point, and no record made since is open
pub record OpenAsGiven (s u : Store) : Type 0 where
  pub records : recs s ≤ recs u
  pub points : pts s ≤ pts u
  pub flags : (i : ℕ) → i < recs s → u (rc FLAGS) i ≡ s (rc FLAGS) i
  pub new : (i : ℕ) → recs s ≤ i → i < recs u → is_open u i ≡ false
  pub rings : (i : ℕ) → i < recs s → is_open s i ≡ true → ring_at u i ≡ ring_at s i
  pub xs : (k : ℕ) → k < pts s → u (pt X) k ≡ s (pt X) k
  pub ys : (k : ℕ) → k < pts s → u (pt Y) k ≡ s (pt Y) k
  pub zs : (k : ℕ) → k < pts s → u (pt Z) k ≡ s (pt Z) k
