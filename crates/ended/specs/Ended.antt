-- "The reason told is the rule that in fact ended the ring": what each of the eight reasons says happened, by the job, the joins, the lone rings and the paths, not by the words that keep a reason.
use Rattle.std.specs.Prelude.{◌≡◌, true, false, List, ◌∷◌, ◌++◌, ℕ, ◌≤◌, ◌<◌, length}
use Rattle.std.proofs.Math.Option.{none, some}
use Rattle.rings.specs.Progress.{Discard, at_start}
use Rattle.geometry.specs.declared.Point.{Point}
use Rattle.lone.specs.Forest.{left_closed}
use Rattle.lone.specs.Order.{IsOffcut}
use Rattle.store.specs.Field.{NONE}
use Rattle.store.specs.Words.{Store, view}
use Rattle.store.specs.Named.{records_of, first_of}
use Rattle.store.specs.Sound.{recs, ringless, is_open}
use Rattle.store.specs.Value.{reverse_solution}
use Rattle.steps.specs.Live.{any_live}
use Rattle.paths.specs.Path.{path_at, small_by, paths_below}
use Rattle.telling.specs.declared.Reason.{Reason}
use Rattle.telling.specs.declared.Reason.TheVariants.{NoRing, Joined, SmallRing, RingFell, SmallArea, ShortPath, SmallPath, Written}
use Rattle.std.specs.Prelude.{Ok}
use Rattle.telling.specs.Telling.{discard_reason, reason_at, reason_of}
use Rattle.finishing.specs.Run.{run_of, granted}
use Rattle.order.specs.Demand3.{M, G, fed, lones}
use Rattle.ended.specs.Stages.{Stages}
use Rattle.ended.specs.Joined.{EmptiedAt}
use Rattle.ended.specs.Discarded.{DiscardedBy}

-- the reasons that an open record can have: no ring in the job, too short, written
abbrev pub OfOpen : Reason → Type 0
OfOpen NoRing = Unit {0}
OfOpen (Joined u) = ⊥
OfOpen SmallRing = ⊥
OfOpen RingFell = ⊥
OfOpen SmallArea = ⊥
OfOpen ShortPath = Unit {0}
OfOpen SmallPath = ⊥
OfOpen (Written o place) = o ≡ true

-- the points that record j's lone ring was fed with, w being the work space as opening left it, before the list of steps `is`: those of the ring that opening left; of an offcut, those that it was cut off with,
-- by the ring that it was cut from and its rank among that ring's offcuts
pub data FedWith (w is : List ℕ) (j : ℕ) (c : List Point) : Type 0 where
  as_left : j < recs (view w) → fed w j ≡ left_closed (at_start c) → FedWith w is j c
  as_cut : recs (view w) ≤ j → (f : IsOffcut (M w) (lones w is) (granted w is) j) → f.seed ≡ at_start c → FedWith w is j c

-- of an accepted job, stage by stage up to w, after the list of steps `is`: record j
module _ (bytes lent w : List ℕ) (t : Stages bytes lent w) (is : List ℕ) (j : ℕ) where
  abbrev s : Store
  s = view (run_of w is)

  -- the paths of its list, closed or open
  abbrev paths : List (List Point)
  paths = paths_below (recs s) (is_open s j) s

  abbrev before : List (List Point)
  before = paths_below j (is_open s j) s

  pub data Ended : Reason → Type 0 where
    -- "no ring in the job": the job's record has no first point
    no_ring : j < records_of t.read → first_of t.read j ≡ NONE → Ended NoRing
    -- "joined into another record, with the number of the one that took it in that join": join number m
    joined : (m u : ℕ) → m < t.many → EmptiedAt t.joins t.levelled m u j → Ended (Joined u)
    -- the three rules of steps: its lone ring, fed with these points and stepped as often as record j was granted a step, was discarded by one of them
    discarded : (c : List Point) (y : Discard) → FedWith w is j c → DiscardedBy (G w) c (granted w is j) y → Ended (discard_reason (some y))
    -- "too short when the path was built (by any test but the small one); too small when the path was built"
    short : ringless s j ≡ false → path_at s j ≡ none → small_by s (reverse_solution s) (is_open s j) j ≡ false → Ended ShortPath
    small : ringless s j ≡ false → path_at s j ≡ none → small_by s (reverse_solution s) (is_open s j) j ≡ true → Ended SmallPath
    -- "written, with its place from 0": its path, in its list, after those of the records before it
    written : (p : List Point) (after : List (List Point)) → path_at s j ≡ some p → paths ≡ before ++ p ∷ after → Ended (Written (is_open s j) (length before))

  -- asked, the call tells what happened; and nothing else happened
  pub record ToldRight : Type 0 where
    pub call : reason_of (run_of w is) j ≡ Ok (reason_at s j)
    pub told : Ended (reason_at s j)
    pub only : (r : Reason) → Ended r → r ≡ reason_at s j
    pub opened : is_open s j ≡ true → OfOpen (reason_at s j)

  -- of a record of a finished work space
  abbrev pub Tells : Type 0
  Tells = j < recs s → any_live s ≡ false → ToldRight
