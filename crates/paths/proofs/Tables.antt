-- The points of every path are within the limit.
use Prim.Native.Nat.{ℕ, zero, suc, ◌≤◌, ◌<◌}
use mathlib.Core.Bool.{Bool, true, false, cond, not, ◌&&◌, beq}
use mathlib.Core.List.{List, [], ◌∷◌, ◌++◌, map, reverse_aux}
use mathlib.Core.Option.{Option, none, some}
use native.Mathlib.Omega.{arith}
use lib.Dec.{eqb, leb}
use lib.ListN.{length}
use Rattle.rings.specs.Circle.{turn}
use Rattle.rings.specs.Count.{occ}
use Rattle.rings.proofs.Counting.{one_here, pigeon}
use Rattle.geometry.specs.declared.Point.{Point}
use Rattle.geometry.specs.Table.{AllInTable}
use Rattle.lone.specs.Lone.{Geo}
use Rattle.lone.specs.Plane.{plane}
use Rattle.lone.specs.Path.{in_order, drop_equals, without_equals, is_small_ring, build_path64_from_outpt}
use Rattle.store.specs.Words.{Store}
use Rattle.store.specs.Sound.{pts, recs, ring_at, is_open}
use Rattle.store.specs.Good.{PointIn, Sound}
use Rattle.store.specs.Value.{preserve_collinear, reverse_solution}
use Rattle.primitives.proofs.Coordinates.{in_table}
use Rattle.store.proofs.Soundness.{whole}
use Rattle.paths.specs.Path.{point_at, points_at, path_by, path_at, path_if, listed, paths_below, size_of}
use Rattle.paths.proofs.Counts.{size_le}

all_append : (a b : List Point) → AllInTable a → AllInTable b → AllInTable (a ++ b)
all_append [] b h k = k
all_append (p ∷ a) b h k = (h.0, all_append a b h.1 k)

all_reverse : (a b : List Point) → AllInTable a → AllInTable b → AllInTable (reverse_aux a b)
all_reverse [] b h k = k
all_reverse (p ∷ a) b h k = all_reverse a (p ∷ b) h.1 (h.0, k)

all_in_order : (rev : Bool) (c : List Point) → AllInTable c → AllInTable (in_order rev c)
all_in_order false [] h = tt
all_in_order false (p ∷ c) h = all_append c (p ∷ []) h.1 (h.0, tt)
all_in_order true [] h = tt
all_in_order true (p ∷ c) h = (h.0, all_reverse c [] h.1 tt)

module _ (G : Geo Point) where
  all_drop : (l : Point) (c : List Point) → AllInTable c → AllInTable (drop_equals G l c)
  all_drop l [] h = tt
  all_drop l (q ∷ c) h = go (G.same_point q l) (all_drop l c h.1) (all_drop q c h.1)
    where
      go : (t : Bool) → AllInTable (drop_equals G l c) → AllInTable (drop_equals G q c) → AllInTable (cond t (drop_equals G l c) (q ∷ drop_equals G q c))
      go true a b = a
      go false a b = (h.0, b)

  all_path : (c : List Point) → AllInTable c → AllInTable (without_equals G c)
  all_path [] h = tt
  all_path (q ∷ c) h = (h.0, all_drop q c h.1)

-- what holds of a path that is there, and of every path of a list
abbrev pub Has : (List Point → Type 0) → Option (List Point) → Type 0
Has Q none = Unit {0}
Has Q (some p) = Q p

abbrev pub Each : (List Point → Type 0) → List (List Point) → Type 0
Each Q [] = Unit {0}
Each Q (p ∷ ps) = Q p × Each Q ps

each_append : (Q : List Point → Type 0) (a b : List (List Point)) → Each Q a → Each Q b → Each Q (a ++ b)
each_append Q [] b h k = k
each_append Q (p ∷ a) b h k = (h.0, each_append Q a b h.1 k)

build_in : (G : Geo Point) (rev o : Bool) (c : List Point) → AllInTable c → Has AllInTable (build_path64_from_outpt G rev o c)
unfolding build_path64_from_outpt
build_in G rev o c h =
    go
    (leb (length c) (cond o 1 2))
    (not o && eqb (length (without_equals G (in_order rev c))) 3 && is_small_ring G (cond rev c (turn c)))
    (leb 2 (length (without_equals G (in_order rev c))))
  where
    go : (a b t : Bool) → Has AllInTable (cond a none (cond b none (cond t (some (without_equals G (in_order rev c))) none)))
    go true b t = tt
    go false true t = tt
    go false false false = tt
    go false false true = all_path G (in_order rev c) (all_in_order rev c h)

points_in_lem : (s : Store) (l : List ℕ) → ((k : ℕ) → 0 < occ k l → PointIn s k) → AllInTable (map (point_at s) l)
unfolding point_at
points_in_lem s [] h = tt
points_in_lem s (k ∷ l) h = let i = h k (omega (arith, one_here k)) in (in_table s k i.x_in i.y_in, points_in_lem s l (λ j o. h j (omega arith)))

path_in : (s : Store) → Sound s → (o : Bool) (i : ℕ) → i < recs s → Has AllInTable (path_if s o i)
unfolding path_if path_at
path_in s d o i h = go (beq (is_open s i) o)
  where
    go : (t : Bool) → Has AllInTable (cond t (path_by s (reverse_solution s) (is_open s i) i) none)
    go true = build_in (plane (preserve_collinear s)) (reverse_solution s) (is_open s i) (points_at s i) (points_in_lem s (ring_at s i) (d.good i h).points_in_lem)
    go false = tt

-- a path that was written: its points are within the limit, and not more than a store can have
pub record Fit (p : List Point) : Type 0 where
  pub small : AllInTable p
  pub short : length p ≤ 2048

ring_short : (s : Store) → Sound s → (i : ℕ) → i < recs s → length (ring_at s i) ≤ 2048
ring_short s d i h =
    let w = whole s d i h in
    omega (arith, pigeon (pts s) (ring_at s i) w.once w.below, d.few_points)

path_fit : (s : Store) → Sound s → (o : Bool) (i : ℕ) → i < recs s → Has Fit (path_if s o i)
path_fit s d o i h = go (path_if s o i) (path_in s d o i h) (size_le s o i)
  where
    go : (x : Option (List Point)) → Has AllInTable x → size_of x ≤ length (ring_at s i) → Has Fit x
    go none k l = tt
    go (some p) k l = record { small = k; short = omega (arith, ring_short s d i h) }

pub paths_fit : (s : Store) → Sound s → (o : Bool) (n : ℕ) → n ≤ recs s → Each Fit (paths_below n o s)
paths_fit s d o zero h = tt
paths_fit s d o (suc n) h = each_append Fit (paths_below n o s) (listed (path_if s o n)) (paths_fit s d o n (omega arith)) (go (path_if s o n) (path_fit s d o n h))
  where
    go : (x : Option (List Point)) → Has Fit x → Each Fit (listed x)
    go none k = tt
    go (some p) k = (k, tt)
