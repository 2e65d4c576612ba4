-- One ring walked both ways: document 02, Ask 10, "each is the points of the other at its place in exactly opposite order .. This is said of x and y; z agrees too unless neighbours equal in x and y were dropped,
-- where the first one walked keeps its z".
use Rattle.std.specs.Prelude.{ℕ, zero, suc, ◌≡◌, ◌≢◌, Bool, List, [], ◌∷◌, ◌++◌, map, reverse}
use Rattle.std.proofs.Math.Option.{Option, none, some}
use Rattle.std.proofs.Math.ListN.{get_elem?}
use Rattle.rings.specs.Circle.{last_of, omap}
use Rattle.geometry.specs.declared.Point.{Point}
use Rattle.geometry.specs.Plane.{ground}
use Rattle.lone.specs.Path.{in_order}
use Rattle.store.specs.Words.{Store}
use Rattle.store.specs.Value.{reverse_solution}
use Rattle.paths.specs.Path.{points_at, path_if, listed}
use Rattle.opposite.specs.Opposite.{on_ground}

-- each is "equal in x and y" to p
abbrev pub AllAt : Point → List Point → Type 0
AllAt p [] = Unit {0}
AllAt p (q ∷ qs) = (ground q ≡ ground p) × AllAt p qs

-- a stretch of neighbours at one place, in the order in which a path walks them
pub record Cluster : Type 0 where
  pub first : Point
  pub more : List Point
  pub one_place : AllAt first more

abbrev pub first_in : Cluster → Point
first_in r = r.first

abbrev pub last_in : Cluster → Point
last_in r = last_of r.first r.more

-- all their points, one stretch after the other
abbrev pub clustered : List Cluster → List Point
clustered [] = []
clustered (r ∷ rs) = r.first ∷ (r.more ++ clustered rs)

-- no stretch goes on in the next one. The first and the last may be at one place: "not a last point equal to the first"
abbrev pub Maximal : List Cluster → Type 0
Maximal [] = Unit {0}
Maximal (r ∷ []) = Unit {0}
Maximal (r ∷ q ∷ rs) = (ground q.first ≢ ground r.first) × Maximal (q ∷ rs)

-- c is walked forth by one path, this, and back by the other, that
pub record Turned (c this that : List Point) : Type 0 where
  -- c falls into stretches of neighbours at one place
  pub clusters : List Cluster
  pub walked : clustered clusters ≡ c
  pub maximal : Maximal clusters
  -- "the first one walked keeps its z": of each stretch this path has the first, and that path, which comes from the other end, the last
  pub this_is : this ≡ map first_in clusters
  pub that_is : that ≡ reverse (map last_in clusters)
  -- "exactly opposite order .. said of x and y"
  pub places : on_ground that ≡ reverse (on_ground this)
  -- "z agrees too unless neighbours equal in x and y were dropped": whole points agree at every stretch of one
  pub depths : (k : ℕ) (r : Cluster) → get_elem? clusters k ≡ some r → r.more ≡ [] → get_elem? (reverse that) k ≡ get_elem? this k

-- ---- the same of single points

-- the nearest of these is at another place, or there are none
abbrev pub NearestElsewhere : Point → List Point → Type 0
NearestElsewhere p [] = Unit {0}
NearestElsewhere p (q ∷ qs) = ground q ≢ ground p

-- p is a point of a path that walks c, and q stands at its place, counted from the other end, in the path that walks c back. Where the points behind p at its place were dropped p was the first one walked, and q,
-- which is the last of them, the first one walked back; where none was dropped they are one point
pub record SinglePoint (c : List Point) (p q : Point) : Type 0 where
  -- those before p, the nearest first
  pub before : List Point
  pub dropped : List Point
  pub after : List Point
  pub walked : reverse before ++ (p ∷ (dropped ++ after)) ≡ c
  pub at_place : AllAt p dropped
  pub starts : NearestElsewhere p before
  pub ends : NearestElsewhere p after
  pub other : q ≡ last_of p dropped
  pub agrees : dropped ≡ [] → q ≡ p

-- ---- paths, and lists of them

-- a ring has both paths or neither
pub data TurnedOr (c : List Point) : Option (List Point) → Option (List Point) → Type 0 where
  neither : TurnedOr c none none
  both : {this that : List Point} → Turned c this that → TurnedOr c (some this) (some that)

-- each at its place
abbrev pub AllTurned : List (List Point) → List (List Point) → List (List Point) → Type 0
AllTurned [] [] [] = Unit {0}
AllTurned (c ∷ cs) (p ∷ ps) (q ∷ qs) = Turned c p q × AllTurned cs ps qs
AllTurned [] [] (q ∷ qs) = ⊥
AllTurned [] (p ∷ ps) qs = ⊥
AllTurned (c ∷ cs) [] qs = ⊥
AllTurned (c ∷ cs) (p ∷ ps) [] = ⊥

-- ---- of a store

-- the points of record i's ring in the order in which its path walks them: "Forward starts after the first point, reversed at it"
abbrev pub walk_at : Store → ℕ → List Point
walk_at s i = in_order (reverse_solution s) (points_at s i)

-- the same of the open (or of the closed) ones among the first n records that have a path, records ascending, as their paths are
abbrev pub walk_if : Store → Bool → ℕ → Option (List Point)
walk_if s o i = omap (λ (path : List Point). walk_at s i) (path_if s o i)

abbrev pub walks_below : ℕ → Bool → Store → List (List Point)
walks_below zero o s = []
walks_below (suc n) o s = walks_below n o s ++ listed (walk_if s o n)
