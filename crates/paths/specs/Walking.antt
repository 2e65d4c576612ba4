-- A walk round a ring in either direction: the links that it follows, what a function that walks requires, and how far a walk is.
use Rattle.std.specs.Prelude.{ℕ, zero, suc, ◌+◌, ◌*◌, ◌≤◌, ◌<◌, ◌≡◌, ◌≢◌, Bool, true, false, cond, not, List, [], ◌∷◌, ◌++◌, map, eqb, length}
use Rattle.numbers.specs.Written.{put_le}
use Rattle.numbers.specs.Raised.{lowered}
use Rattle.job.specs.Limits.{POINTS, COORDINATE}
use Rattle.rings.specs.Count.{occ}
use Rattle.rings.specs.Links.{All}
use Rattle.rings.specs.Walk.{walk}
use Rattle.rings.specs.Whole.{Whole}
use Rattle.store.specs.Field.{pt, X, Y, Z, NEXT, PREV, BLOCK}
use Rattle.store.specs.Words.{Store, view}
use Rattle.store.specs.Sound.{pts, recs}
use Rattle.store.specs.Good.{PointIn, SoundWords}
use Rattle.store.specs.Value.{preserve_collinear, reverse_solution}
use Rattle.geometry.specs.declared.Point.{Point}
use Rattle.geometry.specs.Plane.{same_point}
use Rattle.lone.specs.Path.{drop_equals, without_equals}
use Rattle.lone.specs.Plane.{plane}
use Rattle.paths.specs.Path.{point_at}
use Rattle.paths.specs.Tray.{POINT, path_bytes, over}

-- prev in a reversed path, next in a forward one
abbrev pub link_of : Store → Bool → ℕ → ℕ
link_of s true k = s (pt PREV) k
link_of s false k = s (pt NEXT) k

-- "Forward starts after the first point, reversed at it"
abbrev pub start_from : Store → Bool → ℕ → ℕ
start_from s true f = f
start_from s false f = s (pt NEXT) f

-- the ring that a path goes round, from point a
abbrev pub round_from : Store → Bool → ℕ → List ℕ
round_from s rev a = walk (link_of s rev) a

-- a point that may be read
pub record Readable (w : List ℕ) (k : ℕ) : Type 0 where
  pub long : BLOCK ≤ length w
  pub low : k < POINTS
  pub here : PointIn (view w) k

-- a ring that may be walked round
pub record Round (w : List ℕ) (rev : Bool) (a : ℕ) : Type 0 where
  pub long : BLOCK ≤ length w
  pub few : pts (view w) ≤ POINTS
  pub whole : Whole (link_of (view w) rev) (link_of (view w) (not rev)) (pts (view w)) (round_from (view w) rev a)
  pub points_in_lem : (k : ℕ) → 0 < occ k (round_from (view w) rev a) → PointIn (view w) k

-- the points from q along n up to stop are these; stop is none of them
abbrev pub Ahead : (ℕ → ℕ) → ℕ → ℕ → List ℕ → Type 0
Ahead n stop q [] = q ≡ stop
Ahead n stop q (x ∷ l) = (q ≡ x) × (x ≢ stop) × Ahead n stop (n x) l

-- how many they are, at most f: a walk's measure
unfoldable pub to_go : (ℕ → ℕ) → ℕ → ℕ → ℕ → ℕ
to_go n stop zero q = 0
to_go n stop (suc f) q = cond (eqb q stop) 0 (suc (to_go n stop f (n q)))

-- a walk that stands at q, and what holds of the points yet to visit
pub record Going (w : List ℕ) (rev : Bool) (stop q : ℕ) (Q : List ℕ → Type 0) : Type 0 where
  pub todo : List ℕ
  pub ahead : Ahead (link_of (view w) rev) stop q todo
  pub points_in_lem : All (PointIn (view w)) todo
  pub short : length todo < POINTS
  pub says : Q todo

-- a ring of three or more points, from a
pub record ThreeOrMore (w : List ℕ) (a : ℕ) : Type 0 where
  pub round : Round w false a
  pub three : 2 < length (round_from (view w) false a)

-- a path of n points on the ring from a
pub record Sized (w : List ℕ) (a n : ℕ) : Type 0 where
  pub round : Round w false a
  pub fits : n ≤ length (round_from (view w) false a)

-- record i of a sound work space
pub record Known (w : List ℕ) (i : ℕ) : Type 0 where
  pub ready : SoundWords w
  pub known : i < recs (view w)

-- a work space and its settings' direction
pub record Directed (w : List ℕ) (rev : Bool) : Type 0 where
  pub ready : SoundWords w
  pub direction : rev ≡ reverse_solution (view w)

-- record i, with the settings' direction
pub record Asked (w : List ℕ) (rev : Bool) (i : ℕ) : Type 0 where
  pub of : Known w i
  pub direction : rev ≡ reverse_solution (view w)

-- ---- the path that goes round from a

-- what is left of it after point b, of the points l yet to visit
abbrev pub after_point : Store → ℕ → List ℕ → List Point
after_point s b l = drop_equals (plane (preserve_collinear s)) (point_at s b) (map (point_at s) l)

unfoldable pub path_round : Store → Bool → ℕ → List Point
path_round s rev a = without_equals (plane (preserve_collinear s)) (map (point_at s) (round_from s rev a))

-- how many points q adds to a path after b
abbrev pub more : Store → ℕ → ℕ → ℕ
more s b q = cond (same_point (point_at s q) (point_at s b)) 0 1

-- n points are counted, b the last one visited
pub record Counting (w : List ℕ) (b n total : ℕ) (l : List ℕ) : Type 0 where
  pub before : PointIn (view w) b
  pub sum : n + length (after_point (view w) b l) ≡ total
  pub small : n + length l ≤ POINTS

-- ---- its bytes, laid over the beginning of a tray

-- the bytes of point q, from `at` on
abbrev pub put_point : Store → ℕ → ℕ → List ℕ → List ℕ
put_point s q at t = put_le 4 (at + 8) (s (pt Z) q) (put_le 4 (at + 4) (lowered COORDINATE (s (pt Y) q)) (put_le 4 at (lowered COORDINATE (s (pt X) q)) t))

-- how far a writer is, and the tray
pub record Laid : Type 0 where
  pub at : ℕ
  pub tray : List ℕ

abbrev pub laid : ℕ → List ℕ → Laid
laid at t = record { at = at; tray = t }

-- point q after b: nothing if the two are equal
unfoldable pub put_more : Store → ℕ → ℕ → ℕ → List ℕ → Laid
put_more s b q at t = cond (same_point (point_at s q) (point_at s b)) (laid at t) (laid (at + POINT) (put_point s q at t))

-- `done` is written, b the last point visited
pub record Laying (w : List ℕ) (b at : ℕ) (t₀ t : List ℕ) (total : List Point) (l : List ℕ) : Type 0 where
  pub before : PointIn (view w) b
  pub done : List Point
  pub bytes : t ≡ over (path_bytes done) t₀
  pub here : at ≡ POINT * length done
  pub all : done ++ after_point (view w) b l ≡ total
  pub room : POINT * length total ≤ length t₀

-- a writer's room for the path
pub record Room (w : List ℕ) (rev : Bool) (a : ℕ) (t : List ℕ) : Type 0 where
  pub round : Round w rev a
  pub room : POINT * length (path_round (view w) rev a) ≤ length t
