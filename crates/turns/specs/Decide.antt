-- A step decided on the store, by its links and the values of its points: what the code reads. That it is the lone ring's decision is a law.
use Rattle.std.specs.Prelude.{ℕ, Bool, true, false, cond, not, ◌||◌, List, map, eqb, ℤ}
use Rattle.rings.specs.Progress.{Due, validity, removal, triangle, split, done, at_validity, while_removing, at_split}
use Rattle.rings.specs.Walk.{walk}
use Rattle.lone.specs.Act.{Act, stay, discard, drop_point, move_on, to_first, double, cut}
use Rattle.lone.specs.Lone.{Geo, is_valid_closed_path, too_small}
pub use Rattle.lone.specs.Lone.{keeps_by}
use Rattle.store.specs.Field.{pt, rc, NEXT, PREV, FIRST, PRESENT, START}
use Rattle.store.specs.Words.{Store}
use Rattle.store.specs.Sound.{due_at}
use Rattle.acts.specs.Value.{value}

module _ (s : Store) where
  -- the point before is the second after
  abbrev pub three_from : ℕ → Bool
  three_from a = eqb (s (pt PREV) a) (s (pt NEXT) (s (pt NEXT) a))

  -- whether three points are left once x and its next are cut away
  abbrev pub three_left : Bool → ℕ → Bool
  three_left true x = eqb (s (pt NEXT) (s (pt NEXT) (s (pt NEXT) (s (pt NEXT) x)))) x
  three_left false x = eqb (s (pt NEXT) (s (pt NEXT) (s (pt NEXT) (s (pt NEXT) (s (pt NEXT) x))))) x

  -- the split loop ends at k, if that is the first point or the loop's start
  abbrev pub due_on : ℕ → ℕ → Due
  due_on i k = cond (eqb k (s (rc FIRST) i) || eqb k (s (rc START) i)) done split

  -- the triangle test
  abbrev pub triangle_at : {P : Type 0} → ℕ → Act P
  triangle_at i = to_first (cond (three_from (s (rc FIRST) i)) done split)

module _ {P : Type 0} (of : ℕ → ℕ → ℕ → P) (G : Geo P) (s : Store) where
  -- of a ring of three from a: are two of them really close
  abbrev pub small_at : ℕ → ℕ → ℕ → Bool
  small_at a b c = G.is_very_small_triangle (value of s c) (value of s a) (value of s b)

  abbrev pub remove_at : ℕ → ℕ → ℕ → Bool
  remove_at p x n = G.removable (value of s p) (value of s x) (value of s n)

  -- whether the ring without x is valid
  unfoldable pub valid_without : ℕ → Bool
  valid_without x =
      let a : ℕ = s (pt NEXT) x in
      let b : ℕ = s (pt NEXT) a in
      let c : ℕ = s (pt NEXT) b in
      let e : ℕ = s (pt NEXT) c in
      cond (eqb a x) false (cond (eqb b x) false (cond (eqb c x) false (cond (eqb e x) (not (small_at a b c)) true)))

  unfoldable pub removal_at : ℕ → Act P
  removal_at i =
      let x : ℕ = s (rc PRESENT) i in
      let n : ℕ = s (pt NEXT) x in
      cond (remove_at (s (pt PREV) x) x n) (cond (valid_without x) drop_point (discard while_removing)) (move_on (cond (eqb n (s (rc START) i)) triangle removal))

  -- the ring from a point, by value
  abbrev pub ring_from : ℕ → List P
  ring_from a = map (value of s) (walk (s (pt NEXT)) a)

  -- the validity test
  unfoldable pub validity_at : ℕ → Act P
  validity_at i = cond (is_valid_closed_path G (ring_from (s (rc FIRST) i))) (to_first removal) (discard at_validity)

  -- the cut at x, of a ring whose doubled area is area1, by the values of the point before x, of x, of the next and of the one after
  unfoldable pub cut_at : ℤ → ℕ → P → P → P → P → Act P
  cut_at area1 x a b c d =
      let v : P = G.crossing_point a b c d in
      let put : Bool = not (G.same_point v a || G.same_point v d) in
      cut v put (keeps_by area1 (G.area_triangle v b c)) (cond (three_left s put x) done split)

  -- `do_split_op` at x, after the point p
  unfoldable pub split_op_at : ℕ → ℕ → P → P → P → P → Act P
  split_op_at p x a b c d = cond (too_small G (ring_from p)) (discard at_split) (cut_at (G.area_outpt (ring_from p)) x a b c d)

  -- a split turn at x, where the edges about it cross; z is the second after it
  unfoldable pub crossed_at : ℕ → ℕ → ℕ → ℕ → P → P → P → P → Act P
  crossed_at i p x z a b c d = cond (G.segments_intersect a b d (value of s (s (pt NEXT) z))) (double d (due_on s i x)) (split_op_at p x a b c d)

  unfoldable pub split_at : ℕ → Act P
  split_at i =
      let x : ℕ = s (rc PRESENT) i in
      let y : ℕ = s (pt NEXT) x in
      let z : ℕ = s (pt NEXT) y in
      let p : ℕ = s (pt PREV) x in
      cond (G.segments_intersect (value of s p) (value of s x) (value of s y) (value of s z))
      (crossed_at i p x z (value of s p) (value of s x) (value of s y) (value of s z))
      (move_on (due_on s i y))

  abbrev pub decide_due : ℕ → Due → Act P
  decide_due i validity = validity_at i
  decide_due i removal = removal_at i
  decide_due i triangle = triangle_at s i
  decide_due i split = split_at i
  decide_due i done = stay

  -- the step decided on the store
  unfoldable pub decide_at : ℕ → Act P
  decide_at i = decide_due i (due_at s i)
