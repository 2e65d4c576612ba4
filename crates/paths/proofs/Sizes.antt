-- How many points a record's path has, by the code's tests.
use Prim.Native.Nat.{ℕ, suc, ◌≤◌, ◌<◌}
use mathlib.Core.Path.{◌≡◌, refl, sym, ap, ◌∙◌, subst}
use mathlib.Core.Logic.{◌≢◌}
use mathlib.Core.Bool.{Bool, true, false, cond, not, ◌&&◌, beq}
use mathlib.Core.List.{List, [], ◌∷◌, map}
use mathlib.Core.Option.{Option, none, some}
use native.Mathlib.Omega.{arith}
use lib.Dec.{eqb, leb}
use lib.ListN.{length, length-map, length-reverse}
use borrow.Author.Tests.{eq-eqb, ne_eqb, le-leb, lt-leb, leb-true, not-false}
use Rattle.rings.specs.Circle.{turn, last_of}
use Rattle.rings.specs.Count.{occ}
use Rattle.rings.specs.Whole.{Whole}
use Rattle.rings.proofs.Circles.{length_turn}
use Rattle.rings.proofs.Counting.{occ_last_of, one_here, apart}
use Rattle.rings.proofs.Linking.{prev_is}
use Rattle.rings.proofs.Mapping.{map_turn}
use Rattle.rings.proofs.Members.{next_on, prev_on}
use Rattle.geometry.specs.declared.Point.{Point}
use Rattle.geometry.specs.Plane.{is_very_small_triangle}
use Rattle.lone.specs.Lone.{Geo}
use Rattle.lone.specs.Plane.{plane}
use Rattle.lone.specs.Path.{in_order, drop_equals, without_equals, is_small_ring, build_path64_from_outpt}
use Rattle.store.specs.Field.{pt, rc, NEXT, PREV, FIRST}
use Rattle.store.specs.Words.{Store, view}
use Rattle.store.specs.Sound.{pts, ring_at, is_open}
use Rattle.store.specs.Good.{PointIn}
use Rattle.store.specs.Value.{preserve_collinear, reverse_solution}
use Rattle.std.specs.Prelude.{Result, Ok, Err}
use Rattle.std.specs.Result.{result_unwrap_or}
use Rattle.paths.specs.declared.NoPath.{NoPath}
use Rattle.paths.specs.declared.NoPath.TheVariants.{Short, Small}
use Rattle.paths.specs.Path.{point_at, points_at, path_by, path_at, path_if, size_of, small_by, end_by, path_end}
use Rattle.paths.specs.Walking.{start_from, round_from, Readable, Round, Known, Asked, ThreeOrMore, Sized, path_round}
use Rattle.paths.proofs.Walks.{others_of, walk_is, round_here}
use Rattle.paths.proofs.Directions.{Ringed, ringed, path_of}

-- ---- a ring by its first point's links

module _ (n p : ℕ → ℕ) (m a : ℕ) where
  -- one point, or two
  short_test : (l : List ℕ) → Whole n p m (a ∷ l) → (o : Bool) → cond (eqb (n a) a) true (cond o false (eqb (n a) (p a))) ≡ leb (length (a ∷ l)) (cond o 1 2)
  short_test [] h o = rw (eq-eqb (n a) a h.linked.0) (sym (all o))
    where
      all : (o : Bool) → leb 1 (cond o 1 2) ≡ true
      all true = refl
      all false = refl
  short_test (y ∷ []) h o =
      rw (h.linked.0, ne_eqb y a (apart a (y ∷ []) (omega (arith, h.once a, one_here a))).0, prev_is n p a (y ∷ []) h.linked, eq-eqb y y refl) (by o)
    where
      by : (o : Bool) → cond o false true ≡ leb 2 (cond o 1 2)
      by true = refl
      by false = refl
  short_test (y ∷ z ∷ r) h o =
      rw (
        h.linked.0,
        ne_eqb y a (apart a (y ∷ z ∷ r) (omega (arith, h.once a, one_here a))).0,
        prev_is n p a (y ∷ z ∷ r) h.linked,
        ne_eqb y (last_of z r) (λ e. omega (arith, h.once y, one_here y, subst (λ (x : ℕ). 0 < occ x (z ∷ r)) (sym e) (occ_last_of z r))),
      )
      (by o)
    where
      by : (o : Bool) → cond o false false ≡ leb (suc (suc (suc (length r)))) (cond o 1 2)
      by true = sym (lt-leb (suc (suc (suc (length r)))) 1 (omega arith))
      by false = sym (lt-leb (suc (suc (suc (length r)))) 2 (omega arith))

  -- three points
  small_test : {P : Type 0} (G : Geo P) (v : ℕ → P) (l : List ℕ) → Whole n p m (a ∷ l) → 2 < length (a ∷ l)
      → cond (eqb (n (n a)) (p a)) (G.is_very_small_triangle (v (p a)) (v a) (v (n a))) false ≡ is_small_ring G (map v (a ∷ l))
  small_test G v [] h k = absurd (omega arith)
  small_test G v (y ∷ []) h k = absurd (omega arith)
  small_test G v (y ∷ z ∷ []) h k = rw (h.linked.0, h.linked.2.0, prev_is n p a (y ∷ z ∷ []) h.linked, eq-eqb z z refl)
  small_test G v (y ∷ z ∷ x ∷ r) h k =
      rw (
        h.linked.0,
        h.linked.2.0,
        prev_is n p a (y ∷ z ∷ x ∷ r) h.linked,
        ne_eqb z (last_of x r) (λ e. omega (arith, h.once z, one_here z, subst (λ (q : ℕ). 0 < occ q (x ∷ r)) (sym e) (occ_last_of x r))),
      )

module _ (w : List ℕ) (a : ℕ) (r : Round w false a) where
  ring : Whole (view w (pt NEXT)) (view w (pt PREV)) (pts (view w)) (a ∷ others_of (view w (pt NEXT)) a)
  ring = subst (Whole (view w (pt NEXT)) (view w (pt PREV)) (pts (view w))) (walk_is (view w (pt NEXT)) a) r.whole

  short_is : (o : Bool) → leb (length (round_from (view w) false a)) (cond o 1 2) ≡ cond (eqb (view w (pt NEXT) a) a) true (cond o false (eqb (view w (pt NEXT) a) (view w (pt PREV) a)))
  short_is o =
      ap (λ (c : List ℕ). leb (length c) (cond o 1 2)) (walk_is (view w (pt NEXT)) a)
      ∙ sym (short_test (view w (pt NEXT)) (view w (pt PREV)) (pts (view w)) a (others_of (view w (pt NEXT)) a) ring o)

  pub short_one : (o : Bool) (n : ℕ) → n ≡ view w (pt NEXT) a → n ≡ a → true ≡ leb (length (round_from (view w) false a)) (cond o 1 2)
  short_one o n e f = sym (short_is o ∙ rw (← e, eq-eqb n a f))

  pub short_open : (o : Bool) (n : ℕ) → n ≡ view w (pt NEXT) a → n ≢ a → o ≡ true → false ≡ leb (length (round_from (view w) false a)) (cond o 1 2)
  short_open o n e f g = sym (short_is o ∙ rw (← e, ne_eqb n a f, g))

  pub short_closed : (o : Bool) (n p : ℕ) → n ≡ view w (pt NEXT) a → p ≡ view w (pt PREV) a → n ≢ a → o ≡ false → eqb n p ≡ leb (length (round_from (view w) false a)) (cond o 1 2)
  short_closed o n p e g f h = sym (short_is o ∙ rw (← e, ← g, ne_eqb n a f, h))

  -- its neighbours may be read
  pub next_here : (n : ℕ) → n ≡ view w (pt NEXT) a → Readable w n
  next_here n e =
      let s = round_here w false a r in
      let i : PointIn (view w) n = rw e (r.points_in_lem (view w (pt NEXT) a) (next_on (view w (pt NEXT)) (view w (pt PREV)) (pts (view w)) (round_from (view w) false a) r.whole a (rw (walk_is (view w (pt NEXT)) a) (omega (arith, one_here a))))) in
      record { long = r.long; low = omega (arith, i.below, r.few); here = i }

  pub prev_here : (p : ℕ) → p ≡ view w (pt PREV) a → Readable w p
  prev_here p e =
      let i : PointIn (view w) p = rw e (r.points_in_lem (view w (pt PREV) a) (prev_on (view w (pt NEXT)) (view w (pt PREV)) (pts (view w)) (round_from (view w) false a) r.whole a (rw (walk_is (view w (pt NEXT)) a) (omega (arith, one_here a))))) in
      record { long = r.long; low = omega (arith, i.below, r.few); here = i }

module _ (w : List ℕ) (a : ℕ) (r : ThreeOrMore w a) where
  small_is : cond (eqb (view w (pt NEXT) (view w (pt NEXT) a)) (view w (pt PREV) a)) (is_very_small_triangle (point_at (view w) (view w (pt PREV) a)) (point_at (view w) a) (point_at (view w) (view w (pt NEXT) a))) false
      ≡ is_small_ring (plane (preserve_collinear (view w))) (map (point_at (view w)) (round_from (view w) false a))
  small_is =
      let s = view w in
      let h : 2 < length (a ∷ others_of (s (pt NEXT)) a) = omega (arith, r.three, ap length (walk_is (s (pt NEXT)) a)) in
      small_test (s (pt NEXT)) (s (pt PREV)) (pts s) a (plane (preserve_collinear s)) (point_at s) (others_of (s (pt NEXT)) a) (ring w a r.round) h
      ∙ ap (λ (c : List ℕ). is_small_ring (plane (preserve_collinear s)) (map (point_at s) c)) (sym (walk_is (s (pt NEXT)) a))

  pub small_no : (n p m : ℕ) → n ≡ view w (pt NEXT) a → p ≡ view w (pt PREV) a → m ≡ view w (pt NEXT) n → m ≢ p
      → false ≡ is_small_ring (plane (preserve_collinear (view w))) (map (point_at (view w)) (round_from (view w) false a))
  small_no n p m e f g d = rw (← e, ← f, ← g, ne_eqb m p d) at small_is

  pub small_yes : (n p m : ℕ) (x y z : Point) (t : Bool) → n ≡ view w (pt NEXT) a → p ≡ view w (pt PREV) a → m ≡ view w (pt NEXT) n → m ≡ p
      → x ≡ point_at (view w) p → y ≡ point_at (view w) a → z ≡ point_at (view w) n → t ≡ is_very_small_triangle x y z
      → t ≡ is_small_ring (plane (preserve_collinear (view w))) (map (point_at (view w)) (round_from (view w) false a))
  small_yes n p m x y z t e f g d a b c h = h ∙ rw (a, b, c) (rw (← e, ← f, ← g, eq-eqb m p d) at small_is)

pub three_of : (w : List ℕ) (a n : ℕ) → Sized w a n → n ≡ 3 → ThreeOrMore w a
three_of w a n r e = record { round = r.round; three = omega (arith, r.fits) }

-- the small test, in the code's order
pub not_closed : (o x : Bool) (n : ℕ) → o ≡ true → false ≡ (not o && eqb n 3 && x)
not_closed o x n e = rw e

pub not_three : (o x : Bool) (n : ℕ) → o ≡ false → n ≢ 3 → false ≡ (not o && eqb n 3 && x)
not_three o x n e d = rw (e, ne_eqb n 3 d)

pub is_three : (o x y : Bool) (n : ℕ) → o ≡ false → n ≡ 3 → y ≡ x → y ≡ (not o && eqb n 3 && x)
is_three o x y n e d f = rw (e, eq-eqb n 3 d) f

-- ---- the rule by its tests

module _ {P : Type 0} (G : Geo P) where
  drop_le : (l : P) (c : List P) → length (drop_equals G l c) ≤ length c
  drop_le l [] = omega arith
  drop_le l (q ∷ qs) = go (G.same_point q l) (drop_le l qs) (drop_le q qs)
    where
      go : (t : Bool) → length (drop_equals G l qs) ≤ length qs → length (drop_equals G q qs) ≤ length qs → length (cond t (drop_equals G l qs) (q ∷ drop_equals G q qs)) ≤ suc (length qs)
      go true a b = omega arith
      go false a b = omega arith

  -- a path has no more points than its ring
  pub path_le : (c : List P) → length (without_equals G c) ≤ length c
  path_le [] = omega arith
  path_le (q ∷ qs) = omega (arith, drop_le q qs)

pub length_in_order : {A : Type 0} (rev : Bool) (c : List A) → length (in_order rev c) ≡ length c
length_in_order false c = length_turn c
length_in_order true [] = refl
length_in_order true (q ∷ qs) = ap suc (length-reverse qs)

module _ (G : Geo Point) (rev o : Bool) (c : List Point) where
  abbrev small : Bool
  small = not o && eqb (length (without_equals G (in_order rev c))) 3 && is_small_ring G (cond rev c (turn c))

  pub end_short : leb (length c) (cond o 1 2) ≡ true → Err Short ≡ end_by small (build_path64_from_outpt G rev o c)
  unfolding build_path64_from_outpt
  end_short e = rw e (go o e)
    where
      -- a ring too short has no path of three points
      go : (o : Bool) → leb (length c) (cond o 1 2) ≡ true → Err Short ≡ end_by (not o && eqb (length (without_equals G (in_order rev c))) 3 && is_small_ring G (cond rev c (turn c))) none
      go true e = refl
      go false e = rw (ne_eqb (length (without_equals G (in_order rev c))) 3 (λ z. omega (arith, z, path_le G (in_order rev c), length_in_order rev c, leb-true (length c) 2 e)))

  module _ (e : leb (length c) (cond o 1 2) ≡ false) where
    pub end_small : small ≡ true → Err Small ≡ end_by small (build_path64_from_outpt G rev o c)
    unfolding build_path64_from_outpt
    end_small f = rw (e, f)

    module _ (f : small ≡ false) where
      pub end_few : length (without_equals G (in_order rev c)) < 2 → Err Short ≡ end_by small (build_path64_from_outpt G rev o c)
      unfolding build_path64_from_outpt
      end_few h = rw (e, f, lt-leb 2 (length (without_equals G (in_order rev c))) h)

      -- the path is there
      pub built : 2 ≤ length (without_equals G (in_order rev c)) → build_path64_from_outpt G rev o c ≡ some (without_equals G (in_order rev c))
      unfolding build_path64_from_outpt
      built h = rw (e, f, le-leb 2 (length (without_equals G (in_order rev c))) h)

-- ---- a record of a work space

module _ (w : List ℕ) (rev o : Bool) (i : ℕ) (k : Known w i) (f : ℕ) (e : f ≡ view w (rc FIRST) i) where
  pub none_end : f ≡ 65535 → Err Short ≡ path_end (view w) rev o i
  unfolding path_end
  none_end d = end_short (plane (preserve_collinear (view w))) rev o (points_at (view w) i) (rw (eq-eqb (view w (rc FIRST) i) 65535 (sym e ∙ d)) (all o))
    where
      all : (o : Bool) → leb 0 (cond o 1 2) ≡ true
      all true = refl
      all false = refl

  module _ (d : f ≢ 65535) where
    on : Ringed w rev i
    on = ringed w k.ready i k.known (ne_eqb (view w (rc FIRST) i) 65535 (λ z. d (e ∙ z))) rev

    pub first_round : Round w false f
    first_round = rw e on.first

    length_first : length (round_from (view w) false f) ≡ length (points_at (view w) i)
    length_first = rw e (ap length on.first_is ∙ sym (length-map (ring_at (view w) i) (point_at (view w))))

    pub short_end : (t : Bool) → t ≡ leb (length (round_from (view w) false f)) (cond o 1 2) → t ≡ true → Err Short ≡ path_end (view w) rev o i
    unfolding path_end
    short_end t g h = end_short (plane (preserve_collinear (view w))) rev o (points_at (view w) i) (ap (λ (n : ℕ). leb n (cond o 1 2)) (sym length_first) ∙ sym g ∙ h)

    module _ (a : ℕ) (g : a ≡ start_from (view w) rev f) where
      at : a ≡ start_from (view w) rev (view w (rc FIRST) i)
      at = g ∙ ap (start_from (view w) rev) e

      pub along_round : Round w rev a
      along_round = rw at on.along

      path_is_of : path_round (view w) rev a ≡ without_equals (plane (preserve_collinear (view w))) (in_order rev (points_at (view w) i))
      path_is_of = rw at (path_of w rev i on)

      ahead_of : map (point_at (view w)) (round_from (view w) false a) ≡ cond rev (points_at (view w) i) (turn (points_at (view w) i))
      ahead_of = rw at (rw on.ahead_is (by rev))
        where
          by : (t : Bool) → map (point_at (view w)) (cond t (ring_at (view w) i) (turn (ring_at (view w) i))) ≡ cond t (points_at (view w) i) (turn (points_at (view w) i))
          by true = refl
          by false = map_turn (point_at (view w)) (ring_at (view w) i)

      module _ (n : ℕ) (h : n ≡ length (path_round (view w) rev a)) where
        pub ahead_sized : Sized w a n
        ahead_sized =
            let c = points_at (view w) i in
            let G = plane (preserve_collinear (view w)) in
            record {
              round = rw at on.ahead;
              fits =
                  omega (
                    arith,
                    h,
                    ap length path_is_of,
                    path_le G (in_order rev c),
                    length_in_order rev c,
                    ap length ahead_of,
                    length-map (round_from (view w) false a) (point_at (view w)),
                    length_cond rev c,
                  );
            }
          where
            length_cond : (t : Bool) (c : List Point) → length (cond t c (turn c)) ≡ length c
            length_cond true c = refl
            length_cond false c = length_turn c

        module _ (t : Bool) (p : t ≡ leb (length (round_from (view w) false f)) (cond o 1 2)) (q : t ≡ false)
            (u : Bool) (x : u ≡ (not o && eqb n 3 && is_small_ring (plane (preserve_collinear (view w))) (map (point_at (view w)) (round_from (view w) false a)))) where
          long_is : leb (length (points_at (view w) i)) (cond o 1 2) ≡ false
          long_is = ap (λ (n : ℕ). leb n (cond o 1 2)) (sym length_first) ∙ sym p ∙ q

          small_of : (not o && eqb (length (without_equals (plane (preserve_collinear (view w))) (in_order rev (points_at (view w) i)))) 3 && is_small_ring (plane (preserve_collinear (view w))) (cond rev (points_at (view w) i) (turn (points_at (view w) i)))) ≡ u
          small_of = sym (x ∙ rw (h, path_is_of, ahead_of))

          pub small_end : u ≡ true → Err Small ≡ path_end (view w) rev o i
          unfolding path_end
          small_end y = end_small (plane (preserve_collinear (view w))) rev o (points_at (view w) i) long_is (small_of ∙ y)

          pub few_end : u ≡ false → n < 2 → Err Short ≡ path_end (view w) rev o i
          unfolding path_end
          few_end y z = end_few (plane (preserve_collinear (view w))) rev o (points_at (view w) i) long_is (small_of ∙ y) (omega (arith, h, ap length path_is_of))

          -- the path of the record is the one that goes round
          pub path_there : u ≡ false → 2 ≤ n → path_by (view w) rev o i ≡ some (path_round (view w) rev a)
          path_there y z = rw path_is_of (built (plane (preserve_collinear (view w))) rev o (points_at (view w) i) long_is (small_of ∙ y) (omega (arith, h, ap length path_is_of)))

          pub all_end : u ≡ false → 2 ≤ n → Ok n ≡ path_end (view w) rev o i
          unfolding path_end
          all_end y z = ap Ok h ∙ sym (ap (end_by (small_by (view w) rev o i)) (path_there y z))

      -- a path of four points or more is there
      module _ (four : 4 ≤ length (path_round (view w) rev a)) where
        pub long_path : path_by (view w) rev o i ≡ some (path_round (view w) rev a)
        long_path =
            path_there (length (path_round (view w) rev a)) refl (leb (length (round_from (view w) false f)) (cond o 1 2)) refl (long o)
            (not o && eqb (length (path_round (view w) rev a)) 3 && is_small_ring (plane (preserve_collinear (view w))) (map (point_at (view w)) (round_from (view w) false a))) refl
            (not_small o (is_small_ring (plane (preserve_collinear (view w))) (map (point_at (view w)) (round_from (view w) false a)))) (omega (arith, four))
          where
            many : 4 ≤ length (round_from (view w) false f)
            many = omega (arith, four, length_first, ap length path_is_of, path_le (plane (preserve_collinear (view w))) (in_order rev (points_at (view w) i)), length_in_order rev (points_at (view w) i))

            long : (t : Bool) → leb (length (round_from (view w) false f)) (cond t 1 2) ≡ false
            long true = lt-leb (length (round_from (view w) false f)) 1 (omega (arith, many))
            long false = lt-leb (length (round_from (view w) false f)) 2 (omega (arith, many))

            not_small : (t x : Bool) → (not t && eqb (length (path_round (view w) rev a)) 3 && x) ≡ false
            not_small true x = refl
            not_small false x = rw (ne_eqb (length (path_round (view w) rev a)) 3 (λ z. omega (arith, four, z)))

pub not_long : (n : ℕ) → false ≡ true → n ≢ 0
not_long n e = absurd (let z : ◌≡◌ {A = ℕ} 0 1 = cc in omega arith)

pub long_some : (w : List ℕ) (rev opened : Bool) (i : ℕ) → Asked w rev i → (o : Bool) → o ≡ is_open (view w) i → (t : Bool) → t ≡ beq o opened → not t ≡ false → (f : ℕ) → f ≡ view w (rc FIRST) i → f ≢ 65535
    → (a : ℕ) → a ≡ start_from (view w) rev f → (r : Bool) → r ≡ leb 4 (length (path_round (view w) rev a)) → r ≡ true → size_of (path_if (view w) opened i) ≢ 0
unfolding path_if path_at
long_some w rev opened i q o eo t et h f ef d a ea r er y z =
    let s = view w in
    let l : 4 ≤ length (path_round s rev a) = leb-true 4 (length (path_round s rev a)) (sym er ∙ y) in
    let b : beq (is_open s i) opened ≡ true = ap (λ (x : Bool). beq x opened) (sym eo) ∙ sym et ∙ not-false t h in
    let e : cond (beq (is_open s i) opened) (path_by s (reverse_solution s) (is_open s i) i) none ≡ some (path_round s rev a) =
    rw (b, ← q.direction) (long_path w rev (is_open s i) i q.of f ef d a ea l)
    in
    omega (arith, l, ap size_of e, z)

-- ---- how many points, by how building ends

pub size_or_none : (s : Store) (rev o : Bool) (i k : ℕ) (e : Result ℕ NoPath) → e ≡ path_end s rev o i → k ≡ result_unwrap_or e 0 → k ≡ size_of (path_by s rev o i)
unfolding path_end
size_or_none s rev o i k e h f = f ∙ ap (λ (x : Result ℕ NoPath). result_unwrap_or x 0) h ∙ go (small_by s rev o i) (path_by s rev o i)
  where
    go : (small : Bool) (x : Option (List Point)) → result_unwrap_or (end_by small x) 0 ≡ size_of x
    go small (some path) = refl
    go true none = refl
    go false none = refl
