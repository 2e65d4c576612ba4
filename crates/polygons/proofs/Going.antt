-- Going round a path that lies in a tray.
use Prim.Native.Nat.{ℕ, zero, suc, ◌+◌, ◌-◌, ◌*◌, ◌≤◌, ◌<◌}
use mathlib.Core.Path.{◌≡◌, refl, sym, ap, ◌∙◌, subst}
use mathlib.Core.Bool.{Bool, true, false, cond, not, ◌||◌, beq, true≢false}
use mathlib.Core.List.{List, [], ◌∷◌, ◌++◌}
use native.Mathlib.Omega.{arith}
use mathlib.Core.Logic.{◌≢◌}
use lib.IntN.{ℤ, pos}
use lib.Signed.{lt_z}
use lib.ListN.{length, take, drop}
use Rattle.exact.specs.Equal.{eq_z}
use borrow.Author.Tests.{lt-ltb, le-ltb}
use Rattle.rings.specs.Circle.{last_of}
use Rattle.geometry.specs.declared.Point.{Point}
use Rattle.listing.specs.Fields.{point_in, points_in}
use Rattle.listing.specs.Needs.{Held, Run}
use Rattle.listing.proofs.Runs.{run_head, run_rest, head_at, rest_at, points_at, points_over, from_none}
use Rattle.polygons.specs.declared.PointInPolygonResult.{PointInPolygonResult}
use Rattle.polygons.specs.declared.PointInPolygonResult.TheVariants.{IsOutside}
use Rattle.rays.specs.declared.Way.{Way}
use Rattle.rays.specs.declared.Way.TheVariants.{Touches, Stays, Passes, Crosses}
use Rattle.polygons.specs.declared.Tour.{Tour}
use Rattle.geometry.specs.Plane.{cross_product_sign}
use Rattle.rays.specs.Edge.{is_level, is_above, level_way, over_way, way_of}
use Rattle.polygons.specs.Polygon.{after, along, walk, start, result_of, round_from, levels, point_in_polygon}
use Rattle.paths.specs.Tray.{POINT}
use Rattle.rays.specs.Needs.{BeginsOn}
use Rattle.polygons.specs.Needs.{Sided, Walking, Leveling}

less : (k : ℕ) → 0 < k → k ≡ suc (k - 1)
less k h = omega arith

pub points_next : (t : List ℕ) (left f : ℕ) → 0 < left → points_in t left f ≡ point_in t f ∷ points_in t (left - 1) (f + POINT)
points_next t left f h = ap (λ (k : ℕ). points_in t k f) (less left h)

pub points_none : (t : List ℕ) (left f : ℕ) → left ≤ 0 → points_in t left f ≡ []
points_none t left f h = let z : left ≡ 0 = omega arith in ap (λ (k : ℕ). points_in t k f) z

-- ---- one edge
module _ (pt : Point) (s : Tour) (t : List ℕ) (prev at : ℕ) where
  pub along_on : s.on ≡ true → s ≡ along pt s (point_in t prev) (point_in t at)
  unfolding along
  along_on h = rw h

  pub along_off : s.on ≡ false → (p q : Point) (w : Way) (r : Tour) → p ≡ point_in t prev → q ≡ point_in t at → w ≡ way_of pt s.above p q → r ≡ after s w → r ≡ along pt s (point_in t prev) (point_in t at)
  unfolding along
  along_off h p q w r e f g i = i ∙ ap (after s) (g ∙ ap (λ (z : Point). way_of pt s.above z q) e ∙ ap (way_of pt s.above (point_in t prev)) f) ∙ rw h

pub side_known : (pt : Point) (s : Tour) (t : List ℕ) (prev : ℕ) (p : Point) → Sided pt s (point_in t prev) → s.on ≡ false → p ≡ point_in t prev → BeginsOn pt s.above p
side_known pt s t prev p h e f = subst (BeginsOn pt s.above) (sym f) (h.known e)

pub start_is : (pt : Point) (t : List ℕ) (at : ℕ) (v : Point) (b : Bool) → v ≡ point_in t at → b ≡ is_above pt v → ◌≡◌ {A = Tour} (record { on = false; above = b; odd = false }) (start pt (point_in t at))
start_is pt t at v b e f = rw (f, e)

-- ---- the side stays known
never : {A : Type 0} (above : Bool) (d : ℤ) → Stays ≡ over_way above d → A
unfolding over_way
never {A} above d e = go (eq_z d (pos 0)) (beq (lt_z d (pos 0)) above) e
  where
    go : (a b : Bool) → Stays ≡ cond a Touches (cond b Crosses Passes) → A
    go true b z = let y : ◌≡◌ {A = ℕ} 0 1 = cc in absurd (omega arith)
    go false true z = let y : ◌≡◌ {A = ℕ} 0 1 = cc in absurd (omega arith)
    go false false z = let y : ◌≡◌ {A = ℕ} 0 1 = cc in absurd (omega arith)

beq_refl : (b : Bool) → beq b b ≡ true
beq_refl true = refl
beq_refl false = refl

or_true : (a : Bool) → (a || true) ≡ true
or_true true = refl
or_true false = refl

flip_is : (a b : Bool) → beq a b ≡ false → beq a (not b) ≡ true
flip_is true true e = sym e
flip_is true false e = refl
flip_is false true e = refl
flip_is false false e = sym e

pub start_sided : (pt v : Point) → Sided pt (start pt v) v
start_sided pt v = record { known = λ e. record { side = rw (beq_refl (is_above pt v)) (or_true (is_level pt v)) } }

module _ (pt : Point) (p q : Point) where
  -- whatever the edge to q does
  after_sided : (s : Tour) (above : Bool) → s.above ≡ above → (w : Way) → w ≡ way_of pt above p q → Sided pt (after s w) q
  unfolding way_of
  after_sided s above a w e = go (is_level pt q) (beq (is_above pt q) above) refl refl w e
    where
      level : is_level pt q ≡ true → (b : Bool) → BeginsOn pt b q
      level h b = record { side = rw h }

      keeps : beq (is_above pt q) above ≡ true → BeginsOn pt s.above q
      keeps h = rw a (record { side = rw h (or_true (is_level pt q)) })

      flips : beq (is_above pt q) above ≡ false → BeginsOn pt (not s.above) q
      flips h = rw a (record { side = rw (flip_is (is_above pt q) above h) (or_true (is_level pt q)) })

      go : (l b : Bool) → is_level pt q ≡ l → beq (is_above pt q) above ≡ b → (w : Way)
          → w ≡ cond (is_level pt q) (level_way pt p q) (cond (beq (is_above pt q) above) Stays (over_way above (cross_product_sign p q pt))) → Sided pt (after s w) q
      go true b h k w f = record { known = λ x. level h (after s w).above }
      go false true h k Touches f = record { known = λ x. absurd (true≢false x) }
      go false true h k Stays f = record { known = λ x. keeps k }
      go false true h k Passes f = no (f ∙ rw (h, k))
        where
          no : {A : Type 0} → Passes ≡ Stays → A
          no z = let y : ◌≡◌ {A = ℕ} 0 1 = cc in absurd (omega arith)
      go false true h k Crosses f = no (f ∙ rw (h, k))
        where
          no : {A : Type 0} → Crosses ≡ Stays → A
          no z = let y : ◌≡◌ {A = ℕ} 0 1 = cc in absurd (omega arith)
      go false false h k Touches f = record { known = λ x. absurd (true≢false x) }
      go false false h k Stays f = never above (cross_product_sign p q pt) (f ∙ rw (h, k))
      go false false h k Passes f = record { known = λ x. flips k }
      go false false h k Crosses f = record { known = λ x. flips k }

  pub along_sided : (s : Tour) → Sided pt (along pt s p q) q
  unfolding along
  along_sided s = go s.on refl
    where
      go : (b : Bool) → s.on ≡ b → Sided pt (cond s.on s (after s (way_of pt s.above p q))) q
      go true e = subst (λ (b : Bool). Sided pt (cond b s (after s (way_of pt s.above p q))) q) (sym e) (record { known = λ x. absurd (true≢false (sym e ∙ x)) })
      go false e = subst (λ (b : Bool). Sided pt (cond b s (after s (way_of pt s.above p q))) q) (sym e) (after_sided s s.above refl (way_of pt s.above p q) refl)

pub walk_sided : (pt : Point) (s : Tour) (p : Point) (l : List Point) → Sided pt s p → Sided pt (walk pt s p l) (last_of p l)
walk_sided pt s p [] h = h
walk_sided pt s p (q ∷ l) h = walk_sided pt (along pt s p q) q l (along_sided pt p q s)

-- once met, it stays met
walk_on : (pt : Point) (s : Tour) (p : Point) (l : List Point) → s.on ≡ true → walk pt s p l ≡ s
unfolding along
walk_on pt s p [] h = refl
walk_on pt s p (q ∷ l) h =
    let e : along pt s p q ≡ s = ap (λ (b : Bool). cond b s (after s (way_of pt s.above p q))) h in
    ap (λ (x : Tour). walk pt x q l) e ∙ walk_on pt s q l h

-- ---- through a list
module _ (pt : Point) (t : List ℕ) where
  pub walking_begins : (before at left : ℕ) (s : Tour) → Held t before → Sided pt s (point_in t before) → Run t left at → Walking pt t before at (left - 0) s (walk pt s (point_in t before) (points_in t left at))
  walking_begins before at left s h d r = from_none (λ (k : ℕ). Walking pt t before at k s (walk pt s (point_in t before) (points_in t left at))) left (record { here = h; side = d; rest = r; all = refl })

  module _ (before at c i : ℕ) (s total : Tour) (w : Walking pt t before at (c - i) s total) where
    pub walking_head : i < c → Held t at
    walking_head h = head_at t c i at w.rest h

    pub walking_met : s.on ≡ true → s ≡ total
    walking_met h = sym (walk_on pt s (point_in t before) (points_in t (c - i) at) h) ∙ w.all

    pub walking_on : (s' : Tour) → i < c → s' ≡ along pt s (point_in t before) (point_in t at) → Walking pt t at (at + POINT) (c - (i + 1)) s' total
    walking_on s' h e =
        record {
          here = head_at t c i at w.rest h;
          side = subst (λ (x : Tour). Sided pt x (point_in t at)) (sym e) (along_sided pt (point_in t before) (point_in t at) s);
          rest = rest_at t c i at w.rest h;
          all =
              ap (λ (x : Tour). walk pt x (point_in t at) (points_in t (c - (i + 1)) (at + POINT))) e
              ∙ ap (walk pt s (point_in t before)) (sym (points_at t c i at h))
              ∙ w.all;
        }

    pub walking_ends : c ≤ i → s ≡ total
    walking_ends h = ap (walk pt s (point_in t before)) (sym (points_over t c i at h)) ∙ w.all

-- ---- the vertices on the level
module _ (pt : Point) (t : List ℕ) where
  pub leveling_begins : (n at : ℕ) → Run t n at → Leveling pt t n at (n - 0) (levels pt (points_in t n at))
  leveling_begins n at r = from_none (λ (k : ℕ). Leveling pt t n at k (levels pt (points_in t n at))) n (record { rest = r; few = omega arith; all = omega arith })

  module _ (c at i total : ℕ) (w : Leveling pt t c at (c - i) total) where
    pub leveling_head : i < c → Held t at
    leveling_head h = head_at t c i at w.rest h

    next : i < c → (b : Bool) → is_level pt (point_in t at) ≡ b → levels pt (points_in t (c - i) at) ≡ cond b (suc (levels pt (points_in t (c - (i + 1)) (at + POINT)))) 0
    next h b e = ap (levels pt) (points_at t c i at h) ∙ rw e

    pub leveling_found : (q : Point) (level : Bool) → i < c → q ≡ point_in t at → level ≡ is_level pt q → not level ≡ true → i ≡ total
    leveling_found q level h e f g =
        let z : is_level pt (point_in t at) ≡ false = flip (is_level pt (point_in t at)) (sym g ∙ ap not f ∙ ap (λ (x : Point). not (is_level pt x)) e) in
        omega (arith, next h false z, w.all)
      where
        flip : (b : Bool) → true ≡ not b → b ≡ false
        flip true z = z
        flip false z = refl

    pub leveling_on : (q : Point) (level : Bool) → i < c → q ≡ point_in t at → level ≡ is_level pt q → not level ≡ false → Leveling pt t c (at + POINT) (c - (i + 1)) total
    leveling_on q level h e f g =
        let z : is_level pt (point_in t at) ≡ true = flip (is_level pt (point_in t at)) (sym g ∙ ap not f ∙ ap (λ (x : Point). not (is_level pt x)) e) in
        record { rest = rest_at t c i at w.rest h; few = omega (arith, w.few); all = omega (arith, next h true z, w.all, w.few) }
      where
        flip : (b : Bool) → false ≡ not b → b ≡ true
        flip true z = refl
        flip false z = z

    pub leveling_ends : c ≤ i → c ≡ total
    leveling_ends h = let e : levels pt (points_in t (c - i) at) ≡ 0 = ap (levels pt) (points_over t c i at h) in omega (arith, w.all, e)

-- ---- parts of a run
module _ (t : List ℕ) where
  pub held_at : (k n from : ℕ) → Run t n from → k < n → Held t (from + POINT * k)
  held_at zero n from r h = let z : from + POINT * 0 ≡ from = omega arith in subst (Held t) (sym z) (run_head t n from r (omega arith))
  held_at (suc k) n from r h =
      let z : from + POINT + POINT * k ≡ from + POINT * suc k = omega arith in
      subst (Held t) z (held_at k (n - 1) (from + POINT) (run_rest t n from r (omega arith)) (omega arith))

  pub run_from : (k n from : ℕ) → Run t n from → k ≤ n → Run t (n - k) (from + POINT * k)
  run_from zero n from r h = let z : from + POINT * 0 ≡ from = omega arith in let y : n - 0 ≡ n = omega arith in rw (z, y) r
  run_from (suc k) n from r h =
      let z : from + POINT + POINT * k ≡ from + POINT * suc k = omega arith in
      let y : n - 1 - k ≡ n - suc k = omega arith in
      subst (λ (a : ℕ). Run t (n - suc k) a) z
      (subst (λ (m : ℕ). Run t m (from + POINT + POINT * k)) y (run_from k (n - 1) (from + POINT) (run_rest t n from r (omega arith)) (omega arith)))

  pub run_first : (m n from : ℕ) → Run t n from → m ≤ n → Run t m from
  run_first zero n from r h = record { inside = omega (arith, r.inside); small = tt }
  run_first (suc m) n from r h =
      record {
        inside = omega (arith, r.inside);
        small = ((run_head t n from r (omega arith)).small, (run_first m (n - 1) (from + POINT) (run_rest t n from r (omega arith)) (omega arith)).small);
      }

  pub run_after : (k n from : ℕ) → Run t n from → k < n → Run t (n - k - 1) (from + POINT * k + POINT)
  run_after k n from r h = run_rest t (n - k) (from + POINT * k) (run_from k n from r (omega arith)) (omega arith)

  pub last_held : (k n from : ℕ) → Run t n from → k < n → Held t (from + POINT * (n - 1))
  last_held k n from r h = held_at (n - 1) n from r (omega arith)

  pub run_back : (k n from : ℕ) → Run t n from → k < n → Run t (k + 1) from
  run_back k n from r h = run_first (k + 1) n from r (omega arith)

  pub last_at : (m at : ℕ) → last_of (point_in t at) (points_in t m (at + POINT)) ≡ point_in t (at + POINT * m)
  last_at zero at = let z : at ≡ at + POINT * 0 = omega arith in ap (point_in t) z
  last_at (suc m) at = let z : at + POINT + POINT * m ≡ at + POINT * suc m = omega arith in last_at m (at + POINT) ∙ ap (point_in t) z

  pub points_one_more : (f from : ℕ) → points_in t (suc f) from ≡ points_in t f from ++ (point_in t (from + POINT * f) ∷ [])
  points_one_more zero from = let z : from ≡ from + POINT * 0 = omega arith in ap (λ (a : ℕ). point_in t a ∷ []) z
  points_one_more (suc f) from =
      let z : from + POINT + POINT * f ≡ from + POINT * suc f = omega arith in
      ap (λ (l : List Point). point_in t from ∷ l) (points_one_more f (from + POINT) ∙ ap (λ (a : ℕ). points_in t f (from + POINT) ++ (point_in t a ∷ [])) z)

  pub points_length : (n from : ℕ) → length (points_in t n from) ≡ n
  points_length zero from = refl
  points_length (suc n) from = ap suc (points_length n (from + POINT))

  pub points_take : (f n from : ℕ) → f ≤ n → take f (points_in t n from) ≡ points_in t f from
  points_take zero n from h = take_zero n
    where
      take_zero : (n : ℕ) → take 0 (points_in t n from) ≡ []
      take_zero zero = refl
      take_zero (suc n) = refl
  points_take (suc f) zero from h = absurd (omega arith)
  points_take (suc f) (suc n) from h = ap (λ (l : List Point). point_in t from ∷ l) (points_take f n (from + POINT) (omega arith))

  pub points_drop : (f n from : ℕ) → f ≤ n → drop f (points_in t n from) ≡ points_in t (n - f) (from + POINT * f)
  points_drop zero n from h = let z : from ≡ from + POINT * 0 = omega arith in let y : n ≡ n - 0 = omega arith in ap (λ (a : ℕ). points_in t n a) z ∙ ap (λ (m : ℕ). points_in t m (from + POINT * 0)) y
  points_drop (suc f) zero from h = absurd (omega arith)
  points_drop (suc f) (suc n) from h =
      let z : from + POINT + POINT * f ≡ from + POINT * suc f = omega arith in
      let y : n - f ≡ suc n - suc f = omega arith in
      points_drop f n (from + POINT) (omega arith) ∙ ap (points_in t (n - f)) z ∙ ap (λ (m : ℕ). points_in t m (from + POINT * suc f)) y

-- ---- once round
pub walk_append : (pt : Point) (s : Tour) (p : Point) (a b : List Point) → walk pt s p (a ++ b) ≡ walk pt (walk pt s p a) (last_of p a) b
walk_append pt s p [] b = refl
walk_append pt s p (q ∷ a) b = walk_append pt (along pt s p q) q a b

module _ (pt : Point) (t : List ℕ) (from n f : ℕ) (h : f < n) where
  pub started : (a : Tour) → a ≡ start pt (point_in t (from + POINT * f)) → Sided pt a (point_in t (from + POINT * f))
  started a d = subst (λ (x : Tour). Sided pt x (point_in t (from + POINT * f))) (sym d) (start_sided pt (point_in t (from + POINT * f)))

  pub wrapped : (a b : Tour) → a ≡ start pt (point_in t (from + POINT * f)) → b ≡ walk pt a (point_in t (from + POINT * f)) (points_in t (n - f - 1) (from + POINT * f + POINT)) → Sided pt b (point_in t (from + POINT * (n - 1)))
  wrapped a b d e =
      let z : from + POINT * f + POINT * (n - f - 1) ≡ from + POINT * (n - 1) = omega arith in
      let v = point_in t (from + POINT * f) in
      let rest = points_in t (n - f - 1) (from + POINT * f + POINT) in
      subst (λ (x : Point). Sided pt b x) (last_at t (n - f - 1) (from + POINT * f) ∙ ap (point_in t) z) (subst (λ (x : Tour). Sided pt x (last_of v rest)) (sym e) (walk_sided pt a v rest (started a d)))

  pub round_is : (a b c : Tour) (r : PointInPolygonResult) → a ≡ start pt (point_in t (from + POINT * f)) → b ≡ walk pt a (point_in t (from + POINT * f)) (points_in t (n - f - 1) (from + POINT * f + POINT))
      → c ≡ walk pt b (point_in t (from + POINT * (n - 1))) (points_in t (f + 1) from) → r ≡ result_of c → r ≡ round_from pt (points_in t f from) (points_in t (n - f) (from + POINT * f))
  round_is a b c r d e g i =
      let v = point_in t (from + POINT * f) in
      let rest = points_in t (n - f - 1) (from + POINT * f + POINT) in
      let tail = points_in t f from ++ (v ∷ []) in
      let z : from + POINT * f + POINT * (n - f - 1) ≡ from + POINT * (n - 1) = omega arith in
      let y : f + 1 ≡ suc f = omega arith in
      let l : point_in t (from + POINT * (n - 1)) ≡ last_of v rest = sym (last_at t (n - f - 1) (from + POINT * f) ∙ ap (point_in t) z) in
      let m : points_in t (f + 1) from ≡ tail = ap (λ (k : ℕ). points_in t k from) y ∙ points_one_more t f from in
      let j : c ≡ walk pt (start pt v) v (rest ++ tail) =
      g ∙ ap (λ (x : Point). walk pt b x (points_in t (f + 1) from)) l ∙ ap (walk pt b (last_of v rest)) m
      ∙ ap (λ (x : Tour). walk pt x (last_of v rest) tail) (e ∙ ap (λ (x : Tour). walk pt x v rest) d)
      ∙ sym (walk_append pt (start pt v) v rest tail)
      in
      i ∙ ap result_of j ∙ ap (round_from pt (points_in t f from)) (sym (points_next t (n - f) (from + POINT * f) (omega arith)))

-- ---- the whole rule
levels_few : (pt : Point) (ps : List Point) → levels pt ps ≤ length ps
levels_few pt [] = omega arith
levels_few pt (q ∷ qs) = go (is_level pt q) (levels_few pt qs)
  where
    go : (b : Bool) → levels pt qs ≤ length qs → cond b (suc (levels pt qs)) 0 ≤ suc (length qs)
    go true h = omega arith
    go false h = omega arith

module _ (pt : Point) (t : List ℕ) (from n : ℕ) where
  pub polygon_few : n < 3 → IsOutside ≡ point_in_polygon pt (points_in t n from)
  unfolding point_in_polygon
  polygon_few h = rw (lt-ltb (length (points_in t n from)) 3 (omega (arith, points_length t n from)))

  module _ (h : 3 ≤ n) (f : ℕ) (e : f ≡ levels pt (points_in t n from)) where
    low : f ≤ n
    low = omega (arith, e, levels_few pt (points_in t n from), points_length t n from)

    pub polygon_off : f ≢ n → f < n
    polygon_off d = omega (arith, low)

    pub polygon_round : (r : PointInPolygonResult) → r ≡ round_from pt (points_in t f from) (points_in t (n - f) (from + POINT * f)) → r ≡ point_in_polygon pt (points_in t n from)
    unfolding point_in_polygon
    polygon_round r g =
        g
        ∙ ap (λ (l : List Point). round_from pt l (points_in t (n - f) (from + POINT * f))) (sym (points_take t f n from low))
        ∙ ap (round_from pt (take f (points_in t n from))) (sym (points_drop t f n from low))
        ∙ ap (λ (k : ℕ). round_from pt (take k (points_in t n from)) (drop k (points_in t n from))) e
        ∙ rw (le-ltb (length (points_in t n from)) 3 (omega (arith, points_length t n from)))

    pub polygon_level : f ≡ n → IsOutside ≡ point_in_polygon pt (points_in t n from)
    polygon_level d = polygon_round IsOutside (ap (round_from pt (points_in t f from)) (sym (points_none t (n - f) (from + POINT * f) (omega arith))))
