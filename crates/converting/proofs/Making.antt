-- A join made from two segments: what it keeps; the needs of its functions; and that a pair keeps the invariant of the loops.
use Prim.Native.Nat.{ℕ, ◌+◌, ◌*◌, ◌<◌}
use mathlib.Core.Path.{◌≡◌, refl, ap, ◌∙◌, sym, subst}
use mathlib.Core.Logic.{◌≢◌, ◌⊎◌, inl, inr}
use mathlib.Core.Bool.{Bool, true, false, cond, ◌||◌, not}
use mathlib.Core.List.{List}
use native.Mathlib.Omega.{arith}
use native.Mathlib.Decide.{ℕ_discrete}
use lib.Dec.{eqb, ltb}
use lib.ListN.{get_or, set, length, length-set}
use lib.Seq.{get_or-set_same, get_or-set_other}
use borrow.Author.Tests.{ltb-true}
use Rattle.std.proofs.Common.{Option, Some, None}
use Rattle.store.specs.Field.{NONE}
use Rattle.store.specs.Named.{points_of}
use Rattle.primitives.specs.Primitive.{Taken, taken, duplicate_op}
use Rattle.primitives.specs.Beside.{Beside}
use Rattle.joins.specs.Needs.{Point}
use Rattle.segments.specs.Level.{x_of, y_of}
use Rattle.segments.specs.Needs.{Span}
use Rattle.converting.specs.Make.{Made, made, second_at, first_at, make_join, Out, out, with_lefts, apart_of, join_pair, first_one, second_one, moved_pair, pair_of}
use Rattle.converting.specs.Needs.{Making, Pairing, Valid, Overlapping, PairAt}
use Rattle.segments.proofs.Moving.{one_span, two_span}
use Rattle.converting.proofs.Doubling.{Keeps, keeps_on, Grew, Doubles, beside, doubles}

-- ---- two copies and their join

pub record Gives (w x js js' : List ℕ) (m m' : ℕ) : Type 0 where
  pub keeps : Keeps w x
  pub more : m' ≡ m + 1
  pub points : points_of x ≡ points_of w + 2
  pub one : ℕ
  pub two : ℕ
  pub one_low : one < points_of x
  pub two_low : two < points_of x
  pub is : js' ≡ set (set js (2 * m) one) (2 * m + 1) two

abbrev pub GivesOf : List ℕ → List ℕ → ℕ → Made → Type 0
GivesOf w js m (made (Some m') x js') = Gives w x js js' m m'
GivesOf w js m (made None x js') = Unit {0}

module _ (w js : List ℕ) (m a b : ℕ) (t : Making w js m a b) where
  pub making_point : Point w a
  making_point = record { ready = t.ready; low = t.one }

  pub making_beside : Beside w a
  making_beside = beside w a making_point

  first : (d : Option ℕ) (x : List ℕ) → taken d x ≡ duplicate_op w a true → Doubles w (taken d x)
  first d x e = subst (Doubles w) (sym e) (doubles w a true making_point)

  pub making_second : (d : Option ℕ) (k : ℕ) (x : List ℕ) → taken d x ≡ duplicate_op w a true → d ≡ Some k → Point x b
  making_second d k x e f =
      let g : Grew w x k = subst (λ (c : Option ℕ). Doubles w (taken c x)) f (first d x e) in
      record { ready = g.keeps.ready; low = omega (arith, g.keeps.more, t.two) }

  pub making_low : (d : Option ℕ) (k : ℕ) (x : List ℕ) → taken d x ≡ duplicate_op w a true → d ≡ Some k → k < 2048
  making_low d k x e f =
      let g : Grew w x k = subst (λ (c : Option ℕ). Doubles w (taken c x)) f (first d x e) in
      omega (arith, g.is, g.points, g.keeps.ready.resolved.few_points)

  pub making_room : (d : Option ℕ) (k : ℕ) (x : List ℕ) → taken d x ≡ duplicate_op w a true → d ≡ Some k → 2 * m + 1 < length js
  making_room d k x e f = omega (arith, making_low d k x e f, t.few, t.room, low d k x e f)
    where
      low : (d : Option ℕ) (k : ℕ) (x : List ℕ) → taken d x ≡ duplicate_op w a true → d ≡ Some k → points_of w < 2048
      low d k x e f =
          let g : Grew w x k = subst (λ (c : Option ℕ). Doubles w (taken c x)) f (first d x e) in
          omega (arith, g.points, g.keeps.ready.resolved.few_points)

  pub make_gives : GivesOf w js m (make_join w js m a b)
  unfolding make_join
  make_gives = go (duplicate_op w a true) (doubles w a true making_point)
    where
      next : (k : ℕ) (x : List ℕ) → Grew w x k → (c : Taken) → Doubles x c → GivesOf w js m (second_at js m k c)
      next k x g (taken (Some j) y) h =
          record {
            keeps = keeps_on w x y g.keeps h.keeps;
            more = refl;
            points = omega (arith, g.points, h.points);
            one = k;
            two = j;
            one_low = omega (arith, g.is, g.points, h.points);
            two_low = omega (arith, h.is, h.points);
            is = refl;
          }
      next k x g (taken None y) h = tt

      go : (c : Taken) → Doubles w c → GivesOf w js m (first_at js m b c)
      go (taken (Some k) x) g = next k x g (duplicate_op x b false) (doubles x b false (record { ready = g.keeps.ready; low = omega (arith, g.keeps.more, t.two) }))
      go (taken None x) g = tt

  pub make_done : (d : Option ℕ) (k : ℕ) (x y js' : List ℕ) (r : Option ℕ) → taken d x ≡ duplicate_op w a true → d ≡ Some k → made r y js' ≡ second_at js m k (duplicate_op x b false) → made r y js' ≡ make_join w js m a b
  unfolding make_join
  make_done d k x y js' r e f g =
      let z : duplicate_op w a true ≡ taken (Some k) x = sym e ∙ ap (λ (c : Option ℕ). taken c x) f in
      rw z g

  pub make_full : (d : Option ℕ) (x : List ℕ) → taken d x ≡ duplicate_op w a true → d ≡ None → made None x js ≡ make_join w js m a b
  unfolding make_join
  make_full d x e f =
      let z : duplicate_op w a true ≡ taken None x = sym e ∙ ap (λ (c : Option ℕ). taken c x) f in
      rw z

-- the needs of `second`
pub doubled_low : (w : List ℕ) (b : ℕ) (after : Bool) → Point w b → (d : Option ℕ) (j : ℕ) (x : List ℕ) → taken d x ≡ duplicate_op w b after → d ≡ Some j → j < 2048
doubled_low w b after t d j x e f =
    let g : Grew w x j = subst (Doubles w) (sym e ∙ ap (λ (c : Option ℕ). taken c x) f) (doubles w b after t) in
    omega (arith, g.is, g.points, g.keeps.ready.resolved.few_points)

module _ (w js : List ℕ) (m k b : ℕ) (t : Point w b) where
  pub second_done : (d : Option ℕ) (j : ℕ) (x js₁ js₂ : List ℕ) → taken d x ≡ duplicate_op w b false → d ≡ Some j → js₁ ≡ set js (2 * m) k → js₂ ≡ set js₁ (2 * m + 1) j
      → made (Some (m + 1)) x js₂ ≡ second_at js m k (duplicate_op w b false)
  second_done d j x js₁ js₂ e f g h =
      let z : duplicate_op w b false ≡ taken (Some j) x = sym e ∙ ap (λ (c : Option ℕ). taken c x) f in
      rw (z, h, g)

  pub second_full : (d : Option ℕ) (x : List ℕ) → taken d x ≡ duplicate_op w b false → d ≡ None → made None x js ≡ second_at js m k (duplicate_op w b false)
  second_full d x e f =
      let z : duplicate_op w b false ≡ taken None x = sym e ∙ ap (λ (c : Option ℕ). taken c x) f in
      rw z

-- ---- a pair

pub span_low : (w : List ℕ) (l r : ℕ) → Span w l r → (l < 2048) × (r < 2048)
span_low w l r s = (omega (arith, s.same.one.bound, s.same.ready.resolved.few_points), omega (arith, s.same.two.bound, s.same.ready.resolved.few_points))

span_kept : (w x : List ℕ) (l r : ℕ) → Keeps w x → Span w l r → Span x l r
span_kept w x l r k s =
    record {
      same = record { ready = k.ready; at = s.same.at; one = k.old s.same.at l s.same.one; two = k.old s.same.at r s.same.two };
      wide = rw (k.xs l s.same.one.bound, k.xs r s.same.two.bound) s.wide;
    }

valid_span : (w : List ℕ) (l r : ℕ) → (r ≡ NONE) ⊎ Span w l r → r ≢ NONE → Span w l r
valid_span w l r (inl e) d = absurd (d e)
valid_span w l r (inr s) d = s

apart_parts : (p q r : Bool) → (not p || (q || not r)) ≡ false → (p ≡ true) × (r ≡ true)
apart_parts false q r e = let z : ◌≡◌ {A = ℕ} 0 1 = cc in absurd (omega arith)
apart_parts true true r e = let z : ◌≡◌ {A = ℕ} 0 1 = cc in absurd (omega arith)
apart_parts true false true e = (refl, refl)
apart_parts true false false e = let z : ◌≡◌ {A = ℕ} 0 1 = cc in absurd (omega arith)

module _ (w ls rs fs js : List ℕ) (m i j : ℕ) (t : PairAt w ls rs fs js m i j) where
  pub pair_valid : Valid w ls rs fs i j
  pair_valid =
      record {
        ready = t.pairing.ready;
        lefts = t.pairing.lefts;
        rights = t.pairing.rights;
        forwards = t.pairing.forwards;
        one_low = omega (arith, t.before, t.low);
        two_low = t.low;
        one = valid_span w (get_or ls i 0) (get_or rs i 0) (t.pairing.span i (omega (arith, t.before, t.low))) t.one;
        two = valid_span w (get_or ls j 0) (get_or rs j 0) (t.pairing.span j t.low) t.two;
      }

  pub pair_overlaps : apart_of w ls rs fs i j ≡ false → Overlapping w ls rs fs i j
  unfolding apart_of
  pair_overlaps e =
      let z = apart_parts (ltb (x_of w (get_or ls j 0)) (x_of w (get_or rs i 0))) (eqb (get_or fs j 0) (get_or fs i 0)) (ltb (x_of w (get_or ls i 0)) (x_of w (get_or rs j 0))) e in
      record {
        lefts = t.pairing.lefts;
        rights = t.pairing.rights;
        forwards = t.pairing.forwards;
        before = t.before;
        low = t.low;
        overlap = record {
          one = pair_valid.one;
          two = pair_valid.two;
          first = ltb-true _ _ z.0;
          second = ltb-true _ _ z.1;
        };
      }

-- the left points that moved
module _ (w ls rs fs : List ℕ) (i j : ℕ) (t : Overlapping w ls rs fs i j) where
  pub one_moved : Span w (first_one w ls fs i j) (get_or rs i 0)
  unfolding first_one
  one_moved = one_span w (eqb (get_or fs i 0) 1) (y_of w (get_or ls i 0)) (get_or ls i 0) (get_or rs i 0) (get_or ls j 0) (get_or rs j 0) t.overlap

  pub two_moved : Span w (second_one w ls fs i j) (get_or rs j 0)
  unfolding second_one
  two_moved = two_span w (eqb (get_or fs i 0) 1) (y_of w (get_or ls i 0)) (get_or ls i 0) (get_or rs i 0) (get_or ls j 0) (get_or rs j 0) t.overlap

  moved : List ℕ
  moved = set (set ls i (first_one w ls fs i j)) j (second_one w ls fs i j)

  span_at : ((z : ℕ) → z < 256 → (get_or rs z 0 ≡ NONE) ⊎ Span w (get_or ls z 0) (get_or rs z 0)) → (z : ℕ) → z < 256 → (get_or rs z 0 ≡ NONE) ⊎ Span w (get_or moved z 0) (get_or rs z 0)
  unfolding moved
  span_at s z h = go (ℕ_discrete z j) (ℕ_discrete z i)
    where
      go : Dec (z ≡ j) → Dec (z ≡ i) → (get_or rs z 0 ≡ NONE) ⊎ Span w (get_or (set (set ls i (first_one w ls fs i j)) j (second_one w ls fs i j)) z 0) (get_or rs z 0)
      go (yes e) f = inr (rw (e, get_or-set_same (set ls i (first_one w ls fs i j)) j (second_one w ls fs i j) 0 (omega (arith, t.low, t.lefts, length-set ls i (first_one w ls fs i j)))) two_moved)
      go (no d) (yes f) =
          inr (rw (get_or-set_other (set ls i (first_one w ls fs i j)) j z (second_one w ls fs i j) 0 d, f, get_or-set_same ls i (first_one w ls fs i j) 0 (omega (arith, t.low, t.before, t.lefts))) one_moved)
      go (no d) (no f) = rw (get_or-set_other (set ls i (first_one w ls fs i j)) j z (second_one w ls fs i j) 0 d, get_or-set_other ls i z (first_one w ls fs i j) 0 f) (s z h)

  module _ (js : List ℕ) (m : ℕ) (p : Pairing w ls rs fs js m) where
    pub making_on : Making w js m (first_one w ls fs i j) (second_one w ls fs i j)
    making_on = record { ready = p.ready; one = one_moved.same.one.bound; two = two_moved.same.one.bound; few = p.few; room = p.room }

    pub making_back : Making w js m (second_one w ls fs i j) (first_one w ls fs i j)
    making_back = record { ready = p.ready; one = two_moved.same.one.bound; two = one_moved.same.one.bound; few = p.few; room = p.room }

    named_more : (x js' : List ℕ) (m' : ℕ) → Gives w x js js' m m' → (k : ℕ) → k < 2 * m' → get_or js' k 0 < points_of x
    named_more x js' m' g k h = rw g.is (go (ℕ_discrete k (2 * m + 1)) (ℕ_discrete k (2 * m)))
      where
        fits : 2 * m + 1 < length js
        fits = omega (arith, p.few, p.room, g.points, g.keeps.ready.resolved.few_points)

        go : Dec (k ≡ 2 * m + 1) → Dec (k ≡ 2 * m) → get_or (set (set js (2 * m) g.one) (2 * m + 1) g.two) k 0 < points_of x
        go (yes e) f = rw (e, get_or-set_same (set js (2 * m) g.one) (2 * m + 1) g.two 0 (omega (arith, fits, length-set js (2 * m) g.one))) g.two_low
        go (no d) (yes f) = rw (get_or-set_other (set js (2 * m) g.one) (2 * m + 1) k g.two 0 d, f, get_or-set_same js (2 * m) g.one 0 (omega (arith, fits))) g.one_low
        go (no d) (no f) = rw (get_or-set_other (set js (2 * m) g.one) (2 * m + 1) k g.two 0 d, get_or-set_other js (2 * m) k g.one 0 f) (omega (arith, g.points, p.named k (omega (arith, g.more))))

    pub pairing_on : (x js' : List ℕ) (m' : ℕ) → Gives w x js js' m m' → Pairing x (set (set ls i (first_one w ls fs i j)) j (second_one w ls fs i j)) rs fs js' m'
    unfolding moved
    pairing_on x js' m' g =
        record {
          ready = g.keeps.ready;
          lefts = length-set (set ls i (first_one w ls fs i j)) j (second_one w ls fs i j) ∙ length-set ls i (first_one w ls fs i j) ∙ p.lefts;
          rights = p.rights;
          forwards = p.forwards;
          room = rw g.is (omega (arith, p.room, length-set (set js (2 * m) g.one) (2 * m + 1) g.two, length-set js (2 * m) g.one));
          span = λ z h. keep z (span_at p.span z h);
          named = named_more x js' m' g;
          few = omega (arith, g.more, g.points, p.few);
        }
      where
        keep : (z : ℕ) → (get_or rs z 0 ≡ NONE) ⊎ Span w (get_or moved z 0) (get_or rs z 0) → (get_or rs z 0 ≡ NONE) ⊎ Span x (get_or moved z 0) (get_or rs z 0)
        keep z (inl e) = inl e
        keep z (inr s) = inr (span_kept w x (get_or moved z 0) (get_or rs z 0) g.keeps s)

-- what a pair, and the loops, leave
abbrev pub PairingOf : List ℕ → List ℕ → Out → Type 0
PairingOf rs fs (out (Some m) w ls js) = Pairing w ls rs fs js m
PairingOf rs fs (out None w ls js) = Unit {0}

pub pair_kept : (w ls rs fs js : List ℕ) (m i j : ℕ) → PairAt w ls rs fs js m i j → PairingOf rs fs (pair_of rs fs js i j w ls m)
unfolding pair_of moved_pair join_pair
pair_kept w ls rs fs js m i j t = go (apart_of w ls rs fs i j) refl
  where
    left : Overlapping w ls rs fs i j → (c : Made) → GivesOf w js m c → PairingOf rs fs (with_lefts (set (set ls i (first_one w ls fs i j)) j (second_one w ls fs i j)) c)
    left o (made (Some m') x js') g = pairing_on w ls rs fs i j o js m t.pairing x js' m' g
    left o (made None x js') g = tt

    side : (o : Overlapping w ls rs fs i j) (on : Bool) → PairingOf rs fs (with_lefts (set (set ls i (first_one w ls fs i j)) j (second_one w ls fs i j))
        (cond on (make_join w js m (first_one w ls fs i j) (second_one w ls fs i j)) (make_join w js m (second_one w ls fs i j) (first_one w ls fs i j))))
    side o true = left o (make_join w js m (first_one w ls fs i j) (second_one w ls fs i j)) (make_gives w js m (first_one w ls fs i j) (second_one w ls fs i j) (making_on w ls rs fs i j o js m t.pairing))
    side o false = left o (make_join w js m (second_one w ls fs i j) (first_one w ls fs i j)) (make_gives w js m (second_one w ls fs i j) (first_one w ls fs i j) (making_back w ls rs fs i j o js m t.pairing))

    go : (z : Bool) → apart_of w ls rs fs i j ≡ z → PairingOf rs fs (cond z (out (Some m) w ls js) (moved_pair w ls fs js m i j))
    go true e = t.pairing
    go false e = side (pair_overlaps w ls rs fs js m i j t e) (eqb (get_or fs i 0) 1)
