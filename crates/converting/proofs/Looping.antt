-- The loops over pairs: each turn keeps the invariant, and the loops follow their definitions.
use Prim.Native.Nat.{ℕ, zero, suc, ◌+◌, ◌-◌, ◌≤◌, ◌<◌}
use mathlib.Core.Path.{◌≡◌, refl, ap, ◌∙◌, sym, subst}
use mathlib.Core.Logic.{◌≢◌}
use mathlib.Core.Bool.{Bool, true, false, cond}
use mathlib.Core.List.{List}
use native.Mathlib.Omega.{arith}
use lib.Dec.{eqb}
use lib.ListN.{get_or, set, length}
use borrow.Author.Tests.{eq-eqb, ne_eqb, eqb-false}
use Rattle.std.proofs.Common.{Option, Some, None}
use Rattle.store.specs.Field.{NONE, BLOCK}
use Rattle.segments.specs.Needs.{Meeting}
use Rattle.converting.specs.Make.{made, make_join, Out, out, with_lefts, apart_of, join_pair, first_one, second_one, moved_pair, pair_of, and_then, inner_from, outer_from}
use Rattle.converting.specs.Needs.{Making, Pairing, Valid, Overlapping, Moving, Joining, PairAt}
use Rattle.converting.proofs.Making.{span_low, pair_overlaps, making_on, making_back, PairingOf, pair_kept}

-- ---- the needs of apart and of moved

module _ (w ls rs fs : List ℕ) (i j : ℕ) (t : Valid w ls rs fs i j) where
  pub valid_long : BLOCK ≤ length w
  valid_long = t.ready.long

  pub valid_lefts_i : i < length ls
  valid_lefts_i = omega (arith, t.one_low, t.lefts)

  pub valid_lefts_j : j < length ls
  valid_lefts_j = omega (arith, t.two_low, t.lefts)

  pub valid_rights_i : i < length rs
  valid_rights_i = omega (arith, t.one_low, t.rights)

  pub valid_rights_j : j < length rs
  valid_rights_j = omega (arith, t.two_low, t.rights)

  pub valid_forwards_i : i < length fs
  valid_forwards_i = omega (arith, t.one_low, t.forwards)

  pub valid_forwards_j : j < length fs
  valid_forwards_j = omega (arith, t.two_low, t.forwards)

  pub valid_left_i : get_or ls i 0 < 2048
  valid_left_i = (span_low w (get_or ls i 0) (get_or rs i 0) t.one).0

  pub valid_right_i : get_or rs i 0 < 2048
  valid_right_i = (span_low w (get_or ls i 0) (get_or rs i 0) t.one).1

  pub valid_left_j : get_or ls j 0 < 2048
  valid_left_j = (span_low w (get_or ls j 0) (get_or rs j 0) t.two).0

  pub valid_right_j : get_or rs j 0 < 2048
  valid_right_j = (span_low w (get_or ls j 0) (get_or rs j 0) t.two).1

-- the needs of moved
module _ (w ls fs : List ℕ) (i j : ℕ) (t : Moving w ls fs i j) where
  pub moving_low : (l : ℕ) → l ≡ get_or ls i 0 → l < 2048
  moving_low l e = rw e (span_low w (get_or ls i 0) t.meeting.r1 t.meeting.overlap.one).0

  pub moving_long : BLOCK ≤ length w
  moving_long = t.meeting.overlap.one.same.ready.long

  pub moving_meets : (l1 l2 : ℕ) → l1 ≡ get_or ls i 0 → l2 ≡ get_or ls j 0 → Meeting w l1 l2
  moving_meets l1 l2 a b = rw (a, b) t.meeting

module _ (w ls rs fs : List ℕ) (i j : ℕ) (t : Overlapping w ls rs fs i j) where
  pub overlapping_lefts_i : i < length ls
  overlapping_lefts_i = omega (arith, t.before, t.low, t.lefts)

  pub overlapping_lefts_j : j < length ls
  overlapping_lefts_j = omega (arith, t.low, t.lefts)

  pub overlapping_forwards : i < length fs
  overlapping_forwards = omega (arith, t.before, t.low, t.forwards)

  pub moving_of : Moving w ls fs i j
  moving_of = record { lefts = t.lefts; forwards = t.forwards; before = t.before; low = t.low; meeting = record { r1 = get_or rs i 0; r2 = get_or rs j 0; overlap = t.overlap } }

  pub joining_of : (js : List ℕ) (m : ℕ) → Pairing w ls rs fs js m → Joining w ls fs js m i j
  joining_of js m p = record { rights = rs; overlapping = t; pairing = p }

  -- the needs of join_pair
  module _ (js : List ℕ) (m a b : ℕ) (p : Pairing w ls rs fs js m) (e : a ≡ first_one w ls fs i j) (f : b ≡ second_one w ls fs i j) where
    pub join_on : Making w js m a b
    join_on = rw (e, f) (making_on w ls rs fs i j t js m p)

    pub join_back : Making w js m b a
    join_back = rw (e, f) (making_back w ls rs fs i j t js m p)

    module _ (g : ℕ) (ls₁ ls₂ x js' : List ℕ) (r : Option ℕ) (h : g ≡ get_or fs i 0) (k : ls₁ ≡ set ls i a) (l : ls₂ ≡ set ls₁ j b) where
      pub joined_on : g ≡ 1 → made r x js' ≡ make_join w js m a b → out r x ls₂ js' ≡ moved_pair w ls fs js m i j
      unfolding moved_pair join_pair
      joined_on n q =
          let z : eqb (get_or fs i 0) 1 ≡ true = eq-eqb (get_or fs i 0) 1 (sym h ∙ n) in
          ap (λ (y : List ℕ). out r x y js') (l ∙ ap (λ (y : List ℕ). set y j b) k) ∙ ap (with_lefts (set (set ls i a) j b)) q ∙ rw (z, e, f)

      pub joined_back : g ≢ 1 → made r x js' ≡ make_join w js m b a → out r x ls₂ js' ≡ moved_pair w ls fs js m i j
      unfolding moved_pair join_pair
      joined_back n q =
          let z : eqb (get_or fs i 0) 1 ≡ false = ne_eqb (get_or fs i 0) 1 (λ y. n (h ∙ y)) in
          ap (λ (y : List ℕ). out r x y js') (l ∙ ap (λ (y : List ℕ). set y j b) k) ∙ ap (with_lefts (set (set ls i a) j b)) q ∙ rw (z, e, f)

-- ---- the needs of pair

module _ (w ls rs fs js : List ℕ) (m i j : ℕ) (b : Bool) (e : b ≡ apart_of w ls rs fs i j) where
  pub pair_apart : b ≡ true → out (Some m) w ls js ≡ pair_of rs fs js i j w ls m
  unfolding pair_of
  pair_apart f =
      let z : apart_of w ls rs fs i j ≡ true = sym e ∙ f in
      rw z

  pub pair_joined : (r : Option ℕ) (x ls' js' : List ℕ) → b ≡ false → out r x ls' js' ≡ moved_pair w ls fs js m i j → out r x ls' js' ≡ pair_of rs fs js i j w ls m
  unfolding pair_of
  pair_joined r x ls' js' f g =
      let z : apart_of w ls rs fs i j ≡ false = sym e ∙ f in
      rw z g

  pub pair_over : PairAt w ls rs fs js m i j → b ≡ false → Overlapping w ls rs fs i j
  pair_over t f = pair_overlaps w ls rs fs js m i j t (sym e ∙ f)

pub pair_pairing : (w ls rs fs js : List ℕ) (m i j : ℕ) → PairAt w ls rs fs js m i j → Pairing w ls rs fs js m
pair_pairing w ls rs fs js m i j t = t.pairing

-- ---- segment i with those after it

inner_one : (f : ℕ) (rs fs : List ℕ) (i j : ℕ) (w ls js : List ℕ) (m : ℕ) → inner_from (suc f) rs fs i j w ls js m ≡ cond (eqb (get_or rs j 0) NONE) (out (Some m) w ls js) (and_then (inner_from f rs fs i (j + 1)) (pair_of rs fs js i j w ls m))
unfolding inner_from
inner_one f rs fs i j w ls js m = refl

inner_none : (rs fs : List ℕ) (i j : ℕ) (w ls js : List ℕ) (m : ℕ) → inner_from zero rs fs i j w ls js m ≡ out (Some m) w ls js
unfolding inner_from
inner_none rs fs i j w ls js m = refl

pub record Inner (F : Out) (w ls rs fs js : List ℕ) (m i j : ℕ) : Type 0 where
  pub pairing : Pairing w ls rs fs js m
  pub valid : get_or rs i 0 ≢ NONE
  pub before : i < j
  pub left : ℕ
  pub far : j + left ≡ 256
  pub goes : inner_from left rs fs i j w ls js m ≡ F

pub inner_begun : (w ls rs fs js : List ℕ) (m i : ℕ) → Pairing w ls rs fs js m → i < 256 → get_or rs i 0 ≢ NONE → Inner (inner_from (256 - (i + 1)) rs fs i (i + 1) w ls js m) w ls rs fs js m i (i + 1)
inner_begun w ls rs fs js m i p h d = record { pairing = p; valid = d; before = omega arith; left = 256 - (i + 1); far = omega arith; goes = refl }

module _ (F : Out) (w ls rs fs js : List ℕ) (m i j : ℕ) (t : Inner F w ls rs fs js m i j) where
  pub inner_row : j < 256 → j < length rs
  inner_row h = omega (arith, t.pairing.rights)

  pub inner_done : 256 ≤ j → out (Some m) w ls js ≡ F
  inner_done h = go t.left t.far t.goes
    where
      go : (n : ℕ) → j + n ≡ 256 → inner_from n rs fs i j w ls js m ≡ F → out (Some m) w ls js ≡ F
      go zero p q = sym (inner_none rs fs i j w ls js m) ∙ q
      go (suc n) p q = absurd (omega arith)

  module _ (h : j < 256) (r : ℕ) (e : r ≡ get_or rs j 0) where
    pub inner_stop : r ≡ NONE → out (Some m) w ls js ≡ F
    inner_stop d = go t.left t.far t.goes
      where
        go : (n : ℕ) → j + n ≡ 256 → inner_from n rs fs i j w ls js m ≡ F → out (Some m) w ls js ≡ F
        go zero p q = absurd (omega arith)
        go (suc n) p q = rw (eq-eqb (get_or rs j 0) NONE (sym e ∙ d)) at (sym (inner_one n rs fs i j w ls js m) ∙ q)

    module _ (d : r ≢ NONE) where
      pub inner_pair : PairAt w ls rs fs js m i j
      inner_pair = record { pairing = t.pairing; before = t.before; low = h; one = t.valid; two = λ z. d (e ∙ z) }

      inner_on : (n : ℕ) → inner_from (suc n) rs fs i j w ls js m ≡ F → and_then (inner_from n rs fs i (j + 1)) (pair_of rs fs js i j w ls m) ≡ F
      inner_on n q = rw (ne_eqb (get_or rs j 0) NONE (λ z. d (e ∙ z))) at (sym (inner_one n rs fs i j w ls js m) ∙ q)

      module _ (p : Option ℕ) (x ls' js' : List ℕ) (f : out p x ls' js' ≡ pair_of rs fs js i j w ls m) where
        pub inner_next : (k : ℕ) → p ≡ Some k → Inner F x ls' rs fs js' k i (j + 1)
        inner_next k g = go t.left t.far t.goes
          where
            z : out (Some k) x ls' js' ≡ pair_of rs fs js i j w ls m
            z = ap (λ (c : Option ℕ). out c x ls' js') (sym g) ∙ f

            go : (n : ℕ) → j + n ≡ 256 → inner_from n rs fs i j w ls js m ≡ F → Inner F x ls' rs fs js' k i (j + 1)
            go zero a q = absurd (omega arith)
            go (suc n) a q =
                record {
                  pairing = subst (PairingOf rs fs) (sym z) (pair_kept w ls rs fs js m i j inner_pair);
                  valid = t.valid;
                  before = omega (arith, t.before);
                  left = n;
                  far = omega arith;
                  goes = ap (and_then (inner_from n rs fs i (j + 1))) z ∙ inner_on n q;
                }

        pub inner_full : p ≡ None → out None x ls' js' ≡ F
        inner_full g = go t.left t.far t.goes
          where
            z : out None x ls' js' ≡ pair_of rs fs js i j w ls m
            z = ap (λ (c : Option ℕ). out c x ls' js') (sym g) ∙ f

            go : (n : ℕ) → j + n ≡ 256 → inner_from n rs fs i j w ls js m ≡ F → out None x ls' js' ≡ F
            go zero a q = absurd (omega arith)
            go (suc n) a q = ap (and_then (inner_from n rs fs i (j + 1))) z ∙ inner_on n q

-- it keeps the invariant
pub inner_kept : (f : ℕ) (rs fs : List ℕ) (i j : ℕ) (w ls js : List ℕ) (m : ℕ) → Pairing w ls rs fs js m → get_or rs i 0 ≢ NONE → i < j → j + f ≡ 256 → PairingOf rs fs (inner_from f rs fs i j w ls js m)
unfolding inner_from
inner_kept zero rs fs i j w ls js m p v b e = p
inner_kept (suc f) rs fs i j w ls js m p v b e = go (eqb (get_or rs j 0) NONE) refl (λ x ls' js' k q. inner_kept f rs fs i (j + 1) x ls' js' k q v (omega arith) (omega arith))
  where
    after : (c : Out) → PairingOf rs fs c → ((x ls' js' : List ℕ) (k : ℕ) → Pairing x ls' rs fs js' k → PairingOf rs fs (inner_from f rs fs i (j + 1) x ls' js' k)) → PairingOf rs fs (and_then (inner_from f rs fs i (j + 1)) c)
    after (out (Some k) x ls' js') q r = r x ls' js' k q
    after (out None x ls' js') q r = tt

    go : (z : Bool) → eqb (get_or rs j 0) NONE ≡ z → ((x ls' js' : List ℕ) (k : ℕ) → Pairing x ls' rs fs js' k → PairingOf rs fs (inner_from f rs fs i (j + 1) x ls' js' k)) → PairingOf rs fs (cond z (out (Some m) w ls js) (and_then (inner_from f rs fs i (j + 1)) (pair_of rs fs js i j w ls m)))
    go true d r = p
    go false d r = after (pair_of rs fs js i j w ls m) (pair_kept w ls rs fs js m i j (record { pairing = p; before = b; low = omega arith; one = v; two = eqb-false _ _ d })) r

-- ---- every segment with those after it

outer_one : (f : ℕ) (rs fs : List ℕ) (i : ℕ) (w ls js : List ℕ) (m : ℕ) → outer_from (suc f) rs fs i w ls js m ≡ cond (eqb (get_or rs i 0) NONE) (out (Some m) w ls js) (and_then (outer_from f rs fs (i + 1)) (inner_from f rs fs i (i + 1) w ls js m))
unfolding outer_from
outer_one f rs fs i w ls js m = refl

outer_none : (rs fs : List ℕ) (i : ℕ) (w ls js : List ℕ) (m : ℕ) → outer_from zero rs fs i w ls js m ≡ out (Some m) w ls js
unfolding outer_from
outer_none rs fs i w ls js m = refl

pub record Outer (F : Out) (w ls rs fs js : List ℕ) (m i : ℕ) : Type 0 where
  pub pairing : Pairing w ls rs fs js m
  pub left : ℕ
  pub far : i + left ≡ 256
  pub goes : outer_from left rs fs i w ls js m ≡ F

pub outer_begun : (w ls rs fs js : List ℕ) (m : ℕ) → Pairing w ls rs fs js m → Outer (outer_from 256 rs fs 0 w ls js m) w ls rs fs js m 0
outer_begun w ls rs fs js m p = record { pairing = p; left = 256; far = refl; goes = refl }

module _ (F : Out) (w ls rs fs js : List ℕ) (m i : ℕ) (t : Outer F w ls rs fs js m i) where
  pub outer_row : i < 256 → i < length rs
  outer_row h = omega (arith, t.pairing.rights)

  pub outer_done : 256 ≤ i → out (Some m) w ls js ≡ F
  outer_done h = go t.left t.far t.goes
    where
      go : (n : ℕ) → i + n ≡ 256 → outer_from n rs fs i w ls js m ≡ F → out (Some m) w ls js ≡ F
      go zero p q = sym (outer_none rs fs i w ls js m) ∙ q
      go (suc n) p q = absurd (omega arith)

  module _ (h : i < 256) (r : ℕ) (e : r ≡ get_or rs i 0) where
    pub outer_stop : r ≡ NONE → out (Some m) w ls js ≡ F
    outer_stop d = go t.left t.far t.goes
      where
        go : (n : ℕ) → i + n ≡ 256 → outer_from n rs fs i w ls js m ≡ F → out (Some m) w ls js ≡ F
        go zero p q = absurd (omega arith)
        go (suc n) p q = rw (eq-eqb (get_or rs i 0) NONE (sym e ∙ d)) at (sym (outer_one n rs fs i w ls js m) ∙ q)

    module _ (d : r ≢ NONE) where
      pub outer_valid : get_or rs i 0 ≢ NONE
      outer_valid z = d (e ∙ z)

      outer_on : (n : ℕ) → i + suc n ≡ 256 → outer_from (suc n) rs fs i w ls js m ≡ F → and_then (outer_from n rs fs (i + 1)) (inner_from (256 - (i + 1)) rs fs i (i + 1) w ls js m) ≡ F
      outer_on n a q =
          let k : 256 - (i + 1) ≡ n = omega arith in
          rw k (rw (ne_eqb (get_or rs i 0) NONE (λ z. d (e ∙ z))) at (sym (outer_one n rs fs i w ls js m) ∙ q))

      module _ (p : Option ℕ) (x ls' js' : List ℕ) (f : out p x ls' js' ≡ inner_from (256 - (i + 1)) rs fs i (i + 1) w ls js m) where
        pub outer_next : (k : ℕ) → p ≡ Some k → Outer F x ls' rs fs js' k (i + 1)
        outer_next k g = go t.left t.far t.goes
          where
            z : out (Some k) x ls' js' ≡ inner_from (256 - (i + 1)) rs fs i (i + 1) w ls js m
            z = ap (λ (c : Option ℕ). out c x ls' js') (sym g) ∙ f

            go : (n : ℕ) → i + n ≡ 256 → outer_from n rs fs i w ls js m ≡ F → Outer F x ls' rs fs js' k (i + 1)
            go zero a q = absurd (omega arith)
            go (suc n) a q =
                record {
                  pairing = subst (PairingOf rs fs) (sym z) (inner_kept (256 - (i + 1)) rs fs i (i + 1) w ls js m t.pairing (λ y. d (e ∙ y)) (omega arith) (omega arith));
                  left = n;
                  far = omega arith;
                  goes = ap (and_then (outer_from n rs fs (i + 1))) z ∙ outer_on n a q;
                }

        pub outer_full : p ≡ None → out None x ls' js' ≡ F
        outer_full g = go t.left t.far t.goes
          where
            z : out None x ls' js' ≡ inner_from (256 - (i + 1)) rs fs i (i + 1) w ls js m
            z = ap (λ (c : Option ℕ). out c x ls' js') (sym g) ∙ f

            go : (n : ℕ) → i + n ≡ 256 → outer_from n rs fs i w ls js m ≡ F → out None x ls' js' ≡ F
            go zero a q = absurd (omega arith)
            go (suc n) a q = ap (and_then (outer_from n rs fs (i + 1))) z ∙ outer_on n a q

-- it keeps the invariant
pub outer_kept : (f : ℕ) (rs fs : List ℕ) (i : ℕ) (w ls js : List ℕ) (m : ℕ) → Pairing w ls rs fs js m → i + f ≡ 256 → PairingOf rs fs (outer_from f rs fs i w ls js m)
unfolding outer_from
outer_kept zero rs fs i w ls js m p e = p
outer_kept (suc f) rs fs i w ls js m p e = go (eqb (get_or rs i 0) NONE) refl (λ x ls' js' k q. outer_kept f rs fs (i + 1) x ls' js' k q (omega arith))
  where
    after : (c : Out) → PairingOf rs fs c → ((x ls' js' : List ℕ) (k : ℕ) → Pairing x ls' rs fs js' k → PairingOf rs fs (outer_from f rs fs (i + 1) x ls' js' k)) → PairingOf rs fs (and_then (outer_from f rs fs (i + 1)) c)
    after (out (Some k) x ls' js') q r = r x ls' js' k q
    after (out None x ls' js') q r = tt

    go : (z : Bool) → eqb (get_or rs i 0) NONE ≡ z → ((x ls' js' : List ℕ) (k : ℕ) → Pairing x ls' rs fs js' k → PairingOf rs fs (outer_from f rs fs (i + 1) x ls' js' k)) → PairingOf rs fs (cond z (out (Some m) w ls js) (and_then (outer_from f rs fs (i + 1)) (inner_from f rs fs i (i + 1) w ls js m)))
    go true d r = p
    go false d r = after (inner_from f rs fs i (i + 1) w ls js m) (inner_kept f rs fs i (i + 1) w ls js m p (eqb-false _ _ d) (omega arith) (omega arith)) r
