-- After row 7 has passed, the record whose ring a point is on is the one that it resolves to; so row 8 can ask that record.
use mathlib.Core.Path.{◌≡◌, refl, sym, ap, ◌∙◌}
use mathlib.Core.Bool.{Bool, true, false, ◌&&◌, ◌||◌}
use mathlib.Core.List.{List, [], ◌∷◌}
use Prim.Native.Nat.{ℕ, zero, suc, ◌<◌}
use native.Mathlib.Decide.{ℕ_discrete}
use native.Mathlib.Omega.{arith}
use lib.Dec.{eqb, leb}
use lib.ListN.{get_or}
use borrow.Author.Tests.{eqb-true, leb-false, not-false}
use Rattle.store.specs.Words.{view}
use Rattle.store.specs.Named.{points_of, records_of}
use Rattle.store.specs.Sound.{ring_at, is_open}
use Rattle.audit.specs.Tests.{is_in, any_below}
use Rattle.audit.proofs.Saying.{none_of, all_none}
use Rattle.audit.proofs.Testing.{hit}
use Rattle.joins.specs.Resolve.{home_of}
use Rattle.owners.specs.Owners.{circles}
use Rattle.visits.specs.Rings.{any_in, on_ring, alone, elsewhere, estranged}
use Rattle.rows.specs.Rows.{muddled, on_open, unnamed}
use Rattle.rows.specs.Found.{Named}
use Rattle.audit.proofs.Testing.{or_left, or_right}
use Rattle.visits.proofs.Marking.{in_else}

-- a test that holds of some number below n
pub some_below : (n : ℕ) (q : ℕ → Bool) → any_below n q ≡ true → (k : ℕ) × (k < n) × (q k ≡ true)
unfolding any_below
some_below zero q e = absurd (let z : ◌≡◌ {A = ℕ} 0 1 = cc in omega arith)
some_below (suc n) q e = by (any_below n q) refl (q n) refl e (some_below n q)
  where
    by : (a : Bool) → any_below n q ≡ a → (b : Bool) → q n ≡ b → (a || b) ≡ true → (any_below n q ≡ true → (k : ℕ) × (k < n) × (q k ≡ true)) → (k : ℕ) × (k < suc n) × (q k ≡ true)
    by true x b y z f = let r = f x in (r.0, omega (arith, r.1), r.2)
    by false x b y z f = (n, omega arith, y ∙ z)

none_in : (q : ℕ → Bool) (k : ℕ) (l : List ℕ) → any_in q l ≡ false → is_in k l ≡ true → q k ≡ false
unfolding any_in
none_in q k [] e h = absurd (let z : ◌≡◌ {A = ℕ} 0 1 = cc in omega arith)
none_in q k (x ∷ l) e h = by (ℕ_discrete x k) (or_left (q x) (any_in q l) e) (none_in q k l (or_right (q x) (any_in q l) e))
  where
    by : Dec (x ≡ k) → q x ≡ false → (is_in k l ≡ true → q k ≡ false) → q k ≡ false
    by (yes d) f g = ap q (sym d) ∙ f
    by (no d) f g = g (sym (in_else k x l d) ∙ h)

module _ (w : List ℕ) (clear : muddled w ≡ false) where
  passed : (any_below (records_of w) (estranged w) || any_below (points_of w) (alone w)) ≡ false
  passed = or_right (any_below (records_of w) (circles w)) (any_below (records_of w) (estranged w) || any_below (points_of w) (alone w)) clear

  -- a ring that has the point is that of the record it resolves to
  pub ring_home : (i k : ℕ) → i < records_of w → on_ring w i k ≡ true → home_of w k ≡ i
  ring_home i k h r =
      let a = or_left (any_below (records_of w) (estranged w)) (any_below (points_of w) (alone w)) passed in
      let b = none_of (records_of w) (estranged w) a i h in
      eqb-true (home_of w k) i (not-false (eqb (home_of w k) i) (none_in (elsewhere w i) k (ring_at (view w) i) b r))

  -- and there is one
  pub has_home : (k : ℕ) → k < points_of w → (home_of w k < records_of w) × (on_ring w (home_of w k) k ≡ true)
  has_home k h =
      let a = or_right (any_below (records_of w) (estranged w)) (any_below (points_of w) (alone w)) passed in
      let b = none_of (points_of w) (alone w) a k h in
      let s = some_below (records_of w) (λ i. on_ring w i k) (not-false (any_below (records_of w) (λ i. on_ring w i k)) b) in
      let e = ring_home s.0 k s.1 s.2 in
      rw e (s.1, s.2)

  pub open_is : (k : ℕ) → k < points_of w → is_open (view w) (home_of w k) ≡ on_open w k
  open_is k h = by (is_open (view w) (home_of w k)) refl
    where
      with_ring : (i : ℕ) → i < records_of w → is_open (view w) (home_of w k) ≡ false → (b : Bool) → on_ring w i k ≡ b → (is_open (view w) i && b) ≡ false
      with_ring i l o true r = rw (← ring_home i k l r) (and_true (is_open (view w) (home_of w k)) ∙ o)
        where
          and_true : (b : Bool) → (b && true) ≡ b
          and_true true = refl
          and_true false = refl
      with_ring i l o false r = and_false (is_open (view w) i)
        where
          and_false : (b : Bool) → (b && false) ≡ false
          and_false true = refl
          and_false false = refl

      by : (b : Bool) → is_open (view w) (home_of w k) ≡ b → b ≡ on_open w k
      by true o =
          let s = has_home k h in
          hit (λ i. is_open (view w) i && on_ring w i k) (records_of w) (records_of w) (home_of w k) (is_open (view w) (home_of w k) && on_ring w (home_of w k) k) s.0 refl refl (rw (o, s.1))
      by false o = sym (all_none (records_of w) (λ i. is_open (view w) i && on_ring w i k) (λ i l. with_ring i l o (on_ring w i k) refl))

-- a list of which no number names nothing
pub named_at : (w l : List ℕ) (n : ℕ) → unnamed w l n ≡ false → (i : ℕ) → i < n → get_or l i 0 < points_of w
named_at w l n e i h = leb-false (points_of w) (get_or l i 0) (none_of n (λ j. leb (points_of w) (get_or l j 0)) e i h)

-- each is on an open ring exactly when its home is open
pub open_each : {w l : List ℕ} {n : ℕ} → Named w l n → (i : ℕ) → i < n → is_open (view w) (home_of w (get_or l i 0)) ≡ on_open w (get_or l i 0)
open_each {w} {l} {n} g i h = open_is w g.clear (get_or l i 0) (named_at w l n g.named i h)
