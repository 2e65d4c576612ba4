-- A path has at least two points, and no more than its ring.
use mathlib.Core.Path.{◌≡◌, refl, ap, subst}
use mathlib.Core.List.{List, [], ◌∷◌}
use mathlib.Core.Option.{none, some}
use mathlib.Core.Bool.{Bool, true, false, cond, not, ◌&&◌}
use Prim.Native.Nat.{ℕ, suc, ◌≤◌}
use native.Mathlib.Omega.{arith}
use lib.ListN.{length, length-reverse}
use lib.Dec.{eqb, leb}
use borrow.Author.Tests.{leb-true}
use Rattle.rings.specs.Circle.{turn}
use Rattle.rings.proofs.Circles.{length_turn}
use Rattle.lone.specs.Lone.{Geo}
use Rattle.lone.specs.Path.{in_order, drop_equals, without_equals, is_small_ring, build_path64_from_outpt}

length_order : {P : Type 0} (rev : Bool) (c : List P) → length (in_order rev c) ≡ length c
length_order false c = length_turn c
length_order true [] = refl
length_order true (q ∷ qs) = ap suc (length-reverse qs)

module _ {P : Type 0} (G : Geo P) where
  pub dropped : (l : P) (c : List P) → length (drop_equals G l c) ≤ length c
  dropped l [] = omega arith
  dropped l (q ∷ qs) = go (G.same_point q l) (dropped l qs) (dropped q qs)
    where
      go : (b : Bool) → length (drop_equals G l qs) ≤ length qs → length (drop_equals G q qs) ≤ length qs → length (cond b (drop_equals G l qs) (q ∷ drop_equals G q qs)) ≤ suc (length qs)
      go true h k = omega arith
      go false h k = omega arith

  without : (c : List P) → length (without_equals G c) ≤ length c
  without [] = omega arith
  without (q ∷ qs) = omega (arith, dropped q qs)

  pub record Short (c p : List P) : Type 0 where
    pub two : 2 ≤ length p
    pub short : length p ≤ length c

  pub path_short : (rev is_open : Bool) (c p : List P) → build_path64_from_outpt G rev is_open c ≡ some p → Short c p
  unfolding build_path64_from_outpt
  path_short rev is_open c p h = go (leb (length c) (cond is_open 1 2)) (not is_open && eqb (length path) 3 && is_small_ring G (cond rev c (turn c))) (leb 2 (length path)) refl h
    where
      path : List P
      path = without_equals G (in_order rev c)

      go : (x y z : Bool) → leb 2 (length path) ≡ z → cond x none (cond y none (cond z (some path) none)) ≡ some p → Short c p
      go true y z e k = let q : ◌≡◌ {A = ℕ} 0 1 = cc in absurd (omega arith)
      go false true z e k = let q : ◌≡◌ {A = ℕ} 0 1 = cc in absurd (omega arith)
      go false false false e k = let q : ◌≡◌ {A = ℕ} 0 1 = cc in absurd (omega arith)
      go false false true e k = let q : path ≡ p = cc in subst (Short c) q (record { two = leb-true 2 (length path) e; short = omega (arith, without (in_order rev c), length_order rev c) })
