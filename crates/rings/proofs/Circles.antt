-- Laws of circles seen from other places.
use mathlib.Core.Path.{◌≡◌, refl, sym, ap, ◌∙◌, subst}
use mathlib.Core.List.{List, [], ◌∷◌, ◌++◌, append-nil, append_assoc}
use Prim.Native.Nat.{ℕ, zero, suc}
use native.Mathlib.Omega.{arith}
use lib.ListN.{length, length-append}
use Rattle.rings.specs.Circle.{turn, spin, last_of, init_of, back, ahead}

module _ {A : Type 0} where
  pub length_turn : (c : List A) → length (turn c) ≡ length c
  length_turn [] = refl
  length_turn (x ∷ xs) = omega (arith, length-append xs (x ∷ []))

  pub length_spin : (k : ℕ) (c : List A) → length (spin k c) ≡ length c
  length_spin zero c = refl
  length_spin (suc k) c = length_spin k (turn c) ∙ length_turn c

  pub init_of_snoc : (z : A) (l : List A) (p : A) → init_of z (l ++ (p ∷ [])) ≡ z ∷ l
  init_of_snoc z [] p = refl
  init_of_snoc z (y ∷ l) p = ap (λ (r : List A). z ∷ r) (init_of_snoc y l p)

  pub turn_back : (c : List A) → turn (back c) ≡ c
  turn_back [] = refl
  turn_back (x ∷ xs) = go x xs
    where
      go : (y : A) (ys : List A) → init_of y ys ++ (last_of y ys ∷ []) ≡ y ∷ ys
      go y [] = refl
      go y (z ∷ ys) = ap (λ (r : List A). y ∷ r) (go z ys)

  pub spin_past : (a : List A) (b : List A) → spin (length a) (a ++ b) ≡ b ++ a
  spin_past [] b = sym (append-nil b)
  spin_past (x ∷ a) b = ap (spin (length a)) (append_assoc a b (x ∷ [])) ∙ spin_past a (b ++ (x ∷ [])) ∙ append_assoc b (x ∷ []) a

  -- all the way round
  pub spin_round : (c : List A) → spin (length c) c ≡ c
  spin_round c = subst (λ (l : List A). spin (length c) l ≡ c) (append-nil c) (spin_past c [])

  -- seen from the next place, and a place less to go
  pub spin_ahead : (f : ℕ) (x : A) (xs : List A) → spin (ahead (suc (length xs)) f) (turn (x ∷ xs)) ≡ spin f (x ∷ xs)
  spin_ahead zero x xs = spin_round (x ∷ xs)
  spin_ahead (suc k) x xs = refl

  pub length_init_of : (x : A) (xs : List A) → length (init_of x xs) ≡ length xs
  length_init_of x [] = refl
  length_init_of x (y ∷ ys) = ap suc (length_init_of y ys)
