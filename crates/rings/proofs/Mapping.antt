-- Every view of a circle commutes with a map of its elements.
use mathlib.Core.Path.{◌≡◌, refl, ap, ◌∙◌}
use mathlib.Core.List.{List, [], ◌∷◌, map, map-append}
use mathlib.Core.Bool.{Bool, true, false}
use mathlib.Core.Option.{Option}
use Prim.Native.Nat.{ℕ, zero, suc}
use lib.ListN.{take}
use Rattle.rings.specs.Circle.{turn, spin, last_of, init_of, back, rest, cut_circle}
use Rattle.rings.specs.Progress.{Due, validity, removal, triangle, split, done, Discard, Ring, tidy_at, tidy, map_ring}

module _ {A B : Type 0} (f : A → B) where
  pub map_turn : (c : List A) → map f (turn c) ≡ turn (map f c)
  map_turn [] = refl
  map_turn (x ∷ xs) = map-append f xs (x ∷ [])

  pub map_spin : (k : ℕ) (c : List A) → map f (spin k c) ≡ spin k (map f c)
  map_spin zero c = refl
  map_spin (suc k) c = map_spin k (turn c) ∙ ap (spin k) (map_turn c)

  pub tidy_at_map : (c : List A) (k : ℕ) (s : Option ℕ) (d : Due) (y : Option Discard) → map_ring f (tidy_at c k s d y) ≡ tidy_at (map f c) k s d y
  tidy_at_map c k s validity y = cc (map_spin k c)
  tidy_at_map c k s removal y = refl
  tidy_at_map c k s triangle y = cc (map_spin k c)
  tidy_at_map c k s split y = refl
  tidy_at_map c k s done y = cc (map_spin k c)

  pub tidy_map : (R : Ring A) → map_ring f (tidy R) ≡ tidy (map_ring f R)
  tidy_map R = tidy_at_map R.circle R.first R.start R.due R.why

  pub map_last_of : (x : A) (xs : List A) → f (last_of x xs) ≡ last_of (f x) (map f xs)
  map_last_of x [] = refl
  map_last_of x (y ∷ ys) = map_last_of y ys

  pub map_init_of : (x : A) (xs : List A) → map f (init_of x xs) ≡ init_of (f x) (map f xs)
  map_init_of x [] = refl
  map_init_of x (y ∷ ys) = ap (λ (r : List B). f x ∷ r) (map_init_of y ys)

  pub map_back : (c : List A) → map f (back c) ≡ back (map f c)
  map_back [] = refl
  map_back (x ∷ xs) = cc (map_last_of x xs, map_init_of x xs)

  pub map_rest : (c : List A) → map f (rest c) ≡ rest (map f c)
  map_rest [] = refl
  map_rest (x ∷ xs) = refl

  pub map_take2 : (c : List A) → map f (take 2 c) ≡ take 2 (map f c)
  map_take2 [] = refl
  map_take2 (x ∷ []) = refl
  map_take2 (x ∷ y ∷ r) = refl

  pub map_cut_circle : (sp : Bool) (a : A) (c : List A) → map f (cut_circle sp a c) ≡ cut_circle sp (f a) (map f c)
  map_cut_circle sp a [] = refl
  map_cut_circle sp a (p ∷ []) = refl
  map_cut_circle sp a (p ∷ x ∷ []) = refl
  map_cut_circle true a (p ∷ x ∷ y ∷ r) = refl
  map_cut_circle false a (p ∷ x ∷ y ∷ r) = refl
