-- Circles: a ring's elements as a list from one place, in walk order, and how it is seen from another place.
use Rattle.std.specs.Prelude.{Bool, true, false, cond, List, [], ◌∷◌, ◌++◌, ℕ, zero, suc, ◌+◌, eqb}
use Rattle.std.proofs.Math.Option.{Option, none, some}

-- circles: a list from one place, in walk order
module _ {A : Type 0} where
  -- seen from the next place
  abbrev pub turn : List A → List A
  turn [] = []
  turn (x ∷ xs) = xs ++ (x ∷ [])

  abbrev pub spin : ℕ → List A → List A
  spin zero c = c
  spin (suc k) c = spin k (turn c)

  abbrev pub last_of : A → List A → A
  last_of x [] = x
  last_of x (y ∷ ys) = last_of y ys

  abbrev pub init_of : A → List A → List A
  init_of x [] = []
  init_of x (y ∷ ys) = x ∷ init_of y ys

  -- seen from the place before
  abbrev pub back : List A → List A
  back [] = []
  back (x ∷ xs) = last_of x xs ∷ init_of x xs

  abbrev pub head_or : A → List A → A
  head_or d [] = d
  head_or d (x ∷ xs) = x

  abbrev pub rest : List A → List A
  rest [] = []
  rest (x ∷ xs) = xs

  -- one or three points (or none): the point before is the second after, `prev == next.next`
  abbrev pub one_or_three : List A → Bool
  one_or_three [] = true
  one_or_three (a ∷ []) = true
  one_or_three (a ∷ b ∷ []) = false
  one_or_three (a ∷ b ∷ c ∷ []) = true
  one_or_three (a ∷ b ∷ c ∷ d ∷ r) = false

  -- the circle after a cut, of the circle seen from the point before it: the two points after the first are gone
  abbrev pub cut_circle : Bool → A → List A → List A
  cut_circle sp a [] = []
  cut_circle sp a (p ∷ []) = []
  cut_circle sp a (p ∷ x ∷ []) = []
  cut_circle true a (p ∷ x ∷ y ∷ r) = p ∷ a ∷ r
  cut_circle false a (p ∷ x ∷ y ∷ r) = p ∷ r

-- how many places ahead, of a circle now of n points, after the present place moved on by one (or was dropped)
abbrev pub ahead : ℕ → ℕ → ℕ
ahead zero zero = zero
ahead (suc n) zero = n
ahead n (suc k) = k

abbrev pub omap : {A B : Type 0} → (A → B) → Option A → Option B
omap f none = none
omap f (some a) = some (f a)

-- where the loop's start is after a cut, in a circle that had n points: the point before the cut is the present place now
abbrev pub cut_start : Bool → ℕ → Option ℕ → Option ℕ
cut_start sp n none = none
cut_start sp n (some zero) = none
cut_start sp n (some (suc zero)) = none
cut_start sp n (some (suc (suc k))) = some (cond (eqb (3 + k) n) 0 (cond sp (2 + k) (1 + k)))
