-- Where a number stands on a circle: how many places ahead, if it is there.
use Rattle.std.specs.Prelude.{Bool, true, false, cond, List, [], ◌∷◌, ℕ, zero, suc, eqb}
use Rattle.std.proofs.Math.Option.{Option, none, some}
use Rattle.rings.specs.Circle.{omap}

abbrev pub place : ℕ → List ℕ → Option ℕ
place s [] = none
place s (x ∷ xs) = cond (eqb x s) (some 0) (omap suc (place s xs))

abbrev pub or_zero : Option ℕ → ℕ
or_zero none = 0
or_zero (some k) = k

-- at the present place
abbrev pub is_here : Option ℕ → Bool
is_here none = false
is_here (some zero) = true
is_here (some (suc k)) = false
