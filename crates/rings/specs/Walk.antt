-- The walk along next from a point until it again. A ring has at most as many points as a job may.
use Rattle.std.specs.Prelude.{ℕ, zero, suc, cond, List, [], ◌∷◌, eqb}
use Rattle.job.specs.Limits as limit

-- from a along n to the one whose next is stop, at most f of them
unfoldable pub run : (ℕ → ℕ) → ℕ → ℕ → ℕ → List ℕ
run n stop zero a = []
run n stop (suc f) a = a ∷ cond (eqb (n a) stop) [] (run n stop f (n a))

abbrev pub walk : (ℕ → ℕ) → ℕ → List ℕ
walk n a = run n a limit.POINTS a
