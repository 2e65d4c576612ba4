-- Finishing the rings: every ring stepped until it is done, in rising record order, offcuts as they come; the middle of finishing in one call.
use Rattle.std.specs.Prelude.{ℕ, zero, suc, List, [], ◌∷◌, ◌++◌}
use Rattle.store.specs.Words.{view}
use Rattle.store.specs.Boxes.{all_boxed}
use Rattle.acts.specs.Finish.{RingsEnd, rings_done, rings_full, finish_w}
use Rattle.turns.specs.Form.{raised, geometry_of}

-- then each ring's box is beside it
abbrev pub then_boxed : RingsEnd → RingsEnd
then_boxed (rings_done w) = rings_done (all_boxed w)
then_boxed (rings_full w) = rings_full (all_boxed w)

-- all done and the words left; or full, where a step was refused as full
unfoldable pub finish_rings : List ℕ → RingsEnd
finish_rings w = then_boxed (finish_w (geometry_of (view w)) raised w)

-- n steps on record i
unfoldable pub times : ℕ → ℕ → List ℕ
times zero i = []
times (suc n) i = i ∷ times n i

-- the list that steps n records from number i on, in rising order, f times each
unfoldable pub in_rising : ℕ → ℕ → ℕ → List ℕ
in_rising f zero i = []
in_rising f (suc n) i = times f i ++ in_rising f n (suc i)
