-- The code's names for the steps due, the rules that discard and the acts.
use Rattle.geometry.specs.declared.Point.{Point}
use Rattle.rings.specs.Progress.{validity, removal, triangle, split, done, at_validity, while_removing, at_split}
use Rattle.rings.specs.Progress as rings
use Rattle.lone.specs.Act.{stay, discard, drop_point, move_on, to_first, double, cut}
use Rattle.lone.specs.Act as lone
use Rattle.turns.specs.declared.Due.{Due}
use Rattle.turns.specs.declared.Due.TheVariants.{Validity, Removal, Triangle, Split, Done}
use Rattle.turns.specs.declared.Discard.{Discard}
use Rattle.turns.specs.declared.Discard.TheVariants.{AtValidity, WhileRemoving, AtSplit}
use Rattle.turns.specs.declared.Act.{Act}
use Rattle.turns.specs.declared.Act.TheVariants.{Stay, Drop, MoveOn, ToFirst, Double, Cut}
use Rattle.turns.specs.declared.Act.TheVariants as act

abbrev pub due_is : Due → rings.Due
due_is Validity = validity
due_is Removal = removal
due_is Triangle = triangle
due_is Split = split
due_is Done = done

abbrev pub discard_is : Discard → rings.Discard
discard_is AtValidity = at_validity
discard_is WhileRemoving = while_removing
discard_is AtSplit = at_split

abbrev pub act_is : Act → lone.Act Point
act_is Stay = stay
act_is (act.Discard y) = discard (discard_is y)
act_is Drop = drop_point
act_is (MoveOn d) = move_on (due_is d)
act_is (ToFirst d) = to_first (due_is d)
act_is (Double v d) = double v (due_is d)
act_is (Cut v put off d) = cut v put off (due_is d)
