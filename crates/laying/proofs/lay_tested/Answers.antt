-- `laying::lay_tested` meets its contract: settings, then steps.
use Rattle.laying.proofs.Calls.{settings_unequal, first_stepped, second_stepped, none_stepped}
use Rattle.laying.proofs.lay_tested.Goals as goal

pub returns-then-a-b : goal.returns-then-a-b
returns-then-a-b c = search settings_unequal

pub returns-then-x : goal.returns-then-x
returns-then-x c = search first_stepped

pub returns-then-y : goal.returns-then-y
returns-then-y c = search second_stepped

pub returns : goal.returns
returns c = search none_stepped
