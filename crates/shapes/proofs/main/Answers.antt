-- `shapes::main` meets its contract: the answers are in the slice.
use Rattle.std.proofs.Common.{rules}
use Rattle.containment.proofs.Theorem.{answers_within}
use Rattle.shapes.proofs.main.Goals as goal

pub say-requires : goal.say-requires
say-requires c = search (rules, answers_within)
