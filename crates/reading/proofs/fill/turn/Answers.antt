-- `reading::fill::turn` meets its contract: the field is read from the part that starts at the state's place, and placed.
use native.Mathlib.Omega.{arith}
use borrow.Author.Rules.{rules}
use Rattle.reading.proofs.Placing.{may_place, turn_placed, turn_refused}
use Rattle.reading.proofs.fill.turn.Goals as goal

pub place-requires : goal.place-requires
place-requires c = may_place _ _ _ _ _ _ _ _ _ c.requires.0 c.requires.1 (omega arith) c.requires.2 c.from.ensures c.read_field.ensures c.in_ok-field.was

pub returns : goal.returns
returns c = turn_placed _ _ _ _ _ _ _ c.from.ensures c.read_field.ensures _ _ _ _ _ _ c.in_ok-field.was c.place.ensures

pub returns-in_err-field : goal.returns-in_err-field
returns-in_err-field c = search (rules, turn_refused)
