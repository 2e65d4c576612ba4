-- `laying::lay_room` meets its contract: 10 for a crowd.
use borrow.Author.Rules.{rules}
use Rattle.laying.proofs.Calls.{room_points, room_records, room_laid}
use Rattle.laying.proofs.lay_room.Statement.{statement}
use Rattle.laying.proofs.lay_room.Tie as tie

pub lay_room_spec : {M : Type 1} → statement M
lay_room_spec =
    tie.close
    (tie.spec
    (λ c κs. search rules)
    (λ c κs. search rules)
    (λ c. search rules)
    (λ c. search rules)
    (λ c. search rules)
    (λ c. search room_points)
    (λ c. search rules)
    (λ c. search room_records)
    (λ c κs. search rules)
    (λ c. search rules)
    (λ c. search room_laid))
