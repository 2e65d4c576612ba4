-- `rows::muddled` meets its contract: chains, then points.
use borrow.Author.Rules.{rules}
use Rattle.rows.proofs.Judging.{circle_found, none_found, stray_found}
use Rattle.visits.proofs.Reaching.{homes_blank}
use Rattle.rows.proofs.muddled.Statement.{statement}
use Rattle.rows.proofs.muddled.Tie as tie

pub muddled_spec : {M : Type 1} → statement M
muddled_spec =
    tie.close
    (tie.spec
    (λ c κs. search rules)
    (λ c. (search (rules, circle_found), search (rules, homes_blank)))
    (λ c κs. search (rules, none_found))
    (λ c κs. search rules)
    (λ c. search rules)
    (λ c. (search (rules, stray_found), search rules)))
