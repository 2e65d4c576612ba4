-- `reason_word` meets its contract.
use borrow.Author.Rules.{rules}
use Rattle.answers.proofs.Halves.{taker_within, place_within, joined_is, written_is}
use Rattle.answers.proofs.reason_word.Statement.{statement}
use Rattle.answers.proofs.reason_word.Tie as tie

pub reason_word_spec : {M : Type 1} → statement M
reason_word_spec =
    tie.close
    (tie.spec
    (λ c. search rules)
    (λ c. search rules)
    (λ c κs. search (rules, taker_within))
    (λ c. search rules)
    (λ c. search rules)
    (λ c. search rules)
    (λ c. search rules)
    (λ c. search rules)
    (λ c. search rules)
    (λ c κs. search (rules, place_within))
    (λ c. search rules)
    (λ c. (search joined_is, search rules))
    (λ c. search rules)
    (λ c. search rules)
    (λ c. search rules)
    (λ c. search rules)
    (λ c. search rules)
    (λ c. (search written_is, search rules)))
