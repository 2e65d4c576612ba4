-- What a call leaves that changes the words it is lent: its answer, and every word.
use Rattle.std.specs.Prelude.{ℕ, List, Result}
use Rattle.job.specs.declared.refusal.Refusal.{Refusal}

pub record Left : Type 0 where
  pub answer : Result (Unit {0}) Refusal
  pub words : List ℕ

abbrev pub left : Result (Unit {0}) Refusal → List ℕ → Left
left a w = record { answer = a; words = w }
