-- Calls on an opened work space, and the words that a list of them leaves.
use Rattle.std.specs.Prelude.{ℕ, ◌<◌, List, [], ◌∷◌}
use Rattle.store.specs.States.{BYTES}
use Rattle.laying.specs.Lay.{lay_of}
use Rattle.finishing.specs.Step.{step_of}
use Rattle.states.specs.Calls.{keep_of, go_back_of, drop_of}

-- a name: one byte
pub record Name : Type 0 where
  pub number : ℕ
  pub low : number < BYTES

-- a step on a record number, writing out to a tray, asking for a record's reason, keeping, going back, dropping, laying another work space's drawing beside this one
pub data Call : Type 0 where
  step_on : ℕ → Call
  write_to : List ℕ → Call
  ask_of : ℕ → Call
  keep_as : Name → Call
  back_to : Name → Call
  drop_name : Name → Call
  lay_with : List ℕ → Call

-- the words after a call; writing out and asking only read them
abbrev pub words_by : List ℕ → Call → List ℕ
words_by w (step_on i) = (step_of w i).words
words_by w (write_to t) = w
words_by w (ask_of i) = w
words_by w (keep_as n) = (keep_of w n.number).words
words_by w (back_to n) = (go_back_of w n.number).words
words_by w (drop_name n) = (drop_of w n.number).words
words_by w (lay_with v) = (lay_of w v).words

abbrev pub words_after : List ℕ → List Call → List ℕ
words_after w [] = w
words_after w (c ∷ cs) = words_after (words_by w c) cs

-- ---- "calls that change nothing there, as a refused writing out, may come between"

-- all of them are steps, or only read. (Of the others, document 02: crate `history`)
abbrev pub StepsOrReads : List Call → Type 0
StepsOrReads [] = Unit {0}
StepsOrReads (step_on i ∷ cs) = StepsOrReads cs
StepsOrReads (write_to t ∷ cs) = StepsOrReads cs
StepsOrReads (ask_of i ∷ cs) = StepsOrReads cs
StepsOrReads (keep_as n ∷ cs) = ⊥
StepsOrReads (back_to n ∷ cs) = ⊥
StepsOrReads (drop_name n ∷ cs) = ⊥
StepsOrReads (lay_with v ∷ cs) = ⊥

-- the steps among them
abbrev pub steps_in : List Call → List ℕ
steps_in [] = []
steps_in (step_on i ∷ cs) = i ∷ steps_in cs
steps_in (write_to t ∷ cs) = steps_in cs
steps_in (ask_of i ∷ cs) = steps_in cs
steps_in (keep_as n ∷ cs) = steps_in cs
steps_in (back_to n ∷ cs) = steps_in cs
steps_in (drop_name n ∷ cs) = steps_in cs
steps_in (lay_with v ∷ cs) = steps_in cs
