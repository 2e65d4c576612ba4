-- Of every work space and every call: the places that it is not about are as they were.
use Prim.Native.Nat.{ℕ}
use mathlib.Core.Path.{refl}
use mathlib.Core.List.{List}
use Rattle.laying.specs.Lay.{lay_of}
use Rattle.laying.proofs.Deciding.{lay_behind}
use Rattle.finishing.specs.Step.{step_of}
use Rattle.finishing.proofs.Blocks.{behind_names, call_behind}
use Rattle.states.specs.Calls.{go_back_of}
use Rattle.states.proofs.Others.{back_behind, keep_name, keep_copy, drop_name_lem, drop_copy}
use Rattle.states.proofs.Words.{behind_copies}
use Rattle.order.specs.Calls.{Call, step_on, write_to, ask_of, keep_as, back_to, drop_name, lay_with}
use Rattle.history.specs.Others.{Unaffected}

pub unaffected : (w : List ℕ) (c : Call) → Unaffected w c
unaffected w (step_on i) = record { names = λ p l d. behind_names w (step_of w i).words (call_behind w i) p; copies = λ p l d. behind_copies w (step_of w i).words (call_behind w i) p }
unaffected w (write_to t) = record { names = λ p l d. refl; copies = λ p l d. refl }
unaffected w (ask_of i) = record { names = λ p l d. refl; copies = λ p l d. refl }
unaffected w (keep_as n) = record { names = keep_name w n.number; copies = keep_copy w n.number }
unaffected w (back_to n) = record { names = λ p l d. behind_names w (go_back_of w n.number).words (back_behind w n.number) p; copies = λ p l d. behind_copies w (go_back_of w n.number).words (back_behind w n.number) p }
unaffected w (drop_name n) = record { names = drop_name_lem w n.number; copies = λ p l d. drop_copy w n.number p l }
unaffected w (lay_with v) = record { names = λ p l d. behind_names w (lay_of w v).words (lay_behind w v) p; copies = λ p l d. behind_copies w (lay_of w v).words (lay_behind w v) p }
