-- "The other kept states are unaffected", word for word: of every work space and every call.
use Rattle.std.specs.Prelude.{ℕ, ◌<◌, ◌≡◌, ◌≢◌, List}
use Rattle.store.specs.Field.{STATES}
use Rattle.store.specs.States.{name_at, kept_block}
use Rattle.states.specs.Places.{place_of, keep_place}
use Rattle.order.specs.Calls.{Call, step_on, write_to, ask_of, keep_as, back_to, drop_name, lay_with, words_by}

-- the place that a call is about; one past all, if none
abbrev pub own_place : List ℕ → Call → ℕ
own_place w (step_on i) = STATES
own_place w (write_to t) = STATES
own_place w (ask_of i) = STATES
own_place w (keep_as n) = keep_place w n.number
own_place w (back_to n) = STATES
own_place w (drop_name n) = place_of w n.number
own_place w (lay_with v) = STATES

-- every other place says the same name, and its copy is the same
pub record Unaffected (w : List ℕ) (c : Call) : Type 0 where
  pub names : (p : ℕ) → p < STATES → p ≢ own_place w c → name_at (words_by w c) p ≡ name_at w p
  pub copies : (p : ℕ) → p < STATES → p ≢ own_place w c → kept_block (words_by w c) p ≡ kept_block w p
