-- What holds after any list of calls: demand 3 over them, and the kept states.
use Rattle.std.specs.Prelude.{ℕ, ◌<◌, ◌≡◌, ◌↔◌, ◌≢◌, false, List, [], ◌∷◌, Ok, Err}
use Rattle.std.proofs.Math.Option.{Option, none, some}
use Rattle.job.specs.declared.refusal.Refusal.TheVariants.{UnknownName, NoPlace}
use Rattle.store.specs.Field.{STATES}
use Rattle.store.specs.Words.{view}
use Rattle.store.specs.States.{BYTES, word_of_name, is_name, name_at, block_of, kept_block}
use Rattle.handed.specs.Handed.{handed_of}
use Rattle.laying.specs.Lay.{lay_of}
use Rattle.finishing.specs.Start.{Start}
use Rattle.finishing.specs.Step.{step_of}
use Rattle.finishing.specs.Write.{write_of}
use Rattle.telling.specs.Telling.{reason_of}
use Rattle.states.specs.Calls.{keep_of, go_back_of, drop_of}
use Rattle.order.specs.Calls.{Name, Call, step_on, write_to, ask_of, keep_as, back_to, drop_name, lay_with, words_by, words_after}
use Rattle.order.specs.Demand3.{Demand3}
use Rattle.laid.specs.Two.{OfTwo}
use Rattle.history.specs.Histories.{History, state_of, KeptState, Histories, histories_after, keeping_none, start_after, keep_answer, known_answer, Unkept, NoneFree}

-- a history from a start: demand 3 holds of it, for its steps and for those to come
pub record FromStart (h : History) : Type 0 where
  pub from : Start h.start
  pub demand_3 : Demand3 h.start

-- what place p holds: it says the name, and its copy is the block that the steps of the history leave
pub record HoldsKept (w : List ℕ) (p : ℕ) (k : KeptState) : Type 0 where
  pub name : name_at w p ≡ word_of_name k.name
  pub byte : k.name < BYTES
  pub block : kept_block w p ≡ block_of (state_of k.history)
  pub came : FromStart k.history

abbrev pub HoldsAt : List ℕ → ℕ → Option KeptState → Type 0
HoldsAt w p none = is_name (name_at w p) ≡ false
HoldsAt w p (some k) = HoldsKept w p k

-- a work space has these histories
pub record HasHistories (b : Histories) (w : List ℕ) : Type 0 where
  -- the live block is the one that the steps of its history leave; points, records, progress, reasons and counts stand there
  pub live : block_of w ≡ block_of (state_of b.live)
  pub came : FromStart b.live
  -- so every clause of demand 3 (`came.demand_3.after_every_list`) is one of these words
  pub store : view w ≡ view (state_of b.live)
  -- and so is each kept one
  pub places : (p : ℕ) → p < STATES → HoldsAt w p (b.places p)
  -- it passes the tests
  pub passes : handed_of w ≡ Ok tt
  -- steps, writing out and reasons are answered as after the steps of the live history, from its start
  pub steps : (i : ℕ) → (step_of w i).answer ≡ (step_of (state_of b.live) i).answer
  pub writings : (t : List ℕ) → write_of w t ≡ write_of (state_of b.live) t
  pub reasons : (i : ℕ) → reason_of w i ≡ reason_of (state_of b.live) i
  pub layings : (v : List ℕ) → (lay_of w v).answer ≡ (lay_of (state_of b.live) v).answer
  -- and the three calls by the names that are kept
  pub keeping : (n : Name) → (keep_of w n.number).answer ≡ keep_answer b n.number
  pub going_back : (n : Name) → (go_back_of w n.number).answer ≡ known_answer b n.number
  pub dropping : (n : Name) → (drop_of w n.number).answer ≡ known_answer b n.number
  -- "15 .. keeping a fifth name": exactly where the name is not kept and no place is free
  pub fifteen : (n : Name) → ((keep_of w n.number).answer ≡ Err NoPlace) ↔ (Unkept b n.number × NoneFree b)
  -- "14 .. going back to, or dropping, a name not kept": exactly there
  pub fourteen_back : (n : Name) → ((go_back_of w n.number).answer ≡ Err UnknownName) ↔ Unkept b n.number
  pub fourteen_drop : (n : Name) → ((drop_of w n.number).answer ≡ Err UnknownName) ↔ Unkept b n.number

-- ---- where histories begin

-- s itself; or the pair that was laid on a state whose history begins so: what laying together says of it (`laid`) is said of these words
pub data Origin (s : List ℕ) : List ℕ → Type 0 where
  itself : Origin s s
  laid_on : (h : History) (v u : List ℕ) → Origin s h.start → OfTwo (state_of h) v u → Origin s u

-- no laying together in the list was accepted
abbrev pub NotLaid : List ℕ → Call → Type 0
NotLaid w (step_on i) = Unit {0}
NotLaid w (write_to t) = Unit {0}
NotLaid w (ask_of i) = Unit {0}
NotLaid w (keep_as n) = Unit {0}
NotLaid w (back_to n) = Unit {0}
NotLaid w (drop_name n) = Unit {0}
NotLaid w (lay_with v) = (lay_of w v).answer ≢ Ok tt

abbrev pub NoneLaid : List ℕ → List Call → Type 0
NoneLaid w [] = Unit {0}
NoneLaid w (c ∷ cs) = NotLaid w c × NoneLaid (words_by w c) cs

-- from a work space u that the history h led to, with no name kept: after every list of calls
pub record AfterCalls (h : History) (u : List ℕ) : Type 0 where
  pub after_every_list : (cs : List Call) → HasHistories (histories_after (keeping_none h) cs) (words_after u cs)
  -- every history begins at this start, also those of kept states, as long as no laying together was accepted: nobody else's steps come in
  pub one_start : (cs : List Call) → NoneLaid u cs → start_after h cs ≡ h.start
  pub kept_start : (cs : List Call) → NoneLaid u cs → (p : ℕ) (k : KeptState) → (histories_after (keeping_none h) cs).places p ≡ some k → k.history.start ≡ h.start
  -- and in any list at a pair that was laid on it, and on such pairs; a state that was kept before keeps its own, and going back to it leaves the pair
  pub one_origin : (cs : List Call) → Origin h.start (start_after h cs)
  pub kept_origin : (cs : List Call) (p : ℕ) (k : KeptState) → (histories_after (keeping_none h) cs).places p ≡ some k → Origin h.start k.history.start
