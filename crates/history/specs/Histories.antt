-- Histories: document 02, "Going back discards later steps: demand 3's list is then the steps that led to the kept state followed by those since the last return, and keeping, dropping or refused returns may stand
-- between them. The other kept states are unaffected"; and "Demand 3 holds from there too, with laying together in opening's place": where a drawing was laid beside this one, the live history begins anew.
-- Which steps led to the live state and to each kept one, and from which start, without a word of the work space.
use Rattle.std.specs.Prelude.{ℕ, ◌<◌, ◌≡◌, Bool, true, false, cond, List, [], ◌∷◌, ◌++◌, eqb, ltb, Result, Ok, Err}
use Rattle.std.proofs.Math.Option.{Option, none, some}
use Rattle.job.specs.declared.refusal.Refusal.{Refusal}
use Rattle.job.specs.declared.refusal.Refusal.TheVariants.{UnknownName, NoPlace}
use Rattle.store.specs.Field.{STATES}
use Rattle.finishing.specs.Run.{run_of}
use Rattle.laying.specs.Lay.{lay_of}
use Rattle.states.specs.Places.{lowest}
use Rattle.order.specs.Calls.{Call, step_on, write_to, ask_of, keep_as, back_to, drop_name, lay_with}

-- ---- histories

-- a start, as opening or laying together leaves it, and the steps since, refused ones included
pub record History : Type 0 where
  pub start : List ℕ
  pub steps : List ℕ

-- the work space that a history leaves
abbrev pub state_of : History → List ℕ
state_of h = run_of h.start h.steps

abbrev pub and_step : History → ℕ → History
and_step h i = record { start = h.start; steps = h.steps ++ i ∷ [] }

-- a start, without a step
abbrev pub begun : List ℕ → History
begun s = record { start = s; steps = [] }

-- a name that is kept, and the history of its state
pub record KeptState : Type 0 where
  pub name : ℕ
  pub history : History

-- the history of the live state; and each place, free or with what is kept there
pub record Histories : Type 0 where
  pub live : History
  pub places : ℕ → Option KeptState

-- ---- a call on them

abbrev pub has_name : ℕ → Option KeptState → Bool
has_name n none = false
has_name n (some k) = eqb k.name n

abbrev pub has_none : Option KeptState → Bool
has_none none = true
has_none (some k) = false

-- the place of a name, or one past all; where it would be kept: its own place, or else the lowest free one
abbrev pub place_in : Histories → ℕ → ℕ
place_in b n = lowest (λ p. has_name n (b.places p))

abbrev pub free_in : Histories → ℕ
free_in b = lowest (λ p. has_none (b.places p))

abbrev pub keep_in : Histories → ℕ → ℕ
keep_in b n = cond (ltb (place_in b n) STATES) (place_in b n) (free_in b)

abbrev pub with_place : Histories → ℕ → Option KeptState → Histories
with_place b p x = record { live = b.live; places = λ j. cond (eqb j p) x (b.places j) }

abbrev pub with_live : Histories → Option KeptState → Histories
with_live b none = b
with_live b (some k) = record { live = k.history; places = b.places }

-- what laying together answers, and the pooled words p: a start, without a step; the kept states are as they were
abbrev pub with_laid : Histories → Result (Unit {0}) Refusal → List ℕ → Histories
with_laid b (Ok _) p = record { live = begun p; places = b.places }
with_laid b (Err r) p = b

unfoldable pub histories_by : Histories → Call → Histories
histories_by b (step_on i) = record { live = and_step b.live i; places = b.places }
histories_by b (write_to t) = b
histories_by b (ask_of i) = b
histories_by b (keep_as n) = cond (ltb (keep_in b n.number) STATES) (with_place b (keep_in b n.number) (some (record { name = n.number; history = b.live }))) b
histories_by b (back_to n) = cond (ltb (place_in b n.number) STATES) (with_live b (b.places (place_in b n.number))) b
histories_by b (drop_name n) = cond (ltb (place_in b n.number) STATES) (with_place b (place_in b n.number) none) b
histories_by b (lay_with v) = with_laid b (lay_of (state_of b.live) v).answer (lay_of (state_of b.live) v).words

abbrev pub histories_after : Histories → List Call → Histories
histories_after b [] = b
histories_after b (c ∷ cs) = histories_after (histories_by b c) cs

-- the live state's history, with no name kept
abbrev pub keeping_none : History → Histories
keeping_none h = record { live = h; places = λ p. none }

-- the steps that led to the live state: demand 3's list
abbrev pub led : History → List Call → List ℕ
led h cs = (histories_after (keeping_none h) cs).live.steps

-- and the start that they led from
abbrev pub start_after : History → List Call → List ℕ
start_after h cs = (histories_after (keeping_none h) cs).live.start

-- ---- what the three calls answer: 15, no place keeps the name and none is free; 14, no place keeps it

abbrev pub keep_answer : Histories → ℕ → Result (Unit {0}) Refusal
keep_answer b n = cond (ltb (keep_in b n) STATES) (Ok tt) (Err NoPlace)

abbrev pub known_answer : Histories → ℕ → Result (Unit {0}) Refusal
known_answer b n = cond (ltb (place_in b n) STATES) (Ok tt) (Err UnknownName)

-- no place keeps the name; and none is free
abbrev pub Unkept : Histories → ℕ → Type 0
Unkept b n = (p : ℕ) → p < STATES → has_name n (b.places p) ≡ false

abbrev pub NoneFree : Histories → Type 0
NoneFree b = (p : ℕ) → p < STATES → has_none (b.places p) ≡ false
