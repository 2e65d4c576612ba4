-- The forest: many machines stepped side by side under common limits, by record number. A machine's step may cut off another machine.
-- Over any machine; the lone ring as one is in Order.antt.
use Rattle.std.specs.Prelude.{List, [], ◌∷◌, ◌++◌, map, Bool, true, false, cond, ◌&&◌, ℕ, zero, suc, ◌+◌, length, get_or, take, set, eqb, leb}
use Rattle.std.proofs.Math.Option.{Option, none, some}
use Rattle.rings.specs.Count.{sum_by}

-- a machine: whether it is done, the points that its next step takes, what it is after that step, and what that step cuts off it
pub record Machine (S : Type 0) : Type 0 where
  pub over : S → Bool
  pub takes : S → ℕ
  pub next : S → S
  pub cuts : S → Option S

-- a lone one: what it is now, its offcuts, each at its start, in cutting order, and the points taken so far
pub record State (S : Type 0) : Type 0 where
  pub now : S
  pub offcuts : List S
  pub taken : ℕ

abbrev pub initial : {S : Type 0} → S → State S
initial s = record { now = s; offcuts = []; taken = 0 }

abbrev pub to_list : {S : Type 0} → Option S → List S
to_list none = []
to_list (some s) = s ∷ []

-- a record: without a ring; open, with what opening left; or closed, with the record that it was cut from
pub data Entry (S X : Type 0) : Type 0 where
  ringless : Entry S X
  open_ring : X → Entry S X
  closed_ring : Option ℕ → State S → Entry S X

-- a record as opening leaves it
pub data Fed (S X : Type 0) : Type 0 where
  left_ringless : Fed S X
  left_open : X → Fed S X
  left_closed : S → Fed S X

-- what a step on a record answers: done, refused with 10, refused with 12
pub data Answer : Type 0 where
  ok full out_of_turn : Answer

pub record Forest (S X : Type 0) : Type 0 where
  pub entries : List (Entry S X)
  pub points : ℕ

-- it is record p
abbrev pub is_named : ℕ → Option ℕ → Bool
is_named p none = false
is_named p (some q) = eqb q p

abbrev pub names : ℕ → Option ℕ → ℕ
names p q = cond (is_named p q) 1 0

-- how many of the records name p as the one they were cut from
abbrev pub naming : ℕ → List (Option ℕ) → ℕ
naming p qs = sum_by (names p) qs

abbrev pub is_ok : Answer → Bool
is_ok ok = true
is_ok full = false
is_ok out_of_turn = false

module _ {S X : Type 0} where
  abbrev pub enter : Fed S X → Entry S X
  enter left_ringless = ringless
  enter (left_open x) = open_ring x
  enter (left_closed s) = closed_ring none (initial s)

  -- the forest as opening left it, with the number of points used
  abbrev pub opening : List (Fed S X) → ℕ → Forest S X
  opening os p = record { entries = map enter os; points = p }

  -- the record of what was cut off record i
  abbrev pub new_entry : ℕ → Option S → List (Entry S X)
  new_entry i none = []
  new_entry i (some s) = closed_ring (some i) (initial s) ∷ []

  abbrev pub at : List (Entry S X) → ℕ → Entry S X
  at es i = get_or es i ringless

  abbrev pub cut_from : Entry S X → Option ℕ
  cut_from ringless = none
  cut_from (open_ring x) = none
  cut_from (closed_ring q L) = q

  abbrev pub offcuts_of : Entry S X → List S
  offcuts_of ringless = []
  offcuts_of (open_ring x) = []
  offcuts_of (closed_ring q L) = L.offcuts

  abbrev pub taken_by : Entry S X → ℕ
  taken_by ringless = 0
  taken_by (open_ring x) = 0
  taken_by (closed_ring q L) = L.taken

  -- a fact of the machine, where there is one
  abbrev pub OfClosed : (S → Type 0) → Entry S X → Type 0
  OfClosed Q ringless = Unit {0}
  OfClosed Q (open_ring x) = Unit {0}
  OfClosed Q (closed_ring q L) = Q L.now

  -- and of all of them
  abbrev pub Every : (S → Type 0) → List (Entry S X) → Type 0
  Every Q es = (i : ℕ) → OfClosed Q (at es i)

  -- the rank of record j among those that name p
  abbrev pub rank : List (Entry S X) → ℕ → ℕ → ℕ
  rank es p j = naming p (take j (map cut_from es))

  -- all points and all records that the machines took
  abbrev pub all_taken : List (Entry S X) → ℕ
  all_taken es = sum_by taken_by es

  abbrev pub all_cut : List (Entry S X) → ℕ
  all_cut es = sum_by (λ (e : Entry S X). length (offcuts_of e)) es

module _ {S : Type 0} (M : Machine S) where
  -- a lone machine's step, and n of them
  abbrev pub step_state : State S → State S
  step_state L = record { now = M.next L.now; offcuts = L.offcuts ++ to_list (M.cuts L.now); taken = L.taken + M.takes L.now }

  abbrev pub steps_state : ℕ → State S → State S
  steps_state zero L = L
  steps_state (suc n) L = step_state (steps_state n L)

module _ {S X : Type 0} (M : Machine S) where
  -- n steps on an entry: only a closed ring changes
  abbrev pub steps_entry : ℕ → Entry S X → Entry S X
  steps_entry n ringless = ringless
  steps_entry n (open_ring x) = open_ring x
  steps_entry n (closed_ring q L) = closed_ring q (steps_state M n L)

  -- the records after a step on record i, of the machine there; what is cut off comes last
  abbrev pub step_entries : List (Entry S X) → ℕ → Option ℕ → State S → List (Entry S X)
  step_entries es i q L = set es i (closed_ring q (step_state M L)) ++ new_entry i (M.cuts L.now)

  -- the step on record i, of the machine there, once it is not refused
  abbrev pub carry_out : Forest S X → ℕ → Option ℕ → State S → Forest S X
  carry_out F i q L = record { entries = step_entries F.entries i q L; points = F.points + M.takes L.now }

  -- the limits: points and records
  module _ (lp lr : ℕ) where
    -- the answer, by the entry, the points and the records used
    abbrev pub answer_to : Entry S X → ℕ → ℕ → Answer
    answer_to ringless p r = out_of_turn
    answer_to (open_ring x) p r = out_of_turn
    answer_to (closed_ring q L) p r = cond (M.over L.now) out_of_turn (cond (leb (p + M.takes L.now) lp && leb (r + length (to_list (M.cuts L.now))) lr) ok full)

    unfoldable pub answer : Forest S X → ℕ → Answer
    answer F i = answer_to (at F.entries i) F.points (length F.entries)

    abbrev pub step_answered : Forest S X → ℕ → Entry S X → Answer → Forest S X
    step_answered F i ringless a = F
    step_answered F i (open_ring x) a = F
    step_answered F i (closed_ring q L) ok = carry_out F i q L
    step_answered F i (closed_ring q L) full = F
    step_answered F i (closed_ring q L) out_of_turn = F

    -- a step on any record number: a refused one changes nothing
    unfoldable pub step_forest : Forest S X → ℕ → Forest S X
    step_forest F i = step_answered F i (at F.entries i) (answer F i)

    -- a list of steps, each on any record number, refused ones included
    abbrev pub run_forest : Forest S X → List ℕ → Forest S X
    run_forest F [] = F
    run_forest F (i ∷ s) = run_forest (step_forest F i) s

    -- how many of the steps on record j were not refused
    abbrev pub accepted : Forest S X → List ℕ → ℕ → ℕ
    accepted F [] j = 0
    accepted F (i ∷ s) j = cond (is_ok (answer F i)) (cond (eqb i j) 1 0) 0 + accepted (step_forest F i) s j
