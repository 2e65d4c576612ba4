-- The table of records made from the lone rings alone: from what opening left, how many steps were not refused on each record, and which
-- record each later one was cut from. Independence says that the forest after a list of steps is this table.
use Rattle.std.specs.Prelude.{List, [], ◌∷◌, ◌++◌, map, ℕ, suc, length, cond}
use Rattle.std.proofs.Math.Option.{Option, none, some}
use Rattle.std.proofs.Math.ListN.{get_elem?}
use Rattle.lone.specs.Forest.{Machine, initial, Entry, ringless, closed_ring, Fed, naming, enter, at, cut_from, offcuts_of, steps_state, steps_entry, is_named}

module _ {S X : Type 0} (M : Machine S) where
  -- the records that opening left, from number k on, each stepped g of its number times
  abbrev pub opened_entries : (ℕ → ℕ) → ℕ → List (Fed S X) → List (Entry S X)
  opened_entries g k [] = []
  opened_entries g k (o ∷ os) = steps_entry M (g k) (enter o) ∷ opened_entries g (suc k) os

  -- an offcut of record p, stepped n times from its start
  abbrev pub offcut_entry : ℕ → ℕ → Option S → Entry S X
  offcut_entry p n none = ringless
  offcut_entry p n (some s) = closed_ring (some p) (steps_state M n (initial s))

  -- the next record, cut from p: p's offcut by the number of records before that name p
  abbrev pub next_entry : (ℕ → ℕ) → List (Entry S X) → Option ℕ → Entry S X
  next_entry g es none = ringless
  next_entry g es (some p) = offcut_entry p (g (length es)) (get_elem? (offcuts_of (at es p)) (naming p (map cut_from es)))

  abbrev pub add_offcuts : (ℕ → ℕ) → List (Entry S X) → List (Option ℕ) → List (Entry S X)
  add_offcuts g es [] = es
  add_offcuts g es (q ∷ qs) = add_offcuts g (es ++ (next_entry g es q ∷ [])) qs

  -- os: what opening left; g: steps not refused on each record; qs: the record that each later one was cut from
  unfoldable pub lone_table : List (Fed S X) → (ℕ → ℕ) → List (Option ℕ) → List (Entry S X)
  lone_table os g qs = add_offcuts g (opened_entries g 0 os) qs

-- the numbers, from k on, of the records that name p: its offcuts, by rising record number
abbrev pub offcuts_from : ℕ → ℕ → List (Option ℕ) → List ℕ
offcuts_from p k [] = []
offcuts_from p k (q ∷ qs) = cond (is_named p q) (k ∷ offcuts_from p (suc k) qs) (offcuts_from p (suc k) qs)
