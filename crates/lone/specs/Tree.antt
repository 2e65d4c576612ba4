-- What rings end in, without numbers: each done ring with what its offcuts end in, in cutting order. Two lists of steps that finish everything end
-- in the same, whatever numbers the records have.
use Rattle.std.specs.Prelude.{◌≡◌, List, [], ◌∷◌, map, true, false, ℕ, suc, ◌<◌}
use Rattle.std.proofs.Math.Option.{Option}
use Rattle.lone.specs.Forest.{Machine, State, initial, Entry, closed_ring, Fed, left_ringless, left_open, left_closed, at, cut_from, steps_state}
use Rattle.lone.specs.Table.{offcuts_from}

-- a list of done machines, each with what its offcuts ended in
pub data Trees (S : Type 0) : Type 0 where
  nothing : Trees S
  ended : S → Trees S → Trees S → Trees S

module _ {S : Type 0} (M : Machine S) where
  -- lone machines from their start, each stepped until it is done, and its offcuts in cutting order, end in these
  pub data EndsAs : List S → Trees S → Type 0 where
    no_more : EndsAs [] nothing
    and : {s : S} {ss : List S} {ts us : Trees S} (n : ℕ) → ((k : ℕ) → k < n → M.over (steps_state M k (initial s)).now ≡ false) → M.over (steps_state M n (initial s)).now ≡ true
        → EndsAs (steps_state M n (initial s)).offcuts ts → EndsAs ss us → EndsAs (s ∷ ss) (ended (steps_state M n (initial s)).now ts us)

module _ {S X : Type 0} where
  -- these records of the table, with the records cut from them, by rising number, hold these
  pub data HoldsTrees (es : List (Entry S X)) : List ℕ → Trees S → Type 0 where
    no_more : HoldsTrees es [] nothing
    and : {j : ℕ} {js : List ℕ} {q : Option ℕ} {L : State S} {ts us : Trees S} → at es j ≡ closed_ring q L
        → HoldsTrees es (offcuts_from j 0 (map cut_from es)) ts → HoldsTrees es js us → HoldsTrees es (j ∷ js) (ended L.now ts us)

  -- the rings that opening left closed: their lone machines, and their numbers from k on
  abbrev pub seeds : List (Fed S X) → List S
  seeds [] = []
  seeds (left_ringless ∷ os) = seeds os
  seeds (left_open x ∷ os) = seeds os
  seeds (left_closed s ∷ os) = s ∷ seeds os

  abbrev pub roots : ℕ → List (Fed S X) → List ℕ
  roots k [] = []
  roots k (left_ringless ∷ os) = roots (suc k) os
  roots k (left_open x ∷ os) = roots (suc k) os
  roots k (left_closed s ∷ os) = k ∷ roots (suc k) os
