-- Words behind the live block, and past the fixed length, for callers who lend more than they must. No call on an opened work space reads or writes the words past it; of those before it a step, going back and laying
-- together write the live block only; opening an accepted job, and finishing it in one call, free the names and leave the words from the copies of kept states on as they found them. (A refused job leaves zeros everywhere: `settled`,
-- `refused`.) What keeping and dropping leave: `history`, Others.
use Rattle.std.specs.Prelude.{ℕ, ◌≡◌, List, ◌++◌, length, drop, replicate, Ok}
use Rattle.store.specs.Field.{BLOCK, STATES, KEPT, LENGTH}
use Rattle.audit.specs.Left.{left}
use Rattle.laying.specs.Lay.{lay_of}
use Rattle.paths.specs.Wrote.{ok_paths}
use Rattle.opening.specs.Open.{end, open_of}
use Rattle.telling.specs.Telling.{reason_of}
use Rattle.finishing.specs.InOneCall.{finish_of}
use Rattle.finishing.specs.Step.{step_of}
use Rattle.finishing.specs.Write.{write_of}
use Rattle.states.specs.Calls.{keep_of, go_back_of, drop_of}

pub record Behind : Type 0 where
  -- v: a work space of the fixed length; m: what follows it. The answer is the one without it, and it is left as it was
  pub steps : (v m : List ℕ) → length v ≡ LENGTH → (i : ℕ) → step_of (v ++ m) i ≡ left (step_of v i).answer ((step_of v i).words ++ m)
  pub keepings : (v m : List ℕ) → length v ≡ LENGTH → (n : ℕ) → keep_of (v ++ m) n ≡ left (keep_of v n).answer ((keep_of v n).words ++ m)
  pub returns : (v m : List ℕ) → length v ≡ LENGTH → (n : ℕ) → go_back_of (v ++ m) n ≡ left (go_back_of v n).answer ((go_back_of v n).words ++ m)
  pub droppings : (v m : List ℕ) → length v ≡ LENGTH → (n : ℕ) → drop_of (v ++ m) n ≡ left (drop_of v n).answer ((drop_of v n).words ++ m)
  pub layings : (v m : List ℕ) → length v ≡ LENGTH → (x : List ℕ) → lay_of (v ++ m) x ≡ left (lay_of v x).answer ((lay_of v x).words ++ m)
  -- of calls that only read, and of the work space that is laid beside another: answer and tray, and what is left in the other, are those without it
  pub writings : (v m : List ℕ) → length v ≡ LENGTH → (t : List ℕ) → write_of (v ++ m) t ≡ write_of v t
  pub reasons : (v m : List ℕ) → length v ≡ LENGTH → (i : ℕ) → reason_of (v ++ m) i ≡ reason_of v i
  pub second_ones : (v m : List ℕ) → length v ≡ LENGTH → (w : List ℕ) → lay_of w (v ++ m) ≡ lay_of w v
  -- a step, going back and laying together leave names and copies of kept states
  pub by_steps : (w : List ℕ) (i : ℕ) → drop BLOCK (step_of w i).words ≡ drop BLOCK w
  pub by_returns : (w : List ℕ) (n : ℕ) → drop BLOCK (go_back_of w n).words ≡ drop BLOCK w
  pub by_layings : (w v : List ℕ) → drop BLOCK (lay_of w v).words ≡ drop BLOCK w
  -- behind the live block opening, and finishing in one call, leave every place free, and then what was found there
  pub openings : (bytes lent w : List ℕ) → open_of bytes lent ≡ end (Ok tt) w → drop BLOCK w ≡ replicate STATES 0 ++ drop KEPT lent
  pub finishings : (bytes lent t : List ℕ) (c o : ℕ) → (finish_of bytes lent t).answer ≡ ok_paths c o → drop BLOCK (finish_of bytes lent t).words ≡ replicate STATES 0 ++ drop KEPT lent
