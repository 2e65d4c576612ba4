-- The step on a store and on words: what the record's lone ring would do, whether there is room, and then its writes. A refused step writes nothing.
use Rattle.std.specs.Prelude.{ℕ, ◌+◌, Bool, cond, not, ◌&&◌, List, leb, ltb}
use Rattle.job.specs.Limits as limit
use Rattle.rings.specs.Progress.{is_done, map_ring}
use Rattle.lone.specs.Act.{Act, takes_points}
use Rattle.lone.specs.Lone.{Geo, act_of}
use Rattle.lone.specs.Forest.{Answer, ok, full, out_of_turn}
use Rattle.store.specs.Words.{Store, view}
use Rattle.store.specs.Sound.{pts, recs, is_open, lone_at}
use Rattle.acts.specs.Apply.{Coding, takes_record, after_w}
use Rattle.acts.specs.Value.{value}

-- a closed ring that is not done
abbrev pub live : Store → ℕ → Bool
live s i = ltb i (recs s) && (not (is_open s i) && not (is_done (lone_at s i).due))

-- an answer, and the words that are left
pub data Outcome : Type 0 where
  outcome : Answer → List ℕ → Outcome

module _ {P : Type 0} where
  -- the test of places left
  abbrev pub fits : Store → Act P → Bool
  fits s act = leb (pts s + takes_points act) limit.POINTS && leb (recs s + takes_record act) limit.RECORDS

  abbrev pub room_for : Store → Act P → Answer
  room_for s act = cond (fits s act) ok full

module _ {P : Type 0} (G : Geo P) (f : Coding P) where
  -- what the record's lone ring would do
  abbrev pub act_at : Store → ℕ → Act P
  act_at s i = act_of G (map_ring (value f.of s) (lone_at s i))

  unfoldable pub answer_s : Store → ℕ → Answer
  answer_s s i = cond (live s i) (room_for s (act_at s i)) out_of_turn

  -- ---- on words
  abbrev pub step_by_w : List ℕ → ℕ → Answer → List ℕ
  step_by_w w i ok = after_w f w i (act_at (view w) i)
  step_by_w w i full = w
  step_by_w w i out_of_turn = w

  -- the step on words: a refused one leaves every word
  unfoldable pub step_w : List ℕ → ℕ → List ℕ
  step_w w i = step_by_w w i (answer_s (view w) i)
