-- Document 02, Ask 13, after any list of calls: "Keep the least and greatest x and y of each ring that has points, open and done ones too, beside it, right after opening and every step, cut, laying together and
-- return to an unaltered kept state"; and "while only our calls write" no ring passes the box which it had at its start.
use Rattle.std.specs.Prelude.{ℕ, ◌<◌, ◌≡◌, false, List}
use Rattle.std.proofs.Math.Option.{some}
use Rattle.geometry.specs.Box.{box_of}
use Rattle.store.specs.Words.{view}
use Rattle.store.specs.Sound.{recs, ringless}
use Rattle.store.specs.Value.{ring_points}
use Rattle.store.specs.Boxes.{box_at}
use Rattle.finishing.specs.Run.{run_of}
use Rattle.order.specs.Calls.{Call, words_after}
use Rattle.history.specs.Histories.{History, led, start_after}
use Rattle.confined.specs.Confined.{BoxesKept}

-- each ring's box is beside it
pub record EachBeside (w : List ℕ) : Type 0 where
  pub box : (j : ℕ) → j < recs (view w) → ringless (view w) j ≡ false → box_of (ring_points (view w) j) ≡ some (box_at w j)

-- from a work space u that the history h led to, with no name kept: after every list of calls
pub record OfCalls (h : History) (u : List ℕ) : Type 0 where
  pub beside : (cs : List Call) → EachBeside (words_after u cs)
  -- the store is the one that the steps of the live history lead to, from opening or from the last laying together; and these let no ring pass
  pub store : (cs : List Call) → view (words_after u cs) ≡ view (run_of (start_after h cs) (led h cs))
  pub kept : (cs : List Call) → BoxesKept (start_after h cs) (led h cs)
