-- Boxes after any list of calls.
use Prim.Native.Nat.{ℕ}
use mathlib.Core.Path.{◌≡◌}
use mathlib.Core.List.{List}
use Rattle.std.proofs.Common.{Ok}
use Rattle.store.specs.Boxes.{ring_box}
use Rattle.handed.proofs.Handing.{handed_usable}
use Rattle.opening.specs.Open.{end, open_of}
use Rattle.order.specs.Calls.{words_after}
use Rattle.history.specs.Histories.{History, led, start_after, begun}
use Rattle.history.specs.AfterCalls.{AfterCalls}
use Rattle.history.proofs.Jobs.{opened_then}
use Rattle.confined.specs.OfCalls.{OfCalls}
use Rattle.confined.proofs.Theorem.{confined}

pub of_calls : (h : History) (u : List ℕ) → AfterCalls h u → OfCalls h u
unfolding ring_box
of_calls h u a =
    record {
      beside = λ cs. record { box = λ j l r. ((handed_usable (words_after u cs) (a.after_every_list cs).passes).boxed j l).box r };
      store = λ cs. (a.after_every_list cs).store;
      kept = λ cs. confined (start_after h cs) (a.after_every_list cs).came.from (led h cs);
    }

-- of every job that opening accepts
pub job_calls : (bytes lent w : List ℕ) → open_of bytes lent ≡ end (Ok tt) w → OfCalls (begun w) w
job_calls bytes lent w e = of_calls (begun w) w (opened_then bytes lent w e).further.after_calls
