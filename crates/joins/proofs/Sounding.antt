-- From the invariant to a sound store.
use Prim.Native.Nat.{ℕ, ◌≤◌, ◌<◌}
use mathlib.Core.Path.{◌≡◌, ◌∙◌, sym}
use mathlib.Core.Logic.{inl, inr}
use mathlib.Core.Bool.{false}
use native.Mathlib.Omega.{arith}
use Rattle.rings.specs.Count.{occ}
use Rattle.rings.specs.Progress.{is_done}
use Rattle.store.specs.Field.{pt, rc, REC, MARK, PRESENT}
use Rattle.store.specs.Words.{Store}
use Rattle.store.specs.Sound.{pts, ring_at, due_at, Closed}
use Rattle.store.specs.Reason.{NO_RING, JOINED}
use Rattle.store.specs.Good.{Explained, Sound}
use Rattle.joins.specs.Resolved.{Emptied, Resolved}
use Rattle.joins.proofs.Resolving.{res_low}
use Rattle.joins.proofs.Homes.{table}

emptied_explained : (s : Store) (i : ℕ) → Emptied s i → Explained s i
emptied_explained s i (inl e) = record { kept = rw e; taker = λ z. absurd (let y : NO_RING ≡ JOINED = sym e ∙ z in omega arith) }
emptied_explained s i (inr e) = record { kept = rw e.0; taker = λ z. e.1 }

-- with marks that mean something, and present places on their rings, the store is sound
pub resolved_sound : (s : Store) → Resolved s → ((i : ℕ) → Closed s i → s (rc MARK) i ≤ 4) → ((i : ℕ) → Closed s i → is_done (due_at s i) ≡ false → 0 < occ (s (rc PRESENT) i) (ring_at s i)) → Sound s
resolved_sound s o meant going =
    record {
      few_points = o.few_points;
      few_records = o.few_records;
      good = λ i h. record {
        linked = (o.whole i h).linked;
        points_in_lem = λ k p.
            let b : k < pts s = (o.whole i h).below k p in
            record { below = b; x_in = o.x_in k b; y_in = o.y_in k b; record_in = res_low s (s (pt REC) k) i (o.home i k h p) };
        owner = o.owner_in i h;
        meant = meant i;
        going = going i;
        explained = λ e. emptied_explained s i (o.emptied i h e);
      };
      once = (table s o).once;
    }
