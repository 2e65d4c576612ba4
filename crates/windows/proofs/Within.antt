-- No call finds more records than there may be.
use Prim.Native.Nat.{ℕ, ◌≤◌}
use mathlib.Core.Path.{◌≡◌, refl}
use mathlib.Core.Bool.{Bool, true, false, cond}
use mathlib.Core.List.{List}
use native.Mathlib.Omega.{arith}
use lib.Dec.{ltb}
use lib.ListN.{length}
use Rattle.std.specs.Prelude.{Result, Ok, Err}
use Rattle.job.specs.Limits as limit
use Rattle.job.specs.declared.refusal.Refusal.{Refusal}
use Rattle.job.specs.declared.refusal.Refusal.TheVariants.{SmallTray}
use Rattle.geometry.specs.declared.Rect.{Rect}
use Rattle.store.specs.Words.{view}
use Rattle.store.specs.Sound.{recs}
use Rattle.handed.specs.Handed.{handed_of}
use Rattle.handed.proofs.Handing.{handed_usable}
use Rattle.paths.specs.Tray.{padded}
use Rattle.std.specs.Prelude.{Ok, Err}
use Rattle.windows.specs.RecordsIn.{is_in, all_in, found, records_by, records_in}
use Rattle.windows.specs.Within.{FoundWithin}
use Rattle.windows.proofs.Passing.{passing_few}

pub found_within : (w : List ℕ) (window : Rect) (l : List ℕ) → FoundWithin (records_in w window l).answer
unfolding records_in all_in
found_within w window l = go (handed_of w) refl
  where
    by : (b : Bool) → length (all_in w window) ≤ limit.RECORDS → FoundWithin (cond b (found (Err SmallTray) l) (found (Ok (length (all_in w window))) (padded (length l) (all_in w window)))).answer
    by true h = tt
    by false h = h

    go : (v : Result (Unit {0}) Refusal) → handed_of w ≡ v → FoundWithin (records_by v w window l).answer
    go (Err r) e = tt
    go (Ok _) e = by (ltb (length l) (length (all_in w window))) (omega (arith, passing_few (is_in w window) (recs (view w)), (handed_usable w e).sound.few_records))
