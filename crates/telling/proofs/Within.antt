-- The numbers told are small: a taker names a record, and a path's place is below its record's number.
use Prim.Native.Nat.{ℕ, zero, suc, ◌≤◌, ◌<◌}
use mathlib.Core.Path.{◌≡◌, refl}
use mathlib.Core.Bool.{Bool, true, false, cond, not, ◌||◌}
use mathlib.Core.List.{List}
use mathlib.Core.Option.{Option, none, some}
use native.Mathlib.Omega.{arith}
use lib.Dec.{eqb, ltb}
use lib.ListN.{length, length-append}
use borrow.Author.Tests.{eqb-true, ltb-true}
use Rattle.std.specs.Prelude.{Result, Ok, Err}
use Rattle.job.specs.declared.refusal.Refusal.{Refusal}
use Rattle.job.specs.declared.refusal.Refusal.TheVariants.{OutOfTurn}
use Rattle.geometry.specs.declared.Point.{Point}
use Rattle.rings.specs.Progress.{Discard, at_validity, while_removing, at_split}
use Rattle.store.specs.Field.{rc, REASON, TAKER}
use Rattle.store.specs.Words.{Store, view}
use Rattle.store.specs.Reason.{JOINED, discard_of}
use Rattle.store.specs.Sound.{recs, ringless, is_open}
use Rattle.store.specs.Good.{Sound}
use Rattle.store.specs.Value.{reverse_solution}
use Rattle.handed.specs.Handed.{handed_of}
use Rattle.handed.proofs.Handing.{handed_sound}
use Rattle.steps.specs.Live.{any_live}
use Rattle.paths.specs.declared.NoPath.{NoPath}
use Rattle.paths.specs.declared.NoPath.TheVariants.{Short, Small}
use Rattle.paths.specs.Path.{path_if, listed, path_end, paths_below}
use Rattle.telling.specs.declared.Reason.TheVariants.{Joined}
use Rattle.telling.specs.Telling.{discard_reason, kept_reason, end_reason, path_reason, reason_at, reason_by, reason_of}
use Rattle.telling.specs.Within.{NumberWithin, ToldWithin}

-- no more paths than records
paths_few : (s : Store) (o : Bool) (n : ℕ) → length (paths_below n o s) ≤ n
paths_few s o zero = omega arith
paths_few s o (suc n) = omega (arith, length-append (paths_below n o s) (listed (path_if s o n)), paths_few s o n, one (path_if s o n))
  where
    one : (x : Option (List Point)) → length (listed x) ≤ 1
    one none = omega arith
    one (some p) = omega arith

module _ (s : Store) (h : Sound s) (i : ℕ) (l : i < recs s) where
  kept_within : ringless s i ≡ true → NumberWithin (kept_reason (s (rc REASON) i) (s (rc TAKER) i))
  unfolding kept_reason
  kept_within r = go (eqb (s (rc REASON) i) JOINED) refl (discard_of (s (rc REASON) i))
    where
      go : (b : Bool) → eqb (s (rc REASON) i) JOINED ≡ b → (y : Option Discard) → NumberWithin (cond b (Joined (s (rc TAKER) i)) (discard_reason y))
      go true e y = omega (arith, ((h.good i l).explained r).taker (eqb-true _ _ e), h.few_records)
      go false e none = tt
      go false e (some at_validity) = tt
      go false e (some while_removing) = tt
      go false e (some at_split) = tt

  path_within : NumberWithin (path_reason s i)
  unfolding path_reason
  path_within = go (path_end s (reverse_solution s) (is_open s i) i)
    where
      go : (e : Result ℕ NoPath) → NumberWithin (end_reason (is_open s i) (length (paths_below i (is_open s i) s)) e)
      go (Err Short) = tt
      go (Err Small) = tt
      go (Ok n) = omega (arith, paths_few s (is_open s i) i, l, h.few_records)

  reason_within : NumberWithin (reason_at s i)
  unfolding reason_at
  reason_within = go (ringless s i) refl
    where
      go : (b : Bool) → ringless s i ≡ b → NumberWithin (cond b (kept_reason (s (rc REASON) i) (s (rc TAKER) i)) (path_reason s i))
      go true r = kept_within r
      go false r = path_within

-- THE LAW, on every work space and every number
pub told_within : (w : List ℕ) (i : ℕ) → ToldWithin (reason_of w i)
unfolding reason_of
told_within w i = go (handed_of w) refl
  where
    asked : Sound (view w) → (a b : Bool) → ltb i (recs (view w)) ≡ a → ToldWithin (cond (not a || b) (Err OutOfTurn) (Ok (reason_at (view w) i)))
    asked h true true e = tt
    asked h true false e = reason_within (view w) h i (ltb-true i (recs (view w)) e)
    asked h false b e = tt

    go : (v : Result (Unit {0}) Refusal) → handed_of w ≡ v → ToldWithin (reason_by v w i)
    go (Err x) e = tt
    go (Ok _) e = asked (handed_sound w e).sound (ltb i (recs (view w))) (any_live (view w)) refl
