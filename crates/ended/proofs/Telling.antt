-- The reason told, by what the store says: of a record without a ring, of one with a ring, of the call.
use mathlib.Core.Path.{◌≡◌, sym, ap, ◌∙◌}
use mathlib.Core.Bool.{Bool, true, false, cond, beq}
use mathlib.Core.List.{List, [], ◌∷◌, ◌++◌, append_assoc}
use mathlib.Core.Option.{Option, none, some}
use Prim.Native.Nat.{ℕ, zero, suc, ◌≤◌, ◌<◌}
use native.Mathlib.Omega.{arith}
use native.Mathlib.Decide.{ℕ_discrete}
use lib.ListN.{length}
use borrow.Author.Tests.{ne_eqb, lt-ltb}
use Rattle.std.specs.Prelude.{Ok}
use Rattle.rings.specs.Progress.{Discard}
use Rattle.geometry.specs.declared.Point.{Point}
use Rattle.store.specs.Field.{rc, REASON, TAKER}
use Rattle.store.specs.Words.{Store, view}
use Rattle.store.specs.Reason.{NO_RING, JOINED, discard_of}
use Rattle.store.specs.Sound.{recs, ringless, is_open}
use Rattle.store.specs.Value.{reverse_solution}
use Rattle.handed.specs.Handed.{handed_of}
use Rattle.steps.specs.Live.{any_live}
use Rattle.paths.specs.Path.{path_at, path_if, listed, small_by, path_end, paths_below}
use Rattle.telling.specs.declared.Reason.TheVariants.{NoRing, Joined, ShortPath, SmallPath, Written}
use Rattle.telling.specs.Telling.{discard_reason, kept_reason, path_reason, reason_at, reason_of}

-- ---- without a ring

module _ (s : Store) (j : ℕ) (r : ringless s j ≡ true) where
  kept : reason_at s j ≡ kept_reason (s (rc REASON) j) (s (rc TAKER) j)
  unfolding reason_at
  kept = rw r

  pub tells_none : s (rc REASON) j ≡ NO_RING → reason_at s j ≡ NoRing
  unfolding kept_reason
  tells_none e = kept ∙ ap (λ (v : ℕ). kept_reason v (s (rc TAKER) j)) e

  pub tells_joined : (u : ℕ) → s (rc REASON) j ≡ JOINED → s (rc TAKER) j ≡ u → reason_at s j ≡ Joined u
  unfolding kept_reason
  tells_joined u e f = kept ∙ ap (λ (v : ℕ). kept_reason v (s (rc TAKER) j)) e ∙ ap Joined f

  pub tells_rule : (y : Discard) → discard_of (s (rc REASON) j) ≡ some y → reason_at s j ≡ discard_reason (some y)
  unfolding kept_reason
  tells_rule y e = kept ∙ rw (ne_eqb (s (rc REASON) j) JOINED other, e)
    where
      other : s (rc REASON) j ≡ JOINED → ⊥
      other z =
          let h : ◌≡◌ {A = Option Discard} none (some y) = ap discard_of (sym z) ∙ e in
          let k : ◌≡◌ {A = ℕ} 0 1 = cc in
          omega arith

-- ---- with a ring

module _ (s : Store) (j : ℕ) (r : ringless s j ≡ false) where
  by_path : reason_at s j ≡ path_reason s j
  unfolding reason_at
  by_path = rw r

  pub tells_short : path_at s j ≡ none → small_by s (reverse_solution s) (is_open s j) j ≡ false → reason_at s j ≡ ShortPath
  unfolding path_reason path_end path_at
  tells_short e f = by_path ∙ rw (f, e)

  pub tells_small : path_at s j ≡ none → small_by s (reverse_solution s) (is_open s j) j ≡ true → reason_at s j ≡ SmallPath
  unfolding path_reason path_end path_at
  tells_small e f = by_path ∙ rw (f, e)

  pub tells_written : (p : List Point) → path_at s j ≡ some p → reason_at s j ≡ Written (is_open s j) (length (paths_below j (is_open s j) s))
  unfolding path_reason path_end path_at
  tells_written p e = by_path ∙ rw e

-- ---- a path in its list

module _ (s : Store) (o : Bool) (j : ℕ) (p : List Point) (e : path_if s o j ≡ some p) where
  -- those of the records after it come after it
  pub in_list : (n : ℕ) → j < n → (after : List (List Point)) × (paths_below n o s ≡ paths_below j o s ++ p ∷ after)
  in_list zero l = absurd (omega arith)
  in_list (suc n) l = go (ℕ_discrete n j) (λ h. in_list n h)
    where
      go : Dec (n ≡ j) → (j < n → (after : List (List Point)) × (paths_below n o s ≡ paths_below j o s ++ p ∷ after)) → (after : List (List Point)) × (paths_below n o s ++ listed (path_if s o n) ≡ paths_below j o s ++ p ∷ after)
      go (yes z) h = ([], ap (λ (k : ℕ). paths_below k o s ++ listed (path_if s o k)) z ∙ ap (λ (x : Option (List Point)). paths_below j o s ++ listed x) e)
      go (no d) h =
          let t = h (omega arith) in
          (t.0 ++ listed (path_if s o n), ap (λ (x : List (List Point)). x ++ listed (path_if s o n)) t.1 ∙ append_assoc (paths_below j o s) (p ∷ t.0) (listed (path_if s o n)))

pub own_list : (s : Store) (j : ℕ) (p : List Point) → path_at s j ≡ some p → path_if s (is_open s j) j ≡ some p
unfolding path_if
own_list s j p e = go (is_open s j)
  where
    go : (b : Bool) → cond (beq b b) (path_at s j) none ≡ some p
    go true = e
    go false = e

-- ---- the call

pub call_tells : (w : List ℕ) (j : ℕ) → handed_of w ≡ (Ok tt) → j < recs (view w) → any_live (view w) ≡ false → reason_of w j ≡ Ok (reason_at (view w) j)
unfolding reason_of
call_tells w j p h d = rw (p, lt-ltb j (recs (view w)) h, d)
