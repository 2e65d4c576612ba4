-- What keeping, going back and dropping leave of other places, on every work space.
use Prim.Native.Nat.{ℕ, ◌≤◌, ◌<◌}
use mathlib.Core.Path.{◌≡◌, refl}
use mathlib.Core.Logic.{◌≢◌}
use mathlib.Core.Bool.{Bool, true, false, cond}
use mathlib.Core.List.{List}
use lib.Dec.{ltb}
use lib.ListN.{length, drop}
use borrow.Author.Tests.{ltb-true}
use Rattle.std.specs.Prelude.{Result, Ok, Err}
use Rattle.job.specs.declared.refusal.Refusal.{Refusal}
use Rattle.job.specs.declared.refusal.Refusal.TheVariants.{UnknownName, NoPlace}
use Rattle.store.specs.Field.{BLOCK, STATES, LENGTH}
use Rattle.store.specs.States.{name_at, kept_block}
use Rattle.handed.specs.Handed.{handed_of}
use Rattle.audit.specs.Left.{left}
use Rattle.handed.proofs.Handing.{handed_usable}
use Rattle.states.specs.Places.{place_of, keep_place}
use Rattle.states.specs.Calls.{stored, restored, freed, keep_by, back_by, drop_by, keep_of, go_back_of, drop_of}
use Rattle.states.proofs.Words.{stored_other, stored_others, restored_behind, freed_other, freed_copies}

module _ (w : List ℕ) (n : ℕ) where
  -- ---- going back: every word behind the live block

  pub back_behind : drop BLOCK (go_back_of w n).words ≡ drop BLOCK w
  unfolding go_back_of
  back_behind = go (handed_of w) refl
    where
      at : LENGTH ≤ length w → (p : ℕ) (b : Bool) → ltb p STATES ≡ b → drop BLOCK (cond b (left (Ok tt) (restored w p)) (left (Err UnknownName) w)).words ≡ drop BLOCK w
      at l p true h = restored_behind w l p (ltb-true p STATES h)
      at l p false h = refl

      go : (v : Result (Unit {0}) Refusal) → handed_of w ≡ v → drop BLOCK (back_by v w n).words ≡ drop BLOCK w
      go (Err r) e = refl
      go (Ok _) e = at (handed_usable w e).long (place_of w n) (ltb (place_of w n) STATES) refl

  module _ (q : ℕ) (k : q < STATES) where
    -- ---- keeping: every place but the one that the name is kept at

    pub keep_name : q ≢ keep_place w n → name_at (keep_of w n).words q ≡ name_at w q
    unfolding keep_of
    keep_name d = go (handed_of w) refl
      where
        at : LENGTH ≤ length w → (p : ℕ) → q ≢ p → (b : Bool) → ltb p STATES ≡ b → name_at (cond b (left (Ok tt) (stored w p n)) (left (Err NoPlace) w)).words q ≡ name_at w q
        at l p f true h = stored_other w l p (ltb-true p STATES h) n q k f
        at l p f false h = refl

        go : (v : Result (Unit {0}) Refusal) → handed_of w ≡ v → name_at (keep_by v w n).words q ≡ name_at w q
        go (Err r) e = refl
        go (Ok _) e = at (handed_usable w e).long (keep_place w n) d (ltb (keep_place w n) STATES) refl

    pub keep_copy : q ≢ keep_place w n → kept_block (keep_of w n).words q ≡ kept_block w q
    unfolding keep_of
    keep_copy d = go (handed_of w) refl
      where
        at : LENGTH ≤ length w → (p : ℕ) → q ≢ p → (b : Bool) → ltb p STATES ≡ b → kept_block (cond b (left (Ok tt) (stored w p n)) (left (Err NoPlace) w)).words q ≡ kept_block w q
        at l p f true h = stored_others w l p (ltb-true p STATES h) n q k f
        at l p f false h = refl

        go : (v : Result (Unit {0}) Refusal) → handed_of w ≡ v → kept_block (keep_by v w n).words q ≡ kept_block w q
        go (Err r) e = refl
        go (Ok _) e = at (handed_usable w e).long (keep_place w n) d (ltb (keep_place w n) STATES) refl

    -- ---- dropping: every other name, and every copy

    pub drop_name_lem : q ≢ place_of w n → name_at (drop_of w n).words q ≡ name_at w q
    unfolding drop_of
    drop_name_lem d = go (handed_of w) refl
      where
        at : LENGTH ≤ length w → (p : ℕ) → q ≢ p → (b : Bool) → ltb p STATES ≡ b → name_at (cond b (left (Ok tt) (freed w p)) (left (Err UnknownName) w)).words q ≡ name_at w q
        at l p f true h = freed_other w l p (ltb-true p STATES h) q f
        at l p f false h = refl

        go : (v : Result (Unit {0}) Refusal) → handed_of w ≡ v → name_at (drop_by v w n).words q ≡ name_at w q
        go (Err r) e = refl
        go (Ok _) e = at (handed_usable w e).long (place_of w n) d (ltb (place_of w n) STATES) refl

    pub drop_copy : kept_block (drop_of w n).words q ≡ kept_block w q
    unfolding drop_of
    drop_copy = go (handed_of w) refl
      where
        at : LENGTH ≤ length w → (p : ℕ) (b : Bool) → ltb p STATES ≡ b → kept_block (cond b (left (Ok tt) (freed w p)) (left (Err UnknownName) w)).words q ≡ kept_block w q
        at l p true h = freed_copies w l p (ltb-true p STATES h) q
        at l p false h = refl

        go : (v : Result (Unit {0}) Refusal) → handed_of w ≡ v → kept_block (drop_by v w n).words q ≡ kept_block w q
        go (Err r) e = refl
        go (Ok _) e = at (handed_usable w e).long (place_of w n) (ltb (place_of w n) STATES) refl
