-- What the needs of the three calls' code come to.
use Prim.Native.Nat.{ℕ, ◌≤◌, ◌<◌}
use mathlib.Core.Path.{◌≡◌, refl, ap, ◌∙◌, sym, subst}
use mathlib.Core.List.{List}
use lib.ListN.{length}
use borrow.Author.Tests.{lt-ltb}
use Rattle.std.specs.Prelude.{Option, None, Some, IfSome, Result, Ok, Err}
use Rattle.std.specs.Option.{unwrap_or, ok_or}
use Rattle.job.specs.declared.refusal.Refusal.{Refusal}
use Rattle.job.specs.declared.refusal.Refusal.TheVariants.{UnknownName, NoPlace}
use Rattle.store.specs.Field.{STATES, LENGTH}
use Rattle.handed.specs.Handed.{handed_of}
use Rattle.handed.proofs.Handing.{handed_usable}
use Rattle.states.specs.Places.{place_of, keep_place, Names}
use Rattle.audit.specs.Left.{left}
use Rattle.states.specs.Calls.{stored, restored, freed, keep_at, back_at, drop_at, keep_by, back_by, drop_by, keep_of, go_back_of, drop_of}

-- ---- a place that is none is a refusal

pub place_was : (o : Option ℕ) (x : Refusal) (r : Result ℕ Refusal) (p : ℕ) → r ≡ ok_or o x → r ≡ Ok p → o ≡ Some p
place_was None x r p e f = cc
place_was (Some q) x r p e f = cc

pub none_was : (o : Option ℕ) (x : Refusal) (r : Result ℕ Refusal) (y : Refusal) → r ≡ ok_or o x → r ≡ Err y → (o ≡ None) × (y ≡ x)
none_was None x r y e f = (refl, cc)
none_was (Some q) x r y e f = let a : Ok q ≡ Err y = sym e ∙ f in (cc, cc)

pub named : (o : Option ℕ) (q p : ℕ) → Names o q → o ≡ Some p → p < STATES
named o q p c h = subst (λ (a : Option ℕ). IfSome a (λ k. k < STATES)) h c.low

-- v is what the tests of the work space say, n the name

module _ (w : List ℕ) (n : ℕ) (v : Result (Unit {0}) Refusal) (e : v ≡ handed_of w) where
  -- ---- it failed them

  module _ (x : Refusal) (f : v ≡ Err x) where
    pub keep_refused : left (Err x) w ≡ keep_of w n
    unfolding keep_of
    keep_refused = ap (λ (z : Result (Unit {0}) Refusal). keep_by z w n) (sym f ∙ e)

    pub back_refused : left (Err x) w ≡ go_back_of w n
    unfolding go_back_of
    back_refused = ap (λ (z : Result (Unit {0}) Refusal). back_by z w n) (sym f ∙ e)

    pub drop_refused : left (Err x) w ≡ drop_of w n
    unfolding drop_of
    drop_refused = ap (λ (z : Result (Unit {0}) Refusal). drop_by z w n) (sym f ∙ e)

  -- ---- it passed them; p is the place

  module _ (f : v ≡ Ok tt) where
    pub long_passed : LENGTH ≤ length w
    long_passed = (handed_usable w (sym e ∙ f)).long

    module _ (o : Option ℕ) (c : Names o (keep_place w n)) where
      keep_is : keep_at w (unwrap_or o STATES) n ≡ keep_of w n
      unfolding keep_of
      keep_is = ap (λ (k : ℕ). keep_at w k n) c.is ∙ ap (λ (z : Result (Unit {0}) Refusal). keep_by z w n) (sym f ∙ e)

      pub no_place : (y : Refusal) → (o ≡ None) × (y ≡ NoPlace) → left (Err y) w ≡ keep_of w n
      no_place y (h, d) = ap (λ (x : Refusal). left (Err x) w) d ∙ sym (ap (λ (a : Option ℕ). keep_at w (unwrap_or a STATES) n) h) ∙ keep_is

      pub kept : (p : ℕ) (u : List ℕ) → o ≡ Some p → u ≡ stored w p n → left (Ok tt) u ≡ keep_of w n
      kept p u h g = ap (left (Ok tt)) g ∙ rw (lt-ltb p STATES (named o (keep_place w n) p c h)) at (sym (ap (λ (a : Option ℕ). keep_at w (unwrap_or a STATES) n) h) ∙ keep_is)

    module _ (o : Option ℕ) (c : Names o (place_of w n)) where
      back_is : back_at w (unwrap_or o STATES) ≡ go_back_of w n
      unfolding go_back_of
      back_is = ap (back_at w) c.is ∙ ap (λ (z : Result (Unit {0}) Refusal). back_by z w n) (sym f ∙ e)

      drop_is : drop_at w (unwrap_or o STATES) ≡ drop_of w n
      unfolding drop_of
      drop_is = ap (drop_at w) c.is ∙ ap (λ (z : Result (Unit {0}) Refusal). drop_by z w n) (sym f ∙ e)

      pub unknown_back : (y : Refusal) → (o ≡ None) × (y ≡ UnknownName) → left (Err y) w ≡ go_back_of w n
      unknown_back y (h, d) = ap (λ (x : Refusal). left (Err x) w) d ∙ sym (ap (λ (a : Option ℕ). back_at w (unwrap_or a STATES)) h) ∙ back_is

      pub unknown_drop : (y : Refusal) → (o ≡ None) × (y ≡ UnknownName) → left (Err y) w ≡ drop_of w n
      unknown_drop y (h, d) = ap (λ (x : Refusal). left (Err x) w) d ∙ sym (ap (λ (a : Option ℕ). drop_at w (unwrap_or a STATES)) h) ∙ drop_is

      module _ (p : ℕ) (h : o ≡ Some p) where
        pub went_back : (u : List ℕ) → u ≡ restored w p → left (Ok tt) u ≡ go_back_of w n
        went_back u g = ap (left (Ok tt)) g ∙ rw (lt-ltb p STATES (named o (place_of w n) p c h)) at (sym (ap (λ (a : Option ℕ). back_at w (unwrap_or a STATES)) h) ∙ back_is)

        pub dropped : (u : List ℕ) → u ≡ freed w p → left (Ok tt) u ≡ drop_of w n
        dropped u g = ap (left (Ok tt)) g ∙ rw (lt-ltb p STATES (named o (place_of w n) p c h)) at (sym (ap (λ (a : Option ℕ). drop_at w (unwrap_or a STATES)) h) ∙ drop_is)
