-- When the three calls are refused with 14 and 15: exactly where no place keeps the name, and for keeping none is free.
use Prim.Native.Nat.{ℕ, ◌≤◌}
use mathlib.Core.Path.{◌≡◌, refl, ap, ◌∙◌, sym}
use mathlib.Core.Logic.{◌↔◌}
use mathlib.Core.Bool.{Bool, true, false, cond}
use native.Mathlib.Omega.{arith}
use lib.Dec.{ltb}
use borrow.Author.Tests.{le-ltb, ltb-false}
use Rattle.std.specs.Prelude.{Ok, Err}
use Rattle.job.specs.declared.refusal.Refusal.TheVariants.{UnknownName, NoPlace}
use Rattle.store.specs.Field.{STATES}
use Rattle.states.proofs.Lowest.{first_none, first_misses}
use Rattle.history.specs.Histories.{Histories, has_name, has_none, place_in, free_in, keep_answer, known_answer, Unkept, NoneFree}

module _ (b : Histories) (n : ℕ) where
  unkept_place : Unkept b n → place_in b n ≡ STATES
  unkept_place u = first_none (λ p. has_name n (b.places p)) STATES 0 (λ p a l. u p (omega arith))

  place_unkept : STATES ≤ place_in b n → Unkept b n
  place_unkept h p l = first_misses (λ p. has_name n (b.places p)) STATES 0 (omega arith) p (omega arith) (omega arith)

  -- "14 .. going back to, or dropping, a name not kept"
  pub fourteen : (known_answer b n ≡ Err UnknownName) ↔ Unkept b n
  fourteen = (λ e. to (ltb (place_in b n) STATES) refl e, λ u. rw (le-ltb (place_in b n) STATES (omega (arith, unkept_place u))))
    where
      to : (c : Bool) → ltb (place_in b n) STATES ≡ c → cond c (Ok (tt {0})) (Err UnknownName) ≡ Err UnknownName → Unkept b n
      to true h e = absurd (let z : ◌≡◌ {A = ℕ} 0 1 = cc in omega arith)
      to false h e = place_unkept (ltb-false (place_in b n) STATES h)

  -- "15 .. keeping a fifth name"
  pub fifteen : (keep_answer b n ≡ Err NoPlace) ↔ (Unkept b n × NoneFree b)
  fifteen = (λ e. to (ltb (place_in b n) STATES) refl e, λ u. from u.0 u.1)
    where
      free : (c : Bool) → ltb (free_in b) STATES ≡ c → cond c (Ok (tt {0})) (Err NoPlace) ≡ Err NoPlace → NoneFree b
      free true h e = absurd (let z : ◌≡◌ {A = ℕ} 0 1 = cc in omega arith)
      free false h e = λ p l. first_misses (λ p. has_none (b.places p)) STATES 0 (omega (arith, ltb-false (free_in b) STATES h)) p (omega arith) (omega arith)

      to : (c : Bool) → ltb (place_in b n) STATES ≡ c → cond (ltb (cond c (place_in b n) (free_in b)) STATES) (Ok (tt {0})) (Err NoPlace) ≡ Err NoPlace → Unkept b n × NoneFree b
      to true h e = absurd (let f : cond true (Ok (tt {0})) (Err NoPlace) ≡ Err NoPlace = sym (ap (λ (c : Bool). cond c (Ok (tt {0})) (Err NoPlace)) h) ∙ e in let z : ◌≡◌ {A = ℕ} 0 1 = cc in omega arith)
      to false h e = (place_unkept (ltb-false (place_in b n) STATES h), free (ltb (free_in b) STATES) refl e)

      from : Unkept b n → NoneFree b → keep_answer b n ≡ Err NoPlace
      from u f =
          let a : free_in b ≡ STATES = first_none (λ p. has_none (b.places p)) STATES 0 (λ p c l. f p (omega arith)) in
          rw (le-ltb (place_in b n) STATES (omega (arith, unkept_place u)), le-ltb (free_in b) STATES (omega (arith, a)))
