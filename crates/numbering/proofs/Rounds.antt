-- How numbering goes: point by point round a ring, ring by ring over the records.
use Prim.Native.Nat.{ℕ, zero, suc, ◌+◌, ◌-◌, ◌*◌, ◌≤◌, ◌<◌, ◌^◌}
use mathlib.Core.Path.{◌≡◌, refl, sym, ap, ◌∙◌, subst}
use mathlib.Core.Logic.{◌≢◌}
use mathlib.Core.Bool.{cond}
use mathlib.Core.List.{List, [], ◌∷◌}
use native.Mathlib.Numerals.{sub-one, add-one}
use native.Mathlib.Omega.{arith}
use lib.ListN.{length, get_or, set, get_or-eq_default}
use native.Mathlib.Decide.{ℕ_discrete}
use lib.Dec.{eqb}
use lib.ListN.{length-set}
use borrow.Author.Tests.{eq-eqb, ne_eqb}
use Rattle.rings.specs.Walk.{run}
use Rattle.job.specs.Limits.{POINTS}
use Rattle.store.specs.Field.{NONE}
use Rattle.store.specs.Words.{view}
use Rattle.store.specs.Named.{next_of, first_of, records_of, ring_of}
use Rattle.store.specs.Sound.{ring_at}
use Rattle.numbering.specs.Numbers.{NumberedTo, numbered_to, number_on, number_onward, number_to}

-- ---- what is ahead of p: p, and then nothing or the rest

module _ (n : ℕ → ℕ) (a p : ℕ) where
  pub ahead_back : (f : ℕ) → 0 < f → n p ≡ a → run n a f p ≡ p ∷ []
  unfolding run
  ahead_back zero z h = absurd (omega arith)
  ahead_back (suc f) z h = rw (eq-eqb (n p) a h)

  pub ahead_on : (f : ℕ) → 0 < f → n p ≢ a → run n a f p ≡ p ∷ run n a (f - 1) (n p)
  unfolding run
  ahead_on zero z h = absurd (omega arith)
  ahead_on (suc f) z h = rw (sub-one, ne_eqb (n p) a h)

  pub ahead_none : (f : ℕ) → f ≤ 0 → run n a f p ≡ []
  unfolding run
  ahead_none zero z = refl
  ahead_none (suc f) z = absurd (omega arith)

run_short : (n : ℕ → ℕ) (a f p : ℕ) → length (run n a f p) ≤ f
unfolding run
run_short n a zero p = omega arith
run_short n a (suc f) p = go (ℕ_discrete (n p) a) (run_short n a f (n p))
  where
    go : Dec (n p ≡ a) → length (run n a f (n p)) ≤ f → suc (length (cond (eqb (n p) a) [] (run n a f (n p)))) ≤ suc f
    go (yes e) h = rw (eq-eqb (n p) a e) (omega arith)
    go (no e) h = rw (ne_eqb (n p) a e) (omega arith)

pub ring_short : (w : List ℕ) (i : ℕ) → length (ring_at (view w) i) ≤ POINTS
ring_short w i = go (ℕ_discrete (first_of w i) NONE)
  where
    go : Dec (first_of w i ≡ NONE) → length (ring_at (view w) i) ≤ POINTS
    go (yes e) = rw (eq-eqb (first_of w i) NONE e) (omega arith)
    go (no e) = rw (ne_eqb (first_of w i) NONE e) (run_short (next_of w) (first_of w i) POINTS (first_of w i))

-- a number past the table
pub past_table : (t : List ℕ) (p : ℕ) → length t ≤ p → 0 ≡ get_or t p 0
past_table t p h = sym (get_or-eq_default t 0 {n = p} h)

-- ---- round a ring

-- the points from p on are yet to be numbered, from n on
pub record Numbering (w : List ℕ) (a k : ℕ) (t₀ : List ℕ) (n p left : ℕ) (t : List ℕ) : Type 0 where
  pub is : number_on (run (next_of w) a left p) n t ≡ number_on (ring_of w a) k t₀
  pub long : length t ≡ length t₀
  pub few : n + left ≤ k + POINTS

pub numbering_begun : (w : List ℕ) (a k : ℕ) (t : List ℕ) → Numbering w a k t k a POINTS t
numbering_begun w a k t = record { is = refl; long = refl; few = omega arith }

on_one : (p k : ℕ) (l t : List ℕ) → number_on (p ∷ l) k t ≡ number_on l (suc k) (set t p k)
unfolding number_on
on_one p k l t = refl

on_none : (k : ℕ) (t : List ℕ) → number_on [] k t ≡ numbered_to k t
unfolding number_on
on_none k t = refl

module _ {w : List ℕ} {a k : ℕ} {t₀ : List ℕ} {n p left : ℕ} {t : List ℕ} (g : Numbering w a k t₀ n p left t) where
  pub numbering_over : left ≤ 0 → numbered_to n t ≡ number_on (ring_of w a) k t₀
  numbering_over z = sym (ap (λ (l : List ℕ). number_on l n t) (ahead_none (next_of w) a p left z) ∙ on_none n t) ∙ g.is

  module _ (z : 0 < left) (x : ℕ) (t' : List ℕ) (e : t' ≡ set t p n) (d : x ≡ next_of w p) where
    pub numbering_back : x ≡ a → numbered_to (n + 1) t' ≡ number_on (ring_of w a) k t₀
    numbering_back y =
        rw (e, add-one)
        (sym (ap (λ (l : List ℕ). number_on l n t) (ahead_back (next_of w) a p left z (sym d ∙ y)) ∙ on_one p n [] t ∙ on_none (suc n) (set t p n)) ∙ g.is)

    pub numbering_on : (x ≡ a → ⊥) → Numbering w a k t₀ (n + 1) x (left - 1) t'
    numbering_on y =
        record {
          is = rw (d, e, add-one) (sym (ap (λ (l : List ℕ). number_on l n t) (ahead_on (next_of w) a p left z (λ u. y (d ∙ u))) ∙ on_one p n (run (next_of w) a (left - 1) (next_of w p)) t) ∙ g.is);
          long = ap length e ∙ length-set t p n ∙ g.long;
          few = omega (arith, g.few);
        }

-- of a walk of POINTS at most, k are done
pub numbering_next : {w : List ℕ} {a b : ℕ} {t₀ : List ℕ} {n p k : ℕ} {t : List ℕ} → Numbering w a b t₀ n p (POINTS - k) t → k < POINTS → (x : ℕ) (t' : List ℕ) → t' ≡ set t p n → x ≡ next_of w p → (x ≡ a → ⊥) → Numbering w a b t₀ (n + 1) x (POINTS - (k + 1)) t'
numbering_next {w} {a} {b} {t₀} {n} {k = k} g h x t' e d y =
    let z : POINTS - k - 1 ≡ POINTS - (k + 1) = omega arith in
    subst (λ (j : ℕ). Numbering w a b t₀ (n + 1) x j t') z (numbering_on g (omega arith) x t' e d y)

-- a record without points, and one with
pub ringless_numbered : (w : List ℕ) (i a k : ℕ) (t : List ℕ) → a ≡ first_of w i → a ≡ NONE → numbered_to k t ≡ number_on (ring_at (view w) i) k t
ringless_numbered w i a k t e h = rw (eq-eqb (first_of w i) NONE (sym e ∙ h)) (sym (on_none k t))

pub ring_numbered : (w : List ℕ) (i a k q : ℕ) (t u : List ℕ) → a ≡ first_of w i → (a ≡ NONE → ⊥) → numbered_to q u ≡ number_on (ring_of w a) k t → numbered_to q u ≡ number_on (ring_at (view w) i) k t
ring_numbered w i a k q t u e h g = g ∙ rw (ne_eqb (first_of w i) NONE (λ y. h (e ∙ y)), ← e)

-- ---- ring by ring

pub next_is : (l : List ℕ) (k : ℕ) (t : List ℕ) → (number_on l k t).next ≡ k + length l
unfolding number_on
next_is [] k t = omega arith
next_is (p ∷ l) k t = omega (arith, next_is l (suc k) (set t p k))

pub length_on : (l : List ℕ) (k : ℕ) (t : List ℕ) → length (number_on l k t).numbers ≡ length t
unfolding number_on
length_on [] k t = refl
length_on (p ∷ l) k t = length_on l (suc k) (set t p k) ∙ length-set t p k

-- the rings of the records below i are numbered
pub record NumberingAll (w t₀ : List ℕ) (k i : ℕ) (t : List ℕ) : Type 0 where
  pub within : i ≤ records_of w
  pub is : numbered_to k t ≡ number_to (view w) i t₀
  pub long : length t ≡ length t₀
  pub few : k ≤ POINTS * i

pub all_begun : (w t : List ℕ) → NumberingAll w t 0 0 t
unfolding number_to
all_begun w t = record { within = omega arith; is = refl; long = refl; few = omega arith }

module _ {w t₀ : List ℕ} {k i : ℕ} {t : List ℕ} (g : NumberingAll w t₀ k i t) where
  pub all_few : (n : ℕ) → i < n → n < 2 ^ 32 → k < 2 ^ 43
  all_few n h l = omega (arith, g.few)

  pub all_on : (n q : ℕ) (u : List ℕ) → n ≡ records_of w → i < n → numbered_to q u ≡ number_on (ring_at (view w) i) k t → NumberingAll w t₀ q (i + 1) u
  unfolding number_to
  all_on n q u e h f =
      record {
        within = omega arith;
        is = rw add-one (f ∙ ap (number_onward (ring_at (view w) i)) g.is);
        long = ap (λ (x : NumberedTo). length x.numbers) f ∙ length_on (ring_at (view w) i) k t ∙ g.long;
        few = omega (arith, ap (λ (x : NumberedTo). x.next) f, next_is (ring_at (view w) i) k t, ring_short w i, g.few);
      }

  pub all_over : (n : ℕ) → n ≡ records_of w → n ≤ i → numbered_to k t ≡ number_to (view w) (records_of w) t₀
  all_over n e h = let d : i ≡ records_of w = omega (arith, g.within) in g.is ∙ ap (λ (j : ℕ). number_to (view w) j t₀) d
