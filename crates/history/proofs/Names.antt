-- Places by the words and by the book are the same, and no name comes to be kept twice.
use Prim.Native.Nat.{ℕ, suc, ◌<◌}
use mathlib.Core.Path.{◌≡◌, refl, ap, ◌∙◌, sym}
use mathlib.Core.Logic.{◌≢◌}
use mathlib.Core.Bool.{Bool, true, false, cond, not}
use mathlib.Core.List.{List}
use mathlib.Core.Option.{Option, none, some}
use native.Mathlib.Omega.{arith}
use native.Mathlib.Decide.{ℕ_discrete, dec_lt}
use lib.Dec.{eqb, ltb}
use borrow.Author.Tests.{eq-eqb, ne_eqb, eqb-true, eqb-false, le-leb, ltb-true, ltb-false}
use Rattle.store.specs.Field.{STATES}
use Rattle.store.specs.States.{BYTES, word_of_name, is_name, name_at, Apart}
use Rattle.states.specs.Places.{keeps_name, is_free, place_of, free_place, keep_place}
use Rattle.states.proofs.Lowest.{first_hits, first_misses, first_same}
use Rattle.history.specs.Histories.{KeptState, Histories, has_name, has_none, place_in, free_in, keep_in}
use Rattle.history.specs.AfterCalls.{HoldsAt}

pub name_is : (n : ℕ) → n < BYTES → is_name (word_of_name n) ≡ true
name_is n h = rw (le-leb 1 (suc n) (omega arith), le-leb (suc n) BYTES (omega arith))

same_suc : (a b : ℕ) → eqb (suc a) (suc b) ≡ eqb a b
same_suc a b = go (ℕ_discrete a b)
  where
    go : Dec (a ≡ b) → eqb (suc a) (suc b) ≡ eqb a b
    go (yes e) = eq-eqb (suc a) (suc b) (ap suc e) ∙ sym (eq-eqb a b e)
    go (no d) = ne_eqb (suc a) (suc b) (λ e. d (omega arith)) ∙ sym (ne_eqb a b d)

apart_bools : {A : Type 0} → true ≡ false → A
apart_bools e = absurd (let z : ◌≡◌ {A = ℕ} 0 1 = cc in omega arith)

-- ---- searches

module _ (b : Histories) (w : List ℕ) (h : (p : ℕ) → p < STATES → HoldsAt w p (b.places p)) where
  module _ (n : ℕ) (low : n < BYTES) where
    names_agree : (j : ℕ) → j < STATES → keeps_name w n j ≡ has_name n (b.places j)
    names_agree j l = go (b.places j) (h j l)
      where
        go : (x : Option KeptState) → HoldsAt w j x → eqb (name_at w j) (word_of_name n) ≡ has_name n x
        go none e = ne_eqb (name_at w j) (word_of_name n) (λ f. apart_bools (sym (name_is n low) ∙ sym (ap is_name f) ∙ e))
        go (some k) r = ap (λ (v : ℕ). eqb v (word_of_name n)) r.name ∙ same_suc k.name n

    pub place_agrees : place_of w n ≡ place_in b n
    place_agrees = first_same (λ p. keeps_name w n p) (λ p. has_name n (b.places p)) STATES 0 (λ j a l. names_agree j (omega arith))

  free_agree : (j : ℕ) → j < STATES → is_free w j ≡ has_none (b.places j)
  free_agree j l = go (b.places j) (h j l)
    where
      go : (x : Option KeptState) → HoldsAt w j x → not (is_name (name_at w j)) ≡ has_none x
      go none e = ap not e
      go (some k) r = ap (λ (v : ℕ). not (is_name v)) r.name ∙ ap not (name_is k.name r.byte)

  free_agrees : free_place w ≡ free_in b
  free_agrees = first_same (λ p. is_free w p) (λ p. has_none (b.places p)) STATES 0 (λ j a l. free_agree j (omega arith))

  pub keep_agrees : (n : ℕ) → n < BYTES → keep_place w n ≡ keep_in b n
  keep_agrees n low =
      ap (λ (p : ℕ). cond (ltb p STATES) p (free_place w)) (place_agrees n low)
      ∙ ap (cond (ltb (place_in b n) STATES) (place_in b n)) free_agrees

-- ---- names stay apart where only place p's changes

module _ (w u : List ℕ) (p : ℕ) (same : (j : ℕ) → j < STATES → j ≢ p → name_at u j ≡ name_at w j) (new : is_name (name_at u p) ≡ true → (j : ℕ) → j < STATES → j ≢ p → name_at w j ≢ name_at u p) where
  pub apart_but : Apart w → Apart u
  apart_but a = record { differ = λ i j l h t f. go i j l h t f (ℕ_discrete i p) (ℕ_discrete j p) }
    where
      go : (i j : ℕ) → i < j → j < STATES → is_name (name_at u i) ≡ true → name_at u i ≡ name_at u j → Dec (i ≡ p) → Dec (j ≡ p) → ⊥
      go i j l h t f (yes e) d =
          let g : name_at u i ≡ name_at u p = ap (name_at u) e in
          let k : j ≢ p = λ z. omega (arith, z, e) in
          new (sym (ap is_name g) ∙ t) j h k (sym (same j h k) ∙ sym f ∙ g)
      go i j l h t f (no c) (yes e) =
          let g : name_at u j ≡ name_at u p = ap (name_at u) e in
          new (sym (ap is_name (f ∙ g)) ∙ t) i (omega arith) c (sym (same i (omega arith) c) ∙ f ∙ g)
      go i j l h t f (no c) (no d) =
          a.differ i j l h (sym (ap is_name (same i (omega arith) c)) ∙ t) (sym (same i (omega arith) c) ∙ f ∙ same j h d)

-- the place that a name is kept at is the only one that says it
module _ (w : List ℕ) (a : Apart w) (n : ℕ) (low : n < BYTES) where
  only : (p q : ℕ) → p < STATES → q < STATES → p ≢ q → name_at w p ≡ word_of_name n → name_at w q ≡ word_of_name n → ⊥
  only p q h k d e f = go (dec_lt p q)
    where
      named : (i : ℕ) → name_at w i ≡ word_of_name n → is_name (name_at w i) ≡ true
      named i g = ap is_name g ∙ name_is n low

      go : Dec (p < q) → ⊥
      go (yes l) = a.differ p q l k (named p e) (e ∙ sym f)
      go (no l) = a.differ q p (omega arith) h (named q f) (f ∙ sym e)

  pub kept_once : (j : ℕ) → j < STATES → j ≢ keep_place w n → name_at w j ≢ word_of_name n
  kept_once j h d e = go (ltb (place_of w n) STATES) refl d
    where
      go : (c : Bool) → ltb (place_of w n) STATES ≡ c → j ≢ cond c (place_of w n) (free_place w) → ⊥
      go true g d' =
          let l : place_of w n < STATES = ltb-true (place_of w n) STATES g in
          let t : keeps_name w n (place_of w n) ≡ true = first_hits (λ p. keeps_name w n p) STATES 0 (omega arith) in
          only j (place_of w n) h l d' e (eqb-true (name_at w (place_of w n)) (word_of_name n) t)
      go false g d' = eqb-false (name_at w j) (word_of_name n) (first_misses (λ p. keeps_name w n p) STATES 0 (omega (arith, ltb-false (place_of w n) STATES g)) j (omega arith) (omega arith)) e
