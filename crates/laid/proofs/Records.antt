-- The pooled forest is the two forests one after the other, and each record is at its start where it was.
use Prim.Native.Nat.{ℕ, zero, suc, ◌+◌, ◌-◌, ◌≤◌, ◌<◌, ◌%◌}
use mathlib.Core.Path.{◌≡◌, refl, ap, ◌∙◌, sym, subst}
use mathlib.Core.Bool.{Bool, true, false, cond}
use mathlib.Core.List.{List, [], ◌∷◌, ◌++◌, map}
use native.Mathlib.Nat.{add-zero, add-suc, zero-add, suc-add}
use native.Mathlib.Omega.{arith}
use native.Mathlib.Decide.{dec_lt}
use lib.Dec.{eqb}
use Rattle.rings.specs.Count.{table}
use Rattle.rings.specs.Progress.{Ring, at_start}
use Rattle.lone.specs.Forest.{Fed, left_ringless, left_open, left_closed}
use Rattle.store.specs.Field.{rc, FLAGS, FIRST, MARK, CUT}
use Rattle.job.specs.Limits.{NONE}
use Rattle.store.specs.Words.{Store}
use Rattle.store.specs.Sound.{recs, ringless, ring_at, is_open}
use Rattle.store.specs.Good.{Sound}
use Rattle.acts.specs.Opened.{Fresh, opened_at, records}
use Rattle.acts.specs.Value.{value}
use Rattle.pooling.specs.Pooled.{raise, pooled}
use Rattle.pooling.proofs.Raising.{raise_high}
use Rattle.pooling.proofs.Pooling.{BothFit, record_before, record_after, ringless_up, open_up, mark_up, first_values, second_values}

-- ---- tables

table_both : {A : Type 0} (g : ℕ → A) (k m n : ℕ) → table g k (m + n) ≡ table g k m ++ table g (k + m) n
table_both g k zero n = rw (zero-add n, add-zero k)
table_both g k (suc m) n = rw (suc-add m n, add-suc k m, ← suc-add k m) (ap (λ (l : List _). g k ∷ l) (table_both g (suc k) m n))

table_same : {A : Type 0} (g h : ℕ → A) (k l n : ℕ) → ((i : ℕ) → i < n → g (k + i) ≡ h (l + i)) → table g k n ≡ table h l n
table_same g h k l zero e = refl
table_same g h k l (suc n) e =
    let a : g k ≡ h l = ap g (sym (add-zero k)) ∙ e 0 (omega arith) ∙ ap h (add-zero l) in
    let b : table g (suc k) n ≡ table h (suc l) n = table_same g h (suc k) (suc l) n (λ i p. ap g (suc-add k i ∙ sym (add-suc k i)) ∙ e (suc i) (omega arith) ∙ ap h (add-suc l i ∙ sym (suc-add l i))) in
    cc

-- ---- the records of the pooled store

module _ {P : Type 0} (of : ℕ → ℕ → ℕ → P) where
  -- a record by what it shows
  abbrev shown : Bool → Bool → List P → Fed (Ring P) (List P)
  shown a b c = cond a left_ringless (cond b (left_open c) (left_closed (at_start c)))

  shown_same : (a a' b b' : Bool) (c c' : List P) → a ≡ a' → b ≡ b' → c ≡ c' → shown a b c ≡ shown a' b' c'
  shown_same a a' b b' c c' e f g = rw (e, f, g)

  module _ (s t : Store) where
    first_opened : Sound s → (j : ℕ) → j < recs s → opened_at of (pooled s t) j ≡ opened_at of s j
    first_opened a j l =
        shown_same (ringless (pooled s t) j) (ringless s j) (is_open (pooled s t) j) (is_open s j) (map (value of (pooled s t)) (ring_at (pooled s t) j)) (map (value of s) (ring_at s j))
        (ap (λ (n : ℕ). eqb n NONE) (record_before s t FIRST j l)) (ap (λ (n : ℕ). eqb (n % 2) 1) (record_before s t FLAGS j l)) (first_values of s t a j l)

    second_opened : Sound t → BothFit s t → (j : ℕ) → j < recs t → opened_at of (pooled s t) (recs s + j) ≡ opened_at of t j
    second_opened b fit j l =
        shown_same (ringless (pooled s t) (recs s + j)) (ringless t j) (is_open (pooled s t) (recs s + j)) (is_open t j) (map (value of (pooled s t)) (ring_at (pooled s t) (recs s + j))) (map (value of t) (ring_at t j))
        (ringless_up s t b fit j l) (open_up s t b fit j l) (second_values of s t b fit j l)

    -- the two lists one after the other
    pub pooled_records : Sound s → Sound t → BothFit s t → records of (pooled s t) ≡ records of s ++ records of t
    pooled_records a b fit =
        table_both (opened_at of (pooled s t)) 0 (recs s) (recs t)
        ∙ ap (λ (l : List (Fed (Ring P) (List P))). l ++ table (opened_at of (pooled s t)) (0 + recs s) (recs t)) (table_same (opened_at of (pooled s t)) (opened_at of s) 0 0 (recs s) (λ i h. rw (zero-add i) (first_opened a i h)))
        ∙ ap (λ (l : List (Fed (Ring P) (List P))). records of s ++ l) (table_same (opened_at of (pooled s t)) (opened_at of t) (0 + recs s) 0 (recs t) (λ i h. rw (zero-add i, zero-add (recs s)) (second_opened b fit i h)))

-- ---- at their start

module _ (s t : Store) (b : Sound t) (fit : BothFit s t) where
  first_fresh : (j : ℕ) → j < recs s → Fresh s j → Fresh (pooled s t) j
  first_fresh j l f =
      record {
        cut_is = record_before s t CUT j l ∙ f.cut_is;
        mark_is = λ r o. record_before s t MARK j l ∙ f.mark_is (rw (record_before s t FIRST j l) at r) (rw (record_before s t FLAGS j l) at o);
      }

  second_fresh : (j : ℕ) → j < recs t → Fresh t j → Fresh (pooled s t) (recs s + j)
  second_fresh j l f =
      record {
        cut_is = record_after s t CUT j l ∙ raise_high (recs s) (recs t) (t (rc CUT) j) (omega (arith, f.cut_is, b.few_records)) ∙ f.cut_is;
        mark_is = λ r o. mark_up s t b fit j l ∙ f.mark_is (sym (ringless_up s t b fit j l) ∙ r) (sym (open_up s t b fit j l) ∙ o);
      }

  pub pooled_fresh : ((i : ℕ) → i < recs s → Fresh s i) → ((i : ℕ) → i < recs t → Fresh t i) → (i : ℕ) → i < recs (pooled s t) → Fresh (pooled s t) i
  pooled_fresh f g i h = go (dec_lt i (recs s))
    where
      go : Dec (i < recs s) → Fresh (pooled s t) i
      go (yes l) = first_fresh i l (f i l)
      go (no l) = let e : i ≡ recs s + (i - recs s) = omega arith in subst (Fresh (pooled s t)) (sym e) (second_fresh (i - recs s) (omega arith) (g (i - recs s) (omega arith)))
