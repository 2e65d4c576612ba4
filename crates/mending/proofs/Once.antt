-- Every point is the next of exactly one point: what the table of the points before says of it.
use mathlib.Core.Path.{◌≡◌, refl, sym, ap, ◌∙◌, subst}
use mathlib.Core.Logic.{◌⊎◌, inl, inr, ◌≢◌}
use mathlib.Core.Bool.{Bool, true, false, cond, not, ◌||◌, true≢false}
use mathlib.Core.List.{List}
use Prim.Native.Nat.{ℕ, zero, suc, ◌<◌, ◌≤◌}
use native.Mathlib.Omega.{arith}
use native.Mathlib.Decide.{ℕ_discrete}
use lib.Dec.{eqb}
use lib.ListN.{length, get_or, set, replicate, length-replicate, length-set, get_or-replicate}
use lib.Seq.{get_or-set_same, get_or-set_other}
use borrow.Author.Tests.{eqb-true, eqb-false, eq-eqb, ne_eqb, not-false}
use Rattle.std.specs.Prelude.{Ok, Err}
use Rattle.numbers.specs.Written.{put_le}
use Rattle.rings.specs.Count.{sum_to, one}
use Rattle.rings.proofs.Counting.{one_here, one_else, sum_change, sum_two}
use Rattle.job.specs.Limits as limit
use Rattle.job.specs.Limits.{NONE}
use Rattle.store.specs.Named.{points_of, next_of}
use Rattle.audit.specs.Tests.{any_below}
use Rattle.audit.proofs.Saying.{none_of, all_none}
use Rattle.job.specs.declared.refusal.Refusal.TheVariants.{PastMending}
use Rattle.mending.specs.Mend.{mended, prev_at, with_prevs, times_next, past_mending, last_before, before_of, fix_of}
use Rattle.mending.specs.Needs.{table_of, table_at, spoilt, Roomy, Fixable}

-- ---- the last point before
module _ (next : ℕ → ℕ) (k : ℕ) where
  -- there is one: m
  pub record Found (n m : ℕ) : Type 0 where
    pub is : last_before next n k ≡ m
    pub low : m < n
    pub leads : next m ≡ k

  pub record Nobody (n : ℕ) : Type 0 where
    pub is : last_before next n k ≡ NONE
    pub none : (i : ℕ) → i < n → next i ≢ k

  pub search_last : (n : ℕ) → ((m : ℕ) × Found n m) ⊎ Nobody n
  search_last zero = inr (record { is = refl; none = λ i h e. omega arith })
  search_last (suc n) = go (eqb (next n) k) refl (search_last n)
    where
      go : (b : Bool) → eqb (next n) k ≡ b → ((m : ℕ) × Found n m) ⊎ Nobody n → ((m : ℕ) × Found (suc n) m) ⊎ Nobody (suc n)
      go true e r = inl (n, record { is = ap (λ (b : Bool). cond b n (last_before next n k)) e; low = omega arith; leads = eqb-true (next n) k e })
      go false e (inl (m, f)) = inl (m, record { is = ap (λ (b : Bool). cond b n (last_before next n k)) e ∙ f.is; low = omega (arith, f.low); leads = f.leads })
      go false e (inr z) = inr (record { is = ap (λ (b : Bool). cond b n (last_before next n k)) e ∙ z.is; none = λ i h g. at i h g (ℕ_discrete i n) })
        where
          at : (i : ℕ) → i < suc n → next i ≡ k → Dec (i ≡ n) → ⊥
          at i h g (yes d) = eqb-false (next n) k e (subst (λ (j : ℕ). next j ≡ k) d g)
          at i h g (no d) = z.none i (omega arith) g

-- ---- exactly one
module _ (next : ℕ → ℕ) (n : ℕ) (few : n ≤ limit.POINTS) where
  abbrev last : ℕ → ℕ
  last k = last_before next n k

  abbrev count : ℕ → ℕ
  count k = sum_to n (λ m. one k (next m))

  sum_none : (m : ℕ) → sum_to m (λ i. 0) ≡ 0
  sum_none zero = refl
  sum_none (suc m) = omega (arith, sum_none m)

  -- one point before k, and it is found from each that has k as its next
  pub single : (k m : ℕ) → m < n → next m ≡ k → ((i : ℕ) → i < n → next i ≡ k → i ≡ m) → count k ≡ 1
  single k m h e u = let c = sum_change n m (λ i. 0) (λ i. one k (next i)) h other in omega (arith, c, sum_none n, subst (λ (z : ℕ). one k z ≡ 1) (sym e) (one_here k))
    where
      other : (j : ℕ) → j < n → j ≢ m → one k (next j) ≡ 0
      other j l d = one_else k (next j) (λ g. d (u j l g))

  -- "the next of exactly one point": that point
  pub record Only (k m : ℕ) : Type 0 where
    pub is : last k ≡ m
    pub low : m < n
    pub leads : next m ≡ k
    pub only : (i : ℕ) → i < n → next i ≡ k → i ≡ m

  -- from the count
  pub only_one : (k : ℕ) → count k ≡ 1 → (m : ℕ) × Only k m
  only_one k c = go (search_last next k n)
    where
      unique : (m : ℕ) → m < n → next m ≡ k → (i : ℕ) → i < n → next i ≡ k → i ≡ m
      unique m h e i l g = by (ℕ_discrete i m)
        where
          by : Dec (i ≡ m) → i ≡ m
          by (yes d) = d
          by (no d) = absurd (omega (arith, c, sum_two n i m (λ j. one k (next j)) l h d, subst (λ (z : ℕ). one k z ≡ 1) (sym e) (one_here k), subst (λ (z : ℕ). one k z ≡ 1) (sym g) (one_here k)))

      zeros : ((i : ℕ) → i < n → next i ≢ k) → (m : ℕ) → m ≤ n → sum_to m (λ i. one k (next i)) ≡ 0
      zeros z zero h = refl
      zeros z (suc m) h = omega (arith, zeros z m (omega arith), one_else k (next m) (z m (omega arith)))

      go : ((m : ℕ) × Found next k n m) ⊎ Nobody next k n → (m : ℕ) × Only k m
      go (inl (m, f)) = (m, record { is = f.is; low = f.low; leads = f.leads; only = unique m f.low f.leads })
      go (inr z) = absurd (omega (arith, c, zeros z.none n (omega arith)))

  -- from the table: k has one before it, and each is the one before its next
  counted : (k : ℕ) → last k ≢ NONE → ((i : ℕ) → i < n → last (next i) ≡ i) → count k ≡ 1
  counted k s u = go (search_last next k n)
    where
      go : ((m : ℕ) × Found next k n m) ⊎ Nobody next k n → count k ≡ 1
      go (inl (m, f)) = single k m f.low f.leads (λ i l g. sym (u i l) ∙ ap last g ∙ f.is)
      go (inr z) = absurd (s z.is)

-- ---- the table
length_table : (next : ℕ → ℕ) (n : ℕ) (t : List ℕ) → length (table_of next n t) ≡ length t
length_table next zero t = refl
length_table next (suc n) t = length-set (table_of next n t) (next n) n ∙ length_table next n t

table_is : (next : ℕ → ℕ) (n p : ℕ) → p < limit.POINTS → table_at (table_of next n (replicate limit.POINTS NONE)) p ≡ last_before next n p
unfolding table_at
table_is next zero p h = get_or-replicate {A = ℕ} limit.POINTS p NONE NONE h
table_is next (suc n) p h = go (eqb (next n) p) refl (table_is next n p h)
  where
    go : (b : Bool) → eqb (next n) p ≡ b → get_or (table_of next n (replicate limit.POINTS NONE)) p NONE ≡ last_before next n p → get_or (set (table_of next n (replicate limit.POINTS NONE)) (next n) n) p NONE ≡ cond b n (last_before next n p)
    go true e r =
        let d : next n ≡ p = eqb-true (next n) p e in
        subst (λ (z : ℕ). get_or (set (table_of next n (replicate limit.POINTS NONE)) z n) p NONE ≡ n) (sym d) (get_or-set_same (table_of next n (replicate limit.POINTS NONE)) p n NONE (omega (arith, length_table next n (replicate limit.POINTS NONE), length-replicate {A = ℕ} limit.POINTS NONE)))
    go false e r = get_or-set_other (table_of next n (replicate limit.POINTS NONE)) (next n) p n NONE (λ d. eqb-false (next n) p e (sym d)) ∙ r

-- ---- the code's test is row 17
both_false : (a b : Bool) → (a ≡ false → b ≡ false) → (b ≡ false → a ≡ false) → a ≡ b
both_false true true f g = refl
both_false true false f g = absurd (true≢false (g refl))
both_false false true f g = absurd (true≢false (f refl))
both_false false false f g = refl

pub neither : (a b : Bool) → (a || b) ≡ false → (a ≡ false) × (b ≡ false)
neither true b h = absurd (true≢false h)
neither false b h = (refl, h)

module _ (bytes w : List ℕ) (x : Fixable bytes w) (t : List ℕ) (e : t ≡ table_of (next_of w) (points_of w) (replicate limit.POINTS NONE)) where
  few : points_of w ≤ limit.POINTS
  few = x.roomy.few

  entry : (p : ℕ) → p < limit.POINTS → table_at t p ≡ last_before (next_of w) (points_of w) p
  entry p h = ap (λ (l : List ℕ). table_at l p) e ∙ table_is (next_of w) (points_of w) p h

  there : any_below (points_of w) (spoilt w t) ≡ false → past_mending w ≡ false
  unfolding past_mending
  there h = all_none (points_of w) (λ k. not (eqb (times_next (next_of w) (points_of w) k) 1)) (λ k l. ap not (eq-eqb (times_next (next_of w) (points_of w) k) 1 (counted (next_of w) (points_of w) few k (some k l) back)))
    where
      fine : (k : ℕ) → k < points_of w → (eqb (table_at t k) NONE ≡ false) × (not (eqb (table_at t (next_of w k)) k) ≡ false)
      fine k l = neither (eqb (table_at t k) NONE) (not (eqb (table_at t (next_of w k)) k)) (none_of (points_of w) (spoilt w t) h k l)

      some : (k : ℕ) → k < points_of w → last_before (next_of w) (points_of w) k ≢ NONE
      some k l z = eqb-false (table_at t k) NONE (fine k l).0 (entry k (omega (arith, few, l)) ∙ z)

      back : (i : ℕ) → i < points_of w → last_before (next_of w) (points_of w) (next_of w i) ≡ i
      back i l = sym (entry (next_of w i) (omega (arith, few, x.named i l))) ∙ eqb-true (table_at t (next_of w i)) i (not-false (eqb (table_at t (next_of w i)) i) (fine i l).1)

  here : past_mending w ≡ false → any_below (points_of w) (spoilt w t) ≡ false
  unfolding past_mending
  here h = all_none (points_of w) (spoilt w t) (λ k l. go k l (one_before k l) (one_before (next_of w k) (x.named k l)))
    where
      one_before : (k : ℕ) → k < points_of w → (m : ℕ) × Only (next_of w) (points_of w) few k m
      one_before k l = only_one (next_of w) (points_of w) few k (eqb-true (times_next (next_of w) (points_of w) k) 1 (not-false (eqb (times_next (next_of w) (points_of w) k) 1) (none_of (points_of w) (λ j. not (eqb (times_next (next_of w) (points_of w) j) 1)) h k l)))

      go : (k : ℕ) → k < points_of w → ((m : ℕ) × Only (next_of w) (points_of w) few k m) → ((m : ℕ) × Only (next_of w) (points_of w) few (next_of w k) m) → spoilt w t k ≡ false
      go k l (m, o) (m', o') =
          let a : table_at t k ≡ m = entry k (omega (arith, few, l)) ∙ o.is in
          let b : table_at t (next_of w k) ≡ k = entry (next_of w k) (omega (arith, few, x.named k l)) ∙ o'.is ∙ sym (o'.only k l refl) in
          let c : table_at t k ≢ NONE = λ z. omega (arith, few, a, z, o.low) in
          rw (ne_eqb (table_at t k) NONE c, eq-eqb (table_at t (next_of w k)) k b)

  tested : any_below (points_of w) (spoilt w t) ≡ past_mending w
  tested = both_false (any_below (points_of w) (spoilt w t)) (past_mending w) there here

-- ---- for the code of `fix`
pub prevs_same : (f g : ℕ → ℕ) (n : ℕ) (s : List ℕ) → ((k : ℕ) → k < n → f k ≡ g k) → with_prevs f n s ≡ with_prevs g n s
prevs_same f g zero s h = refl
prevs_same f g (suc n) s h = ap (λ (v : ℕ). put_le 2 (prev_at n) v (with_prevs f n s)) (h n (omega arith)) ∙ ap (put_le 2 (prev_at n) (g n)) (prevs_same f g n s (λ k l. h k (omega arith)))

module _ (bytes w t : List ℕ) (b : Bool) (x : Fixable bytes w) (e : t ≡ table_of (next_of w) (points_of w) (replicate limit.POINTS NONE)) (a : b ≡ any_below (points_of w) (spoilt w t)) where
  pub fix_stop : b ≡ true → mended (Err PastMending) bytes ≡ fix_of bytes w
  unfolding fix_of
  fix_stop h = rw (← tested bytes w x t e, ← a, h)

  pub fix_done : b ≡ false → (n : ℕ) (s : List ℕ) → n ≡ points_of w → s ≡ with_prevs (table_at t) n bytes → mended (Ok tt) s ≡ fix_of bytes w
  unfolding fix_of before_of
  fix_done h n s g i = rw (← tested bytes w x t e, ← a, h) (ap (mended (Ok tt)) (i ∙ ap (λ (m : ℕ). with_prevs (table_at t) m bytes) g ∙ prevs_same (table_at t) (λ k. last_before (next_of w) (points_of w) k) (points_of w) bytes (λ k l. entry bytes w x t e k (omega (arith, l, x.roomy.few)))))

pub fix_room : (bytes w : List ℕ) (n : ℕ) → Fixable bytes w → n ≡ points_of w → Roomy bytes n
fix_room bytes w n x e = subst (Roomy bytes) (sym e) x.roomy
