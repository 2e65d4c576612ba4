-- What the mender answers, and exactly where: by rows 1 to 5, then by 17.
use mathlib.Core.Path.{◌≡◌, refl, sym, ap, ◌∙◌, subst}
use mathlib.Core.Logic.{◌≢◌, ◌↔◌}
use mathlib.Core.Bool.{Bool, true, false, cond, not, ◌||◌, true≢false}
use mathlib.Core.List.{List}
use Prim.Native.Nat.{ℕ, zero, suc, ◌*◌, ◌<◌, ◌≤◌}
use native.Mathlib.Omega.{arith}
use lib.Dec.{eqb}
use lib.ListN.{length, take, replicate}
use lib.Seq.{take-take}
use borrow.Author.Tests.{eqb-true, eq-eqb, le-ltb, not-false}
use Rattle.std.specs.Prelude.{Result, Ok, Err}
use Rattle.rings.specs.Count.{one}
use Rattle.rings.proofs.Counting.{sum_same}
use Rattle.job.specs.Limits as limit
use Rattle.job.specs.Refusal.{number_of}
use Rattle.job.specs.declared.Job.{Job}
use Rattle.job.specs.declared.refusal.Refusal.{Refusal}
use Rattle.job.specs.declared.refusal.Refusal.TheVariants.{PastMending}
use Rattle.store.specs.Field.{BLOCK}
use Rattle.store.specs.Named.{points_of, next_of}
use Rattle.reading.specs.Needs.{Space}
use Rattle.reading.specs.Read.{read_of}
use Rattle.reading.proofs.Standing.{standing}
use Rattle.audit.specs.Tests.{any_below}
use Rattle.audit.proofs.Saying.{none_of, all_none}
use Rattle.prefix.specs.Decides.{LONGEST, DECIDES}
use Rattle.prefix.proofs.Alike.{fill_same, fill_longest}
use Rattle.mending.specs.Mend.{Mended, mended, times_next, with_prevs, past_mending, before_of, Checked, checked, checked_of, fix_of, after_rows, mend_of}
use Rattle.mending.specs.Mends.{acceptance, passes_rows, job_points, next_in, EachOnce, SomeNotOnce, MendedWell, NoneWould}
use Rattle.mending.proofs.Passing.{Passes, passes, read_fills, zeros_long}
use Rattle.mending.proofs.FirstFive.{five_low, five_refused, five_passed}
use Rattle.mending.proofs.Choices.{own_points, own_count, own_well, own_none}

-- ---- the three ways that it ends
pub data Answered (bytes : List ℕ) : Type 0 where
  early : (r : Refusal) (v : List ℕ) → checked_of bytes (replicate BLOCK 0) ≡ checked (Err r) v → mend_of bytes ≡ mended (Err r) bytes → Answered bytes
  late : (v : List ℕ) → Passes bytes (replicate BLOCK 0) v → past_mending v ≡ true → mend_of bytes ≡ mended (Err PastMending) bytes → Answered bytes
  fixed : (v : List ℕ) → Passes bytes (replicate BLOCK 0) v → past_mending v ≡ false → mend_of bytes ≡ mended (Ok tt) (with_prevs (before_of v) (points_of v) bytes) → Answered bytes

pub answered : (bytes : List ℕ) → Answered bytes
unfolding mend_of fix_of
answered bytes = by (checked_of bytes (replicate BLOCK 0)) refl
  where
    row : (v : List ℕ) → checked_of bytes (replicate BLOCK 0) ≡ checked (Ok tt) v → (x : Bool) → past_mending v ≡ x → Answered bytes
    row v a true h = late v (passes bytes (replicate BLOCK 0) v a) h (ap (after_rows bytes) a ∙ ap (λ (x : Bool). cond x (mended (Err PastMending) bytes) (mended (Ok tt) (with_prevs (before_of v) (points_of v) bytes))) h)
    row v a false h = fixed v (passes bytes (replicate BLOCK 0) v a) h (ap (after_rows bytes) a ∙ ap (λ (x : Bool). cond x (mended (Err PastMending) bytes) (mended (Ok tt) (with_prevs (before_of v) (points_of v) bytes))) h)

    by : (S : Checked) → checked_of bytes (replicate BLOCK 0) ≡ S → Answered bytes
    by (checked (Ok _) v) a = row v a (past_mending v) refl
    by (checked (Err r) v) a = early r v a (ap (after_rows bytes) a)

not_done : {A : Type 0} (r : Refusal) → Ok (tt {0}) ≡ Err r → A
not_done r e = absurd (let z : ◌≡◌ {A = ℕ} 0 1 = cc in omega arith)

same_refusal : (r x : Refusal) → ◌≡◌ {A = Result (Unit {0}) Refusal} (Err r) (Err x) → r ≡ x
same_refusal r x e = cc

-- no row up to 5 is 17
not_late : {A : Type 0} (r : Refusal) → number_of r ≤ 5 → r ≡ PastMending → A
not_late r h e = absurd (let z : number_of PastMending ≤ 5 = subst (λ (x : Refusal). number_of x ≤ 5) e h in omega arith)

not_passed : {A : Type 0} (r : Refusal) → number_of r ≤ 5 → passes_rows 5 (Err r) ≡ true → A
not_passed r h e = absurd (true≢false (sym e ∙ le-ltb 5 (number_of r) h))

same_outcome : (r x : Refusal) → ◌≡◌ {A = Result Job Refusal} (Err r) (Err x) → r ≡ x
same_outcome r x e = cc

-- ---- "the next of exactly one point", by the bytes
-- some number below n passes a test that not all fail
pub record Hit (n : ℕ) (q : ℕ → Bool) : Type 0 where
  pub place : ℕ
  pub low : place < n
  pub hit : q place ≡ true

some_of : (n : ℕ) (q : ℕ → Bool) → any_below n q ≡ true → Hit n q
unfolding any_below
some_of zero q h = absurd (true≢false (sym h))
some_of (suc n) q h = go (any_below n q) refl (q n) refl h (some_of n q)
  where
    go : (a : Bool) → any_below n q ≡ a → (b : Bool) → q n ≡ b → (a || b) ≡ true → (any_below n q ≡ true → Hit n q) → Hit (suc n) q
    go true e b f g k = let s = k e in record { place = s.place; low = omega (arith, s.low); hit = s.hit }
    go false e true f g k = record { place = n; low = omega arith; hit = f }
    go false e false f g k = absurd (true≢false (sym g))

module _ (bytes v : List ℕ) (p : Passes bytes (replicate BLOCK 0) v) where
  count_is : job_points bytes ≡ points_of v
  count_is = own_count bytes v p ∙ sym (own_points bytes v p)

  times_is : (k : ℕ) → times_next (next_in bytes) (job_points bytes) k ≡ times_next (next_of v) (points_of v) k
  times_is k =
      ap (λ (n : ℕ). times_next (next_in bytes) n k) count_is
      ∙ sum_same (points_of v) (λ m. one k (next_of v m)) (λ m. one k (next_in bytes m)) (λ m h. ap (one k) (sym ((standing bytes (replicate BLOCK 0) (replicate limit.SEGMENTS 0) (replicate (2 * limit.JOINS) 0) zeros_long p.job v p.segments p.joins p.reads).numbers.next m (omega (arith, h, own_points bytes v p)))))

  abbrev off : ℕ → Bool
  off k = not (eqb (times_next (next_of v) (points_of v) k) 1)

  pub each_once : past_mending v ≡ false → EachOnce bytes
  unfolding past_mending
  each_once h k l = times_is k ∙ eqb-true (times_next (next_of v) (points_of v) k) 1 (not-false (eqb (times_next (next_of v) (points_of v) k) 1) (none_of (points_of v) off h k (omega (arith, l, count_is))))

  pub once_each : EachOnce bytes → past_mending v ≡ false
  unfolding past_mending
  once_each h = all_none (points_of v) off (λ k l. ap not (eq-eqb (times_next (next_of v) (points_of v) k) 1 (sym (times_is k) ∙ h k (omega (arith, l, count_is)))))

  pub some_not : past_mending v ≡ true → SomeNotOnce bytes
  unfolding past_mending
  some_not h = record { point = found.place; low = omega (arith, found.low, count_is); none_or_more = λ e. true≢false (sym found.hit ∙ ap not (eq-eqb (times_next (next_of v) (points_of v) found.place) 1 (sym (times_is found.place) ∙ e))) }
    where
      found : Hit (points_of v) off
      found = some_of (points_of v) off h

-- ---- the answers
module _ (bytes : List ℕ) where
  pub one_five : (r : Refusal) → number_of r ≤ 5 → (w ss js : List ℕ) → Space w ss js → ((mend_of bytes).answer ≡ Err r) ↔ (acceptance bytes w ss js ≡ Err r)
  one_five r h w ss js s = (λ e. there (answered bytes) e, λ e. back (answered bytes) e)
    where
      there : Answered bytes → (mend_of bytes).answer ≡ Err r → acceptance bytes w ss js ≡ Err r
      there (early x v c m) e = five_refused bytes x v c w ss js s ∙ ap Err (same_refusal x r (sym (ap (λ (l : Mended). l.answer) m) ∙ e))
      there (late v p b m) e = not_late r h (sym (same_refusal PastMending r (sym (ap (λ (l : Mended). l.answer) m) ∙ e)))
      there (fixed v p b m) e = not_done r (sym (ap (λ (l : Mended). l.answer) m) ∙ e)

      back : Answered bytes → acceptance bytes w ss js ≡ Err r → (mend_of bytes).answer ≡ Err r
      back (early x v c m) e = ap (λ (l : Mended). l.answer) m ∙ ap Err (same_outcome x r (sym (five_refused bytes x v c w ss js s) ∙ e))
      back (late v p b m) e = not_passed r h (sym (ap (passes_rows 5) e) ∙ five_passed bytes v p w ss js s)
      back (fixed v p b m) e = not_passed r h (sym (ap (passes_rows 5) e) ∙ five_passed bytes v p w ss js s)

  pub mended_exactly : (w ss js : List ℕ) → Space w ss js → ((mend_of bytes).answer ≡ Ok tt) ↔ ((passes_rows 5 (acceptance bytes w ss js) ≡ true) × EachOnce bytes)
  mended_exactly w ss js s = (λ e. there (answered bytes) e, λ e. back (answered bytes) e.0 e.1)
    where
      there : Answered bytes → (mend_of bytes).answer ≡ Ok tt → (passes_rows 5 (acceptance bytes w ss js) ≡ true) × EachOnce bytes
      there (early x v c m) e = not_done x (sym e ∙ ap (λ (l : Mended). l.answer) m)
      there (late v p b m) e = not_done PastMending (sym e ∙ ap (λ (l : Mended). l.answer) m)
      there (fixed v p b m) e = (five_passed bytes v p w ss js s, each_once bytes v p b)

      back : Answered bytes → passes_rows 5 (acceptance bytes w ss js) ≡ true → EachOnce bytes → (mend_of bytes).answer ≡ Ok tt
      back (early x v c m) e o = not_passed x (five_low bytes x v c) (sym (ap (passes_rows 5) (five_refused bytes x v c w ss js s)) ∙ e)
      back (late v p b m) e o = absurd (true≢false (sym b ∙ once_each bytes v p o))
      back (fixed v p b m) e o = ap (λ (l : Mended). l.answer) m

  pub seventeen_exactly : (w ss js : List ℕ) → Space w ss js → ((mend_of bytes).answer ≡ Err PastMending) ↔ ((passes_rows 5 (acceptance bytes w ss js) ≡ true) × SomeNotOnce bytes)
  seventeen_exactly w ss js s = (λ e. there (answered bytes) e, λ e. back (answered bytes) e.0 e.1)
    where
      there : Answered bytes → (mend_of bytes).answer ≡ Err PastMending → (passes_rows 5 (acceptance bytes w ss js) ≡ true) × SomeNotOnce bytes
      there (early x v c m) e = not_late x (five_low bytes x v c) (same_refusal x PastMending (sym (ap (λ (l : Mended). l.answer) m) ∙ e))
      there (late v p b m) e = (five_passed bytes v p w ss js s, some_not bytes v p b)
      there (fixed v p b m) e = not_done PastMending (sym (ap (λ (l : Mended). l.answer) m) ∙ e)

      back : Answered bytes → passes_rows 5 (acceptance bytes w ss js) ≡ true → SomeNotOnce bytes → (mend_of bytes).answer ≡ Err PastMending
      back (early x v c m) e o = not_passed x (five_low bytes x v c) (sym (ap (passes_rows 5) (five_refused bytes x v c w ss js s)) ∙ e)
      back (late v p b m) e o = ap (λ (l : Mended). l.answer) m
      back (fixed v p b m) e o = absurd (o.none_or_more (each_once bytes v p b o.point o.low))

  pub refused_of : (r : Refusal) → (mend_of bytes).answer ≡ Err r → (mend_of bytes).bytes ≡ bytes
  refused_of r = by (answered bytes)
    where
      by : Answered bytes → (mend_of bytes).answer ≡ Err r → (mend_of bytes).bytes ≡ bytes
      by (early x v c m) e = ap (λ (l : Mended). l.bytes) m
      by (late v p b m) e = ap (λ (l : Mended). l.bytes) m
      by (fixed v p b m) e = not_done r (sym (ap (λ (l : Mended). l.answer) m) ∙ e)

  pub past_of : (mend_of bytes).answer ≡ Err PastMending → NoneWould (job_points bytes) bytes
  past_of = by (answered bytes)
    where
      by : Answered bytes → (mend_of bytes).answer ≡ Err PastMending → NoneWould (job_points bytes) bytes
      by (early x v c m) e = not_late x (five_low bytes x v c) (same_refusal x PastMending (sym (ap (λ (l : Mended). l.answer) m) ∙ e))
      by (late v p b m) e = own_none bytes v p b
      by (fixed v p b m) e = not_done PastMending (sym (ap (λ (l : Mended). l.answer) m) ∙ e)

  module _ (done : (mend_of bytes).answer ≡ Ok tt) where
    pub is_mended : mend_of bytes ≡ mended (Ok tt) (mend_of bytes).bytes
    is_mended = by (answered bytes)
      where
        by : Answered bytes → mend_of bytes ≡ mended (Ok tt) (mend_of bytes).bytes
        by (early x v c m) = not_done x (sym done ∙ ap (λ (l : Mended). l.answer) m)
        by (late v p b m) = not_done PastMending (sym done ∙ ap (λ (l : Mended). l.answer) m)
        by (fixed v p b m) = m ∙ ap (mended (Ok tt)) (sym (ap (λ (l : Mended). l.bytes) m))

    pub done_well : MendedWell (job_points bytes) bytes (mend_of bytes).bytes
    done_well = by (answered bytes)
      where
        by : Answered bytes → MendedWell (job_points bytes) bytes (mend_of bytes).bytes
        by (early x v c m) = not_done x (sym done ∙ ap (λ (l : Mended). l.answer) m)
        by (late v p b m) = not_done PastMending (sym done ∙ ap (λ (l : Mended). l.answer) m)
        by (fixed v p b m) = subst (MendedWell (job_points bytes) bytes) (sym (ap (λ (l : Mended). l.bytes) m)) (own_well bytes v p b)

    pub longest_of : length bytes ≤ LONGEST
    longest_of = by (answered bytes)
      where
        by : Answered bytes → length bytes ≤ LONGEST
        by (early x v c m) = not_done x (sym done ∙ ap (λ (l : Mended). l.answer) m)
        by (late v p b m) = not_done PastMending (sym done ∙ ap (λ (l : Mended). l.answer) m)
        by (fixed v p b m) =
            let q = read_fills bytes (replicate BLOCK 0) (replicate limit.SEGMENTS 0) (replicate (2 * limit.JOINS) 0) p.job v p.segments p.joins p.reads in
            fill_longest bytes p.job q.words p.segments p.joins (replicate BLOCK 0) (replicate limit.SEGMENTS 0) (replicate (2 * limit.JOINS) 0) q.fills

  -- ---- what follows the first bytes has no say
  checked_same : checked_of (take DECIDES bytes) (replicate BLOCK 0) ≡ checked_of bytes (replicate BLOCK 0)
  unfolding checked_of read_of
  checked_same = rw (fill_same (take DECIDES bytes) bytes (take-take DECIDES DECIDES bytes (omega arith)) (replicate BLOCK 0) (replicate limit.SEGMENTS 0) (replicate (2 * limit.JOINS) 0))

  pub decided_of : (mend_of (take DECIDES bytes)).answer ≡ (mend_of bytes).answer
  unfolding mend_of fix_of
  decided_of = ap (λ (S : Checked). (after_rows (take DECIDES bytes) S).answer) checked_same ∙ by (checked_of bytes (replicate BLOCK 0))
    where
      fix : (v : List ℕ) (x : Bool) → (cond x (mended (Err PastMending) (take DECIDES bytes)) (mended (Ok tt) (with_prevs (before_of v) (points_of v) (take DECIDES bytes)))).answer ≡ (cond x (mended (Err PastMending) bytes) (mended (Ok tt) (with_prevs (before_of v) (points_of v) bytes))).answer
      fix v true = refl
      fix v false = refl

      by : (S : Checked) → (after_rows (take DECIDES bytes) S).answer ≡ (after_rows bytes S).answer
      by (checked (Ok _) v) = fix v (past_mending v)
      by (checked (Err r) v) = refl
