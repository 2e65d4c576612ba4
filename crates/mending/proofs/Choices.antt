-- A job that passes rows 1 to 5, with any backward links: which of them pass row 6. And a job with mutual links comes back unaltered.
use mathlib.Core.Path.{◌≡◌, refl, sym, ap, ◌∙◌, subst}
use mathlib.Core.Logic.{◌⊎◌, inl, inr}
use mathlib.Core.Bool.{Bool, true, false, cond, not, true≢false}
use mathlib.Core.List.{List}
use Prim.Native.Nat.{ℕ, zero, suc, ◌*◌, ◌<◌, ◌≤◌}
use native.Mathlib.Omega.{arith}
use lib.Dec.{eqb}
use lib.ListN.{get_or, replicate}
use borrow.Author.Tests.{eqb-true, eq-eqb, le-ltb, not-false}
use Rattle.std.specs.Prelude.{Result, Ok, Err}
use Rattle.numbers.specs.Bytes.{le}
use Rattle.numbers.specs.Written.{put_le}
use Rattle.numbers.proofs.Written.{written_back}
use Rattle.rings.specs.Count.{sum_to, one}
use Rattle.job.specs.Limits as limit
use Rattle.job.specs.Refusal.{number_of}
use Rattle.job.specs.declared.Job.{Job}
use Rattle.job.specs.declared.refusal.Refusal.{Refusal}
use Rattle.job.specs.declared.refusal.Refusal.TheVariants.{OffTheTable, NoSuch, Loose, Muddled, OpenEdge, PastMending}
use Rattle.store.specs.Field.{BLOCK}
use Rattle.store.specs.Named.{points_of, next_of, prev_of}
use Rattle.reading.specs.Fill.{ReadEnd, end}
use Rattle.reading.specs.Needs.{Space}
use Rattle.reading.specs.Read.{read_of}
use Rattle.reading.proofs.Standing.{standing}
use Rattle.audit.proofs.Saying.{none_of, all_none}
use Rattle.rows.specs.Rows.{off_the_table, no_such_number, loose_link, muddled, open_edge, rows_of}
use Rattle.accepting.specs.Accept.{answer, judged, accept_of}
use Rattle.mending.specs.Mend.{mended, prev_at, with_prevs, times_next, past_mending, last_before, before_of, fix_of, after_rows, mend_of}
use Rattle.mending.specs.Mends.{outcome_of, acceptance, passes_rows, count_read, job_points, Writable, Choice, MendedWell, NoneWould}
use Rattle.mending.proofs.Checking.{space}
use Rattle.mending.proofs.Once.{Only, only_one, prevs_same}
use Rattle.mending.proofs.Passing.{Passes, passed_checked, zeros_long}
use Rattle.mending.proofs.Choosing.{ReadToo, read_too, similar, similar_self}
use Rattle.mending.proofs.Inverse.{Inverse, before_is, one_before, Base, points_are, few, room, next_in, prev_in, base_too, mutual_of, tight_of, meets_six, avoids_six}
use Rattle.mending.proofs.FirstFive.{read_low}

-- ---- a job that was read and meets none of rows 4 to 6
not_past : (x : Refusal) → number_of x ≤ 6 → passes_rows 6 (Err x) ≡ true → ⊥
not_past x h e = true≢false (sym e ∙ le-ltb 6 (number_of x) h)

six_base : (bytes w ss js : List ℕ) → Space w ss js → (n : Job) (v ts ks : List ℕ) → read_of bytes w ss js ≡ end (Ok n) v ts ks → passes_rows 6 (acceptance bytes w ss js) ≡ true → Base bytes w ss js n v ts ks × (loose_link v ≡ false)
unfolding accept_of rows_of
six_base bytes w ss js s n v ts ks q e =
    rows (off_the_table v) (no_such_number v ts n.segments ks n.joins) (loose_link v) (cond (muddled v) (Err Muddled) (cond (open_edge v ts n.segments ks n.joins) (Err OpenEdge) (Ok tt))) refl refl refl
    (subst (λ (T : ReadEnd). passes_rows 6 (outcome_of (judged T)) ≡ true) q e)
  where
    rows : (a c d : Bool) (z : Result (Unit {0}) Refusal) → off_the_table v ≡ a → no_such_number v ts n.segments ks n.joins ≡ c → loose_link v ≡ d
        → passes_rows 6 (answer (cond a (Err OffTheTable) (cond c (Err NoSuch) (cond d (Err Loose) z))) n) ≡ true → Base bytes w ss js n v ts ks × (loose_link v ≡ false)
    rows true c d z x y l g = absurd (not_past OffTheTable (omega arith) g)
    rows false true d z x y l g = absurd (not_past NoSuch (omega arith) g)
    rows false false true z x y l g = absurd (not_past Loose (omega arith) g)
    rows false false false z x y l g = (record { space = s; reads = q; four = x; five = y }, l)

-- ---- a job that passes rows 1 to 5
module _ (bytes w₀ ss₀ js₀ : List ℕ) (n : Job) (v ts ks : List ℕ) (b : Base bytes w₀ ss₀ js₀ n v ts ks) where
  -- with other backward links
  linked : (g : ℕ → ℕ) → Writable n.points g → (w ss js : List ℕ) → Space w ss js → ReadToo (with_prevs g n.points bytes) g w ss js n v ts ks
  linked g c w ss js s =
      read_too bytes (with_prevs g n.points bytes) g n.points
      (similar g n.points bytes (room bytes w₀ ss₀ js₀ n v ts ks b) c)
      n v ts ks refl w₀ w ss₀ ss js₀ js b.space s b.reads

  chosen : (g : ℕ → ℕ) → Choice n.points g → (w ss js : List ℕ) → Space w ss js → ReadToo (with_prevs g n.points bytes) g w ss js n v ts ks
  chosen g c w ss js s = linked g (λ k h. omega (arith, c k h, few bytes w₀ ss₀ js₀ n v ts ks b)) w ss js s

  -- links that pass rows 1 to 6 name points
  choice_of : (g : ℕ → ℕ) → Writable n.points g → (w ss js : List ℕ) → Space w ss js → passes_rows 6 (acceptance (with_prevs g n.points bytes) w ss js) ≡ true → Choice n.points g
  choice_of g c w ss js s e k h =
      let r = linked g c w ss js s in
      let x = six_base (with_prevs g n.points bytes) w ss js s n r.words r.segments r.joins r.reads e in
      omega (arith, r.agree.prev k h, prev_in (with_prevs g n.points bytes) w ss js n r.words r.segments r.joins x.0 k h)

  -- mutual links leave nothing past mending
  mutual_once : (g : ℕ → ℕ) → Choice n.points g → Inverse n.points (next_of v) g → past_mending v ≡ false
  unfolding past_mending
  mutual_once g c m =
      all_none (points_of v) (λ k. not (eqb (times_next (next_of v) (points_of v) k) 1))
      (λ k h. ap not (eq-eqb (times_next (next_of v) (points_of v) k) 1 (subst (λ (x : ℕ). sum_to x (λ i. one k (next_of v i)) ≡ 1) (sym (points_are bytes w₀ ss₀ js₀ n v ts ks b)) (one_before n.points (few bytes w₀ ss₀ js₀ n v ts ks b) (next_of v) g c m k (omega (arith, h, points_are bytes w₀ ss₀ js₀ n v ts ks b))))))

  mutual_before : (g : ℕ → ℕ) → Choice n.points g → Inverse n.points (next_of v) g → (k : ℕ) → k < n.points → g k ≡ before_of v k
  unfolding before_of
  mutual_before g c m k h = sym (ap (λ (x : ℕ). last_before (next_of v) x k) (points_are bytes w₀ ss₀ js₀ n v ts ks b) ∙ before_is n.points (few bytes w₀ ss₀ js₀ n v ts ks b) (next_of v) g c m k h)

  -- the mender's choice
  module _ (once : past_mending v ≡ false) where
    only : (k : ℕ) → k < n.points → (m : ℕ) × Only (next_of v) n.points (few bytes w₀ ss₀ js₀ n v ts ks b) k m
    unfolding past_mending
    only k h =
        only_one (next_of v) n.points (few bytes w₀ ss₀ js₀ n v ts ks b) k
        (subst (λ (x : ℕ). sum_to x (λ i. one k (next_of v i)) ≡ 1) (points_are bytes w₀ ss₀ js₀ n v ts ks b) (eqb-true (times_next (next_of v) (points_of v) k) 1 (not-false (eqb (times_next (next_of v) (points_of v) k) 1) (none_of (points_of v) (λ j. not (eqb (times_next (next_of v) (points_of v) j) 1)) once k (omega (arith, h, points_are bytes w₀ ss₀ js₀ n v ts ks b))))))

    before_only : (k m : ℕ) → Only (next_of v) n.points (few bytes w₀ ss₀ js₀ n v ts ks b) k m → before_of v k ≡ m
    unfolding before_of
    before_only k m o = ap (λ (x : ℕ). last_before (next_of v) x k) (points_are bytes w₀ ss₀ js₀ n v ts ks b) ∙ o.is

    before_named : Choice n.points (before_of v)
    before_named k h = go (only k h)
      where
        go : (m : ℕ) × Only (next_of v) n.points (few bytes w₀ ss₀ js₀ n v ts ks b) k m → before_of v k < n.points
        go (m, o) = omega (arith, before_only k m o, o.low)

    before_mutual : Inverse n.points (next_of v) (before_of v)
    before_mutual = record { there = λ k h. there k h (only k h); back = λ k h. back k h (only (next_of v k) (next_in bytes w₀ ss₀ js₀ n v ts ks b k h)) }
      where
        there : (k : ℕ) → k < n.points → (m : ℕ) × Only (next_of v) n.points (few bytes w₀ ss₀ js₀ n v ts ks b) k m → next_of v (before_of v k) ≡ k
        there k h (m, o) = ap (next_of v) (before_only k m o) ∙ o.leads

        back : (k : ℕ) → k < n.points → (m : ℕ) × Only (next_of v) n.points (few bytes w₀ ss₀ js₀ n v ts ks b) (next_of v k) m → before_of v (next_of v k) ≡ k
        back k h (m, o) = before_only (next_of v k) m o ∙ sym (o.only k h refl)

  -- every choice meets row 6, or is mutual
  decided : (g : ℕ → ℕ) → Choice n.points g → (w ss js : List ℕ) → Space w ss js → (acceptance (with_prevs g n.points bytes) w ss js ≡ Err Loose) ⊎ Inverse n.points (next_of v) g
  decided g c w ss js s = go (loose_link r.words) refl
    where
      r : ReadToo (with_prevs g n.points bytes) g w ss js n v ts ks
      r = chosen g c w ss js s

      b' : Base (with_prevs g n.points bytes) w ss js n r.words r.segments r.joins
      b' = base_too bytes w₀ ss₀ js₀ n v ts ks b (with_prevs g n.points bytes) g w ss js s c r

      go : (x : Bool) → loose_link r.words ≡ x → (acceptance (with_prevs g n.points bytes) w ss js ≡ Err Loose) ⊎ Inverse n.points (next_of v) g
      go true e = inl (meets_six (with_prevs g n.points bytes) w ss js n r.words r.segments r.joins b' e)
      go false e = inr (mutual_of bytes w₀ ss₀ js₀ n v ts ks b (with_prevs g n.points bytes) g w ss js s c r e)

  mutual_avoids : (g : ℕ → ℕ) → Choice n.points g → Inverse n.points (next_of v) g → (w ss js : List ℕ) → Space w ss js → passes_rows 6 (acceptance (with_prevs g n.points bytes) w ss js) ≡ true
  mutual_avoids g c m w ss js s =
      avoids_six (with_prevs g n.points bytes) w ss js n (chosen g c w ss js s).words (chosen g c w ss js s).segments (chosen g c w ss js s).joins
      (base_too bytes w₀ ss₀ js₀ n v ts ks b (with_prevs g n.points bytes) g w ss js s c (chosen g c w ss js s))
      (tight_of bytes w₀ ss₀ js₀ n v ts ks b (with_prevs g n.points bytes) g w ss js s c (chosen g c w ss js s) m)

  well : past_mending v ≡ false → MendedWell n.points bytes (with_prevs (before_of v) n.points bytes)
  well once =
      record {
        prevs = before_of v;
        is = refl;
        named = before_named once;
        leads = λ k h. sym ((standing bytes w₀ ss₀ js₀ b.space.words n v ts ks b.reads).numbers.next (before_of v k) (before_named once k h)) ∙ (before_mutual once).there k h;
        never_6 = mutual_avoids (before_of v) (before_named once) (before_mutual once);
        no_other = λ g c w ss js s. other g c w ss js (decided g c w ss js s);
        only = λ g c w ss js s e. passing g w ss js e (other g (choice_of g c w ss js s e) w ss js (decided g (choice_of g c w ss js s e) w ss js s));
      }
    where
      other : (g : ℕ → ℕ) → Choice n.points g → (w ss js : List ℕ) → (acceptance (with_prevs g n.points bytes) w ss js ≡ Err Loose) ⊎ Inverse n.points (next_of v) g
          → (acceptance (with_prevs g n.points bytes) w ss js ≡ Err Loose) ⊎ (with_prevs g n.points bytes ≡ with_prevs (before_of v) n.points bytes)
      other g c w ss js (inl e) = inl e
      other g c w ss js (inr m) = inr (prevs_same g (before_of v) n.points bytes (mutual_before g c m))

      passing : (g : ℕ → ℕ) (w ss js : List ℕ) → passes_rows 6 (acceptance (with_prevs g n.points bytes) w ss js) ≡ true
          → (acceptance (with_prevs g n.points bytes) w ss js ≡ Err Loose) ⊎ (with_prevs g n.points bytes ≡ with_prevs (before_of v) n.points bytes)
          → with_prevs g n.points bytes ≡ with_prevs (before_of v) n.points bytes
      passing g w ss js e (inl d) = absurd (not_past Loose (omega arith) (sym (ap (passes_rows 6) d) ∙ e))
      passing g w ss js e (inr d) = d

  none_would : past_mending v ≡ true → NoneWould n.points bytes
  none_would h = record { none = λ g c w ss js s. go g c w ss js (decided g c w ss js s); never = λ g c w ss js s. never g c w ss js s (passes_rows 6 (acceptance (with_prevs g n.points bytes) w ss js)) refl }
    where
      go : (g : ℕ → ℕ) → Choice n.points g → (w ss js : List ℕ) → (acceptance (with_prevs g n.points bytes) w ss js ≡ Err Loose) ⊎ Inverse n.points (next_of v) g → acceptance (with_prevs g n.points bytes) w ss js ≡ Err Loose
      go g c w ss js (inl e) = e
      go g c w ss js (inr m) = absurd (true≢false (sym h ∙ mutual_once g c m))

      never : (g : ℕ → ℕ) → Writable n.points g → (w ss js : List ℕ) → Space w ss js → (x : Bool) → passes_rows 6 (acceptance (with_prevs g n.points bytes) w ss js) ≡ x → x ≡ false
      never g c w ss js s true e = let k = choice_of g c w ss js s e in absurd (not_past Loose (omega arith) (sym (ap (passes_rows 6) (go g k w ss js (decided g k w ss js s))) ∙ e))
      never g c w ss js s false e = refl

-- a list of bytes
abbrev pub Small : List ℕ → Type 0
Small s = (i : ℕ) → get_or s i 0 < 256

-- ---- the mender's own reading
module _ (bytes v : List ℕ) (p : Passes bytes (replicate BLOCK 0) v) where
  pub base : Base bytes (replicate BLOCK 0) (replicate limit.SEGMENTS 0) (replicate (2 * limit.JOINS) 0) p.job v p.segments p.joins
  base = record { space = space (replicate BLOCK 0) zeros_long; reads = p.reads; four = p.four; five = p.five }

  pub own_points : points_of v ≡ p.job.points
  own_points = points_are bytes (replicate BLOCK 0) (replicate limit.SEGMENTS 0) (replicate (2 * limit.JOINS) 0) p.job v p.segments p.joins base

  pub own_count : job_points bytes ≡ p.job.points
  unfolding job_points
  own_count = ap count_read p.reads

  pub own_well : past_mending v ≡ false → MendedWell (job_points bytes) bytes (with_prevs (before_of v) (points_of v) bytes)
  own_well h =
      subst (λ (x : ℕ). MendedWell x bytes (with_prevs (before_of v) (points_of v) bytes)) (sym own_count)
      (subst (λ (x : ℕ). MendedWell p.job.points bytes (with_prevs (before_of v) x bytes)) (sym own_points) (well bytes (replicate BLOCK 0) (replicate limit.SEGMENTS 0) (replicate (2 * limit.JOINS) 0) p.job v p.segments p.joins base h))

  pub own_none : past_mending v ≡ true → NoneWould (job_points bytes) bytes
  own_none h = subst (λ (x : ℕ). NoneWould x bytes) (sym own_count) (none_would bytes (replicate BLOCK 0) (replicate limit.SEGMENTS 0) (replicate (2 * limit.JOINS) 0) p.job v p.segments p.joins base h)

module _ (bytes : List ℕ) where
  -- ---- a job with mutual links
  abbrev own : ℕ → ℕ
  own k = le 2 (prev_at k) bytes

  -- its own links written again
  again : Small bytes → (n : ℕ) → with_prevs (λ k. le 2 (prev_at k) bytes) n bytes ≡ bytes
  again h zero = refl
  again h (suc n) = ap (put_le 2 (prev_at n) (le 2 (prev_at n) bytes)) (again h n) ∙ written_back 2 (prev_at n) bytes h

  module _ (small : Small bytes) (w ss js : List ℕ) (s : Space w ss js) where
    module _ (n : Job) (v ts ks : List ℕ) (b : Base bytes w ss js n v ts ks) (six : loose_link v ≡ false) where
      -- read in the mender's words, and in the same words once more
      there : ReadToo bytes own (replicate BLOCK 0) (replicate limit.SEGMENTS 0) (replicate (2 * limit.JOINS) 0) n v ts ks
      there = read_too bytes bytes own n.points (similar_self n.points bytes) n v ts ks refl w (replicate BLOCK 0) ss (replicate limit.SEGMENTS 0) js (replicate (2 * limit.JOINS) 0) s (space (replicate BLOCK 0) zeros_long) b.reads

      here : ReadToo bytes own w ss js n v ts ks
      here = read_too bytes bytes own n.points (similar_self n.points bytes) n v ts ks refl w w ss ss js js s s b.reads

      same : here.words ≡ v
      same = let z : end (Ok n) here.words here.segments here.joins ≡ end (Ok n) v ts ks = sym here.reads ∙ b.reads in cc (z)

      prev_is : (k : ℕ) → k < n.points → prev_of v k ≡ own k
      prev_is k h = subst (λ (x : List ℕ). prev_of x k ≡ own k) same (here.agree.prev k h)

      named : Choice n.points own
      named k h = subst (λ (x : ℕ). x < n.points) (prev_is k h) (prev_in bytes w ss js n v ts ks b k h)

      fits : Inverse n.points (next_of v) own
      fits = mutual_of bytes w ss js n v ts ks b bytes own w ss js s named here (subst (λ (x : List ℕ). loose_link x ≡ false) (sym same) six)

      b₀ : Base bytes (replicate BLOCK 0) (replicate limit.SEGMENTS 0) (replicate (2 * limit.JOINS) 0) n there.words there.segments there.joins
      b₀ = base_too bytes w ss js n v ts ks b bytes own (replicate BLOCK 0) (replicate limit.SEGMENTS 0) (replicate (2 * limit.JOINS) 0) (space (replicate BLOCK 0) zeros_long) named there

      fits₀ : Inverse n.points (next_of there.words) own
      fits₀ =
          record {
            there = λ k h. there.agree.next (own k) (named k h) ∙ fits.there k h;
            back = λ k h. ap own (there.agree.next k h) ∙ fits.back k h;
          }

      passed : Passes bytes (replicate BLOCK 0) there.words
      passed = record { job = n; segments = there.segments; joins = there.joins; reads = there.reads; four = b₀.four; five = b₀.five }

      untouched : mend_of bytes ≡ mended (Ok tt) bytes
      unfolding mend_of fix_of
      untouched =
          ap (after_rows bytes) (passed_checked bytes (replicate BLOCK 0) there.words passed)
          ∙ ap (λ (x : Bool). cond x (mended (Err PastMending) bytes) (mended (Ok tt) (with_prevs (before_of there.words) (points_of there.words) bytes))) (mutual_once bytes (replicate BLOCK 0) (replicate limit.SEGMENTS 0) (replicate (2 * limit.JOINS) 0) n there.words there.segments there.joins b₀ own named fits₀)
          ∙ ap (λ (x : ℕ). mended (Ok tt) (with_prevs (before_of there.words) x bytes)) (points_are bytes (replicate BLOCK 0) (replicate limit.SEGMENTS 0) (replicate (2 * limit.JOINS) 0) n there.words there.segments there.joins b₀)
          ∙ ap (mended (Ok tt)) (prevs_same (before_of there.words) own n.points bytes (λ k h. sym (mutual_before bytes (replicate BLOCK 0) (replicate limit.SEGMENTS 0) (replicate (2 * limit.JOINS) 0) n there.words there.segments there.joins b₀ own named fits₀ k h)) ∙ again small n.points)

    pub unaltered_of : passes_rows 6 (acceptance bytes w ss js) ≡ true → mend_of bytes ≡ mended (Ok tt) bytes
    unfolding accept_of
    unaltered_of e = by (read_of bytes w ss js) refl e
      where
        by : (T : ReadEnd) → read_of bytes w ss js ≡ T → passes_rows 6 (outcome_of (judged T)) ≡ true → mend_of bytes ≡ mended (Ok tt) bytes
        by (end (Ok n) v ts ks) q g = let x = six_base bytes w ss js s n v ts ks q e in untouched n v ts ks x.0 x.1
        by (end (Err x) v ts ks) q g = absurd (not_past x (omega (arith, read_low bytes w ss js x v ts ks q)) g)
