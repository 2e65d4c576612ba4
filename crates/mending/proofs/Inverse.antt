-- Backward links that fit the forward ones: there is one choice of them, where every point is the next of exactly one, and none else.
use mathlib.Core.Path.{◌≡◌, refl, sym, ap, ◌∙◌}
use mathlib.Core.Logic.{◌⊎◌, inl, inr}
use mathlib.Core.Bool.{Bool, true, false, cond, ◌||◌}
use mathlib.Core.List.{List}
use Prim.Native.Nat.{ℕ, ◌+◌, ◌*◌, ◌<◌, ◌≤◌}
use native.Mathlib.Omega.{arith}
use lib.Dec.{leb}
use lib.ListN.{length, get_or}
use Rattle.std.proofs.Common.{Ok, Err}
use Rattle.rings.specs.Count.{sum_to, one}
use Rattle.job.specs.Limits as limit
use Rattle.job.specs.declared.Job.{Job}
use Rattle.job.specs.declared.refusal.Refusal.TheVariants.{Loose, Muddled, OpenEdge}
use Rattle.store.specs.Named.{points_of, records_of, next_of, prev_of, rec_of, owner_of, first_of}
use Rattle.reading.specs.Fill.{end}
use Rattle.reading.specs.Needs.{Space}
use Rattle.reading.specs.Read.{read_of}
use Rattle.audit.specs.Tests.{any_below, off_table, no_such, no_such_of, names_nothing, loose}
use Rattle.std.specs.declared.result.Result.TheVariants as result
use Rattle.audit.proofs.Saying.{none_of, all_none, on_table, table_on, such, such_not, Tied, tied, tied_not}
use Rattle.rows.specs.Rows.{off_the_table, unnamed, no_such_number, loose_link, muddled, open_edge, rows_of}
use Rattle.audit.proofs.Testing.{or_left, or_right}
use Rattle.accepting.specs.Accept.{answer, accept_of}
use Rattle.accepting.proofs.Accepting.{Whole, read_whole}
use Rattle.mending.specs.Mend.{prev_at, last_before}
use Rattle.mending.specs.Mends.{acceptance, passes_rows, Choice}
use Rattle.mending.proofs.Once.{Found, Nobody, search_last, single}
use Rattle.reading.proofs.Standing.{standing}
use Rattle.mending.proofs.Passing.{prev_inside}
use Rattle.mending.proofs.Agreeing.{Front}
use Rattle.mending.proofs.Choosing.{ReadToo}

-- ---- two functions on the numbers below n, each the other's inverse
pub record Inverse (n : ℕ) (next g : ℕ → ℕ) : Type 0 where
  pub there : (k : ℕ) → k < n → next (g k) ≡ k
  pub back : (k : ℕ) → k < n → g (next k) ≡ k

module _ (n : ℕ) (few : n ≤ limit.POINTS) (next g : ℕ → ℕ) (in_g : (k : ℕ) → k < n → g k < n) (m : Inverse n next g) where
  -- so g is the point before
  pub before_is : (k : ℕ) → k < n → last_before next n k ≡ g k
  before_is k h = go (search_last next k n)
    where
      go : ((i : ℕ) × Found next k n i) ⊎ Nobody next k n → last_before next n k ≡ g k
      go (inl (i, f)) = f.is ∙ sym (sym (ap g f.leads) ∙ m.back i f.low)
      go (inr z) = absurd (z.none (g k) (in_g k h) (m.there k h))

  -- and there is exactly one
  pub one_before : (k : ℕ) → k < n → sum_to n (λ i. one k (next i)) ≡ 1
  one_before k h = single next n few k (g k) (in_g k h) (m.there k h) (λ i l e. sym (m.back i l) ∙ ap g e)

-- ---- a job that passes rows 1 to 5, in any words and lists
pub record Base (bytes w ss js : List ℕ) (n : Job) (v ts ks : List ℕ) : Type 0 where
  pub space : Space w ss js
  pub reads : read_of bytes w ss js ≡ end (Ok n) v ts ks
  pub four : off_the_table v ≡ false
  pub five : no_such_number v ts n.segments ks n.joins ≡ false

or_none : (a b : Bool) → a ≡ false → b ≡ false → (a || b) ≡ false
or_none a b e f = rw (e, f)

module _ (bytes w₀ ss₀ js₀ : List ℕ) (n : Job) (v ts ks : List ℕ) (b : Base bytes w₀ ss₀ js₀ n v ts ks) where
  whole : Whole n v ts ks
  whole = read_whole bytes w₀ ss₀ js₀ b.space n v ts ks b.reads

  pub points_are : points_of v ≡ n.points
  points_are = whole.counts.points

  pub few : n.points ≤ limit.POINTS
  few = whole.counts.within.points

  pub room : (k : ℕ) → k < n.points → prev_at k + 2 ≤ length bytes
  room k h = prev_inside bytes n v (standing bytes w₀ ss₀ js₀ b.space.words n v ts ks b.reads) k h

  tested : (k : ℕ) → k < n.points → no_such v k ≡ false
  tested k h = none_of (points_of v) (no_such v) (or_left (any_below (points_of v) (no_such v)) (any_below (records_of v) (no_such_of v) || (unnamed v ts n.segments || unnamed v ks (2 * n.joins))) b.five) k (omega (arith, h, points_are))

  pub next_in : (k : ℕ) → k < n.points → next_of v k < n.points
  next_in k h = omega (arith, points_are, (such v k (tested k h)).next)

  pub prev_in : (k : ℕ) → k < n.points → prev_of v k < n.points
  prev_in k h = omega (arith, points_are, (such v k (tested k h)).prev)

  rec_in : (k : ℕ) → k < n.points → rec_of v k < n.records
  rec_in k h = omega (arith, whole.counts.records, (such v k (tested k h)).rec)

  -- ---- read again, with g as the backward links, in other words and lists
  module _ (bytes' : List ℕ) (g : ℕ → ℕ) (w ss js : List ℕ) (s : Space w ss js) (named : Choice n.points g) (r : ReadToo bytes' g w ss js n v ts ks) where
    abbrev v' : List ℕ
    v' = r.words

    p' : points_of v' ≡ n.points
    p' = r.counts.points

    r' : records_of v' ≡ n.records
    r' = r.counts.records

    four_too : off_the_table v' ≡ false
    four_too = all_none (points_of v') (off_table v') (λ k h. each k (omega (arith, h, p')))
      where
        each : (k : ℕ) → k < n.points → off_table v' k ≡ false
        each k h =
            let t = on_table v k (none_of (points_of v) (off_table v) b.four k (omega (arith, h, points_are))) in
            table_on v' k (omega (arith, r.agree.x k h, t.x)) (omega (arith, r.agree.y k h, t.y))

    points_too : any_below (points_of v') (no_such v') ≡ false
    points_too = all_none (points_of v') (no_such v') (λ k h. each k (omega (arith, h, p')))
      where
        each : (k : ℕ) → k < n.points → no_such v' k ≡ false
        each k h = such_not v' k (omega (arith, r.agree.next k h, next_in k h, p')) (omega (arith, r.agree.prev k h, named k h, p')) (omega (arith, r.agree.rec k h, rec_in k h, r'))

    five_rest : (any_below (records_of v) (no_such_of v) || (unnamed v ts n.segments || unnamed v ks (2 * n.joins))) ≡ false
    five_rest = or_right (any_below (points_of v) (no_such v)) (any_below (records_of v) (no_such_of v) || (unnamed v ts n.segments || unnamed v ks (2 * n.joins))) b.five

    records_too : any_below (records_of v') (no_such_of v') ≡ false
    records_too = all_none (records_of v') (no_such_of v') (λ k h. each k (omega (arith, h, r')))
      where
        each : (k : ℕ) → k < n.records → no_such_of v' k ≡ false
        each k h =
            ap (λ (a : ℕ). names_nothing a (owner_of v' k) || names_nothing (points_of v') (first_of v' k)) (r' ∙ sym whole.counts.records)
            ∙ ap (λ (a : ℕ). names_nothing (records_of v) (owner_of v' k) || names_nothing a (first_of v' k)) (p' ∙ sym points_are)
            ∙ ap (λ (a : ℕ). names_nothing (records_of v) a || names_nothing (points_of v) (first_of v' k)) (r.agree.owner k h)
            ∙ ap (λ (a : ℕ). names_nothing (records_of v) (owner_of v k) || names_nothing (points_of v) a) (r.agree.first k h)
            ∙ none_of (records_of v) (no_such_of v) (or_left (any_below (records_of v) (no_such_of v)) (unnamed v ts n.segments || unnamed v ks (2 * n.joins)) five_rest) k (omega (arith, h, whole.counts.records))

    lists : (unnamed v ts n.segments || unnamed v ks (2 * n.joins)) ≡ false
    lists = or_right (any_below (records_of v) (no_such_of v)) (unnamed v ts n.segments || unnamed v ks (2 * n.joins)) five_rest

    list_too : (m : ℕ) (l l' : List ℕ) → Front m l l' → unnamed v l m ≡ false → unnamed v' l' m ≡ false
    list_too m l l' f e = all_none m (λ i. leb (points_of v') (get_or l' i 0)) (λ i h. ap (λ (a : ℕ). leb a (get_or l' i 0)) (p' ∙ sym points_are) ∙ ap (leb (points_of v)) (f i h) ∙ none_of m (λ j. leb (points_of v) (get_or l j 0)) e i h)

    pub five_too : no_such_number v' r.segments n.segments r.joins n.joins ≡ false
    five_too =
        or_none (any_below (points_of v') (no_such v')) (any_below (records_of v') (no_such_of v') || (unnamed v' r.segments n.segments || unnamed v' r.joins (2 * n.joins))) points_too
        (or_none (any_below (records_of v') (no_such_of v')) (unnamed v' r.segments n.segments || unnamed v' r.joins (2 * n.joins)) records_too
        (or_none (unnamed v' r.segments n.segments) (unnamed v' r.joins (2 * n.joins))
        (list_too n.segments ts r.segments r.same_segments (or_left (unnamed v ts n.segments) (unnamed v ks (2 * n.joins)) lists))
        (list_too (2 * n.joins) ks r.joins r.same_joins (or_right (unnamed v ts n.segments) (unnamed v ks (2 * n.joins)) lists))))

    pub base_too : Base bytes' w ss js n v' r.segments r.joins
    base_too = record { space = s; reads = r.reads; four = four_too; five = five_too }

    -- ---- row 6
    next_same : (k : ℕ) → k < n.points → next_of v' k ≡ next_of v k
    next_same k h = r.agree.next k h

    pub mutual_of : loose_link v' ≡ false → Inverse n.points (next_of v) g
    mutual_of e = record { there = λ k h. there k h; back = λ k h. back k h }
      where
        tight : (k : ℕ) → k < n.points → Tied v' k
        tight k h = tied v' k (none_of (points_of v') (loose v') e k (omega (arith, h, p')))

        there : (k : ℕ) → k < n.points → next_of v (g k) ≡ k
        there k h = sym (next_same (g k) (named k h)) ∙ ap (next_of v') (sym (r.agree.prev k h)) ∙ (tight k h).next_prev

        back : (k : ℕ) → k < n.points → g (next_of v k) ≡ k
        back k h = sym (r.agree.prev (next_of v k) (next_in k h)) ∙ ap (prev_of v') (sym (next_same k h)) ∙ (tight k h).prev_next

    pub tight_of : Inverse n.points (next_of v) g → loose_link v' ≡ false
    tight_of m = all_none (points_of v') (loose v') (λ k h. each k (omega (arith, h, p')))
      where
        each : (k : ℕ) → k < n.points → loose v' k ≡ false
        each k h =
            let a : next_of v' (prev_of v' k) ≡ k = ap (next_of v') (r.agree.prev k h) ∙ next_same (g k) (named k h) ∙ m.there k h in
            let c : prev_of v' (next_of v' k) ≡ k = ap (prev_of v') (next_same k h) ∙ r.agree.prev (next_of v k) (next_in k h) ∙ m.back k h in
            tied_not v' k a c

  -- ---- of any job that passes rows 1 to 5: row 6 decides
  pub acceptance_is : acceptance bytes w₀ ss₀ js₀ ≡ answer (rows_of v ts n.segments ks n.joins) n
  unfolding accept_of
  acceptance_is = rw b.reads

  pub meets_six : loose_link v ≡ true → acceptance bytes w₀ ss₀ js₀ ≡ Err Loose
  unfolding rows_of
  meets_six e = acceptance_is ∙ rw (b.four, b.five, e)

  pub avoids_six : loose_link v ≡ false → passes_rows 6 (acceptance bytes w₀ ss₀ js₀) ≡ true
  unfolding rows_of
  avoids_six e = ap (passes_rows 6) acceptance_is ∙ rw (b.four, b.five, e) (go (muddled v) (open_edge v ts n.segments ks n.joins))
    where
      go : (a c : Bool) → passes_rows 6 (answer (cond a (result.Err Muddled) (cond c (result.Err OpenEdge) (result.Ok tt))) n) ≡ true
      go true c = refl
      go false true = refl
      go false false = refl
