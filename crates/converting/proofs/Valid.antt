-- Document 01's sentences on the sorted list: valid ones come first, by left x; fewer than two valid make no joins.
use Prim.Native.Nat.{ℕ, zero, suc, ◌+◌, ◌≤◌, ◌<◌}
use mathlib.Core.Path.{◌≡◌, refl, ap, ◌∙◌, sym}
use mathlib.Core.Logic.{◌⊎◌, inl, inr}
use mathlib.Core.Bool.{Bool, true, false, cond}
use mathlib.Core.List.{List, [], ◌∷◌, ◌++◌, map}
use native.Mathlib.Omega.{arith}
use lib.Dec.{eqb, ltb}
use lib.ListN.{length, get_or, set, replicate}
use borrow.Author.Tests.{eq-eqb, ne_eqb, eqb-true}
use Rattle.std.proofs.Common.{Some}
use Rattle.job.specs.Limits as limit
use Rattle.store.specs.Field.{NONE}
use Rattle.store.specs.Named.{points_of}
use Rattle.joins.specs.Resolved.{Ready}
use Rattle.sorting.specs.declared.HorzSegment.{HorzSegment}
use Rattle.sorting.specs.Sorted.{LAST, inserted, place_all, reverse, sorted}
use Rattle.sorting.proofs.Stable.{Each, Rises, sorted_rises}
use Rattle.segments.specs.Level.{x_of}
use Rattle.segments.specs.Needs.{Span}
use Rattle.segments.specs.Update.{blank, segment_through, Claim, claim, claim_of, on_claim, update_from, segments_of}
use Rattle.segments.specs.Needs.{Listed}
use Rattle.segments.proofs.Updates.{Listable}
use Rattle.converting.specs.Make.{made, out, made_of, and_then, inner_from, outer_from, sorted_segments, pairs_of, convert_horz_segs_to_joins}
use Rattle.converting.specs.Sentences.{IsValid, ValidFirst, valid_in}
use Rattle.converting.proofs.Converting.{sorted_256, sorted_fit}

-- ---- valid ones first

-- the sentinel is above every x
pub above : (w : List ℕ) → Ready w → (k : ℕ) → k < points_of w → x_of w k < LAST
above w o k h = omega (arith, o.resolved.x_in k h)

each_at : (P : HorzSegment → Type 0) (R : List HorzSegment) → Each P R → (j : ℕ) → j < length R → P (get_or R j blank)
each_at P [] h j l = absurd (omega arith)
each_at P (a ∷ R) h zero l = h.0
each_at P (a ∷ R) h (suc j) l = each_at P R h.1 j (omega arith)

rises_at : (R : List HorzSegment) → Rises R → (i j : ℕ) → i < j → j < length R → (get_or R i blank).key ≤ (get_or R j blank).key
rises_at [] h i j k l = absurd (omega arith)
rises_at (a ∷ R) h i zero k l = absurd (omega arith)
rises_at (a ∷ R) h zero (suc j) k l = each_at (λ b. a.key ≤ b.key) R h.0 j (omega arith)
rises_at (a ∷ R) h (suc i) (suc j) k l = rises_at R h.1 i j (omega arith) (omega arith)

valid_key : (w : List ℕ) (s : HorzSegment) → Listable w s → IsValid s → s.key ≡ x_of w s.left
valid_key w s f v = rw (ne_eqb s.right NONE v) at f.key

valid_low : (w : List ℕ) (s : HorzSegment) → Listable w s → IsValid s → s.key < LAST
valid_low w s f v = go f.spans
  where
    go : (s.right ≡ NONE) ⊎ Span w s.left s.right → s.key < LAST
    go (inl e) = absurd (v e)
    go (inr q) = omega (arith, valid_key w s f v, above w q.same.ready s.left q.same.one.bound)

struck_key : (w : List ℕ) (s : HorzSegment) → Listable w s → s.right ≡ NONE → s.key ≡ LAST
struck_key w s f e = rw (eq-eqb s.right NONE e) at f.key

all_rise : (w : List ℕ) (n : ℕ) (ps : List ℕ) → Rises (sorted_segments w n ps)
unfolding sorted_segments
all_rise w n ps = sorted_rises (segments_of w n ps)

pub valid_first : (w : List ℕ) (n : ℕ) (ps : List ℕ) → Listed w n ps → ValidFirst w (sorted_segments w n ps)
valid_first w n ps t = record { first = first; by_left = λ i j k l v. omega (arith, rises i j k l, valid_key w (get_or R i blank) (fit i (omega arith)) (first i j k l v), valid_key w (get_or R j blank) (fit j l) v) }
  where
    R : List HorzSegment
    R = sorted_segments w n ps

    fit : (j : ℕ) → j < length (sorted_segments w n ps) → Listable w (get_or (sorted_segments w n ps) j blank)
    fit j l = each_at (Listable w) (sorted_segments w n ps) (sorted_fit w n ps t) j l

    rises : (i j : ℕ) → i < j → j < length (sorted_segments w n ps) → (get_or (sorted_segments w n ps) i blank).key ≤ (get_or (sorted_segments w n ps) j blank).key
    rises i j k l = rises_at (sorted_segments w n ps) (all_rise w n ps) i j k l

    first : (i j : ℕ) → i < j → j < length (sorted_segments w n ps) → IsValid (get_or (sorted_segments w n ps) j blank) → IsValid (get_or (sorted_segments w n ps) i blank)
    first i j k l v e = omega (arith, rises i j k l, valid_low w (get_or (sorted_segments w n ps) j blank) (fit j l) v, struck_key w (get_or (sorted_segments w n ps) i blank) (fit i (omega arith)) e)

-- ---- fewer than two valid

-- the sort keeps how many are valid
place_valid : (a : HorzSegment) (l : List HorzSegment) → valid_in (inserted a l) ≡ valid_in (a ∷ l)
place_valid a [] = refl
place_valid a (b ∷ l) = go (ltb a.key b.key) (place_valid a l)
  where
    either : (u v : Bool) (n : ℕ) → cond v (cond u n (suc n)) (suc (cond u n (suc n))) ≡ cond u (cond v n (suc n)) (suc (cond v n (suc n)))
    either true true n = refl
    either true false n = refl
    either false true n = refl
    either false false n = refl

    go : (t : Bool) → valid_in (inserted a l) ≡ valid_in (a ∷ l) → valid_in (cond t (b ∷ inserted a l) (a ∷ b ∷ l)) ≡ valid_in (a ∷ b ∷ l)
    go true h = ap (λ (n : ℕ). cond (eqb b.right NONE) n (suc n)) h ∙ either (eqb a.right NONE) (eqb b.right NONE) (valid_in l)
    go false h = refl

all_valid : (s l : List HorzSegment) → valid_in (place_all s l) ≡ valid_in s + valid_in l
all_valid s [] = omega arith
all_valid s (a ∷ l) = all_valid (inserted a s) l ∙ ap (λ (n : ℕ). n + valid_in l) (place_valid a s) ∙ go (eqb a.right NONE)
  where
    go : (t : Bool) → cond t (valid_in s) (suc (valid_in s)) + valid_in l ≡ valid_in s + cond t (valid_in l) (suc (valid_in l))
    go true = refl
    go false = omega arith

append_valid : (l m : List HorzSegment) → valid_in (l ++ m) ≡ valid_in l + valid_in m
append_valid [] m = omega arith
append_valid (a ∷ l) m = go (eqb a.right NONE) (append_valid l m)
  where
    go : (t : Bool) → valid_in (l ++ m) ≡ valid_in l + valid_in m → cond t (valid_in (l ++ m)) (suc (valid_in (l ++ m))) ≡ cond t (valid_in l) (suc (valid_in l)) + valid_in m
    go true h = h
    go false h = omega arith

reverse_valid : (l : List HorzSegment) → valid_in (reverse l) ≡ valid_in l
reverse_valid [] = refl
reverse_valid (a ∷ l) = append_valid (reverse l) (a ∷ []) ∙ go (eqb a.right NONE) (reverse_valid l)
  where
    go : (t : Bool) → valid_in (reverse l) ≡ valid_in l → valid_in (reverse l) + cond t 0 1 ≡ cond t (valid_in l) (suc (valid_in l))
    go true h = omega arith
    go false h = omega arith

sorted_valid : (l : List HorzSegment) → valid_in (sorted l) ≡ valid_in l
unfolding sorted
sorted_valid l = omega (arith, reverse_valid (place_all [] l), all_valid [] l)

-- nothing is joined where the second is not valid
inner_still : (f : ℕ) (rs fs : List ℕ) (i j : ℕ) (w ls js : List ℕ) (m : ℕ) → get_or rs j 0 ≡ NONE → inner_from f rs fs i j w ls js m ≡ out (Some m) w ls js
unfolding inner_from
inner_still zero rs fs i j w ls js m e = refl
inner_still (suc f) rs fs i j w ls js m e = rw (eq-eqb (get_or rs j 0) NONE e)

outer_still : (f : ℕ) (rs fs : List ℕ) (i : ℕ) (w ls js : List ℕ) (m : ℕ) → get_or rs i 0 ≡ NONE → outer_from f rs fs i w ls js m ≡ out (Some m) w ls js
unfolding outer_from
outer_still zero rs fs i w ls js m e = refl
outer_still (suc f) rs fs i w ls js m e = rw (eq-eqb (get_or rs i 0) NONE e)

alone : (f : ℕ) (rs fs w ls js : List ℕ) (m : ℕ) → get_or rs 1 0 ≡ NONE → outer_from f rs fs 0 w ls js m ≡ out (Some m) w ls js
unfolding outer_from
alone zero rs fs w ls js m e = refl
alone (suc f) rs fs w ls js m e = go (eqb (get_or rs 0 0) NONE)
  where
    go : (t : Bool) → cond t (out (Some m) w ls js) (and_then (outer_from f rs fs 1) (inner_from f rs fs 0 1 w ls js m)) ≡ out (Some m) w ls js
    go true = refl
    go false = ap (and_then (outer_from f rs fs 1)) (inner_still f rs fs 0 1 w ls js m e) ∙ outer_still f rs fs 1 w ls js m e

first_two : (R : List HorzSegment) → 2 ≤ length R → valid_in R < 2 → (get_or (map (λ (r : HorzSegment). r.right) R) 0 0 ≡ NONE) ⊎ (get_or (map (λ (r : HorzSegment). r.right) R) 1 0 ≡ NONE)
first_two [] l h = absurd (omega arith)
first_two (a ∷ []) l h = absurd (omega arith)
first_two (a ∷ b ∷ R) l h = go (eqb a.right NONE) (eqb b.right NONE) refl refl h
  where
    go : (t u : Bool) → eqb a.right NONE ≡ t → eqb b.right NONE ≡ u → cond t (cond u (valid_in R) (suc (valid_in R))) (suc (cond u (valid_in R) (suc (valid_in R)))) < 2 → (a.right ≡ NONE) ⊎ (b.right ≡ NONE)
    go true u e f k = inl (eqb-true a.right NONE e)
    go false true e f k = inr (eqb-true b.right NONE f)
    go false false e f k = absurd (omega arith)

few : (w : List ℕ) (n : ℕ) (ps : List ℕ) → valid_in (segments_of w n ps) < 2 → valid_in (sorted_segments w n ps) < 2
unfolding sorted_segments
few w n ps h = omega (arith, sorted_valid (segments_of w n ps))

-- "Fewer than two valid: no joins made"
pub few_valid : (w : List ℕ) (n : ℕ) (ps js : List ℕ) (m : ℕ) → valid_in (segments_of w n ps) < 2 → convert_horz_segs_to_joins w n ps js m ≡ made (Some m) w js
unfolding convert_horz_segs_to_joins pairs_of
few_valid w n ps js m h = go (first_two (sorted_segments w n ps) (omega (arith, sorted_256 w n ps)) (few w n ps h))
  where
    go : (get_or (map (λ (r : HorzSegment). r.right) (sorted_segments w n ps)) 0 0 ≡ NONE) ⊎ (get_or (map (λ (r : HorzSegment). r.right) (sorted_segments w n ps)) 1 0 ≡ NONE)
        → made_of (outer_from limit.SEGMENTS (map (λ (r : HorzSegment). r.right) (sorted_segments w n ps)) (map (λ (r : HorzSegment). r.forward) (sorted_segments w n ps)) 0 w (map (λ (r : HorzSegment). r.left) (sorted_segments w n ps)) js m) ≡ made (Some m) w js
    go (inl e) = ap made_of (outer_still limit.SEGMENTS _ _ 0 w _ js m e)
    go (inr e) = ap made_of (alone limit.SEGMENTS _ _ w _ js m e)

-- so one segment makes none
set_valid : (l : List HorzSegment) (i : ℕ) (r : HorzSegment) → valid_in (set l i r) ≤ suc (valid_in l)
set_valid [] i r = omega arith
set_valid (a ∷ l) zero r = go (eqb r.right NONE) (eqb a.right NONE)
  where
    go : (t u : Bool) → cond t (valid_in l) (suc (valid_in l)) ≤ suc (cond u (valid_in l) (suc (valid_in l)))
    go true true = omega arith
    go true false = omega arith
    go false true = omega arith
    go false false = omega arith
set_valid (a ∷ l) (suc i) r = go (eqb a.right NONE) (set_valid l i r)
  where
    go : (t : Bool) → valid_in (set l i r) ≤ suc (valid_in l) → cond t (valid_in (set l i r)) (suc (valid_in (set l i r))) ≤ suc (cond t (valid_in l) (suc (valid_in l)))
    go true h = h
    go false h = omega arith

updated_valid : (f i : ℕ) (w ps ms : List ℕ) (R : List HorzSegment) → valid_in (update_from f i w ps ms R) ≤ f + valid_in R
unfolding update_from
updated_valid zero i w ps ms R = omega arith
updated_valid (suc f) i w ps ms R = go (claim_of ms (segment_through w (get_or ps i 0))) (λ s ms'. updated_valid f (i + 1) w ps ms' (set R i s))
  where
    go : (c : Claim) → ((s : HorzSegment) (ms' : List ℕ) → valid_in (update_from f (i + 1) w ps ms' (set R i s)) ≤ f + valid_in (set R i s)) → valid_in (on_claim i R (update_from f (i + 1) w ps) c) ≤ suc f + valid_in R
    go (claim s ms') r = omega (arith, r s ms', set_valid R i s)

blank_valid : (n : ℕ) → valid_in (replicate n blank) ≡ 0
blank_valid zero = refl
blank_valid (suc n) = blank_valid n

segments_valid : (w : List ℕ) (n : ℕ) (ps : List ℕ) → valid_in (segments_of w n ps) ≤ n
unfolding segments_of
segments_valid w n ps = omega (arith, updated_valid n 0 w ps (replicate limit.POINTS 0) (replicate limit.SEGMENTS blank), blank_valid limit.SEGMENTS)

pub one_alone : (w : List ℕ) (n : ℕ) (ps js : List ℕ) (m : ℕ) → n < 2 → made (Some m) w js ≡ convert_horz_segs_to_joins w n ps js m
one_alone w n ps js m h = sym (few_valid w n ps js m (omega (arith, segments_valid w n ps)))
