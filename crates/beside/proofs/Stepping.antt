-- A step, and then the box of its ring and of the one that it cut off: the others' boxes are still right, so every record's is; boxes written once after many steps are those written after each.
use Prim.Native.Nat.{ℕ, zero, suc, ◌+◌, ◌≤◌, ◌<◌}
use mathlib.Core.Path.{◌≡◌, refl, ap, ◌∙◌, sym, subst}
use mathlib.Core.Logic.{◌≢◌, ◌⊎◌, inl, inr}
use mathlib.Core.Bool.{cond}
use mathlib.Core.List.{List, map}
use mathlib.Core.Option.{Option, none, some}
use native.Mathlib.Omega.{arith}
use native.Mathlib.Decide.{ℕ_discrete}
use lib.Dec.{eqb}
use lib.ListN.{length}
use borrow.Author.Tests.{eq-eqb, ne_eqb}
use Rattle.job.specs.Limits as limit
use Rattle.rings.specs.Progress.{Ring}
use Rattle.geometry.specs.Box.{box_of}
use Rattle.lone.specs.Lone.{Geo}
use Rattle.lone.specs.Forest.{ok}
use Rattle.lone.specs.Act.{rings_new, offcut}
use Rattle.lone.proofs.Acting.{count}
use Rattle.store.specs.declared.boxed.Sides.{Sides}
use Rattle.store.specs.Field.{ct, FIRST, RECORDS, BLOCK, NONE}
use Rattle.store.specs.Words.{Store, view}
use Rattle.store.specs.Named.{records_of}
use Rattle.store.specs.Sound.{recs, pts, ringless, ring_at, lone_at}
use Rattle.store.specs.Good.{Sound}
use Rattle.store.specs.Value.{point_at}
use Rattle.store.specs.Boxes.{sides_at, set_sides, sides_of, ring_box, Boxed, boxed_at, all_boxed}
use Rattle.store.proofs.Keeping.{Kept, ring_other}
use Rattle.bounds.proofs.Beside.{view_boxed, length_boxed, boxed_is, boxed_past, boxed_else, boxed_here, set_boxed, boxed_move}
use Rattle.acts.specs.Apply.{Coding}
use Rattle.acts.specs.Laws.{Laws}
use Rattle.acts.specs.Step.{act_at, answer_s, step_w}
use Rattle.acts.specs.Run.{step_answered, step_s}
use Rattle.acts.proofs.Representing.{Makes, ActDone, map_agree}
use Rattle.acts.proofs.Stepping.{able, step_acts, view_step, length_step}
use Rattle.beside.specs.Sides.{with_sides, ring_sides}
use Rattle.beside.proofs.Setting.{view_with, length_with, with_agree, with_other, with_suc, all_with}
use Rattle.beside.proofs.Writing.{step_set, step_sides}

-- another record's ring keeps its box
pub box_kept : (s s' : Store) → Sound s → (i : ℕ) → Kept s s' i → (j : ℕ) → j < recs s → j ≢ i → ring_box s' j ≡ ring_box s j
unfolding ring_box
box_kept s s' o i K j l d =
    ap (λ (c : List ℕ). box_of (map (point_at s') c)) (ring_other s s' o i K j l d)
    ∙ ap box_of (map_agree (point_at s) (point_at s') (ring_at s j) (λ k p. (let q = ((o.good j l).points_in_lem k p).below in rw (K.xs k q, K.ys k q, K.zs k q))))

-- as many records, or one more
pub one_more : (s s' : Store) (i : ℕ) (x : Option (Ring ℕ)) → Makes s s' i x → (recs s' ≡ recs s) ⊎ (recs s' ≡ suc (recs s))
one_more s s' i none m = inl m
one_more s s' i (some R) m = inr m.0

module _ {P : Type 0} (G : Geo P) (f : Coding P) (Λ : Laws G f) where
  -- n records' boxes and a step, in either order
  pub with_step : (g : ℕ → Sides) (w : List ℕ) → BLOCK ≤ length w → Sound (view w) → (i n : ℕ) → step_w G f (with_sides g n w) i ≡ with_sides g n (step_w G f w i)
  unfolding with_sides
  with_step g w l o i zero = refl
  with_step g w l o i (suc n) =
      step_set G f Λ (with_sides g n w) (omega (arith, length_with g w n)) (subst Sound (sym (view_with g w n)) o) i n (g n)
      ∙ ap (λ (u : List ℕ). set_sides u n (g n)) (with_step g w l o i n)

  -- a step that is carried out
  module _ (w : List ℕ) (l : BLOCK ≤ length w) (o : Sound (view w)) (i : ℕ) (e : answer_s G f (view w) i ≡ ok) where
    abbrev U : List ℕ
    U = step_w G f w i

    done : ActDone (view w) (view U) i (act_at G f (view w) i)
    unfolding step_s
    done =
        subst (λ (s : Store). ActDone (view w) s i (act_at G f (view w) i)) (sym (view_step G f Λ w i l o ∙ ap (step_answered G f (view w) i) e))
        (step_acts G f (view w) i Λ o (able G f (view w) i e)).stepped

    low : i < recs (view w)
    low = (able G f (view w) i e).closed.known

    grown : (recs (view U) ≡ recs (view w)) ⊎ (recs (view U) ≡ suc (recs (view w)))
    grown = one_more (view w) (view U) i (offcut (λ (v : P). pts (view w) + count (rings_new (act_at G f (view w) i))) (act_at G f (view w) i) (lone_at (view w) i)) done.made

    few : recs (view U) ≤ limit.RECORDS
    few = done.sound.few_records

    kept : (j : ℕ) → j < recs (view w) → j ≢ i → ring_box (view U) j ≡ ring_box (view w) j
    kept j h d = box_kept (view w) (view U) o i done.kept j h d

    -- the two boxes
    abbrev B : List ℕ
    B = boxed_at (boxed_at U i) (recs (view w))

    view_B : view B ≡ view U
    view_B = view_boxed (boxed_at U i) (recs (view w)) ∙ view_boxed U i

    records_U : records_of (boxed_at U i) ≡ recs (view U)
    records_U = ap (λ (s : Store). s (ct RECORDS) 0) (view_boxed U i)

    long_U : BLOCK ≤ length U
    long_U = omega (arith, length_step G f w i)

    -- ---- each record's box

    up : recs (view w) ≤ recs (view U)
    up = done.kept.records_up

    own : sides_at B i ≡ ring_sides (view B) i
    own =
        boxed_else (boxed_at U i) (recs (view w)) (omega (arith, records_U, few)) i (omega (arith, low, o.few_records)) (λ z. omega (arith, low))
        ∙ boxed_here U i few long_U (omega (arith, low, up)) ∙ ap (λ (s : Store). ring_sides s i) (sym view_B)

    new : recs (view w) < recs (view U) → sides_at B (recs (view w)) ≡ ring_sides (view B) (recs (view w))
    new h =
        boxed_here (boxed_at U i) (recs (view w)) (omega (arith, records_U, few)) (omega (arith, length_boxed U i, long_U)) (omega (arith, records_U))
        ∙ ap (λ (s : Store). ring_sides s (recs (view w))) (view_boxed U i ∙ sym view_B)

    else_sides : (j : ℕ) → j < recs (view w) → j ≢ i → sides_at B j ≡ sides_at w j
    else_sides j h d =
        boxed_else (boxed_at U i) (recs (view w)) (omega (arith, records_U, few)) j (omega (arith, o.few_records)) (λ z. omega arith)
        ∙ boxed_else U i few j (omega (arith, o.few_records)) d ∙ step_sides G f Λ w l o i j

    pub step_boxed : ((j : ℕ) → j < recs (view w) → Boxed w j) → (j : ℕ) → j < recs (view B) → Boxed B j
    step_boxed b j h = go (ℕ_discrete j i) (ℕ_discrete j (recs (view w)))
      where
        at : Store → ℕ
        at s = s (ct RECORDS) 0

        go : Dec (j ≡ i) → Dec (j ≡ recs (view w)) → Boxed B j
        go (yes z) c = set_boxed B j (rw z own)
        go (no d) (yes z) = set_boxed B j (rw z (new (omega (arith, h, z, ap at view_B))))
        go (no d) (no n) = other (less grown)
          where
            less : (recs (view U) ≡ recs (view w)) ⊎ (recs (view U) ≡ suc (recs (view w))) → j < recs (view w)
            less (inl g) = omega (arith, h, g, ap at view_B)
            less (inr g) = omega (arith, h, g, n, ap at view_B)

            other : j < recs (view w) → Boxed B j
            other m =
                boxed_move w B j
                (ap (λ (s : Store). ringless s j) view_B ∙ ap (λ (k : ℕ). eqb k NONE) (done.kept.records FIRST j m d))
                (else_sides j m d)
                (ap (λ (s : Store). ring_box s j) view_B ∙ kept j m d)
                (b j m)

    -- ---- all boxes at once

    pub step_all : boxed_at (boxed_at (step_w G f (all_boxed w) i) i) (recs (view w)) ≡ all_boxed U
    step_all =
        ap (λ (u : List ℕ). boxed_at (boxed_at u i) n) (ap (λ (u : List ℕ). step_w G f u i) (all_with w) ∙ with_step g w l o i n)
        ∙ ap (λ (u : List ℕ). boxed_at u n) own_again
        ∙ last grown
      where
        n : ℕ
        n = recs (view w)

        g : ℕ → Sides
        g = ring_sides (view w)

        h : ℕ → Sides
        h = ring_sides (view U)

        records_with : (x : ℕ → Sides) → records_of (with_sides x n U) ≡ recs (view U)
        records_with x = ap (λ (s : Store). s (ct RECORDS) 0) (view_with x U n)

        each : (j : ℕ) → j < n → cond (eqb j i) (h i) (g j) ≡ h j
        each j m = pick (ℕ_discrete j i)
          where
            pick : Dec (j ≡ i) → cond (eqb j i) (h i) (g j) ≡ h j
            pick (yes z) = rw (eq-eqb j i z) (ap h (sym z))
            pick (no d) = rw (ne_eqb j i d) (ap sides_of (sym (kept j m d)))

        own_again : boxed_at (with_sides g n U) i ≡ with_sides h n U
        own_again =
            boxed_is (with_sides g n U) i (omega (arith, records_with g, low, up))
            ∙ ap (λ (s : Store). set_sides (with_sides g n U) i (ring_sides s i)) (view_with g U n)
            ∙ with_other g U i (h i) long_U n low o.few_records
            ∙ with_agree (λ j. cond (eqb j i) (h i) (g j)) h U n each

        last : (recs (view U) ≡ recs (view w)) ⊎ (recs (view U) ≡ suc (recs (view w))) → boxed_at (with_sides h n U) n ≡ all_boxed U
        last (inl z) = boxed_past (with_sides h n U) n (omega (arith, records_with h, z)) ∙ ap (λ (k : ℕ). with_sides h k U) (sym z) ∙ sym (all_with U)
        last (inr z) =
            boxed_is (with_sides h n U) n (omega (arith, records_with h, z))
            ∙ ap (λ (s : Store). set_sides (with_sides h n U) n (ring_sides s n)) (view_with h U n)
            ∙ one ∙ ap (λ (k : ℕ). with_sides h k U) (sym z) ∙ sym (all_with U)
          where
            one : set_sides (with_sides h n U) n (h n) ≡ with_sides h (suc n) U
            one = with_suc h U n
