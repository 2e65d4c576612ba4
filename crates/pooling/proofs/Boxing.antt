-- The boxes of the pair: each record has the four words that it had, and each ring the box that it had. So each ring's box is beside it, where it was.
use Prim.Native.Nat.{ℕ, zero, suc, ◌+◌, ◌-◌, ◌≤◌, ◌<◌}
use mathlib.Core.Path.{◌≡◌, refl, ap, ◌∙◌, sym, subst}
use mathlib.Core.List.{List, [], ◌∷◌}
use mathlib.Core.Option.{some}
use native.Mathlib.Omega.{arith}
use native.Mathlib.Decide.{dec_lt}
use lib.Dec.{eqb}
use lib.ListN.{length}
use Rattle.numbers.specs.Raised.{coordinate}
use Rattle.job.specs.Limits as limit
use Rattle.geometry.specs.declared.Point.{Point}
use Rattle.geometry.specs.Box.{box_of}
use Rattle.store.specs.declared.boxed.Sides.{Sides}
use Rattle.store.specs.Field.{Field, PointCol, RecordCol, pt, rc, ct, FIRST, POINTS, RECORDS, NONE, size, BLOCK}
use Rattle.store.specs.Words.{Store, cell, put, view}
use Rattle.store.specs.Named.{records_of}
use Rattle.store.specs.Sound.{recs, ringless}
use Rattle.store.specs.Good.{Sound}
use Rattle.store.specs.Boxes.{sides_at, rect_of, ring_box, Boxed}
use Rattle.store.proofs.Boxing.{sides_put}
use Rattle.pooling.specs.declared.Used.{Used}
use Rattle.pooling.specs.Pooled.{point_kind, record_kind, raise_as, used_in, pooled}
use Rattle.pooling.specs.Words.{lay_column, lay_sides, point_columns, record_columns, lay_points, lay_records, lay_all, pooled_words}
use Rattle.pooling.proofs.Pooling.{BothFit, record_before, ringless_up, first_values, second_values}
use Rattle.pooling.proofs.Sides.{boxes_before, boxes_after}
use Rattle.pooling.proofs.Laying.{length_points, length_records, pooled_view}

-- ---- the words

sides_column : (f : Field) (g : ℕ → ℕ) (m n : ℕ) (v w : List ℕ) → m + n ≤ size f → (j : ℕ) → sides_at (lay_column f g m n v w) j ≡ sides_at w j
unfolding lay_column
sides_column f g m zero v w h j = refl
sides_column f g m (suc n) v w h j = sides_put f (m + n) (g (cell f v n)) (omega arith) (lay_column f g m n v w) j ∙ sides_column f g m n v w (omega arith) j

module _ (a b : Used) (v : List ℕ) where
  sides_points : (fs : List PointCol) (w : List ℕ) → a.points + b.points ≤ limit.POINTS → (j : ℕ) → sides_at (lay_points a b v fs w) j ≡ sides_at w j
  sides_points [] w h j = refl
  sides_points (f ∷ fs) w h j = sides_points fs (lay_column (pt f) (raise_as (point_kind f) a b) a.points b.points v w) h j ∙ sides_column (pt f) (raise_as (point_kind f) a b) a.points b.points v w h j

  sides_records : (fs : List RecordCol) (w : List ℕ) → a.records + b.records ≤ limit.RECORDS → (j : ℕ) → sides_at (lay_records a b v fs w) j ≡ sides_at w j
  sides_records [] w h j = refl
  sides_records (f ∷ fs) w h j = sides_records fs (lay_column (rc f) (raise_as (record_kind f) a b) a.records b.records v w) h j ∙ sides_column (rc f) (raise_as (record_kind f) a b) a.records b.records v w h j

  module _ (w : List ℕ) (h : a.points + b.points ≤ limit.POINTS) (k : a.records + b.records ≤ limit.RECORDS) where
    abbrev w₁ : List ℕ
    w₁ = lay_points a b v point_columns w

    abbrev w₂ : List ℕ
    w₂ = lay_records a b v record_columns w₁

    abbrev w₃ : List ℕ
    w₃ = lay_sides a.records b.records v w₂

    sides_counts : (j : ℕ) → sides_at (lay_all a b v w) j ≡ sides_at w₃ j
    unfolding lay_all
    sides_counts j = sides_put (ct RECORDS) 0 (a.records + b.records) (omega arith) (put (ct POINTS) w₃ 0 (a.points + b.points)) j ∙ sides_put (ct POINTS) 0 (a.points + b.points) (omega arith) w₃ j

    all_before : (j : ℕ) → j < a.records → sides_at (lay_all a b v w) j ≡ sides_at w j
    all_before j l = sides_counts j ∙ boxes_before a.records v w₂ b.records j k l ∙ sides_records record_columns w₁ k j ∙ sides_points point_columns w h j

    all_after : BLOCK ≤ length w → (j : ℕ) → j < b.records → sides_at (lay_all a b v w) (a.records + j) ≡ sides_at v j
    all_after long j l =
        sides_counts (a.records + j)
        ∙ boxes_after a.records v w₂ (omega (arith, length_records a b v record_columns w₁, length_points a b v point_columns w)) b.records j k l

module _ (w v : List ℕ) (fit : BothFit (view w) (view v)) where
  -- the first's stay
  pub first_sides : (j : ℕ) → j < recs (view w) → sides_at (pooled_words w v) j ≡ sides_at w j
  first_sides = all_before (used_in (view w)) (used_in (view v)) v w fit.fit_points fit.fit_records

  -- and the second's come
  pub second_sides : BLOCK ≤ length w → (j : ℕ) → j < recs (view v) → sides_at (pooled_words w v) (recs (view w) + j) ≡ sides_at v j
  second_sides = all_after (used_in (view w)) (used_in (view v)) v w fit.fit_points fit.fit_records

-- ---- the rings' boxes

-- a point by its three words
abbrev point_by : ℕ → ℕ → ℕ → Point
point_by x y z = record { x = coordinate limit.COORDINATE x; y = coordinate limit.COORDINATE y; z = z }

module _ (s t : Store) where
  pub first_box : Sound s → (j : ℕ) → j < recs s → ring_box (pooled s t) j ≡ ring_box s j
  unfolding ring_box
  first_box a j l = ap box_of (first_values point_by s t a j l)

  pub second_box : Sound t → BothFit s t → (j : ℕ) → j < recs t → ring_box (pooled s t) (recs s + j) ≡ ring_box t j
  unfolding ring_box
  second_box b fit j l = ap box_of (second_values point_by s t b fit j l)

-- ---- each is beside its ring

-- the same words and the same ring's box, under another number
boxed_as : (w u : List ℕ) (i j : ℕ) → ringless (view u) j ≡ ringless (view w) i → sides_at u j ≡ sides_at w i → ring_box (view u) j ≡ ring_box (view w) i → Boxed w i → Boxed u j
boxed_as w u i j r e f b = record { box = λ h. f ∙ b.box (sym r ∙ h) ∙ ap (λ (c : Sides). some (rect_of c)) (sym e) }

module _ (w v : List ℕ) (long : BLOCK ≤ length w) (a : Sound (view w)) (b : Sound (view v)) (fit : BothFit (view w) (view v)) where
  abbrev u : List ℕ
  u = pooled_words w v

  shows : view u ≡ pooled (view w) (view v)
  shows = pooled_view w v long fit

  first_boxed : (j : ℕ) → j < recs (view w) → Boxed w j → Boxed u j
  first_boxed j l =
      boxed_as w u j j
      (ap (λ (s : Store). ringless s j) shows ∙ ap (λ (n : ℕ). eqb n NONE) (record_before (view w) (view v) FIRST j l))
      (first_sides w v fit j l)
      (ap (λ (s : Store). ring_box s j) shows ∙ first_box (view w) (view v) a j l)

  second_boxed : (j : ℕ) → j < recs (view v) → Boxed v j → Boxed u (recs (view w) + j)
  second_boxed j l =
      boxed_as v u j (recs (view w) + j)
      (ap (λ (s : Store). ringless s (recs (view w) + j)) shows ∙ ringless_up (view w) (view v) b fit j l)
      (second_sides w v fit long j l)
      (ap (λ (s : Store). ring_box s (recs (view w) + j)) shows ∙ second_box (view w) (view v) b fit j l)

  -- "Keep .. beside it, right after .. laying together"
  pub pooled_boxed : ((j : ℕ) → j < records_of w → Boxed w j) → ((j : ℕ) → j < records_of v → Boxed v j) → (i : ℕ) → i < records_of u → Boxed u i
  pooled_boxed f g i h = go (dec_lt i (recs (view w)))
    where
      go : Dec (i < recs (view w)) → Boxed u i
      go (yes l) = first_boxed i l (f i l)
      go (no l) =
          let e : i ≡ recs (view w) + (i - recs (view w)) = omega arith in
          let d : i - recs (view w) < recs (view v) = omega (arith, ap recs shows) in
          subst (Boxed u) (sym e) (second_boxed (i - recs (view w)) d (g (i - recs (view w)) d))
