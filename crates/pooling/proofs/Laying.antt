-- The pooled words hold the pooled store.
use Prim.Native.Nat.{ℕ, zero, suc, ◌+◌, ◌-◌, ◌≤◌, ◌<◌}
use mathlib.Core.Path.{◌≡◌, refl, ap, ◌∙◌, sym, fun_ext}
use mathlib.Core.Bool.{Bool, true, false, cond}
use mathlib.Core.List.{List, [], ◌∷◌, ◌++◌}
use native.Mathlib.Omega.{arith}
use native.Mathlib.Decide.{dec_lt, ℕ_discrete}
use lib.Dec.{eqb}
use lib.ListN.{length, take, drop, take-append-drop}
use lib.Seq.{length-take-le, take_at, drop_at, set-append_left}
use borrow.Author.Tests.{eq-eqb, ne_eqb}
use Rattle.job.specs.Limits as limit
use Rattle.store.specs.Field.{Field, PointCol, RecordCol, pt, rc, ct, X, Y, NEXT, PREV, REC, Z, FLAGS, OWNER, FIRST, MARK, PRESENT, START, CUT, REASON, TAKER, SETTINGS, POINTS, RECORDS, size, base, same, BLOCK}
use Rattle.store.specs.Words.{Store, cell, put, view}
use Rattle.store.specs.Boxes.{sides_at}
use Rattle.store.specs.States.{block_of}
use Rattle.store.specs.Stores.{upd}
use Rattle.store.proofs.Storing.{ends, view_put, length_put}
use Rattle.pooling.specs.declared.Used.{Used}
use Rattle.pooling.specs.Pooled.{point_kind, record_kind, used_in, raise_as, followed, pooled}
use Rattle.pooling.specs.Words.{lay_column, lay_sides, point_columns, record_columns, lay_points, lay_records, lay_counts, lay_all, pooled_words}
use Rattle.pooling.proofs.Raising.{before, after, past}
use Rattle.pooling.proofs.Pooling.{BothFit}
use Rattle.pooling.proofs.Sides.{view_boxes, length_boxes, boxes_more, boxes_same}

-- ---- one column

followed_none : (m : ℕ) (a b : ℕ → ℕ) (j : ℕ) → followed m 0 a b j ≡ a j
followed_none m a b j = go (dec_lt j m)
  where
    go : Dec (j < m) → followed m 0 a b j ≡ a j
    go (yes h) = before m 0 a b j h
    go (no h) = past m 0 a b j (omega arith)

followed_more : (m n : ℕ) (a b : ℕ → ℕ) (j : ℕ) → cond (eqb j (m + n)) (b n) (followed m n a b j) ≡ followed m (suc n) a b j
followed_more m n a b j = go (ℕ_discrete j (m + n)) (dec_lt j m) (dec_lt j (m + n))
  where
    go : Dec (j ≡ m + n) → Dec (j < m) → Dec (j < m + n) → cond (eqb j (m + n)) (b n) (followed m n a b j) ≡ followed m (suc n) a b j
    go (yes e) d c = rw (eq-eqb j (m + n) e) (sym (ap (followed m (suc n) a b) e ∙ after m (suc n) a b n (omega arith)))
    go (no z) (yes h) c = rw (ne_eqb j (m + n) z) (before m n a b j h ∙ sym (before m (suc n) a b j h))
    go (no z) (no h) (yes c) =
        let e : j ≡ m + (j - m) = omega arith in
        rw (ne_eqb j (m + n) z) (ap (followed m n a b) e ∙ after m n a b (j - m) (omega arith) ∙ sym (ap (followed m (suc n) a b) e ∙ after m (suc n) a b (j - m) (omega arith)))
    go (no z) (no h) (no c) = rw (ne_eqb j (m + n) z) (past m n a b j (omega arith) ∙ sym (past m (suc n) a b j (omega arith)))

-- the store with n numbers of another column after the first m of column f
abbrev and_laid : Store → Field → ℕ → ℕ → (ℕ → ℕ) → Store
and_laid s f m n b h j = cond (same f h) (followed m n (s h) b j) (s h j)

pub length_lay : (f : Field) (g : ℕ → ℕ) (m n : ℕ) (v w : List ℕ) → length (lay_column f g m n v w) ≡ length w
unfolding lay_column
length_lay f g m zero v w = refl
length_lay f g m (suc n) v w = length_put f (lay_column f g m n v w) (m + n) (g (cell f v n)) ∙ length_lay f g m n v w

module _ (f : Field) (g : ℕ → ℕ) (m : ℕ) (v w : List ℕ) (long : BLOCK ≤ length w) where
  abbrev b : ℕ → ℕ
  b i = g (cell f v i)

  lay_none : (h : Field) (j : ℕ) → view w h j ≡ and_laid (view w) f m 0 b h j
  lay_none h j = go (same f h)
    where
      go : (c : Bool) → view w h j ≡ cond c (followed m 0 (view w h) b j) (view w h j)
      go true = sym (followed_none m (view w h) b j)
      go false = refl

  lay_more : (n : ℕ) (h : Field) (j : ℕ) → upd (and_laid (view w) f m n b) f (m + n) (b n) h j ≡ and_laid (view w) f m (suc n) b h j
  lay_more n h j = go (same f h)
    where
      go : (c : Bool) → cond c (cond (eqb j (m + n)) (b n) (cond c (followed m n (view w h) b j) (view w h j))) (cond c (followed m n (view w h) b j) (view w h j)) ≡ cond c (followed m (suc n) (view w h) b j) (view w h j)
      go true = followed_more m n (view w h) b j
      go false = refl

  pub view_lay : (n : ℕ) → m + n ≤ size f → view (lay_column f g m n v w) ≡ and_laid (view w) f m n b
  unfolding lay_column
  view_lay zero h = fun_ext (λ k. fun_ext (λ j. lay_none k j))
  view_lay (suc n) h =
      view_put (lay_column f g m n v w) (omega (arith, length_lay f g m n v w)) f (m + n) (b n) (omega arith)
      ∙ ap (λ (s : Store). upd s f (m + n) (b n)) (view_lay n (omega arith))
      ∙ fun_ext (λ k. fun_ext (λ j. lay_more n k j))

-- ---- all columns

module _ (a b : Used) (v : List ℕ) where
  abbrev on_points : List PointCol → Store → Store
  on_points [] s = s
  on_points (f ∷ fs) s = on_points fs (and_laid s (pt f) a.points b.points (λ k. raise_as (point_kind f) a b (cell (pt f) v k)))

  abbrev on_records : List RecordCol → Store → Store
  on_records [] s = s
  on_records (f ∷ fs) s = on_records fs (and_laid s (rc f) a.records b.records (λ k. raise_as (record_kind f) a b (cell (rc f) v k)))

  pub length_points : (fs : List PointCol) (w : List ℕ) → length (lay_points a b v fs w) ≡ length w
  length_points [] w = refl
  length_points (f ∷ fs) w = length_points fs (lay_column (pt f) (raise_as (point_kind f) a b) a.points b.points v w) ∙ length_lay (pt f) (raise_as (point_kind f) a b) a.points b.points v w

  pub length_records : (fs : List RecordCol) (w : List ℕ) → length (lay_records a b v fs w) ≡ length w
  length_records [] w = refl
  length_records (f ∷ fs) w = length_records fs (lay_column (rc f) (raise_as (record_kind f) a b) a.records b.records v w) ∙ length_lay (rc f) (raise_as (record_kind f) a b) a.records b.records v w

  view_points : (fs : List PointCol) (w : List ℕ) → BLOCK ≤ length w → a.points + b.points ≤ limit.POINTS → view (lay_points a b v fs w) ≡ on_points fs (view w)
  view_points [] w l h = refl
  view_points (f ∷ fs) w l h =
      view_points fs (lay_column (pt f) (raise_as (point_kind f) a b) a.points b.points v w) (omega (arith, length_lay (pt f) (raise_as (point_kind f) a b) a.points b.points v w)) h
      ∙ ap (on_points fs) (view_lay (pt f) (raise_as (point_kind f) a b) a.points v w l b.points h)

  view_records : (fs : List RecordCol) (w : List ℕ) → BLOCK ≤ length w → a.records + b.records ≤ limit.RECORDS → view (lay_records a b v fs w) ≡ on_records fs (view w)
  view_records [] w l h = refl
  view_records (f ∷ fs) w l h =
      view_records fs (lay_column (rc f) (raise_as (record_kind f) a b) a.records b.records v w) (omega (arith, length_lay (rc f) (raise_as (record_kind f) a b) a.records b.records v w)) h
      ∙ ap (on_records fs) (view_lay (rc f) (raise_as (record_kind f) a b) a.records v w l b.records h)

  abbrev on_counts : Store → Store
  on_counts s = upd (upd s (ct POINTS) 0 (a.points + b.points)) (ct RECORDS) 0 (a.records + b.records)

  pub length_all : (w : List ℕ) → length (lay_all a b v w) ≡ length w
  unfolding lay_all
  length_all w =
      let w₁ : List ℕ = lay_points a b v point_columns w in
      let w₂ : List ℕ = lay_records a b v record_columns w₁ in
      let w₃ : List ℕ = lay_sides a.records b.records v w₂ in
      length_put (ct RECORDS) (put (ct POINTS) w₃ 0 (a.points + b.points)) 0 (a.records + b.records)
      ∙ length_put (ct POINTS) w₃ 0 (a.points + b.points)
      ∙ length_boxes a.records v w₂ b.records
      ∙ length_records record_columns w₁
      ∙ length_points point_columns w

  view_all : (w : List ℕ) → BLOCK ≤ length w → a.points + b.points ≤ limit.POINTS → a.records + b.records ≤ limit.RECORDS
      → view (lay_all a b v w) ≡ on_counts (on_records record_columns (on_points point_columns (view w)))
  unfolding lay_all
  view_all w l h k =
      let w₁ : List ℕ = lay_points a b v point_columns w in
      let w₂ : List ℕ = lay_records a b v record_columns w₁ in
      let l₁ : BLOCK ≤ length w₁ = omega (arith, length_points point_columns w) in
      let w₃ : List ℕ = lay_sides a.records b.records v w₂ in
      let l₃ : BLOCK ≤ length w₃ = omega (arith, length_boxes a.records v w₂ b.records, length_records record_columns w₁) in
      view_put (put (ct POINTS) w₃ 0 (a.points + b.points)) (omega (arith, length_put (ct POINTS) w₃ 0 (a.points + b.points))) (ct RECORDS) 0 (a.records + b.records) (omega arith)
      ∙ ap (λ (s : Store). upd s (ct RECORDS) 0 (a.records + b.records)) (view_put w₃ l₃ (ct POINTS) 0 (a.points + b.points) (omega arith))
      ∙ ap on_counts (view_boxes a.records v w₂ b.records)
      ∙ ap on_counts (view_records record_columns w₁ l₁ k)
      ∙ ap (λ (s : Store). on_counts (on_records record_columns s)) (view_points point_columns w l h)

-- column by column
each : (w v : List ℕ) (f : Field) (i : ℕ)
    → on_counts (used_in (view w)) (used_in (view v)) v (on_records (used_in (view w)) (used_in (view v)) v record_columns (on_points (used_in (view w)) (used_in (view v)) v point_columns (view w))) f i ≡ pooled (view w) (view v) f i
each w v (pt X) i = refl
each w v (pt Y) i = refl
each w v (pt NEXT) i = refl
each w v (pt PREV) i = refl
each w v (pt REC) i = refl
each w v (pt Z) i = refl
each w v (rc FLAGS) i = refl
each w v (rc OWNER) i = refl
each w v (rc FIRST) i = refl
each w v (rc MARK) i = refl
each w v (rc PRESENT) i = refl
each w v (rc START) i = refl
each w v (rc CUT) i = refl
each w v (rc REASON) i = refl
each w v (rc TAKER) i = refl
each w v (ct SETTINGS) i = refl
each w v (ct POINTS) zero = refl
each w v (ct POINTS) (suc i) = rw (ne_eqb (suc i) 0 (λ z. omega arith))
each w v (ct RECORDS) zero = refl
each w v (ct RECORDS) (suc i) = rw (ne_eqb (suc i) 0 (λ z. omega arith))

pub pooled_view : (w v : List ℕ) → BLOCK ≤ length w → BothFit (view w) (view v) → view (pooled_words w v) ≡ pooled (view w) (view v)
pooled_view w v l h = view_all (used_in (view w)) (used_in (view v)) v w l h.fit_points h.fit_records ∙ fun_ext (λ f. fun_ext (λ i. each w v f i))

pub pooled_length : (w v : List ℕ) → length (pooled_words w v) ≡ length w
pooled_length w v = length_all (used_in (view w)) (used_in (view v)) v w

-- ---- the words m behind the live block are neither read nor written

put_more : (f : Field) (x m : List ℕ) (i v : ℕ) → BLOCK ≤ length x → i < size f → put f (x ++ m) i v ≡ put f x i v ++ m
unfolding put
put_more f x m i v l h = set-append_left x m (base f + i) v (omega (arith, ends f i h))

column_more : (f : Field) (g : ℕ → ℕ) (m n : ℕ) (v x r : List ℕ) → BLOCK ≤ length x → m + n ≤ size f → lay_column f g m n v (x ++ r) ≡ lay_column f g m n v x ++ r
unfolding lay_column
column_more f g m zero v x r l h = refl
column_more f g m (suc n) v x r l h =
    ap (λ (w : List ℕ). put f w (m + n) (g (cell f v n))) (column_more f g m n v x r l (omega arith))
    ∙ put_more f (lay_column f g m n v x) r (m + n) (g (cell f v n)) (omega (arith, length_lay f g m n v x)) (omega arith)

module _ (a b : Used) (v m : List ℕ) where
  points_more : (fs : List PointCol) (x : List ℕ) → BLOCK ≤ length x → a.points + b.points ≤ limit.POINTS → lay_points a b v fs (x ++ m) ≡ lay_points a b v fs x ++ m
  points_more [] x l h = refl
  points_more (f ∷ fs) x l h =
      ap (lay_points a b v fs) (column_more (pt f) (raise_as (point_kind f) a b) a.points b.points v x m l h)
      ∙ points_more fs (lay_column (pt f) (raise_as (point_kind f) a b) a.points b.points v x) (omega (arith, length_lay (pt f) (raise_as (point_kind f) a b) a.points b.points v x)) h

  records_more : (fs : List RecordCol) (x : List ℕ) → BLOCK ≤ length x → a.records + b.records ≤ limit.RECORDS → lay_records a b v fs (x ++ m) ≡ lay_records a b v fs x ++ m
  records_more [] x l h = refl
  records_more (f ∷ fs) x l h =
      ap (lay_records a b v fs) (column_more (rc f) (raise_as (record_kind f) a b) a.records b.records v x m l h)
      ∙ records_more fs (lay_column (rc f) (raise_as (record_kind f) a b) a.records b.records v x) (omega (arith, length_lay (rc f) (raise_as (record_kind f) a b) a.records b.records v x)) h

  pub all_more : (x : List ℕ) → BLOCK ≤ length x → a.points + b.points ≤ limit.POINTS → a.records + b.records ≤ limit.RECORDS → lay_all a b v (x ++ m) ≡ lay_all a b v x ++ m
  unfolding lay_all
  all_more x l h k =
      let x₁ : List ℕ = lay_points a b v point_columns x in
      let x₂ : List ℕ = lay_records a b v record_columns x₁ in
      let l₁ : BLOCK ≤ length x₁ = omega (arith, length_points a b v point_columns x) in
      let l₂ : BLOCK ≤ length x₂ = omega (arith, length_records a b v record_columns x₁) in
      let x₃ : List ℕ = lay_sides a.records b.records v x₂ in
      let l₃ : BLOCK ≤ length x₃ = omega (arith, length_boxes a.records v x₂ b.records) in
      ap (λ (w : List ℕ). lay_counts a b v (lay_sides a.records b.records v (lay_records a b v record_columns w))) (points_more point_columns x l h)
      ∙ ap (λ (w : List ℕ). lay_counts a b v (lay_sides a.records b.records v w)) (records_more record_columns x₁ l₁ k)
      ∙ ap (lay_counts a b v) (boxes_more a.records v x₂ l₂ m b.records k)
      ∙ ap (λ (w : List ℕ). put (ct RECORDS) w 0 (a.records + b.records)) (put_more (ct POINTS) x₃ m 0 (a.points + b.points) l₃ (omega arith))
      ∙ put_more (ct RECORDS) (put (ct POINTS) x₃ 0 (a.points + b.points)) m 0 (a.records + b.records) (omega (arith, length_put (ct POINTS) x₃ 0 (a.points + b.points))) (omega arith)

module _ (w v : List ℕ) (l : BLOCK ≤ length w) (h : BothFit (view w) (view v)) where
  abbrev on_block : List ℕ
  on_block = lay_all (used_in (view w)) (used_in (view v)) v (block_of w)

  parts : pooled_words w v ≡ on_block ++ drop BLOCK w
  parts =
      ap (lay_all (used_in (view w)) (used_in (view v)) v) (sym (take-append-drop BLOCK w))
      ∙ all_more (used_in (view w)) (used_in (view v)) v (drop BLOCK w) (block_of w) (omega (arith, length-take-le BLOCK w l)) h.fit_points h.fit_records

  block_size : length on_block ≡ BLOCK
  block_size = length_all (used_in (view w)) (used_in (view v)) v (block_of w) ∙ length-take-le BLOCK w l

  pub pooled_live : block_of (pooled_words w v) ≡ lay_all (used_in (view w)) (used_in (view v)) v (block_of w)
  pooled_live = ap (take BLOCK) parts ∙ take_at on_block (drop BLOCK w) BLOCK block_size

  -- "the first's kept states remain, the second's aren't brought"
  pub pooled_behind : drop BLOCK (pooled_words w v) ≡ drop BLOCK w
  pooled_behind = ap (drop BLOCK) parts ∙ drop_at on_block (drop BLOCK w) BLOCK block_size

-- ---- of the second only the store and the boxes are read

lay_same : (f : Field) (g : ℕ → ℕ) (m n : ℕ) (v v' w : List ℕ) → view v ≡ view v' → lay_column f g m n v w ≡ lay_column f g m n v' w
unfolding lay_column
lay_same f g m zero v v' w e = refl
lay_same f g m (suc n) v v' w e =
    ap (λ (u : List ℕ). put f u (m + n) (g (cell f v n))) (lay_same f g m n v v' w e)
    ∙ ap (λ (s : Store). put f (lay_column f g m n v' w) (m + n) (g (s f n))) e

module _ (a b : Used) (v v' : List ℕ) (e : view v ≡ view v') where
  points_same : (fs : List PointCol) (w : List ℕ) → lay_points a b v fs w ≡ lay_points a b v' fs w
  points_same [] w = refl
  points_same (f ∷ fs) w = ap (lay_points a b v fs) (lay_same (pt f) (raise_as (point_kind f) a b) a.points b.points v v' w e) ∙ points_same fs (lay_column (pt f) (raise_as (point_kind f) a b) a.points b.points v' w)

  records_same : (fs : List RecordCol) (w : List ℕ) → lay_records a b v fs w ≡ lay_records a b v' fs w
  records_same [] w = refl
  records_same (f ∷ fs) w = ap (lay_records a b v fs) (lay_same (rc f) (raise_as (record_kind f) a b) a.records b.records v v' w e) ∙ records_same fs (lay_column (rc f) (raise_as (record_kind f) a b) a.records b.records v' w)

  pub all_same : ((j : ℕ) → j < b.records → sides_at v j ≡ sides_at v' j) → (w : List ℕ) → lay_all a b v w ≡ lay_all a b v' w
  unfolding lay_all
  all_same f w =
      let w₁ : List ℕ = lay_points a b v' point_columns w in
      ap (λ (u : List ℕ). lay_counts a b v (lay_sides a.records b.records v (lay_records a b v record_columns u))) (points_same point_columns w)
      ∙ ap (λ (u : List ℕ). lay_counts a b v (lay_sides a.records b.records v u)) (records_same record_columns w₁)
      ∙ ap (lay_counts a b v) (boxes_same a.records b.records v v' (lay_records a b v' record_columns w₁) f)
