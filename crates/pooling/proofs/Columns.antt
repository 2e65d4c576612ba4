-- The loops of the columns, one turn at a time, and the columns one after another.
use Prim.Native.Nat.{ℕ, ◌+◌, ◌≤◌, ◌<◌}
use mathlib.Core.Path.{◌≡◌, refl, ap, ◌∙◌, sym}
use mathlib.Core.List.{List}
use native.Mathlib.Numerals.{add-one}
use native.Mathlib.Omega.{arith}
use Rattle.store.specs.Field.{Field, pt, rc, ct, X, Y, NEXT, PREV, REC, Z, FLAGS, OWNER, FIRST, MARK, PRESENT, START, CUT, REASON, TAKER, POINTS, RECORDS}
use Rattle.store.specs.Words.{cell, put}
use Rattle.pooling.specs.declared.Used.{Used}
use Rattle.pooling.specs.Pooled.{raise}
use Rattle.pooling.specs.Words.{lay_column, lay_sides, point_columns, given_columns, progress_columns, reason_columns, record_columns, lay_points, lay_records, lay_all}
use Rattle.pooling.proofs.Raising.{raise_low, raise_high}

-- ---- numbers

pub is_raised : (m n v : ℕ) → v < n → m + v ≡ raise m n v
is_raised m n v h = sym (raise_low m n v h)

pub not_raised : (m n v : ℕ) → n ≤ v → v ≡ raise m n v
not_raised m n v h = sym (raise_high m n v h)

-- ---- a column

pub lay_none : (f : Field) (g : ℕ → ℕ) (m : ℕ) (v w : List ℕ) → w ≡ lay_column f g m 0 v w
unfolding lay_column
lay_none f g m v w = refl

pub lay_next : (f : Field) (by of m i x y : ℕ) (v w w₁ w₂ : List ℕ) → w₁ ≡ lay_column f (raise by of) m i v w → x ≡ cell f v i → y ≡ raise by of x → w₂ ≡ put f w₁ (m + i) y
    → w₂ ≡ lay_column f (raise by of) m (i + 1) v w
unfolding lay_column
lay_next f by of m i x y v w w₁ w₂ e h k d = rw add-one (d ∙ ap (λ (z : List ℕ). put f z (m + i) y) e ∙ ap (put f (lay_column f (raise by of) m i v w) (m + i)) (k ∙ ap (raise by of) h))

pub lay_done : (f : Field) (g : ℕ → ℕ) (m n i : ℕ) (v w w₁ : List ℕ) → n ≤ i → i ≤ n → w₁ ≡ lay_column f g m i v w → w₁ ≡ lay_column f g m n v w
lay_done f g m n i v w w₁ h k e = let d : i ≡ n = omega arith in e ∙ ap (λ (j : ℕ). lay_column f g m j v w) d

-- ---- columns one after another

module _ (a b : Used) (v w w₁ w₂ w₃ : List ℕ) where
  pub given_laid : w₁ ≡ lay_column (rc FLAGS) (raise 0 0) a.records b.records v w
      → w₂ ≡ lay_column (rc OWNER) (raise a.records b.records) a.records b.records v w₁
      → w₃ ≡ lay_column (rc FIRST) (raise a.points b.points) a.records b.records v w₂
      → w₃ ≡ lay_records a b v given_columns w
  given_laid e f g = rw (g, f, e)

  pub progress_laid : (w₄ : List ℕ)
      → w₁ ≡ lay_column (rc MARK) (raise 0 0) a.records b.records v w
      → w₂ ≡ lay_column (rc PRESENT) (raise a.points b.points) a.records b.records v w₁
      → w₃ ≡ lay_column (rc START) (raise a.points b.points) a.records b.records v w₂
      → w₄ ≡ lay_column (rc CUT) (raise a.records b.records) a.records b.records v w₃
      → w₄ ≡ lay_records a b v progress_columns w
  progress_laid w₄ e f g h = rw (h, g, f, e)

  pub reasons_laid : w₁ ≡ lay_column (rc REASON) (raise 0 0) a.records b.records v w
      → w₂ ≡ lay_column (rc TAKER) (raise a.records b.records) a.records b.records v w₁
      → w₂ ≡ lay_records a b v reason_columns w
  reasons_laid e f = rw (f, e)

  pub points_laid : (w₄ w₅ w₆ : List ℕ)
      → w₁ ≡ lay_column (pt X) (raise 0 0) a.points b.points v w
      → w₂ ≡ lay_column (pt Y) (raise 0 0) a.points b.points v w₁
      → w₃ ≡ lay_column (pt NEXT) (raise a.points b.points) a.points b.points v w₂
      → w₄ ≡ lay_column (pt PREV) (raise a.points b.points) a.points b.points v w₃
      → w₅ ≡ lay_column (pt REC) (raise a.records b.records) a.points b.points v w₄
      → w₆ ≡ lay_column (pt Z) (raise 0 0) a.points b.points v w₅
      → w₆ ≡ lay_points a b v point_columns w
  points_laid w₄ w₅ w₆ e f g h k l = rw (l, k, h, g, f, e)

  pub columns_laid : (w₄ : List ℕ)
      → w₁ ≡ lay_points a b v point_columns w
      → w₂ ≡ lay_records a b v given_columns w₁
      → w₃ ≡ lay_records a b v progress_columns w₂
      → w₄ ≡ lay_records a b v reason_columns w₃
      → w₄ ≡ lay_records a b v record_columns (lay_points a b v point_columns w)
  columns_laid w₄ e f g l = rw (l, g, f, e)

  pub all_laid : (w₄ : List ℕ) (p r : ℕ)
      → w₁ ≡ lay_records a b v record_columns (lay_points a b v point_columns w)
      → w₂ ≡ lay_sides a.records b.records v w₁
      → p ≡ a.points + b.points
      → r ≡ a.records + b.records
      → w₃ ≡ put (ct POINTS) w₂ 0 p
      → w₄ ≡ put (ct RECORDS) w₃ 0 r
      → w₄ ≡ lay_all a b v w
  unfolding lay_all
  all_laid w₄ p r e f i j h k = rw (k, h, j, i, f, e)
