-- The second's boxes after the first's: no column is touched, and each record has its own four words.
use Prim.Native.Nat.{ℕ, zero, suc, ◌+◌, ◌≤◌, ◌<◌, ◌^◌}
use mathlib.Core.Path.{◌≡◌, refl, ap, ◌∙◌}
use mathlib.Core.List.{List, ◌++◌}
use native.Mathlib.Numerals.{add-one}
use native.Mathlib.Omega.{arith}
use native.Mathlib.Decide.{ℕ_discrete}
use lib.ListN.{length, get_or}
use Rattle.job.specs.Limits as limit
use Rattle.store.specs.declared.boxed.Sides.{Sides}
use Rattle.store.specs.Field.{BLOCK}
use Rattle.store.specs.Words.{view}
use Rattle.store.specs.Boxes.{side_at, sides_at, set_sides}
use Rattle.store.specs.Needs.{Small}
use Rattle.store.proofs.Boxing.{view_sides, length_sides, sides_same, sides_else, sides_more}
use Rattle.pooling.specs.Words.{lay_sides}

module _ (m : ℕ) (v w : List ℕ) where
  pub view_boxes : (n : ℕ) → view (lay_sides m n v w) ≡ view w
  unfolding lay_sides
  view_boxes zero = refl
  view_boxes (suc n) = view_sides (lay_sides m n v w) (m + n) (sides_at v n) ∙ view_boxes n

  pub length_boxes : (n : ℕ) → length (lay_sides m n v w) ≡ length w
  unfolding lay_sides
  length_boxes zero = refl
  length_boxes (suc n) = length_sides (lay_sides m n v w) (m + n) (sides_at v n) ∙ length_boxes n

  -- the first's records keep theirs
  pub boxes_before : (n j : ℕ) → m + n ≤ limit.RECORDS → j < m → sides_at (lay_sides m n v w) j ≡ sides_at w j
  unfolding lay_sides
  boxes_before zero j h l = refl
  boxes_before (suc n) j h l = sides_else (lay_sides m n v w) (m + n) (sides_at v n) (omega arith) j (omega arith) (λ z. omega arith) ∙ boxes_before n j (omega arith) l

  module _ (long : BLOCK ≤ length w) where
    -- the second's have theirs, under their numbers raised
    pub boxes_after : (n j : ℕ) → m + n ≤ limit.RECORDS → j < n → sides_at (lay_sides m n v w) (m + j) ≡ sides_at v j
    unfolding lay_sides
    boxes_after zero j h l = absurd (omega arith)
    boxes_after (suc n) j h l = go (ℕ_discrete j n) (λ k. boxes_after n j (omega arith) k)
      where
        go : Dec (j ≡ n) → (j < n → sides_at (lay_sides m n v w) (m + j) ≡ sides_at v j) → sides_at (set_sides (lay_sides m n v w) (m + n) (sides_at v n)) (m + j) ≡ sides_at v j
        go (yes e) r = rw e (sides_same (lay_sides m n v w) (m + n) (sides_at v n) (omega arith) (omega (arith, length_boxes n)))
        go (no d) r = sides_else (lay_sides m n v w) (m + n) (sides_at v n) (omega arith) (m + j) (omega arith) (λ z. d (omega arith)) ∙ r (omega arith)

    -- words past the block
    pub boxes_more : (r : List ℕ) (n : ℕ) → m + n ≤ limit.RECORDS → lay_sides m n v (w ++ r) ≡ lay_sides m n v w ++ r
    unfolding lay_sides
    boxes_more r zero h = refl
    boxes_more r (suc n) h =
        ap (λ (u : List ℕ). set_sides u (m + n) (sides_at v n)) (boxes_more r n (omega arith))
        ∙ sides_more (lay_sides m n v w) (m + n) (sides_at v n) (omega arith) (omega (arith, length_boxes n)) r

-- of the second only those boxes are read
pub boxes_same : (m n : ℕ) (v v' w : List ℕ) → ((j : ℕ) → j < n → sides_at v j ≡ sides_at v' j) → lay_sides m n v w ≡ lay_sides m n v' w
unfolding lay_sides
boxes_same m zero v v' w e = refl
boxes_same m (suc n) v v' w e =
    ap (λ (u : List ℕ). set_sides u (m + n) (sides_at v n)) (boxes_same m n v v' w (λ j l. e j (omega arith)))
    ∙ ap (set_sides (lay_sides m n v' w) (m + n)) (e n (omega arith))

-- ---- for the code

pub boxes_none : (m : ℕ) (v w : List ℕ) → w ≡ lay_sides m 0 v w
unfolding lay_sides
boxes_none m v w = refl

-- words that are read fit words
pub boxes_small : (v : List ℕ) (i : ℕ) (b : Sides) → ((k : ℕ) → get_or v k 0 < 2 ^ 32) → b ≡ sides_at v i → Small b
boxes_small v i b f e = rw e (record { left = f (side_at 0 i); top = f (side_at 1 i); right = f (side_at 2 i); bottom = f (side_at 3 i) })

pub boxes_next : (m i : ℕ) (b : Sides) (v w w₁ w₂ : List ℕ) → w₁ ≡ lay_sides m i v w → b ≡ sides_at v i → w₂ ≡ set_sides w₁ (m + i) b → w₂ ≡ lay_sides m (i + 1) v w
unfolding lay_sides
boxes_next m i b v w w₁ w₂ e f g = rw add-one (g ∙ ap (λ (u : List ℕ). set_sides u (m + i) b) e ∙ ap (set_sides (lay_sides m i v w) (m + i)) f)

pub boxes_done : (m n i : ℕ) (v w w₁ : List ℕ) → n ≤ i → i ≤ n → w₁ ≡ lay_sides m i v w → w₁ ≡ lay_sides m n v w
boxes_done m n i v w w₁ h k e = let d : i ≡ n = omega arith in e ∙ ap (λ (j : ℕ). lay_sides m j v w) d
