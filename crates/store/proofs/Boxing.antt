-- Laws of the boxes' words: no column reads them, and what one box's writes leave. And what four words stand for, and back.
use Prim.Native.Nat.{ℕ, ◌+◌, ◌≤◌, ◌<◌}
use mathlib.Core.Path.{◌≡◌, refl, ap, ◌∙◌, sym, fun_ext}
use mathlib.Core.Logic.{◌≢◌}
use mathlib.Core.Bool.{Bool, true, false, cond}
use mathlib.Core.List.{List, [], ◌∷◌, ◌++◌}
use mathlib.Core.Option.{some}
use native.Mathlib.Omega.{arith}
use lib.Dec.{ltb}
use lib.IntN.{pos, nat_abs, neg_ℤ, +ℤ_assoc, +ℤ_idr}
use lib.ListN.{length, get_or, set, drop, length-set}
use lib.Seq.{get_or-set_same, get_or-set_other, set_comm, set-get_or, set-append_left, drop-set-lt}
use borrow.Author.Tests.{ltb-true}
use Rattle.numbers.specs.Raised.{coordinate}
use Rattle.job.specs.Limits as limit
use Rattle.geometry.specs.declared.Rect.{Rect}
use Rattle.store.specs.declared.boxed.Sides.{Sides}
use Rattle.store.specs.Field.{Field, size, base, BOXES, BLOCK}
use Rattle.store.specs.Words.{cell, put, view, Write, on_words}
use Rattle.store.specs.Stores.{Within}
use Rattle.store.specs.Value.{word_of}
use Rattle.store.specs.Boxes.{side_at, sides_at, set_sides, rect_of, sides_of}
use Rattle.store.proofs.Storing.{ends}

-- ---- no column reads a box

far_cell : (w : List ℕ) (k v : ℕ) → BOXES ≤ k → (f : Field) (j : ℕ) → cell f (set w k v) j ≡ cell f w j
unfolding cell
far_cell w k v h f j = go (ltb j (size f)) refl
  where
    go : (b : Bool) → ltb j (size f) ≡ b → cond b (get_or (set w k v) (base f + j) 0) 0 ≡ cond b (get_or w (base f + j) 0) 0
    go true e = get_or-set_other w k (base f + j) v 0 (λ z. omega (arith, ends f j (ltb-true j (size f) e)))
    go false e = refl

far_view : (w : List ℕ) (k v : ℕ) → BOXES ≤ k → view (set w k v) ≡ view w
far_view w k v h = fun_ext (λ f. fun_ext (λ j. far_cell w k v h f j))

module _ (w : List ℕ) (i : ℕ) (b : Sides) where
  abbrev w₁ : List ℕ
  w₁ = set w (side_at 0 i) b.left

  abbrev w₂ : List ℕ
  w₂ = set w₁ (side_at 1 i) b.top

  abbrev w₃ : List ℕ
  w₃ = set w₂ (side_at 2 i) b.right

  -- THE LAW: the store that the words hold has no box in it
  pub view_sides : view (set_sides w i b) ≡ view w
  unfolding set_sides
  view_sides =
      far_view w₃ (side_at 3 i) b.bottom (omega arith) ∙ far_view w₂ (side_at 2 i) b.right (omega arith)
      ∙ far_view w₁ (side_at 1 i) b.top (omega arith) ∙ far_view w (side_at 0 i) b.left (omega arith)

  pub length_sides : length (set_sides w i b) ≡ length w
  unfolding set_sides
  length_sides = length-set w₃ (side_at 3 i) b.bottom ∙ length-set w₂ (side_at 2 i) b.right ∙ length-set w₁ (side_at 1 i) b.top ∙ length-set w (side_at 0 i) b.left

  pub behind_sides : i < limit.RECORDS → drop BLOCK (set_sides w i b) ≡ drop BLOCK w
  unfolding set_sides
  behind_sides h =
      drop-set-lt BLOCK w₃ (side_at 3 i) b.bottom (omega arith) ∙ drop-set-lt BLOCK w₂ (side_at 2 i) b.right (omega arith)
      ∙ drop-set-lt BLOCK w₁ (side_at 1 i) b.top (omega arith) ∙ drop-set-lt BLOCK w (side_at 0 i) b.left (omega arith)

  -- a word that is none of the four
  pub word_else : (j : ℕ) → j ≢ side_at 0 i → j ≢ side_at 1 i → j ≢ side_at 2 i → j ≢ side_at 3 i → get_or (set_sides w i b) j 0 ≡ get_or w j 0
  unfolding set_sides
  word_else j a c d e =
      get_or-set_other w₃ (side_at 3 i) j b.bottom 0 e ∙ get_or-set_other w₂ (side_at 2 i) j b.right 0 d
      ∙ get_or-set_other w₁ (side_at 1 i) j b.top 0 c ∙ get_or-set_other w (side_at 0 i) j b.left 0 a

  module _ (h : i < limit.RECORDS) where
    -- another record's box stays
    pub sides_else : (j : ℕ) → j < limit.RECORDS → j ≢ i → sides_at (set_sides w i b) j ≡ sides_at w j
    sides_else j l d =
        rw (
          word_else (side_at 0 j) (λ z. d (omega arith)) (λ z. omega arith) (λ z. omega arith) (λ z. omega arith),
          word_else (side_at 1 j) (λ z. omega arith) (λ z. d (omega arith)) (λ z. omega arith) (λ z. omega arith),
          word_else (side_at 2 j) (λ z. omega arith) (λ z. omega arith) (λ z. d (omega arith)) (λ z. omega arith),
          word_else (side_at 3 j) (λ z. omega arith) (λ z. omega arith) (λ z. omega arith) (λ z. d (omega arith)),
        )

    module _ (long : BLOCK ≤ length w) where
      left_is : get_or (set_sides w i b) (side_at 0 i) 0 ≡ b.left
      unfolding set_sides
      left_is =
          get_or-set_other w₃ (side_at 3 i) (side_at 0 i) b.bottom 0 (λ z. omega arith) ∙ get_or-set_other w₂ (side_at 2 i) (side_at 0 i) b.right 0 (λ z. omega arith)
          ∙ get_or-set_other w₁ (side_at 1 i) (side_at 0 i) b.top 0 (λ z. omega arith) ∙ get_or-set_same w (side_at 0 i) b.left 0 (omega arith)

      top_is : get_or (set_sides w i b) (side_at 1 i) 0 ≡ b.top
      unfolding set_sides
      top_is =
          get_or-set_other w₃ (side_at 3 i) (side_at 1 i) b.bottom 0 (λ z. omega arith) ∙ get_or-set_other w₂ (side_at 2 i) (side_at 1 i) b.right 0 (λ z. omega arith)
          ∙ get_or-set_same w₁ (side_at 1 i) b.top 0 (omega (arith, length-set w (side_at 0 i) b.left))

      right_is : get_or (set_sides w i b) (side_at 2 i) 0 ≡ b.right
      unfolding set_sides
      right_is =
          get_or-set_other w₃ (side_at 3 i) (side_at 2 i) b.bottom 0 (λ z. omega arith)
          ∙ get_or-set_same w₂ (side_at 2 i) b.right 0 (omega (arith, length-set w₁ (side_at 1 i) b.top, length-set w (side_at 0 i) b.left))

      bottom_is : get_or (set_sides w i b) (side_at 3 i) 0 ≡ b.bottom
      unfolding set_sides
      bottom_is = get_or-set_same w₃ (side_at 3 i) b.bottom 0 (omega (arith, length-set w₂ (side_at 2 i) b.right, length-set w₁ (side_at 1 i) b.top, length-set w (side_at 0 i) b.left))

      -- the box that is written is read
      pub sides_same : sides_at (set_sides w i b) i ≡ b
      sides_same = rw (left_is, top_is, right_is, bottom_is)

      -- words past the block
      pub sides_more : (m : List ℕ) → set_sides (w ++ m) i b ≡ set_sides w i b ++ m
      unfolding set_sides
      sides_more m =
          ap (λ (u : List ℕ). set (set (set u (side_at 1 i) b.top) (side_at 2 i) b.right) (side_at 3 i) b.bottom) (set-append_left w m (side_at 0 i) b.left (omega arith))
          ∙ ap (λ (u : List ℕ). set (set u (side_at 2 i) b.right) (side_at 3 i) b.bottom) (set-append_left w₁ m (side_at 1 i) b.top (omega (arith, length-set w (side_at 0 i) b.left)))
          ∙ ap (λ (u : List ℕ). set u (side_at 3 i) b.bottom) (set-append_left w₂ m (side_at 2 i) b.right (omega (arith, length-set w₁ (side_at 1 i) b.top, length-set w (side_at 0 i) b.left)))
          ∙ set-append_left w₃ m (side_at 3 i) b.bottom (omega (arith, length-set w₂ (side_at 2 i) b.right, length-set w₁ (side_at 1 i) b.top, length-set w (side_at 0 i) b.left))

-- a box that is written again as it is
pub sides_again : (w : List ℕ) (i : ℕ) → i < limit.RECORDS → set_sides w i (sides_at w i) ≡ w
unfolding set_sides
sides_again w i h =
    ap (λ (u : List ℕ). set (set (set u (side_at 1 i) (get_or w (side_at 1 i) 0)) (side_at 2 i) (get_or w (side_at 2 i) 0)) (side_at 3 i) (get_or w (side_at 3 i) 0)) (set-get_or w (side_at 0 i) 0)
    ∙ ap (λ (u : List ℕ). set (set u (side_at 2 i) (get_or w (side_at 2 i) 0)) (side_at 3 i) (get_or w (side_at 3 i) 0)) (set-get_or w (side_at 1 i) 0)
    ∙ ap (λ (u : List ℕ). set u (side_at 3 i) (get_or w (side_at 3 i) 0)) (set-get_or w (side_at 2 i) 0)
    ∙ set-get_or w (side_at 3 i) 0

-- ---- writes to columns and to boxes

module _ (f : Field) (k v : ℕ) (h : k < size f) (w : List ℕ) where
  pub put_sides : (i : ℕ) (b : Sides) → put f (set_sides w i b) k v ≡ set_sides (put f w k v) i b
  unfolding set_sides put
  put_sides i b =
      let l = ends f k h in
      set_comm (w₃ w i b) (side_at 3 i) (base f + k) b.bottom v (λ z. omega arith)
      ∙ ap (λ (u : List ℕ). set u (side_at 3 i) b.bottom)
      (set_comm (w₂ w i b) (side_at 2 i) (base f + k) b.right v (λ z. omega arith)
      ∙ ap (λ (u : List ℕ). set u (side_at 2 i) b.right)
      (set_comm (w₁ w i b) (side_at 1 i) (base f + k) b.top v (λ z. omega arith)
      ∙ ap (λ (u : List ℕ). set u (side_at 1 i) b.top) (set_comm w (side_at 0 i) (base f + k) b.left v (λ z. omega arith))))

  pub sides_put : (j : ℕ) → sides_at (put f w k v) j ≡ sides_at w j
  unfolding put
  sides_put j =
      let l = ends f k h in
      rw (
        get_or-set_other w (base f + k) (side_at 0 j) v 0 (λ z. omega arith),
        get_or-set_other w (base f + k) (side_at 1 j) v 0 (λ z. omega arith),
        get_or-set_other w (base f + k) (side_at 2 j) v 0 (λ z. omega arith),
        get_or-set_other w (base f + k) (side_at 3 j) v 0 (λ z. omega arith),
      )

pub writes_sides : (xs : List Write) → Within xs → (w : List ℕ) (i : ℕ) (b : Sides) → on_words (set_sides w i b) xs ≡ set_sides (on_words w xs) i b
writes_sides [] h w i b = refl
writes_sides (x ∷ xs) h w i b =
    ap (λ (u : List ℕ). on_words u xs) (put_sides x.to x.at x.is h.0 w i b) ∙ writes_sides xs h.1 (put x.to w x.at x.is) i b

pub sides_writes : (xs : List Write) → Within xs → (w : List ℕ) (j : ℕ) → sides_at (on_words w xs) j ≡ sides_at w j
sides_writes [] h w j = refl
sides_writes (x ∷ xs) h w j = sides_writes xs h.1 (put x.to w x.at x.is) j ∙ sides_put x.to x.at x.is h.0 w j

-- ---- as the code reads and writes them

pub sides_read : (w : List ℕ) (i l t r m : ℕ) → l ≡ get_or w (side_at 0 i) 0 → t ≡ get_or w (side_at 1 i) 0 → r ≡ get_or w (side_at 2 i) 0 → m ≡ get_or w (side_at 3 i) 0
    → record { left = l; top = t; right = r; bottom = m } ≡ sides_at w i
sides_read w i l t r m el et er em = rw (el, et, er, em)

pub sides_set : (w u₁ u₂ u₃ u₄ : List ℕ) (i : ℕ) (b : Sides) → u₁ ≡ set w (side_at 0 i) b.left → u₂ ≡ set u₁ (side_at 1 i) b.top → u₃ ≡ set u₂ (side_at 2 i) b.right
    → u₄ ≡ set u₃ (side_at 3 i) b.bottom → u₄ ≡ set_sides w i b
unfolding set_sides
sides_set w u₁ u₂ u₃ u₄ i b e f g h = rw (h, g, f, e)

-- ---- what they stand for

pub word_back : (v : ℕ) → word_of (coordinate limit.COORDINATE v) ≡ v
unfolding word_of
word_back v = ap nat_abs (+ℤ_assoc (pos v) (neg_ℤ (pos limit.COORDINATE)) (pos limit.COORDINATE) ∙ +ℤ_idr (pos v))

pub sides_back : (b : Sides) → sides_of (some (rect_of b)) ≡ b
sides_back b = rw (word_back b.left, word_back b.top, word_back b.right, word_back b.bottom)

pub rect_one : (a b : Sides) → rect_of a ≡ rect_of b → a ≡ b
rect_one a b e = sym (sides_back a) ∙ ap (λ (r : Rect). sides_of (some r)) e ∙ sides_back b
