-- The work space as opening clears it: as long as it was, the store of zeros in it, no name, and the words behind as found.
use Prim.Native.Nat.{ℕ, ◌+◌, ◌-◌, ◌≤◌, ◌<◌}
use mathlib.Core.Path.{◌≡◌, refl, ap, ◌∙◌, sym, fun_ext}
use mathlib.Core.Bool.{Bool, true, false, cond}
use mathlib.Core.List.{List, ◌++◌, append_assoc}
use native.Mathlib.Omega.{arith}
use lib.Dec.{ltb}
use lib.ListN.{length, get_or, take, drop, replicate, length-append, length-drop, length-replicate, replicate-append-replicate, get_or-append}
use lib.Seq.{length-take-le, take-append-add, drop_at}
use borrow.Author.Tests.{ltb-true, ltb-false}
use Rattle.store.specs.Field.{Field, size, base, BOXES, BLOCK, STATES, NAMES, KEPT, LENGTH}
use Rattle.store.specs.Words.{cell, view}
use Rattle.store.proofs.Storing.{ends}
use Rattle.opening.specs.Open.{cleared}
use Rattle.opening.proofs.Blanking.{behind}

-- ---- for the code of `clear_live`

module _ (w v u : List ℕ) (e : v ≡ replicate BOXES 0 ++ drop BOXES w) where
  long_front : length (replicate {A = ℕ} BOXES 0) ≡ BOXES
  long_front = length-replicate {A = ℕ} BOXES 0

  boxes_found : take NAMES v ≡ replicate BOXES 0 ++ take (BLOCK - BOXES) (drop BOXES w)
  boxes_found =
      ap (take NAMES) e ∙ ap (λ (n : ℕ). take (n + (BLOCK - BOXES)) (replicate BOXES 0 ++ drop BOXES w)) (sym long_front)
      ∙ take-append-add (replicate BOXES 0) (drop BOXES w) (BLOCK - BOXES)

  pub live_cleared : u ≡ take NAMES v ++ (replicate (KEPT - NAMES) 0 ++ drop KEPT v) → u ≡ cleared w
  live_cleared f =
      f ∙ ap (λ (l : List ℕ). l ++ (replicate STATES 0 ++ drop KEPT v)) boxes_found
      ∙ ap (λ (l : List ℕ). (replicate BOXES 0 ++ take (BLOCK - BOXES) (drop BOXES w)) ++ (replicate STATES 0 ++ l)) (behind BOXES v w e (KEPT - BOXES))
      ∙ append_assoc (replicate BOXES 0) (take (BLOCK - BOXES) (drop BOXES w)) (replicate STATES 0 ++ drop KEPT w)

-- ---- what it is

module _ (w : List ℕ) (h : KEPT ≤ length w) where
  long_live : length (replicate BOXES 0 ++ take (BLOCK - BOXES) (drop BOXES w)) ≡ BLOCK
  long_live =
      let l : length (drop BOXES w) ≡ length w - BOXES = length-drop BOXES w in
      omega (arith, length-append (replicate BOXES 0) (take (BLOCK - BOXES) (drop BOXES w)), length-replicate {A = ℕ} BOXES 0, length-take-le (BLOCK - BOXES) (drop BOXES w) (omega (arith, l)))

  in_two : cleared w ≡ (replicate BOXES 0 ++ take (BLOCK - BOXES) (drop BOXES w)) ++ (replicate STATES 0 ++ drop KEPT w)
  in_two = sym (append_assoc (replicate BOXES 0) (take (BLOCK - BOXES) (drop BOXES w)) (replicate STATES 0 ++ drop KEPT w))

  pub cleared_rest : drop BLOCK (cleared w) ≡ replicate STATES 0 ++ drop KEPT w
  cleared_rest = ap (drop BLOCK) in_two ∙ drop_at (replicate BOXES 0 ++ take (BLOCK - BOXES) (drop BOXES w)) (replicate STATES 0 ++ drop KEPT w) BLOCK long_live

  pub cleared_long : length (cleared w) ≡ length w
  cleared_long =
      ap length in_two
      ∙ omega (arith, long_live, length-append (replicate BOXES 0 ++ take (BLOCK - BOXES) (drop BOXES w)) (replicate STATES 0 ++ drop KEPT w), length-append (replicate {A = ℕ} STATES 0) (drop KEPT w), length-replicate {A = ℕ} STATES 0, length-drop KEPT w)

pub cleared_live : (w : List ℕ) → ltb (length w) LENGTH ≡ false → BLOCK ≤ length (cleared w)
cleared_live w e = let h = ltb-false (length w) LENGTH e in omega (arith, h, cleared_long w (omega (arith, h)))

-- every column is before the boxes
zeros_view : (x y : List ℕ) → view (replicate BOXES 0 ++ x) ≡ view (replicate BOXES 0 ++ y)
unfolding cell
zeros_view x y = fun_ext (λ f. fun_ext (λ j. each f j))
  where
    each : (f : Field) (j : ℕ) → cell f (replicate BOXES 0 ++ x) j ≡ cell f (replicate BOXES 0 ++ y) j
    each f j = go (ltb j (size f)) refl
      where
        go : (b : Bool) → ltb j (size f) ≡ b → cond b (get_or (replicate BOXES 0 ++ x) (base f + j) 0) 0 ≡ cond b (get_or (replicate BOXES 0 ++ y) (base f + j) 0) 0
        go true e =
            let h : base f + j < length (replicate {A = ℕ} BOXES 0) = omega (arith, ends f j (ltb-true j (size f) e), length-replicate {A = ℕ} BOXES 0) in
            get_or-append (replicate BOXES 0) x 0 (base f + j) h ∙ sym (get_or-append (replicate BOXES 0) y 0 (base f + j) h)
        go false e = refl

pub view_cleared : (w : List ℕ) → view (cleared w) ≡ view (replicate BLOCK 0)
view_cleared w =
    zeros_view (take (BLOCK - BOXES) (drop BOXES w) ++ (replicate STATES 0 ++ drop KEPT w)) (replicate (BLOCK - BOXES) 0)
    ∙ ap view (replicate-append-replicate {A = ℕ} BOXES (BLOCK - BOXES) 0)
