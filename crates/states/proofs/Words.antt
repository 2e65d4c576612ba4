-- What storing, restoring and freeing leave of the live block, of names and of copies.
use Prim.Native.Nat.{ℕ, ◌+◌, ◌-◌, ◌≤◌, ◌<◌}
use mathlib.Core.Path.{◌≡◌, ap, ◌∙◌, sym}
use mathlib.Core.Logic.{◌≢◌, ◌⊎◌, inl, inr}
use mathlib.Core.List.{List, ◌++◌, append_assoc}
use native.Mathlib.Omega.{arith}
use native.Mathlib.Decide.{dec_lt}
use lib.ListN.{length, get_or, take, drop, length-set, length-drop, length-append}
use lib.Seq.{length-take-le, take_at, drop_at, take-set-le, drop-set-lt, get_or-take, get_or-drop, get_or-set_same, get_or-set_other, drop-drop, ext_get_or, paste, length-paste}
use Rattle.store.specs.Field.{BLOCK, STATES, NAMES, LENGTH}
use Rattle.store.specs.States.{word_of_name, name_at, block_of, copy_at, kept_block}
use Rattle.states.specs.Calls.{stored, restored, freed}
use Rattle.states.proofs.Copying.{outside}

-- two lists of words that agree on a block
same_part : (x w : List ℕ) (c : ℕ) → length x ≡ length w → c + BLOCK ≤ length w → ((j : ℕ) → j < BLOCK → get_or x (c + j) 0 ≡ get_or w (c + j) 0) → take BLOCK (drop c x) ≡ take BLOCK (drop c w)
same_part x w c e h f =
    let a : length (take BLOCK (drop c x)) ≡ BLOCK = length-take-le BLOCK (drop c x) (omega (arith, length-drop c x)) in
    let b : length (take BLOCK (drop c w)) ≡ BLOCK = length-take-le BLOCK (drop c w) (omega (arith, length-drop c w)) in
    ext_get_or 0 (take BLOCK (drop c x)) (take BLOCK (drop c w)) (a ∙ sym b)
    (λ j l. get_or-take BLOCK (drop c x) j 0 (omega arith) ∙ get_or-drop c x j 0 ∙ f j (omega arith) ∙ sym (get_or-drop c w j 0) ∙ sym (get_or-take BLOCK (drop c w) j 0 (omega arith)))

module _ (w : List ℕ) (long : LENGTH ≤ length w) (p : ℕ) (low : p < STATES) where
  -- ---- stored

  abbrev copy : List ℕ
  copy = paste w (copy_at p) w BLOCK

  copy_length : length copy ≡ length w
  copy_length = length-paste w (copy_at p) w BLOCK (omega arith) (omega arith)

  beside : (j : ℕ) → (j < copy_at p) ⊎ (copy_at p + BLOCK ≤ j) → get_or copy j 0 ≡ get_or w j 0
  beside j h = outside w w (copy_at p) BLOCK j (omega arith) (omega arith) h

  module _ (n : ℕ) where
    pub stored_length : length (stored w p n) ≡ length w
    stored_length = length-set copy (NAMES + p) (word_of_name n) ∙ copy_length

    -- every word but the name's and the copy's is as it was
    stored_word : (j : ℕ) → j ≢ NAMES + p → (j < copy_at p) ⊎ (copy_at p + BLOCK ≤ j) → get_or (stored w p n) j 0 ≡ get_or w j 0
    stored_word j d h = get_or-set_other copy (NAMES + p) j (word_of_name n) 0 d ∙ beside j h

    pub stored_live : block_of (stored w p n) ≡ block_of w
    stored_live = same_part (stored w p n) w 0 stored_length (omega arith) (λ j l. stored_word (0 + j) (λ e. omega arith) (inl (omega arith)))

    pub stored_name : name_at (stored w p n) p ≡ word_of_name n
    stored_name = get_or-set_same copy (NAMES + p) (word_of_name n) 0 (omega (arith, copy_length))

    pub stored_other : (q : ℕ) → q < STATES → q ≢ p → name_at (stored w p n) q ≡ name_at w q
    stored_other q h d = stored_word (NAMES + q) (λ e. d (omega arith)) (inl (omega arith))

    pub stored_copy : kept_block (stored w p n) p ≡ block_of w
    stored_copy =
        ap (take BLOCK) (drop-set-lt (copy_at p) copy (NAMES + p) (word_of_name n) (omega arith))
        ∙ ap (λ (l : List ℕ). take BLOCK (drop (copy_at p) l)) (append_assoc (take (copy_at p) w) (take BLOCK w) (drop (copy_at p + BLOCK) w))
        ∙ ap (take BLOCK) (drop_at (take (copy_at p) w) (take BLOCK w ++ drop (copy_at p + BLOCK) w) (copy_at p) (length-take-le (copy_at p) w (omega arith)))
        ∙ take_at (take BLOCK w) (drop (copy_at p + BLOCK) w) BLOCK (length-take-le BLOCK w (omega arith))

    pub stored_others : (q : ℕ) → q < STATES → q ≢ p → kept_block (stored w p n) q ≡ kept_block w q
    stored_others q h d = same_part (stored w p n) w (copy_at q) stored_length (omega arith) (λ j l. stored_word (copy_at q + j) (λ e. omega arith) (side j l (dec_lt q p)))
      where
        side : (j : ℕ) → j < BLOCK → Dec (q < p) → (copy_at q + j < copy_at p) ⊎ (copy_at p + BLOCK ≤ copy_at q + j)
        side j l (yes a) = inl (omega arith)
        side j l (no a) = let b : p < q = omega (arith, d) in inr (omega arith)

  -- ---- restored

  kept_length : length (kept_block w p) ≡ BLOCK
  kept_length = length-take-le BLOCK (drop (copy_at p) w) (omega (arith, length-drop (copy_at p) w))

  pub restored_live : block_of (restored w p) ≡ kept_block w p
  restored_live = take_at (kept_block w p) (drop BLOCK w) BLOCK kept_length

  pub restored_behind : drop BLOCK (restored w p) ≡ drop BLOCK w
  restored_behind = drop_at (kept_block w p) (drop BLOCK w) BLOCK kept_length

  pub restored_length : length (restored w p) ≡ length w
  restored_length = let a = length-append (kept_block w p) (drop BLOCK w) in omega (arith, a, kept_length, length-drop BLOCK w)

  -- ---- freed

  pub freed_length : length (freed w p) ≡ length w
  freed_length = length-set w (NAMES + p) 0

  pub freed_live : block_of (freed w p) ≡ block_of w
  freed_live = take-set-le BLOCK w (NAMES + p) 0 (omega arith)

  pub freed_name : name_at (freed w p) p ≡ 0
  freed_name = get_or-set_same w (NAMES + p) 0 0 (omega arith)

  pub freed_other : (q : ℕ) → q ≢ p → name_at (freed w p) q ≡ name_at w q
  freed_other q d = get_or-set_other w (NAMES + p) (NAMES + q) 0 0 (λ e. d (omega arith))

  pub freed_copies : (q : ℕ) → kept_block (freed w p) q ≡ kept_block w q
  freed_copies q = ap (take BLOCK) (drop-set-lt (copy_at q) w (NAMES + p) 0 (omega arith))

-- words that agree behind the live block keep the same copies
pub behind_copies : (w v : List ℕ) → drop BLOCK v ≡ drop BLOCK w → (q : ℕ) → kept_block v q ≡ kept_block w q
behind_copies w v e q =
    let c : BLOCK + (copy_at q - BLOCK) ≡ copy_at q = omega arith in
    ap (take BLOCK) (ap (λ (k : ℕ). drop k v) (sym c) ∙ sym (drop-drop (copy_at q - BLOCK) BLOCK v) ∙ ap (drop (copy_at q - BLOCK)) e ∙ drop-drop (copy_at q - BLOCK) BLOCK w ∙ ap (λ (k : ℕ). drop k w) c)
