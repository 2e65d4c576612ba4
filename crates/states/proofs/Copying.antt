-- A block copied within the words: what it leaves.
use Prim.Native.Nat.{ℕ, suc, ◌+◌, ◌-◌, ◌≤◌, ◌<◌}
use mathlib.Core.Path.{◌≡◌, ap, ◌∙◌, subst}
use mathlib.Core.Logic.{◌⊎◌, inl, inr}
use mathlib.Core.List.{List, ◌++◌}
use native.Mathlib.Omega.{arith}
use lib.ListN.{length, get_or, set, take, drop, get_or-append}
use lib.Seq.{length-take-le, get_or-take, get_or-drop, get_or-append-add, paste, length_paste_head}
use Rattle.store.specs.Field.{BLOCK, STATES, NAMES, LENGTH}
use Rattle.store.specs.States.{copy_at}
use Rattle.states.specs.Calls.{stored, restored}
use Rattle.std.specs.List.{copy_within}

-- ---- a part replaced: the rest is as it was

pub outside : (d s : List ℕ) (at n j : ℕ) → at + n ≤ length d → n ≤ length s → (j < at) ⊎ (at + n ≤ j) → get_or (paste d at s n) j 0 ≡ get_or d j 0
outside d s at n j h k (inl l) =
    let a : length (take at d) ≡ at = length-take-le at d (omega arith) in
    get_or-append (take at d ++ take n s) (drop (at + n) d) 0 j (omega (arith, length_paste_head d at s n (omega arith) k))
    ∙ get_or-append (take at d) (take n s) 0 j (omega arith)
    ∙ get_or-take at d j 0 l
outside d s at n j h k (inr l) =
    let a : length (take at d ++ take n s) ≡ at + n = length_paste_head d at s n (omega arith) k in
    let e : length (take at d ++ take n s) + (j - (at + n)) ≡ j = omega arith in
    let f : at + n + (j - (at + n)) ≡ j = omega arith in
    subst (λ (i : ℕ). get_or (paste d at s n) i 0 ≡ get_or (drop (at + n) d) (j - (at + n)) 0) e (get_or-append-add (take at d ++ take n s) (drop (at + n) d) (j - (at + n)) 0)
    ∙ get_or-drop (at + n) d (j - (at + n)) 0
    ∙ ap (λ (i : ℕ). get_or d i 0) f

-- ---- a place's copy

module _ (w : List ℕ) (p at : ℕ) (long : LENGTH ≤ length w) (low : p < STATES) (e : at ≡ copy_at p) where
  pub stored_is : (n : ℕ) (v u : List ℕ) → v ≡ copy_within w 0 BLOCK at → u ≡ set v (NAMES + p) (n + 1) → u ≡ stored w p n
  stored_is n v u f g = let z : n + 1 ≡ suc n = omega arith in rw (g, f, e, z)

  pub restored_is : (v : List ℕ) → v ≡ copy_within w at (at + BLOCK) 0 → v ≡ restored w p
  restored_is v f = let z : at + BLOCK - at ≡ BLOCK = omega arith in rw (f, z, e)
