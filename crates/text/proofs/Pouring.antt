-- Text after text.
use Prim.Native.Nat.{ℕ, suc, ◌+◌, ◌≤◌, ◌<◌, min, max}
use mathlib.Core.Path.{◌≡◌, refl, sym, ap, ◌∙◌}
use mathlib.Core.List.{List, [], ◌∷◌, ◌++◌}
use native.Mathlib.Omega.{arith}
use native.Mathlib.Decide.{dec_lt}
use native.Mathlib.Nat.{add-zero}
use lib.ListN.{length, get_or, set, take, length-append}
use lib.Seq.{sets, length-sets, set_out, take-suc, take_all}
use Rattle.text.specs.Pour.{Poured, poured, pour}

sets_append : (t a b : List ℕ) (at : ℕ) → sets t at (a ++ b) ≡ sets (sets t at a) (at + length a) b
sets_append t [] b at = rw (add-zero at)
sets_append t (x ∷ a) b at =
    let e : suc at + length a ≡ at + suc (length a) = omega arith in
    sets_append (set t at x) a b (suc at) ∙ ap (λ (k : ℕ). sets (sets (set t at x) (suc at) a) k b) e

-- past the end nothing is stored
sets_out : (t a : List ℕ) (at : ℕ) → length t ≤ at → sets t at a ≡ t
sets_out t [] at h = refl
sets_out t (x ∷ a) at h = ap (λ (l : List ℕ). sets l (suc at) a) (set_out t at x h) ∙ sets_out t a (suc at) (omega arith)

pub pour_length : (a t u : List ℕ) (at r : ℕ) → poured r u ≡ pour a at t → length u ≡ length t
unfolding pour
pour_length a t u at r e = ap (λ (x : Poured). length x.out) e ∙ length-sets t at a

pub pour_none : (t : List ℕ) (at : ℕ) → poured at t ≡ pour [] at t
unfolding pour
pour_none t at =
    let e : at ≡ max at (min (at + 0) (suc (length t))) = omega arith in
    ap (λ (k : ℕ). poured k t) e

-- one after another
pub pour_more : (a b t u v : List ℕ) (at r q : ℕ) → poured r u ≡ pour a at t → poured q v ≡ pour b r u → poured q v ≡ pour (a ++ b) at t
unfolding pour
pour_more a b t u v at r q e f =
    let l : length u ≡ length t = pour_length a t u at r e in
    let er : r ≡ max at (min (at + length a) (suc (length t))) = ap (λ (x : Poured). x.at) e in
    let eu : u ≡ sets t at a = ap (λ (x : Poured). x.out) e in
    let eq : q ≡ max r (min (r + length b) (suc (length u))) = ap (λ (x : Poured). x.at) f in
    let ev : v ≡ sets u r b = ap (λ (x : Poured). x.out) f in
    let n : length (a ++ b) ≡ length a + length b = length-append a b in
    let z : q ≡ max at (min (at + length (a ++ b)) (suc (length t))) = omega arith in
    let y : v ≡ sets t at (a ++ b) = ev ∙ ap (λ (x : List ℕ). sets x r b) eu ∙ shift er ∙ sym (sets_append t a b at) in
    ap (λ (k : ℕ). poured k v) z ∙ ap (λ (x : List ℕ). poured (max at (min (at + length (a ++ b)) (suc (length t)))) x) y
  where
    shift : r ≡ max at (min (at + length a) (suc (length t))) → sets (sets t at a) r b ≡ sets (sets t at a) (at + length a) b
    shift er = go (dec_lt (length t) (at + length a))
      where
        go : Dec (length t < at + length a) → sets (sets t at a) r b ≡ sets (sets t at a) (at + length a) b
        go (yes h) =
            sets_out (sets t at a) b r (omega (arith, er, length-sets t at a))
            ∙ sym (sets_out (sets t at a) b (at + length a) (omega (arith, length-sets t at a)))
        go (no h) = ap (λ (k : ℕ). sets (sets t at a) k b) (let z : r ≡ at + length a = omega (arith, er) in z)

-- ---- one byte

pub put_in : (t : List ℕ) (at b : ℕ) → at < length t → poured (at + 1) (set t at b) ≡ pour (b ∷ []) at t
unfolding pour
put_in t at b h =
    let e : at + 1 ≡ max at (min (at + 1) (suc (length t))) = omega arith in
    ap (λ (k : ℕ). poured k (set t at b)) e

pub put_end : (t : List ℕ) (at b : ℕ) → length t ≤ at → at ≤ length t → poured (length t + 1) t ≡ pour (b ∷ []) at t
unfolding pour
put_end t at b h g =
    let e : length t + 1 ≡ max at (min (at + 1) (suc (length t))) = omega arith in
    ap (λ (k : ℕ). poured k t) e ∙ ap (λ (l : List ℕ). poured (max at (min (at + 1) (suc (length t)))) l) (sym (set_out t at b h))

pub put_past : (t : List ℕ) (at b : ℕ) → length t < at → poured at t ≡ pour (b ∷ []) at t
unfolding pour
put_past t at b h =
    let e : at ≡ max at (min (at + 1) (suc (length t))) = omega arith in
    ap (λ (k : ℕ). poured k t) e ∙ ap (λ (l : List ℕ). poured (max at (min (at + 1) (suc (length t)))) l) (sym (set_out t at b (omega arith)))

-- ---- byte by byte

pub text_more : (s t u v : List ℕ) (at k q i : ℕ) → poured k u ≡ pour (take i s) at t → i < length s → poured q v ≡ pour (get_or s i 0 ∷ []) k u → poured q v ≡ pour (take (i + 1) s) at t
text_more s t u v at k q i e h f =
    let z : i + 1 ≡ suc i = omega arith in
    pour_more (take i s) (get_or s i 0 ∷ []) t u v at k q e f ∙ ap (λ (x : List ℕ). pour x at t) (sym (take-suc s i 0 h) ∙ ap (λ (n : ℕ). take n s) (sym z))

pub text_all : (s t u : List ℕ) (at k i : ℕ) → poured k u ≡ pour (take i s) at t → length s ≤ i → poured k u ≡ pour s at t
text_all s t u at k i e h = e ∙ ap (λ (x : List ℕ). pour x at t) (take_all i s h)
