-- Zeros in front of a list: one more, and what is behind them; how far the loop is that looks for them, and the one that writes blocks of them.
use Prim.Native.Nat.{ℕ, ◌+◌, ◌-◌, ◌≤◌, ◌<◌}
use mathlib.Core.Path.{◌≡◌, refl, ap, ◌∙◌, sym, subst}
use mathlib.Core.Bool.{Bool, true, false, not, ◌||◌}
use mathlib.Core.List.{List, ◌++◌, append-nil, append_assoc}
use native.Mathlib.Omega.{arith}
use lib.Dec.{eqb}
use lib.ListN.{length, get_or, set, take, drop, replicate, length-replicate, replicate-append-replicate}
use lib.Seq.{set-get_or, drop-append-add, drop-drop, drop-length, take_at, drop_at}
use borrow.Author.Fill.{fill_more}
use borrow.Author.Tests.{eqb-true, not-true}
use Rattle.opening.specs.Blank.{CHUNK, ZeroTo, IsBlank}

-- ---- zeros in front

zero_more : (t : List ℕ) (k : ℕ) → k < length t → get_or t k 0 ≡ 0 → ZeroTo k t → ZeroTo (k + 1) t
zero_more t k h e z = record { is = sym (set-get_or t k 0) ∙ ap (set t k) e ∙ ap (λ (l : List ℕ). set l k 0) z.is ∙ fill_more k 0 t h }

-- words with n zeros in front, and then those of u
module _ (n : ℕ) (t u : List ℕ) (e : t ≡ replicate n 0 ++ drop n u) where
  pub behind : (m : ℕ) → drop (n + m) t ≡ drop (n + m) u
  behind m =
      ap (drop (n + m)) e ∙ ap (λ (k : ℕ). drop (k + m) (replicate n 0 ++ drop n u)) (sym (length-replicate {A = ℕ} n 0))
      ∙ drop-append-add (replicate n 0) (drop n u) m ∙ drop-drop m n u

  zeros_of : ZeroTo n t
  zeros_of = record { is = e ∙ ap (λ (l : List ℕ). replicate n 0 ++ l) (sym (ap (drop n) e ∙ drop_at (replicate n 0) (drop n u) n (length-replicate {A = ℕ} n 0))) }

-- ---- a block is looked through

pub record Looking (t : List ℕ) (a : ℕ) (found : Bool) (k : ℕ) : Type 0 where
  pub room : a + CHUNK ≤ length t
  pub far : k ≤ CHUNK
  pub zeros : found ≡ false → ZeroTo (a + k) t

pub look_begun : (t : List ℕ) (a : ℕ) → a + CHUNK ≤ length t → ZeroTo a t → Looking t a false 0
look_begun t a h z = let n : a ≡ a + 0 = omega arith in record { room = h; far = omega arith; zeros = λ e. subst (λ (m : ℕ). ZeroTo m t) n z }

module _ (t : List ℕ) (a : ℕ) (found : Bool) (k : ℕ) (L : Looking t a found k) where
  pub look_room : k < CHUNK → a + k < length t
  look_room h = omega (arith, L.room)

  pub look_on : (x : ℕ) → k < CHUNK → x ≡ get_or t (a + k) 0 → Looking t a (found || not (eqb x 0)) (k + 1)
  look_on x h e = record { room = L.room; far = omega arith; zeros = λ f. by found (eqb x 0) refl refl f }
    where
      by : (b c : Bool) → found ≡ b → eqb x 0 ≡ c → (b || not c) ≡ false → ZeroTo (a + (k + 1)) t
      by false true p q f = let n : a + k + 1 ≡ a + (k + 1) = omega arith in subst (λ (m : ℕ). ZeroTo m t) n (zero_more t (a + k) (omega (arith, L.room)) (sym e ∙ eqb-true x 0 q) (L.zeros p))
      by false false p q f = let y : ◌≡◌ {A = ℕ} 0 1 = cc in absurd (omega arith)
      by true c p q f = let y : ◌≡◌ {A = ℕ} 0 1 = cc in absurd (omega arith)

  pub looked : CHUNK ≤ k → IsBlank a t (not found)
  looked h = let e : k ≡ CHUNK = omega (arith, L.far) in record { blank = λ f. subst (λ (n : ℕ). ZeroTo (a + n) t) e (L.zeros (not-true found f)) }

-- behind zeros
module _ (t : List ℕ) (a to : ℕ) (z : ZeroTo a t) (l : a ≤ to) where
  front : take a t ≡ replicate a 0
  front = ap (take a) z.is ∙ take_at (replicate a 0) (drop a t) a (length-replicate {A = ℕ} a 0)

  zeros_more : (u : List ℕ) → u ≡ take a t ++ (replicate (to - a) 0 ++ drop to t) → u ≡ replicate to 0 ++ drop to t
  zeros_more u e =
      let n : a + (to - a) ≡ to = omega arith in
      e ∙ ap (λ (x : List ℕ). x ++ (replicate (to - a) 0 ++ drop to t)) front
      ∙ sym (append_assoc (replicate a 0) (replicate (to - a) 0) (drop to t))
      ∙ ap (λ (x : List ℕ). x ++ drop to t) (replicate-append-replicate {A = ℕ} a (to - a) 0 ∙ ap (λ (k : ℕ). replicate k 0) n)

-- ---- block after block

pub block_written : (t : List ℕ) (a : ℕ) (r : Bool) → IsBlank a t r → r ≡ true → t ≡ replicate (a + CHUNK) 0 ++ drop (a + CHUNK) t
block_written t a r L e = (L.blank e).is

pub block_zeros : (t : List ℕ) (a : ℕ) → ZeroTo a t → (u : List ℕ) → u ≡ take a t ++ (replicate (a + CHUNK - a) 0 ++ drop (a + CHUNK) t) → u ≡ replicate (a + CHUNK) 0 ++ drop (a + CHUNK) t
block_zeros t a z u e = zeros_more t a (a + CHUNK) z (omega arith) u e

-- the first i of n words are cleared
pub record Clearing (n : ℕ) (w₀ w : List ℕ) (i : ℕ) : Type 0 where
  pub far : i ≤ n
  pub end : n ≤ length w₀
  pub size : length w ≡ length w₀
  pub is : w ≡ replicate i 0 ++ drop i w₀

pub clear_begun : (n : ℕ) (w : List ℕ) → n ≤ length w → Clearing n w w 0
clear_begun n w h = record { far = omega arith; end = h; size = refl; is = refl }

module _ (n : ℕ) (w₀ w : List ℕ) (i : ℕ) (C : Clearing n w₀ w i) where
  pub clear_zeros : ZeroTo i w
  clear_zeros = zeros_of i w w₀ C.is

  pub clear_room : CHUNK ≤ n - i → i + CHUNK ≤ length w
  clear_room h = omega (arith, C.size, C.far, C.end)

  pub clear_far : i ≤ n
  clear_far = C.far

  pub clear_end : n ≤ length w
  clear_end = omega (arith, C.size, C.end)

  pub clear_on : (w' : List ℕ) → CHUNK ≤ n - i → length w' ≡ length w → w' ≡ replicate (i + CHUNK) 0 ++ drop (i + CHUNK) w → Clearing n w₀ w' (i + CHUNK)
  clear_on w' h l e = record { far = omega (arith, C.far); end = C.end; size = l ∙ C.size; is = e ∙ ap (λ (t : List ℕ). replicate (i + CHUNK) 0 ++ t) (behind i w w₀ C.is CHUNK) }

  pub cleared_to : (w' : List ℕ) → w' ≡ take i w ++ (replicate (n - i) 0 ++ drop n w) → w' ≡ replicate n 0 ++ drop n w₀
  cleared_to w' e =
      let d : i + (n - i) ≡ n = omega (arith, C.far) in
      zeros_more w i n clear_zeros C.far w' e ∙ ap (λ (t : List ℕ). replicate n 0 ++ t) (subst (λ (k : ℕ). drop k w ≡ drop k w₀) d (behind i w w₀ C.is (n - i)))

pub all_clear : (w w' : List ℕ) (n : ℕ) → n ≡ length w → w' ≡ replicate n 0 ++ drop n w → w' ≡ replicate (length w) 0
all_clear w w' n d e = e ∙ ap (λ (k : ℕ). replicate k 0 ++ drop k w) d ∙ ap (λ (t : List ℕ). replicate (length w) 0 ++ t) (drop-length w) ∙ append-nil {A = ℕ} (replicate (length w) 0)
