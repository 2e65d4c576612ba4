-- Words and numbers as their loops read them: what is left to read, from the place where the loop is, comes to what was asked for.
use Prim.Native.Nat.{ℕ, suc, ◌+◌, ◌-◌, ◌*◌, ◌%◌, ◌≤◌, ◌<◌, min}
use mathlib.Core.Path.{◌≡◌, refl, sym, ap, ◌∙◌, subst}
use mathlib.Core.Bool.{Bool, cond}
use mathlib.Core.List.{List}
use native.Mathlib.Omega.{arith}
use lib.Dec.{ltb, leb}
use lib.ListN.{get_or}
use borrow.Author.Tests.{lt-ltb, le-ltb, le-leb, lt-leb}
use Rattle.test_text.specs.Places.{FAR}
use Rattle.test_text.specs.Words.{end_of, more_of, digits_at}

less : (left : ℕ) → 0 < left → left ≡ suc (left - 1)
less left h = omega arith

none : (left : ℕ) → left ≤ 0 → left ≡ 0
none left h = omega arith

-- ---- the end of a word

pub record Seeking (stop : ℕ) (s : List ℕ) (i left goal : ℕ) : Type 0 where
  pub is : end_of stop left s i ≡ goal

pub seeking_begun : (stop n : ℕ) (s : List ℕ) (at : ℕ) → Seeking stop s at n (end_of stop n s at)
seeking_begun stop n s at = record { is = refl }

module _ (stop : ℕ) (s : List ℕ) (i left goal : ℕ) (k : Seeking stop s i left goal) where
  pub seeking_none : left ≤ 0 → i ≡ goal
  unfolding end_of
  seeking_none h = ap (λ (n : ℕ). end_of stop n s i) (sym (none left h)) ∙ k.is

  step : 0 < left → end_of stop left s i ≡ cond (leb (get_or s i 0) stop) i (end_of stop (left - 1) s (min (i + 1) FAR))
  unfolding end_of
  step h = ap (λ (n : ℕ). end_of stop n s i) (less left h)

  module _ (b : ℕ) (h : 0 < left) (e : b ≡ get_or s i 0) where
    pub seeking_ends : b ≤ stop → i ≡ goal
    seeking_ends z =
        ap (λ (c : Bool). cond c i (end_of stop (left - 1) s (min (i + 1) FAR))) (sym (le-leb b stop z) ∙ ap (λ (x : ℕ). leb x stop) e) ∙ sym (step h) ∙ k.is

    pub seeking_on : (j : ℕ) → stop < b → j ≡ min (i + 1) FAR → Seeking stop s j (left - 1) goal
    seeking_on j z f =
        record {
          is =
              ap (end_of stop (left - 1) s) f
              ∙ ap (λ (c : Bool). cond c i (end_of stop (left - 1) s (min (i + 1) FAR))) (sym (lt-leb b stop z) ∙ ap (λ (x : ℕ). leb x stop) e)
              ∙ sym (step h)
              ∙ k.is;
        }

-- of n bytes c are passed
pub seeking_next : (stop n : ℕ) (s : List ℕ) (i c goal : ℕ) → Seeking stop s i (n - c) goal → (b j : ℕ) → c < n → b ≡ get_or s i 0 → stop < b → j ≡ min (i + 1) FAR → Seeking stop s j (n - (c + 1)) goal
seeking_next stop n s i c goal k b j h e z f =
    let y : n - c - 1 ≡ n - (c + 1) = omega arith in
    subst (λ (m : ℕ). Seeking stop s j m goal) y (seeking_on stop s i (n - c) goal k b (omega arith) e j z f)

-- ---- a number

pub more_in : (v b : ℕ) → v < 1000000000000000 → v * 10 + b % 16 ≡ more_of v b
more_in v b h = ap (λ (c : Bool). cond c (v * 10 + b % 16) v) (sym (lt-ltb v 1000000000000000 h))

pub more_past : (v b : ℕ) → 1000000000000000 ≤ v → v ≡ more_of v b
more_past v b h = ap (λ (c : Bool). cond c (v * 10 + b % 16) v) (sym (le-ltb v 1000000000000000 h))

pub record Adding (s : List ℕ) (i v left goal : ℕ) : Type 0 where
  pub is : digits_at left v s i ≡ goal

pub adding_begun : (n : ℕ) (s : List ℕ) (at : ℕ) → Adding s at 0 n (digits_at n 0 s at)
adding_begun n s at = record { is = refl }

module _ (s : List ℕ) (i v left goal : ℕ) (k : Adding s i v left goal) where
  pub adding_none : left ≤ 0 → v ≡ goal
  unfolding digits_at
  adding_none h = ap (λ (n : ℕ). digits_at n v s i) (sym (none left h)) ∙ k.is

  rest : ℕ → ℕ
  rest b = digits_at (left - 1) (more_of v b) s (min (i + 1) FAR)

  digit : 0 < left → (b : ℕ) → b ≡ get_or s i 0 → digits_at left v s i ≡ cond (ltb b 48) v (cond (ltb 57 b) v (rest b))
  unfolding digits_at rest
  digit h b e =
      ap (λ (n : ℕ). digits_at n v s i) (less left h)
      ∙ ap (λ (x : ℕ). cond (ltb x 48) v (cond (ltb 57 x) v (digits_at (left - 1) (more_of v x) s (min (i + 1) FAR)))) (sym e)

  module _ (b : ℕ) (h : 0 < left) (e : b ≡ get_or s i 0) where
    pub adding_low : b < 48 → v ≡ goal
    adding_low z = ap (λ (c : Bool). cond c v (cond (ltb 57 b) v (rest b))) (sym (lt-ltb b 48 z)) ∙ sym (digit h b e) ∙ k.is

    pub adding_high : 48 ≤ b → 57 < b → v ≡ goal
    adding_high y z =
        ap (λ (c : Bool). cond c v (rest b)) (sym (lt-ltb 57 b z)) ∙ ap (λ (c : Bool). cond c v (cond (ltb 57 b) v (rest b))) (sym (le-ltb b 48 y)) ∙ sym (digit h b e) ∙ k.is

    pub adding_on : (u j : ℕ) → 48 ≤ b → b ≤ 57 → u ≡ more_of v b → j ≡ min (i + 1) FAR → Adding s j u (left - 1) goal
    unfolding rest
    adding_on u j y z f g =
        record {
          is =
              ap (λ (x : ℕ). digits_at (left - 1) x s j) f
              ∙ ap (digits_at (left - 1) (more_of v b) s) g
              ∙ ap (λ (c : Bool). cond c v (rest b)) (sym (le-ltb 57 b z))
              ∙ ap (λ (c : Bool). cond c v (cond (ltb 57 b) v (rest b))) (sym (le-ltb b 48 y))
              ∙ sym (digit h b e)
              ∙ k.is;
        }

-- of n digits c are passed
pub adding_next : (n : ℕ) (s : List ℕ) (i v c goal : ℕ) → Adding s i v (n - c) goal → (b u j : ℕ) → c < n → b ≡ get_or s i 0 → 48 ≤ b → b ≤ 57 → u ≡ more_of v b → j ≡ min (i + 1) FAR → Adding s j u (n - (c + 1)) goal
adding_next n s i v c goal k b u j h e y z f g =
    let x : n - c - 1 ≡ n - (c + 1) = omega arith in
    subst (λ (m : ℕ). Adding s j u m goal) x (adding_on s i v (n - c) goal k b (omega arith) e u j y z f g)
