-- Laws of the numbers that bytes make, for every width together.
use Rattle.std.proofs.Common.{◌≡◌, ℕ, zero, suc, ◌+◌, ◌*◌, ◌^◌, ◌<◌, ◌≤◌, List, get_or, drop, refl, add-zero, add_assoc, mul-le-mul_left, pow-suc, arith, get_or-drop}
use native.Mathlib.Nat.{one-le-pow}
use Rattle.numbers.specs.Bytes.{le}

-- a power of 256 is not 0
pub some : (n : ℕ) → 0 < 256 ^ n
some n = one-le-pow n 256 (omega arith)

-- one byte more
pub le_more : (n at : ℕ) (s : List ℕ) → le (suc n) at s ≡ le n at s + 256 ^ n * get_or s (at + n) 0
le_more zero at s = rw (add-zero at) (once (get_or s at 0))
  where
    once : (x : ℕ) → x ≡ 0 + 256 ^ 0 * x
    once x = omega arith
le_more (suc n) at s = refl

-- n bytes make a number below 256 ^ n
pub below : (n at : ℕ) (s : List ℕ) → ((i : ℕ) → get_or s i 0 < 256) → le n at s < 256 ^ n
below zero at s h = omega arith
below (suc n) at s h =
    let a = below n at s h in
    let d = mul-le-mul_left (256 ^ n) (le_255 (h (at + n))) in
    rw (le_more, pow-suc 256 n) (omega arith)
  where
    le_255 : {x : ℕ} → x < 256 → x ≤ 255
    le_255 l = omega arith

-- the same bytes, read in a part that starts at k
pub shifted : (n k at : ℕ) (s : List ℕ) → le n at (drop k s) ≡ le n (k + at) s
shifted zero k at s = refl
shifted (suc n) k at s = rw (le_more n at (drop k s), le_more n (k + at) s, shifted n k at s, get_or-drop k s (at + n) 0, add_assoc k at n)

-- two lists that agree in these n bytes
pub same_bytes : (n at : ℕ) (s t : List ℕ) → ((k : ℕ) → k < n → get_or s (at + k) 0 ≡ get_or t (at + k) 0) → le n at s ≡ le n at t
same_bytes zero at s t h = refl
same_bytes (suc n) at s t h =
    rw (le_more n at s, le_more n at t, same_bytes n at s t (λ k l. h k (omega arith)), h n (omega arith))
