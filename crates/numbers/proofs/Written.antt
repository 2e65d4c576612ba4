-- Laws of the bytes that a number leaves, for every width together: reading is the inverse of writing, both ways round.
use Rattle.std.proofs.Common.{◌≡◌, ℕ, zero, suc, ◌+◌, ◌*◌, ◌/◌, ◌%◌, ◌^◌, ◌<◌, ◌≤◌, List, length, get_or, take, drop, set, sym, refl, ap, ◌∙◌, add-zero, add_assoc, mod-lt, mod-eq_of_lt, mul_comm, add_comm, div-one, arith, length-set, get_or-set_other, get_or-set_same}
use native.Mathlib.Nat.{pow-succ', mod-one}
use lib.Arith.{mod-mul, digits_div, digits_mod}
use lib.Seq.{set-get_or, drop-set-add, take-set-le}
use Rattle.numbers.specs.Bytes.{le}
use Rattle.numbers.specs.Written.{put_le}
use Rattle.numbers.proofs.Widths.{some, le_more, below, same_bytes}

-- one byte more
pub put_more : (n at v : ℕ) (s : List ℕ) → put_le (suc n) at v s ≡ set (put_le n at v s) (at + n) (v / 256 ^ n % 256)
put_more zero at v s = rw (add-zero at, div-one v)
put_more (suc n) at v s = refl

pub length_put : (n at v : ℕ) (s : List ℕ) → length (put_le n at v s) ≡ length s
length_put zero at v s = refl
length_put (suc n) at v s = rw (put_more n at v s, length-set) (length_put n at v s)

-- every byte but the n written ones stays
pub kept : (n at v i : ℕ) (s : List ℕ) → ((k : ℕ) → k < n → i ≡ at + k → ⊥) → get_or (put_le n at v s) i 0 ≡ get_or s i 0
kept zero at v i s h = refl
kept (suc n) at v i s h =
    rw (put_more n at v s, get_or-set_other (put_le n at v s) (at + n) i (v / 256 ^ n % 256) 0 (h n (omega arith)))
    (kept n at v i s (λ k l. h k (omega arith)))

-- so does a number that ends before them, or begins after them
pub kept_before : (n at v m b : ℕ) (s : List ℕ) → b + m ≤ at → le m b (put_le n at v s) ≡ le m b s
kept_before n at v m b s h = same_bytes m b (put_le n at v s) s (λ j l. kept n at v (b + j) s (λ k g e. omega arith))

pub kept_after : (n at v m b : ℕ) (s : List ℕ) → at + n ≤ b → le m b (put_le n at v s) ≡ le m b s
kept_after n at v m b s h = same_bytes m b (put_le n at v s) s (λ j l. kept n at v (b + j) s (λ k g e. omega arith))

-- the low n bytes of v and the next one
pub split : (n v : ℕ) → v % 256 ^ suc n ≡ (v / 256 ^ n % 256) * 256 ^ n + v % 256 ^ n
split n v = rw (pow-succ' 256 n) (mod-mul v (omega arith) (some n))

-- written, then read: the low n bytes of v
pub read_written : (n at v : ℕ) (s : List ℕ) → at + n ≤ length s → le n at (put_le n at v s) ≡ v % 256 ^ n
read_written zero at v s h = sym (mod-one v)
read_written (suc n) at v s h =
    let d = v / 256 ^ n % 256 in
    let w = put_le n at v s in
    let a : le n at (set w (at + n) d) ≡ le n at w = same_bytes n at (set w (at + n) d) w (λ k l. get_or-set_other w (at + n) (at + k) d 0 (λ e. omega arith)) in
    let l = length_put n at v s in
    let b : get_or (set w (at + n) d) (at + n) 0 ≡ d = get_or-set_same w (at + n) d 0 (omega arith) in
    rw (put_more n at v s, le_more n at (set w (at + n) d), a, b, read_written n at v s (omega arith), split n v, mul_comm (256 ^ n) d)
    (add_comm (v % 256 ^ n) (d * 256 ^ n))

-- so a number that fits in n bytes comes back whole
pub comes_back : (n at v : ℕ) (s : List ℕ) → v < 256 ^ n → at + n ≤ length s → le n at (put_le n at v s) ≡ v
comes_back n at v s f h = read_written n at v s h ∙ mod-eq_of_lt f

-- two numbers of two digits are equal only where the digits are
digits : (m a b c d : ℕ) → b < m → d < m → a * m + b ≡ c * m + d → (a ≡ c) × (b ≡ d)
digits m a b c d hb hd e =
    let p = digits_div a hb in
    let q = digits_div c hd in
    let r = digits_mod a hb in
    let t = digits_mod c hd in
    (sym p ∙ ap (λ (x : ℕ). x / m) e ∙ q, sym r ∙ ap (λ (x : ℕ). x % m) e ∙ t)

module _ (at v : ℕ) (s : List ℕ) (h : (i : ℕ) → get_or s i 0 < 256) where
  same_again : (n : ℕ) → v % 256 ^ n ≡ le n at s → put_le n at v s ≡ s
  same_again zero e = refl
  same_again (suc n) e =
      let g : (v / 256 ^ n % 256) * 256 ^ n + v % 256 ^ n ≡ get_or s (at + n) 0 * 256 ^ n + le n at s =
      sym (split n v) ∙ e ∙ le_more n at s ∙ add_comm (le n at s) (256 ^ n * get_or s (at + n) 0) ∙ ap (λ (x : ℕ). x + le n at s) (mul_comm (256 ^ n) (get_or s (at + n) 0))
      in
      let d = digits (256 ^ n) (v / 256 ^ n % 256) (v % 256 ^ n) (get_or s (at + n) 0) (le n at s) (mod_small n) (below n at s h) g in
      rw (put_more n at v s, same_again n d.1, d.0) (set-get_or s (at + n) 0)
    where
      mod_small : (n : ℕ) → v % 256 ^ n < 256 ^ n
      mod_small n = mod-lt v (some n)

-- read, then written back: nothing changes
pub written_back : (n at : ℕ) (s : List ℕ) → ((i : ℕ) → get_or s i 0 < 256) → put_le n at (le n at s) s ≡ s
written_back n at s h = same_again at (le n at s) s h n (mod-eq_of_lt (below n at s h))

-- written in a part that starts at k, and what lies before that part
pub put_shifted : (n k at v : ℕ) (s : List ℕ) → drop k (put_le n (k + at) v s) ≡ put_le n at v (drop k s)
put_shifted zero k at v s = refl
put_shifted (suc n) k at v s =
    rw (put_more n (k + at) v s, put_more n at v (drop k s), add_assoc k at n, drop-set-add k (put_le n (k + at) v s) (at + n) (v / 256 ^ n % 256), put_shifted n k at v s)

pub put_behind : (n k at v : ℕ) (s : List ℕ) → take k (put_le n (k + at) v s) ≡ take k s
put_behind zero k at v s = refl
put_behind (suc n) k at v s =
    rw (put_more n (k + at) v s, take-set-le k (put_le n (k + at) v s) (k + at + n) (v / 256 ^ n % 256) (omega arith)) (put_behind n k at v s)
