-- What a raised word means, for every raise together.
use Rattle.std.proofs.Common.{◌≡◌, ℕ, zero, suc, ◌+◌, ◌-◌, ◌*◌, ◌^◌, ◌<◌, ◌≤◌, ltb, pos, negsuc, ◌-ℤ◌, nat_abs, sym, refl, ap, ◌∙◌, arith, w32, le-ltb, lt-ltb}
use native.Mathlib.Decide.{dec_lt}
use lib.IntN.{sub_ℕ}
use mir.ValLaws.{to_z_pos}
use Rattle.numbers.specs.Raised.{raised, lowered, signed, coordinate}

-- raising and lowering are inverse to each other
pub lowered_raised : (by v : ℕ) → by < 2 ^ 32 → v < 2 ^ 32 → lowered by (raised by v) ≡ v
lowered_raised by v g h = omega arith

pub raised_lowered : (by w : ℕ) → by < 2 ^ 32 → w < 2 ^ 32 → raised by (lowered by w) ≡ w
raised_lowered by w g h = omega arith

same_test : (a b c d : ℕ) → (a < b → c < d) → (c < d → a < b) → ltb a b ≡ ltb c d
same_test a b c d f g = by (dec_lt a b)
  where
    by : Dec (a < b) → ltb a b ≡ ltb c d
    by (yes l) = lt-ltb a b l ∙ sym (lt-ltb c d (f l))
    by (no n) =
        let h : (c < d) → ⊥ = λ l. n (g l) in
        le-ltb a b (omega arith) ∙ sym (le-ltb c d (omega arith))

-- a word is above twice the raise exactly when the signed number is further than the raise from 0: decided for every four bytes
pub off_means : (by v : ℕ) → by < 2 ^ 31 → v < 2 ^ 32 → ltb (2 * by) (raised by v) ≡ ltb by (nat_abs (signed v))
off_means by v g h = on (dec_lt v (2 ^ 31))
  where
    on : Dec (v < 2 ^ 31) → ltb (2 * by) (raised by v) ≡ ltb by (nat_abs (signed v))
    on (yes l) = rw (to_z_pos w32 v l) (same_test (2 * by) (raised by v) by v (λ a. omega arith) (λ a. omega arith))
    on (no n) = rw (le-ltb v (2 ^ 31) (omega arith)) (same_test (2 * by) (raised by v) by (suc (2 ^ 32 - suc v)) (λ a. omega arith) (λ a. omega arith))

-- a difference of two naturals, by which is the larger
minus : (a b : ℕ) → pos a -ℤ pos b ≡ sub_ℕ a b
minus a zero = rw (le-ltb a 0 (omega arith)) (ap pos (omega arith))
minus a (suc b) = refl

pub at_least : (a b : ℕ) → b ≤ a → pos a -ℤ pos b ≡ pos (a - b)
at_least a b h = minus a b ∙ rw (le-ltb a b h)

pub less : (a b : ℕ) → a < b → pos a -ℤ pos b ≡ negsuc (b - suc a)
less a b h = minus a b ∙ rw (lt-ltb a b h)

-- within the limit, the bytes that are written stand for the word's number
pub lowered_means : (by w : ℕ) → by < 2 ^ 31 → w ≤ 2 * by → signed (lowered by w) ≡ coordinate by w
lowered_means by w g h = on (dec_lt w by)
  where
    on : Dec (w < by) → signed (lowered by w) ≡ coordinate by w
    on (yes l) =
        let e : lowered by w ≡ w + (2 ^ 32 - by) = omega arith in
        let d : 2 ^ 32 - suc (w + (2 ^ 32 - by)) ≡ by - suc w = omega arith in
        rw (e, le-ltb (w + (2 ^ 32 - by)) (2 ^ 31) (omega arith), d) (sym (less w by l))
    on (no n) =
        let e : lowered by w ≡ w - by = omega arith in
        rw e (to_z_pos w32 (w - by) (omega arith) ∙ sym (at_least w by (omega arith)))

-- within the limit, a word that was read stands for its bytes' number
pub raised_means : (by v : ℕ) → by < 2 ^ 31 → v < 2 ^ 32 → raised by v ≤ 2 * by → coordinate by (raised by v) ≡ signed v
raised_means by v g h l = sym (lowered_means by (raised by v) g l) ∙ ap signed (lowered_raised by v (omega arith) h)
