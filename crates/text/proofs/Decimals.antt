-- Laws of decimal digits.
use Prim.Native.Nat.{ℕ, zero, suc, ◌+◌, ◌-◌, ◌*◌, ◌/◌, ◌%◌, ◌^◌, ◌≤◌, ◌<◌}
use mathlib.Core.Path.{◌≡◌, refl, sym, ap, ◌∙◌}
use mathlib.Core.List.{List, [], ◌∷◌, ◌++◌}
use native.Mathlib.Omega.{arith}
use native.Mathlib.Decide.{dec_lt}
use borrow.Author.Tests.{lt-ltb, le-ltb}
use Rattle.rates.specs.Rate.{number_from}
use Rattle.text.specs.Pour.{poured, pour}
use Rattle.text.specs.Text.{digit, digits, decimal}
use Rattle.text.proofs.Pouring.{pour_more}

-- room for one digit more changes nothing
digits_more : (f n : ℕ) → n < 10 ^ suc f → digits (suc f) n ≡ digits (suc (suc f)) n
unfolding digits
digits_more zero n h = rw (lt-ltb n 10 (omega arith))
digits_more (suc f) n h = go (dec_lt n 10) (digits_more f (n / 10))
  where
    go : Dec (n < 10) → (n / 10 < 10 ^ suc f → digits (suc f) (n / 10) ≡ digits (suc (suc f)) (n / 10)) → digits (suc (suc f)) n ≡ digits (suc (suc (suc f))) n
    go (yes l) r = rw (lt-ltb n 10 l)
    go (no l) r = rw (le-ltb n 10 (omega arith)) (ap (λ (x : List ℕ). x ++ (digit (n % 10) ∷ [])) (r (omega arith)))

pub decimal_small : (n : ℕ) → n < 10 → decimal n ≡ digit n ∷ []
unfolding digits
decimal_small n h = rw (lt-ltb n 10 h)

last_digit : (n : ℕ) → 10 ≤ n → digits 20 n ≡ digits 19 (n / 10) ++ (digit (n % 10) ∷ [])
unfolding digits
last_digit n h = rw (le-ltb n 10 h)

pub decimal_more : (n : ℕ) → 10 ≤ n → n < 2 ^ 64 → decimal n ≡ decimal (n / 10) ++ (digit (n % 10) ∷ [])
decimal_more n h l = last_digit n h ∙ ap (λ (x : List ℕ). x ++ (digit (n % 10) ∷ [])) (digits_more 18 (n / 10) (omega arith))

-- ---- read as a number, a number's digits are the number

one_digit : (v : ℕ) (a : List ℕ) (b : ℕ) → number_from v (a ++ (b ∷ [])) ≡ 10 * number_from v a + (b - 48)
one_digit v [] b = refl
one_digit v (x ∷ a) b = one_digit (10 * v + (x - 48)) a b

digits_back : (f n : ℕ) → n < 10 ^ suc f → number_from 0 (digits (suc f) n) ≡ n
unfolding digits
digits_back zero n h = rw (lt-ltb n 10 (omega arith)) (omega arith)
digits_back (suc f) n h = go (dec_lt n 10) (digits_back f (n / 10))
  where
    go : Dec (n < 10) → (n / 10 < 10 ^ suc f → number_from 0 (digits (suc f) (n / 10)) ≡ n / 10) → number_from 0 (digits (suc (suc f)) n) ≡ n
    go (yes l) r = rw (lt-ltb n 10 l) (omega arith)
    go (no l) r = rw (le-ltb n 10 (omega arith)) (omega (arith, one_digit 0 (digits (suc f) (n / 10)) (digit (n % 10)), r (omega arith)))

pub decimal_back : (n : ℕ) → n < 2 ^ 64 → number_from 0 (decimal n) ≡ n
decimal_back n h = digits_back 19 n (omega arith)

-- ---- poured

pub small_poured : (n at r : ℕ) (t u : List ℕ) → n < 10 → poured r u ≡ pour ((48 + n) ∷ []) at t → poured r u ≡ pour (decimal n) at t
small_poured n at r t u h e = e ∙ ap (λ (x : List ℕ). pour x at t) (sym (decimal_small n h))

pub more_poured : (n at r q : ℕ) (t u v : List ℕ) → 10 ≤ n → n < 2 ^ 64 → poured r u ≡ pour (decimal (n / 10)) at t → poured q v ≡ pour ((48 + n % 10) ∷ []) r u → poured q v ≡ pour (decimal n) at t
more_poured n at r q t u v h l e f = pour_more (decimal (n / 10)) ((48 + n % 10) ∷ []) t u v at r q e f ∙ ap (λ (x : List ℕ). pour x at t) (sym (decimal_more n h l))
