-- The loop over an argument's bytes: the number so far, as far as it counts.
use Prim.Native.Nat.{ℕ, zero, suc, ◌+◌, ◌-◌, ◌*◌, ◌≤◌, ◌<◌, min}
use mathlib.Core.Path.{◌≡◌, refl, sym, ap, ◌∙◌}
use mathlib.Core.Logic.{◌≢◌}
use mathlib.Core.Bool.{Bool, true, false, cond, not, ◌&&◌}
use mathlib.Core.List.{List, [], ◌∷◌}
use native.Mathlib.Omega.{arith}
use native.Mathlib.Numerals.{add-one}
use native.Mathlib.Decide.{dec_lt}
use lib.Dec.{leb}
use lib.ListN.{length, get_or, drop}
use lib.Seq.{drop-cons}
use borrow.Author.Tests.{le-leb, lt-leb, not-true, not-false}
use Rattle.rates.specs.declared.Rate.{Rate}
use Rattle.rates.specs.declared.Rate.TheVariants.{NoRate, Cents, Bad}
use Rattle.rates.specs.Rate.{LARGEST, is_digit, all_digits, number_from, in_range, rate_in, asked, arguments, rate_of}

-- of all bytes s, those from i on are left; v is the number so far, up to one past the largest rate
pub record DigitsTo (s : List ℕ) (i v : ℕ) : Type 0 where
  pub low : v ≤ LARGEST + 1
  pub so_far : ℕ
  pub is : v ≡ min (LARGEST + 1) so_far
  pub number : number_from 0 s ≡ number_from so_far (drop i s)
  pub digits : all_digits s ≡ all_digits (drop i s)

pub begun : (s : List ℕ) → DigitsTo s 0 0
begun s = record { low = omega arith; so_far = 0; is = refl; number = refl; digits = refl }

-- the byte at i, and those after it
split_at : (s : List ℕ) (i : ℕ) → i < length s → drop i s ≡ get_or s i 0 ∷ drop (i + 1) s
split_at s i h = drop-cons s i 0 h ∙ ap (λ (k : ℕ). get_or s i 0 ∷ drop k s) (sym (add-one i))

none_left : (s : List ℕ) (i : ℕ) → length s ≤ i → drop i s ≡ []
none_left [] zero h = refl
none_left [] (suc i) h = refl
none_left (b ∷ s) zero h = absurd (omega arith)
none_left (b ∷ s) (suc i) h = none_left s i (omega arith)

-- an empty argument makes 0, which is outside the range too
pub by_digits : (s : List ℕ) → rate_in s ≡ cond (all_digits s) (in_range (number_from 0 s)) Bad
unfolding rate_in
by_digits [] = refl
by_digits (b ∷ s) = refl

pub low : (n : ℕ) → n < 1 → Bad ≡ in_range n
low n h = sym (ap (λ (x : Bool). cond (x && leb n LARGEST) (Cents n) Bad) (lt-leb 1 n h))

past : (n : ℕ) → LARGEST < n → in_range n ≡ Bad
past n h = go (leb 1 n)
  where
    go : (x : Bool) → cond (x && leb n LARGEST) (Cents n) Bad ≡ Bad
    go true = ap (λ (y : Bool). cond y (Cents n) Bad) (lt-leb n LARGEST h)
    go false = refl

pub high : (n : ℕ) → LARGEST < n → Bad ≡ in_range n
high n h = sym (past n h)

pub within : (n : ℕ) → 1 ≤ n → n ≤ LARGEST → Cents n ≡ in_range n
within n h k = sym (ap (λ (x : Bool). cond (x && leb n LARGEST) (Cents n) Bad) (le-leb 1 n h) ∙ ap (λ (x : Bool). cond x (Cents n) Bad) (le-leb n LARGEST k))

pub cents_asked : (q p : Rate) (n : ℕ) → q ≡ Cents n → p ≡ in_range n → p ≡ asked q
cents_asked q p n e f = rw e f

-- to ask again changes nothing
pub asked_twice : (q : Rate) → asked (asked q) ≡ asked q
asked_twice NoRate = refl
asked_twice Bad = refl
asked_twice (Cents n) = go (leb 1 n && leb n LARGEST) refl
  where
    go : (b : Bool) → leb 1 n && leb n LARGEST ≡ b → asked (cond b (Cents n) Bad) ≡ cond b (Cents n) Bad
    go true e = ap (λ (x : Bool). cond x (Cents n) Bad) e
    go false e = refl

-- a rate that was asked for is in the range
pub cents_low : (n : ℕ) → in_range n ≡ Cents n → n ≤ LARGEST
cents_low n e = go (dec_lt LARGEST n)
  where
    go : Dec (LARGEST < n) → n ≤ LARGEST
    go (yes h) = let z : Cents n ≡ Bad = sym e ∙ past n h in let y : ◌≡◌ {A = ℕ} 0 1 = cc in absurd (omega arith)
    go (no h) = omega arith

-- ---- the arguments

pub none_given : (n : ℕ) (a : List ℕ) → n < 2 → NoRate ≡ rate_of (arguments n a)
none_given zero a h = refl
none_given (suc zero) a h = refl
none_given (suc (suc n)) a h = absurd (omega arith)

pub one_given : (n : ℕ) (a : List ℕ) (q : Rate) → n ≡ 2 → q ≡ rate_in a → q ≡ rate_of (arguments n a)
one_given n a q e f = rw e f

pub more_given : (n : ℕ) (a : List ℕ) → 2 ≤ n → n ≢ 2 → Bad ≡ rate_of (arguments n a)
more_given zero a h k = absurd (omega arith)
more_given (suc zero) a h k = absurd (omega arith)
more_given (suc (suc zero)) a h k = absurd (k refl)
more_given (suc (suc (suc n))) a h k = refl

-- whatever the others are
pub rate_of_all : (a : List ℕ) (more : List (List ℕ)) → rate_of (a ∷ more) ≡ rate_of (arguments (suc (suc (length more))) a)
rate_of_all a [] = refl
rate_of_all a (b ∷ more) = refl

module _ (s : List ℕ) (i v : ℕ) (r : DigitsTo s i v) where
  module _ (l : i < length s) where
    pub no_digit : (x : Bool) → x ≡ is_digit (get_or s i 0) → not x ≡ true → Bad ≡ rate_in s
    no_digit x e h =
        let f : all_digits s ≡ false = r.digits ∙ ap all_digits (split_at s i l) ∙ ap (λ (d : Bool). d && all_digits (drop (i + 1) s)) (sym e ∙ not-true x h) in
        sym (by_digits s ∙ ap (λ (x : Bool). cond x (in_range (number_from 0 s)) Bad) f)

    pub one_more : (x : Bool) (w : ℕ) → x ≡ is_digit (get_or s i 0) → not x ≡ false → w ≡ min (LARGEST + 1) (10 * v + (get_or s i 0 - 48)) → DigitsTo s (i + 1) w
    one_more x w e h g =
        record {
          low = omega (arith, g);
          so_far = 10 * r.so_far + (get_or s i 0 - 48);
          is = omega (arith, g, r.is);
          number = r.number ∙ ap (number_from r.so_far) (split_at s i l);
          digits = r.digits ∙ ap all_digits (split_at s i l) ∙ ap (λ (d : Bool). d && all_digits (drop (i + 1) s)) (sym e ∙ not-false x h);
        }

  module _ (l : length s ≤ i) where
    whole : rate_in s ≡ in_range r.so_far
    whole =
        let d : all_digits s ≡ true = r.digits ∙ ap all_digits (none_left s i l) in
        let n : number_from 0 s ≡ r.so_far = r.number ∙ ap (number_from r.so_far) (none_left s i l) in
        by_digits s ∙ ap (λ (x : Bool). cond x (in_range (number_from 0 s)) Bad) d ∙ ap in_range n

    -- a number that has passed the largest stays past it
    pub read_whole : (q : Rate) → q ≡ in_range v → q ≡ rate_in s
    read_whole q e = e ∙ same (dec_lt LARGEST r.so_far) ∙ sym whole
      where
        same : Dec (LARGEST < r.so_far) → in_range v ≡ in_range r.so_far
        same (yes h) = past v (omega (arith, r.is)) ∙ sym (past r.so_far h)
        same (no h) = let n : v ≡ r.so_far = omega (arith, r.is) in ap in_range n

-- what a digit's place among the bytes says
pub from_zero : (b r : ℕ) → is_digit b ≡ true → r ≡ b → 48 ≤ r
from_zero b r e f = omega (arith, f, go (dec_lt b 48))
  where
    go : Dec (b < 48) → 48 ≤ b
    go (no n) = omega arith
    go (yes l) = let z : ◌≡◌ {A = Bool} false true = sym (ap (λ (x : Bool). x && leb b 57) (lt-leb 48 b l)) ∙ e in let y : ◌≡◌ {A = ℕ} 0 1 = cc in absurd (omega arith)

pub low_number : (s : List ℕ) (i v : ℕ) → DigitsTo s i v → v ≤ LARGEST + 1
low_number s i v r = r.low
