-- What some arguments say, and the charge of a square decimetre, by computing; and that zeros may lead, however many.
use Prim.Native.Nat.{ℕ, zero, suc, ◌*◌}
use mathlib.Core.Path.{◌≡◌, refl, sym, ◌∙◌}
use mathlib.Core.List.{List, [], ◌∷◌, ◌++◌}
use lib.ListN.{replicate}
use Rattle.rates.specs.declared.Rate.TheVariants.{NoRate, Cents, Bad}
use Rattle.rates.specs.Rate.{rate_in, rate_of}
use Rattle.rates.specs.Charge.{charge_of}
use Rattle.rates.proofs.Digits.{by_digits}

none : rate_of [] ≡ NoRate
none = refl

-- 1, 1000, 007
least : rate_of ((49 ∷ []) ∷ []) ≡ Cents 1
unfolding rate_in
least = refl

largest : rate_of ((49 ∷ 48 ∷ 48 ∷ 48 ∷ []) ∷ []) ≡ Cents 1000
unfolding rate_in
largest = refl

seven : rate_of ((48 ∷ 48 ∷ 55 ∷ []) ∷ []) ≡ Cents 7
unfolding rate_in
seven = refl

-- an empty one, 0, 1001, forty nines
empty : rate_of ([] ∷ []) ≡ Bad
unfolding rate_in
empty = refl

zeroth : rate_of ((48 ∷ []) ∷ []) ≡ Bad
unfolding rate_in
zeroth = refl

past_largest : rate_of ((49 ∷ 48 ∷ 48 ∷ 49 ∷ []) ∷ []) ≡ Bad
unfolding rate_in
past_largest = refl

nines : rate_of (replicate 40 57 ∷ []) ≡ Bad
unfolding rate_in
nines = refl

-- +7, a space and 7, 7.0, and 5 twice
plus : rate_of ((43 ∷ 55 ∷ []) ∷ []) ≡ Bad
unfolding rate_in
plus = refl

spaced : rate_of ((32 ∷ 55 ∷ []) ∷ []) ≡ Bad
unfolding rate_in
spaced = refl

pointed : rate_of ((55 ∷ 46 ∷ 48 ∷ []) ∷ []) ≡ Bad
unfolding rate_in
pointed = refl

twice : rate_of ((53 ∷ []) ∷ (53 ∷ []) ∷ []) ≡ Bad
twice = refl

-- a square of 100,000 micrometres a side at 250 cents: charge 250 0
decimetre : charge_of (2 * (100000 * 100000)) 250 ≡ record { quotient = 250; remainder = 0 }
unfolding charge_of
decimetre = refl

pub leading_zeros : (n b : ℕ) (s : List ℕ) → rate_in (replicate n 48 ++ (b ∷ s)) ≡ rate_in (b ∷ s)
leading_zeros zero b s = refl
leading_zeros (suc n) b s = let x = replicate n 48 ++ (b ∷ s) in by_digits (48 ∷ x) ∙ sym (by_digits x) ∙ leading_zeros n b s
