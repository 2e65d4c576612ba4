-- The numbers of answers: what fits in a half of a word, and that the code says the number of each case.
use Prim.Native.Nat.{ℕ, zero, suc, ◌+◌, ◌*◌, ◌^◌, ◌<◌, ◌≤◌}
use mathlib.Core.Path.{◌≡◌, refl, ap, subst}
use mathlib.Core.Logic.{◌≢◌}
use mathlib.Core.Bool.{Bool}
use native.Mathlib.Omega.{arith}
use Rattle.job.specs.Limits as limit
use Rattle.rates.specs.declared.Rate.TheVariants.{NoRate, Cents}
use Rattle.std.specs.Prelude.{Result, Ok}
use Rattle.job.specs.declared.refusal.Refusal.{Refusal}
use Rattle.paths.specs.Tray.{tag_of}
use Rattle.prefix.specs.Decides.{LONGEST}
use Rattle.rewriting.specs.Answers.{BytesWithin}
use Rattle.telling.specs.declared.Reason.{Reason}
use Rattle.telling.specs.declared.Reason.TheVariants.{Joined}
use Rattle.telling.specs.declared.Reason.TheVariants as reason
use Rattle.telling.specs.Within.{NumberWithin, ToldWithin}
use Rattle.windows.specs.Within.{FoundWithin}
use Rattle.answers.specs.Answers.{rewritten_number, reason_word, told_number, found_number, rate_from}

pub half_fits : (a : Result ℕ Refusal) (k : ℕ) → BytesWithin a LONGEST → a ≡ Ok k → 4294967296 * k < 2 ^ 64
half_fits a k h e = let l : k ≤ LONGEST = subst (λ (b : Result ℕ Refusal). BytesWithin b LONGEST) e h in omega arith

pub half_is : (a : Result ℕ Refusal) (k : ℕ) → a ≡ Ok k → 4294967296 * k ≡ rewritten_number a
half_is a k e = rw e

module _ (x : Reason) (h : NumberWithin x) where
  pub taker_within : (t : ℕ) → x ≡ Joined t → t < limit.RECORDS
  taker_within t e = subst NumberWithin e h

  pub place_within : (o : Bool) (p : ℕ) → x ≡ reason.Written o p → p < limit.RECORDS
  place_within o p e = subst NumberWithin e h

pub joined_is : (x : Reason) (t r : ℕ) → x ≡ Joined t → r ≡ 2 + 65536 * t → r ≡ reason_word x
joined_is x t r e h = rw (h, e)

pub written_is : (x : Reason) (o : Bool) (p r : ℕ) → x ≡ reason.Written o p → r ≡ 8 + 256 * tag_of o + 65536 * p → r ≡ reason_word x
written_is x o p r e h = rw (h, e)

pub told_is : (a : Result Reason Refusal) (x : Reason) (n : ℕ) → a ≡ Ok x → n ≡ reason_word x → 4294967296 * n ≡ told_number a
told_is a x n e h = rw (e, h)

pub reason_within : (a : Result Reason Refusal) (x : Reason) → ToldWithin a → a ≡ Ok x → NumberWithin x
reason_within a x h e = subst ToldWithin e h

pub no_rate : (n : ℕ) → n ≡ 0 → NoRate ≡ rate_from n
no_rate n e = rw e

pub some_rate : (n m : ℕ) → n ≢ 0 → m ≡ n → Cents m ≡ rate_from n
some_rate zero m h e = absurd (h refl)
some_rate (suc n) m h e = ap (λ (k : ℕ). Cents k) e

pub found_fits : (a : Result ℕ Refusal) (k : ℕ) → FoundWithin a → a ≡ Ok k → 4294967296 * k < 2 ^ 64
found_fits a k h e = let l : k ≤ limit.RECORDS = subst FoundWithin e h in omega arith

pub found_is : (a : Result ℕ Refusal) (k : ℕ) → a ≡ Ok k → 4294967296 * k ≡ found_number a
found_is a k e = rw e
