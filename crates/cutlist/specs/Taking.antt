-- 13 is "tested before the job is read": at a bad rate the buffer is what it was.
use Rattle.std.specs.Prelude.{ℕ, ◌≡◌, List}
use Rattle.rates.specs.declared.Rate.{Rate}
use Rattle.rates.specs.declared.Rate.TheVariants.{NoRate, Cents, Bad}

abbrev pub Untaken : Rate → List ℕ → List ℕ → Type 0
Untaken NoRate before after = Unit {0}
Untaken (Cents n) before after = Unit {0}
Untaken Bad before after = after ≡ before
