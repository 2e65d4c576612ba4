-- What `circles` means: no number of owners ends the chain.
use Rattle.std.specs.Prelude.{ℕ, ◌<◌, ◌≡◌, true, false, List}
use Rattle.store.specs.Named.{records_of, owner_of}
use Rattle.owners.specs.Owners.{circles, ends_in}

-- "an owner chain circles", of a job that has passed rows 1 to 5: exactly when no number of owners ends it (`circling`, proofs/Circling)
pub record Circling (w : List ℕ) : Type 0 where
  pub never_ends : (i : ℕ) → i < records_of w → circles w i ≡ true → (f : ℕ) → ends_in f (owner_of w) i ≡ false
  pub circles_then : (i : ℕ) → i < records_of w → ((f : ℕ) → ends_in f (owner_of w) i ≡ false) → circles w i ≡ true
