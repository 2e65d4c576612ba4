-- Resolving (`get_real_outrec`): the first with points among a record and its owners, as a function of the words. As a path of records it is beside it (Paths).
use Rattle.std.specs.Prelude.{ℕ, zero, suc, cond, List, eqb}
use Rattle.job.specs.Limits as limit
use Rattle.store.specs.Field.{NONE}
use Rattle.store.specs.Named.{first_of, owner_of, rec_of}

-- the first with points among r and its owners, or none, within f records
unfoldable pub find_in : ℕ → (ℕ → ℕ) → (ℕ → ℕ) → ℕ → ℕ
find_in zero first owner r = NONE
find_in (suc f) first owner r =
    let on : ℕ = find_in f first owner (owner r) in
    cond (eqb (first r) NONE) (cond (eqb (owner r) NONE) NONE on) r

-- get_real_outrec, or none: an owner chain that ends has no more records than there may be
abbrev pub get_real_outrec : List ℕ → ℕ → ℕ
get_real_outrec w r = find_in limit.RECORDS (first_of w) (owner_of w) r

-- the record that a point resolves to, or none
abbrev pub home_of : List ℕ → ℕ → ℕ
home_of w p = get_real_outrec w (rec_of w p)
