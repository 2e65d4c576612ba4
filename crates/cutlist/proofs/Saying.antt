-- The program's buffer has room for every job's listing.
use Prim.Native.Nat.{ℕ, ◌≤◌}
use mathlib.Core.Path.{◌≡◌, refl, sym, subst}
use mathlib.Core.List.{List}
use native.Mathlib.Omega.{arith}
use lib.ListN.{length, replicate, length-replicate}
use Rattle.rates.specs.declared.Rate.{Rate}
use Rattle.rates.specs.declared.Rate.TheVariants.{NoRate, Cents, Bad}
use Rattle.std.specs.Prelude.{Option, Some}
use Rattle.listing.specs.Room.{TEXT}
use Rattle.listing.specs.Told.{told}
use Rattle.listing.specs.Needs.{Whole}
use Rattle.job_listing.specs.Cutlist.{listed_job, list_job_of}
use Rattle.job_listing.proofs.Fits.{listed_whole}
use Rattle.cutlist.specs.Taking.{Untaken}

pub whole_size : (a : Option ℕ) (m n : ℕ) → Whole a n → a ≡ Some m → m ≤ n
whole_size a m n h e = subst (λ (x : Option ℕ). Whole x n) e h

pub room : (rate : Rate) (bytes w t w' t' out' : List ℕ) (a : Option ℕ) → listed_job (told a out') w' t' ≡ list_job_of rate bytes w t (replicate TEXT 0) → Whole a (length out')
room rate bytes w t w' t' out' a e = listed_whole rate bytes w t w' t' (replicate TEXT 0) out' a (omega (arith, length-replicate {A = ℕ} TEXT 0)) e

-- ---- what is read

pub at_none : (q : Rate) (a b : List ℕ) → q ≡ NoRate → Untaken q a b
at_none q a b e = subst (λ (r : Rate). Untaken r a b) (sym e) tt

pub at_cents : (q : Rate) (n : ℕ) (a b : List ℕ) → q ≡ Cents n → Untaken q a b
at_cents q n a b e = subst (λ (r : Rate). Untaken r a b) (sym e) tt

pub at_bad : (q : Rate) (a : List ℕ) → q ≡ Bad → Untaken q a a
at_bad q a e = subst (λ (r : Rate). Untaken r a a) (sym e) refl
