-- What writing out answers can be listed: for the programs that do both.
use Prim.Native.Nat.{ℕ}
use mathlib.Core.Path.{◌≡◌, ap}
use mathlib.Core.Bool.{Bool, true, false, cond}
use mathlib.Core.List.{List}
use native.Mathlib.Omega.{arith}
use lib.Dec.{leb}
use lib.ListN.{length}
use Rattle.job.specs.declared.refusal.Refusal.TheVariants.{SmallTray}
use Rattle.store.specs.Words.{Store}
use Rattle.store.specs.Good.{Sound}
use Rattle.std.specs.Prelude.{Result, Ok, Err}
use Rattle.job.specs.declared.refusal.Refusal.{Refusal}
use Rattle.paths.specs.declared.Written.{Written}
use Rattle.paths.specs.Wrote.{ok_paths}
use Rattle.paths.specs.Path.{closed_paths, open_paths}
use Rattle.paths.specs.Tray.{fields_of, padded}
use Rattle.paths.specs.Wrote.{Wrote, wrote, build_paths64}
use Rattle.listing.specs.Needs.{Listable, Summable}
use Rattle.listing.proofs.Trays.{written_listable}
use Rattle.listing.proofs.Room.{written_summable}

abbrev closed_in : Result Written Refusal → ℕ
closed_in (Ok p) = p.closed
closed_in (Err x) = 0

abbrev open_in : Result Written Refusal → ℕ
open_in (Ok p) = p.«open»
open_in (Err x) = 0

-- the tray and the two counts, where writing out was not refused
pub record Out (s : Store) (c o : ℕ) (t u : List ℕ) : Type 0 where
  pub closed : c ≡ length (closed_paths s)
  pub opened : o ≡ length (open_paths s)
  pub tray : u ≡ padded (length t) (fields_of s)

pub written_out : (s : Store) (c o : ℕ) (t u : List ℕ) → wrote (ok_paths c o) u ≡ build_paths64 s t → Out s c o t u
unfolding build_paths64
written_out s c o t u e = go (leb (length (fields_of s)) (length t)) e
  where
    go : (b : Bool) → wrote (ok_paths c o) u ≡ cond b (wrote (ok_paths (length (closed_paths s)) (length (open_paths s))) (padded (length t) (fields_of s))) (wrote (Err SmallTray) t) → Out s c o t u
    go true f =
        let a : ok_paths c o ≡ ok_paths (length (closed_paths s)) (length (open_paths s)) = ap (λ (x : Wrote). x.answer) f in
        record { closed = ap closed_in a; opened = ap open_in a; tray = ap (λ (x : Wrote). x.tray) f }
    go false f =
        let a : ok_paths c o ≡ Err SmallTray = ap (λ (x : Wrote). x.answer) f in
        let z : ◌≡◌ {A = ℕ} 0 1 = cc in
        absurd (omega arith)

pub answer_listable : (s : Store) (c o : ℕ) (t u : List ℕ) → Sound s → wrote (ok_paths c o) u ≡ build_paths64 s t → Listable c o u
answer_listable s c o t u d e = let w = written_out s c o t u e in rw (w.closed, w.opened, w.tray) (written_listable s d (length t))

pub answer_summable : (s : Store) (c o : ℕ) (t u : List ℕ) → Sound s → wrote (ok_paths c o) u ≡ build_paths64 s t → Summable u c
answer_summable s c o t u d e = let w = written_out s c o t u e in rw (w.closed, w.tray) (written_summable s d (length t))
