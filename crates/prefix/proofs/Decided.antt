-- 50,201 bytes decide a job: what follows them changes nothing of opening it or of finishing it in one call.
use mathlib.Core.Path.{◌≡◌, refl, ap}
use mathlib.Core.Bool.{Bool, true, false, cond}
use mathlib.Core.List.{List}
use Prim.Native.Nat.{ℕ, ◌≤◌}
use native.Mathlib.Omega.{arith}
use lib.Dec.{ltb}
use lib.ListN.{length, take, replicate}
use lib.Seq.{take-take}
use Rattle.std.proofs.Common.{Ok, Err}
use Rattle.job.specs.declared.refusal.Refusal.TheVariants as refusal
use Rattle.store.specs.Field.{LENGTH}
use Rattle.reading.specs.Fill as fill
use Rattle.reading.specs.Fill.{fill_of}
use Rattle.reading.specs.Read.{with_counts, read_of}
use Rattle.accepting.specs.Accept.{judged, accept_of}
use Rattle.opening.specs.Open.{End, end, after_rows, stages_of, settled, cleared, open_of}
use Rattle.finishing.specs.InOneCall.{after_opening, finish_of}
use Rattle.prefix.specs.Decides.{LONGEST, DECIDES}
use Rattle.prefix.proofs.Alike.{fill_same, fill_longest}

-- all stages after reading
abbrev onwards : List ℕ → fill.ReadEnd → End
onwards lent T = cond (ltb (length lent) LENGTH) (end (Err refusal.Full) (replicate (length lent) 0)) (settled (length lent) (after_rows (judged (with_counts T))))

-- what opening reads, over a live block of zeros
abbrev read_in : List ℕ → List ℕ → fill.ReadEnd
read_in bytes lent = fill_of bytes (cleared lent) (replicate 256 0) (replicate 2560 0)

open_reads : (bytes lent : List ℕ) → open_of bytes lent ≡ onwards lent (read_in bytes lent)
unfolding open_of stages_of accept_of read_of
open_reads bytes lent = refl

-- inputs that begin alike
module _ (a b : List ℕ) (e : take DECIDES a ≡ take DECIDES b) (lent : List ℕ) where
  pub open_same : open_of a lent ≡ open_of b lent
  open_same = rw (open_reads a lent, open_reads b lent, fill_same a b e (cleared lent) (replicate 256 0) (replicate 2560 0))

  pub finish_same : (t : List ℕ) → finish_of a lent t ≡ finish_of b lent t
  unfolding finish_of
  finish_same t = ap (λ (r : End). after_opening r t) open_same

-- THE LAWS: 50,201 bytes, or all where there are fewer
pub open_decided : (bytes lent : List ℕ) → open_of (take DECIDES bytes) lent ≡ open_of bytes lent
open_decided bytes lent = open_same (take DECIDES bytes) bytes (take-take DECIDES DECIDES bytes (omega arith)) lent

pub finish_decided : (bytes lent t : List ℕ) → finish_of (take DECIDES bytes) lent t ≡ finish_of bytes lent t
finish_decided bytes lent t = finish_same (take DECIDES bytes) bytes (take-take DECIDES DECIDES bytes (omega arith)) lent t

-- and no job longer than 50,180 bytes is accepted
pub longest : (bytes lent w : List ℕ) → open_of bytes lent ≡ end (Ok tt) w → length bytes ≤ LONGEST
longest bytes lent w e = by (read_in bytes lent) refl (ltb (length lent) LENGTH) (rw (open_reads bytes lent) at e)
  where
    by : (T : fill.ReadEnd) → read_in bytes lent ≡ T → (t : Bool) → cond t (end (Err refusal.Full) (replicate (length lent) 0)) (settled (length lent) (after_rows (judged (with_counts T)))) ≡ end (Ok tt) w → length bytes ≤ LONGEST
    by (fill.end (Ok j) v ts ks) f t d = fill_longest bytes j v ts ks (cleared lent) (replicate 256 0) (replicate 2560 0) f
    by (fill.end (Err x) v ts ks) f true d = absurd (let z : ◌≡◌ {A = ℕ} 0 1 = cc in omega arith)
    by (fill.end (Err x) v ts ks) f false d = absurd (let z : ◌≡◌ {A = ℕ} 0 1 = cc in omega arith)

-- the two numbers
pub longest_is : LONGEST ≡ 50180
longest_is = refl

pub decides_is : DECIDES ≡ 50201
decides_is = refl
