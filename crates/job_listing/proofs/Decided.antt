-- 50,201 bytes decide a job's listing: what follows them changes nothing.
use mathlib.Core.Path.{◌≡◌, ap}
use mathlib.Core.List.{List}
use Prim.Native.Nat.{ℕ}
use lib.ListN.{take}
use Rattle.rates.specs.declared.Rate.{Rate}
use Rattle.prefix.specs.Decides.{DECIDES}
use Rattle.prefix.proofs.Decided.{finish_decided}
use Rattle.job_listing.specs.Cutlist.{listed_from, cutlist_of}

pub cutlist_decided : (rate : Rate) (bytes lent t : List ℕ) → cutlist_of rate (take DECIDES bytes) lent t ≡ cutlist_of rate bytes lent t
unfolding cutlist_of
cutlist_decided rate bytes lent t = ap (listed_from rate) (finish_decided bytes lent t)
