-- 50,201 bytes decide the text of a job's records: what follows them changes nothing.
use mathlib.Core.Path.{◌≡◌, ap}
use mathlib.Core.List.{List}
use Prim.Native.Nat.{ℕ}
use lib.ListN.{take}
use Rattle.prefix.specs.Decides.{DECIDES}
use Rattle.prefix.proofs.Decided.{finish_decided}
use Rattle.job_reasons.specs.Reasons.{reasons_from, reasons_of}

pub reasons_decided : (bytes lent t : List ℕ) → reasons_of (take DECIDES bytes) lent t ≡ reasons_of bytes lent t
unfolding reasons_of
reasons_decided bytes lent t = ap reasons_from (finish_decided bytes lent t)
