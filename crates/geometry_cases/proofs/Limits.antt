-- A number that passed the two tests of `coordinate` is within the limit.
use Rattle.std.proofs.Common.{◌≡◌, ◌^◌, ◌≤◌, false, ℤ, pos, negsuc, arith, ltb-false}
use lib.Signed.{lt_z}
use Rattle.exact.specs.Num.{Within}

pub limited : (z : ℤ) → lt_z (pos 1048576) z ≡ false → lt_z z (negsuc 1048575) ≡ false → Within (2 ^ 20) z
limited (pos n) h k = record { size = ltb-false 1048576 n h }
limited (negsuc n) h k = let l : n ≤ 1048575 = ltb-false 1048575 n k in record { size = omega arith }
