-- The layout's numbers, computed.
use mathlib.Core.Path.{◌≡◌, refl}
use Rattle.store.specs.Field.{pt, rc, REC, Z, FLAGS, TAKER, base, BOXES, BLOCK, LENGTH}

records_named_at : base (pt REC) ≡ 8208
records_named_at = refl

depths_at : base (pt Z) ≡ 10256
depths_at = refl

records_at : base (rc FLAGS) ≡ 12304
records_at = refl

takers_at : base (rc TAKER) ≡ 16400
takers_at = refl

boxes_at : BOXES ≡ 16912
boxes_at = refl

pub block_is : BLOCK ≡ 18960
block_is = refl

pub length_is : LENGTH ≡ 94804
length_is = refl
