-- Ask 14, of every list of bytes.
use mathlib.Core.List.{List}
use Prim.Native.Nat.{ℕ}
use Rattle.mending.specs.Mends.{Mends}
use Rattle.mending.proofs.Exactly.{one_five, mended_exactly, seventeen_exactly, refused_of, past_of, done_well, longest_of, decided_of}
use Rattle.mending.proofs.Opened.{opens_tight}
use Rattle.mending.proofs.Again.{comes_back_so, mends_once}

pub mends : (bytes : List ℕ) → Mends bytes
mends bytes =
    record {
      one_to_five = one_five bytes;
      mended_where = mended_exactly bytes;
      seventeen = seventeen_exactly bytes;
      refused = refused_of bytes;
      done = done_well bytes;
      opens = opens_tight bytes;
      past_means = past_of bytes;
      unaltered = comes_back_so bytes;
      again = mends_once bytes;
      decided = decided_of bytes;
      longest = longest_of bytes;
    }
