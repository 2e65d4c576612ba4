-- The store and the words after an act: its writes, one after another. And the places that it takes.
use Rattle.std.specs.Prelude.{ℕ, Bool, true, false, List, []}
use Rattle.rings.specs.Progress.{Due}
use Rattle.lone.specs.Act.{Act, stay, discard, drop_point, move_on, to_first, double, cut}
use Rattle.store.specs.Field.{pt, rc, NEXT, PRESENT}
use Rattle.store.specs.Words.{Store, Write, view, on_words}
use Rattle.acts.specs.Writes.{move_writes, to_first_writes, discard_writes, drop_writes, double_writes, cut_writes, cut_put_writes, offcut_writes}

-- a point's value as three words: read, and written
pub record Coding (P : Type 0) : Type 0 where
  pub of : ℕ → ℕ → ℕ → P
  pub xw : P → ℕ
  pub yw : P → ℕ
  pub zw : P → ℕ

module _ {P : Type 0} where
  -- the records that an act takes
  abbrev pub takes_record : Act P → ℕ
  takes_record stay = 0
  takes_record (discard y) = 0
  takes_record drop_point = 0
  takes_record (move_on d) = 0
  takes_record (to_first d) = 0
  takes_record (double v d) = 0
  takes_record (cut v put false d) = 0
  takes_record (cut v put true d) = 1

module _ {P : Type 0} (f : Coding P) where
  -- what a cut writes in the ring itself
  abbrev pub ring_writes : Store → ℕ → P → Bool → Due → List Write
  ring_writes s i v true d = cut_put_writes s i (f.xw v) (f.yw v) (f.zw v) d
  ring_writes s i v false d = cut_writes s i d

  -- what it then writes for its offcut, on s₁: the present point and the next one are those of the store s before the cut
  abbrev pub off_writes : Store → Store → ℕ → P → Bool → List Write
  off_writes s s₁ i v true = offcut_writes s₁ i (s (rc PRESENT) i) (s (pt NEXT) (s (rc PRESENT) i)) (f.xw v) (f.yw v) (f.zw v)
  off_writes s s₁ i v false = []

  -- the words after it
  abbrev pub after_w : List ℕ → ℕ → Act P → List ℕ
  after_w w i stay = w
  after_w w i (discard y) = on_words w (discard_writes i y)
  after_w w i drop_point = on_words w (drop_writes (view w) i)
  after_w w i (move_on d) = on_words w (move_writes (view w) i d)
  after_w w i (to_first d) = on_words w (to_first_writes (view w) i d)
  after_w w i (double v d) = on_words w (double_writes (view w) i (f.xw v) (f.yw v) (f.zw v) d)
  after_w w i (cut v put off d) = on_words (on_words w (ring_writes (view w) i v put d)) (off_writes (view w) (view (on_words w (ring_writes (view w) i v put d))) i v off)
