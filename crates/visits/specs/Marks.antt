-- The marks that the ring walks set, a word at a time, and where the walks stand.
use Rattle.std.specs.Prelude.{ℕ, zero, suc, ◌+◌, ◌-◌, ◌*◌, ◌/◌, ◌<◌, ◌≤◌, ◌≡◌, true, false, List, [], ◌∷◌, replicate}
use Rattle.job.specs.Limits.{POINTS}
use Rattle.rings.specs.Walk.{run}
use Rattle.marks.specs.Marks.{BITS, WORDS, with_mark, with_bits}
use Rattle.store.specs.Words.{view}
use Rattle.store.specs.Named.{records_of, next_of}
use Rattle.store.specs.Sound.{ring_at}
use Rattle.audit.specs.Tests.{any_below}
use Rattle.visits.specs.Rings.{any_in, elsewhere, estranged}
use Rattle.visits.specs.declared.Place.{Place}
use Rattle.visits.specs.declared.Gathered.{Gathered}

-- a mark set for each point of a list
unfoldable pub marks_on : List ℕ → List ℕ → List ℕ
marks_on [] ms = ms
marks_on (k ∷ l) ms = marks_on l (with_mark ms k)

-- the marks after the walks round the rings of the records below i
unfoldable pub marks_to : List ℕ → ℕ → List ℕ
marks_to w zero = replicate WORDS 0
marks_to w (suc i) = marks_on (ring_at (view w) i) (marks_to w i)

-- the beginning of record i's ring, with nothing to go if it has none
pub record Begins (w : List ℕ) (i : ℕ) (c : Place) : Type 0 where
  pub ring : c.ring ≡ i
  pub ahead : run (next_of w) c.first c.left c.point ≡ ring_at (view w) i
  pub few : c.left ≤ POINTS

-- where a stretch of a ring stands: of the points from p on, `left` at most, those from q on are ahead, n at most, and the bits are those of the ones behind, all of one word
pub record Stretching (w : List ℕ) (i a p left word bits q n : ℕ) : Type 0 where
  pub found : any_in (λ k. elsewhere w i k) (run (next_of w) a n q) ≡ any_in (λ k. elsewhere w i k) (run (next_of w) a left p)
  pub marks : (ms : List ℕ) → marks_on (run (next_of w) a n q) (with_bits ms word bits) ≡ marks_on (run (next_of w) a left p) ms

-- a stretch that ended at a point that resolves elsewhere
pub record Met (w : List ℕ) (c : Place) : Type 0 where
  pub found : any_in (λ k. elsewhere w c.ring k) (run (next_of w) c.first c.left c.point) ≡ true

-- a stretch that ended where the ring does
pub record Back (w : List ℕ) (c : Place) (word bits : ℕ) : Type 0 where
  pub none : any_in (λ k. elsewhere w c.ring k) (run (next_of w) c.first c.left c.point) ≡ false
  pub marks : (ms : List ℕ) → marks_on (run (next_of w) c.first c.left c.point) ms ≡ with_bits ms word bits

-- a stretch that ended at a point in another word, which is not the one that it began at if that lies in the word
pub record Onward (w : List ℕ) (c : Place) (word bits : ℕ) (d : Place) : Type 0 where
  pub ring : d.ring ≡ c.ring
  pub first : d.first ≡ c.first
  pub goes_on : Stretching w c.ring c.first c.point c.left word bits d.point d.left
  pub falls : c.point / BITS ≡ word → d.left < c.left
  pub few : d.left ≤ c.left

-- where the walks stand: no point of the rings below the place's resolves elsewhere, of its ring the points from its point on are ahead, and all points behind have their marks
pub record Standing (w : List ℕ) (c : Place) (ms : List ℕ) : Type 0 where
  pub few : c.ring ≤ records_of w
  pub none : any_below c.ring (λ i. estranged w i) ≡ false
  pub found : any_in (λ k. elsewhere w c.ring k) (run (next_of w) c.first c.left c.point) ≡ estranged w c.ring
  pub marks : marks_on (run (next_of w) c.first c.left c.point) ms ≡ marks_to w (suc c.ring)
  pub all : records_of w ≤ c.ring → ms ≡ marks_to w c.ring

-- how far it is from a place to the end of all rings
abbrev pub to_go : List ℕ → Place → ℕ
to_go w c = (records_of w - c.ring) * suc POINTS + c.left

-- from a place on a point is met that resolves elsewhere
pub record Strays (w : List ℕ) (c : Place) : Type 0 where
  pub met : (ms : List ℕ) → Standing w c ms → any_below (records_of w) (λ i. estranged w i) ≡ true

-- what is gathered from a place on: the bits are the marks of the points from there to where the walks go on
pub record Gathers (w : List ℕ) (c : Place) (g : Gathered) : Type 0 where
  pub goes_on : (ms : List ℕ) → Standing w c ms → Standing w g.place (with_bits ms g.word g.bits)
  pub falls : c.ring < records_of w → to_go w g.place < to_go w c
