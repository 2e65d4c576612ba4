-- Words and forest in step: the forest that a sound store holds, whoever wrote it. A closed ring's start may be any word, since it is only compared, and a record
-- without a closed ring may name a ring that it was cut from, since nothing reads that.
use Rattle.std.specs.Prelude.{ℕ, ◌<◌, ◌≡◌, ◌≢◌, true, false, List, map, length}
use Rattle.std.proofs.Math.Option.{Option, none, some}
use Rattle.rings.specs.Progress.{Ring, map_ring}
use Rattle.lone.specs.Forest.{State, Entry, open_ring, closed_ring, Forest, at, ok}
use Rattle.lone.specs.Forest as forest
use Rattle.lone.specs.Lone.{Geo}
use Rattle.lone.specs.Act.{rings_new}
use Rattle.store.specs.Field.{rc, START, CUT, NONE}
use Rattle.store.specs.Words.{Store}
use Rattle.store.specs.Sound.{pts, recs, ringless, ring_at, is_open, lone_at}
use Rattle.store.specs.Good.{Sound}
use Rattle.acts.specs.Apply.{Coding}
use Rattle.acts.specs.Value.{value}
use Rattle.acts.specs.Step.{act_at, answer_s}

-- the record that a ring was cut from, as a word
abbrev pub or_none : Option ℕ → ℕ
or_none none = NONE
or_none (some q) = q

module _ {P : Type 0} (of : ℕ → ℕ → ℕ → P) where
  -- record i of the store is this record of the forest. What its lone ring cut off and took is not in the words.
  pub data Holds (s : Store) (i : ℕ) : Entry (Ring P) (List P) → Type 0 where
    no_ring : ringless s i ≡ true → Holds s i forest.ringless
    an_open : (c : List P) → is_open s i ≡ true → c ≡ map (value of s) (ring_at s i) → Holds s i (open_ring c)
    a_closed : (q : Option ℕ) (L : State (Ring P)) → is_open s i ≡ false → s (rc CUT) i ≡ or_none q → L.now ≡ map_ring (value of s) (lone_at s i) → Holds s i (closed_ring q L)

  pub record InStep (s : Store) (F : Forest (Ring P) (List P)) : Type 0 where
    pub sound : Sound s
    pub points_are : F.points ≡ pts s
    pub records_are : length F.entries ≡ recs s
    pub holds : (i : ℕ) → i < recs s → Holds s i (at F.entries i)

module _ {P : Type 0} (G : Geo P) (f : Coding P) (s : Store) where
  -- if the step on record i is carried out and puts a point into the ring, the ring's start is not the number that this point takes
  abbrev pub Elsewhere : ℕ → Type 0
  Elsewhere i = answer_s G f s i ≡ ok → (v : P) → rings_new (act_at G f s i) ≡ some v → s (rc START) i ≢ pts s
