-- What demand 3 says of the forest: after every list of steps each record is where its lone ring is alone, counts and answers included.
use Rattle.std.specs.Prelude.{◌≡◌, ◌⊎◌, ◌↔◌, List, ◌++◌, map, true, false, ℕ, ◌+◌, ◌≤◌, ◌<◌, length}
use Rattle.std.proofs.Math.Option.{some}
use Rattle.std.proofs.Math.ListN.{get_elem?}
use Rattle.rings.specs.Progress.{Ring}
use Rattle.lone.specs.Lone.{Geo, is_done, step_ring, offcut_ring, takes_ring}
use Rattle.lone.specs.Forest.{Machine, initial, to_list, Entry, ringless, open_ring, closed_ring, Fed, ok, full, out_of_turn, Forest, naming, enter, at, OfClosed, cut_from, offcuts_of, rank, all_taken, all_cut, steps_state, steps_entry, answer, answer_to, run_forest}

-- the lone ring as a machine of the forest
unfoldable pub machine : {P : Type 0} → Geo P → Machine (Ring P)
machine G = record { over = λ R. is_done R.due; takes = takes_ring G; next = step_ring G; cuts = offcut_ring G }

-- the two ways that lists of steps can go, by the step that is refused as full after a list, and by the lists that end in all done: "either no such list has a step
-- refused as full and each can be carried on until all are done,
pub record Fits (FullAt : List ℕ → ℕ → Type 0) (EndsAt : List ℕ → Type 0) : Type 0 where
  pub never_full : (s : List ℕ) (i : ℕ) → ¬ FullAt s i
  pub goes_on : (s : List ℕ) → (t : List ℕ) × EndsAt (s ++ t)

-- or none can be carried on so far"
abbrev pub NeverEnds : (List ℕ → Type 0) → Type 0
NeverEnds EndsAt = (s : List ℕ) → ¬ EndsAt s

module _ {S X : Type 0} (M : Machine S) where
  -- record j was cut from record `from`, and is the offcut of j's rank among those cut from it, stepped g j times from its start: "a ring's
  -- offcuts, by rising record number, have its lone ring's offcuts in cutting order, each from its start"
  pub record IsOffcut (es : List (Entry S X)) (g : ℕ → ℕ) (j : ℕ) : Type 0 where
    pub from : ℕ
    -- the offcut at its start
    pub seed : S
    pub before : from < j
    pub cut_as : get_elem? (offcuts_of (at es from)) (rank es from j) ≡ some seed
    pub is : at es j ≡ closed_ring (some from) (steps_state M (g j) (initial seed))
    pub unfinished : (k : ℕ) → k < g j → M.over (steps_state M k (initial seed)).now ≡ false

  -- os: what opening left; es: the records now; g: how many steps on each record were not refused
  pub record Alone (os : List (Fed S X)) (es : List (Entry S X)) (g : ℕ → ℕ) : Type 0 where
    -- no record goes away; a number that is no record's had no step
    pub longer : length os ≤ length es
    pub idle : (j : ℕ) → length es ≤ j → g j ≡ 0
    -- "A ring that opening left closed has the lone ring fed with it"; "open rings are as opening left them"
    pub opened : (j : ℕ) → j < length os → at es j ≡ steps_entry M (g j) (at (map enter os) j)
    -- no step was on a done one: "a done one refuses every step"
    pub unfinished : (j k : ℕ) → j < length os → k < g j → OfClosed (λ (s : S). M.over s ≡ false) (steps_entry M k (at (map enter os) j))
    pub offcut : (j : ℕ) → length os ≤ j → j < length es → IsOffcut es g j
    -- "as many offcuts"
    pub as_many : (p : ℕ) → naming p (map cut_from es) ≡ length (offcuts_of (at es p))

  -- no lone ring, or a done one
  abbrev pub NoneOrDone : Entry S X → Type 0
  NoneOrDone ringless = Unit {0}
  NoneOrDone (open_ring x) = Unit {0}
  NoneOrDone (closed_ring q L) = M.over L.now ≡ true

  -- all are done
  abbrev pub AllDone : List (Entry S X) → Type 0
  AllDone es = (i : ℕ) → NoneOrDone (at es i)

  module _ (lp lr : ℕ) where
    -- the lone ring's step would take a count past its limit, of p points and r records used
    abbrev pub TakesPast : Entry S X → ℕ → ℕ → Type 0
    TakesPast ringless p r = ⊥
    TakesPast (open_ring x) p r = ⊥
    TakesPast (closed_ring q L) p r = (lp < p + M.takes L.now) ⊎ (lr < r + length (to_list (M.cuts L.now)))

    -- "A further step is refused with 12 exactly when its record has no lone ring or a done one; else with 10 exactly when the lone ring's step
    -- would take a count past 2,048 or 512; else not at all": a is the answer, of a kind A that has these three
    pub record Exactly {A : Type 0} (carried_out refused10 refused12 a : A) (e : Entry S X) (p r : ℕ) : Type 0 where
      pub twelve : (a ≡ refused12) ↔ NoneOrDone e
      pub ten : (a ≡ refused10) ↔ ((¬ NoneOrDone e) × TakesPast e p r)
      pub neither : (a ≡ carried_out) ↔ ((¬ NoneOrDone e) × (¬ TakesPast e p r))

    -- document 01's bullets of a forest F, from what opening left and p₀ points, with g steps not refused on each record: "Each closed ring has its
    -- lone ring's .. step due or done, and as many offcuts; open rings are as opening left them" (alone, where a closed record holds its lone
    -- ring); "Counts of points and records are those at opening plus all that the lone rings took"
    pub record Independent (os : List (Fed S X)) (p₀ : ℕ) (F : Forest S X) (g : ℕ → ℕ) : Type 0 where
      pub alone : Alone os F.entries g
      pub points_used : F.points ≡ p₀ + all_taken F.entries
      pub records_used : length F.entries ≡ length os + all_cut F.entries
      pub answers : (i : ℕ) → answer M lp lr F i ≡ answer_to M lp lr (at F.entries i) (p₀ + all_taken F.entries) (length os + all_cut F.entries)
      pub exactly : (i : ℕ) → Exactly ok full out_of_turn (answer M lp lr F i) (at F.entries i) (p₀ + all_taken F.entries) (length os + all_cut F.entries)

    -- the two ways of a forest
    abbrev pub ForestFits : Forest S X → Type 0
    ForestFits F = Fits (λ (s : List ℕ). λ (i : ℕ). answer M lp lr (run_forest M lp lr F s) i ≡ full) (λ (s : List ℕ). AllDone (run_forest M lp lr F s).entries)

    abbrev pub ForestNeverEnds : Forest S X → Type 0
    ForestNeverEnds F = NeverEnds (λ (s : List ℕ). AllDone (run_forest M lp lr F s).entries)
