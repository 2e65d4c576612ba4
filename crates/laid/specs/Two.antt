-- Document 02, Ask 11, "Two drawings on one table": what holds of work spaces w and v that were laid together in u. Beside it read laying's Lay (`lay_of`: what is answered, and the order of the tests), Pooled and
-- order's Demand3. Proved of every two work spaces (proofs/Two, `two_drawings`), and that two accepted jobs with equal settings, and room for both, are laid together (proofs/Jobs, `of_jobs`).
use Rattle.std.specs.Prelude.{ℕ, ◌+◌, ◌<◌, ◌≤◌, ◌≡◌, List, [], ◌∷◌, ◌++◌, drop, Ok, Err}
use Rattle.job.specs.declared.refusal.Refusal.{Refusal}
use Rattle.rings.specs.Count.{sum_by}
use Rattle.rings.specs.Progress.{Ring}
use Rattle.geometry.specs.declared.Point.{Point}
use Rattle.lone.specs.Forest.{left_closed}
use Rattle.lone.specs.Writing.{closed_paths, open_paths}
use Rattle.store.specs.Field.{BLOCK}
use Rattle.store.specs.Words.{view}
use Rattle.store.specs.Sound.{pts, recs}
use Rattle.store.specs.Value.{preserve_collinear, reverse_solution}
use Rattle.audit.specs.Left.{left}
use Rattle.telling.specs.declared.Reason.{Reason}
use Rattle.telling.specs.declared.Reason.TheVariants.{NoRing, Joined, SmallRing, RingFell, SmallArea, ShortPath, SmallPath, Written}
use Rattle.telling.specs.Telling.{reason_at}
use Rattle.finishing.specs.Start.{Start}
use Rattle.order.specs.Demand3.{Same, G, reversed, now, fed, opened, lones, AllDoneAfter, Demand3}
use Rattle.tidied.specs.Tidied.{NothingLeft}
use Rattle.laying.specs.Lay.{lay_of}

-- what writing out gives of w after a list of steps that ends in all done (`written_out` of `After`): its closed and its open outlines
abbrev pub closed_after : List ℕ → List ℕ → List (List Point)
closed_after w is = closed_paths (G w) (reversed w) (lones w is)

abbrev pub open_after : List ℕ → List ℕ → List (List Point)
open_after w is = open_paths (G w) (reversed w) (lones w is)

-- a reason without its place in a list, and with its taker's number raised by m
abbrev pub raised_reason : ℕ → Reason → Reason
raised_reason m NoRing = NoRing
raised_reason m (Joined u) = Joined (m + u)
raised_reason m SmallRing = SmallRing
raised_reason m RingFell = RingFell
raised_reason m SmallArea = SmallArea
raised_reason m ShortPath = ShortPath
raised_reason m SmallPath = SmallPath
raised_reason m (Written o place) = Written o 0

-- a drawing x that was laid into u, its records numbered from m on: after the steps ks of the pair, and `is` of the drawing alone, all done
pub record OwnOf (x u : List ℕ) (m : ℕ) (ks is : List ℕ) : Type 0 where
  -- each ring, with its offcuts in cutting order and theirs, has the points and the outline that it has in its own drawing, and was discarded by the same rule, if it was
  pub rings : (j : ℕ) (R : Ring Point) → j < recs (view x) → fed x j ≡ left_closed R → Same (now u ks) (now x is) ((m + j) ∷ []) (j ∷ [])
  -- asked where a shape went (request 5), each record has its own reason, the taker's number raised
  pub reasons : (j : ℕ) → j < recs (view x) → raised_reason 0 (reason_at (now u ks) (m + j)) ≡ raised_reason m (reason_at (now x is) j)
  -- and so has each offcut, matched by the ring that it was cut from, in cutting order
  pub offcut_reasons : (a b : ℕ) (xs ys : List ℕ) → recs (view u) ≤ a → a < recs (now u ks) → recs (view x) ≤ b → b < recs (now x is) → Same (now u ks) (now x is) (a ∷ xs) (b ∷ ys)
      → raised_reason 0 (reason_at (now u ks) a) ≡ raised_reason m (reason_at (now x is) b)

pub record OfTwo (w v u : List ℕ) : Type 0 where
  pub laid : lay_of w v ≡ left (Ok tt) u
  -- each is a start, the two and the pooled one: "with laying together in opening's place"
  pub first : Start w
  pub second : Start v
  pub both : Start u
  -- one setting for all three
  pub preserves : (preserve_collinear (view u) ≡ preserve_collinear (view w)) × (preserve_collinear (view v) ≡ preserve_collinear (view w))
  pub reverses : (reverse_solution (view u) ≡ reverse_solution (view w)) × (reverse_solution (view v) ≡ reverse_solution (view w))
  -- "puts the second's points and records after the first's .. and makes no joins across": the rings are the first's, then the second's, by value
  pub points_are : pts (view u) ≡ pts (view w) + pts (view v)
  pub records_are : recs (view u) ≡ recs (view w) + recs (view v)
  pub rings_are : opened u ≡ opened w ++ opened v
  -- "the first's kept states remain, the second's aren't brought": names and copies, word for word, and what lies past the fixed length
  pub behind : drop BLOCK u ≡ drop BLOCK w
  -- "Demand 3 holds from there too"; and request 6
  pub holds : Demand3 u
  pub tidy : NothingLeft u
  -- "If all steps finish": then they do of each alone
  pub first_ends : (ks : List ℕ) → AllDoneAfter u ks → (is : List ℕ) × AllDoneAfter w is
  pub second_ends : (ks : List ℕ) → AllDoneAfter u ks → (js : List ℕ) × AllDoneAfter v js
  -- "the pooled rings give each drawing's own outlines and offcuts", whatever the lists of steps were, the second's under their numbers raised
  pub first_own : (ks is : List ℕ) → AllDoneAfter u ks → AllDoneAfter w is → OwnOf w u 0 ks is
  pub second_own : (ks js : List ℕ) → AllDoneAfter u ks → AllDoneAfter v js → OwnOf v u (recs (view w)) ks js
  -- and no others: by any weight f of an outline the pooled closed ones weigh what the first's and the second's do together (f may count one outline, or all). Their order is by pooled record number
  pub closed_outlines : (ks is js : List ℕ) → AllDoneAfter u ks → AllDoneAfter w is → AllDoneAfter v js → (f : List Point → ℕ)
      → sum_by f (closed_after u ks) ≡ sum_by f (closed_after w is) + sum_by f (closed_after v js)
  -- the open ones are the first's, then the second's
  pub open_outlines : (ks is js : List ℕ) → open_after u ks ≡ open_after w is ++ open_after v js

-- of every two work spaces
pub record TwoDrawings (w v : List ℕ) : Type 0 where
  -- "Each refusal changes neither": not the first; the second is only read
  pub refused : (x : Refusal) → (lay_of w v).answer ≡ Err x → (lay_of w v).words ≡ w
  pub together : (lay_of w v).answer ≡ Ok tt → OfTwo w v (lay_of w v).words
