-- Of a job, after any list of calls, laying together among them: what requests 5 and 6 and demand 3 say of lists of steps. And finishing in one call, with calls after it.
use Rattle.std.specs.Prelude.{ℕ, ◌≤◌, ◌<◌, ◌≡◌, ◌⊎◌, true, false, List, [], ◌∷◌, ◌++◌, map, Err, Ok}
use Rattle.job.specs.declared.refusal.Refusal.TheVariants.{Full}
use Rattle.rings.specs.Progress.{Ring, triangle}
use Rattle.geometry.specs.declared.Point.{Point}
use Rattle.lone.specs.Forest.{left_closed}
use Rattle.store.specs.Words.{Store, view}
use Rattle.store.specs.Sound.{pts, recs, is_open, due_at, Closed}
use Rattle.steps.specs.Live.{any_live}
use Rattle.telling.specs.declared.Reason.{Reason}
use Rattle.telling.specs.Telling.{reason_at, reason_of}
use Rattle.opening.specs.Open.{end, open_of}
use Rattle.finishing.specs.Step.{step_of}
use Rattle.order.specs.Calls.{Call, step_on, words_after}
use Rattle.order.specs.Demand3.{Same, AsLeft, fed}
use Rattle.order.specs.Jobs.{RisingFrom}
use Rattle.tidied.specs.Tidied.{PassBehind}
use Rattle.ended.specs.Alike.{kind_of}
use Rattle.ended.specs.Ended.{OfOpen, Ended}
use Rattle.ended.specs.Stages.{Stages}
use Rattle.history.specs.Histories.{History, state_of, led, start_after}
use Rattle.history.specs.AfterCalls.{AfterCalls}

-- two stores that lists of calls left, every closed ring done, w being the start of both: the same counts, rings and reasons, and open rings word for word. Numbers of offcuts may differ
pub record SameShapes (w : List ℕ) (s t : Store) : Type 0 where
  pub points_used : pts s ≡ pts t
  pub records_used : recs s ≡ recs t
  pub rings : (j : ℕ) (R : Ring Point) → j < recs (view w) → fed w j ≡ left_closed R → Same s t (j ∷ []) (j ∷ [])
  pub open_rings : (j : ℕ) → j < recs (view w) → is_open (view w) j ≡ true → AsLeft s t j
  pub reasons : (j : ℕ) → j < recs (view w) → kind_of (reason_at s j) ≡ kind_of (reason_at t j)
  pub offcut_reasons : (a b : ℕ) (xs ys : List ℕ) → recs (view w) ≤ a → a < recs s → recs (view w) ≤ b → b < recs t → Same s t (a ∷ xs) (b ∷ ys) → kind_of (reason_at s a) ≡ kind_of (reason_at t b)

-- h: a history of the job, from what opening left; u: a work space that it led to, with no name kept
module _ (h : History) (u : List ℕ) where
  -- the store after a list of calls
  abbrev pub store_after : List Call → Store
  store_after cs = view (words_after u cs)

  -- asked for record j of a finished work space, the call tells the rule that in fact ended the ring, in the steps that led here; and nothing else happened
  pub record ToldAfter (bytes lent : List ℕ) (t : Stages bytes lent h.start) (cs : List Call) (j : ℕ) : Type 0 where
    pub call : reason_of (words_after u cs) j ≡ Ok (reason_at (store_after cs) j)
    pub told : Ended bytes lent h.start t (led h cs) j (reason_at (store_after cs) j)
    pub only : (r : Reason) → Ended bytes lent h.start t (led h cs) j r → r ≡ reason_at (store_after cs) j
    pub opened : is_open (store_after cs) j ≡ true → OfOpen (reason_at (store_after cs) j)

  -- of the lists whose steps lead from the start s: "no such list has a step refused as full and each can be carried on until all are done": by further steps
  pub record CallsFit (s : List ℕ) : Type 0 where
    pub never_full : (cs : List Call) → start_after h cs ≡ s → (i : ℕ) → ¬ ((step_of (words_after u cs) i).answer ≡ Err Full)
    pub goes_on : (cs : List Call) → start_after h cs ≡ s → (is : List ℕ) × (any_live (store_after (cs ++ map step_on is)) ≡ false)

  -- "or none can be carried on so far"
  abbrev pub CallsNeverEnd : List ℕ → Type 0
  CallsNeverEnd s = (cs : List Call) → start_after h cs ≡ s → ¬ (any_live (store_after cs) ≡ false)

  pub record JobAfterCalls (bytes lent : List ℕ) (t : Stages bytes lent h.start) : Type 0 where
    pub after_calls : AfterCalls h u
    -- request 5, where the steps lead from this opening: no laying together was accepted (`one_start`), or a state kept before it was gone back to. (Of a laid drawing: `laid`, `OwnOf.reasons`)
    pub told : (cs : List Call) → start_after h cs ≡ h.start → (j : ℕ) → j < recs (store_after cs) → any_live (store_after cs) ≡ false → ToldAfter bytes lent t cs j
    -- request 6: wherever the triangle test is due, a whole removal pass is behind the ring, in the steps that led here
    pub tidy : (cs : List Call) (j : ℕ) → Closed (store_after cs) j → due_at (store_after cs) j ≡ triangle → PassBehind (start_after h cs) (led h cs) j
    -- demand 3's `whatever_order`, and request 5's "Any order of steps gives a ring the same reason", of two lists whose steps lead from one start
    pub whatever_order : (cs ds : List Call) → start_after h cs ≡ start_after h ds → any_live (store_after cs) ≡ false → any_live (store_after ds) ≡ false → SameShapes (start_after h cs) (store_after cs) (store_after ds)
    -- and its two ways, from every start that a list comes to: this opening (the empty list, and every other with no laying accepted), or a pair
    pub either : (cs : List Call) → CallsFit (start_after h cs) ⊎ CallsNeverEnd (start_after h cs)

-- of the job's bytes in a lent work space: opening accepts it, the steps of the history h led from there to u, and calls may follow
pub record JobThen (bytes lent : List ℕ) (h : History) (u : List ℕ) : Type 0 where
  pub opened : open_of bytes lent ≡ end (Ok tt) h.start
  pub stages : Stages bytes lent h.start
  pub words : u ≡ state_of h
  pub further : JobAfterCalls h u bytes lent stages

-- finishing in one call left u: its steps are in rising record order
pub record FinishedThen (bytes lent u : List ℕ) : Type 0 where
  pub history : History
  pub rising : RisingFrom 0 history.steps
  pub job : JobThen bytes lent history u
