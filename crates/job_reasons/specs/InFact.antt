-- Of an accepted job: each line has the reason that the call `reason_of` tells, which is the rule that in fact ended the record's ring.
use Rattle.std.specs.Prelude.{◌≡◌, List, ℕ, ◌<◌}
use Rattle.store.specs.Words.{view}
use Rattle.store.specs.Sound.{recs}
use Rattle.std.specs.Prelude.{Ok}
use Rattle.telling.specs.Telling.{reason_at, reason_of}
use Rattle.finishing.specs.Run.{run_of}
use Rattle.finishing.specs.InOneCall.{finish_of}
use Rattle.ended.specs.Stages.{Stages}
use Rattle.ended.specs.Ended.{ToldRight}
use Rattle.job_reasons.specs.Lines.{reasons_text}
use Rattle.job_reasons.specs.Reasons.{reasons_of}

-- of the job's bytes, finished in one call in a lent work space and a tray t
module _ (bytes lent t : List ℕ) where
  -- the words that are left
  abbrev pub left : List ℕ
  left = (finish_of bytes lent t).words

  pub record InFact : Type 0 where
    -- the text is the lines of their records
    pub text : reasons_of bytes lent t ≡ reasons_text (view left)
    -- a line's reason is what the call tells: below the count it is never refused
    pub calls : (i : ℕ) → i < recs (view left) → reason_of left i ≡ Ok (reason_at (view left) i)
    -- what opening left, stage by stage, and the steps since
    pub opened : List ℕ
    pub stages : Stages bytes lent opened
    pub steps : List ℕ
    pub words : left ≡ run_of opened steps
    -- that reason is what happened to the ring (`told`), and nothing else did (`only`)
    pub ends : (i : ℕ) → i < recs (view left) → ToldRight bytes lent opened stages steps i
