-- Finishing depends on the drawing only: two jobs with the same drawing finish alike, in every work space and on every tray.
use Prim.Native.Nat.{ℕ, ◌≤◌}
use mathlib.Core.Path.{◌≡◌, refl, ◌∙◌}
use mathlib.Core.Bool.{Bool, true, false}
use mathlib.Core.List.{List}
use mathlib.Core.Option.{some}
use native.Mathlib.Omega.{arith}
use lib.Dec.{ltb}
use lib.ListN.{length, replicate}
use Rattle.std.proofs.Common.{Ok, Err}
use Rattle.job.specs.Limits as limit
use Rattle.job.specs.declared.Job.{Job}
use Rattle.job.specs.declared.refusal.Refusal.TheVariants as refusal
use Rattle.store.specs.Field.{BLOCK, LENGTH}
use Rattle.reading.specs.Fill as fill
use Rattle.accepting.specs.Accept.{accept_of}
use Rattle.opening.specs.Open.{JOIN_POINTS, end, cleared, open_of}
use Rattle.opening.proofs.Clearing.{cleared_live}
use Rattle.opening.proofs.Passing.{converting}
use Rattle.finishing.specs.InOneCall.{finish_of}
use Rattle.drawing.specs.Drawing.{Drawing, drawing_of, drawn_from, drawing_in}
use Rattle.drawing.specs.Same.{SameFinish}
use Rattle.drawing.proofs.Opening.{accepted_as}
use Rattle.drawing.proofs.Finishing.{opened_finish, finishing_alike}
use Rattle.drawing.proofs.Drawings.{drawing_alike}
use Rattle.drawing.proofs.Spaces.{any_cleared}

-- row 10, tested first of all
short_open : (bytes lent : List ℕ) → ltb (length lent) LENGTH ≡ true → open_of bytes lent ≡ end (Err refusal.Full) (replicate (length lent) 0)
unfolding open_of
short_open bytes lent e = rw e

module _ (bytes bytes' lent t : List ℕ) where
  -- as rows 1 to 8 leave them
  read_finish : BLOCK ≤ length (cleared lent) → (j j' : Job) (w w' ss ss' js js' : List ℕ) → accepted_as bytes lent j w ss js → accepted_as bytes' lent j' w' ss' js'
      → drawing_of w' ss' j'.segments js' j'.joins ≡ drawing_of w ss j.segments js j.joins → SameFinish (finish_of bytes lent t) (finish_of bytes' lent t)
  read_finish l j j' w w' ss ss' js js' p p' e =
      finishing_alike bytes bytes' lent t j j' w w' ss ss' js js' p p'
      (drawing_alike j j' w w' ss ss' js js' (converting bytes (cleared lent) w ss js j l p) (converting bytes' (cleared lent) w' ss' js' j' l p') e)

  long_finish : BLOCK ≤ length (cleared lent) → (d : Drawing) → drawing_in bytes ≡ some d → drawing_in bytes' ≡ some d → SameFinish (finish_of bytes lent t) (finish_of bytes' lent t)
  long_finish l d e e' =
      go (accept_of bytes (cleared lent) (replicate limit.SEGMENTS 0) (replicate JOIN_POINTS 0)) (accept_of bytes' (cleared lent) (replicate limit.SEGMENTS 0) (replicate JOIN_POINTS 0)) refl refl
      (any_cleared bytes lent l ∙ e) (any_cleared bytes' lent l ∙ e')
    where
      go : (z z' : fill.ReadEnd) → accept_of bytes (cleared lent) (replicate limit.SEGMENTS 0) (replicate JOIN_POINTS 0) ≡ z → accept_of bytes' (cleared lent) (replicate limit.SEGMENTS 0) (replicate JOIN_POINTS 0) ≡ z'
          → drawn_from z ≡ some d → drawn_from z' ≡ some d → SameFinish (finish_of bytes lent t) (finish_of bytes' lent t)
      go (fill.end (Ok j) w ss js) (fill.end (Ok j') w' ss' js') p p' f f' = read_finish l j j' w w' ss ss' js js' p p' (cc)
      go (fill.end (Ok j) w ss js) (fill.end (Err x) w' ss' js') p p' f f' = absurd (let z : ◌≡◌ {A = ℕ} 0 1 = cc in omega arith)
      go (fill.end (Err x) w ss js) z' p p' f f' = absurd (let z : ◌≡◌ {A = ℕ} 0 1 = cc in omega arith)

  pub drawing_finish : (d : Drawing) → drawing_in bytes ≡ some d → drawing_in bytes' ≡ some d → SameFinish (finish_of bytes lent t) (finish_of bytes' lent t)
  drawing_finish d e e' = go (ltb (length lent) LENGTH) refl
    where
      go : (b : Bool) → ltb (length lent) LENGTH ≡ b → SameFinish (finish_of bytes lent t) (finish_of bytes' lent t)
      go true h = opened_finish bytes bytes' lent t (end (Err refusal.Full) (replicate (length lent) 0)) (end (Err refusal.Full) (replicate (length lent) 0)) (short_open bytes lent h) (short_open bytes' lent h) refl
      go false h = long_finish (cleared_live lent h) d e e'
