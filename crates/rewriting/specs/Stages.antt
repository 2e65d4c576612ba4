-- What the stages of rewriting leave, before a refusal's zeros.
use Rattle.std.specs.Prelude.{ℕ, ◌*◌, ◌≤◌, cond, List, ltb, length, replicate, Ok, Err}
use Rattle.job.specs.Limits as limit
use Rattle.job.specs.declared.refusal.Refusal.TheVariants.{SmallTray}
use Rattle.store.specs.Field.{BLOCK}
use Rattle.reading.specs.Fill.{ReadEnd, end}
use Rattle.accepting.specs.Accept.{accept_of}
use Rattle.opening.specs.Open.{JOIN_POINTS}
use Rattle.text.specs.Pour.{Poured, pour}
use Rattle.drawing.specs.Drawing.{drawing_of}
use Rattle.encoding.specs.Encode.{encode}
use Rattle.std.specs.Prelude.{Result}
use Rattle.job.specs.declared.refusal.Refusal.{Refusal}
use Rattle.rewriting.specs.Rewrite.{Rewrote, rewrote}

-- a job that was read, with m segments and n joins
pub record Lists (w ss : List ℕ) (m : ℕ) (js : List ℕ) (n : ℕ) : Type 0 where
  pub long : BLOCK ≤ length w
  pub segments : m ≤ length ss
  pub joins : 2 * n ≤ length js

-- the answer, and the tray
pub record JobWritten : Type 0 where
  pub answer : Result ℕ Refusal
  pub tray : List ℕ

abbrev pub job_written : Result ℕ Refusal → List ℕ → JobWritten
job_written r t = record { answer = r; tray = t }

-- a writer that stands past the tray's end has lost a byte
abbrev pub rewritten_at : ℕ → List ℕ → Result ℕ Refusal
rewritten_at at t = cond (ltb (length t) at) (Err SmallTray) (Ok at)

abbrev pub poured_answer : Poured → JobWritten
poured_answer p = job_written (rewritten_at p.at p.out) p.out

abbrev pub besides : List ℕ → JobWritten → Rewrote
besides w x = rewrote x.answer w x.tray

abbrev pub writing_from : ReadEnd → List ℕ → Rewrote
writing_from (end (Ok j) w ss js) t = besides w (poured_answer (pour (encode (drawing_of w ss j.segments js j.joins)) 0 t))
writing_from (end (Err x) w ss js) t = rewrote (Err x) w t

unfoldable pub writing_of : List ℕ → List ℕ → List ℕ → Rewrote
writing_of bytes w t = writing_from (accept_of bytes w (replicate limit.SEGMENTS 0) (replicate JOIN_POINTS 0)) t

-- a refusal's tray is zero
abbrev pub settled_tray : Result ℕ Refusal → List ℕ → JobWritten
settled_tray (Ok k) t = job_written (Ok k) t
settled_tray (Err x) t = job_written (Err x) (replicate (length t) 0)
