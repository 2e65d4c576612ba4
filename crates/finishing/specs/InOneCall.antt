-- Finishing in one call: opening, then every ring stepped to done in rising record order, then writing out. A refusal anywhere leaves tray and work
-- space all zero; after an accepted job the work space holds the finished rings. "opening, and finishing in one call, count as a job".
use Rattle.std.specs.Prelude.{ℕ, List, length, replicate, Ok, Err}
use Rattle.job.specs.declared.refusal.Refusal.{Refusal}
use Rattle.job.specs.declared.refusal.Refusal.TheVariants.{Full}
use Rattle.store.specs.Words.{view}
use Rattle.acts.specs.Finish.{RingsEnd, rings_done, rings_full}
use Rattle.std.specs.Prelude.{Result, Ok, Err}
use Rattle.paths.specs.declared.Written.{Written}
use Rattle.paths.specs.Wrote.{build_paths64}
use Rattle.opening.specs.Open.{End, end, open_of}
use Rattle.finishing.specs.Finish.{finish_rings}

-- the answer, the words and the tray that are left
pub record Finished : Type 0 where
  pub answer : Result Written Refusal
  pub words : List ℕ
  pub tray : List ℕ

abbrev pub finished : Result Written Refusal → List ℕ → List ℕ → Finished
finished r w t = record { answer = r; words = w; tray = t }

-- a refusal: n words and m bytes of zeros
abbrev pub refused : Refusal → ℕ → ℕ → Finished
refused x n m = finished (Err x) (replicate n 0) (replicate m 0)

-- writing out has ended, with this tray
abbrev pub after_writing : List ℕ → Result Written Refusal → List ℕ → Finished
after_writing w (Ok p) t = finished (Ok p) w t
after_writing w (Err x) t = refused x (length w) (length t)

-- the rings are done, or a step was refused as full: row 10
abbrev pub after_steps : RingsEnd → List ℕ → Finished
after_steps (rings_done w) t = after_writing w (build_paths64 (view w) t).answer (build_paths64 (view w) t).tray
after_steps (rings_full w) t = refused Full (length w) (length t)

-- opening has ended: a refused one has left zeros
abbrev pub after_opening : End → List ℕ → Finished
after_opening (end (Ok tt) w) t = after_steps (finish_rings w) t
after_opening (end (Err x) w) t = refused x (length w) (length t)

-- `finish`, by the job's bytes, the lent work space and the tray
unfoldable pub finish_of : List ℕ → List ℕ → List ℕ → Finished
finish_of bytes w t = after_opening (open_of bytes w) t
