-- Rewriting a job: document 02, Ask 3. "11 also covers its output, past which the tray is zero; its refusals count as a job's". The work space is only
-- lent, and left all zero.
use Rattle.std.specs.Prelude.{ℕ, cond, List, leb, ltb, length, replicate, Ok, Err}
use Rattle.job.specs.Limits as limit
use Rattle.job.specs.declared.refusal.Refusal.{Refusal}
use Rattle.job.specs.declared.refusal.Refusal.TheVariants.{Full, SmallTray}
use Rattle.store.specs.Field.{LENGTH}
use Rattle.reading.specs.Fill.{ReadEnd, end}
use Rattle.accepting.specs.Accept.{accept_of}
use Rattle.opening.specs.Open.{JOIN_POINTS}
use Rattle.paths.specs.Tray.{padded}
use Rattle.drawing.specs.Drawing.{drawing_of}
use Rattle.encoding.specs.Encode.{encode}
use Rattle.std.specs.Prelude.{Result}

-- the answer, the words and the tray that are left
pub record Rewrote : Type 0 where
  pub answer : Result ℕ Refusal
  pub words : List ℕ
  pub tray : List ℕ

abbrev pub rewrote : Result ℕ Refusal → List ℕ → List ℕ → Rewrote
rewrote r w t = record { answer = r; words = w; tray = t }

-- a refusal: n words and m bytes of zeros
abbrev pub not_rewritten : Refusal → ℕ → ℕ → Rewrote
not_rewritten x n m = rewrote (Err x) (replicate n 0) (replicate m 0)

-- these bytes in a tray of m bytes, and how many they are; or row 11
abbrev pub written_in : List ℕ → ℕ → ℕ → Rewrote
written_in bytes n m = cond (leb (length bytes) m) (rewrote (Ok (length bytes)) (replicate n 0) (padded m bytes)) (not_rewritten SmallTray n m)

-- rows 1 to 8; then the bytes of the job's drawing
abbrev pub rewrite_from : ReadEnd → ℕ → ℕ → Rewrote
rewrite_from (end (Ok j) w ss js) n m = written_in (encode (drawing_of w ss j.segments js j.joins)) n m
rewrite_from (end (Err x) w ss js) n m = not_rewritten x n m

-- `rewrite`, by the job's bytes, the length n of the lent work space and the length m of the tray: row 10, "tested first of all", then the rest
unfoldable pub rewrite_of : List ℕ → ℕ → ℕ → Rewrote
rewrite_of bytes n m =
    cond (ltb n LENGTH) (not_rewritten Full n m) (rewrite_from (accept_of bytes (replicate n 0) (replicate limit.SEGMENTS 0) (replicate JOIN_POINTS 0)) n m)
