-- Document 02, Ask 3, "One way to write a job": what is said of the bytes, a line for each sentence. Beside it read Encode (what is written) and drawing's Drawing (`drawing_in`: none for a
-- job that one of rows 1 to 8 refuses; else what it draws). Proved in proofs/Theorem.
use Rattle.std.specs.Prelude.{ℕ, ◌≤◌, ◌<◌, ◌≡◌, ◌↔◌, List, map, length}
use Rattle.std.proofs.Math.Option.{Option, some}
use Rattle.rings.specs.Circle.{omap}
use Rattle.rings.specs.Links.{All}
use Rattle.rates.specs.declared.Rate.{Rate}
use Rattle.prefix.specs.Decides.{LONGEST}
use Rattle.finishing.specs.InOneCall.{finish_of}
use Rattle.job_listing.specs.Cutlist.{cutlist_of}
use Rattle.drawing.specs.Drawing.{Drawn, Drawing, drawing_in}
use Rattle.drawing.specs.Same.{SameFinish}
use Rattle.encoding.specs.Encode.{encode}

-- what is written of a job "that passes 1 to 8, called accepted here"; nothing of any other
unfoldable pub rewritten : List ℕ → Option (List ℕ)
rewritten bytes = omap encode (drawing_in bytes)

-- "settings, record flags, owners, ring coordinates from the first point, segments and joins agree, a segment or join point being named by its ring and its place in the walk"
pub record Agree (d e : Drawing) : Type 0 where
  pub settings : d.settings ≡ e.settings
  pub flags : map (λ (r : Drawn). r.flags) d.records ≡ map (λ (r : Drawn). r.flags) e.records
  pub owners : map (λ (r : Drawn). r.owner) d.records ≡ map (λ (r : Drawn). r.owner) e.records
  -- x, y and z: document 02, Ask 9, "one that differs gives different bytes"
  pub rings : map (λ (r : Drawn). r.ring) d.records ≡ map (λ (r : Drawn). r.ring) e.records
  pub segments : d.segments ≡ e.segments
  pub joins : d.joins ≡ e.joins

pub record OneWay : Type 0 where
  -- "Two accepted jobs give equal bytes exactly when .. agree"
  pub equal_bytes : (a b : List ℕ) (d e : Drawing) → drawing_in a ≡ some d → drawing_in b ≡ some e → (rewritten a ≡ rewritten b) ↔ Agree d e
  -- what is written is accepted, and draws what the job does
  pub draws : (a x : List ℕ) → rewritten a ≡ some x → drawing_in x ≡ drawing_in a
  -- "Writing its own output again changes no byte"
  pub again : (a x : List ℕ) → rewritten a ≡ some x → rewritten x ≡ some x
  -- "finishing either job gives the same lists, or the same refusal": in any work space, on any tray
  pub finishing : (a x : List ℕ) → rewritten a ≡ some x → (lent t : List ℕ) → SameFinish (finish_of a lent t) (finish_of x lent t)
  -- so both list alike, at any rate
  pub listing : (a x : List ℕ) → rewritten a ≡ some x → (rate : Rate) (lent t : List ℕ) → cutlist_of rate x lent t ≡ cutlist_of rate a lent t
  -- as many bytes as the job has, so 50,180 at most; and bytes they are
  pub as_long : (a x : List ℕ) → rewritten a ≡ some x → length x ≡ length a
  pub never_longer : (a x : List ℕ) → rewritten a ≡ some x → length x ≤ LONGEST
  pub bytes : (a x : List ℕ) → rewritten a ≡ some x → All (λ (r : ℕ). r < 256) x
