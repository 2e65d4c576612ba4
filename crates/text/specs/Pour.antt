-- Text poured into a lent slice, from a place on, as far as there is room.
use Rattle.std.specs.Prelude.{ℕ, suc, ◌+◌, min, max, List, length}
use Rattle.std.proofs.lemmas.List.Edits.{sets}

-- how far a writer is, and the slice. A writer that lost a byte stands past the end, one past it at first, and stays there
pub record Poured : Type 0 where
  pub at : ℕ
  pub out : List ℕ

abbrev pub poured : ℕ → List ℕ → Poured
poured at out = record { at = at; out = out }

-- the text from `at` on, byte by byte; a byte past the end is lost
unfoldable pub pour : List ℕ → ℕ → List ℕ → Poured
pour text at out = poured (max at (min (at + length text) (suc (length out)))) (sets out at text)
