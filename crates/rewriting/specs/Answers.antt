-- What `rewrite_of` comes to: the bytes that the statements of OneWay (crate encoding) speak of, or a refusal.
use Rattle.std.specs.Prelude.{ℕ, ◌≤◌, ◌<◌, min, ◌≡◌, List, length, take, replicate}
use Rattle.std.proofs.Math.Option.{none, some}
use Rattle.job.specs.declared.refusal.Refusal.{Refusal}
use Rattle.job.specs.declared.refusal.Refusal.TheVariants.{Full}
use Rattle.store.specs.Field.{LENGTH}
use Rattle.paths.specs.Tray.{padded}
use Rattle.prefix.specs.Decides.{LONGEST, DECIDES}
use Rattle.encoding.specs.OneWay.{rewritten}
use Rattle.std.specs.Prelude.{Result, Ok, Err}
use Rattle.rewriting.specs.Rewrite.{rewrote, not_rewritten, written_in, rewrite_of}

-- bytes that are in a tray of n
abbrev pub BytesWithin : Result ℕ Refusal → ℕ → Type 0
BytesWithin (Ok k) n = k ≤ n
BytesWithin (Err x) n = Unit {0}

pub record Rewrites : Type 0 where
  -- row 10, "tested first of all"
  pub short : (bytes : List ℕ) (n m : ℕ) → n < LENGTH → rewrite_of bytes n m ≡ not_rewritten Full n m
  -- an accepted job is written, or its bytes are more than the tray has
  pub accepted : (bytes x : List ℕ) → rewritten bytes ≡ some x → (n m : ℕ) → LENGTH ≤ n → rewrite_of bytes n m ≡ written_in x n m
  -- no other job is, and the tray has no say in its refusal
  pub others : (bytes : List ℕ) → rewritten bytes ≡ none → (n : ℕ) → LENGTH ≤ n → (x : Refusal) × ((m : ℕ) → rewrite_of bytes n m ≡ not_rewritten x n m)
  -- 50,180 bytes always suffice: a job that is written is no longer
  pub suffices : (bytes x : List ℕ) → rewritten bytes ≡ some x → (n m : ℕ) → LENGTH ≤ n → LONGEST ≤ m → rewrite_of bytes n m ≡ rewrote (Ok (length x)) (replicate n 0) (padded m x)
  -- an answer's bytes are in the tray, and no more than that
  pub fits : (bytes : List ℕ) (n m : ℕ) → BytesWithin (rewrite_of bytes n m).answer (min m LONGEST)
  -- 50,201 bytes decide: what follows them changes nothing
  pub decided : (bytes : List ℕ) (n m : ℕ) → rewrite_of (take DECIDES bytes) n m ≡ rewrite_of bytes n m
