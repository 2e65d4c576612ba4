-- Document 02, Ask 12, "Which shape lies in which": what is said of the answers and of the call `contained`, a line for each sentence. Beside it read rays' Edge and polygons' Polygon (the crossing rule), polygons'
-- AsWritten (the same as the Rust writes it), containing's Middle and Contains. Proved in proofs/Theorem.
use Rattle.std.specs.Prelude.{ℕ, ◌+◌, ◌-◌, ◌*◌, ◌≤◌, ◌<◌, ◌≡◌, ◌≢◌, cond, List, [], map, ltb, length, get_or, take, replicate}
use Rattle.geometry.specs.declared.Point.{Point}
use Rattle.job.specs.declared.refusal.Refusal.{Refusal}
use Rattle.store.specs.Words.{view}
use Rattle.std.specs.Prelude.{Err}
use Rattle.paths.specs.Wrote.{ok_paths}
use Rattle.paths.specs.Path.{closed_paths}
use Rattle.paths.specs.Tray.{padded}
use Rattle.listing.specs.Fields.{as_words, paths_in}
use Rattle.finishing.specs.InOneCall.{finish_of}
use Rattle.prefix.specs.Decides.{DECIDES}
use Rattle.containing.specs.Contains.{path2_contains_path1}
use Rattle.containment.specs.Answers.{bit, pair_answers, pair_count}
use Rattle.containment.specs.Contained.{contained, short_slice, contained_of, ANSWERS}

-- "by rising first place and then second": where the byte of path i against path j stands, of c paths. A path against itself has none
abbrev pub pair_place : ℕ → ℕ → ℕ → ℕ
pair_place c i j = i * (c - 1) + cond (ltb j i) j (j - 1)

pub record PairBytes (paths : List (List Point)) : Type 0 where
  -- "a byte .. for every ordered pair of closed paths .. A path is never tested against itself"
  pub count : length (pair_answers paths) ≡ pair_count (length paths)
  -- "1 for yes and 0 for no .. as `path2_contains_path1` does with the pair's first as path1"
  pub byte : (i j : ℕ) → i < length paths → j < length paths → i ≢ j
      → get_or (pair_answers paths) (pair_place (length paths) i j) 0 ≡ bit (path2_contains_path1 (get_or paths i []) (get_or paths j []))

-- of a job's bytes, a work space, a tray, and a slice of k bytes
pub record LiesIn (bytes lent t : List ℕ) (k : ℕ) : Type 0 where
  -- "with that call's refusals .. on refusals, it is zero"
  pub refused : (x : Refusal) → (finish_of bytes lent t).answer ≡ Err x → contained_of bytes lent t k ≡ contained (Err x) (finish_of bytes lent t).words (finish_of bytes lent t).tray (replicate k 0)
  -- "A short slice meets 11 .. on refusals, it is zero"; and so are tray and work space, as a job's refusals leave them
  pub short : (c o : ℕ) → (finish_of bytes lent t).answer ≡ ok_paths c o → k < pair_count c → contained_of bytes lent t k ≡ short_slice (length (finish_of bytes lent t).words) (length (finish_of bytes lent t).tray) k
  -- else answer, words and tray are finishing's; the answers are those of the closed paths of these words, and "past the answers .. it is zero"
  pub given : (c o : ℕ) → (finish_of bytes lent t).answer ≡ ok_paths c o → pair_count c ≤ k
      → contained_of bytes lent t k ≡ contained (ok_paths c o) (finish_of bytes lent t).words (finish_of bytes lent t).tray (padded k (pair_answers (closed_paths (view (finish_of bytes lent t).words))))
  -- these paths stand in the tray's first fields, 32 bits of each z, so the places are those of the tray
  pub in_tray : (c o : ℕ) → (finish_of bytes lent t).answer ≡ ok_paths c o → paths_in (finish_of bytes lent t).tray c 0 ≡ map (map as_words) (closed_paths (view (finish_of bytes lent t).words))
  pub as_many : (c o : ℕ) → (finish_of bytes lent t).answer ≡ ok_paths c o → c ≡ length (closed_paths (view (finish_of bytes lent t).words))
  -- 261,632 bytes always suffice
  pub suffices : (c o : ℕ) → (finish_of bytes lent t).answer ≡ ok_paths c o → pair_count c ≤ ANSWERS
  -- 50,201 bytes decide: what follows them changes nothing
  pub decided : contained_of (take DECIDES bytes) lent t k ≡ contained_of bytes lent t k
