-- The words under either setting of `reverse_solution`: document 02, Ask 2, "The words now follow the sense the ring had before reversal".
use Rattle.std.specs.Prelude.{ℕ, Bool, false, List, map}
use Rattle.std.proofs.Math.Option.{Option}
use Rattle.rings.specs.Circle.{omap}
use Rattle.geometry.specs.declared.Point.{Point}
use Rattle.geometry.specs.Plane.{area_outpt}
use Rattle.store.specs.Words.{Store}
use Rattle.store.specs.Value.{reverse_solution}
use Rattle.lone.specs.Plane.{plane}
use Rattle.lone.specs.Path.{build_path64_from_outpt}
use Rattle.paths.specs.Path.{closed_paths}
use Rattle.listing.specs.Lines.{word_of}

-- a closed path's word
abbrev pub path_word : Bool → List Point → List ℕ
path_word rev path = word_of rev (area_outpt path)

-- the word of a closed ring's path, by the two settings and the ring's points from the first; none where it has no path
abbrev pub ring_word : Bool → Bool → List Point → Option (List ℕ)
ring_word keep rev ring = omap (path_word rev) (build_path64_from_outpt (plane keep) rev false ring)

-- the words of a store's closed paths, in their order
abbrev pub words_of : Store → List (List ℕ)
words_of s = map (path_word (reverse_solution s)) (closed_paths s)
