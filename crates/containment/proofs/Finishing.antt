-- What finishing in one call leaves where it isn't refused: the closed paths of the work space are in the tray's first fields, and they are at most as many as records.
use Prim.Native.Nat.{ℕ, zero, suc, ◌≤◌}
use mathlib.Core.Path.{◌≡◌}
use mathlib.Core.Bool.{Bool, false}
use mathlib.Core.List.{List, map}
use mathlib.Core.Option.{Option, none, some}
use native.Mathlib.Omega.{arith}
use lib.ListN.{length, length-append}
use Rattle.job.specs.Limits.{RECORDS}
use Rattle.geometry.specs.declared.Point.{Point}
use Rattle.store.specs.Words.{Store, view}
use Rattle.store.specs.Sound.{recs}
use Rattle.paths.specs.Wrote.{ok_paths}
use Rattle.paths.specs.Path.{path_if, listed, paths_below, closed_paths}
use Rattle.finishing.specs.InOneCall.{finished, finish_of}
use Rattle.listing.specs.Fields.{as_words, paths_in}
use Rattle.listing.proofs.Answers.{answer_listable, written_out}
use Rattle.listing.proofs.Trays.{written_closed}
use Rattle.job_listing.proofs.Listing.{finish_from}
use Rattle.containment.specs.Needs.{Fielded}

paths_few : (s : Store) (o : Bool) (n : ℕ) → length (paths_below n o s) ≤ n
paths_few s o zero = omega arith
paths_few s o (suc n) = omega (arith, length-append (paths_below n o s) (listed (path_if s o n)), paths_few s o n, one (path_if s o n))
  where
    one : (x : Option (List Point)) → length (listed x) ≤ 1
    one none = omega arith
    one (some p) = omega arith

module _ (c o : ℕ) (w' t' t bytes lent : List ℕ) (e : finished (ok_paths c o) w' t' ≡ finish_of bytes lent t) where
  pub closed_count : c ≡ length (closed_paths (view w'))
  closed_count = let f = finish_from c o w' t' t bytes lent e in (written_out (view w') c o f.before t' f.is).closed

  pub closed_few : c ≤ RECORDS
  closed_few = let f = finish_from c o w' t' t bytes lent e in omega (arith, closed_count, paths_few (view w') false (recs (view w')), f.ready.sound.few_records)

  pub closed_are : paths_in t' c 0 ≡ map (map as_words) (closed_paths (view w'))
  closed_are =
      let f = finish_from c o w' t' t bytes lent e in
      let x = written_out (view w') c o f.before t' f.is in
      rw (x.closed, x.tray) (written_closed (view w') f.ready.sound (length f.before))

  pub done_fielded : Fielded t' c
  done_fielded = let f = finish_from c o w' t' t bytes lent e in record { all_in = (answer_listable (view w') c o f.before t' f.ready.sound f.is).closed_in; few = closed_few }
