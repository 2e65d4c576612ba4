-- What writing out gives of a forest: the closed rings' paths, then the open ones', records ascending; and the test that all are done.
use Rattle.std.specs.Prelude.{List, [], ◌∷◌, ◌++◌, Bool, true, ◌&&◌}
use Rattle.rings.specs.Progress.{Ring}
use Rattle.lone.specs.Lone.{Geo}
use Rattle.lone.specs.Path.{build_path64_from_outpt, outline}
use Rattle.lone.specs.Forest.{Machine, to_list, Entry, ringless, open_ring, closed_ring}

-- no closed ring is left that isn't done: else "writing out while a closed ring isn't done" is refused with 12
abbrev pub is_all_done : {S X : Type 0} → Machine S → List (Entry S X) → Bool
is_all_done M [] = true
is_all_done M (ringless ∷ es) = is_all_done M es
is_all_done M (open_ring x ∷ es) = is_all_done M es
is_all_done M (closed_ring q L ∷ es) = M.over L.now && is_all_done M es

module _ {P : Type 0} (G : Geo P) (rev : Bool) where
  -- "the closed rings, records ascending, their lone rings' outlines"
  abbrev pub closed_paths : {X : Type 0} → List (Entry (Ring P) X) → List (List P)
  closed_paths [] = []
  closed_paths (ringless ∷ es) = closed_paths es
  closed_paths (open_ring x ∷ es) = closed_paths es
  closed_paths (closed_ring q L ∷ es) = to_list (outline G rev L.now) ++ closed_paths es

  -- an open ring's points as opening left them, from the first in walk order
  abbrev pub open_paths : List (Entry (Ring P) (List P)) → List (List P)
  open_paths [] = []
  open_paths (ringless ∷ es) = open_paths es
  open_paths (open_ring c ∷ es) = to_list (build_path64_from_outpt G rev true c) ++ open_paths es
  open_paths (closed_ring q L ∷ es) = open_paths es
