-- Laws of chains of drops: they compose, end at any place, keep the cyclic order and, in the plane, the doubled area.
use mathlib.Core.Path.{◌≡◌, refl, sym, ◌∙◌}
use mathlib.Core.Bool.{Bool, true, false, ◌&&◌, false≢true}
use mathlib.Core.List.{List, [], ◌∷◌, ◌++◌, append_assoc}
use Prim.Native.Nat.{ℕ, zero, suc}
use Rattle.geometry.specs.declared.Point.{Point}
use Rattle.geometry.specs.Plane.{is_collinear, removable, area_outpt}
use Rattle.geometry.proofs.Circles.{area_turned, area_in_line}
use Rattle.rings.specs.Circle.{spin, last_of}
use Rattle.lone.specs.Lone.{Geo}
use Rattle.lone.specs.Plane.{plane}
use Rattle.tidied.specs.Tidied.{Among, nothing, stays, missing, InCyclicOrder, Drops, no_more, onward, dropped}

-- ---- chains compose

module _ {P : Type 0} {G : Geo P} where
  pub then : {c d e : List P} → Drops G c d → Drops G d e → Drops G c e
  then no_more k = k
  then (onward h) k = onward (then h k)
  then (dropped t h) k = dropped t (then h k)

  -- the end may be seen from any place
  pub to_place : (k : ℕ) {c d : List P} → Drops G c d → Drops G c (spin k d)
  to_place zero h = h
  to_place (suc k) h = to_place k (then h (onward no_more))

-- ---- cyclic order

module _ {P : Type 0} where
  among_same : (c : List P) → Among c c
  among_same [] = nothing
  among_same (x ∷ c) = stays (among_same c)

  among_in : (x : P) (a b : List P) → Among (a ++ b) (a ++ (x ∷ b))
  among_in x [] b = missing (among_same b)
  among_in x (y ∷ a) b = stays (among_in x a b)

  among_then : {c d e : List P} → Among d c → Among e d → Among e c
  among_then nothing k = k
  among_then (stays h) (stays k) = stays (among_then h k)
  among_then (stays h) (missing k) = missing (among_then h k)
  among_then (missing h) k = missing (among_then h k)

  -- a circle from any place is among the circle with one point more, from some place
  one_more : (x : P) (k : ℕ) (a b : List P) → (j : ℕ) × Among (spin k (a ++ b)) (spin j (a ++ (x ∷ b)))
  one_more x zero a b = (0, among_in x a b)
  one_more x (suc k) [] [] = one_more x k [] []
  one_more x (suc k) [] (y ∷ b) = let r = one_more x k b (y ∷ []) in (suc (suc r.0), rw (append_assoc b (x ∷ []) (y ∷ [])) r.1)
  one_more x (suc k) (y ∷ a) b = let r = one_more x k a (b ++ (y ∷ [])) in (suc r.0, rw (append_assoc a b (y ∷ []), append_assoc a (x ∷ b) (y ∷ [])) r.1)

  pub in_order : {G : Geo P} {c d : List P} → Drops G c d → InCyclicOrder c d
  in_order (no_more {c = c}) = record { from = 0; among = among_same c }
  in_order (onward h) = let r = in_order h in record { from = suc r.from; among = r.among }
  in_order (dropped {x = x} {next = next} {ps = ps} t h) =
      let r = in_order h in
      let m = one_more x r.from [] (next ∷ ps) in
      record { from = m.0; among = among_then m.1 r.among }

-- ---- the doubled area

in_line_lem : (preserve : Bool) (a b c : Point) → removable preserve a b c ≡ true → is_collinear a b c ≡ true
unfolding removable
in_line_lem preserve a b c e = go (is_collinear a b c) _ e
  where
    go : (s t : Bool) → (s && t) ≡ true → s ≡ true
    go true t e = refl
    go false t e = absurd (false≢true e)

pub area_kept : (preserve : Bool) {c d : List Point} → Drops (plane preserve) c d → area_outpt d ≡ area_outpt c
area_kept preserve no_more = refl
area_kept preserve (onward {c = c} h) = area_kept preserve h ∙ area_turned c
area_kept preserve (dropped {x = x} {next = next} {ps = ps} t h) = area_kept preserve h ∙ sym (area_in_line x next ps (in_line_lem preserve (last_of next ps) x next t))
