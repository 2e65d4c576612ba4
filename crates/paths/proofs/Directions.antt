-- A ring walked from the path's first point, forward or reversed, is its points in the path's order.
use Prim.Native.Nat.{ℕ, ◌+◌, ◌≤◌, ◌<◌}
use mathlib.Core.Path.{◌≡◌, refl, sym, ap, ◌∙◌, subst}
use mathlib.Core.Bool.{Bool, true, false, cond, not}
use mathlib.Core.List.{List, [], ◌∷◌, ◌++◌, map, reverse, reverse_aux, reverse_aux-eq, reverse_aux-append}
use native.Mathlib.Omega.{arith}
use Rattle.rings.specs.Circle.{turn}
use Rattle.rings.specs.Count.{occ}
use Rattle.rings.specs.Links.{Seg, Linked}
use Rattle.rings.specs.Walk.{walk}
use Rattle.rings.specs.Whole.{Whole}
use Rattle.rings.proofs.Counting.{occ_turn}
use Rattle.rings.proofs.Linking.{seg_join}
use Rattle.rings.proofs.Mapping.{map_turn}
use Rattle.rings.proofs.Walking.{ring_is, whole_spin}
use Rattle.lone.specs.Path.{in_order, without_equals}
use Rattle.store.specs.Field.{pt, rc, NEXT, PREV, FIRST}
use Rattle.store.specs.Words.{view}
use Rattle.store.specs.Sound.{pts, recs, ringless, ring_at}
use Rattle.store.specs.Good.{SoundWords}
use Rattle.store.specs.Value.{preserve_collinear}
use Rattle.store.proofs.Soundness.{whole, from_first}
use Rattle.lone.specs.Plane.{plane}
use Rattle.paths.specs.Path.{point_at, points_at}
use Rattle.paths.specs.Walking.{link_of, start_from, round_from, Round, path_round}
use Rattle.paths.proofs.Walks.{others_of, walk_is}

-- ---- lists

module _ {A B : Type 0} (f : A → B) where
  map_reverse : (l r : List A) → map f (reverse_aux l r) ≡ reverse_aux (map f l) (map f r)
  map_reverse [] r = refl
  map_reverse (x ∷ l) r = map_reverse l (x ∷ r)

  pub map_in_order : (rev : Bool) (c : List A) → map f (in_order rev c) ≡ in_order rev (map f c)
  map_in_order false c = map_turn f c
  map_in_order true [] = refl
  map_in_order true (q ∷ qs) = ap (λ (l : List B). f q ∷ l) (map_reverse qs [])

occ_reverse : (k : ℕ) (l r : List ℕ) → occ k (reverse_aux l r) ≡ occ k l + occ k r
occ_reverse k [] r = omega arith
occ_reverse k (x ∷ l) r = omega (arith, occ_reverse k l (x ∷ r))

occ_in_order : (k : ℕ) (rev : Bool) (c : List ℕ) → occ k (in_order rev c) ≡ occ k c
occ_in_order k false c = occ_turn k c
occ_in_order k true [] = refl
occ_in_order k true (q ∷ qs) = omega (arith, occ_reverse k qs [])

-- ---- links

module _ (n p : ℕ → ℕ) where
  seg_reverse : (l : List ℕ) → Seg n p l → Seg p n (reverse l)
  seg_reverse [] s = tt
  seg_reverse (a ∷ []) s = tt
  seg_reverse (a ∷ b ∷ r) s =
      rw (reverse_aux-eq r (b ∷ a ∷ []))
      (seg_join p n (reverse r) b (a ∷ []) (subst (Seg p n) (reverse_aux-eq r (b ∷ [])) (seg_reverse (b ∷ r) s.2)) (s.1, s.0, tt))

  linked_reverse : (q : ℕ) (qs : List ℕ) → Linked n p (q ∷ qs) → Linked p n (q ∷ reverse qs)
  linked_reverse q qs s =
      subst (Seg p n)
      (reverse_aux-append qs (q ∷ []) (q ∷ []) ∙ ap (λ (l : List ℕ). q ∷ l) (reverse_aux-eq qs (q ∷ [])))
      (seg_reverse (q ∷ qs ++ (q ∷ [])) s)

  module _ (m : ℕ) where
    whole_reverse : (q : ℕ) (qs : List ℕ) → Whole n p m (q ∷ qs) → Whole p n m (q ∷ reverse qs)
    whole_reverse q qs w =
        record {
          linked = linked_reverse q qs w.linked;
          once = λ k. omega (arith, w.once k, occ_reverse k qs []);
          below = λ k o. w.below k (omega (arith, occ_reverse k qs []));
        }

    -- seen from the next point
    walk_next : (q : ℕ) (qs : List ℕ) → m ≤ 2048 → Whole n p m (q ∷ qs) → walk n (n q) ≡ turn (q ∷ qs)
    walk_next q [] h w = rw w.linked.0 (ring_is n p m q [] h w)
    walk_next q (y ∷ r) h w = rw w.linked.0 (ring_is n p m y (r ++ (q ∷ [])) h (whole_spin n p m 1 (q ∷ y ∷ r) w))

-- ---- the ring of a record, in a sound store

pub record Ringed (w : List ℕ) (rev : Bool) (i : ℕ) : Type 0 where
  -- from the first point
  pub first : Round w false (view w (rc FIRST) i)
  pub first_is : round_from (view w) false (view w (rc FIRST) i) ≡ ring_at (view w) i
  -- along the path
  pub along : Round w rev (start_from (view w) rev (view w (rc FIRST) i))
  pub along_is : round_from (view w) rev (start_from (view w) rev (view w (rc FIRST) i)) ≡ in_order rev (ring_at (view w) i)
  -- from the path's first point, forward
  pub ahead : Round w false (start_from (view w) rev (view w (rc FIRST) i))
  pub ahead_is : round_from (view w) false (start_from (view w) rev (view w (rc FIRST) i)) ≡ cond rev (ring_at (view w) i) (turn (ring_at (view w) i))

module _ (w : List ℕ) (o : SoundWords w) (i : ℕ) (h : i < recs (view w)) (e : ringless (view w) i ≡ false) where
  f : ℕ
  f = view w (rc FIRST) i

  l : List ℕ
  l = others_of (view w (pt NEXT)) (view w (rc FIRST) i)

  ring_from : ring_at (view w) i ≡ f ∷ l
  unfolding f l
  ring_from = from_first (view w) i e ∙ walk_is (view w (pt NEXT)) (view w (rc FIRST) i)

  ring_whole : Whole (view w (pt NEXT)) (view w (pt PREV)) (pts (view w)) (f ∷ l)
  ring_whole = subst (Whole (view w (pt NEXT)) (view w (pt PREV)) (pts (view w))) ring_from (whole (view w) o.sound i h)

  -- a walk that has the ring's points
  round_of : (rev : Bool) (a : ℕ) (c : List ℕ) → round_from (view w) rev a ≡ c → Whole (link_of (view w) rev) (link_of (view w) (not rev)) (pts (view w)) c
      → ((k : ℕ) → occ k c ≡ occ k (ring_at (view w) i)) → Round w rev a
  round_of rev a c g v q =
      record {
        long = o.long;
        few = o.sound.few_points;
        whole = rw g v;
        points_in_lem = λ k u. (o.sound.good i h).points_in_lem k (omega (arith, q k, ap (occ k) g));
      }

  pub ringed : (rev : Bool) → Ringed w rev i
  unfolding f l
  ringed false =
      let v = walk_next (view w (pt NEXT)) (view w (pt PREV)) (pts (view w)) f l o.sound.few_points ring_whole in
      let c = v ∙ ap turn (sym ring_from) in
      let u = whole_spin (view w (pt NEXT)) (view w (pt PREV)) (pts (view w)) 1 (f ∷ l) ring_whole in
      let r : Round w false (view w (pt NEXT) f) = round_of false (view w (pt NEXT) f) (turn (f ∷ l)) v u (λ k. occ_turn k (f ∷ l) ∙ ap (occ k) (sym ring_from)) in
      record {
        first = round_of false f (ring_at (view w) i) (sym (from_first (view w) i e)) (whole (view w) o.sound i h) (λ k. refl);
        first_is = sym (from_first (view w) i e);
        along = r;
        along_is = c;
        ahead = r;
        ahead_is = c;
      }
  ringed true =
      let v = ring_is (view w (pt PREV)) (view w (pt NEXT)) (pts (view w)) f (reverse l) o.sound.few_points (whole_reverse (view w (pt NEXT)) (view w (pt PREV)) (pts (view w)) f l ring_whole) in
      let u = whole_reverse (view w (pt NEXT)) (view w (pt PREV)) (pts (view w)) f l ring_whole in
      let r : Round w false f = round_of false f (ring_at (view w) i) (sym (from_first (view w) i e)) (whole (view w) o.sound i h) (λ k. refl) in
      record {
        first = r;
        first_is = sym (from_first (view w) i e);
        along = round_of true f (f ∷ reverse l) v u (λ k. occ_in_order k true (f ∷ l) ∙ ap (occ k) (sym ring_from));
        along_is = v ∙ ap (in_order true) (sym ring_from);
        ahead = r;
        ahead_is = sym (from_first (view w) i e);
      }

-- the path that goes round is the ring's, by value
pub path_of : (w : List ℕ) (rev : Bool) (i : ℕ) → Ringed w rev i
    → path_round (view w) rev (start_from (view w) rev (view w (rc FIRST) i)) ≡ without_equals (plane (preserve_collinear (view w))) (in_order rev (points_at (view w) i))
unfolding path_round
path_of w rev i r = rw (r.along_is, map_in_order (point_at (view w)) rev (ring_at (view w) i))
