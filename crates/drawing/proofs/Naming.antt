-- Stores whose rings agree place by place are alike: the point at a place is numbered as the other store numbers the point at that place.
use Prim.Native.Nat.{ℕ, suc, ◌≤◌, ◌<◌}
use mathlib.Core.Path.{◌≡◌, refl, ap, ◌∙◌, sym}
use mathlib.Core.Logic.{◌≢◌}
use mathlib.Core.Bool.{cond}
use mathlib.Core.List.{List, []}
use native.Mathlib.Omega.{arith}
use native.Mathlib.Decide.{ℕ_discrete, dec_lt}
use lib.Dec.{ltb}
use lib.ListN.{length, get_or}
use borrow.Author.Tests.{eq-eqb, ne_eqb, lt-ltb, le-ltb}
use Rattle.rings.specs.Place.{place, or_zero}
use Rattle.rings.specs.Walk.{run}
use Rattle.store.specs.Field.{pt, rc, ct, X, Y, Z, NEXT, PREV, REC, FLAGS, OWNER, FIRST, SETTINGS, NONE}
use Rattle.store.specs.Words.{Store, view}
use Rattle.store.specs.Named.{points_of, records_of}
use Rattle.store.specs.Sound.{pts, recs, ring_at}
use Rattle.joins.specs.Resolve.{home_of}
use Rattle.joins.specs.Paths.{Lives}
use Rattle.joins.specs.Resolved.{Resolved, Ready}
use Rattle.joins.proofs.Homes.{home_of_lem, on_ring_lem, lives_on, next_lives, prev_lives, next_prev, prev_next}
use Rattle.joins.proofs.Finding.{at_home}
use Rattle.joins.proofs.Resolving.{res_same}
use Rattle.drawing.specs.Renumbered.{Renumbers, Renumbered}
use Rattle.drawing.specs.Places.{next_place}
use Rattle.drawing.proofs.Places.{place_at, place_low, occ_at, at_place, next_place_low, next_at, at_most}

pub record SameRings (s s' : Store) : Type 0 where
  pub settings : s' (ct SETTINGS) 0 ≡ s (ct SETTINGS) 0
  pub records : recs s' ≡ recs s
  pub flags : (i : ℕ) → i < recs s → s' (rc FLAGS) i ≡ s (rc FLAGS) i
  pub owners : (i : ℕ) → i < recs s → s' (rc OWNER) i ≡ s (rc OWNER) i
  pub lengths : (i : ℕ) → i < recs s → length (ring_at s' i) ≡ length (ring_at s i)
  pub xs : (i p : ℕ) → i < recs s → p < length (ring_at s i) → s' (pt X) (get_or (ring_at s' i) p 0) ≡ s (pt X) (get_or (ring_at s i) p 0)
  pub ys : (i p : ℕ) → i < recs s → p < length (ring_at s i) → s' (pt Y) (get_or (ring_at s' i) p 0) ≡ s (pt Y) (get_or (ring_at s i) p 0)
  pub zs : (i p : ℕ) → i < recs s → p < length (ring_at s i) → s' (pt Z) (get_or (ring_at s' i) p 0) ≡ s (pt Z) (get_or (ring_at s i) p 0)

other_way : (s s' : Store) → SameRings s s' → SameRings s' s
other_way s s' g =
    record {
      settings = sym g.settings;
      records = sym g.records;
      flags = λ i h. sym (g.flags i (omega (arith, g.records)));
      owners = λ i h. sym (g.owners i (omega (arith, g.records)));
      lengths = λ i h. sym (g.lengths i (omega (arith, g.records)));
      xs = λ i p h l. let k : i < recs s = omega (arith, g.records) in sym (g.xs i p k (omega (arith, g.lengths i k)));
      ys = λ i p h l. let k : i < recs s = omega (arith, g.records) in sym (g.ys i p k (omega (arith, g.lengths i k)));
      zs = λ i p h l. let k : i < recs s = omega (arith, g.records) in sym (g.zs i p k (omega (arith, g.lengths i k)));
    }

pub home_is : (w : List ℕ) → Ready w → (i k : ℕ) → Lives (view w) i k → home_of w k ≡ i
home_is w o i k z =
    let y = at_home w o k (home_of w k) z.bound refl in
    res_same (view w) (view w (pt REC) k) (home_of w k) i y.res z.res

-- the point of w' at the place that k has in w
unfoldable pub number_in : List ℕ → List ℕ → ℕ → ℕ
number_in w w' k = get_or (ring_at (view w') (home_of w k)) (or_zero (place k (ring_at (view w) (home_of w k)))) 0

-- and the other numbers as they are
unfoldable pub renumbering : List ℕ → List ℕ → ℕ → ℕ
renumbering w w' k = cond (ltb k (points_of w)) (number_in w w' k) k

-- point k is at place p of ring i
record HasSpot (s : Store) (k : ℕ) : Type 0 where
  ring : ℕ
  known : ring < recs s
  place : ℕ
  low : place < length (ring_at s ring)
  is : k ≡ get_or (ring_at s ring) place 0

point_at : (s : Store) → Resolved s → (k : ℕ) → k < pts s → HasSpot s k
point_at s o k h =
    let z = home_of_lem s o k h in
    let c = on_ring_lem s o z.0 k z.1 in
    record { ring = z.0; known = z.1.res.real; place = or_zero (place k (ring_at s z.0)); low = place_low k (ring_at s z.0) c; is = sym (place_at k (ring_at s z.0) c) }

pub at_lives : (s : Store) → Resolved s → (i p : ℕ) → i < recs s → p < length (ring_at s i) → Lives s i (get_or (ring_at s i) p 0)
at_lives s o i p h l = lives_on s o i (get_or (ring_at s i) p 0) h (occ_at p (ring_at s i) l)

-- ---- first points

pub no_ring : (s : Store) (i : ℕ) → s (rc FIRST) i ≡ NONE → ring_at s i ≡ []
no_ring s i e = rw (eq-eqb (s (rc FIRST) i) NONE e)

run_first : (n : ℕ → ℕ) (stop f a : ℕ) → (get_or (run n stop (suc f) a) 0 0 ≡ a) × (0 < length (run n stop (suc f) a))
unfolding run
run_first n stop f a = (refl, omega arith)

pub first_place : (s : Store) (i : ℕ) → s (rc FIRST) i ≢ NONE → (get_or (ring_at s i) 0 0 ≡ s (rc FIRST) i) × (0 < length (ring_at s i))
first_place s i d = rw (ne_eqb (s (rc FIRST) i) NONE d) (run_first (s (pt NEXT)) (s (rc FIRST) i) 2047 (s (rc FIRST) i))

module _ (w w' : List ℕ) (o : Ready w) (o' : Ready w') (g : SameRings (view w) (view w')) where
  -- a point by its place
  number_at : (i p : ℕ) → i < records_of w → p < length (ring_at (view w) i) → number_in w w' (get_or (ring_at (view w) i) p 0) ≡ get_or (ring_at (view w') i) p 0
  unfolding number_in
  number_at i p h l = rw (home_is w o i (get_or (ring_at (view w) i) p 0) (at_lives (view w) o.resolved i p h l), at_place p (ring_at (view w) i) (o.resolved.whole i h).once l)

  number_low : (k : ℕ) → k < points_of w → number_in w w' k < points_of w'
  number_low k h =
      let a = point_at (view w) o.resolved k h in
      rw (a.is, number_at a.ring a.place a.known a.low)
      (at_lives (view w') o'.resolved a.ring a.place (omega (arith, a.known, g.records)) (omega (arith, a.low, g.lengths a.ring a.known))).bound

  -- next goes to the next place
  number_next : (k : ℕ) → k < points_of w → view w' (pt NEXT) (number_in w w' k) ≡ number_in w w' (view w (pt NEXT) k)
  number_next k h =
      let a = point_at (view w) o.resolved k h in
      let c = ring_at (view w) a.ring in
      let c' = ring_at (view w') a.ring in
      let n = g.lengths a.ring a.known in
      let e : view w (pt NEXT) k ≡ get_or c (next_place a.place (length c)) 0 = ap (view w (pt NEXT)) a.is ∙ next_at (view w (pt NEXT)) (view w (pt PREV)) c a.place (o.resolved.whole a.ring a.known).linked a.low in
      let d : view w' (pt NEXT) (get_or c' a.place 0) ≡ get_or c' (next_place a.place (length c')) 0 =
      next_at (view w' (pt NEXT)) (view w' (pt PREV)) c' a.place (o'.resolved.whole a.ring (omega (arith, a.known, g.records))).linked (omega (arith, a.low, n)) in
      ap (view w' (pt NEXT)) (ap (number_in w w') a.is ∙ number_at a.ring a.place a.known a.low)
      ∙ d ∙ ap (λ (m : ℕ). get_or c' (next_place a.place m) 0) n
      ∙ sym (ap (number_in w w') e ∙ number_at a.ring (next_place a.place (length c)) a.known (next_place_low a.place (length c) a.low))

  number_x : (k : ℕ) → k < points_of w → view w' (pt X) (number_in w w' k) ≡ view w (pt X) k
  number_x k h =
      let a = point_at (view w) o.resolved k h in
      ap (view w' (pt X)) (ap (number_in w w') a.is ∙ number_at a.ring a.place a.known a.low) ∙ g.xs a.ring a.place a.known a.low ∙ ap (view w (pt X)) (sym a.is)

  number_y : (k : ℕ) → k < points_of w → view w' (pt Y) (number_in w w' k) ≡ view w (pt Y) k
  number_y k h =
      let a = point_at (view w) o.resolved k h in
      ap (view w' (pt Y)) (ap (number_in w w') a.is ∙ number_at a.ring a.place a.known a.low) ∙ g.ys a.ring a.place a.known a.low ∙ ap (view w (pt Y)) (sym a.is)

  number_z : (k : ℕ) → k < points_of w → view w' (pt Z) (number_in w w' k) ≡ view w (pt Z) k
  number_z k h =
      let a = point_at (view w) o.resolved k h in
      ap (view w' (pt Z)) (ap (number_in w w') a.is ∙ number_at a.ring a.place a.known a.low) ∙ g.zs a.ring a.place a.known a.low ∙ ap (view w (pt Z)) (sym a.is)

-- there and back
number_back : (w w' : List ℕ) → Ready w → Ready w' → SameRings (view w) (view w') → (k : ℕ) → k < points_of w → number_in w' w (number_in w w' k) ≡ k
number_back w w' o o' g k h =
    let a = point_at (view w) o.resolved k h in
    ap (number_in w' w) (ap (number_in w w') a.is ∙ number_at w w' o o' g a.ring a.place a.known a.low)
    ∙ number_at w' w o' o (other_way (view w) (view w') g) a.ring a.place (omega (arith, a.known, g.records)) (omega (arith, a.low, g.lengths a.ring a.known))
    ∙ sym a.is

-- so there are as many points
as_few : (w w' : List ℕ) → Ready w → Ready w' → SameRings (view w) (view w') → points_of w ≤ points_of w'
as_few w w' o o' g =
    at_most (number_in w w') (points_of w) (points_of w') (number_low w w' o o' g) (λ i j a b e. sym (number_back w w' o o' g i a) ∙ ap (number_in w' w) e ∙ number_back w w' o o' g j b)

as_many : (w w' : List ℕ) → Ready w → Ready w' → SameRings (view w) (view w') → points_of w' ≡ points_of w
as_many w w' o o' g = omega (arith, as_few w w' o o' g, as_few w' w o' o (other_way (view w) (view w') g))

pub renumbering_in : (w w' : List ℕ) (k : ℕ) → k < points_of w → renumbering w w' k ≡ number_in w w' k
unfolding renumbering
renumbering_in w w' k h = rw (lt-ltb k (points_of w) h)

renumbering_out : (w w' : List ℕ) (k : ℕ) → points_of w ≤ k → renumbering w w' k ≡ k
unfolding renumbering
renumbering_out w w' k h = rw (le-ltb k (points_of w) h)

renumbering_back : (w w' : List ℕ) → Ready w → Ready w' → SameRings (view w) (view w') → (k : ℕ) → renumbering w' w (renumbering w w' k) ≡ k
renumbering_back w w' o o' g k = go (dec_lt k (points_of w))
  where
    go : Dec (k < points_of w) → renumbering w' w (renumbering w w' k) ≡ k
    go (yes h) = ap (renumbering w' w) (renumbering_in w w' k h) ∙ renumbering_in w' w (number_in w w' k) (number_low w w' o o' g k h) ∙ number_back w w' o o' g k h
    go (no h) = ap (renumbering w' w) (renumbering_out w w' k (omega arith)) ∙ renumbering_out w' w k (omega (arith, as_many w w' o o' g))

module _ (w w' : List ℕ) (o : Ready w) (o' : Ready w') (g : SameRings (view w) (view w')) where
  renumbers : Renumbers (renumbering w w') (points_of w)
  renumbers =
      record {
        back = renumbering w' w;
        back_of = renumbering_back w w' o o' g;
        of_back = renumbering_back w' w o' o (other_way (view w) (view w') g);
        stays = renumbering_out w w';
      }

  next_low : (k : ℕ) → k < points_of w → view w (pt NEXT) k < points_of w
  next_low k h = let z = home_of_lem (view w) o.resolved k h in (next_lives (view w) o.resolved z.0 k z.1).bound

  new_next : (k : ℕ) → k < points_of w → view w' (pt NEXT) (renumbering w w' k) ≡ renumbering w w' (view w (pt NEXT) k)
  new_next k h = ap (view w' (pt NEXT)) (renumbering_in w w' k h) ∙ number_next w w' o o' g k h ∙ sym (renumbering_in w w' (view w (pt NEXT) k) (next_low k h))

  -- prev is the converse of next
  new_prev : (k : ℕ) → k < points_of w → view w' (pt PREV) (renumbering w w' k) ≡ renumbering w w' (view w (pt PREV) k)
  new_prev k h =
      let z = home_of_lem (view w) o.resolved k h in
      let p = prev_lives (view w) o.resolved z.0 k z.1 in
      let e : view w (pt NEXT) (view w (pt PREV) k) ≡ k = next_prev (view w) o.resolved z.0 k z.1 in
      let q : renumbering w w' (view w (pt PREV) k) < points_of w' = rw (renumbering_in w w' (view w (pt PREV) k) p.bound) (number_low w w' o o' g (view w (pt PREV) k) p.bound) in
      let y = home_of_lem (view w') o'.resolved (renumbering w w' (view w (pt PREV) k)) q in
      ap (λ (x : ℕ). view w' (pt PREV) (renumbering w w' x)) (sym e) ∙ ap (view w' (pt PREV)) (sym (new_next (view w (pt PREV) k) p.bound)) ∙ prev_next (view w') o'.resolved y.0 (renumbering w w' (view w (pt PREV) k)) y.1

  new_first : (i : ℕ) → i < records_of w → view w' (rc FIRST) i ≡ renumbering w w' (view w (rc FIRST) i)
  new_first i h = go (ℕ_discrete (view w (rc FIRST) i) NONE) (ℕ_discrete (view w' (rc FIRST) i) NONE)
    where
      n : length (ring_at (view w') i) ≡ length (ring_at (view w) i)
      n = g.lengths i h

      go : Dec (view w (rc FIRST) i ≡ NONE) → Dec (view w' (rc FIRST) i ≡ NONE) → view w' (rc FIRST) i ≡ renumbering w w' (view w (rc FIRST) i)
      go (yes e) (yes d) = d ∙ sym (ap (renumbering w w') e ∙ renumbering_out w w' NONE (omega (arith, o.resolved.few_points)))
      go (yes e) (no d) = absurd (omega (arith, n, ap length (no_ring (view w) i e), (first_place (view w') i d).1))
      go (no e) (yes d) = absurd (omega (arith, n, ap length (no_ring (view w') i d), (first_place (view w) i e).1))
      go (no e) (no d) =
          let a = first_place (view w) i e in
          let b = first_place (view w') i d in
          let l : view w (rc FIRST) i < points_of w = rw (← a.0) (at_lives (view w) o.resolved i 0 h a.1).bound in
          sym b.0 ∙ sym (number_at w w' o o' g i 0 h a.1) ∙ ap (number_in w w') a.0 ∙ sym (renumbering_in w w' (view w (rc FIRST) i) l)

  pub rings_renumber : Renumbered (renumbering w w') (view w) (view w')
  rings_renumber =
      record {
        renumbers = renumbers;
        settings = g.settings;
        points = as_many w w' o o' g;
        records = g.records;
        xs = λ k h. ap (view w' (pt X)) (renumbering_in w w' k h) ∙ number_x w w' o o' g k h;
        ys = λ k h. ap (view w' (pt Y)) (renumbering_in w w' k h) ∙ number_y w w' o o' g k h;
        zs = λ k h. ap (view w' (pt Z)) (renumbering_in w w' k h) ∙ number_z w w' o o' g k h;
        nexts = new_next;
        prevs = new_prev;
        flags = g.flags;
        owners = g.owners;
        firsts = new_first;
      }
