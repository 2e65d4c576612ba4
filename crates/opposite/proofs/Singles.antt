-- Point by point: of neighbours at one place each of the two paths has the first one that it walks, and they have one point where nothing was dropped.
use Prim.Native.Nat.{ℕ, zero, suc}
use mathlib.Core.Path.{◌≡◌, refl, sym, ap, ◌∙◌, subst}
use mathlib.Core.Logic.{◌≢◌}
use mathlib.Core.List.{List, [], ◌∷◌, ◌++◌, map, reverse, reverse-cons, reverse-append, reverse-reverse, append_assoc}
use mathlib.Core.Option.{some}
use native.Mathlib.Omega.{arith}
use lib.ListN.{get_elem?}
use Rattle.rings.specs.Circle.{last_of}
use Rattle.geometry.specs.declared.Point.{Point}
use Rattle.geometry.specs.Plane.{ground}
use Rattle.opposite.specs.Turned.{AllAt, Cluster, first_in, last_in, clustered, Maximal, Turned, NearestElsewhere, SinglePoint}
use Rattle.opposite.proofs.Clusters.{Elsewhere, next, later}

-- ---- what stands before a stretch

near_more : (p : Point) (l m : List Point) → NearestElsewhere p l → (l ≡ [] → NearestElsewhere p m) → NearestElsewhere p (l ++ m)
near_more p [] m h k = k refl
near_more p (q ∷ l) m h k = h

-- a stretch that is elsewhere, from its end
near_stretch : (p x : Point) (more : List Point) → ground x ≢ ground p → AllAt x more → NearestElsewhere p (reverse (x ∷ more))
near_stretch p x more n h = subst (NearestElsewhere p) (sym (reverse-cons x more)) (near_more p (reverse more) (x ∷ []) (back more h) (λ e. n))
  where
    back : (l : List Point) → AllAt x l → NearestElsewhere p (reverse l)
    back [] h = tt
    back (q ∷ l) h = subst (NearestElsewhere p) (sym (reverse-cons q l)) (near_more p (reverse l) (q ∷ []) (back l h.1) (λ e i. n (sym h.0 ∙ i)))

-- the first point of stretches that begin elsewhere
first_elsewhere : (x p : Point) (l : List Point) (rs : List Cluster) → p ∷ l ≡ clustered rs → Elsewhere x rs → ground x ≢ ground p
unfolding Elsewhere
first_elsewhere x p l [] e n = absurd (let z : ◌≡◌ {A = ℕ} 0 1 = cc in omega arith)
first_elsewhere x p l (q ∷ rs) e n = let f : p ≡ q.first = cc in λ i. n (sym (ap ground f) ∙ sym i)

after_elsewhere : (x : Point) (rs : List Cluster) → Elsewhere x rs → NearestElsewhere x (clustered rs)
unfolding Elsewhere
after_elsewhere x [] n = tt
after_elsewhere x (q ∷ rs) n = n

-- ---- the points of a stretch, and of those behind it

here : (r : Cluster) (rs : List Cluster) → Maximal (r ∷ rs) → SinglePoint (clustered (r ∷ rs)) r.first (last_in r)
here r rs d = record {
  before = [];
  dropped = r.more;
  after = clustered rs;
  walked = refl;
  at_place = r.one_place;
  starts = tt;
  ends = after_elsewhere r.first rs (next r rs d);
  other = refl;
  agrees = λ e. ap (last_of r.first) e;
}

behind : (r : Cluster) (rs : List Cluster) (p q : Point) → Maximal (r ∷ rs) → SinglePoint (clustered rs) p q → SinglePoint (clustered (r ∷ rs)) p q
behind r rs p q d s = record {
  before = s.before ++ reverse stretch;
  dropped = s.dropped;
  after = s.after;
  walked = ap (λ (l : List Point). l ++ rest) (reverse-append s.before (reverse stretch) ∙ ap (λ (l : List Point). l ++ reverse s.before) (reverse-reverse stretch)) ∙ append_assoc stretch (reverse s.before) rest ∙ ap (λ (l : List Point). stretch ++ l) s.walked;
  at_place = s.at_place;
  starts = near_more p s.before (reverse stretch) s.starts (λ e. near_stretch p r.first r.more (first_elsewhere r.first p (s.dropped ++ s.after) rs (sym (ap (λ (l : List Point). reverse l ++ rest) e) ∙ s.walked) (next r rs d)) r.one_place);
  ends = s.ends;
  other = s.other;
  agrees = s.agrees;
}
  where
    stretch : List Point
    stretch = r.first ∷ r.more

    rest : List Point
    rest = p ∷ (s.dropped ++ s.after)

singles : (rs : List Cluster) → Maximal rs → (k : ℕ) (p q : Point) → get_elem? (map first_in rs) k ≡ some p → get_elem? (map last_in rs) k ≡ some q → SinglePoint (clustered rs) p q
singles [] d k p q h i = absurd (let z : ◌≡◌ {A = ℕ} 0 1 = cc in omega arith)
singles (r ∷ rs) d zero p q h i =
    let e : r.first ≡ p = cc in
    let f : last_in r ≡ q = cc in
    subst (λ (x : Point). SinglePoint (clustered (r ∷ rs)) x q) e (subst (SinglePoint (clustered (r ∷ rs)) r.first) f (here r rs d))
singles (r ∷ rs) d (suc k) p q h i = behind r rs p q d (singles rs (later r rs d) k p q h i)

-- of any two paths of which one walks c and the other walks it back
pub single_points : (c this that : List Point) → Turned c this that → (k : ℕ) (p q : Point) → get_elem? this k ≡ some p → get_elem? (reverse that) k ≡ some q → SinglePoint c p q
single_points c this that t k p q h i =
    subst (λ (l : List Point). SinglePoint l p q) t.walked
    (singles t.clusters t.maximal k p q (sym (ap (λ (l : List Point). get_elem? l k) t.this_is) ∙ h)
    (sym (ap (λ (l : List Point). get_elem? l k) (ap reverse t.that_is ∙ reverse-reverse (map last_in t.clusters))) ∙ i))
