-- A walk falls into stretches of neighbours at one place; the path that walks it keeps the first of each, the path that walks it back the last of each, and nothing else is left open.
use Prim.Native.Nat.{ℕ, zero, suc}
use mathlib.Core.Path.{◌≡◌, refl, sym, ap, ◌∙◌}
use mathlib.Core.Logic.{◌≢◌}
use mathlib.Core.Bool.{Bool, true, false, cond}
use mathlib.Core.List.{List, [], ◌∷◌, ◌++◌, map, reverse, reverse-cons, reverse-reverse}
use mathlib.Core.Option.{some}
use native.Mathlib.Omega.{arith}
use lib.ListN.{get_elem?}
use Rattle.rings.specs.Circle.{last_of}
use Rattle.geometry.specs.declared.Point.{Point}
use Rattle.geometry.specs.Plane.{ground, same_point}
use Rattle.geometry.proofs.Points.{same_true, true_same, same_false, same_differ}
use Rattle.lone.specs.Path.{drop_equals, without_equals}
use Rattle.lone.specs.Plane.{plane}
use Rattle.opposite.specs.Turned.{AllAt, Cluster, first_in, last_in, clustered, Maximal, Turned}
use Rattle.opposite.proofs.Keyed.{without_back, keys_turned}

-- at one place with p is at one place with q
moved : (p q : Point) (l : List Point) → ground p ≡ ground q → AllAt p l → AllAt q l
moved p q [] e h = tt
moved p q (r ∷ l) e h = (h.0 ∙ e, moved p q l e h.1)

-- the next stretch is elsewhere
unfoldable pub Elsewhere : Point → List Cluster → Type 0
Elsewhere p [] = Unit {0}
Elsewhere p (r ∷ rs) = ground r.first ≢ ground p

pub next : (r : Cluster) (rs : List Cluster) → Maximal (r ∷ rs) → Elsewhere r.first rs
unfolding Elsewhere
next r [] d = tt
next r (q ∷ rs) d = d.0

pub later : (r : Cluster) (rs : List Cluster) → Maximal (r ∷ rs) → Maximal rs
later r [] d = tt
later r (q ∷ rs) d = d.1

maximal_more : (r : Cluster) (rs : List Cluster) → Elsewhere r.first rs → Maximal rs → Maximal (r ∷ rs)
unfolding Elsewhere
maximal_more r [] h d = tt
maximal_more r (q ∷ rs) h d = (h, d)

elsewhere_too : (p q : Point) (rs : List Cluster) → ground p ≡ ground q → Elsewhere p rs → Elsewhere q rs
unfolding Elsewhere
elsewhere_too p q [] e h = tt
elsewhere_too p q (r ∷ rs) e h = λ i. h (i ∙ sym e)

-- ---- every walk falls so

record Falls (c : List Point) : Type 0 where
  clusters : List Cluster
  walked : clustered clusters ≡ c
  maximal : Maximal clusters

alone : Point → Cluster
alone x = record { first = x; more = []; one_place = tt }

joined : (x : Point) (r : Cluster) → ground r.first ≡ ground x → Cluster
joined x r e = record { first = x; more = r.first ∷ r.more; one_place = (e, moved r.first x r.more e r.one_place) }

one_more : (x : Point) (c : List Point) (rs : List Cluster) → clustered rs ≡ c → Maximal rs → Falls (x ∷ c)
unfolding alone joined
one_more x c [] e d = record { clusters = alone x ∷ []; walked = ap (λ (l : List Point). x ∷ l) e; maximal = tt }
one_more x c (r ∷ rs) e d = go (same_point r.first x) refl
  where
    go : (b : Bool) → same_point r.first x ≡ b → Falls (x ∷ c)
    go true h =
        let g : ground r.first ≡ ground x = same_true r.first x h in
        record { clusters = joined x r g ∷ rs; walked = ap (λ (l : List Point). x ∷ l) e; maximal = maximal_more (joined x r g) rs (elsewhere_too r.first x rs g (next r rs d)) (later r rs d) }
    go false h = record { clusters = alone x ∷ r ∷ rs; walked = ap (λ (l : List Point). x ∷ l) e; maximal = (same_differ r.first x h, d) }

fall : (c : List Point) → Falls c
fall [] = record { clusters = []; walked = refl; maximal = tt }
fall (x ∷ c) = one_more x c (fall c).clusters (fall c).walked (fall c).maximal

-- the k-th of a list that was mapped
at_map : {A B : Type 0} (f : A → B) (l : List A) (k : ℕ) (a : A) → get_elem? l k ≡ some a → get_elem? (map f l) k ≡ some (f a)
at_map f [] k a e = let z : ◌≡◌ {A = ℕ} 0 1 = cc in absurd (omega arith)
at_map {A} f (x ∷ l) zero a e = let z : x ≡ a = cc in ap (λ (y : A). some (f y)) z
at_map f (x ∷ l) (suc k) a e = at_map f l k a e

module _ (p : Bool) where
  -- ---- the walk leaves the first of each

  drops : (x : Point) (more l : List Point) → AllAt x more → drop_equals (plane p) x (more ++ l) ≡ drop_equals (plane p) x l
  drops x [] l h = refl
  drops x (q ∷ more) l h = rw (true_same q x h.0) (drops x more l h.1)

  firsts : (rs : List Cluster) → Maximal rs → without_equals (plane p) (clustered rs) ≡ map first_in rs
  firsts [] d = refl
  firsts (r ∷ []) d = ap (λ (l : List Point). r.first ∷ l) (drops r.first r.more [] r.one_place)
  firsts (r ∷ q ∷ rs) d = ap (λ (l : List Point). r.first ∷ l) (drops r.first r.more (clustered (q ∷ rs)) r.one_place ∙ goes_on ∙ firsts (q ∷ rs) d.1)
    where
      goes_on : drop_equals (plane p) r.first (clustered (q ∷ rs)) ≡ without_equals (plane p) (clustered (q ∷ rs))
      goes_on = rw (same_false q.first r.first d.0)

  -- ---- the walk back leaves the last of each

  from_end : (x : Point) (more : List Point) → AllAt x more → (rs : List Cluster) → Elsewhere x rs → without_equals (plane p) (reverse (clustered rs)) ≡ reverse (map last_in rs)
      → without_equals (plane p) (reverse (x ∷ (more ++ clustered rs))) ≡ reverse (last_of x more ∷ map last_in rs)
  unfolding Elsewhere
  from_end x [] h [] d e = refl
  from_end x [] h (q ∷ rs) d e =
      without_back (plane p) ground same_true true_same x q.first (q.more ++ clustered rs)
      ∙ ap (λ (b : Bool). cond b (without_equals (plane p) (reverse (clustered (q ∷ rs)))) (without_equals (plane p) (reverse (clustered (q ∷ rs))) ++ (x ∷ []))) (same_false x q.first (λ i. d (sym i)))
      ∙ ap (λ (l : List Point). l ++ (x ∷ [])) e ∙ sym (reverse-cons x (map last_in (q ∷ rs)))
  from_end x (m ∷ more) h rs d e =
      without_back (plane p) ground same_true true_same x m (more ++ clustered rs)
      ∙ ap (λ (b : Bool). cond b (without_equals (plane p) (reverse (m ∷ (more ++ clustered rs)))) (without_equals (plane p) (reverse (m ∷ (more ++ clustered rs))) ++ (x ∷ []))) (true_same x m (sym h.0))
      ∙ from_end m more (moved x m more (sym h.0) h.1) rs (elsewhere_too x m rs (sym h.0) d) e

  lasts : (rs : List Cluster) → Maximal rs → without_equals (plane p) (reverse (clustered rs)) ≡ reverse (map last_in rs)
  lasts [] d = refl
  lasts (r ∷ rs) d = from_end r.first r.more r.one_place rs (next r rs d) (lasts rs (later r rs d))

  -- ---- both

  pub walk_turned : (c : List Point) → Turned c (without_equals (plane p) c) (without_equals (plane p) (reverse c))
  walk_turned c = record {
    clusters = rs;
    walked = (fall c).walked;
    maximal = (fall c).maximal;
    this_is = this_is;
    that_is = that_is;
    places = keys_turned (plane p) ground same_true true_same c;
    depths = λ k r h e. ap (λ (l : List Point). get_elem? (reverse l) k) that_is ∙ ap (λ (l : List Point). get_elem? l k) (reverse-reverse (map last_in rs)) ∙ at_map last_in rs k r h
        ∙ ap (λ (l : List Point). some (last_of r.first l)) e ∙ sym (at_map first_in rs k r h) ∙ sym (ap (λ (l : List Point). get_elem? l k) this_is);
  }
    where
      rs : List Cluster
      rs = (fall c).clusters

      this_is : without_equals (plane p) c ≡ map first_in rs
      this_is = sym (ap (without_equals (plane p)) (fall c).walked) ∙ firsts rs (fall c).maximal

      that_is : without_equals (plane p) (reverse c) ≡ reverse (map last_in rs)
      that_is = sym (ap (λ (l : List Point). without_equals (plane p) (reverse l)) (fall c).walked) ∙ lasts rs (fall c).maximal

  -- and no other two paths are so
  pub only_turned : (c this that : List Point) → Turned c this that → (this ≡ without_equals (plane p) c) × (that ≡ without_equals (plane p) (reverse c))
  only_turned c this that t =
      (t.this_is ∙ sym (firsts t.clusters t.maximal) ∙ ap (without_equals (plane p)) t.walked, t.that_is ∙ sym (lasts t.clusters t.maximal) ∙ ap (λ (l : List Point). without_equals (plane p) (reverse l)) t.walked)
