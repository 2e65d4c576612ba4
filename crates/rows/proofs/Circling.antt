-- An owner chain that ends has no record twice, so it has no more owners than there are records: one that has not ended by then never does.
use mathlib.Core.Path.{◌≡◌, refl, sym, ap, subst, ◌∙◌}
use mathlib.Core.Logic.{◌⊎◌, inl, inr}
use mathlib.Core.Bool.{Bool, true, false, not, ◌||◌}
use mathlib.Core.List.{List, [], ◌∷◌}
use Prim.Native.Nat.{ℕ, zero, suc, ◌*◌, ◌<◌, ◌≤◌}
use native.Mathlib.Decide.{ℕ_discrete, dec_lt}
use native.Mathlib.Omega.{arith}
use lib.ListN.{length}
use borrow.Author.Tests.{le-leb, lt-leb, not-true}
use Rattle.job.specs.Limits.{RECORDS}
use Rattle.rings.specs.Count.{occ}
use Rattle.rings.proofs.Counting.{one_else, one_le, pigeon}
use Rattle.store.specs.Field.{NONE}
use Rattle.store.specs.Named.{records_of, owner_of, points_of}
use Rattle.audit.specs.Tests.{any_below, no_such, no_such_of}
use Rattle.audit.proofs.Saying.{none_of, owned}
use Rattle.owners.specs.Owners.{ends_in, circles}
use Rattle.rows.specs.Circling.{Circling}
use Rattle.rows.specs.Rows.{unnamed, no_such_number}
use Rattle.rows.specs.Found.{Filled}
use Rattle.owners.specs.Tables.{Long}
use Rattle.owners.proofs.Following.{never, one_more, none_yet, long_end, long_hop, long_back, has_owner}
use Rattle.audit.proofs.Testing.{or_left, or_right}

-- a chain that ends has a length
pub record Ends (w : List ℕ) (r : ℕ) : Type 0 where
  pub after : ℕ
  pub long : Long w r after

pub ends : (w : List ℕ) (f r : ℕ) → ends_in f (owner_of w) r ≡ true → Ends w r
ends w zero r e = never e (none_yet w r)
ends w (suc f) r e = by (ℕ_discrete (owner_of w r) NONE) (ends w f (owner_of w r))
  where
    by : Dec (owner_of w r ≡ NONE) → (ends_in f (owner_of w) (owner_of w r) ≡ true → Ends w (owner_of w r)) → Ends w r
    by (yes d) g = record { after = 1; long = long_end w r d }
    by (no d) g =
        let z = g (sym (one_more w r f d) ∙ e) in
        record { after = suc z.after; long = long_hop w r z.after d z.long }

-- and only one
one_length : (w : List ℕ) (r a b : ℕ) → Long w r a → Long w r b → a ≤ b
one_length w r a b h k = by (dec_lt b a)
  where
    by : Dec (b < a) → a ≤ b
    by (yes l) = never (k.ends b ∙ le-leb b b (omega arith)) (h.ends b ∙ lt-leb a b l)
    by (no l) = omega arith

module _ (w : List ℕ) (low : (r : ℕ) → r < records_of w → (owner_of w r ≡ NONE) ⊎ (owner_of w r < records_of w)) where
  -- the records along a chain of d owners: each once, and each with a chain no longer
  record Along (r d : ℕ) : Type 0 where
    all : List ℕ
    many : length all ≡ d
    once : (k : ℕ) → occ k all ≤ 1
    below : (k : ℕ) → 0 < occ k all → k < records_of w
    shorter : (k e : ℕ) → 0 < occ k all → Long w k e → e ≤ d

  along : (d r : ℕ) → r < records_of w → Long w r d → Along r d
  along zero r h l = record { all = []; many = refl; once = λ k. omega arith; below = λ k o. absurd (omega arith); shorter = λ k e o. absurd (omega arith) }
  along (suc d) r h l = by d l (λ x y z. along d x y z)
    where
      more : (d : ℕ) → Long w r (suc d) → (l : List ℕ) → length l ≡ d → ((k : ℕ) → occ k l ≤ 1) → ((k : ℕ) → 0 < occ k l → k < records_of w)
          → ((k e : ℕ) → 0 < occ k l → Long w k e → e ≤ d) → Along r (suc d)
      more d g l m o b s =
          record {
            all = r ∷ l;
            many = omega (arith, m);
            once = λ k. single k (ℕ_discrete r k);
            below = λ k y. under k y (ℕ_discrete r k);
            shorter = λ k e y z. less k e y z (ℕ_discrete r k);
          }
        where
          apart : occ r l ≡ 0
          apart = go (dec_lt 0 (occ r l))
            where
              go : Dec (0 < occ r l) → occ r l ≡ 0
              go (yes y) = absurd (omega (arith, s r (suc d) y g))
              go (no y) = omega arith

          single : (k : ℕ) → Dec (r ≡ k) → occ k (r ∷ l) ≤ 1
          single k (yes e) = omega (arith, one_le k r, subst (λ (x : ℕ). occ x l ≡ 0) e apart)
          single k (no e) = omega (arith, one_else k r e, o k)

          under : (k : ℕ) → 0 < occ k (r ∷ l) → Dec (r ≡ k) → k < records_of w
          under k y (yes e) = subst (λ (x : ℕ). x < records_of w) e h
          under k y (no e) = b k (omega (arith, one_else k r e))

          less : (k e : ℕ) → 0 < occ k (r ∷ l) → Long w k e → Dec (r ≡ k) → e ≤ suc d
          less k e y z (yes c) = one_length w k e (suc d) z (subst (λ (x : ℕ). Long w x (suc d)) c g)
          less k e y z (no c) = omega (arith, s k e (omega (arith, one_else k r c)) z)

      by : (d : ℕ) → Long w r (suc d) → ((x : ℕ) → x < records_of w → Long w x d → Along x d) → Along r (suc d)
      by zero g f = more zero g [] refl (λ k. omega arith) (λ k o. absurd (omega arith)) (λ k e o. absurd (omega arith))
      by (suc d) g f = go (low r h)
        where
          go : (owner_of w r ≡ NONE) ⊎ (owner_of w r < records_of w) → Along r (suc (suc d))
          go (inl e) = absurd (has_owner w r (suc (suc d)) (omega arith) g e)
          go (inr x) =
              let a = f (owner_of w r) x (long_back w r d g) in
              more (suc d) g a.all a.many a.once a.below a.shorter

  -- no chain is longer than there are records
  short : (d r : ℕ) → r < records_of w → Long w r d → d ≤ records_of w
  short d r h l =
      let a = along d r h l in
      omega (arith, a.many, pigeon (records_of w) a.all a.once a.below)

-- "an owner chain circles" means that it never ends
pub circling : (w ss : List ℕ) (m : ℕ) (js : List ℕ) (n : ℕ) → Filled w ss m js n → no_such_number w ss m js n ≡ false → Circling w
circling w ss m js n g e = record { never_ends = λ i h c f. go i f h c (ends_in f (owner_of w) i) refl; circles_then = λ i h c. ap not (c RECORDS) }
  where
    low : (r : ℕ) → r < records_of w → (owner_of w r ≡ NONE) ⊎ (owner_of w r < records_of w)
    low r h =
        let a = or_right (any_below (points_of w) (no_such w)) (any_below (records_of w) (no_such_of w) || (unnamed w ss m || unnamed w js (2 * n))) e in
        (owned w r (none_of (records_of w) (no_such_of w) (or_left (any_below (records_of w) (no_such_of w)) (unnamed w ss m || unnamed w js (2 * n)) a) r h)).owner

    go : (i f : ℕ) → i < records_of w → circles w i ≡ true → (b : Bool) → ends_in f (owner_of w) i ≡ b → b ≡ false
    go i f h c false y = refl
    go i f h c true y =
        let z = ends w f i y in
        let s = short w low z.after i h z.long in
        let l : z.after ≤ RECORDS = omega (arith, s, g.records) in
        never (z.long.ends RECORDS ∙ le-leb z.after RECORDS l) (not-true (ends_in RECORDS (owner_of w) i) c)
