-- One record for both points: its ring becomes two, the second with a new record. The invariant stays.
use Prim.Native.Nat.{ℕ, suc, ◌+◌, ◌<◌}
use mathlib.Core.Path.{◌≡◌, refl, ap, ◌∙◌, sym, subst}
use mathlib.Core.Logic.{◌≢◌, ◌⊎◌, inl, inr}
use mathlib.Core.Bool.{true, false}
use mathlib.Core.List.{List, [], ◌∷◌, ◌++◌}
use native.Mathlib.Omega.{arith}
use native.Mathlib.Decide.{ℕ_discrete, dec_lt}
use borrow.Author.Tests.{eq-eqb, ne_eqb, eqb-true}
use Rattle.job.specs.Limits as limit
use Rattle.rings.specs.Count.{occ}
use Rattle.rings.specs.Whole.{Whole}
use Rattle.rings.specs.Table.{Table, with, Starts, on_it}
use Rattle.rings.specs.Table as rings
use Rattle.rings.proofs.Counting.{all_in, in_all}
use Rattle.rings.proofs.Members.{one_is}
use Rattle.rings.proofs.Splicing.{occ_halves}
use Rattle.rings.proofs.Tables.{table_cut, total_cut, walked, table_walked, total_walked, elsewhere}
use Rattle.store.specs.Field.{pt, rc, NEXT, PREV, REC, OWNER, FIRST, NONE}
use Rattle.store.specs.Words.{Store}
use Rattle.store.specs.Sound.{pts, recs, ringless, ring_at, is_open}
use Rattle.store.specs.Good.{total}
use Rattle.joins.specs.Paths.{Resolves, Lives}
use Rattle.joins.specs.Resolved.{Emptied, Resolved}
use Rattle.joins.proofs.Resolving.{path_kept}
use Rattle.joins.proofs.Homes.{starts, emptied_kept, table, lives_on, home_of_lem, on_ring_lem}
use Rattle.joins.proofs.Joining.{Split, Shut, OpenKept, ring_kept, shut_by, differ, apart}

module _ (s u : Store) (o : Resolved s) (a b i : ℕ) (l r : List ℕ) (hi : i < recs s) (room : recs s < limit.RECORDS) (fi : s (rc FIRST) i ≢ NONE)
    (w : Whole (s (pt NEXT)) (s (pt PREV)) (pts s) (a ∷ l ++ b ∷ r)) (occs : (k : ℕ) → occ k (a ∷ l ++ b ∷ r) ≡ occ k (ring_at s i)) (c : Split s u a b i l r) where
  halves : (k : ℕ) → occ k (a ∷ l ++ b ∷ r) ≡ occ k (b ∷ l) + occ k (a ∷ r)
  halves k = occ_halves (s (pt NEXT)) (s (pt PREV)) (u (pt NEXT)) (u (pt PREV)) a b c.crossed (pts s) k l r

  lives : (k : ℕ) → 0 < occ k (a ∷ l ++ b ∷ r) → Lives s i k
  lives k h = lives_on s o i k hi (omega (arith, occs k))

  point : (k : ℕ) → 0 < occ k (a ∷ l ++ b ∷ r) → k ≢ NONE
  point k h e = omega (arith, o.few_points, (lives k h).bound)

  some_own : u (rc FIRST) i ≢ NONE
  some_own = point (u (rc FIRST) i) (omega (arith, halves (u (rc FIRST) i), c.first_own))

  some_new : u (rc FIRST) (recs s) ≢ NONE
  some_new = point (u (rc FIRST) (recs s)) (omega (arith, halves (u (rc FIRST) (recs s)), c.first_new))

  -- records without points stay so, and those with points too
  still : (x : ℕ) → x < recs s → s (rc FIRST) x ≡ NONE → (u (rc FIRST) x ≡ NONE) × (u (rc OWNER) x ≡ s (rc OWNER) x)
  still x h e =
      let d : x ≢ recs s = λ z. omega arith in
      (c.first_else x (λ z. fi (ap (s (rc FIRST)) (sym z) ∙ e)) d ∙ e, c.owner_else x d)

  keeps : (x : ℕ) → x < recs s → s (rc FIRST) x ≢ NONE → u (rc FIRST) x ≢ NONE
  keeps x h e = go (ℕ_discrete x i)
    where
      go : Dec (x ≡ i) → u (rc FIRST) x ≢ NONE
      go (yes z) = λ y. some_own (ap (u (rc FIRST)) (sym z) ∙ y)
      go (no d) = λ y. e (sym (c.first_else x d (λ z. omega arith)) ∙ y)

  pub split_res : (x q : ℕ) → Resolves s x q → Resolves u x q
  split_res x q z =
      record {
        via = z.via;
        path = path_kept (s (rc FIRST)) (s (rc OWNER)) (u (rc FIRST)) (u (rc OWNER)) x z.via q
            (all_in (λ y. s (rc FIRST) y ≡ NONE → (u (rc FIRST) y ≡ NONE) × (u (rc OWNER) y ≡ s (rc OWNER) y)) z.via (λ y h. still y (in_all (λ m. m < recs s) z.via y z.low h))) z.path;
        low = all_in (λ y. y < recs u) z.via (λ y h. omega (arith, c.records, in_all (λ m. m < recs s) z.via y z.low h));
        real = omega (arith, z.real, c.records);
        some = keeps q z.real z.some;
      }

  own : (k : ℕ) → 0 < occ k (a ∷ r) → Resolves u (u (pt REC) k) i
  own k h = go (ℕ_discrete k a) c.named_own
    where
      old : u (pt REC) k ≡ s (pt REC) k → Resolves u (u (pt REC) k) i
      old e = rw e (split_res (s (pt REC) k) i (lives k (omega (arith, halves k))).res)

      go : Dec (k ≡ a) → (u (pt REC) a ≡ s (pt REC) a) ⊎ (u (pt REC) a ≡ i) → Resolves u (u (pt REC) k) i
      go (no d) e = old (c.named_else k (omega (arith, w.once k, halves k)) d)
      go (yes z) (inl e) = old (rw z e)
      go (yes z) (inr e) = record { via = []; path = rw z e; low = tt; real = omega (arith, c.records); some = some_own }

  new : (k : ℕ) → 0 < occ k (b ∷ l) → Resolves u (u (pt REC) k) (recs s)
  new k h = record { via = []; path = c.named_new k h; low = tt; real = omega (arith, c.records); some = some_new }

  -- a point of another ring is in neither half
  other : (j k : ℕ) → j < recs s → j ≢ i → 0 < occ k (ring_at s j) → Resolves u (u (pt REC) k) j
  other j k h d y =
      let z : occ k (a ∷ l ++ b ∷ r) ≡ 0 = occs k ∙ elsewhere (s (pt NEXT)) (s (pt PREV)) (pts s) (recs s) (ring_at s) (table s o) j i k h hi d y in
      rw (c.named_else k (omega (arith, halves k)) (λ e. omega (arith, one_is k a e))) (split_res (s (pt REC) k) j (o.home j k h y))

  after : ℕ → List ℕ
  after = with (with (ring_at s) i (a ∷ r)) (recs s) (b ∷ l)

  i_old : i ≢ recs s
  i_old e = omega arith

  start : (j : ℕ) → j < suc (recs s) → Starts (u (rc FIRST) j) (after j)
  unfolding after
  start j h = go (ℕ_discrete j (recs s)) (ℕ_discrete j i)
    where
      go : Dec (j ≡ recs s) → Dec (j ≡ i) → Starts (u (rc FIRST) j) (with (with (ring_at s) i (a ∷ r)) (recs s) (b ∷ l) j)
      go (yes e) f = rw (eq-eqb j (recs s) e) (subst (λ (x : ℕ). Starts (u (rc FIRST) x) (b ∷ l)) (sym e) (on_it some_new c.first_new))
      go (no d) (yes f) = rw (ne_eqb j (recs s) d, eq-eqb j i f) (subst (λ (x : ℕ). Starts (u (rc FIRST) x) (a ∷ r)) (sym f) (on_it some_own c.first_own))
      go (no d) (no f) = rw (ne_eqb j (recs s) d, ne_eqb j i f) (subst (λ (x : ℕ). Starts x (ring_at s j)) (sym (c.first_else j f d)) (starts s j))

  cut : Table (u (pt NEXT)) (u (pt PREV)) (pts s) (suc (recs s)) after
  unfolding after
  cut = table_cut (s (pt NEXT)) (s (pt PREV)) (pts s) (recs s) (ring_at s) (table s o) (u (pt NEXT)) (u (pt PREV)) a b c.crossed i hi l r w occs

  cut_total : (k : ℕ) → rings.total after (suc (recs s)) k ≡ total s k
  unfolding after
  cut_total k = total_cut (s (pt NEXT)) (s (pt PREV)) (pts s) (recs s) (ring_at s) (table s o) (u (pt NEXT)) (u (pt PREV)) a b c.crossed i hi l r w occs k

  -- what each record's ring has now
  pub split_occs : (j : ℕ) → j < suc (recs s) → (k : ℕ) → occ k (ring_at u j) ≡ occ k (with (with (ring_at s) i (a ∷ r)) (recs s) (b ∷ l) j)
  unfolding after
  split_occs j h k = (walked (u (pt NEXT)) (u (pt PREV)) (pts s) o.few_points (u (rc FIRST) j) (after j) (cut.whole j h) (start j h)).occs k

  pub split_resolved : Resolved u
  split_resolved =
      record {
        few_points = rw c.points o.few_points;
        few_records = omega (arith, c.records);
        whole = λ j h. rw c.points (t.whole j (omega (arith, c.records)));
        home = λ j k h y. homes j k (omega (arith, c.records)) y;
        placed = λ k h. rw c.records (omega (arith, sums k, cut_total k, o.placed k (omega (arith, c.points))));
        x_in = λ k h. rw (c.xs k) (o.x_in k (omega (arith, c.points)));
        y_in = λ k h. rw (c.ys k) (o.y_in k (omega (arith, c.points)));
        owner_in = λ j h. owners j h (ℕ_discrete j (recs s));
        emptied = λ j h e. why j h e (ℕ_discrete j (recs s)) (ℕ_discrete j i);
      }
    where
      t : Table (u (pt NEXT)) (u (pt PREV)) (pts s) (suc (recs s)) (ring_at u)
      t = table_walked (u (pt NEXT)) (u (pt PREV)) (pts s) o.few_points (u (rc FIRST)) (suc (recs s)) after cut start

      sums : (k : ℕ) → rings.total (ring_at u) (suc (recs s)) k ≡ rings.total after (suc (recs s)) k
      sums k = total_walked (u (pt NEXT)) (u (pt PREV)) (pts s) o.few_points (u (rc FIRST)) (suc (recs s)) after cut start k

      homes : (j k : ℕ) → j < suc (recs s) → 0 < occ k (ring_at u j) → Resolves u (u (pt REC) k) j
      homes j k h y = go (ℕ_discrete j (recs s)) (ℕ_discrete j i)
        where
          x : 0 < occ k (with (with (ring_at s) i (a ∷ r)) (recs s) (b ∷ l) j)
          x = omega (arith, split_occs j h k)

          go : Dec (j ≡ recs s) → Dec (j ≡ i) → Resolves u (u (pt REC) k) j
          go (yes e) f = subst (Resolves u (u (pt REC) k)) (sym e) (new k (rw (eq-eqb j (recs s) e) at x))
          go (no d) (yes f) = subst (Resolves u (u (pt REC) k)) (sym f) (own k (rw (ne_eqb j (recs s) d, eq-eqb j i f) at x))
          go (no d) (no f) = other j k (omega arith) f (rw (ne_eqb j (recs s) d, ne_eqb j i f) at x)

      owners : (j : ℕ) → j < recs u → Dec (j ≡ recs s) → (u (rc OWNER) j ≡ NONE) ⊎ (u (rc OWNER) j < recs u)
      owners j h (yes e) = inr (subst (λ (x : ℕ). u (rc OWNER) x < recs u) (sym e) (rw c.owner_new (omega (arith, c.records))))
      owners j h (no d) = rw (c.owner_else j d) (more (o.owner_in j (omega (arith, c.records))))
        where
          more : (s (rc OWNER) j ≡ NONE) ⊎ (s (rc OWNER) j < recs s) → (s (rc OWNER) j ≡ NONE) ⊎ (s (rc OWNER) j < recs u)
          more (inl e) = inl e
          more (inr e) = inr (omega (arith, c.records))

      why : (j : ℕ) → j < recs u → ringless u j ≡ true → Dec (j ≡ recs s) → Dec (j ≡ i) → Emptied u j
      why j h e (yes d) f = absurd (some_new (ap (u (rc FIRST)) (sym d) ∙ eqb-true _ _ e))
      why j h e (no d) (yes f) = absurd (some_own (ap (u (rc FIRST)) (sym f) ∙ eqb-true _ _ e))
      why j h e (no d) (no f) = emptied_kept s u j (c.reasons j) (c.takers j) (omega (arith, c.records)) (o.emptied j (omega (arith, c.records)) (rw (c.first_else j f d) at e))

  -- every other ring stays
  pub split_others : (j : ℕ) → j < recs s → j ≢ i → ring_at u j ≡ ring_at s j
  split_others j h d =
      ring_kept s u j (c.first_else j d (λ z. omega arith))
      (λ k p. c.crossed.next_else k (apart s o i j hi h d k a p (omega (arith, occs a, one_is a a refl))) (apart s o i j hi h d k b p (omega (arith, occs b, halves b, one_is b b refl))))

  -- where record i is closed
  pub split_opened : is_open s i ≡ false → OpenKept s u
  split_opened shut =
      record {
        records = omega (arith, c.records);
        points = omega (arith, c.points);
        flags = λ j h. c.flags_else j (λ z. omega arith);
        new = λ j h g. let e : j ≡ recs s = omega (arith, c.records) in rw (e, c.flags_new);
        rings = λ j h g. split_others j h (differ s j i g shut);
        xs = λ k h. c.xs k;
        ys = λ k h. c.ys k;
        zs = λ k h. c.zs k;
        shut = λ k h g.
            let z = home_of_lem s o k h in
            go k z.0 z.1 (g z.0 z.1) (ℕ_discrete z.0 i);
      }
    where
      closed : (j : ℕ) → j < recs s → is_open s j ≡ false → is_open u j ≡ false
      closed j h e = rw (c.flags_else j (λ z. omega arith)) e

      go : (k h : ℕ) → Lives s h k → is_open s h ≡ false → Dec (h ≡ i) → Shut u k
      go k h z e (yes f) =
          let y : 0 < occ k (a ∷ l ++ b ∷ r) = omega (arith, occs k, subst (λ (v : ℕ). 0 < occ k (ring_at s v)) f (on_ring_lem s o h k z)) in
          side y (dec_lt 0 (occ k (b ∷ l)))
        where
          side : 0 < occ k (a ∷ l ++ b ∷ r) → Dec (0 < occ k (b ∷ l)) → Shut u k
          side y (yes g) = shut_by u (recs s) k (record { bound = omega (arith, c.points, z.bound); res = new k g }) (rw c.flags_new)
          side y (no g) = shut_by u i k (record { bound = omega (arith, c.points, z.bound); res = own k (omega (arith, halves k)) }) (closed i hi shut)
      go k h z e (no d) = shut_by u h k (record { bound = omega (arith, c.points, z.bound); res = other h k z.res.real d (on_ring_lem s o h k z) }) (closed h z.res.real e)
