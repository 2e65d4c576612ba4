-- Two records: one ring of both, and the second is emptied. The invariant stays.
use Prim.Native.Nat.{ℕ, ◌+◌, ◌<◌}
use mathlib.Core.Path.{◌≡◌, refl, ap, ◌∙◌, sym, subst}
use mathlib.Core.Logic.{◌≢◌, ◌⊎◌, inr}
use mathlib.Core.Bool.{true, false}
use mathlib.Core.List.{List, [], ◌∷◌, ◌++◌}
use native.Mathlib.Omega.{arith}
use native.Mathlib.Decide.{ℕ_discrete, dec_lt}
use borrow.Author.Tests.{eq-eqb, ne_eqb}
use Rattle.rings.specs.Count.{occ}
use Rattle.rings.specs.Whole.{Whole}
use Rattle.rings.specs.Table.{Table, with, Starts, nowhere, on_it}
use Rattle.rings.specs.Table as rings
use Rattle.rings.proofs.Counting.{all_in, in_all}
use Rattle.rings.proofs.Members.{one_is, occ_append}
use Rattle.rings.proofs.Splicing.{occ_spliced}
use Rattle.rings.proofs.Tables.{with_here, with_else, table_splice, total_splice, walked, table_walked, total_walked}
use Rattle.store.specs.Field.{pt, rc, NEXT, PREV, REC, OWNER, FIRST, NONE}
use Rattle.store.specs.Words.{Store}
use Rattle.store.specs.Sound.{pts, recs, ringless, ring_at, is_open}
use Rattle.store.specs.Good.{total}
use Rattle.joins.specs.Paths.{Path, Resolves, Lives}
use Rattle.joins.specs.Resolved.{Emptied, Resolved}
use Rattle.joins.proofs.Resolving.{path_join, path_kept}
use Rattle.joins.proofs.Homes.{starts, emptied_kept, table, home_of_lem}
use Rattle.joins.proofs.Joining.{Merged, Shut, OpenKept, ring_kept, shut_by, differ, apart}

module _ (s u : Store) (o : Resolved s) (a b i j : ℕ) (l r : List ℕ) (ij : i ≢ j) (hi : i < recs s) (hj : j < recs s) (fi : s (rc FIRST) i ≢ NONE) (fj : s (rc FIRST) j ≢ NONE)
    (w : Whole (s (pt NEXT)) (s (pt PREV)) (pts s) (a ∷ l)) (v : Whole (s (pt NEXT)) (s (pt PREV)) (pts s) (b ∷ r))
    (ones : (k : ℕ) → occ k (a ∷ l) ≡ occ k (ring_at s i)) (twos : (k : ℕ) → occ k (b ∷ r) ≡ occ k (ring_at s j)) (c : Merged s u a b i j) where
  -- records without points stay so; of those with points, all but j keep them
  empty : (x : ℕ) → s (rc FIRST) x ≡ NONE → (u (rc FIRST) x ≡ NONE) × (u (rc OWNER) x ≡ s (rc OWNER) x)
  empty x e =
      let d : x ≢ j = λ z. fj (ap (s (rc FIRST)) (sym z) ∙ e) in
      (c.first_else x d ∙ e, c.owner_else x d)

  way : (x t : ℕ) (z : Resolves s x t) → Path (u (rc FIRST)) (u (rc OWNER)) x z.via t
  way x t z =
      path_kept (s (rc FIRST)) (s (rc OWNER)) (u (rc FIRST)) (u (rc OWNER)) x z.via t
      (all_in (λ y. s (rc FIRST) y ≡ NONE → (u (rc FIRST) y ≡ NONE) × (u (rc OWNER) y ≡ s (rc OWNER) y)) z.via (λ y h. empty y)) z.path

  -- what came to another record still does
  merge_res : (x t : ℕ) → t ≢ j → Resolves s x t → Resolves u x t
  merge_res x t d z = record { via = z.via; path = way x t z; low = rw c.records z.low; real = rw c.records z.real; some = λ e. z.some (sym (c.first_else t d) ∙ e) }

  -- what came to j goes on to i, its taker
  taken : (x : ℕ) → Resolves s x j → Resolves u x i
  taken x z =
      record {
        via = z.via ++ (j ∷ []);
        path = path_join (u (rc FIRST)) (u (rc OWNER)) x z.via j (j ∷ []) i (way x j z) (refl, c.first_gone, c.owner_gone);
        low = rw c.records (all_in (λ y. y < recs s) (z.via ++ (j ∷ [])) lows);
        real = rw c.records hi;
        some = λ e. fi (sym (c.first_else i ij) ∙ e);
      }
    where
      lows : (y : ℕ) → 0 < occ y (z.via ++ (j ∷ [])) → y < recs s
      lows y h = go (dec_lt 0 (occ y z.via))
        where
          go : Dec (0 < occ y z.via) → y < recs s
          go (yes g) = in_all (λ m. m < recs s) z.via y z.low g
          go (no g) = in_all (λ m. m < recs s) (j ∷ []) y (hj, tt) (omega (arith, occ_append y z.via (j ∷ [])))

  joined : ℕ → List ℕ
  joined = with (with (ring_at s) i (a ∷ r ++ b ∷ l)) j []

  spliced : (k : ℕ) → occ k (a ∷ r ++ b ∷ l) ≡ occ k (a ∷ l) + occ k (b ∷ r)
  spliced k = occ_spliced (s (pt NEXT)) (s (pt PREV)) (u (pt NEXT)) (u (pt PREV)) a b c.crossed (pts s) k l r

  begin : (t : ℕ) → t < recs s → Starts (u (rc FIRST) t) (joined t)
  unfolding joined
  begin t h = go (ℕ_discrete t j) (ℕ_discrete t i) (starts s i)
    where
      go : Dec (t ≡ j) → Dec (t ≡ i) → Starts (s (rc FIRST) i) (ring_at s i) → Starts (u (rc FIRST) t) (with (with (ring_at s) i (a ∷ r ++ b ∷ l)) j [] t)
      go (yes e) f x = nowhere (ap (u (rc FIRST)) e ∙ c.first_gone) (rw (eq-eqb t j e))
      go (no d) (yes f) (nowhere e z) = absurd (fi e)
      go (no d) (yes f) (on_it e z) = rw (ne_eqb t j d, eq-eqb t i f)
          (subst (λ (x : ℕ). Starts x (a ∷ r ++ b ∷ l)) (sym (c.first_else t d ∙ ap (s (rc FIRST)) f)) (on_it e (omega (arith, spliced (s (rc FIRST) i), ones (s (rc FIRST) i)))))
      go (no d) (no f) x = rw (ne_eqb t j d, ne_eqb t i f) (subst (λ (y : ℕ). Starts y (ring_at s t)) (sym (c.first_else t d)) (starts s t))

  splice : Table (u (pt NEXT)) (u (pt PREV)) (pts s) (recs s) joined
  unfolding joined
  splice = table_splice (s (pt NEXT)) (s (pt PREV)) (pts s) (recs s) (ring_at s) (table s o) (u (pt NEXT)) (u (pt PREV)) a b c.crossed i j hi hj ij l r w v ones twos

  splice_total : (k : ℕ) → rings.total joined (recs s) k ≡ total s k
  unfolding joined
  splice_total k = total_splice (s (pt NEXT)) (s (pt PREV)) (pts s) (recs s) (ring_at s) (table s o) (u (pt NEXT)) (u (pt PREV)) a b c.crossed i j hi hj ij l r w v ones twos k

  -- what each record's ring has now
  pub merge_occs : (t : ℕ) → t < recs s → (k : ℕ) → occ k (ring_at u t) ≡ occ k (with (with (ring_at s) i (a ∷ r ++ b ∷ l)) j [] t)
  unfolding joined
  merge_occs t h k = (walked (u (pt NEXT)) (u (pt PREV)) (pts s) o.few_points (u (rc FIRST) t) (joined t) (splice.whole t h) (begin t h)).occs k

  pub merge_resolved : Resolved u
  merge_resolved =
      record {
        few_points = rw c.points o.few_points;
        few_records = rw c.records o.few_records;
        whole = λ t h. rw c.points (tables.whole t (rw c.records at h));
        home = λ t k h y. homes t k (rw c.records at h) y;
        placed = λ k h. rw c.records (omega (arith, sums k, splice_total k, o.placed k (omega (arith, c.points))));
        x_in = λ k h. rw (c.xs k) (o.x_in k (omega (arith, c.points)));
        y_in = λ k h. rw (c.ys k) (o.y_in k (omega (arith, c.points)));
        owner_in = λ t h. rw c.records (owners t (rw c.records at h) (ℕ_discrete t j));
        emptied = λ t h e. why t (rw c.records at h) e (ℕ_discrete t j);
      }
    where
      tables : Table (u (pt NEXT)) (u (pt PREV)) (pts s) (recs s) (ring_at u)
      tables = table_walked (u (pt NEXT)) (u (pt PREV)) (pts s) o.few_points (u (rc FIRST)) (recs s) joined splice begin

      sums : (k : ℕ) → rings.total (ring_at u) (recs s) k ≡ rings.total joined (recs s) k
      sums k = total_walked (u (pt NEXT)) (u (pt PREV)) (pts s) o.few_points (u (rc FIRST)) (recs s) joined splice begin k

      homes : (t k : ℕ) → t < recs s → 0 < occ k (ring_at u t) → Resolves u (u (pt REC) k) t
      homes t k h y = rw (c.named k) (go (ℕ_discrete t j) (ℕ_discrete t i))
        where
          x : 0 < occ k (with (with (ring_at s) i (a ∷ r ++ b ∷ l)) j [] t)
          x = omega (arith, merge_occs t h k)

          either : 0 < occ k (a ∷ r ++ b ∷ l) → Dec (0 < occ k (a ∷ l)) → Resolves u (s (pt REC) k) i
          either y (yes g) = merge_res (s (pt REC) k) i ij (o.home i k hi (omega (arith, ones k)))
          either y (no g) = taken (s (pt REC) k) (o.home j k hj (omega (arith, twos k, spliced k)))

          go : Dec (t ≡ j) → Dec (t ≡ i) → Resolves u (s (pt REC) k) t
          go (yes e) f = let z : 0 < occ k [] = rw (eq-eqb t j e) at x in absurd (omega arith)
          go (no d) (yes f) = subst (Resolves u (s (pt REC) k)) (sym f) (either (rw (ne_eqb t j d, eq-eqb t i f) at x) (dec_lt 0 (occ k (a ∷ l))))
          go (no d) (no f) = merge_res (s (pt REC) k) t d (o.home t k h (rw (ne_eqb t j d, ne_eqb t i f) at x))

      owners : (t : ℕ) → t < recs s → Dec (t ≡ j) → (u (rc OWNER) t ≡ NONE) ⊎ (u (rc OWNER) t < recs s)
      owners t h (yes e) = inr (subst (λ (x : ℕ). u (rc OWNER) x < recs s) (sym e) (rw c.owner_gone hi))
      owners t h (no d) = rw (c.owner_else t d) (o.owner_in t h)

      why : (t : ℕ) → t < recs s → ringless u t ≡ true → Dec (t ≡ j) → Emptied u t
      why t h e (yes d) = subst (Emptied u) (sym d) (inr (c.reason_gone, rw (c.taker_gone, c.records) hi))
      why t h e (no d) = emptied_kept s u t (c.reason_else t d) (c.taker_else t d) (omega (arith, c.records)) (o.emptied t h (rw (c.first_else t d) at e))

  -- the ring of both
  pub merge_whole : Whole (u (pt NEXT)) (u (pt PREV)) (pts s) (a ∷ r ++ b ∷ l)
  unfolding joined
  merge_whole = subst (Whole (u (pt NEXT)) (u (pt PREV)) (pts s)) (with_else (with (ring_at s) i (a ∷ r ++ b ∷ l)) j [] i ij ∙ with_here (ring_at s) i (a ∷ r ++ b ∷ l)) (splice.whole i hi)

  -- every other ring stays
  pub merge_others : (t : ℕ) → t < recs s → t ≢ i → t ≢ j → ring_at u t ≡ ring_at s t
  merge_others t h d e =
      ring_kept s u t (c.first_else t e)
      (λ k p. c.crossed.next_else k (apart s o i t hi h d k a p (omega (arith, ones a, one_is a a refl))) (apart s o j t hj h e k b p (omega (arith, twos b, one_is b b refl))))

  -- where both records are closed
  pub merge_opened : is_open s i ≡ false → is_open s j ≡ false → OpenKept s u
  merge_opened shut-i shut-j =
      record {
        records = omega (arith, c.records);
        points = omega (arith, c.points);
        flags = λ t h. c.flags t;
        new = λ t h g. absurd (omega (arith, c.records));
        rings = λ t h g. merge_others t h (differ s t i g shut-i) (differ s t j g shut-j);
        xs = λ k h. c.xs k;
        ys = λ k h. c.ys k;
        zs = λ k h. c.zs k;
        shut = λ k h g.
            let z = home_of_lem s o k h in
            go k z.0 z.1 (g z.0 z.1) (ℕ_discrete z.0 j);
      }
    where
      closed : (t : ℕ) → is_open s t ≡ false → is_open u t ≡ false
      closed t e = rw (c.flags t) e

      go : (k h : ℕ) → Lives s h k → is_open s h ≡ false → Dec (h ≡ j) → Shut u k
      go k h z e (yes f) = shut_by u i k (record { bound = omega (arith, c.points, z.bound); res = rw (c.named k) (taken (s (pt REC) k) (subst (λ (v : ℕ). Resolves s (s (pt REC) k) v) f z.res)) }) (closed i shut-i)
      go k h z e (no d) = shut_by u h k (record { bound = omega (arith, c.points, z.bound); res = rw (c.named k) (merge_res (s (pt REC) k) h d z.res) }) (closed h e)
