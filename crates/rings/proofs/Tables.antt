-- Tables of rings under a change of links: one ring cut in two, two spliced into one, a point put in or taken out, and all other rings as they were.
use Prim.Native.Nat.{ℕ, zero, suc, ◌+◌, ◌≤◌, ◌<◌}
use mathlib.Core.Path.{◌≡◌, refl, sym, ap, ◌∙◌, subst}
use mathlib.Core.Logic.{◌≢◌}
use mathlib.Core.List.{List, [], ◌∷◌, ◌++◌}
use native.Mathlib.Omega.{arith}
use native.Mathlib.Decide.{ℕ_discrete, dec_lt}
use borrow.Author.Tests.{eq-eqb, ne_eqb}
use Rattle.job.specs.Limits.{POINTS, NONE}
use Rattle.rings.specs.Count.{one, occ}
use Rattle.rings.specs.Whole.{Whole}
use Rattle.rings.specs.Relink.{Crossed, Inserted, Unlinked}
use Rattle.rings.specs.Table.{total, Table, with, ring_from, Starts, nowhere, on_it}
use Rattle.rings.proofs.Counting.{sum_same, sum_change, sum_term, sum_two, one_le}
use Rattle.rings.proofs.Members.{one_is, next_on, prev_on, whole_kept}
use Rattle.rings.proofs.Splicing.{occ_halves, occ_spliced, whole_cut_new, whole_cut_own, whole_splice, whole_apart}
use Rattle.rings.proofs.Inserting.{whole_before, whole_without}
use Rattle.rings.proofs.Walking.{Seen, seen}

-- ---- counting over a table

pub with_here : (ring : ℕ → List ℕ) (i : ℕ) (c : List ℕ) → with ring i c i ≡ c
with_here ring i c = rw (eq-eqb i i refl)

pub with_else : (ring : ℕ → List ℕ) (i : ℕ) (c : List ℕ) (j : ℕ) → j ≢ i → with ring i c j ≡ ring j
with_else ring i c j d = rw (ne_eqb j i d)

pub total_with : (ring : ℕ → List ℕ) (i : ℕ) (c : List ℕ) (m k : ℕ) → i < m → total (with ring i c) m k + occ k (ring i) ≡ total ring m k + occ k c
total_with ring i c m k h =
    sum_change m i (λ j. occ k (ring j)) (λ j. occ k (with ring i c j)) h (λ j l d. ap (occ k) (with_else ring i c j d))
    ∙ ap (λ (x : List ℕ). total ring m k + occ k x) (with_here ring i c)

pub total_more : (ring : ℕ → List ℕ) (c : List ℕ) (m k : ℕ) → total (with ring m c) (suc m) k ≡ total ring m k + occ k c
total_more ring c m k =
    let e : total (with ring m c) m k ≡ total ring m k = sum_same m (λ j. occ k (ring j)) (λ j. occ k (with ring m c j)) (λ j l. ap (occ k) (with_else ring m c j (λ z. omega arith))) in
    omega (arith, ap (occ k) (with_here ring m c))

-- a point that is on a ring is on one of them
pub record Found (ring : ℕ → List ℕ) (m k : ℕ) : Type 0 where
  pub at : ℕ
  pub low : at < m
  pub here : 0 < occ k (ring at)

pub found : (ring : ℕ → List ℕ) (m k : ℕ) → 0 < total ring m k → Found ring m k
found ring zero k h = absurd (omega arith)
found ring (suc m) k h = go (dec_lt 0 (occ k (ring m))) (λ l. found ring m k l)
  where
    go : Dec (0 < occ k (ring m)) → (0 < total ring m k → Found ring m k) → Found ring (suc m) k
    go (yes o) r = record { at = m; low = omega arith; here = o }
    go (no d) r =
        let t = r (omega arith) in
        record { at = t.at; low = omega (arith, t.low); here = t.here }

-- where every point has one record, rings of distinct points have no point in common
pub once_by : (ring : ℕ → List ℕ) (m : ℕ) → ((i k : ℕ) → i < m → occ k (ring i) ≤ 1) → ((i j k : ℕ) → i < m → j < m → 0 < occ k (ring i) → 0 < occ k (ring j) → i ≡ j) → (k : ℕ) → total ring m k ≤ 1
once_by ring zero o d k = omega arith
once_by ring (suc m) o d k = go (dec_lt 0 (occ k (ring m))) (dec_lt 0 (total ring m k)) (once_by ring m (λ i k l. o i k (omega arith)) (λ i j k a b. d i j k (omega arith) (omega arith)) k)
  where
    go : Dec (0 < occ k (ring m)) → Dec (0 < total ring m k) → total ring m k ≤ 1 → total ring m k + occ k (ring m) ≤ 1
    go (yes a) (yes b) r =
        let t = found ring m k b in
        absurd (omega (arith, t.low, d t.at m k (omega (arith, t.low)) (omega arith) t.here a))
    go (yes a) (no b) r = omega (arith, o m k (omega arith))
    go (no a) s r = omega arith

-- ---- the points of one ring are on no other

module _ (n p : ℕ → ℕ) (q m : ℕ) (ring : ℕ → List ℕ) (t : Table n p q m ring) where
  pub elsewhere : (i j k : ℕ) → i < m → j < m → i ≢ j → 0 < occ k (ring i) → occ k (ring j) ≡ 0
  elsewhere i j k hi hj d o = omega (arith, t.once k, sum_two m i j (λ (x : ℕ). occ k (ring x)) hi hj d)

  module _ (n' p' : ℕ → ℕ) where
    module _ (a b : ℕ) (c : Crossed n p n' p' a b) where
      -- a ring none of whose points is crossed: a is on ring i, b on ring t
      pub whole_other : (i e j : ℕ) → i < m → e < m → j < m → j ≢ i → j ≢ e → 0 < occ a (ring i) → 0 < occ b (ring e) → Whole n' p' q (ring j)
      whole_other i e j hi he hj d f oa ob =
          whole_apart n p n' p' a b c q (ring j)
          (elsewhere i j a hi hj (λ z. d (sym z)) oa)
          (elsewhere e j b he hj (λ z. f (sym z)) ob)
          (elsewhere i j (n a) hi hj (λ z. d (sym z)) (next_on n p q (ring i) (t.whole i hi) a oa))
          (elsewhere e j (n b) he hj (λ z. f (sym z)) (next_on n p q (ring e) (t.whole e he) b ob))
          (t.whole j hj)

      -- ---- the ring of record i is a, l.., b, r..: it keeps a, r.. and record m has b, l..
      module _ (i : ℕ) (hi : i < m) (l r : List ℕ) (w : Whole n p q (a ∷ l ++ b ∷ r)) (occs : (k : ℕ) → occ k (a ∷ l ++ b ∷ r) ≡ occ k (ring i)) where
        pub total_cut : (k : ℕ) → total (with (with ring i (a ∷ r)) m (b ∷ l)) (suc m) k ≡ total ring m k
        total_cut k = omega (arith, total_more (with ring i (a ∷ r)) (b ∷ l) m k, total_with ring i (a ∷ r) m k hi, occs k, occ_halves n p n' p' a b c q k l r)

        pub table_cut : Table n' p' q (suc m) (with (with ring i (a ∷ r)) m (b ∷ l))
        table_cut = record { whole = λ j h. go j h (ℕ_discrete j m) (ℕ_discrete j i); once = λ k. omega (arith, total_cut k, t.once k) }
          where
            oa : 0 < occ a (ring i)
            oa = omega (arith, occs a, one_is a a refl)

            ob : 0 < occ b (ring i)
            ob = omega (arith, occs b, occ_halves n p n' p' a b c q b l r, one_is b b refl)

            go : (j : ℕ) → j < suc m → Dec (j ≡ m) → Dec (j ≡ i) → Whole n' p' q (with (with ring i (a ∷ r)) m (b ∷ l) j)
            go j h (yes e) f = rw (eq-eqb j m e) (whole_cut_new n p n' p' a b c q l r w)
            go j h (no d) (yes f) = rw (ne_eqb j m d, eq-eqb j i f) (whole_cut_own n p n' p' a b c q l r w)
            go j h (no d) (no f) = rw (ne_eqb j m d, ne_eqb j i f) (whole_other i i j hi hi (omega arith) f f oa ob)

      -- ---- the rings of records i and e are a, l.. and b, r..: record i has them both
      module _ (i e : ℕ) (hi : i < m) (he : e < m) (ie : i ≢ e) (l r : List ℕ) (w : Whole n p q (a ∷ l)) (v : Whole n p q (b ∷ r)) (ones : (k : ℕ) → occ k (a ∷ l) ≡ occ k (ring i)) (twos : (k : ℕ) → occ k (b ∷ r) ≡ occ k (ring e)) where
        pub total_splice : (k : ℕ) → total (with (with ring i (a ∷ r ++ b ∷ l)) e []) m k ≡ total ring m k
        total_splice k =
            omega (
              arith,
              total_with (with ring i (a ∷ r ++ b ∷ l)) e [] m k he,
              ap (occ k) (with_else ring i (a ∷ r ++ b ∷ l) e (λ z. ie (sym z))),
              total_with ring i (a ∷ r ++ b ∷ l) m k hi,
              ones k,
              twos k,
              occ_spliced n p n' p' a b c q k l r,
            )

        pub table_splice : Table n' p' q m (with (with ring i (a ∷ r ++ b ∷ l)) e [])
        table_splice = record { whole = λ j h. go j h (ℕ_discrete j e) (ℕ_discrete j i); once = λ k. omega (arith, total_splice k, t.once k) }
          where
            go : (j : ℕ) → j < m → Dec (j ≡ e) → Dec (j ≡ i) → Whole n' p' q (with (with ring i (a ∷ r ++ b ∷ l)) e [] j)
            go j h (yes z) f = rw (eq-eqb j e z) (record { linked = tt; once = λ k. omega arith; below = λ k o. absurd (omega arith) })
            go j h (no d) (yes f) = rw (ne_eqb j e d, eq-eqb j i f)
                (whole_splice n p n' p' a b c q l r w v (λ k. omega (arith, t.once k, sum_two m i e (λ (x : ℕ). occ k (ring x)) hi he ie, ones k, twos k)))
            go j h (no d) (no f) = rw (ne_eqb j e d, ne_eqb j i f) (whole_other i e j hi he h f d (omega (arith, ones a, one_is a a refl)) (omega (arith, twos b, one_is b b refl)))

    -- ---- the ring of record i is op, l..: a new point k goes in before op
    module _ (q' : ℕ) (le : q ≤ q') (k : ℕ) (low : k < q') (fresh : total ring m k ≡ 0) (op i : ℕ) (u : Inserted n p n' p' k op) (hi : i < m) (l : List ℕ)
        (w : Whole n p q (op ∷ l)) (occs : (x : ℕ) → occ x (op ∷ l) ≡ occ x (ring i)) where
      pub total_insert : (x : ℕ) → total (with ring i (k ∷ op ∷ l)) m x ≡ total ring m x + one x k
      total_insert x = omega (arith, total_with ring i (k ∷ op ∷ l) m x hi, occs x)

      pub table_insert : Table n' p' q' m (with ring i (k ∷ op ∷ l))
      table_insert = record { whole = λ j h. go j h (ℕ_discrete j i); once = λ x. count x (ℕ_discrete x k) }
        where
          absent : (j : ℕ) → j < m → occ k (ring j) ≡ 0
          absent j h = omega (arith, fresh, sum_term m j (λ (x : ℕ). occ k (ring x)) h)

          off : (j x y : ℕ) → 0 < occ x (ring j) → occ y (ring j) ≡ 0 → x ≢ y
          off j x y h e d = omega (arith, subst (λ (z : ℕ). occ z (ring j) ≡ 0) (sym d) e)

          count : (x : ℕ) → Dec (x ≡ k) → total (with ring i (k ∷ op ∷ l)) m x ≤ 1
          count x (yes e) = omega (arith, total_insert x, subst (λ (y : ℕ). total ring m y ≡ 0) (sym e) fresh, one_le x k)
          count x (no d) = omega (arith, total_insert x, t.once x, else x d)
            where
              else : (x : ℕ) → x ≢ k → one x k ≡ 0
              else x d = rw (ne_eqb k x (λ e. d (sym e)))

          on_op : 0 < occ op (ring i)
          on_op = omega (arith, occs op, one_is op op refl)

          go : (j : ℕ) → j < m → Dec (j ≡ i) → Whole n' p' q' (with ring i (k ∷ op ∷ l) j)
          go j h (yes e) = rw (eq-eqb j i e) (whole_before n p n' p' q q' le k low op u l w (omega (arith, occs k, absent i hi)))
          go j h (no d) =
              rw (ne_eqb j i d)
              (whole_kept n p n' p' q q' (ring j) (t.whole j h) le
              (λ x o. u.next_else x (off j x k o (absent j h)) (off j x (p op) o (elsewhere i j (p op) hi h (λ z. d (sym z)) (prev_on n p q (ring i) (t.whole i hi) op on_op))))
              (λ x o. u.prev_else x (off j x k o (absent j h)) (off j x op o (elsewhere i j op hi h (λ z. d (sym z)) on_op))))

    -- ---- the ring of record i is op, y, l..: op goes out
    module _ (op i : ℕ) (u : Unlinked n p n' p' op) (hi : i < m) (y : ℕ) (l : List ℕ) (w : Whole n p q (op ∷ y ∷ l)) (occs : (x : ℕ) → occ x (op ∷ y ∷ l) ≡ occ x (ring i)) where
      pub total_unlink : (x : ℕ) → total (with ring i (y ∷ l)) m x + one x op ≡ total ring m x
      total_unlink x = omega (arith, total_with ring i (y ∷ l) m x hi, occs x)

      pub table_unlink : Table n' p' q m (with ring i (y ∷ l))
      table_unlink = record { whole = λ j h. go j h (ℕ_discrete j i); once = λ x. omega (arith, total_unlink x, t.once x) }
        where
          on_op : 0 < occ op (ring i)
          on_op = omega (arith, occs op, one_is op op refl)

          off : (j x z : ℕ) → j < m → j ≢ i → 0 < occ x (ring j) → 0 < occ z (ring i) → x ≢ z
          off j x z h d o e f = omega (arith, subst (λ (v : ℕ). occ v (ring j) ≡ 0) (sym f) (elsewhere i j z hi h (λ k. d (sym k)) e))

          go : (j : ℕ) → j < m → Dec (j ≡ i) → Whole n' p' q (with ring i (y ∷ l) j)
          go j h (yes e) = rw (eq-eqb j i e) (whole_without n p n' p' q op u y l w)
          go j h (no d) =
              rw (ne_eqb j i d)
              (whole_kept n p n' p' q q (ring j) (t.whole j h) (omega arith)
              (λ x o. u.next_else x (off j x (p op) h d o (prev_on n p q (ring i) (t.whole i hi) op on_op)))
              (λ x o. u.prev_else x (off j x (n op) h d o (next_on n p q (ring i) (t.whole i hi) op on_op))))

-- ---- the table computed from first points, by walking

module _ (n p : ℕ → ℕ) (q : ℕ) (few : q ≤ POINTS) where
  module _ (f : ℕ) (c : List ℕ) (w : Whole n p q c) where
    pub record Walked : Type 0 where
      pub occs : (k : ℕ) → occ k (ring_from n f) ≡ occ k c
      pub whole : Whole n p q (ring_from n f)

    pub walked : Starts f c → Walked
    walked (nowhere e g) = record { occs = λ k. rw (eq-eqb f NONE e, g); whole = rw (eq-eqb f NONE e, ← g) w }
    walked (on_it d o) =
        let s : Seen n p q c f = seen n p q c f few w o in
        record { occs = λ k. rw (ne_eqb f NONE d, s.walked) (s.occs k); whole = rw (ne_eqb f NONE d, s.walked) s.whole }

  pub total_walked : (first : ℕ → ℕ) (m : ℕ) (ring : ℕ → List ℕ) → Table n p q m ring → ((i : ℕ) → i < m → Starts (first i) (ring i)) → (k : ℕ) → total (λ i. ring_from n (first i)) m k ≡ total ring m k
  total_walked first m ring t s k = sum_same m (λ i. occ k (ring i)) (λ i. occ k (ring_from n (first i))) (λ i h. (walked (first i) (ring i) (t.whole i h) (s i h)).occs k)

  pub table_walked : (first : ℕ → ℕ) (m : ℕ) (ring : ℕ → List ℕ) → Table n p q m ring → ((i : ℕ) → i < m → Starts (first i) (ring i)) → Table n p q m (λ i. ring_from n (first i))
  table_walked first m ring t s =
      record {
        whole = λ i h. (walked (first i) (ring i) (t.whole i h) (s i h)).whole;
        once = λ k. omega (arith, total_walked first m ring t s k, t.once k);
      }
