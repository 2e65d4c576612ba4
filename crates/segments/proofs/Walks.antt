-- A walk along next or prev from one point of a ring to another comes there, in fewer than 2,048 steps.
use Prim.Native.Nat.{ℕ, zero, suc, ◌+◌, ◌≤◌, ◌<◌}
use mathlib.Core.Path.{◌≡◌, refl, ap, sym, subst}
use mathlib.Core.Logic.{◌≢◌}
use mathlib.Core.List.{List, [], ◌∷◌, ◌++◌, append_assoc}
use native.Mathlib.Omega.{arith}
use native.Mathlib.Decide.{ℕ_discrete}
use lib.ListN.{length, length-append}
use Rattle.rings.specs.Count.{occ}
use Rattle.rings.specs.Links.{Seg}
use Rattle.rings.specs.Whole.{Whole}
use Rattle.rings.proofs.Counting.{one_else, one_here, pigeon}
use Rattle.rings.proofs.Linking.{seg_join}
use Rattle.rings.proofs.Members.{one_is, occ_append, parted, seg_part}
use Rattle.store.specs.Field.{pt, NEXT, PREV}
use Rattle.store.specs.Words.{Store}
use Rattle.store.specs.Sound.{pts}
use Rattle.joins.specs.Paths.{Lives}
use Rattle.joins.specs.Resolved.{Resolved}
use Rattle.joins.proofs.Homes.{on_ring_lem, from}

-- f comes to stop from p after d steps, and not before
abbrev pub First : (ℕ → ℕ) → ℕ → ℕ → ℕ → Type 0
First f stop p zero = p ≡ stop
First f stop p (suc d) = (p ≢ stop) × First f stop (f p) d

seg_first : (n p : ℕ → ℕ) (a : ℕ) (l : List ℕ) (b : ℕ) → Seg n p (a ∷ l ++ (b ∷ [])) → occ b (a ∷ l) ≡ 0 → First n b a (suc (length l))
seg_first n p a [] b s o = ((λ e. omega (arith, one_is b a (sym e))), s.0)
seg_first n p a (x ∷ l) b s o = ((λ e. omega (arith, one_is b a (sym e))), subst (λ (y : ℕ). First n b y (suc (length l))) (sym s.0) (seg_first n p x l b s.2 (omega arith)))

-- the same ring, walked backwards
abbrev rev : List ℕ → List ℕ
rev [] = []
rev (x ∷ l) = rev l ++ (x ∷ [])

rev_snoc : (l : List ℕ) (x : ℕ) → rev (l ++ (x ∷ [])) ≡ x ∷ rev l
rev_snoc [] x = refl
rev_snoc (y ∷ l) x = ap (λ (m : List ℕ). m ++ (y ∷ [])) (rev_snoc l x)

rev_length : (l : List ℕ) → length (rev l) ≡ length l
rev_length [] = refl
rev_length (x ∷ l) = omega (arith, length-append (rev l) (x ∷ []), rev_length l)

rev_occ : (k : ℕ) (l : List ℕ) → occ k (rev l) ≡ occ k l
rev_occ k [] = refl
rev_occ k (x ∷ l) = omega (arith, occ_append k (rev l) (x ∷ []), rev_occ k l)

seg_flip : (n p : ℕ → ℕ) (l : List ℕ) → Seg n p l → Seg p n (rev l)
seg_flip n p [] s = tt
seg_flip n p (a ∷ []) s = tt
seg_flip n p (a ∷ b ∷ r) s = subst (Seg p n) (sym (append_assoc (rev r) (b ∷ []) (a ∷ []))) (seg_join p n (rev r) b (a ∷ []) (seg_flip n p (b ∷ r) s.2) (s.1, s.0, tt))

pub record Steps (f : ℕ → ℕ) (stop p : ℕ) : Type 0 where
  pub many : ℕ
  pub first : First f stop p many
  pub few : many < 2048

module _ (s : Store) (o : Resolved s) (i k q : ℕ) (a : Lives s i k) (b : Lives s i q) where
  -- the ring from k, up to q and on
  pub record Both : Type 0 where
    pub l : List ℕ
    pub r : List ℕ
    pub whole : Whole (s (pt NEXT)) (s (pt PREV)) (pts s) (k ∷ l ++ q ∷ r)

  both : q ≢ k → Both
  both d =
      let f = from s o i k a in
      let h : 0 < occ q f.others = omega (arith, on_ring_lem s o i q b, f.occs q, one_else q k (λ e. d (sym e))) in
      let c = parted q f.others h in
      record { l = c.front; r = c.back; whole = subst (λ (m : List ℕ). Whole (s (pt NEXT)) (s (pt PREV)) (pts s) (k ∷ m)) c.is f.whole }

  size : (z : Both) → suc (length z.l) + suc (length z.r) ≤ 2048
  size z = omega (arith, pigeon (pts s) (k ∷ z.l ++ q ∷ z.r) z.whole.once z.whole.below, length-append z.l (q ∷ z.r), o.few_points)

  counts : (z : Both) → (occ q (k ∷ z.l) ≡ 0) × (occ q z.r ≡ 0)
  counts z = (omega (arith, z.whole.once q, occ_append q z.l (q ∷ z.r), one_here q), omega (arith, z.whole.once q, occ_append q z.l (q ∷ z.r), one_here q))

  runs : (z : Both) → Seg (s (pt NEXT)) (s (pt PREV)) (k ∷ z.l ++ (q ∷ [])) × Seg (s (pt NEXT)) (s (pt PREV)) (q ∷ z.r ++ (k ∷ []))
  runs z = seg_part (s (pt NEXT)) (s (pt PREV)) (k ∷ z.l) q (z.r ++ (k ∷ [])) (subst (λ (m : List ℕ). Seg (s (pt NEXT)) (s (pt PREV)) (k ∷ m)) (append_assoc z.l (q ∷ z.r) (k ∷ [])) z.whole.linked)

  pub forwards : Steps (s (pt NEXT)) q k
  forwards = go (ℕ_discrete q k)
    where
      go : Dec (q ≡ k) → Steps (s (pt NEXT)) q k
      go (yes e) = record { many = 0; first = sym e; few = omega arith }
      go (no d) =
          let z = both d in
          record { many = suc (length z.l); first = seg_first (s (pt NEXT)) (s (pt PREV)) k z.l q (runs z).0 (counts z).0; few = omega (arith, size z) }

  pub backwards : Steps (s (pt PREV)) q k
  backwards = go (ℕ_discrete q k)
    where
      go : Dec (q ≡ k) → Steps (s (pt PREV)) q k
      go (yes e) = record { many = 0; first = sym e; few = omega arith }
      go (no d) =
          let z = both d in
          let t : Seg (s (pt PREV)) (s (pt NEXT)) (k ∷ rev z.r ++ (q ∷ [])) = subst (λ (m : List ℕ). Seg (s (pt PREV)) (s (pt NEXT)) (m ++ (q ∷ []))) (rev_snoc z.r k) (seg_flip (s (pt NEXT)) (s (pt PREV)) (q ∷ z.r ++ (k ∷ [])) (runs z).1) in
          record {
            many = suc (length (rev z.r));
            first = seg_first (s (pt PREV)) (s (pt NEXT)) k (rev z.r) q t (omega (arith, (counts z).0, (counts z).1, rev_occ q z.r));
            few = omega (arith, size z, rev_length z.r);
          }
