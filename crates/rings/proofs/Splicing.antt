-- The nexts of two points exchanged: one ring is cut in two, two rings are spliced into one, and a ring without the points stays.
use Prim.Native.Nat.{ℕ, zero, suc, ◌+◌, ◌≤◌, ◌<◌}
use mathlib.Core.Path.{◌≡◌, refl, sym, ◌∙◌, subst}
use mathlib.Core.List.{List, [], ◌∷◌, ◌++◌, append_assoc}
use native.Mathlib.Omega.{arith}
use Rattle.rings.specs.Count.{one, occ}
use Rattle.rings.specs.Links.{Seg, Linked}
use Rattle.rings.specs.Whole.{Whole}
use Rattle.rings.specs.Relink.{Crossed}
use Rattle.rings.proofs.Circles.{init_of_snoc}
use Rattle.rings.proofs.Counting.{all_in}
use Rattle.rings.proofs.Linking.{seg_join, seg_keep, close}
use Rattle.rings.proofs.Members.{one_is, occ_append, seg_part, seg_next, whole_kept}

pub crossed_sym : (n p n' p' : ℕ → ℕ) (a b : ℕ) → Crossed n p n' p' a b → Crossed n p n' p' b a
crossed_sym n p n' p' a b c =
    record {
      next_a = c.next_b;
      next_b = c.next_a;
      prev_a = c.prev_b;
      prev_b = c.prev_a;
      next_else = λ i x y. c.next_else i y x;
      prev_else = λ i x y. c.prev_else i y x;
    }

-- l is neither in the way of b's next nor of a and b themselves
module _ (n p n' p' : ℕ → ℕ) (a b : ℕ) (c : Crossed n p n' p' a b) where
  -- the run from a to b closes at b
  half : (l : List ℕ) → Seg n p (a ∷ l ++ (b ∷ [])) → ((k : ℕ) → one k a + occ k l + one k b ≤ 1) → occ (n b) l + one (n b) b ≡ 0 → Linked n' p' (b ∷ l)
  half [] s o e = (c.next_b ∙ s.0, subst (λ (x : ℕ). p' x ≡ b) s.0 c.prev_b, tt)
  half (z ∷ l) s o e =
      close n p n' p' b z l s.2
      (all_in (λ k. n' k ≡ n k) (z ∷ l) (λ k h. c.next_else k (λ d. omega (arith, o k, one_is k a d)) (λ d. omega (arith, o k, one_is k b d))))
      (all_in (λ k. p' k ≡ p k) (l ++ (b ∷ [])) (λ k h. c.prev_else k
      (λ d. omega (arith, o k, one_is k z (d ∙ s.0), occ_append k l (b ∷ [])))
      (λ d. omega (arith, subst (λ (y : ℕ). occ y (z ∷ l) + one y b ≡ 0) (sym d) e, occ_append k l (b ∷ [])))))
      (c.next_b ∙ s.0)
      (subst (λ (y : ℕ). p' y ≡ b) s.0 c.prev_b)

  -- b's ring, less b, stands between a and b
  bridge : (r : List ℕ) → Seg n p (b ∷ r ++ (b ∷ [])) → ((k : ℕ) → one k a + occ k r + one k b ≤ 1) → occ (n a) r + one (n a) b ≡ 0 → Seg n' p' (a ∷ r ++ (b ∷ []))
  bridge [] s o e = (c.next_a ∙ s.0, subst (λ (x : ℕ). p' x ≡ a) s.0 c.prev_a, tt)
  bridge (x ∷ r) s o e = (
    c.next_a ∙ s.0,
    subst (λ (y : ℕ). p' y ≡ a) s.0 c.prev_a,
    seg_keep n p n' p' x (r ++ (b ∷ [])) s.2
        (rw (init_of_snoc x r b) (all_in (λ k. n' k ≡ n k) (x ∷ r) (λ k h. c.next_else k (λ d. omega (arith, o k, one_is k a d)) (λ d. omega (arith, o k, one_is k b d)))))
        (all_in (λ k. p' k ≡ p k) (r ++ (b ∷ [])) (λ k h. c.prev_else k
        (λ d. omega (arith, subst (λ (y : ℕ). occ y (x ∷ r) + one y b ≡ 0) (sym d) e, occ_append k r (b ∷ [])))
        (λ d. omega (arith, o k, one_is k x (d ∙ s.0), occ_append k r (b ∷ []))))),
  )

module _ (n p n' p' : ℕ → ℕ) (a b : ℕ) (c : Crossed n p n' p' a b) (m : ℕ) where
  -- what the two halves of a ring a, l.., b, r.. have
  pub occ_halves : (k : ℕ) (l r : List ℕ) → occ k (a ∷ l ++ b ∷ r) ≡ occ k (b ∷ l) + occ k (a ∷ r)
  occ_halves k l r = omega (arith, occ_append k l (b ∷ r))

  pub occ_spliced : (k : ℕ) (l r : List ℕ) → occ k (a ∷ r ++ b ∷ l) ≡ occ k (a ∷ l) + occ k (b ∷ r)
  occ_spliced k l r = omega (arith, occ_append k r (b ∷ l))

  -- a ring a, l.., b, r.. is cut in two: b, l.. and a, r..
  module _ (l r : List ℕ) (w : Whole n p m (a ∷ l ++ b ∷ r)) where
    runs : Seg n p (a ∷ l ++ (b ∷ [])) × Seg n p (b ∷ r ++ (a ∷ []))
    runs = seg_part n p (a ∷ l) b (r ++ (a ∷ [])) (subst (λ (x : List ℕ). Seg n p (a ∷ x)) (append_assoc l (b ∷ r) (a ∷ [])) w.linked)

    counts : (k : ℕ) → one k a + occ k l + one k b + occ k r ≤ 1
    counts k = omega (arith, w.once k, occ_append k l (b ∷ r))

    pub whole_cut_new : Whole n' p' m (b ∷ l)
    whole_cut_new =
        record {
          linked = half n p n' p' a b c l runs.0 (λ k. omega (arith, counts k)) (omega (arith, counts (n b), seg_next n p b r a runs.1, occ_append (n b) r (a ∷ [])));
          once = λ k. omega (arith, counts k);
          below = λ k o. w.below k (omega (arith, occ_halves k l r));
        }

    pub whole_cut_own : Whole n' p' m (a ∷ r)
    whole_cut_own =
        record {
          linked = half n p n' p' b a (crossed_sym n p n' p' a b c) r runs.1 (λ k. omega (arith, counts k)) (omega (arith, counts (n a), seg_next n p a l b runs.0, occ_append (n a) l (b ∷ [])));
          once = λ k. omega (arith, counts k);
          below = λ k o. w.below k (omega (arith, occ_halves k l r));
        }

  -- rings a, l.. and b, r.. with no point in common become one: a, r.., b, l..
  pub whole_splice : (l r : List ℕ) → Whole n p m (a ∷ l) → Whole n p m (b ∷ r) → ((k : ℕ) → occ k (a ∷ l) + occ k (b ∷ r) ≤ 1) → Whole n' p' m (a ∷ r ++ b ∷ l)
  whole_splice l r w v d =
      record {
        linked = subst (λ (x : List ℕ). Seg n' p' (a ∷ x)) (sym (append_assoc r (b ∷ l) (a ∷ [])))
            (seg_join n' p' (a ∷ r) b (l ++ (a ∷ []))
            (bridge n p n' p' a b c r v.linked (λ k. omega (arith, d k)) (omega (arith, d (n a), seg_next n p a l a w.linked, occ_append (n a) l (a ∷ []))))
            (bridge n p n' p' b a (crossed_sym n p n' p' a b c) l w.linked (λ k. omega (arith, d k)) (omega (arith, d (n b), seg_next n p b r b v.linked, occ_append (n b) r (b ∷ [])))));
        once = λ k. omega (arith, d k, occ_spliced k l r);
        below = λ k o. go k (d k) (occ_spliced k l r) o;
      }
    where
      go : (k : ℕ) → occ k (a ∷ l) + occ k (b ∷ r) ≤ 1 → occ k (a ∷ r ++ b ∷ l) ≡ occ k (a ∷ l) + occ k (b ∷ r) → 0 < occ k (a ∷ r ++ b ∷ l) → k < m
      go k h e o = side (occ k (a ∷ l)) refl
        where
          side : (x : ℕ) → occ k (a ∷ l) ≡ x → k < m
          side zero f = v.below k (omega arith)
          side (suc x) f = w.below k (omega arith)

  -- a ring that has neither a, nor b, nor their nexts
  pub whole_apart : (l : List ℕ) → occ a l ≡ 0 → occ b l ≡ 0 → occ (n a) l ≡ 0 → occ (n b) l ≡ 0 → Whole n p m l → Whole n' p' m l
  whole_apart l oa ob na nb w =
      whole_kept n p n' p' m m l w (omega arith)
      (λ k h. c.next_else k (λ d. off k a h d oa) (λ d. off k b h d ob))
      (λ k h. c.prev_else k (λ d. off k (n a) h d na) (λ d. off k (n b) h d nb))
    where
      off : (k x : ℕ) → 0 < occ k l → k ≡ x → occ x l ≡ 0 → ⊥
      off k x h d e = omega (arith, subst (λ (y : ℕ). occ y l ≡ 0) (sym d) e)
