-- A point put into a ring, before or after one of its points, and a point taken out.
use Prim.Native.Nat.{ℕ, ◌+◌, ◌≤◌, ◌<◌}
use mathlib.Core.Path.{◌≡◌, refl, sym, ◌∙◌, subst}
use mathlib.Core.List.{List, [], ◌∷◌, ◌++◌}
use native.Mathlib.Omega.{arith}
use native.Mathlib.Decide.{ℕ_discrete}
use Rattle.rings.specs.Circle.{init_of, last_of}
use Rattle.rings.specs.Count.{one, occ}
use Rattle.rings.specs.Links.{Linked}
use Rattle.rings.specs.Whole.{Whole}
use Rattle.rings.specs.Relink.{Inserted, Unlinked}
use Rattle.rings.proofs.Counting.{all_in, one_else, occ_last}
use Rattle.rings.proofs.Linking.{next_is, prev_is, linked_double, linked_drop}
use Rattle.rings.proofs.Members.{one_is, linked_rotate, whole_rotate}

module _ (n p n' p' : ℕ → ℕ) (m m' : ℕ) (le : m ≤ m') (k : ℕ) (low : k < m') where
  -- k goes in before op
  pub whole_before : (op : ℕ) → Inserted n p n' p' k op → (l : List ℕ) → Whole n p m (op ∷ l) → occ k (op ∷ l) ≡ 0 → Whole n' p' m' (k ∷ op ∷ l)
  whole_before op u l w fresh =
      record {
        linked = go l w.linked w.once fresh;
        once = λ x. count x (ℕ_discrete x k);
        below = λ x o. under x o (ℕ_discrete x k);
      }
    where
      count : (x : ℕ) → Dec (x ≡ k) → one x k + occ x (op ∷ l) ≤ 1
      count x (yes e) = omega (arith, one_is x k e, subst (λ (y : ℕ). occ y (op ∷ l) ≡ 0) (sym e) fresh)
      count x (no d) = omega (arith, one_else x k (λ e. d (sym e)), w.once x)

      under : (x : ℕ) → 0 < occ x (k ∷ op ∷ l) → Dec (x ≡ k) → x < m'
      under x o (yes e) = omega arith
      under x o (no d) = omega (arith, w.below x (omega (arith, one_else x k (λ e. d (sym e)))))

      go : (l : List ℕ) → Linked n p (op ∷ l) → ((x : ℕ) → occ x (op ∷ l) ≤ 1) → occ k (op ∷ l) ≡ 0 → Linked n' p' (k ∷ op ∷ l)
      go [] s o f =
          let e : p op ≡ op = s.1 in
          (u.next_new, u.prev_same, (subst (λ (x : ℕ). n' x ≡ k) e u.next_same, u.prev_new ∙ e, tt))
      go (y ∷ r) s o f =
          let e : p op ≡ last_of y r = prev_is n p op (y ∷ r) s in
          linked_rotate n' p' (op ∷ y ∷ r) (k ∷ [])
          (linked_double n p n' p' op y r k s
          (all_in (λ x. n' x ≡ n x) (op ∷ init_of y r) (λ x h. u.next_else x
          (λ d. omega (arith, subst (λ (z : ℕ). occ z (op ∷ y ∷ r) ≡ 0) (sym d) f, occ_last x y r))
          (λ d. omega (arith, o x, occ_last x y r, one_is x (last_of y r) (d ∙ e)))))
          (all_in (λ x. p' x ≡ p x) (y ∷ r) (λ x h. u.prev_else x
          (λ d. omega (arith, subst (λ (z : ℕ). occ z (op ∷ y ∷ r) ≡ 0) (sym d) f))
          (λ d. omega (arith, o x, one_is x op d))))
          (subst (λ (x : ℕ). n' x ≡ k) e u.next_same)
          u.next_new
          u.prev_same
          (u.prev_new ∙ e))

  -- k goes in after op
  pub whole_after : (op : ℕ) → Inserted n p n' p' k (n op) → (l : List ℕ) → Whole n p m (op ∷ l) → occ k (op ∷ l) ≡ 0 → Whole n' p' m' (op ∷ k ∷ l)
  whole_after op u [] w f = whole_rotate n' p' m' (k ∷ []) (op ∷ []) (whole_before op (subst (Inserted n p n' p' k) (next_is n p op [] w.linked) u) [] w f)
  whole_after op u (y ∷ r) w f =
      let v : Whole n p m (y ∷ r ++ (op ∷ [])) = whole_rotate n p m (op ∷ []) (y ∷ r) w in
      whole_rotate n' p' m' (k ∷ y ∷ r) (op ∷ [])
      (whole_before y (subst (Inserted n p n' p' k) (next_is n p op (y ∷ r) w.linked) u) (r ++ (op ∷ [])) v (omega (arith, occ_turned k op (y ∷ r))))
    where
      occ_turned : (x a : ℕ) (c : List ℕ) → occ x (c ++ (a ∷ [])) ≡ occ x (a ∷ c)
      occ_turned x a [] = refl
      occ_turned x a (b ∷ c) = omega (arith, occ_turned x a c)

-- op goes out of a ring of at least two
module _ (n p n' p' : ℕ → ℕ) (m op : ℕ) (u : Unlinked n p n' p' op) where
  pub whole_without : (y : ℕ) (l : List ℕ) → Whole n p m (op ∷ y ∷ l) → Whole n' p' m (y ∷ l)
  whole_without y l w = record { linked = go l w.linked w.once; once = λ k. omega (arith, w.once k); below = λ k o. w.below k (omega arith) }
    where
      go : (l : List ℕ) → Linked n p (op ∷ y ∷ l) → ((k : ℕ) → occ k (op ∷ y ∷ l) ≤ 1) → Linked n' p' (y ∷ l)
      go [] s o =
          let e : n op ≡ y = next_is n p op (y ∷ []) s in
          let f : p op ≡ y = prev_is n p op (y ∷ []) s in
          (subst (λ (x : ℕ). n' x ≡ y) f (u.next_same ∙ e), subst (λ (x : ℕ). p' x ≡ y) e (u.prev_same ∙ f), tt)
      go (z ∷ r) s o =
          let e : n op ≡ y = next_is n p op (y ∷ z ∷ r) s in
          let f : p op ≡ last_of z r = prev_is n p op (y ∷ z ∷ r) s in
          linked_drop n p n' p' op y z r s
          (all_in (λ x. n' x ≡ n x) (y ∷ init_of z r) (λ x h. u.next_else x (λ d. omega (arith, o x, occ_last x z r, one_is x (last_of z r) (d ∙ f)))))
          (all_in (λ x. p' x ≡ p x) (z ∷ r) (λ x h. u.prev_else x (λ d. omega (arith, o x, one_is x y (d ∙ e)))))
          (subst (λ (x : ℕ). n' x ≡ y) f (u.next_same ∙ e))
          (subst (λ (x : ℕ). p' x ≡ last_of z r) e (u.prev_same ∙ f))
