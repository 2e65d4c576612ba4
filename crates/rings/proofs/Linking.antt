-- Laws of links: rotation, members' neighbours, rings not written to, and what each change of a circle needs of its links.
use mathlib.Core.Path.{◌≡◌, sym, ◌∙◌, subst}
use mathlib.Core.List.{List, [], ◌∷◌, ◌++◌, append_assoc}
use mathlib.Core.Bool.{true, false}
use Prim.Native.Nat.{ℕ, zero, suc}
use lib.ListN.{take}
use Rattle.rings.specs.Circle.{turn, spin, last_of, init_of, back, head_or, cut_circle}
use Rattle.rings.specs.Links.{All, Seg, Linked}
use Rattle.rings.proofs.Circles.{turn_back, init_of_snoc}

module _ (nx pv : ℕ → ℕ) where
  pub seg_join : (a : List ℕ) (b : ℕ) (c : List ℕ) → Seg nx pv (a ++ (b ∷ [])) → Seg nx pv (b ∷ c) → Seg nx pv (a ++ (b ∷ c))
  seg_join [] b c s t = t
  seg_join (x ∷ []) b c s t = (s.0, s.1, t)
  seg_join (x ∷ y ∷ a) b c s t = (s.0, s.1, seg_join (y ∷ a) b c s.2 t)

  seg_tail : (x : ℕ) (l : List ℕ) → Seg nx pv (x ∷ l) → Seg nx pv l
  seg_tail x [] s = tt
  seg_tail x (y ∷ l) s = s.2

  pub seg_front : (l : List ℕ) (b : ℕ) → Seg nx pv (l ++ (b ∷ [])) → Seg nx pv l
  seg_front [] b s = tt
  seg_front (x ∷ []) b s = tt
  seg_front (x ∷ y ∷ l) b s = (s.0, s.1, seg_front (y ∷ l) b s.2)

  -- a ring may be seen from any of its places
  pub linked_turn : (c : List ℕ) → Linked nx pv c → Linked nx pv (turn c)
  linked_turn [] s = tt
  linked_turn (x ∷ []) s = s
  linked_turn (x ∷ y ∷ r) s = subst (λ (l : List ℕ). Seg nx pv (y ∷ l)) (sym (append_assoc r (x ∷ []) (y ∷ []))) (seg_join (y ∷ r) x (y ∷ []) s.2 (s.0, s.1, tt))

  pub linked_spin : (k : ℕ) (c : List ℕ) → Linked nx pv c → Linked nx pv (spin k c)
  linked_spin zero c s = s
  linked_spin (suc k) c s = linked_spin k (turn c) (linked_turn c s)

  -- what a walk reads
  pub next_is : (x : ℕ) (xs : List ℕ) → Linked nx pv (x ∷ xs) → nx x ≡ head_or x (turn (x ∷ xs))
  next_is x [] s = s.0
  next_is x (y ∷ r) s = s.0

  pub prev_is : (x : ℕ) (xs : List ℕ) → Linked nx pv (x ∷ xs) → pv x ≡ last_of x xs
  prev_is x xs s = go x xs s
    where
      go : (y : ℕ) (ys : List ℕ) → Seg nx pv (y ∷ ys ++ (x ∷ [])) → pv x ≡ last_of y ys
      go y [] t = t.1
      go y (z ∷ ys) t = go z ys t.2

All-snoc : (Q : ℕ → Type 0) (l : List ℕ) (p : ℕ) → All Q l → Q p → All Q (l ++ (p ∷ []))
All-snoc Q [] p a q = (q, tt)
All-snoc Q (x ∷ l) p a q = (a.0, All-snoc Q l p a.1 q)

-- nx, pv before; nx', pv' after
module _ (nx pv nx' pv' : ℕ → ℕ) where
  pub seg_keep : (a : ℕ) (l : List ℕ) → Seg nx pv (a ∷ l) → All (λ z. nx' z ≡ nx z) (init_of a l) → All (λ z. pv' z ≡ pv z) l → Seg nx' pv' (a ∷ l)
  seg_keep a [] s h k = tt
  seg_keep a (b ∷ r) s h k = (h.0 ∙ s.0, k.0 ∙ s.1, seg_keep b r s.2 h.1 k.1)

  -- a ring none of whose points is touched
  pub linked_kept : (c : List ℕ) → Linked nx pv c → All (λ z. nx' z ≡ nx z) c → All (λ z. pv' z ≡ pv z) c → Linked nx' pv' c
  linked_kept [] s h k = tt
  linked_kept (x ∷ xs) s h k = seg_keep x (xs ++ (x ∷ [])) s (rw (init_of_snoc x xs x) h) (All-snoc (λ (z : ℕ). pv' z ≡ pv z) xs x k.1 k.0)

  -- the run from z to p is closed: a dropped point, or a cut with nothing spliced in
  pub close : (p z : ℕ) (l : List ℕ) → Seg nx pv (z ∷ l ++ (p ∷ [])) → All (λ j. nx' j ≡ nx j) (z ∷ l) → All (λ j. pv' j ≡ pv j) (l ++ (p ∷ []))
      → nx' p ≡ z → pv' z ≡ p → Linked nx' pv' (p ∷ z ∷ l)
  close p z l s h k e f = (e, f, seg_keep z (l ++ (p ∷ [])) s (rw (init_of_snoc z l p) h) k)

  -- and with e between: a doubled point, a crossing spliced in, or an offcut's new point
  pub close_with : (p e z : ℕ) (l : List ℕ) → Seg nx pv (z ∷ l ++ (p ∷ [])) → All (λ j. nx' j ≡ nx j) (z ∷ l) → All (λ j. pv' j ≡ pv j) (l ++ (p ∷ []))
      → nx' p ≡ e → nx' e ≡ z → pv' z ≡ e → pv' e ≡ p → Linked nx' pv' (p ∷ e ∷ z ∷ l)
  close_with p e z l s h k e₁ e₂ e₃ e₄ = (e₁, e₄, (e₂, e₃, seg_keep z (l ++ (p ∷ [])) s (rw (init_of_snoc z l p) h) k))

  -- ---- the acts

  -- the present point x is dropped
  pub linked_drop : (x z w : ℕ) (r : List ℕ) → Linked nx pv (x ∷ z ∷ w ∷ r) → All (λ j. nx' j ≡ nx j) (z ∷ init_of w r) → All (λ j. pv' j ≡ pv j) (w ∷ r)
      → nx' (last_of w r) ≡ z → pv' z ≡ last_of w r → Linked nx' pv' (z ∷ w ∷ r)
  linked_drop x z w r s h k e f = subst (Linked nx' pv') (turn_back (z ∷ w ∷ r)) (linked_turn nx' pv' (back (z ∷ w ∷ r))
      (close (last_of w r) z (init_of w r) (rw (turn_back (w ∷ r)) (seg_front nx pv (z ∷ w ∷ r) x s.2)) h (rw (turn_back (w ∷ r)) k) e f))

  -- e is put in before the present point x
  pub linked_double : (x y : ℕ) (r : List ℕ) (e : ℕ) → Linked nx pv (x ∷ y ∷ r) → All (λ j. nx' j ≡ nx j) (x ∷ init_of y r) → All (λ j. pv' j ≡ pv j) (y ∷ r)
      → nx' (last_of y r) ≡ e → nx' e ≡ x → pv' x ≡ e → pv' e ≡ last_of y r → Linked nx' pv' (x ∷ y ∷ r ++ (e ∷ []))
  linked_double x y r e s h k e₁ e₂ e₃ e₄ = subst (λ (l : List ℕ). Linked nx' pv' (x ∷ l ++ (e ∷ []))) (turn_back (y ∷ r)) (linked_spin nx' pv' 2 (last_of y r ∷ e ∷ x ∷ init_of y r)
      (close_with (last_of y r) e x (init_of y r) (rw (turn_back (y ∷ r)) (seg_front nx pv (x ∷ y ∷ r) x s)) h (rw (turn_back (y ∷ r)) k) e₁ e₂ e₃ e₄))

  -- x and y are cut away, with nothing or with a in their place
  pub linked_cut : (x y z u : ℕ) (r : List ℕ) (a : ℕ) → Linked nx pv (x ∷ y ∷ z ∷ u ∷ r) → All (λ j. nx' j ≡ nx j) (z ∷ init_of u r) → All (λ j. pv' j ≡ pv j) (u ∷ r)
      → nx' (last_of u r) ≡ z → pv' z ≡ last_of u r → Linked nx' pv' (cut_circle false a (back (x ∷ y ∷ z ∷ u ∷ r)))
  linked_cut x y z u r a s h k e f = close (last_of u r) z (init_of u r) (rw (turn_back (u ∷ r)) (seg_front nx pv (z ∷ u ∷ r) x s.2.2)) h (rw (turn_back (u ∷ r)) k) e f

  pub linked_splice : (x y z u : ℕ) (r : List ℕ) (a : ℕ) → Linked nx pv (x ∷ y ∷ z ∷ u ∷ r) → All (λ j. nx' j ≡ nx j) (z ∷ init_of u r) → All (λ j. pv' j ≡ pv j) (u ∷ r)
      → nx' (last_of u r) ≡ a → nx' a ≡ z → pv' z ≡ a → pv' a ≡ last_of u r → Linked nx' pv' (cut_circle true a (back (x ∷ y ∷ z ∷ u ∷ r)))
  linked_splice x y z u r a s h k e₁ e₂ e₃ e₄ = close_with (last_of u r) a z (init_of u r) (rw (turn_back (u ∷ r)) (seg_front nx pv (z ∷ u ∷ r) x s.2.2)) h (rw (turn_back (u ∷ r)) k) e₁ e₂ e₃ e₄

  -- the offcut: b, x, y
  pub linked_offcut : (x y : ℕ) (r : List ℕ) (b : ℕ) → Linked nx pv (x ∷ y ∷ r) → nx' x ≡ nx x → pv' y ≡ pv y → nx' y ≡ b → nx' b ≡ x → pv' x ≡ b → pv' b ≡ y → Linked nx' pv' (b ∷ take 2 (x ∷ y ∷ r))
  linked_offcut x y r b s h k e₁ e₂ e₃ e₄ = (e₂, e₃, (h ∙ s.0, k ∙ s.1, (e₁, e₄, tt)))
