-- A removal turn decided on the store, by the links and the values about the present place, is the lone ring's decision.
use Prim.Native.Nat.{ℕ, suc}
use mathlib.Core.Path.{◌≡◌, refl, ap, ◌∙◌, sym}
use mathlib.Core.Logic.{◌≢◌}
use mathlib.Core.List.{List, [], ◌∷◌, map}
use mathlib.Core.Bool.{Bool, cond}
use native.Mathlib.Omega.{arith}
use lib.Dec.{eqb}
use lib.ListN.{length, length-map}
use borrow.Author.Tests.{eq-eqb, ne_eqb}
use Rattle.rings.proofs.Counting.{one_here, occ_head}
use Rattle.rings.proofs.Linking.{prev_is}
use Rattle.rings.proofs.Mapping.{map_last_of}
use Rattle.rings.proofs.Placing.{place_turn, here_is, not_first}
use Rattle.rings.specs.Circle.{last_of, head_or, omap, ahead}
use Rattle.rings.specs.Count.{occ}
use Rattle.rings.specs.Links.{Linked}
use Rattle.rings.specs.Place.{is_here, place}
use Rattle.rings.specs.Progress.{Ring, while_removing, triangle, removal, map_ring}
use Rattle.lone.specs.Act.{Act, drop_point, discard, move_on}
use Rattle.rings.specs.Whole.{Whole}
use Rattle.lone.specs.Lone.{Geo, act_of, decide, removal_turn, is_valid_closed_path}
use Rattle.store.specs.Field.{pt, rc, NEXT, PREV, PRESENT, START}
use Rattle.store.specs.Sound.{pts, Closed, due_at, lone_at}
use Rattle.store.specs.Good.{Sound}
use Rattle.store.specs.Words.{Store}
use Rattle.acts.proofs.Positions.{Loop, loop}
use Rattle.acts.proofs.Progressing.{turned}
use Rattle.acts.specs.Value.{value}
use Rattle.turns.specs.Decide.{valid_without, removal_at}

module _ {P : Type 0} (of : ℕ → ℕ → ℕ → P) (G : Geo P) (s : Store) where
  valid_is : (x : ℕ) (xs : List ℕ) → Whole (s (pt NEXT)) (s (pt PREV)) (pts s) (x ∷ xs) → valid_without of G s x ≡ is_valid_closed_path G (map (value of s) xs)
  unfolding valid_without
  valid_is x [] w = rw (eq-eqb (s (pt NEXT) x) x w.linked.0)
  valid_is x (a ∷ []) w =
      let l = w.linked in
      let n : a ≢ x = not_first x (a ∷ []) a (w.once x) (occ_head a []) in
      rw l.0 (rw (ne_eqb a x n, l.2.0, eq-eqb x x refl))
  valid_is x (a ∷ b ∷ []) w =
      let l = w.linked in
      let n : a ≢ x = not_first x (a ∷ b ∷ []) a (w.once x) (occ_head a (b ∷ [])) in
      let m : b ≢ x = not_first x (a ∷ b ∷ []) b (w.once x) (omega (arith, occ_head b [])) in
      rw l.0 (rw (ne_eqb a x n, l.2.0) (rw (ne_eqb b x m, l.2.2.0, eq-eqb x x refl)))
  valid_is x (a ∷ b ∷ c ∷ []) w =
      let l = w.linked in
      let n : a ≢ x = not_first x (a ∷ b ∷ c ∷ []) a (w.once x) (occ_head a (b ∷ c ∷ [])) in
      let m : b ≢ x = not_first x (a ∷ b ∷ c ∷ []) b (w.once x) (omega (arith, occ_head b (c ∷ []))) in
      let k : c ≢ x = not_first x (a ∷ b ∷ c ∷ []) c (w.once x) (omega (arith, occ_head c [])) in
      rw l.0 (rw (ne_eqb a x n, l.2.0) (rw (ne_eqb b x m, l.2.2.0) (rw (ne_eqb c x k, l.2.2.2.0, eq-eqb x x refl))))
  valid_is x (a ∷ b ∷ c ∷ e ∷ r) w =
      let l = w.linked in
      let n : a ≢ x = not_first x (a ∷ b ∷ c ∷ e ∷ r) a (w.once x) (occ_head a (b ∷ c ∷ e ∷ r)) in
      let m : b ≢ x = not_first x (a ∷ b ∷ c ∷ e ∷ r) b (w.once x) (omega (arith, occ_head b (c ∷ e ∷ r))) in
      let k : c ≢ x = not_first x (a ∷ b ∷ c ∷ e ∷ r) c (w.once x) (omega (arith, occ_head c (e ∷ r))) in
      let j : e ≢ x = not_first x (a ∷ b ∷ c ∷ e ∷ r) e (w.once x) (omega (arith, occ_head e r)) in
      rw l.0 (rw (ne_eqb a x n, l.2.0) (rw (ne_eqb b x m, l.2.2.0) (rw (ne_eqb c x k, l.2.2.2.0, ne_eqb e x j))))

  next_head : (x : ℕ) (xs : List ℕ) → Linked (s (pt NEXT)) (s (pt PREV)) (x ∷ xs) → value of s (s (pt NEXT) x) ≡ head_or (value of s x) (map (value of s) xs)
  next_head x [] w = ap (value of s) w.0
  next_head x (y ∷ ys) w = ap (value of s) w.0

  pub turn_is : (x : ℕ) (xs : List ℕ) (st : ℕ) → Whole (s (pt NEXT)) (s (pt PREV)) (pts s) (x ∷ xs)
      → eqb (s (pt NEXT) x) st ≡ is_here (omap (ahead (suc (length xs))) (place st (x ∷ xs)))
  turn_is x xs st w =
      let t = turned (s (pt NEXT)) (s (pt PREV)) x xs w.linked in
      let not_there : occ x xs ≡ 0 = omega (arith, w.once x, one_here x) in
      sym (here_is st (s (pt NEXT) x) t.0) ∙ ap (λ (l : List ℕ). is_here (place st l)) (sym t.1) ∙ ap is_here (place_turn st x xs not_there)

  -- the decision on the store is the lone ring's on the values
  pub removal_is : Sound s → (i : ℕ) → Closed s i → due_at s i ≡ removal → removal_at of G s i ≡ act_of G (map_ring (value of s) (lone_at s i))
  unfolding removal_at act_of decide removal_turn
  removal_is o i c m =
      let x : ℕ = s (rc PRESENT) i in
      let b : Loop s i x removal = loop s o i x removal c refl m refl in
      let pv : value of s (s (pt PREV) x) ≡ last_of (value of s x) (map (value of s) b.others) = ap (value of s) (prev_is (s (pt NEXT)) (s (pt PREV)) x b.others b.whole.linked) ∙ map_last_of (value of s) x b.others in
      let nx : value of s (s (pt NEXT) x) ≡ head_or (value of s x) (map (value of s) b.others) = next_head x b.others b.whole.linked in
      let vd : valid_without of G s x ≡ is_valid_closed_path G (map (value of s) b.others) = valid_is x b.others b.whole in
      let tn : eqb (s (pt NEXT) x) (s (rc START) i) ≡ is_here (omap (ahead (suc (length (map (value of s) b.others)))) (place (s (rc START) i) (x ∷ b.others))) = turn_is x b.others (s (rc START) i) b.whole ∙ ap (λ (n : ℕ). is_here (omap (ahead (suc n)) (place (s (rc START) i) (x ∷ b.others)))) (sym (length-map b.others (value of s))) in
      let pl : P = last_of (value of s x) (map (value of s) b.others) in
      let hd : P = head_or (value of s x) (map (value of s) b.others) in
      let va : Bool = is_valid_closed_path G (map (value of s) b.others) in
      let F : P → P → Bool → Bool → Act P = λ p q t u. cond (G.removable p (value of s x) q) (cond t drop_point (discard while_removing)) (move_on (cond u triangle removal)) in
      ap (λ (p : P). F p (value of s (s (pt NEXT) x)) (valid_without of G s x) (eqb (s (pt NEXT) x) (s (rc START) i))) pv
      ∙ ap (λ (q : P). F pl q (valid_without of G s x) (eqb (s (pt NEXT) x) (s (rc START) i))) nx
      ∙ ap (λ (t : Bool). F pl hd t (eqb (s (pt NEXT) x) (s (rc START) i))) vd
      ∙ ap (λ (u : Bool). F pl hd va u) tn
      ∙ sym (ap (λ (R : Ring ℕ). act_of G (map_ring (value of s) R)) b.lone_is)
