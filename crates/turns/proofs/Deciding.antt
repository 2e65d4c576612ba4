-- Every step decided on the store, by the step due, is the lone ring's decision.
use Prim.Native.Nat.{ℕ}
use mathlib.Core.Path.{◌≡◌, refl, ap, ◌∙◌, sym}
use mathlib.Core.Logic.{◌≢◌}
use mathlib.Core.Bool.{Bool, false, cond}
use mathlib.Core.List.{List, [], ◌∷◌, map}
use mathlib.Core.Option.{none}
use native.Mathlib.Omega.{arith}
use borrow.Author.Tests.{eq-eqb, ne_eqb}
use Rattle.rings.proofs.Counting.{occ_head, occ_last_of}
use Rattle.rings.proofs.Linking.{prev_is}
use Rattle.rings.proofs.Placing.{not_first}
use Rattle.rings.proofs.Walking.{Seen, seen}
use Rattle.rings.specs.Circle.{one_or_three, last_of}
use Rattle.rings.specs.Progress.{Ring, Due, validity, removal, triangle, split, done, at_validity, map_ring, resting}
use Rattle.rings.specs.Whole.{Whole}
use Rattle.lone.specs.Kept.{GeoLaws}
use Rattle.lone.specs.Lone.{Geo, act_of, decide, is_valid_closed_path}
use Rattle.lone.specs.Act.{discard, to_first}
use Rattle.store.proofs.Soundness.{whole, first_on}
use Rattle.store.specs.Field.{pt, rc, NEXT, PREV, FIRST}
use Rattle.store.specs.Sound.{pts, ring_at, Closed, due_at, lone_at}
use Rattle.store.specs.Good.{Sound}
use Rattle.store.specs.Words.{Store}
use Rattle.acts.specs.Rep.{in_loop}
use Rattle.acts.proofs.Progressing.{rested}
use Rattle.acts.specs.Value.{value}
use Rattle.turns.proofs.Removing.{removal_is}
use Rattle.turns.proofs.Splitting.{split_is}
use Rattle.turns.specs.Decide.{three_from, validity_at, decide_due, decide_at}

module _ {P : Type 0} (of : ℕ → ℕ → ℕ → P) (G : Geo P) (s : Store) where
  three_from_lem : (a : ℕ) (xs : List ℕ) → Whole (s (pt NEXT)) (s (pt PREV)) (pts s) (a ∷ xs) → three_from s a ≡ one_or_three (map (value of s) (a ∷ xs))
  three_from_lem a [] w = let l = w.linked in eq-eqb (s (pt PREV) a) (s (pt NEXT) (s (pt NEXT) a)) (l.1 ∙ sym (ap (s (pt NEXT)) l.0 ∙ l.0))
  three_from_lem a (b ∷ []) w =
      let l = w.linked in
      let n : b ≢ a = not_first a (b ∷ []) b (w.once a) (occ_head b []) in
      ne_eqb (s (pt PREV) a) (s (pt NEXT) (s (pt NEXT) a)) (λ e. n (sym l.2.1 ∙ e ∙ ap (s (pt NEXT)) l.0 ∙ l.2.0))
  three_from_lem a (b ∷ c ∷ []) w = let l = w.linked in eq-eqb (s (pt PREV) a) (s (pt NEXT) (s (pt NEXT) a)) (l.2.2.1 ∙ sym (ap (s (pt NEXT)) l.0 ∙ l.2.0))
  three_from_lem a (b ∷ c ∷ d ∷ r) w =
      let l = w.linked in
      let n : last_of d r ≢ c = not_first c (d ∷ r) (last_of d r) (omega (arith, w.once c)) (occ_last_of d r) in
      ne_eqb (s (pt PREV) a) (s (pt NEXT) (s (pt NEXT) a)) (λ e. n (sym (prev_is (s (pt NEXT)) (s (pt PREV)) a (b ∷ c ∷ d ∷ r) l) ∙ e ∙ ap (s (pt NEXT)) l.0 ∙ l.2.0))

  pub decide_is : GeoLaws G → Sound s → (i : ℕ) → Closed s i → decide_at of G s i ≡ act_of G (map_ring (value of s) (lone_at s i))
  unfolding decide_at validity_at act_of decide
  decide_is f o i c = go (due_at s i) refl
    where
      first : Seen (s (pt NEXT)) (s (pt PREV)) (pts s) (ring_at s i) (s (rc FIRST) i)
      first = seen _ _ (pts s) (ring_at s i) (s (rc FIRST) i) o.few_points (whole s o i c.known) (first_on s i c.ringed)

      rest : (d : Due) → in_loop d ≡ false → due_at s i ≡ d → act_of G (map_ring (value of s) (lone_at s i)) ≡ act_of G (map_ring (value of s) (resting d none (s (rc FIRST) i ∷ first.others)))
      rest d h m = ap (λ (R : Ring ℕ). act_of G (map_ring (value of s) R)) (rested s i d h first.others c.ringed m first.walked)

      go : (d : Due) → due_at s i ≡ d → decide_due of G s i (due_at s i) ≡ act_of G (map_ring (value of s) (lone_at s i))
      go validity m = ap (decide_due of G s i) m ∙ ap (λ (l : List ℕ). cond (is_valid_closed_path G (map (value of s) l)) (to_first removal) (discard at_validity)) first.walked ∙ sym (rest validity refl m)
      go removal m = ap (decide_due of G s i) m ∙ removal_is of G s o i c m
      go triangle m = ap (decide_due of G s i) m ∙ ap (λ (b : Bool). to_first (cond b done split)) (three_from_lem (s (rc FIRST) i) first.others first.whole) ∙ sym (rest triangle refl m)
      go split m = ap (decide_due of G s i) m ∙ split_is of G s f o i c m
      go done m = ap (decide_due of G s i) m ∙ sym (rest done refl m)
