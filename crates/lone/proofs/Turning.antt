-- What a step can decide: a fact of acts holds of the act decided if it holds of each act that the step due can come to, given what was tested and where a new
-- point's value comes from.
use mathlib.Core.Path.{◌≡◌, refl}
use mathlib.Core.List.{List, [], ◌∷◌}
use mathlib.Core.Option.{Option}
use mathlib.Core.Bool.{Bool, true, false, cond, not, ◌||◌}
use Prim.Native.Nat.{ℕ, suc}
use lib.ListN.{length}
use Rattle.rings.specs.Circle.{spin, last_of, back, head_or, one_or_three, cut_circle, ahead, omap}
use Rattle.rings.specs.Place.{is_here}
use Rattle.rings.specs.Progress.{validity, removal, triangle, split, done, at_validity, while_removing, at_split}
use Rattle.lone.specs.Act.{Act, discard, drop_point, move_on, to_first, double, cut}
use Rattle.lone.specs.Lone.{Geo, is_zero, is_valid_closed_path, removal_turn, too_small, keeps_offcut, do_split_op, split_turn, decide}

-- the crossing that a doubling or a cut has tested, on the circle x ∷ xs
abbrev pub Crosses : {P : Type 0} → Geo P → P → List P → Type 0
Crosses G x xs = G.segments_intersect (last_of x xs) x (head_or x (spin 1 (x ∷ xs))) (head_or x (spin 2 (x ∷ xs))) ≡ true

-- the point of that crossing
abbrev pub crossing_at : {P : Type 0} → Geo P → P → List P → P
crossing_at G x xs = G.crossing_point (last_of x xs) x (head_or x (spin 1 (x ∷ xs))) (head_or x (spin 2 (x ∷ xs)))

-- whether the present point is to go
abbrev pub removable_in : {P : Type 0} → Geo P → P → List P → Bool
removable_in G x xs = G.removable (last_of x xs) x (head_or x xs)

module _ {P : Type 0} (G : Geo P) (Q : Act P → Type 0) where
  pub validity_cases : (c : List P) (f : ℕ) (s : Option ℕ) → Q (to_first removal) → Q (discard at_validity) → Q (decide G c f s validity)
  unfolding decide
  validity_cases c f s t d = go (is_valid_closed_path G (spin f c))
    where
      go : (b : Bool) → Q (cond b (to_first removal) (discard at_validity))
      go true = t
      go false = d

  pub triangle_cases : (c : List P) (f : ℕ) (s : Option ℕ) → ((b : Bool) → one_or_three c ≡ b → Q (to_first (cond b done split))) → Q (decide G c f s triangle)
  unfolding decide
  triangle_cases c f s t = t (one_or_three c) refl

  -- b, where it moves on: is the next place the start
  pub removal_cases : (c : List P) (f : ℕ) (s : Option ℕ) → Q (discard while_removing)
      → ((x : P) (xs : List P) → c ≡ x ∷ xs → removable_in G x xs ≡ true → is_valid_closed_path G xs ≡ true → Q drop_point)
      → ((x : P) (xs : List P) → c ≡ x ∷ xs → removable_in G x xs ≡ false → (b : Bool) → is_here (omap (ahead (suc (length xs))) s) ≡ b → Q (move_on (cond b triangle removal)))
      → Q (decide G c f s removal)
  unfolding decide removal_turn
  removal_cases [] f s d p m = d
  removal_cases (x ∷ xs) f s d p m = go (removable_in G x xs) _ refl refl
    where
      go : (b₁ b₂ : Bool) → removable_in G x xs ≡ b₁ → is_valid_closed_path G xs ≡ b₂ → Q (cond b₁ (cond b₂ drop_point (discard while_removing)) (move_on (cond (is_here (omap (ahead (suc (length xs))) s)) triangle removal)))
      go true true t v = p x xs refl t v
      go true false t v = d
      go false b₂ t v = m x xs refl t _ refl

  pub split_cases : (c : List P) (f : ℕ) (s : Option ℕ) → Q (discard at_split)
      → ((x : P) (xs : List P) → c ≡ x ∷ xs → (b : Bool) → (is_zero (ahead (suc (length xs)) f) || is_here (omap (ahead (suc (length xs))) s)) ≡ b → Q (move_on (cond b done split)))
      → ((x : P) (xs : List P) → c ≡ x ∷ xs → Crosses G x xs → (v : P) → v ≡ head_or x (spin 2 (x ∷ xs)) → (b : Bool) → (is_zero f || is_here s) ≡ b → Q (double v (cond b done split)))
      → ((x : P) (xs : List P) → c ≡ x ∷ xs → Crosses G x xs → (v : P) → v ≡ crossing_at G x xs → (put off b : Bool) → one_or_three (cut_circle put v (back (x ∷ xs))) ≡ b → Q (cut v put off (cond b done split)))
      → Q (decide G c f s split)
  unfolding decide split_turn do_split_op
  split_cases [] f s d m w k = d
  split_cases (x ∷ xs) f s d m w k = go _ refl (G.segments_intersect (last_of x xs) x (head_or x (spin 2 (x ∷ xs))) (head_or x (spin 3 (x ∷ xs)))) (too_small G (back (x ∷ xs)))
    where
      n1 : P
      n1 = head_or x (spin 1 (x ∷ xs))

      n2 : P
      n2 = head_or x (spin 2 (x ∷ xs))

      ip : P
      ip = G.crossing_point (last_of x xs) x n1 n2

      put : Bool
      put = not (G.same_point ip (last_of x xs) || G.same_point ip n2)

      go : (b₁ : Bool) → G.segments_intersect (last_of x xs) x n1 n2 ≡ b₁ → (b₂ b₃ : Bool)
          → Q (cond b₁ (cond b₂ (double n2 (cond (is_zero f || is_here s) done split)) (cond b₃ (discard at_split) (cut ip put (keeps_offcut G (back (x ∷ xs)) ip x n1) (cond (one_or_three (cut_circle put ip (back (x ∷ xs)))) done split))))
          (move_on (cond (is_zero (ahead (suc (length xs)) f) || is_here (omap (ahead (suc (length xs))) s)) done split)))
      go true e true b₃ = w x xs refl e n2 refl _ refl
      go true e false true = d
      go true e false false = k x xs refl e ip refl put (keeps_offcut G (back (x ∷ xs)) ip x n1) _ refl
      go false e b₂ b₃ = m x xs refl _ refl
