-- Laws of places on a circle: how each change of the circle moves a point's place, and that a place leads to its point.
use mathlib.Core.Path.{◌≡◌, refl, sym, ap, ◌∙◌, subst}
use mathlib.Core.Logic.{◌≢◌}
use mathlib.Core.List.{List, [], ◌∷◌, ◌++◌, append-nil, append_assoc}
use mathlib.Core.Option.{Option, none, some}
use mathlib.Core.Bool.{Bool, true, false, cond}
use Prim.Native.Nat.{ℕ, zero, suc, ◌+◌, ◌≤◌, ◌<◌}
use native.Mathlib.Omega.{arith}
use native.Mathlib.Decide.{ℕ_discrete, dec_lt}
use lib.ListN.{length}
use lib.Dec.{eqb}
use borrow.Author.Tests.{eq-eqb, ne_eqb}
use Rattle.rings.specs.Circle.{turn, spin, last_of, init_of, back, head_or, cut_circle, cut_start, ahead, omap}
use Rattle.rings.specs.Count.{one, occ}
use Rattle.rings.specs.Place.{place, is_here}
use Rattle.rings.proofs.Circles.{turn_back, length_init_of}
use Rattle.rings.proofs.Counting.{one_here, one_else, occ_last, occ_last_of}

pub place_head : (x : ℕ) (xs : List ℕ) → place x (x ∷ xs) ≡ some 0
place_head x xs = rw (eq-eqb x x refl)

pub place_else : (s x : ℕ) (xs : List ℕ) → x ≢ s → place s (x ∷ xs) ≡ omap suc (place s xs)
place_else s x xs h = rw (ne_eqb x s h)

pub place_out : (s : ℕ) (c : List ℕ) → occ s c ≡ 0 → place s c ≡ none
place_out s [] h = refl
place_out s (x ∷ c) h = go (ℕ_discrete x s) (place_out s c (omega arith))
  where
    go : Dec (x ≡ s) → place s c ≡ none → place s (x ∷ c) ≡ none
    go (yes e) r = absurd (omega (arith, subst (λ (z : ℕ). one s z ≡ 1) (sym e) (one_here s)))
    go (no d) r = place_else s x c d ∙ ap (omap suc) r

plus : ℕ → Option ℕ → Option ℕ
plus n none = none
plus n (some k) = some (n + k)

-- past points that it is none of
place_past : (s : ℕ) (a b : List ℕ) → occ s a ≡ 0 → place s (a ++ b) ≡ plus (length a) (place s b)
unfolding plus
place_past s [] b h = go (place s b)
  where
    go : (o : Option ℕ) → o ≡ plus 0 o
    go none = refl
    go (some k) = ap some (omega arith)
place_past s (x ∷ a) b h = go (ℕ_discrete x s) (place_past s a b (omega arith))
  where
    step : (n : ℕ) (o : Option ℕ) → omap suc (plus n o) ≡ plus (suc n) o
    step n none = refl
    step n (some k) = ap some (omega arith)

    go : Dec (x ≡ s) → place s (a ++ b) ≡ plus (length a) (place s b) → place s ((x ∷ a) ++ b) ≡ plus (suc (length a)) (place s b)
    go (yes e) r = absurd (omega (arith, subst (λ (z : ℕ). one s z ≡ 1) (sym e) (one_here s)))
    go (no d) r = place_else s x (a ++ b) d ∙ ap (omap suc) r ∙ step (length a) (place s b)

-- a point that is none of those after
pub place_before : (s : ℕ) (a b : List ℕ) → occ s b ≡ 0 → place s (a ++ b) ≡ place s a
place_before s [] b h = place_out s b h
place_before s (x ∷ a) b h = ap (λ (o : Option ℕ). cond (eqb x s) (some 0) (omap suc o)) (place_before s a b h)

unstep : (n : ℕ) (o : Option ℕ) → omap (ahead n) (omap suc o) ≡ o
unstep zero none = refl
unstep zero (some k) = refl
unstep (suc n) none = refl
unstep (suc n) (some k) = refl

-- moving on
pub place_turn : (s x : ℕ) (xs : List ℕ) → occ x xs ≡ 0 → place s (turn (x ∷ xs)) ≡ omap (ahead (suc (length xs))) (place s (x ∷ xs))
unfolding plus
place_turn s x xs h = go (ℕ_discrete x s)
  where
    go : Dec (x ≡ s) → place s (xs ++ (x ∷ [])) ≡ omap (ahead (suc (length xs))) (place s (x ∷ xs))
    go (yes e) =
        let h' : occ s xs ≡ 0 = subst (λ (z : ℕ). occ z xs ≡ 0) e h in
        place_past s xs (x ∷ []) h' ∙ ap (plus (length xs)) (subst (λ (z : ℕ). place s (z ∷ []) ≡ some 0) (sym e) (place_head s [])) ∙ ap some (omega arith)
        ∙ sym (ap (omap (ahead (suc (length xs)))) (subst (λ (z : ℕ). place s (z ∷ xs) ≡ some 0) (sym e) (place_head s xs)))
    go (no d) = place_before s xs (x ∷ []) (omega (arith, one_else s x d)) ∙ sym (ap (omap (ahead (suc (length xs)))) (place_else s x xs d) ∙ unstep (suc (length xs)) (place s xs))

-- the present point is dropped
pub place_drop : (s x : ℕ) (xs : List ℕ) → x ≢ s → omap (ahead (length xs)) (place s (x ∷ xs)) ≡ place s xs
place_drop s x xs d = ap (omap (ahead (length xs))) (place_else s x xs d) ∙ unstep (length xs) (place s xs)

pub place_last : (x : ℕ) (xs : List ℕ) → occ (last_of x xs) (x ∷ xs) ≤ 1 → place (last_of x xs) (x ∷ xs) ≡ some (length xs)
place_last x [] h = place_head x []
place_last x (y ∷ ys) h = place_else (last_of y ys) x (y ∷ ys) d ∙ ap (omap suc) (place_last y ys (omega arith))
  where
    d : x ≢ last_of y ys
    d e = omega (arith, h, occ_last_of y ys, subst (λ (z : ℕ). one (last_of y ys) z ≡ 1) (sym e) (one_here (last_of y ys)))

-- it is the present point exactly if the numbers are equal
pub here_is : (s x : ℕ) (xs : List ℕ) → is_here (place s (x ∷ xs)) ≡ eqb x s
here_is s x xs = go (eqb x s) (place s xs)
  where
    go : (b : Bool) (o : Option ℕ) → is_here (cond b (some 0) (omap suc o)) ≡ b
    go true o = refl
    go false none = refl
    go false (some k) = refl

-- a point on the circle has its place, which leads to it
pub record Placed (s : ℕ) (c : List ℕ) : Type 0 where
  pub far : ℕ
  pub is : place s c ≡ some far
  pub short : far < length c
  pub leads : (d : ℕ) → head_or d (spin far c) ≡ s

module _ (s : ℕ) where
  Found : List ℕ → List ℕ → Type 0
  Found a b = (k : ℕ) × (place s b ≡ some k) × (k < length b) × ((d : ℕ) → head_or d (spin k (b ++ a)) ≡ s)

  find : (a b : List ℕ) → 0 < occ s b → Found a b
  unfolding Found
  find a [] h = absurd (omega arith)
  find a (x ∷ b) h = go (ℕ_discrete x s) (λ p. find (a ++ (x ∷ [])) b p)
    where
      go : Dec (x ≡ s) → (0 < occ s b → Found (a ++ (x ∷ [])) b) → Found a (x ∷ b)
      go (yes e) f = (0, subst (λ (z : ℕ). place s (z ∷ b) ≡ some 0) (sym e) (place_head s b), omega arith, λ d. e)
      go (no n) f =
          let r = f (omega (arith, one_else s x n)) in
          (suc r.0, place_else s x b n ∙ ap (omap suc) r.1, omega (arith, r.2), λ d. ap (λ (l : List ℕ). head_or d (spin r.0 l)) (append_assoc b a (x ∷ [])) ∙ r.3 d)

  pub placed : (c : List ℕ) → 0 < occ s c → Placed s c
  unfolding Found
  placed c h =
      let r = find [] c h in
      record { far = r.0; is = r.1; short = r.2; leads = λ d. ap (λ (l : List ℕ). head_or d (spin r.0 l)) (sym (append-nil c)) ∙ r.3 d }

-- ---- what a whole circle tells apart

-- the points before the last are not it
pub not_last : (a : ℕ) (b : ℕ) (r : List ℕ) (k : ℕ) → occ (last_of b r) (a ∷ b ∷ r) ≤ 1 → 0 < occ k (a ∷ init_of b r) → k ≢ last_of b r
not_last a b r k h p e =
    let p' : 0 < occ (last_of b r) (a ∷ init_of b r) = subst (λ (n : ℕ). 0 < occ n (a ∷ init_of b r)) e p in
    omega (arith, h, occ_last (last_of b r) b r, one_here (last_of b r))

-- the points after the first are not it
pub not_first : (a : ℕ) (l : List ℕ) (k : ℕ) → occ a (a ∷ l) ≤ 1 → 0 < occ k l → k ≢ a
not_first a l k h p e =
    let p' : 0 < occ a l = subst (λ (n : ℕ). 0 < occ n l) e p in
    omega (arith, h, one_here a)

pub place_lt : (s k : ℕ) (c : List ℕ) → place s c ≡ some k → k < length c
place_lt s k c e = go (dec_lt 0 (occ s c))
  where
    go : Dec (0 < occ s c) → k < length c
    go (yes h) = let z : some k ≡ some (placed s c h).far = sym e ∙ (placed s c h).is in let y : k ≡ (placed s c h).far = cc in omega (arith, (placed s c h).short)
    go (no h) = let z : none ≡ some k = sym (place_out s c (omega arith)) ∙ e in let y : ◌≡◌ {A = ℕ} 0 1 = cc in absurd (omega arith)

-- where a point is after a cut: a is the point spliced in, if any
module _ (sp : Bool) (a t x y z u : ℕ) (r : List ℕ) (once : (k : ℕ) → occ k (x ∷ y ∷ z ∷ u ∷ r) ≤ 1) (fresh : t ≢ a) where
  p : ℕ
  p = last_of u r

  q : Option ℕ
  q = place t (z ∷ init_of u r)

  tail_is : place t (z ∷ u ∷ r) ≡ place t ((z ∷ init_of u r) ++ (last_of u r ∷ []))
  tail_is = ap (place t) (ap (λ (l : List ℕ). z ∷ l) (sym (turn_back (u ∷ r))))

  is_last : t ≡ last_of u r → place t (cut_circle sp a (back (x ∷ y ∷ z ∷ u ∷ r))) ≡ cut_start sp (length (x ∷ y ∷ z ∷ u ∷ r)) (place t (x ∷ y ∷ z ∷ u ∷ r))
  is_last e =
      let pl : place t (z ∷ u ∷ r) ≡ some (suc (length r)) = subst (λ (n : ℕ). place n (z ∷ u ∷ r) ≡ some (suc (length r))) (sym e) (place_last z (u ∷ r) (omega (arith, once (last_of u r)))) in
      let nx : x ≢ t = λ w. omega (arith, once t, subst (λ (n : ℕ). one t n ≡ 1) (sym w) (one_here t), on) in
      let ny : y ≢ t = λ w. omega (arith, once t, subst (λ (n : ℕ). one t n ≡ 1) (sym w) (one_here t), on) in
      let w : place t (x ∷ y ∷ z ∷ u ∷ r) ≡ some (suc (suc (suc (length r)))) = place_else t x (y ∷ z ∷ u ∷ r) nx ∙ ap (omap suc) (place_else t y (z ∷ u ∷ r) ny ∙ ap (omap suc) pl) in
      rw w (left ∙ sym (ap some (rw (eq-eqb (3 + suc (length r)) (length (x ∷ y ∷ z ∷ u ∷ r)) (omega arith)) refl)))
    where
      on : 0 < occ t (u ∷ r)
      on = subst (λ (n : ℕ). 0 < occ n (u ∷ r)) (sym e) (occ_last_of u r)

      left : place t (cut_circle sp a (back (x ∷ y ∷ z ∷ u ∷ r))) ≡ some 0
      left = go sp
        where
          go : (b : Bool) → place t (cut_circle b a (back (x ∷ y ∷ z ∷ u ∷ r))) ≡ some 0
          go true = subst (λ (n : ℕ). place t (n ∷ a ∷ z ∷ init_of u r) ≡ some 0) e (place_head t (a ∷ z ∷ init_of u r))
          go false = subst (λ (n : ℕ). place t (n ∷ z ∷ init_of u r) ≡ some 0) e (place_head t (z ∷ init_of u r))

  not_it : t ≢ last_of u r → place t (cut_circle sp a (back (x ∷ y ∷ z ∷ u ∷ r))) ≡ cut_start sp (length (x ∷ y ∷ z ∷ u ∷ r)) (place t (x ∷ y ∷ z ∷ u ∷ r))
  not_it d = go sp (ℕ_discrete x t) (ℕ_discrete y t)
    where
      same : place t (z ∷ u ∷ r) ≡ place t (z ∷ init_of u r)
      same = tail_is ∙ place_before t (z ∷ init_of u r) (last_of u r ∷ []) (omega (arith, one_else t (last_of u r) (λ e. d (sym e))))

      moved : Bool → Option ℕ → Option ℕ
      moved true o = omap suc (omap suc o)
      moved false o = omap suc o

      left : (b : Bool) → place t (cut_circle b a (back (x ∷ y ∷ z ∷ u ∷ r))) ≡ moved b (place t (z ∷ init_of u r))
      left true = place_else t (last_of u r) (a ∷ z ∷ init_of u r) (λ e. d (sym e)) ∙ ap (omap suc) (place_else t a (z ∷ init_of u r) (λ e. fresh (sym e)))
      left false = place_else t (last_of u r) (z ∷ init_of u r) (λ e. d (sym e))

      away : occ t (z ∷ u ∷ r) ≡ 0 → (b : Bool) → moved b (place t (z ∷ init_of u r)) ≡ none
      away h true = ap (λ (o : Option ℕ). omap suc (omap suc o)) (sym same ∙ place_out t (z ∷ u ∷ r) h)
      away h false = ap (omap suc) (sym same ∙ place_out t (z ∷ u ∷ r) h)

      count_up : (b : Bool) (o : Option ℕ) → ((k : ℕ) → o ≡ some k → k < suc (length r)) → moved b o ≡ cut_start b (suc (suc (suc (suc (length r))))) (omap suc (omap suc o))
      count_up true none h = refl
      count_up false none h = refl
      count_up true (some k) h = sym (ap some (rw (ne_eqb (3 + k) (suc (suc (suc (suc (length r))))) (λ e. omega (arith, h k refl))) (omega arith)))
      count_up false (some k) h = sym (ap some (rw (ne_eqb (3 + k) (suc (suc (suc (suc (length r))))) (λ e. omega (arith, h k refl))) (omega arith)))

      go : (b : Bool) → Dec (x ≡ t) → Dec (y ≡ t) → place t (cut_circle b a (back (x ∷ y ∷ z ∷ u ∷ r))) ≡ cut_start b (length (x ∷ y ∷ z ∷ u ∷ r)) (place t (x ∷ y ∷ z ∷ u ∷ r))
      go b (yes e) _ = left b ∙ away (omega (arith, once t, subst (λ (n : ℕ). one t n ≡ 1) (sym e) (one_here t))) b
          ∙ sym (ap (cut_start b (length (x ∷ y ∷ z ∷ u ∷ r))) (subst (λ (n : ℕ). place t (n ∷ y ∷ z ∷ u ∷ r) ≡ some 0) (sym e) (place_head t (y ∷ z ∷ u ∷ r))))
      go b (no f) (yes e) = left b ∙ away (omega (arith, once t, subst (λ (n : ℕ). one t n ≡ 1) (sym e) (one_here t))) b
          ∙ sym (ap (cut_start b (length (x ∷ y ∷ z ∷ u ∷ r))) (place_else t x (y ∷ z ∷ u ∷ r) f ∙ ap (omap suc) (subst (λ (n : ℕ). place t (n ∷ z ∷ u ∷ r) ≡ some 0) (sym e) (place_head t (z ∷ u ∷ r)))))
      go b (no f) (no g) = left b ∙ count_up b (place t (z ∷ init_of u r)) (λ k e. omega (arith, place_lt t k (z ∷ init_of u r) e, length_init_of u r))
          ∙ sym (ap (cut_start b (length (x ∷ y ∷ z ∷ u ∷ r))) (place_else t x (y ∷ z ∷ u ∷ r) f ∙ ap (omap suc) (place_else t y (z ∷ u ∷ r) g ∙ ap (omap suc) same)))

  pub place_cut : place t (cut_circle sp a (back (x ∷ y ∷ z ∷ u ∷ r))) ≡ cut_start sp (length (x ∷ y ∷ z ∷ u ∷ r)) (place t (x ∷ y ∷ z ∷ u ∷ r))
  place_cut = go (ℕ_discrete t (last_of u r))
    where
      go : Dec (t ≡ last_of u r) → place t (cut_circle sp a (back (x ∷ y ∷ z ∷ u ∷ r))) ≡ cut_start sp (length (x ∷ y ∷ z ∷ u ∷ r)) (place t (x ∷ y ∷ z ∷ u ∷ r))
      go (yes e) = is_last e
      go (no d) = not_it d
