-- What a forest costs to the end: the steps, points and records that its machines and all that is cut off them take. A step moves its part of the
-- cost from what is left to what is used, so the cost is the same whatever the order.
use mathlib.Core.Path.{◌≡◌, refl, sym, ap, ◌∙◌, subst}
use mathlib.Core.List.{List, [], ◌∷◌, ◌++◌, append-nil}
use mathlib.Core.Option.{Option, none, some}
use mathlib.Core.Bool.{Bool, true, false, true≢false}
use Prim.Native.Nat.{ℕ, zero, suc, ◌+◌, ◌<◌}
use native.Mathlib.Nat.{le_of_suc-le-suc}
use native.Mathlib.Omega.{arith}
use lib.ListN.{length, set, length-set}
use lib.Seq.{set-get_or, set-set, get_or-set_same}
use Rattle.lone.specs.Forest.{Machine, State, initial, to_list, Entry, ringless, open_ring, closed_ring, new_entry, at, step_state, step_entries}
use Rattle.lone.specs.Order.{NoneOrDone, AllDone}
use Rattle.lone.proofs.Stepping.{at_closed}

-- what a machine and all that is cut off it take to the end: steps, points, records
module _ {S : Type 0} (M : Machine S) where
  pub data Cost : S → ℕ → ℕ → ℕ → Type 0 where
    is_done : {x : S} {n p r : ℕ} → M.over x ≡ true → n ≡ 0 → p ≡ 0 → r ≡ 0 → Cost x n p r
    goes_on : {x : S} {n p r n₁ p₁ : ℕ} → M.over x ≡ false → M.cuts x ≡ none → Cost (M.next x) n₁ p₁ r → n ≡ suc n₁ → p ≡ M.takes x + p₁ → Cost x n p r
    cuts_on : {x y : S} {n p r n₁ p₁ r₁ n₂ p₂ r₂ : ℕ} → M.over x ≡ false → M.cuts x ≡ some y → Cost (M.next x) n₁ p₁ r₁ → Cost y n₂ p₂ r₂ → n ≡ suc (n₁ + n₂) → p ≡ M.takes x + (p₁ + p₂) → r ≡ suc (r₁ + r₂) → Cost x n p r

  -- the points and records that it takes to the end are one
  pub cost_one : {x : S} {n p r n' p' r' : ℕ} → Cost x n p r → Cost x n' p' r' → (p ≡ p') × (r ≡ r')
  cost_one (is_done v a b c) (is_done v' a' b' c') = (b ∙ sym b', c ∙ sym c')
  cost_one (is_done v a b c) (goes_on v' h' k' a' b') = absurd (true≢false (sym v ∙ v'))
  cost_one (is_done v a b c) (cuts_on v' h' k' l' a' b' c') = absurd (true≢false (sym v ∙ v'))
  cost_one (goes_on v h k a b) (is_done v' a' b' c') = absurd (true≢false (sym v' ∙ v))
  cost_one (goes_on v h k a b) (goes_on v' h' k' a' b') = let e = cost_one k k' in (omega (arith, e.0), e.1)
  cost_one (goes_on v h k a b) (cuts_on v' h' k' l' a' b' c') = let z : ◌≡◌ {A = ℕ} 0 1 = cc in absurd (omega arith)
  cost_one (cuts_on v h k l a b c) (is_done v' a' b' c') = absurd (true≢false (sym v' ∙ v))
  cost_one (cuts_on v h k l a b c) (goes_on v' h' k' a' b') = let z : ◌≡◌ {A = ℕ} 0 1 = cc in absurd (omega arith)
  cost_one (cuts_on {y = y} v h k l a b c) (cuts_on {y = y'} {n₂ = n₂} {p₂ = p₂} {r₂ = r₂} v' h' k' l' a' b' c') =
      let w : y' ≡ y = cc in
      let e = cost_one k k' in
      let f = cost_one l (subst (λ (z : S). Cost z n₂ p₂ r₂) w l') in
      (omega (arith, e.0, f.0), omega (arith, e.1, f.1))

module _ {S X : Type 0} (M : Machine S) where
  pub data CostE : Entry S X → ℕ → ℕ → ℕ → Type 0 where
    of_ringless : CostE ringless 0 0 0
    of_open : {x : X} → CostE (open_ring x) 0 0 0
    of_closed : {q : Option ℕ} {L : State S} {n p r : ℕ} → Cost M L.now n p r → CostE (closed_ring q L) n p r

  pub data Costs : List (Entry S X) → ℕ → ℕ → ℕ → Type 0 where
    nil : Costs [] 0 0 0
    cons : {e : Entry S X} {es : List (Entry S X)} {n p r n₁ p₁ r₁ n₂ p₂ r₂ : ℕ} → CostE e n₁ p₁ r₁ → Costs es n₂ p₂ r₂ → n ≡ n₁ + n₂ → p ≡ p₁ + p₂ → r ≡ r₁ + r₂ → Costs (e ∷ es) n p r

  entry_one : {e : Entry S X} {n p r n' p' r' : ℕ} → CostE e n p r → CostE e n' p' r' → (p ≡ p') × (r ≡ r')
  entry_one of_ringless of_ringless = (refl, refl)
  entry_one of_open of_open = (refl, refl)
  entry_one (of_closed k) (of_closed k') = cost_one M k k'

  pub costs_one : {es : List (Entry S X)} {n p r n' p' r' : ℕ} → Costs es n p r → Costs es n' p' r' → (p ≡ p') × (r ≡ r')
  costs_one nil nil = (refl, refl)
  costs_one (cons c cs en ep er) (cons c' cs' en' ep' er') = let e = entry_one c c' in let f = costs_one cs cs' in (omega (arith, e.0, f.0), omega (arith, e.1, f.1))

  -- one entry taken out, and room for another
  record Focus (es : List (Entry S X)) (i n p r : ℕ) : Type 0 where
    n₁ : ℕ
    p₁ : ℕ
    r₁ : ℕ
    n₂ : ℕ
    p₂ : ℕ
    r₂ : ℕ
    this : CostE (at es i) n₁ p₁ r₁
    back : (e : Entry S X) (a b c : ℕ) → CostE e a b c → Costs (set es i e) (a + n₂) (b + p₂) (c + r₂)
    sum_n : n ≡ n₁ + n₂
    sum_p : p ≡ p₁ + p₂
    sum_r : r ≡ r₁ + r₂

  focus : (es : List (Entry S X)) (i : ℕ) {n p r : ℕ} → Costs es n p r → i < length es → Focus es i n p r
  focus [] i {n = n} {p = p} {r = r} _ h = elim h [ ]
  focus (e ∷ es) zero (cons {n₁ = n₁} {p₁ = p₁} {r₁ = r₁} {n₂ = n₂} {p₂ = p₂} {r₂ = r₂} c cs en ep er) h = record {
    n₁ = n₁;
    p₁ = p₁;
    r₁ = r₁;
    n₂ = n₂;
    p₂ = p₂;
    r₂ = r₂;
    this = c;
    back = λ e' a b c' k. cons k cs refl refl refl;
    sum_n = en;
    sum_p = ep;
    sum_r = er;
  }
  focus (e ∷ es) (suc i) (cons {n₁ = n₁} {p₁ = p₁} {r₁ = r₁} {n₂ = n₂} {p₂ = p₂} {r₂ = r₂} c cs en ep er) h =
      let f : Focus es i n₂ p₂ r₂ = focus es i cs (le_of_suc-le-suc h) in
      record {
        n₁ = f.n₁;
        p₁ = f.p₁;
        r₁ = f.r₁;
        n₂ = n₁ + f.n₂;
        p₂ = p₁ + f.p₂;
        r₂ = r₁ + f.r₂;
        this = f.this;
        back = λ e' a b c' k. cons {n = a + (n₁ + f.n₂)} {p = b + (p₁ + f.p₂)} {r = c' + (r₁ + f.r₂)} c (f.back e' a b c' k) (omega arith) (omega arith) (omega arith);
        sum_n = omega (arith, f.sum_n);
        sum_p = omega (arith, f.sum_p);
        sum_r = omega (arith, f.sum_r);
      }

  -- one more at the end, or none
  snoc : (es : List (Entry S X)) {e : Entry S X} {n p r a b c : ℕ} → Costs es n p r → CostE e a b c → Costs (es ++ (e ∷ [])) (n + a) (p + b) (r + c)
  snoc [] {n} {p} {r} {a} {b} {c} nil k = cons {n = 0 + a} {p = 0 + b} {r = 0 + c} k nil (omega arith) (omega arith) (omega arith)
  snoc (x ∷ es) {n = n} {p = p} {r = r} {a = a} {b = b} {c = c'} (cons c cs en ep er) k = cons {n = n + a} {p = p + b} {r = r + c'} c (snoc es cs k) (omega arith) (omega arith) (omega arith)

  record Unsnoc (es : List (Entry S X)) (e : Entry S X) (n p r : ℕ) : Type 0 where
    n₁ : ℕ
    p₁ : ℕ
    r₁ : ℕ
    n₂ : ℕ
    p₂ : ℕ
    r₂ : ℕ
    init : Costs es n₁ p₁ r₁
    last : CostE e n₂ p₂ r₂
    sum_n : n ≡ n₁ + n₂
    sum_p : p ≡ p₁ + p₂
    sum_r : r ≡ r₁ + r₂

  unsnoc : (es : List (Entry S X)) (e : Entry S X) {n p r : ℕ} → Costs (es ++ (e ∷ [])) n p r → Unsnoc es e n p r
  unsnoc [] e (cons {n₁ = n₁} {p₁ = p₁} {r₁ = r₁} c nil en ep er) = record { n₁ = 0; p₁ = 0; r₁ = 0; n₂ = n₁; p₂ = p₁; r₂ = r₁; init = nil; last = c; sum_n = omega arith; sum_p = omega arith; sum_r = omega arith }
  unsnoc (x ∷ es) e (cons {n₁ = n₁} {p₁ = p₁} {r₁ = r₁} {n₂ = n₂} {p₂ = p₂} {r₂ = r₂} c cs en ep er) =
      let u : Unsnoc es e n₂ p₂ r₂ = unsnoc es e cs in
      record { n₁ = n₁ + u.n₁; p₁ = p₁ + u.p₁; r₁ = r₁ + u.r₁; n₂ = u.n₂; p₂ = u.p₂; r₂ = u.r₂; init = cons c u.init refl refl refl; last = u.last; sum_n = omega (arith, u.sum_n); sum_p = omega (arith, u.sum_p); sum_r = omega (arith, u.sum_r) }

  pub done_costs : (es : List (Entry S X)) → AllDone M es → Costs es 0 0 0
  done_costs [] a = nil
  done_costs (e ∷ es) a = go e (a 0) (done_costs es (λ i. a (suc i)))
    where
      go : (e : Entry S X) → NoneOrDone M e → Costs es 0 0 0 → Costs (e ∷ es) 0 0 0
      go ringless h c = cons {n = 0} {p = 0} {r = 0} of_ringless c (omega arith) (omega arith) (omega arith)
      go (open_ring x) h c = cons {n = 0} {p = 0} {r = 0} of_open c (omega arith) (omega arith) (omega arith)
      go (closed_ring q L) h c = cons {n = 0} {p = 0} {r = 0} (of_closed (is_done h refl refl refl)) c (omega arith) (omega arith) (omega arith)

  cast : {es : List (Entry S X)} {n p r n' p' r' : ℕ} → Costs es n p r → n ≡ n' → p ≡ p' → r ≡ r' → Costs es n' p' r'
  cast {es} {n} {p} {r} {n'} {p'} {r'} c a b d = subst (λ (z : ℕ). Costs es n' p' z) d (subst (λ (z : ℕ). Costs es n' z r) b (subst (λ (z : ℕ). Costs es z p r) a c))

  cost_of : {q : Option ℕ} {L : State S} {n p r : ℕ} → CostE (closed_ring q L) n p r → Cost M L.now n p r
  cost_of (of_closed k) = k

  pub record AfterStep (es : List (Entry S X)) (x : S) (n p r : ℕ) : Type 0 where
    pub left : ℕ
    pub points_left : ℕ
    pub records_left : ℕ
    pub costs : Costs es left points_left records_left
    pub sum_n : n ≡ suc left
    pub sum_p : p ≡ M.takes x + points_left
    pub sum_r : r ≡ length (to_list (M.cuts x)) + records_left

  module _ (es : List (Entry S X)) (i : ℕ) (q : Option ℕ) (L : State S) (here : at es i ≡ closed_ring q L) (unfinished : M.over L.now ≡ false) where
    stepped : Option S → List (Entry S X)
    stepped o = set es i (closed_ring q (step_state M L)) ++ new_entry i o

    -- a step takes its part off the costs
    pub cost_after : {n p r : ℕ} → Costs es n p r → AfterStep (step_entries M es i q L) L.now n p r
    unfolding stepped
    cost_after {n} {p} {r} c = go (cost_of (rw here at f.this))
      where
        f : Focus es i n p r
        f = focus es i c (at_closed es i here)

        go : Cost M L.now f.n₁ f.p₁ f.r₁ → AfterStep (stepped (M.cuts L.now)) L.now n p r
        go (is_done v a b d) = let z : ◌≡◌ {A = Bool} true false = cc in let z' : ◌≡◌ {A = ℕ} 0 1 = cc in absurd (omega arith)
        go (goes_on {n₁ = a} {p₁ = b} v h k en ep) =
            record {
              left = a + f.n₂;
              points_left = b + f.p₂;
              records_left = f.r₁ + f.r₂;
              costs = subst (λ (o : Option S). Costs (stepped o) (a + f.n₂) (b + f.p₂) (f.r₁ + f.r₂)) (sym h) (rw append-nil (f.back (closed_ring q (step_state M L)) a b f.r₁ (of_closed k)));
              sum_n = omega (arith, f.sum_n);
              sum_p = omega (arith, f.sum_p);
              sum_r = rw h (omega (arith, f.sum_r));
            }
        go (cuts_on {n₁ = a} {p₁ = b} {r₁ = d} {n₂ = a'} {p₂ = b'} {r₂ = d'} v h k k' en ep er) =
            record {
              left = a + f.n₂ + a';
              points_left = b + f.p₂ + b';
              records_left = d + f.r₂ + d';
              costs = subst (λ (o : Option S). Costs (stepped o) (a + f.n₂ + a') (b + f.p₂ + b') (d + f.r₂ + d')) (sym h) (snoc (set es i (closed_ring q (step_state M L))) (f.back (closed_ring q (step_state M L)) a b d (of_closed k)) (of_closed k'));
              sum_n = omega (arith, f.sum_n);
              sum_p = omega (arith, f.sum_p);
              sum_r = rw h (omega (arith, f.sum_r));
            }

    restore : {n p r : ℕ} → Costs (set (set es i (closed_ring q (step_state M L))) i (closed_ring q L)) n p r → Costs es n p r
    restore {n} {p} {r} c = subst (λ (l : List (Entry S X)). Costs l n p r) (set-set es i _ _ ∙ ap (set es i) (sym here) ∙ set-get_or es i ringless) c

    -- and the costs before a step is the one after it with the step's part
    pub cost_before : {n p r : ℕ} → Costs (step_entries M es i q L) n p r → Costs es (suc n) (M.takes L.now + p) (length (to_list (M.cuts L.now)) + r)
    unfolding stepped
    cost_before {n} {p} {r} c = go (M.cuts L.now) refl c
      where
        lt : i < length (set es i (closed_ring q (step_state M L)))
        lt = rw length-set (at_closed es i here)

        now_at : at (set es i (closed_ring q (step_state M L))) i ≡ closed_ring q (step_state M L)
        now_at = get_or-set_same es i _ ringless (at_closed es i here)

        one : {a b d : ℕ} → M.cuts L.now ≡ none → Focus (set es i (closed_ring q (step_state M L))) i a b d → Costs es (suc a) (M.takes L.now + b) d
        one h f = cast (restore (f.back (closed_ring q L) (suc f.n₁) (M.takes L.now + f.p₁) f.r₁ (of_closed (goes_on unfinished h (cost_of (rw now_at at f.this)) refl refl)))) (omega (arith, f.sum_n)) (omega (arith, f.sum_p)) (omega (arith, f.sum_r))

        two : {y : S} → M.cuts L.now ≡ some y → (u : Unsnoc (set es i (closed_ring q (step_state M L))) (closed_ring (some i) (initial y)) n p r) → Focus (set es i (closed_ring q (step_state M L))) i u.n₁ u.p₁ u.r₁ → Costs es (suc n) (M.takes L.now + p) (suc r)
        two h u f = cast (restore (f.back (closed_ring q L) (suc (f.n₁ + u.n₂)) (M.takes L.now + (f.p₁ + u.p₂)) (suc (f.r₁ + u.r₂)) (of_closed (cuts_on unfinished h (cost_of (rw now_at at f.this)) (cost_of u.last) refl refl refl)))) (omega (arith, f.sum_n, u.sum_n)) (omega (arith, f.sum_p, u.sum_p)) (omega (arith, f.sum_r, u.sum_r))

        go : (o : Option S) → M.cuts L.now ≡ o → Costs (stepped o) n p r → Costs es (suc n) (M.takes L.now + p) (length (to_list o) + r)
        go none h k = cast (one h (focus _ i (rw append-nil at k) lt)) refl refl (omega arith)
        go (some y) h k = let u : Unsnoc (set es i (closed_ring q (step_state M L))) (closed_ring (some i) (initial y)) n p r = unsnoc _ _ k in cast (two h u (focus _ i u.init lt)) refl refl (omega arith)
