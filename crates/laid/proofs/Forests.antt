-- A forest made of two lists of roots ends as each list does alone: every ring with its offcuts, numbers apart.
use mathlib.Core.Path.{◌≡◌, refl, sym, ap, ◌∙◌, subst}
use mathlib.Core.Logic.{◌⊎◌, inl, inr}
use mathlib.Core.List.{List, [], ◌∷◌, ◌++◌, map, map-append}
use mathlib.Core.Option.{Option, none, some}
use mathlib.Core.Bool.{Bool, true, false, true≢false}
use Prim.Native.Nat.{ℕ, zero, suc, ◌+◌, ◌≤◌, ◌<◌}
use native.Mathlib.Nat.{add-zero, zero-add, add-suc, suc-add}
use native.Mathlib.Omega.{arith}
use native.Mathlib.Decide.{dec_lt}
use lib.ListN.{length, length-append, length-map}
use Rattle.lone.specs.Forest.{Machine, State, initial, to_list, Entry, closed_ring, Fed, left_ringless, left_open, left_closed, Forest, is_ok}
use Rattle.lone.specs.Forest.{enter, opening, at, cut_from, steps_state, step_entries, carry_out, answer, step_forest, run_forest}
use Rattle.lone.specs.Order.{Alone, AllDone}
use Rattle.lone.specs.Tree.{Trees, nothing, ended, EndsAs, no_more, and, HoldsTrees, seeds, roots}
use Rattle.lone.specs.Table.{offcuts_from}
use Rattle.lone.proofs.Stepping.{step_length, Accepted, Refused, view}
use Rattle.lone.proofs.Costs.{Costs, nil, cons, AfterStep, cost_after, cost_before, done_costs}
use Rattle.lone.proofs.Ending.{Unfinished, find, HasRoom, room_ok, run_within}
use Rattle.lone.proofs.Trees.{holds_end}
use Rattle.laid.specs.Trees.{EachOwn}

-- ---- what the first record of a list holds, and what the first machine ends in

module _ {S X : Type 0} (es : List (Entry S X)) where
  record HoldsHead (j : ℕ) (js : List ℕ) (t : Trees S) : Type 0 where
    who : Option ℕ
    state : State S
    ts : Trees S
    us : Trees S
    here : at es j ≡ closed_ring who state
    offcuts : HoldsTrees es (offcuts_from j 0 (map cut_from es)) ts
    others : HoldsTrees es js us
    is : t ≡ ended state.now ts us

  holds_head : {j : ℕ} {js : List ℕ} {t : Trees S} → HoldsTrees es (j ∷ js) t → HoldsHead j js t
  holds_head (and {q = q} {L = L} {ts = ts} {us = us} e h k) = record { who = q; state = L; ts = ts; us = us; here = e; offcuts = h; others = k; is = refl }

module _ {S : Type 0} (M : Machine S) where
  record EndsHead (s : S) (ss : List S) (t : Trees S) : Type 0 where
    n : ℕ
    ts : Trees S
    us : Trees S
    before : (k : ℕ) → k < n → M.over (steps_state M k (initial s)).now ≡ false
    over : M.over (steps_state M n (initial s)).now ≡ true
    offcuts : EndsAs M (steps_state M n (initial s)).offcuts ts
    others : EndsAs M ss us
    is : t ≡ ended (steps_state M n (initial s)).now ts us

  ends_head : {s : S} {ss : List S} {t : Trees S} → EndsAs M (s ∷ ss) t → EndsHead s ss t
  ends_head (and {ts = ts} {us = us} n f o c d) = record { n = n; ts = ts; us = us; before = f; over = o; offcuts = c; others = d; is = refl }

-- ---- lone machines end in one way

module _ {S : Type 0} (M : Machine S) where
  same_count : (s : S) (n m : ℕ) → ((k : ℕ) → k < n → M.over (steps_state M k (initial s)).now ≡ false) → M.over (steps_state M m (initial s)).now ≡ true → n ≤ m
  same_count s n m f e = go (dec_lt m n)
    where
      go : Dec (m < n) → n ≤ m
      go (yes h) = absurd (true≢false (sym e ∙ f m h))
      go (no h) = omega arith

  one_end : (ss : List S) (t u : Trees S) → EndsAs M ss t → EndsAs M ss u → t ≡ u
  one_end ss t u no_more g = none_left u g
    where
      none_left : (u : Trees S) → EndsAs M [] u → nothing ≡ u
      none_left u no_more = refl
  one_end ss t u (and {s = s} {ss = r} {ts = ts} {us = us} n f o c d) g = split u g (λ v h. one_end (steps_state M n (initial s)).offcuts ts v c h) (λ v h. one_end r us v d h)
    where
      split : (u : Trees S) → EndsAs M (s ∷ r) u → ((v : Trees S) → EndsAs M (steps_state M n (initial s)).offcuts v → ts ≡ v)
          → ((v : Trees S) → EndsAs M r v → us ≡ v) → ended (steps_state M n (initial s)).now ts us ≡ u
      split u (and {ts = ts'} {us = us'} n' f' o' c' d') on-offcuts on-rest =
          let e : n' ≡ n = omega (arith, same_count s n n' f o', same_count s n' n f' o) in
          let a : ts ≡ ts' = on-offcuts ts' (subst (λ (k : ℕ). EndsAs M (steps_state M k (initial s)).offcuts ts') e c') in
          let b : us ≡ us' = on-rest us' d' in
          cc

-- ---- two lists of roots

module _ {S X : Type 0} (M : Machine S) (es : List (Entry S X)) where
  -- the records from k on hold what the first's rings end in, the records after them what the second's do
  pub record Both (os ps : List (Fed S X)) (k : ℕ) : Type 0 where
    pub ts : Trees S
    pub us : Trees S
    pub first_ends : EndsAs M (seeds os) ts
    pub first_held : HoldsTrees es (roots k os) ts
    pub second_ends : EndsAs M (seeds ps) us
    pub second_held : HoldsTrees es (roots (k + length os) ps) us

  both : (os ps : List (Fed S X)) (k : ℕ) (t : Trees S) → EndsAs M (seeds (os ++ ps)) t → HoldsTrees es (roots k (os ++ ps)) t → Both os ps k
  both [] ps k t f h = record { ts = nothing; us = t; first_ends = no_more; first_held = no_more; second_ends = f; second_held = subst (λ (n : ℕ). HoldsTrees es (roots n ps) t) (sym (add-zero k)) h }
  both (left_ringless ∷ os) ps k t f h = later (both os ps (suc k) t f h)
    where
      later : Both os ps (suc k) → Both (left_ringless ∷ os) ps k
      later b = record { ts = b.ts; us = b.us; first_ends = b.first_ends; first_held = b.first_held; second_ends = b.second_ends; second_held = subst (λ (n : ℕ). HoldsTrees es (roots n ps) b.us) (suc-add k (length os) ∙ sym (add-suc k (length os))) b.second_held }
  both (left_open x ∷ os) ps k t f h = later (both os ps (suc k) t f h)
    where
      later : Both os ps (suc k) → Both (left_open x ∷ os) ps k
      later b = record { ts = b.ts; us = b.us; first_ends = b.first_ends; first_held = b.first_held; second_ends = b.second_ends; second_held = subst (λ (n : ℕ). HoldsTrees es (roots n ps) b.us) (suc-add k (length os) ∙ sym (add-suc k (length os))) b.second_held }
  both (left_closed s ∷ os) ps k t f h = later (ends_head M f) (holds_head es h) (λ v p q. both os ps (suc k) v p q)
    where
      later : EndsHead M s (seeds (os ++ ps)) t → HoldsHead es k (roots (suc k) (os ++ ps)) t → ((v : Trees S) → EndsAs M (seeds (os ++ ps)) v → HoldsTrees es (roots (suc k) (os ++ ps)) v → Both os ps (suc k)) → Both (left_closed s ∷ os) ps k
      later e g rec =
          let z = sym e.is ∙ g.is in
          let x : g.state.now ≡ (steps_state M e.n (initial s)).now = cc in
          let y : g.ts ≡ e.ts = cc in
          let w : g.us ≡ e.us = cc in
          let b : Both os ps (suc k) = rec e.us e.others (subst (HoldsTrees es (roots (suc k) (os ++ ps))) w g.others) in
          record {
            ts = ended (steps_state M e.n (initial s)).now e.ts b.ts;
            us = b.us;
            first_ends = and e.n e.before e.over e.offcuts b.first_ends;
            first_held = subst (λ (r : S). HoldsTrees es (k ∷ roots (suc k) os) (ended r e.ts b.ts)) x (and g.here (subst (HoldsTrees es (offcuts_from k 0 (map cut_from es))) y g.offcuts) b.first_held);
            second_ends = b.second_ends;
            second_held = subst (λ (n : ℕ). HoldsTrees es (roots n ps) b.us) (suc-add k (length os) ∙ sym (add-suc k (length os))) b.second_held;
          }

-- a table in which all are done, each where it would be alone, from two lists of roots
module _ {S X : Type 0} (M : Machine S) (os ps : List (Fed S X)) where
  pub both_end : (es : List (Entry S X)) (g : ℕ → ℕ) → Alone M (os ++ ps) es g → AllDone M es → Both M es os ps 0
  both_end es g a d = let r = holds_end M (os ++ ps) es g a d in both M es os ps 0 r.0 r.1 r.2

  -- and the first's own table, and the second's, hold the same
  pub each_own : (es fs gs : List (Entry S X)) (g g₁ g₂ : ℕ → ℕ) → Alone M (os ++ ps) es g → AllDone M es → Alone M os fs g₁ → AllDone M fs → Alone M ps gs g₂ → AllDone M gs → EachOwn os ps es fs gs
  each_own es fs gs g g₁ g₂ a d a₁ d₁ a₂ d₂ =
      let b : Both M es os ps 0 = both_end es g a d in
      let f = holds_end M os fs g₁ a₁ d₁ in
      let h = holds_end M ps gs g₂ a₂ d₂ in
      record {
        ts = b.ts;
        us = b.us;
        first_held = b.first_held;
        first_own = subst (HoldsTrees fs (roots 0 os)) (one_end M (seeds os) f.0 b.ts f.1 b.first_ends) f.2;
        second_held = subst (λ (n : ℕ). HoldsTrees es (roots n ps) b.us) (zero-add (length os)) b.second_held;
        second_own = subst (HoldsTrees gs (roots 0 ps)) (one_end M (seeds ps) h.0 b.us h.1 b.second_ends) h.2;
      }

-- ---- if all steps finish of both together, they do of each alone: what a forest costs to the end is what its parts cost

module _ {S X : Type 0} (M : Machine S) where
  record Parts (es fs : List (Entry S X)) (n p r : ℕ) : Type 0 where
    n₁ : ℕ
    p₁ : ℕ
    r₁ : ℕ
    n₂ : ℕ
    p₂ : ℕ
    r₂ : ℕ
    front : Costs M es n₁ p₁ r₁
    back : Costs M fs n₂ p₂ r₂
    sum_p : p ≡ p₁ + p₂
    sum_r : r ≡ r₁ + r₂

  parts : (es fs : List (Entry S X)) {n p r : ℕ} → Costs M (es ++ fs) n p r → Parts es fs n p r
  parts [] fs {n} {p} {r} c = record { n₁ = 0; p₁ = 0; r₁ = 0; n₂ = n; p₂ = p; r₂ = r; front = nil; back = c; sum_p = omega arith; sum_r = omega arith }
  parts (e ∷ es) fs (cons {n₁ = n₁} {p₁ = p₁} {r₁ = r₁} {n₂ = n₂} {p₂ = p₂} {r₂ = r₂} c cs en ep er) =
      let u : Parts es fs n₂ p₂ r₂ = parts es fs cs in
      record {
        n₁ = n₁ + u.n₁;
        p₁ = p₁ + u.p₁;
        r₁ = r₁ + u.r₁;
        n₂ = u.n₂;
        p₂ = u.p₂;
        r₂ = u.r₂;
        front = cons c u.front refl refl refl;
        back = u.back;
        sum_p = omega (arith, u.sum_p);
        sum_r = omega (arith, u.sum_r);
      }

  module _ (lp lr : ℕ) where
    -- what a list of steps that ends the forest took
    record CostTo (F E : Forest S X) : Type 0 where
      n : ℕ
      p : ℕ
      r : ℕ
      costs : Costs M F.entries n p r
      sum_p : F.points + p ≡ E.points
      sum_r : length F.entries + r ≡ length E.entries

    cost_any : (F E : Forest S X) (i : ℕ) → CostTo (step_forest M lp lr F i) E → CostTo F E
    cost_any F E i b = go (view M lp lr F i)
      where
        carried : (y : Accepted M lp lr F i) → CostTo (carry_out M F i y.who y.state) E → CostTo F E
        carried y c =
            record {
              n = suc c.n;
              p = M.takes y.state.now + c.p;
              r = length (to_list (M.cuts y.state.now)) + c.r;
              costs = cost_before M F.entries i y.who y.state y.here y.unfinished c.costs;
              sum_p = omega (arith, c.sum_p);
              sum_r = omega (arith, c.sum_r, step_length M F.entries i y.who y.state);
            }

        go : Accepted M lp lr F i ⊎ Refused M lp lr F i → CostTo F E
        go (inl y) = carried y (rw y.becomes at b)
        go (inr z) = rw z.becomes at b

    cost_to_end : (s : List ℕ) (F : Forest S X) → AllDone M (run_forest M lp lr F s).entries → CostTo F (run_forest M lp lr F s)
    cost_to_end [] F a = record { n = 0; p = 0; r = 0; costs = done_costs M F.entries a; sum_p = omega arith; sum_r = omega arith }
    cost_to_end (i ∷ s) F a = cost_any F _ i (cost_to_end s (step_forest M lp lr F i) a)

    Finished : Forest S X → Type 0
    Finished F = (t : List ℕ) × AllDone M (run_forest M lp lr F t).entries

    finish_step : (F : Forest S X) (n : ℕ) → HasRoom M lp lr F n → ((k : ℕ) → n ≡ suc k → (E : Forest S X) → HasRoom M lp lr E k → Finished E) → Finished F
    unfolding Finished
    finish_step F n g rec = go (find M F.entries)
      where
        step : (v : Unfinished M F.entries) → Accepted M lp lr F v.place ⊎ Refused M lp lr F v.place → (t : List ℕ) × AllDone M (run_forest M lp lr F t).entries
        step v (inl y) =
            let L : State S = y.state in
            let s : AfterStep M (step_entries M F.entries v.place y.who L) L.now n g.points_due g.records_due = cost_after M F.entries v.place y.who L y.here y.unfinished g.costs in
            let r : HasRoom M lp lr (carry_out M F v.place y.who L) s.left = record {
              points_due = s.points_left;
              records_due = s.records_left;
              costs = s.costs;
              fits_points = omega (arith, g.fits_points, s.sum_p);
              fits_records = omega (arith, g.fits_records, s.sum_r, step_length M F.entries v.place y.who L);
            } in
            let u = rec s.left s.sum_n (step_forest M lp lr F v.place) (rw y.becomes r) in
            (v.place ∷ u.0, u.1)
        step v (inr z) =
            let w : is_ok (answer M lp lr F v.place) ≡ true = ap is_ok (room_ok M lp lr F n v.place g v.who v.state v.here v.unfinished) in
            let w' : is_ok (answer M lp lr F v.place) ≡ false = z.says in
            let z' : ◌≡◌ {A = ℕ} 0 1 = cc in
            absurd (omega arith)

        go : AllDone M F.entries ⊎ Unfinished M F.entries → (t : List ℕ) × AllDone M (run_forest M lp lr F t).entries
        go (inl a) = ([], a)
        go (inr v) = step v (view M lp lr F v.place)

    finish : (n : ℕ) (F : Forest S X) → HasRoom M lp lr F n → Finished F
    finish zero F g = finish_step F zero g (λ k e E h. absurd (omega arith))
    finish (suc n) F g = finish_step F (suc n) g (λ k e E h. finish n E (subst (HasRoom M lp lr E) (omega arith) h))

    module _ (os ps : List (Fed S X)) (a b : ℕ) (few : a + b ≤ lp) (some_left : length os + length ps ≤ lr) (s : List ℕ) (d : AllDone M (run_forest M lp lr (opening (os ++ ps) (a + b)) s).entries) where
      abbrev together : Forest S X
      together = opening (os ++ ps) (a + b)

      entries_are : map enter (os ++ ps) ≡ map enter os ++ map enter ps
      entries_are = map-append enter os ps

      c : CostTo together (run_forest M lp lr together s)
      c = cost_to_end s together d

      w : ((run_forest M lp lr together s).points ≤ lp) × (length (run_forest M lp lr together s).entries ≤ lr)
      w = run_within M lp lr s together few (rw (length-map (os ++ ps) enter, length-append os ps) some_left)

      split : Parts (map enter os) (map enter ps) c.n c.p c.r
      split = parts (map enter os) (map enter ps) (subst (λ (es : List (Entry S X)). Costs M es c.n c.p c.r) entries_are c.costs)

      used_points : a + b + (split.p₁ + split.p₂) ≤ lp
      used_points = omega (arith, w.0, c.sum_p, split.sum_p)

      used_records : length os + length ps + (split.r₁ + split.r₂) ≤ lr
      used_records = omega (arith, w.1, c.sum_r, split.sum_r, length-map (os ++ ps) enter, length-append os ps)

      pub first_alone : (t : List ℕ) × AllDone M (run_forest M lp lr (opening os a) t).entries
      unfolding Finished
      first_alone = finish split.n₁ (opening os a) (record { points_due = split.p₁; records_due = split.r₁; costs = split.front; fits_points = omega (arith, used_points); fits_records = omega (arith, used_records, length-map os enter) })

      pub second_alone : (t : List ℕ) × AllDone M (run_forest M lp lr (opening ps b) t).entries
      unfolding Finished
      second_alone = finish split.n₂ (opening ps b) (record { points_due = split.p₂; records_due = split.r₂; costs = split.back; fits_points = omega (arith, used_points); fits_records = omega (arith, used_records, length-map ps enter) })
