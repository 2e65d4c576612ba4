-- A forest that some list ends: then no step after any list is refused for want of places, and every list can be carried on to the end.
use mathlib.Core.Path.{◌≡◌, refl, sym, ap, ◌∙◌}
use mathlib.Core.Logic.{◌⊎◌, inl, inr, ◌≢◌}
use mathlib.Core.List.{List, [], ◌∷◌, ◌++◌}
use mathlib.Core.Option.{Option}
use mathlib.Core.Bool.{Bool, true, false}
use Prim.Native.Nat.{ℕ, zero, suc, ◌+◌, ◌≤◌}
use native.Mathlib.Omega.{arith}
use lib.ListN.{length}
use borrow.Author.Tests.{le-leb}
use Rattle.lone.specs.Forest.{Machine, State, to_list, Entry, ringless, open_ring, closed_ring, ok, full, out_of_turn, Forest, is_ok}
use Rattle.lone.specs.Forest.{at, step_entries, carry_out, answer, step_forest, run_forest}
use Rattle.lone.specs.Order.{NoneOrDone, AllDone, ForestFits, ForestNeverEnds}
use Rattle.lone.proofs.Stepping.{step_length, Accepted, Refused, view}
use Rattle.lone.proofs.Costs.{Costs, AfterStep, cost_after, cost_before, done_costs, costs_one}

module _ {S X : Type 0} where
  pub record Unfinished (M : Machine S) (es : List (Entry S X)) : Type 0 where
    pub place : ℕ
    pub who : Option ℕ
    pub state : State S
    pub here : at es place ≡ closed_ring who state
    pub unfinished : M.over state.now ≡ false

  later : (M : Machine S) (e : Entry S X) (es : List (Entry S X)) → Unfinished M es → Unfinished M (e ∷ es)
  later M e es v = record { place = suc v.place; who = v.who; state = v.state; here = v.here; unfinished = v.unfinished }

  and_done : (M : Machine S) (e : Entry S X) (es : List (Entry S X)) → NoneOrDone M e → AllDone M es → AllDone M (e ∷ es)
  and_done M e es h a zero = h
  and_done M e es h a (suc i) = a i

  -- all are done, or one is not
  pub find : (M : Machine S) (es : List (Entry S X)) → AllDone M es ⊎ Unfinished M es
  find M [] = inl (λ i. tt)
  find M (ringless ∷ es) = elim (find M es) [ inl a ↦ inl (and_done M ringless es tt a) | inr v ↦ inr (later M ringless es v) ]
  find M (open_ring x ∷ es) = elim (find M es) [ inl a ↦ inl (and_done M (open_ring x) es tt a) | inr v ↦ inr (later M (open_ring x) es v) ]
  find M (closed_ring q L ∷ es) = go (M.over L.now) refl (find M es)
    where
      go : (b : Bool) → M.over L.now ≡ b → AllDone M es ⊎ Unfinished M es → AllDone M (closed_ring q L ∷ es) ⊎ Unfinished M (closed_ring q L ∷ es)
      go false e r = inr (record { place = 0; who = q; state = L; here = refl; unfinished = e })
      go true e (inl a) = inl (and_done M (closed_ring q L) es e a)
      go true e (inr v) = inr (later M (closed_ring q L) es v)

module _ {S X : Type 0} (M : Machine S) where
  module _ (lp lr : ℕ) where
    -- the costs of all rings fits into the places left
    pub record HasRoom (F : Forest S X) (n : ℕ) : Type 0 where
      pub points_due : ℕ
      pub records_due : ℕ
      pub costs : Costs M F.entries n points_due records_due
      pub fits_points : F.points + points_due ≤ lp
      pub fits_records : length F.entries + records_due ≤ lr

    pub room_ok : (F : Forest S X) (n i : ℕ) → HasRoom F n → (q : Option ℕ) (L : State S) → at F.entries i ≡ closed_ring q L → M.over L.now ≡ false → answer M lp lr F i ≡ ok
    unfolding answer
    room_ok F n i g q L here unfinished =
        let s : AfterStep M (step_entries M F.entries i q L) L.now n g.points_due g.records_due = cost_after M F.entries i q L here unfinished g.costs in
        rw (here, unfinished, le-leb (F.points + M.takes L.now) lp (omega (arith, g.fits_points, s.sum_p)), le-leb (length F.entries + length (to_list (M.cuts L.now))) lr (omega (arith, g.fits_records, s.sum_r)))

    pub room_not_full : (F : Forest S X) (n i : ℕ) → HasRoom F n → answer M lp lr F i ≢ full
    unfolding answer
    room_not_full F n i g h = go (at F.entries i) refl
      where
        more : (q : Option ℕ) (L : State S) → at F.entries i ≡ closed_ring q L → (b : Bool) → M.over L.now ≡ b → ⊥
        more q L e true v = let z : out_of_turn ≡ full = (rw (e, v)) ∙ h in let z' : ◌≡◌ {A = ℕ} 0 1 = cc in omega arith
        more q L e false v = let z : ok ≡ full = sym (room_ok F n i g q L e v) ∙ h in let z' : ◌≡◌ {A = ℕ} 0 1 = cc in omega arith

        go : (e : Entry S X) → at F.entries i ≡ e → ⊥
        go ringless e = let z : out_of_turn ≡ full = (rw e) ∙ h in let z' : ◌≡◌ {A = ℕ} 0 1 = cc in omega arith
        go (open_ring x) e = let z : out_of_turn ≡ full = (rw e) ∙ h in let z' : ◌≡◌ {A = ℕ} 0 1 = cc in omega arith
        go (closed_ring q L) e = more q L e _ refl

    step_room : (F : Forest S X) (n i : ℕ) → HasRoom F n → Accepted M lp lr F i → (k : ℕ) × (n ≡ suc k) × HasRoom (step_forest M lp lr F i) k
    step_room F n i g y =
        let L : State S = y.state in
        let s : AfterStep M (step_entries M F.entries i y.who L) L.now n g.points_due g.records_due = cost_after M F.entries i y.who L y.here y.unfinished g.costs in
        let r : HasRoom (carry_out M F i y.who L) s.left = record { points_due = s.points_left; records_due = s.records_left; costs = s.costs; fits_points = omega (arith, g.fits_points, s.sum_p); fits_records = omega (arith, g.fits_records, s.sum_r, step_length M F.entries i y.who L) } in
        (s.left, s.sum_n, rw y.becomes r)

    step_room_any : (F : Forest S X) (n i : ℕ) → HasRoom F n → (k : ℕ) × HasRoom (step_forest M lp lr F i) k
    step_room_any F n i g = go (view M lp lr F i)
      where
        go : Accepted M lp lr F i ⊎ Refused M lp lr F i → (k : ℕ) × HasRoom (step_forest M lp lr F i) k
        go (inl y) = let r = step_room F n i g y in (r.0, r.2)
        go (inr z) = (n, rw z.becomes g)

    run_room : (s : List ℕ) (F : Forest S X) (n : ℕ) → HasRoom F n → (k : ℕ) × HasRoom (run_forest M lp lr F s) k
    run_room [] F n g = (n, g)
    run_room (i ∷ s) F n g = let r = step_room_any F n i g in run_room s (step_forest M lp lr F i) r.0 r.1

    next_room : (F : Forest S X) (n : ℕ) → HasRoom F n → AllDone M F.entries ⊎ ((i : ℕ) × (k : ℕ) × (n ≡ suc k) × HasRoom (step_forest M lp lr F i) k)
    next_room F n g = go (find M F.entries)
      where
        step : (v : Unfinished M F.entries) → Accepted M lp lr F v.place ⊎ Refused M lp lr F v.place → (i : ℕ) × (k : ℕ) × (n ≡ suc k) × HasRoom (step_forest M lp lr F i) k
        step v (inl y) = let r = step_room F n v.place g y in (v.place, r.0, r.1, r.2)
        step v (inr z) = let w : is_ok (answer M lp lr F v.place) ≡ true = ap is_ok (room_ok F n v.place g v.who v.state v.here v.unfinished) in let w' : is_ok (answer M lp lr F v.place) ≡ false = z.says in let z' : ◌≡◌ {A = ℕ} 0 1 = cc in absurd (omega arith)

        go : AllDone M F.entries ⊎ Unfinished M F.entries → AllDone M F.entries ⊎ ((i : ℕ) × (k : ℕ) × (n ≡ suc k) × HasRoom (step_forest M lp lr F i) k)
        go (inl a) = inl a
        go (inr v) = inr (step v (view M lp lr F v.place))

    -- a good forest is finished by its live rings in any order: here, the first one each time
    finish : (n : ℕ) (F : Forest S X) → HasRoom F n → (t : List ℕ) × AllDone M (run_forest M lp lr F t).entries
    finish zero F g = go (next_room F zero g)
      where
        go : AllDone M F.entries ⊎ ((i : ℕ) × (k : ℕ) × (zero ≡ suc k) × HasRoom (step_forest M lp lr F i) k) → (t : List ℕ) × AllDone M (run_forest M lp lr F t).entries
        go (inl a) = ([], a)
        go (inr r) = absurd (omega (arith, r.2))
    finish (suc n) F g = go (next_room F (suc n) g) (finish n)
      where
        go : AllDone M F.entries ⊎ ((i : ℕ) × (k : ℕ) × (suc n ≡ suc k) × HasRoom (step_forest M lp lr F i) k) → ((F' : Forest S X) → HasRoom F' n → (t : List ℕ) × AllDone M (run_forest M lp lr F' t).entries) → (t : List ℕ) × AllDone M (run_forest M lp lr F t).entries
        go (inl a) rec = ([], a)
        go (inr r) rec = let e : r.1 ≡ n = omega (arith, r.2) in let u = rec (step_forest M lp lr F r.0) (rw e at r.3) in (r.0 ∷ u.0, u.1)

    record CostTo (F : Forest S X) (E : Forest S X) : Type 0 where
      n : ℕ
      p : ℕ
      r : ℕ
      costs : Costs M F.entries n p r
      sum_p : F.points + p ≡ E.points
      sum_r : length F.entries + r ≡ length E.entries

    cost_accepted : (F E : Forest S X) (i : ℕ) → Accepted M lp lr F i → CostTo (step_forest M lp lr F i) E → CostTo F E
    cost_accepted F E i y b = go (rw y.becomes at b)
      where
        L : State S
        L = y.state

        go : CostTo (carry_out M F i y.who y.state) E → CostTo F E
        go c = record { n = suc c.n; p = M.takes L.now + c.p; r = length (to_list (M.cuts L.now)) + c.r; costs = cost_before M F.entries i y.who L y.here y.unfinished c.costs; sum_p = omega (arith, c.sum_p); sum_r = omega (arith, c.sum_r, step_length M F.entries i y.who L) }

    cost_any : (F E : Forest S X) (i : ℕ) → CostTo (step_forest M lp lr F i) E → CostTo F E
    cost_any F E i b = go (view M lp lr F i)
      where
        go : Accepted M lp lr F i ⊎ Refused M lp lr F i → CostTo F E
        go (inl y) = cost_accepted F E i y b
        go (inr z) = rw z.becomes at b

    cost_to_end : (s : List ℕ) (F : Forest S X) → AllDone M (run_forest M lp lr F s).entries → CostTo F (run_forest M lp lr F s)
    cost_to_end [] F a = record { n = 0; p = 0; r = 0; costs = done_costs M F.entries a; sum_p = omega arith; sum_r = omega arith }
    cost_to_end (i ∷ s) F a = cost_any F _ i (cost_to_end s (step_forest M lp lr F i) a)

    -- no step passes the limits
    step_within : (F : Forest S X) (i : ℕ) → F.points ≤ lp → length F.entries ≤ lr → ((step_forest M lp lr F i).points ≤ lp) × (length (step_forest M lp lr F i).entries ≤ lr)
    step_within F i h k = go (view M lp lr F i)
      where
        go : Accepted M lp lr F i ⊎ Refused M lp lr F i → ((step_forest M lp lr F i).points ≤ lp) × (length (step_forest M lp lr F i).entries ≤ lr)
        go (inl y) = rw y.becomes (y.fits_points, omega (arith, y.fits_records, step_length M F.entries i y.who y.state))
        go (inr z) = rw z.becomes (h, k)

    pub run_within : (s : List ℕ) (F : Forest S X) → F.points ≤ lp → length F.entries ≤ lr → ((run_forest M lp lr F s).points ≤ lp) × (length (run_forest M lp lr F s).entries ≤ lr)
    run_within [] F h k = (h, k)
    run_within (i ∷ s) F h k = let w = step_within F i h k in run_within s (step_forest M lp lr F i) w.0 w.1

    pub run_append : (s t : List ℕ) (F : Forest S X) → run_forest M lp lr F (s ++ t) ≡ run_forest M lp lr (run_forest M lp lr F s) t
    run_append [] t F = refl
    run_append (i ∷ s) t F = run_append s t (step_forest M lp lr F i)

    -- a list that ends the forest bounds what all lists take
    room_of_end : (F : Forest S X) (s : List ℕ) → F.points ≤ lp → length F.entries ≤ lr → AllDone M (run_forest M lp lr F s).entries → (n : ℕ) × HasRoom F n
    room_of_end F s h k a =
        let b : CostTo F (run_forest M lp lr F s) = cost_to_end s F a in
        let w = run_within s F h k in
        (b.n, record { points_due = b.p; records_due = b.r; costs = b.costs; fits_points = omega (arith, b.sum_p, w.0); fits_records = omega (arith, b.sum_r, w.1) })

    pub fits_of_end : (F : Forest S X) (s : List ℕ) → F.points ≤ lp → length F.entries ≤ lr → AllDone M (run_forest M lp lr F s).entries → ForestFits M lp lr F
    fits_of_end F s h k a = let g = room_of_end F s h k a in record {
      never_full = λ s' i. let r = run_room s' F g.0 g.1 in room_not_full (run_forest M lp lr F s') r.0 i r.1;
      goes_on = λ s'. let r = run_room s' F g.0 g.1 in let u = finish r.0 (run_forest M lp lr F s') r.1 in (u.0, rw (run_append s' u.0 F) u.1);
    }

    -- a step refused as full, after any list, and no list ends the forest
    pub never_of_full : (F : Forest S X) (s : List ℕ) (i : ℕ) → F.points ≤ lp → length F.entries ≤ lr → answer M lp lr (run_forest M lp lr F s) i ≡ full → ForestNeverEnds M lp lr F
    never_of_full F s i h k e t a = (fits_of_end F t h k a).never_full s i e

    -- two lists that end the forest take as many points and records
    pub same_counts : (F : Forest S X) (s t : List ℕ) → AllDone M (run_forest M lp lr F s).entries → AllDone M (run_forest M lp lr F t).entries
        → ((run_forest M lp lr F s).points ≡ (run_forest M lp lr F t).points) × (length (run_forest M lp lr F s).entries ≡ length (run_forest M lp lr F t).entries)
    same_counts F s t h k =
        let b : CostTo F (run_forest M lp lr F s) = cost_to_end s F h in
        let c : CostTo F (run_forest M lp lr F t) = cost_to_end t F k in
        let e = costs_one M b.costs c.costs in
        (omega (arith, b.sum_p, c.sum_p, e.0), omega (arith, b.sum_r, c.sum_r, e.1))
