-- Independence: after every list of steps each record of the forest is where its lone machine is, alone. By induction over the list.
use mathlib.Core.Path.{◌≡◌, refl, sym, ap, ◌∙◌, subst, fun_ext}
use mathlib.Core.Logic.{◌⊎◌, inl, inr, ◌≢◌}
use mathlib.Core.List.{List, [], ◌∷◌, ◌++◌, map, map-append}
use mathlib.Core.Option.{Option, none, some}
use mathlib.Core.Bool.{false, cond}
use Prim.Native.Nat.{ℕ, zero, suc, ◌+◌, ◌≤◌, ◌<◌}
use native.Mathlib.Nat.{add-zero, zero-add, add_assoc, not-suc-le-zero, le_of_lt}
use native.Mathlib.Numerals.{add-one}
use native.Mathlib.Omega.{arith}
use native.Mathlib.Decide.{dec_lt, ℕ_discrete}
use lib.ListN.{length, set, get_elem?, length-append, length-map}
use lib.Seq.{take_all, get_or-set_other, map-set_same, take-append-le}
use lib.Dec.{eqb}
use borrow.Author.Tests.{eq-eqb, ne_eqb}
use Rattle.rings.specs.Count.{sum_by}
use Rattle.rings.proofs.Counting.{sum_by_append, sum_by_set}
use Rattle.lone.specs.Forest.{ok, full, out_of_turn, Machine, State, initial, to_list, Entry, ringless, open_ring, closed_ring, Fed, left_ringless, left_open, left_closed, Forest, names, naming, is_ok}
use Rattle.lone.specs.Forest.{enter, opening, new_entry, at, OfClosed, cut_from, offcuts_of, taken_by, rank, all_taken, all_cut, step_state, steps_state, steps_entry, step_entries, carry_out, answer_to, answer, step_forest, run_forest, accepted}
use Rattle.lone.specs.Order.{IsOffcut, Alone, Exactly, Independent}
use Rattle.lone.proofs.Stepping.{step_length, step_here, step_other, step_added, Accepted, Refused, view, exactly}
pub use Rattle.lone.proofs.Stepping.{at_closed}

bump : (ℕ → ℕ) → ℕ → ℕ → ℕ
bump g i j = g j + cond (eqb i j) 1 0

bump_here : (g : ℕ → ℕ) (i : ℕ) → bump g i i ≡ suc (g i)
unfolding bump
bump_here g i = rw (eq-eqb i i refl) (add-one (g i))

bump_other : (g : ℕ → ℕ) (i j : ℕ) → j ≢ i → bump g i j ≡ g j
unfolding bump
bump_other g i j h = rw (ne_eqb i j (λ e. h (sym e))) (add-zero (g j))

module _ {A : Type 0} where
  pub get_elem_append : (l t : List A) (k : ℕ) (a : A) → get_elem? l k ≡ some a → get_elem? (l ++ t) k ≡ some a
  get_elem_append [] t k a h = let z : ◌≡◌ {A = ℕ} 0 1 = cc in absurd (omega arith)
  get_elem_append (x ∷ xs) t zero a h = h
  get_elem_append (x ∷ xs) t (suc k) a h = get_elem_append xs t k a h

  pub get_elem_seam : (l : List A) (a : A) → get_elem? (l ++ (a ∷ [])) (length l) ≡ some a
  get_elem_seam [] a = refl
  get_elem_seam (x ∷ xs) a = get_elem_seam xs a

module _ {S X : Type 0} where
  offcuts_append : (es : List (Entry S X)) (i : ℕ) (o : Option S) (p : ℕ) → offcuts_of (at (es ++ new_entry i o) p) ≡ offcuts_of (at es p)
  offcuts_append [] i none p = refl
  offcuts_append [] i (some s) zero = refl
  offcuts_append [] i (some s) (suc p) = refl
  offcuts_append (e ∷ es) i o zero = refl
  offcuts_append (e ∷ es) i o (suc p) = offcuts_append es i o p

  -- a number stays short where nothing was opened
  opened_offcuts : (os : List (Fed S X)) (p : ℕ) → offcuts_of (at (map enter os) p) ≡ []
  opened_offcuts [] p = refl
  opened_offcuts (left_ringless ∷ os) zero = refl
  opened_offcuts (left_open x ∷ os) zero = refl
  opened_offcuts (left_closed s ∷ os) zero = refl
  opened_offcuts (o ∷ os) (suc p) = opened_offcuts os p

  opened_naming : (os : List (Fed S X)) (p : ℕ) → naming p (map cut_from (map enter os)) ≡ 0
  opened_naming [] p = refl
  opened_naming (left_ringless ∷ os) p = omega (arith, opened_naming os p)
  opened_naming (left_open x ∷ os) p = omega (arith, opened_naming os p)
  opened_naming (left_closed s ∷ os) p = omega (arith, opened_naming os p)

module _ {S X : Type 0} (M : Machine S) where
  pub advance_zero : (e : Entry S X) → steps_entry M 0 e ≡ e
  advance_zero ringless = refl
  advance_zero (open_ring x) = refl
  advance_zero (closed_ring q L) = refl

  at_opening : (os : List (Fed S X)) → Alone M os (map enter os) (λ j. 0)
  at_opening os = record {
    longer = simp length-map (omega arith);
    idle = λ j h. refl;
    opened = λ j h. sym (advance_zero (at (map enter os) j));
    unfinished = λ j k h l. absurd (not-suc-le-zero l);
    offcut = λ j h k. absurd (omega (arith, simp length-map at k));
    as_many = λ p. opened_naming os p ∙ sym (ap length (opened_offcuts os p));
  }

  -- the step of the life L of record i
  module _ (es : List (Entry S X)) (i : ℕ) (q : Option ℕ) (L : State S) (here : at es i ≡ closed_ring q L) (live : M.over L.now ≡ false) where
    after : List (Entry S X)
    after = step_entries M es i q L

    inside : i < length es
    inside = at_closed es i here

    after_length : length after ≡ length es + length (to_list (M.cuts L.now))
    unfolding after
    after_length = step_length M es i q L

    after_here : at after i ≡ closed_ring q (step_state M L)
    unfolding after
    after_here = step_here M es i q L inside

    after_other : (j : ℕ) → j < length es → j ≢ i → at after j ≡ at es j
    unfolding after
    after_other j h n = step_other M es i q L j h n

    after_new : (s : S) → M.cuts L.now ≡ some s → at after (length es) ≡ closed_ring (some i) (initial s)
    unfolding after
    after_new s e = step_added M es i q L s e

    cut_from_kept : map cut_from (set es i (closed_ring q (step_state M L))) ≡ map cut_from es
    cut_from_kept = map-set_same cut_from es i (closed_ring q (step_state M L)) ringless (sym (ap cut_from here))

    after_rank : (p j : ℕ) → j ≤ length es → rank after p j ≡ rank es p j
    unfolding after
    after_rank p j h = rw (map-append cut_from (set es i (closed_ring q (step_state M L))) (new_entry i (M.cuts L.now)), cut_from_kept, take-append-le j (map cut_from es) (map cut_from (new_entry i (M.cuts L.now))) (rw (length-map es cut_from) h)) refl

    after_offcuts_here : offcuts_of (at after i) ≡ offcuts_of (at es i) ++ to_list (M.cuts L.now)
    after_offcuts_here = cc (after_here, here)

    after_offcuts_other : (p : ℕ) → p ≢ i → offcuts_of (at after p) ≡ offcuts_of (at es p)
    unfolding after
    after_offcuts_other p n = offcuts_append (set es i (closed_ring q (step_state M L))) i (M.cuts L.now) p ∙ ap offcuts_of (get_or-set_other es i p _ ringless n)

    rank_all : (p : ℕ) → rank es p (length es) ≡ naming p (map cut_from es)
    rank_all p = ap (naming p) (take_all (length es) (map cut_from es) (simp length-map (omega arith)))

    new_taken : (o : Option S) → sum_by taken_by (new_entry {X = X} i o) ≡ 0
    new_taken none = refl
    new_taken (some s) = refl

    new_offcuts : (o : Option S) → sum_by (λ (e : Entry S X). length (offcuts_of e)) (new_entry i o) ≡ 0
    new_offcuts none = refl
    new_offcuts (some s) = refl

    after_taken : sum_by taken_by after ≡ sum_by taken_by es + M.takes L.now
    unfolding after
    after_taken = omega (arith, sum_by_append taken_by (set es i (closed_ring q (step_state M L))) (new_entry i (M.cuts L.now)), new_taken (M.cuts L.now), sum_by_set taken_by es i (closed_ring q (step_state M L)) ringless inside, ap taken_by here)

    after_cut : sum_by (λ (e : Entry S X). length (offcuts_of e)) after ≡ sum_by (λ (e : Entry S X). length (offcuts_of e)) es + length (to_list (M.cuts L.now))
    unfolding after
    after_cut = omega (arith, sum_by_append (λ (e : Entry S X). length (offcuts_of e)) (set es i (closed_ring q (step_state M L))) (new_entry i (M.cuts L.now)), new_offcuts (M.cuts L.now), sum_by_set (λ (e : Entry S X). length (offcuts_of e)) es i (closed_ring q (step_state M L)) ringless inside, ap (λ (e : Entry S X). length (offcuts_of e)) here, length-append L.offcuts (to_list (M.cuts L.now)))

    module _ (os : List (Fed S X)) (g : ℕ → ℕ) (a : Alone M os es g) where
      cut_kept : (p : ℕ) (k : ℕ) (s : S) → get_elem? (offcuts_of (at es p)) k ≡ some s → get_elem? (offcuts_of (at after p)) k ≡ some s
      cut_kept p k s h = go (ℕ_discrete p i)
        where
          go : Dec (p ≡ i) → get_elem? (offcuts_of (at after p)) k ≡ some s
          go (yes e) = rw (e, after_offcuts_here) (get_elem_append (offcuts_of (at es i)) (to_list (M.cuts L.now)) k s (rw e at h))
          go (no n) = rw (after_offcuts_other p n) h

      step_old : (j : ℕ) → j < length os → at after j ≡ steps_entry M (bump g i j) (at (map enter os) j)
      step_old j h = go (ℕ_discrete j i)
        where
          one : (e : Entry S X) (n : ℕ) → closed_ring q L ≡ steps_entry M n e → closed_ring q (step_state M L) ≡ steps_entry M (suc n) e
          one ringless n r = let z : ◌≡◌ {A = ℕ} 0 1 = cc in absurd (omega arith)
          one (open_ring x) n r = let z : ◌≡◌ {A = ℕ} 0 1 = cc in absurd (omega arith)
          one (closed_ring q' L') n r = cc

          go : Dec (j ≡ i) → at after j ≡ steps_entry M (bump g i j) (at (map enter os) j)
          go (yes e) = rw (e, bump_here) (after_here ∙ one (at (map enter os) i) (g i) (sym here ∙ (rw e at (a.opened j h))))
          go (no n) = rw (bump_other g i j n) (after_other j (omega (arith, a.longer)) n ∙ a.opened j h)

      step_unfinished : (j k : ℕ) → j < length os → k < bump g i j → OfClosed (λ (s : S). M.over s ≡ false) (steps_entry M k (at (map enter os) j))
      step_unfinished j k h l = go (ℕ_discrete j i)
        where
          last : Dec (k < g i) → j ≡ i → k < suc (g i) → OfClosed (λ (s : S). M.over s ≡ false) (steps_entry M k (at (map enter os) j))
          last (yes m) e l' = a.unfinished j k h (rw e m)
          last (no m) e l' = let d : k ≡ g j = omega (arith, ap g e) in let r : steps_entry M k (at (map enter os) j) ≡ closed_ring q L = rw d (sym (a.opened j h) ∙ ap (at es) e ∙ here) in rw r live

          go : Dec (j ≡ i) → OfClosed (λ (s : S). M.over s ≡ false) (steps_entry M k (at (map enter os) j))
          go (yes e) = last (dec_lt k (g i)) e (rw (← bump_here g i) (rw e at l))
          go (no n) = a.unfinished j k h (rw (bump_other g i j n) at l)

      step_offcut : (j : ℕ) → length os ≤ j → j < length es → IsOffcut M after (bump g i) j
      step_offcut j h k =
          let c : IsOffcut M es g j = a.offcut j h k in
          record { from = c.from; seed = c.seed; before = c.before; cut_as = rw (after_rank c.from j (le_of_lt k)) (cut_kept c.from (rank es c.from j) c.seed c.cut_as); is = go c (ℕ_discrete j i); unfinished = λ m l. goes_on c m l (ℕ_discrete j i) }
        where
          go : (c : IsOffcut M es g j) → Dec (j ≡ i) → at after j ≡ closed_ring (some c.from) (steps_state M (bump g i j) (initial c.seed))
          go c (yes e) = let r : closed_ring q L ≡ closed_ring (some c.from) (steps_state M (g i) (initial c.seed)) = sym here ∙ (rw e at c.is) in rw (e, bump_here) (after_here ∙ cc)
          go c (no n) = rw (bump_other g i j n) (after_other j k n ∙ c.is)

          last : (c : IsOffcut M es g j) (m : ℕ) → Dec (m < g i) → j ≡ i → m < suc (g i) → M.over (steps_state M m (initial c.seed)).now ≡ false
          last c m (yes t) e l = c.unfinished m (rw e t)
          last c m (no t) e l = let r : closed_ring q L ≡ closed_ring (some c.from) (steps_state M (g j) (initial c.seed)) = sym here ∙ ap (at es) (sym e) ∙ c.is in let d : m ≡ g j = omega (arith, ap g e) in let w : L ≡ steps_state M (g j) (initial c.seed) = cc in rw d (ap (λ (T : State S). M.over T.now) (sym w) ∙ live)

          goes_on : (c : IsOffcut M es g j) (m : ℕ) → m < bump g i j → Dec (j ≡ i) → M.over (steps_state M m (initial c.seed)).now ≡ false
          goes_on c m l (yes e) = last c m (dec_lt m (g i)) e (rw (← bump_here g i) (rw e at l))
          goes_on c m l (no n) = c.unfinished m (rw (bump_other g i j n) at l)

      step_new : (s : S) → M.cuts L.now ≡ some s → IsOffcut M after (bump g i) (length es)
      step_new s e = record {
        from = i;
        seed = s;
        before = inside;
        cut_as = rw (after_rank i (length es) (omega arith), after_offcuts_here, e) (ap (get_elem? (offcuts_of (at es i) ++ (s ∷ []))) (rank_all i ∙ a.as_many i) ∙ get_elem_seam (offcuts_of (at es i)) s);
        is = after_new s e ∙ ap (λ (n : ℕ). closed_ring (some i) (steps_state M n (initial s))) (sym (bump_other g i (length es) (λ r. omega (arith, inside)) ∙ a.idle (length es) (omega arith)));
        unfinished = λ m l. absurd (omega (arith, l, bump_other g i (length es) (λ r. omega (arith, inside)), a.idle (length es) (omega arith)));
      }

      naming_here : (o : Option S) → naming i (map cut_from (new_entry {X = X} i o)) ≡ length (to_list o)
      naming_here none = refl
      naming_here (some s) = rw (eq-eqb i i refl)

      naming_other : (p : ℕ) → p ≢ i → (o : Option S) → naming p (map cut_from (new_entry {X = X} i o)) ≡ 0
      naming_other p n none = refl
      naming_other p n (some s) = rw (ne_eqb i p (λ e. n (sym e)))

      naming_after : (p : ℕ) → naming p (map cut_from after) ≡ naming p (map cut_from es) + naming p (map cut_from (new_entry {X = X} i (M.cuts L.now)))
      unfolding after
      naming_after p = rw (map-append cut_from (set es i (closed_ring q (step_state M L))) (new_entry i (M.cuts L.now)), cut_from_kept) (sum_by_append (names p) (map cut_from es) (map cut_from (new_entry {X = X} i (M.cuts L.now))))

      step_many : (p : ℕ) → naming p (map cut_from after) ≡ length (offcuts_of (at after p))
      step_many p = go (ℕ_discrete p i)
        where
          go : Dec (p ≡ i) → naming p (map cut_from after) ≡ length (offcuts_of (at after p))
          go (yes e) = rw e (rw (naming_after i, after_offcuts_here) (cc (a.as_many i, naming_here (M.cuts L.now), length-append (offcuts_of (at es i)) (to_list (M.cuts L.now)))))
          go (no n) = rw (naming_after p, after_offcuts_other p n) (omega (arith, a.as_many p, naming_other p n (M.cuts L.now)))

      step_alone : Alone M os after (bump g i)
      step_alone = record {
        longer = omega (arith, a.longer, after_length);
        idle = λ j h. bump_other g i j (λ e. omega (arith, inside, after_length, h, e)) ∙ a.idle j (omega (arith, after_length, h));
        opened = step_old;
        unfinished = step_unfinished;
        offcut = λ j h k. late j h k (dec_lt j (length es));
        as_many = step_many;
      }
        where
          newest : (o : Option S) → M.cuts L.now ≡ o → (j : ℕ) → length es ≤ j → j < length es + length (to_list o) → IsOffcut M after (bump g i) j
          newest none e j h k = absurd (omega arith)
          newest (some s) e j h k = let r : length es ≡ j = omega arith in rw r at (step_new s e)

          late : (j : ℕ) → length os ≤ j → j < length after → Dec (j < length es) → IsOffcut M after (bump g i) j
          late j h k (yes m) = step_offcut j h m
          late j h k (no m) = newest (M.cuts L.now) refl j (omega arith) (rw after_length at k)

module _ {S X : Type 0} where
  opened_taken : (os : List (Fed S X)) → all_taken (map enter os) ≡ 0
  opened_taken [] = refl
  opened_taken (left_ringless ∷ os) = omega (arith, opened_taken os)
  opened_taken (left_open x ∷ os) = omega (arith, opened_taken os)
  opened_taken (left_closed s ∷ os) = omega (arith, opened_taken os)

  opened_cut : (os : List (Fed S X)) → all_cut (map enter os) ≡ 0
  opened_cut [] = refl
  opened_cut (left_ringless ∷ os) = omega (arith, opened_cut os)
  opened_cut (left_open x ∷ os) = omega (arith, opened_cut os)
  opened_cut (left_closed s ∷ os) = omega (arith, opened_cut os)

module _ {S X : Type 0} (M : Machine S) (lp lr : ℕ) where
  answers_by : (os : List (Fed S X)) (p₀ : ℕ) (F : Forest S X) → F.points ≡ p₀ + all_taken F.entries → length F.entries ≡ length os + all_cut F.entries
      → (i : ℕ) → answer M lp lr F i ≡ answer_to M lp lr (at F.entries i) (p₀ + all_taken F.entries) (length os + all_cut F.entries)
  unfolding answer
  answers_by os p₀ F h k i = cc

  exactly_by : (os : List (Fed S X)) (p₀ : ℕ) (F : Forest S X) → F.points ≡ p₀ + all_taken F.entries → length F.entries ≡ length os + all_cut F.entries
      → (i : ℕ) → Exactly M lp lr ok full out_of_turn (answer M lp lr F i) (at F.entries i) (p₀ + all_taken F.entries) (length os + all_cut F.entries)
  exactly_by os p₀ F h k i = rw (answers_by os p₀ F h k i) (exactly M lp lr (at F.entries i) (p₀ + all_taken F.entries) (length os + all_cut F.entries))

  make : (os : List (Fed S X)) (p₀ : ℕ) (F : Forest S X) (g : ℕ → ℕ) → Alone M os F.entries g → F.points ≡ p₀ + all_taken F.entries → length F.entries ≡ length os + all_cut F.entries → Independent M lp lr os p₀ F g
  make os p₀ F g a h k = record { alone = a; points_used = h; records_used = k; answers = answers_by os p₀ F h k; exactly = exactly_by os p₀ F h k }

  step_independent : (os : List (Fed S X)) (p₀ : ℕ) (F : Forest S X) (g : ℕ → ℕ) (i : ℕ) → Independent M lp lr os p₀ F g → Independent M lp lr os p₀ (step_forest M lp lr F i) (λ j. g j + cond (is_ok (answer M lp lr F i)) (cond (eqb i j) 1 0) 0)
  unfolding after bump
  step_independent os p₀ F g i v = go (view M lp lr F i)
    where
      go : Accepted M lp lr F i ⊎ Refused M lp lr F i → Independent M lp lr os p₀ (step_forest M lp lr F i) (λ j. g j + cond (is_ok (answer M lp lr F i)) (cond (eqb i j) 1 0) 0)
      go (inl y) = let L : State S = y.state in
          rw (y.becomes, y.says) (make os p₀ (carry_out M F i y.who L) (bump g i)
          (step_alone M F.entries i y.who L y.here y.unfinished os g v.alone)
          (omega (arith, v.points_used, after_taken M F.entries i y.who L y.here y.unfinished))
          (omega (arith, v.records_used, after_cut M F.entries i y.who L y.here y.unfinished, after_length M F.entries i y.who L y.here y.unfinished)))
      go (inr n) = rw (n.becomes, n.says) (subst (λ (h : ℕ → ℕ). Independent M lp lr os p₀ F h) (fun_ext (λ j. sym (add-zero (g j)))) v)

  run_independent : (os : List (Fed S X)) (p₀ : ℕ) (s : List ℕ) (F : Forest S X) (g : ℕ → ℕ) → Independent M lp lr os p₀ F g → Independent M lp lr os p₀ (run_forest M lp lr F s) (λ j. g j + accepted M lp lr F s j)
  run_independent os p₀ [] F g v = subst (λ (h : ℕ → ℕ). Independent M lp lr os p₀ F h) (fun_ext (λ j. sym (add-zero (g j)))) v
  run_independent os p₀ (i ∷ s) F g v = subst (λ (h : ℕ → ℕ). Independent M lp lr os p₀ (run_forest M lp lr (step_forest M lp lr F i) s) h) (fun_ext (λ j. add_assoc (g j) _ _)) (run_independent os p₀ s (step_forest M lp lr F i) _ (step_independent os p₀ F g i v))

  -- after every list of steps
  pub independent : (os : List (Fed S X)) (p₀ : ℕ) (s : List ℕ) → Independent M lp lr os p₀ (run_forest M lp lr (opening os p₀) s) (accepted M lp lr (opening os p₀) s)
  independent os p₀ s = subst (λ (h : ℕ → ℕ). Independent M lp lr os p₀ (run_forest M lp lr (opening os p₀) s) h) (fun_ext (λ j. zero-add (accepted M lp lr (opening os p₀) s j)))
      (run_independent os p₀ s (opening os p₀) (λ j. 0) (make os p₀ (opening os p₀) (λ j. 0) (at_opening M os) (omega (arith, opened_taken os)) (omega (arith, opened_cut os, length-map os (enter {S = S} {X = X})))))
