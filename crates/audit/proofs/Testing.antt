-- The loops of the tests, one turn at a time: each law's premises are what the callees ensure, and the branches.
use Prim.Native.Nat.{ℕ, zero, suc, ◌+◌, ◌*◌, ◌%◌, ◌≤◌, ◌<◌}
use mathlib.Core.Path.{◌≡◌, refl, ap, ◌∙◌, sym, subst}
use mathlib.Core.Logic.{◌≢◌}
use mathlib.Core.Bool.{Bool, true, false, not, ◌&&◌, ◌||◌}
use mathlib.Core.List.{List}
use native.Mathlib.Omega.{arith}
use native.Mathlib.Nat.{zero-add}
use native.Mathlib.Numerals.{add-one}
use lib.Dec.{eqb, ltb}
use lib.ListN.{length, get_or, set, get_or-eq_default}
use borrow.Author.Tests.{eq-eqb, ne_eqb, lt-ltb, le-ltb}
use Rattle.std.specs.Prelude.{Result, Ok, Err}
use Rattle.rings.specs.Count.{one, occ}
use Rattle.rings.specs.Walk.{run}
use Rattle.rings.proofs.Counting.{one_here, one_else}
use Rattle.job.specs.Limits as limit
use Rattle.store.specs.Field.{pt, X, Y, NONE}
use Rattle.store.specs.Words.{view}
use Rattle.store.specs.Named.{points_of, records_of, next_of, prev_of, rec_of, owner_of, first_of, flags_of, progress_of, present_of, kept_of, taker_of, ring_of}
use Rattle.store.specs.Reason.{JOINED, is_kept}
use Rattle.job.specs.declared.refusal.Refusal.{Refusal}
use Rattle.job.specs.declared.refusal.Refusal.TheVariants.{Crowded, OffTheTable, NoSuch, Loose, Muddled}
use Rattle.audit.specs.Tests.{is_in, any_below, any_record, crowded, off_table, no_such, loose, names_nothing, no_such_of, misplaced, tests_of, lost_taker, untold}
use Rattle.audit.specs.Marks.{is_marked, mark_from, marks_by, meets, AllMarked, faulty, any_marked, links_of, passes_of}

-- ---- tests that fail, and that do not

pub clash : {A : Type 0} {b : Bool} → b ≡ true → b ≡ false → A
clash e f = absurd (let z : ◌≡◌ {A = ℕ} 0 1 = cc in omega arith)

pub or_parts : (a b : Bool) → (a || b) ≡ false → (a ≡ false) × (b ≡ false)
or_parts false b e = (refl, e)
or_parts true b e = clash refl e

pub or_left : (a b : Bool) → (a || b) ≡ false → a ≡ false
or_left a b e = (or_parts a b e).0

pub or_right : (a b : Bool) → (a || b) ≡ false → b ≡ false
or_right a b e = (or_parts a b e).1

-- ---- the first number below n that fails

module _ (q : ℕ → Bool) where
  pub none : any_below 0 q ≡ false
  unfolding any_below
  none = refl

  pub more : (i : ℕ) (b : Bool) → any_below i q ≡ false → b ≡ q i → b ≡ false → any_below (i + 1) q ≡ false
  unfolding any_below
  more i b h e f = rw (add-one, h, sym e ∙ f)

  pub first : (n i : ℕ) (b : Bool) → i < n → b ≡ q i → b ≡ true → true ≡ any_below n q
  unfolding any_below
  first zero i b h e f = absurd (omega arith)
  first (suc n) i b h e f = go (any_below n q) refl (q n) refl (λ l. first n i b l e f)
    where
      go : (x : Bool) → any_below n q ≡ x → (y : Bool) → q n ≡ y → (i < n → true ≡ any_below n q) → true ≡ (x || y)
      go true a y z r = refl
      go false a true z r = refl
      go false a false z r = absurd (clash (omega (arith, not_it)))
        where
          not_it : i ≢ n
          not_it g = let u : true ≡ false = sym f ∙ e ∙ ap q g ∙ z in let v : ◌≡◌ {A = ℕ} 0 1 = cc in omega arith

          clash : i < n → ⊥
          clash l = let u : true ≡ false = r l ∙ a in let v : ◌≡◌ {A = ℕ} 0 1 = cc in omega arith

  -- c is the count as the code read it
  pub hit : (n c i : ℕ) (b : Bool) → i < c → c ≡ n → b ≡ q i → b ≡ true → true ≡ any_below n q
  hit n c i b h d e f = first n i b (omega arith) e f

  pub whole : (n c i : ℕ) → c ≤ i → c ≡ n → i ≤ n → any_below i q ≡ false → false ≡ any_below n q
  whole n c i h g k e = let d : i ≡ n = omega arith in rw (← d) (sym e)

pub both_yes : (a r x y : Bool) → a ≡ x → a ≡ true → r ≡ y → r ≡ (x && y)
both_yes a r x y e h g = rw (sym e ∙ h) g

pub both_no : (a x y : Bool) → a ≡ x → a ≡ false → false ≡ (x && y)
both_no a x y e h = rw (sym e ∙ h)

pub or_yes : (x y : Bool) → x ≡ true → true ≡ (x || y)
or_yes x y h = rw h

-- ---- marking

pub unmarked : (ms : List ℕ) (k : ℕ) → length ms ≤ k → false ≡ is_marked ms k
unmarked ms k h = rw (get_or-eq_default ms 0 h)

module _ (n : ℕ → ℕ) (m p : ℕ) (ms F : List ℕ) where
  pub mark_out : (k c : ℕ) → c ≡ m → c ≤ p → mark_from k n m ms p ≡ F → ms ≡ F
  unfolding mark_from
  mark_out zero c d h e = e
  mark_out (suc k) c d h e = rw (le-ltb p m (omega arith)) at e

  pub mark_met : (k c : ℕ) → c ≡ m → p < c → get_or ms p 0 ≢ 0 → mark_from k n m ms p ≡ F → ms ≡ F
  unfolding mark_from
  mark_met zero c d l h e = e
  mark_met (suc k) c d l h e = rw (lt-ltb p m (omega arith), ne_eqb (get_or ms p 0) 0 h) at e

  -- j turns left after this one
  pub mark_on : (k j c q : ℕ) → k ≡ j + 1 → c ≡ m → p < c → get_or ms p 0 ≡ 0 → q ≡ n p → mark_from k n m ms p ≡ F → mark_from j n m (set ms p 1) q ≡ F
  unfolding mark_from
  mark_on k j c q z d l h g e = rw g (rw (lt-ltb p m (omega arith), eq-eqb (get_or ms p 0) 0 h) at f)
    where
      f : mark_from (suc j) n m ms p ≡ F
      f = rw (z, add-one) at e

  pub mark_over : (k : ℕ) → k ≤ 0 → mark_from k n m ms p ≡ F → ms ≡ F
  unfolding mark_from
  mark_over zero z e = e
  mark_over (suc k) z e = absurd (omega arith)

module _ (w ms₀ : List ℕ) where
  pub marks_none : ms₀ ≡ marks_by w ms₀ 0
  unfolding marks_by
  marks_none = refl

  pub marks_more : (i a : ℕ) (ms ms' : List ℕ) → ms ≡ marks_by w ms₀ i → a ≡ first_of w i → ms' ≡ mark_from limit.POINTS (next_of w) (points_of w) ms a → ms' ≡ marks_by w ms₀ (i + 1)
  unfolding marks_by
  marks_more i a ms ms' e d g = rw add-one (g ∙ ap (λ (l : List ℕ). mark_from limit.POINTS (next_of w) (points_of w) l a) e ∙ ap (mark_from limit.POINTS (next_of w) (points_of w) (marks_by w ms₀ i)) d)

  pub met_more : (i a : ℕ) (ms : List ℕ) (s b : Bool) → s ≡ any_below i (meets w ms₀) → ms ≡ marks_by w ms₀ i → a ≡ first_of w i → b ≡ is_marked ms a → (s || b) ≡ any_below (i + 1) (meets w ms₀)
  unfolding any_below
  met_more i a ms s b f e d g = rw (add-one, f, g, e, d)

  pub all_marked : (n i : ℕ) (ms : List ℕ) (b : Bool) → n ≤ i → n ≡ records_of w → i ≤ records_of w → ms ≡ marks_by w ms₀ i → b ≡ any_below i (meets w ms₀) → AllMarked w ms₀ ms b
  all_marked n i ms b h g k e f = let d : i ≡ records_of w = omega arith in record { marks = e ∙ ap (marks_by w ms₀) d; shares = f ∙ ap (λ (j : ℕ). any_below j (meets w ms₀)) d }

-- ---- a point, as a round asks

module _ (w : List ℕ) (k m a : ℕ) (em : m ≡ points_of w) (ea : a ≡ next_of w k) where
  pub point_astray : m ≤ a → true ≡ faulty w k
  point_astray h = rw (le-ltb (next_of w k) (points_of w) (omega arith))

  module _ (h : a < m) (n r : ℕ) (en : n ≡ records_of w) (er : r ≡ rec_of w k) where
    named : ltb (next_of w k) (points_of w) ≡ true
    named = lt-ltb (next_of w k) (points_of w) (omega arith)

    pub point_unowned : n ≤ r → true ≡ faulty w k
    point_unowned l = rw (named, le-ltb (rec_of w k) (records_of w) (omega arith))

    module _ (l : r < n) (d : ℕ) (ed : d ≡ prev_of w a) where
      owned : ltb (rec_of w k) (records_of w) ≡ true
      owned = lt-ltb (rec_of w k) (records_of w) (omega arith)

      pub point_loose : d ≢ k → true ≡ faulty w k
      point_loose f = rw (named, owned, ne_eqb (prev_of w (next_of w k)) k (λ z. f (ed ∙ ap (prev_of w) ea ∙ z)))

      module _ (f : d ≡ k) (x : ℕ) (ex : x ≡ view w (pt X) k) where
        tied : eqb (prev_of w (next_of w k)) k ≡ true
        tied = eq-eqb (prev_of w (next_of w k)) k (sym (ed ∙ ap (prev_of w) ea) ∙ f)

        pub point_off : 2 * limit.COORDINATE < x → true ≡ faulty w k
        point_off g = rw (named, owned, tied, lt-ltb (2 * limit.COORDINATE) (view w (pt X) k) (omega arith))

        pub point_else : (y : ℕ) → x ≤ 2 * limit.COORDINATE → y ≡ view w (pt Y) k → ltb (2 * limit.COORDINATE) y ≡ faulty w k
        point_else y g ey = rw (named, owned, tied, le-ltb (2 * limit.COORDINATE) (view w (pt X) k) (omega arith), ey)

-- ---- whether a point is on a ring

module _ (n : ℕ → ℕ) (stop p k : ℕ) (F : Bool) where
  pub ring_here : (f : ℕ) → 0 < f → p ≡ k → is_in k (run n stop f p) ≡ F → true ≡ F
  unfolding run
  ring_here zero z h e = absurd (omega arith)
  ring_here (suc f) z h e =
      sym (lt-ltb 0 (occ k (run n stop (suc f) p)) (omega (arith, subst (λ (x : ℕ). one k x ≡ 1) (sym h) (one_here k)))) ∙ e

  pub ring_back : (f q : ℕ) → 0 < f → p ≢ k → q ≡ n p → q ≡ stop → is_in k (run n stop f p) ≡ F → false ≡ F
  unfolding run
  ring_back zero q z d g h e = absurd (omega arith)
  ring_back (suc f) q z d g h e = rw (eq-eqb (n p) stop (sym g ∙ h), one_else k p d) at e

  -- j turns left after this one
  pub ring_on : (f j q : ℕ) → f ≡ j + 1 → p ≢ k → q ≡ n p → q ≢ stop → is_in k (run n stop f p) ≡ F → is_in k (run n stop j q) ≡ F
  unfolding run
  ring_on f j q z d g h e = rw g (rw (ne_eqb (n p) stop (λ y. h (g ∙ y)), one_else k p d, zero-add) at x)
    where
      x : is_in k (run n stop (suc j) p) ≡ F
      x = rw (z, add-one) at e

  pub ring_over : (f : ℕ) → f ≤ 0 → is_in k (run n stop f p) ≡ F → false ≡ F
  unfolding run
  ring_over zero z e = e
  ring_over (suc f) z e = absurd (omega arith)

-- ---- a ring's progress

module _ (w : List ℕ) (i f : ℕ) (ef : f ≡ first_of w i) where
  pub misplaced_bare : f ≡ NONE → false ≡ misplaced w i
  misplaced_bare h = rw (eq-eqb (first_of w i) NONE (sym ef ∙ h))

  module _ (h : f ≢ NONE) (g : ℕ) (eg : g ≡ flags_of w i) where
    ringed : eqb (first_of w i) NONE ≡ false
    ringed = ne_eqb (first_of w i) NONE (λ z. h (ef ∙ z))

    pub misplaced_open : g % 2 ≡ 1 → false ≡ misplaced w i
    misplaced_open k = rw (ringed, eq-eqb (flags_of w i % 2) 1 (ap (λ (x : ℕ). x % 2) (sym eg) ∙ k))

    module _ (k : g % 2 ≢ 1) (d : ℕ) (ed : d ≡ progress_of w i) where
      shut : eqb (flags_of w i % 2) 1 ≡ false
      shut = ne_eqb (flags_of w i % 2) 1 (λ z. k (ap (λ (x : ℕ). x % 2) eg ∙ z))

      pub misplaced_mark : 4 < d → true ≡ misplaced w i
      misplaced_mark l = rw (ringed, shut, lt-ltb 4 (progress_of w i) (omega arith))

      pub misplaced_done : d ≡ 4 → false ≡ misplaced w i
      misplaced_done e = rw (ringed, shut, ← ed, e)

      pub misplaced_else : (p : ℕ) (b : Bool) → d ≤ 4 → d ≢ 4 → p ≡ present_of w i → b ≡ is_in p (ring_of w f) → not b ≡ misplaced w i
      misplaced_else p b l n ep eb = rw (ringed, shut, le-ltb 4 (progress_of w i) (omega arith), lt-ltb (progress_of w i) 4 (omega arith), eb, ep, ef)

-- ---- the tests together

module _ (w ms : List ℕ) (s a : Bool) (ea : a ≡ (any_marked w ms (no_such w) || (any_record w (no_such_of w) || any_record w (lost_taker w)))) where
  pub says_no_such : a ≡ true → Err NoSuch ≡ links_of w ms s
  unfolding links_of
  says_no_such h = rw (sym ea ∙ h)

  module _ (ha : a ≡ false) (b : Bool) (eb : b ≡ any_marked w ms (loose w)) where
    pub says_loose : b ≡ true → Err Loose ≡ links_of w ms s
    unfolding links_of
    says_loose h = rw (sym ea ∙ ha, sym eb ∙ h)

    module _ (hb : b ≡ false) (d : Bool) (ed : d ≡ (s || (any_record w (misplaced w) || any_record w (untold w)))) where
      pub says_muddled : d ≡ true → Err Muddled ≡ links_of w ms s
      unfolding links_of
      says_muddled h = rw (sym ea ∙ ha, sym eb ∙ hb, sym ed ∙ h)

      pub says_passed : d ≡ false → Ok tt ≡ links_of w ms s
      unfolding links_of
      says_passed h = rw (sym ea ∙ ha, sym eb ∙ hb, sym ed ∙ h)

pub says_off : (w ms : List ℕ) (s a : Bool) → a ≡ any_marked w ms (off_table w) → a ≡ true → Err OffTheTable ≡ passes_of w ms s
says_off w ms s a e h = rw (sym e ∙ h)

pub says_links : (w ms : List ℕ) (s a : Bool) (r : Result (Unit {0}) Refusal) → a ≡ any_marked w ms (off_table w) → a ≡ false → r ≡ links_of w ms s → r ≡ passes_of w ms s
says_links w ms s a r e h g = rw (sym e ∙ h) g

pub says_crowded : (w : List ℕ) (b : Bool) → b ≡ crowded w → b ≡ true → Err Crowded ≡ tests_of w
unfolding tests_of
says_crowded w b e h = rw (sym e ∙ h)

pub says_crowd : (w : List ℕ) (m n : ℕ) → m ≡ points_of w → n ≡ records_of w → (ltb limit.POINTS m || ltb limit.RECORDS n) ≡ crowded w
says_crowd w m n em en = rw (em, en)

-- ---- one test, by what the code read

module _ (w : List ℕ) (k : ℕ) where
  pub says_off_table : (x y : ℕ) → x ≡ view w (pt X) k → y ≡ view w (pt Y) k → (ltb (2 * limit.COORDINATE) x || ltb (2 * limit.COORDINATE) y) ≡ off_table w k
  says_off_table x y ex ey = rw (ex, ey)

  pub says_unnumbered : (m n a b r : ℕ) → m ≡ points_of w → n ≡ records_of w → a ≡ next_of w k → b ≡ prev_of w k → r ≡ rec_of w k → (not (ltb a m) || (not (ltb b m) || not (ltb r n))) ≡ no_such w k
  says_unnumbered m n a b r em en ea eb er = rw (em, en, ea, eb, er)

  pub says_untied : (a b c d : ℕ) → a ≡ next_of w k → b ≡ prev_of w k → c ≡ next_of w b → d ≡ prev_of w a → (not (eqb c k) || not (eqb d k)) ≡ loose w k
  says_untied a b c d ea eb ec ed = rw (ec, ed, ea, eb)

module _ (w : List ℕ) (i : ℕ) where
  pub says_unnamed : (m n o f : ℕ) (a b : Bool) → m ≡ points_of w → n ≡ records_of w → o ≡ owner_of w i → f ≡ first_of w i → a ≡ names_nothing n o → b ≡ names_nothing m f → (a || b) ≡ no_such_of w i
  says_unnamed m n o f a b em en eo ef ea eb = rw (ea, eb, em, en, eo, ef)

  pub says_lost : (n f r t : ℕ) → n ≡ records_of w → f ≡ first_of w i → r ≡ kept_of w i → t ≡ taker_of w i → (eqb f NONE && (eqb r JOINED && not (ltb t n))) ≡ lost_taker w i
  says_lost n f r t en ef er et = rw (en, ef, er, et)

  pub says_untold : (f r : ℕ) → f ≡ first_of w i → r ≡ kept_of w i → (eqb f NONE && not (is_kept r)) ≡ untold w i
  says_untold f r ef er = rw (ef, er)

-- ---- tests beside each other

pub of_two : (a b x y : Bool) → a ≡ x → b ≡ y → (a || b) ≡ (x || y)
of_two a b x y ea eb = rw (ea, eb)

pub of_three : (a b c x y z : Bool) → a ≡ x → b ≡ y → c ≡ z → (a || (b || c)) ≡ (x || (y || z))
of_three a b c x y z ea eb ec = rw (ea, eb, ec)

pub after_none : (s a b x y : Bool) → s ≡ false → a ≡ x → b ≡ y → (a || b) ≡ (s || (x || y))
after_none s a b x y h ea eb = rw (h, ea, eb)
