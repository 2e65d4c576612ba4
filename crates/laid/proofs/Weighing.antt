-- A table in which each record is where it would be alone weighs what its trees weigh: every record is on one of them, once.
use mathlib.Core.Path.{◌≡◌, refl, sym, ap, ◌∙◌, subst}
use mathlib.Core.Logic.{◌⊎◌, inl, inr, ◌≢◌}
use mathlib.Core.List.{List, [], ◌∷◌, ◌++◌, map}
use mathlib.Core.Option.{Option, none, some}
use mathlib.Core.Bool.{Bool, true, false, cond, true≢false}
use Prim.Native.Nat.{ℕ, zero, suc, ◌+◌, ◌-◌, ◌≤◌, ◌<◌}
use native.Mathlib.Nat.{add-zero, add-suc, zero-add}
use native.Mathlib.Numerals.{add-one}
use native.Mathlib.Omega.{arith}
use native.Mathlib.Decide.{dec_lt, ℕ_discrete}
use lib.Dec.{eqb, ltb}
use lib.ListN.{length, get_or, length-map, get_or-map, get_or-eq_default}
use borrow.Author.Tests.{eq-eqb, ne_eqb, eqb-true, eqb-false, lt-ltb, le-ltb}
use Rattle.rings.specs.Count.{sum_by, sum_to}
use Rattle.rings.proofs.Counting.{sum_same}
use Rattle.lone.specs.Forest.{Machine, Entry, ringless, open_ring, closed_ring, Fed, left_ringless, left_open, left_closed, is_named, naming, enter, at, cut_from, offcuts_of, steps_entry}
use Rattle.lone.specs.Order.{IsOffcut, Alone}
use Rattle.lone.specs.Tree.{Trees, no_more, and, HoldsTrees, roots}
use Rattle.lone.specs.Table.{offcuts_from}
use Rattle.laid.specs.Trees.{weigh_tree, weigh_entry}
use Rattle.pooling.proofs.Raising.{sum_split, sum_none}

-- ---- sums

sum_first : (n : ℕ) (f : ℕ → ℕ) → sum_to (suc n) f ≡ f 0 + sum_to n (λ i. f (suc i))
sum_first zero f = omega arith
sum_first (suc n) f = omega (arith, sum_first n f)

sum_both : (n : ℕ) (f g : ℕ → ℕ) → sum_to n (λ i. f i + g i) ≡ sum_to n f + sum_to n g
sum_both zero f g = refl
sum_both (suc n) f g = omega (arith, sum_both n f g)

-- a sum with one term only
sum_only : (n k v : ℕ) → k < n → sum_to n (λ i. cond (eqb i k) v 0) ≡ v
sum_only zero k v h = absurd (omega arith)
sum_only (suc n) k v h = go (ℕ_discrete n k) (λ l. sum_only n k v l)
  where
    go : Dec (n ≡ k) → (k < n → sum_to n (λ i. cond (eqb i k) v 0) ≡ v) → sum_to n (λ i. cond (eqb i k) v 0) + cond (eqb n k) v 0 ≡ v
    go (yes e) r = rw (eq-eqb n k e) (omega (arith, sum_none n (λ i. cond (eqb i k) v 0) (λ i l. rw (ne_eqb i k (λ z. omega arith)))))
    go (no d) r = rw (ne_eqb n k d) (omega (arith, r (omega arith)))

module _ {S X : Type 0} (φ : S → ℕ) where
  -- the records of a table that name p
  children_sum : (f : ℕ → ℕ) (p k : ℕ) (es : List (Entry S X)) → sum_by f (offcuts_from p k (map cut_from es)) ≡ sum_to (length es) (λ c. cond (is_named p (cut_from (at es c))) (f (k + c)) 0)
  children_sum f p k [] = refl
  children_sum f p k (e ∷ es) =
      go (is_named p (cut_from e)) (children_sum f p (suc k) es ∙ sum_same (length es) (λ c. cond (is_named p (cut_from (at es c))) (f (k + suc c)) 0) (λ c. cond (is_named p (cut_from (at es c))) (f (suc k + c)) 0)
      (λ c l. ap (λ (n : ℕ). cond (is_named p (cut_from (at es c))) (f n) 0) (omega arith)))
      ∙ sym (sum_first (length es) (λ c. cond (is_named p (cut_from (at (e ∷ es) c))) (f (k + c)) 0))
    where
      go : (b : Bool) → sum_by f (offcuts_from p (suc k) (map cut_from es)) ≡ sum_to (length es) (λ c. cond (is_named p (cut_from (at es c))) (f (k + suc c)) 0)
          → sum_by f (cond b (k ∷ offcuts_from p (suc k) (map cut_from es)) (offcuts_from p (suc k) (map cut_from es))) ≡ cond b (f (k + 0)) 0 + sum_to (length es) (λ c. cond (is_named p (cut_from (at es c))) (f (k + suc c)) 0)
      go true e = rw (add-zero k) (ap (λ (n : ℕ). f k + n) e)
      go false e = e ∙ sym (zero-add _)

  weight_sum : (es : List (Entry S X)) → sum_by (weigh_entry φ) es ≡ sum_to (length es) (λ j. weigh_entry φ (at es j))
  weight_sum [] = refl
  weight_sum (e ∷ es) = ap (λ (n : ℕ). weigh_entry φ e + n) (weight_sum es) ∙ sym (sum_first (length es) (λ j. weigh_entry φ (at (e ∷ es) j)))

module _ {S X : Type 0} (φ : S → ℕ) (es : List (Entry S X)) (later : (p c : ℕ) → is_named p (cut_from (at es c)) ≡ true → p < c) where
  abbrev N : ℕ
  N = length es

  -- what record j and all that was cut off it weigh; with fuel, of which N is enough
  weigh : ℕ → ℕ → ℕ
  weigh zero j = 0
  weigh (suc n) j = weigh_entry φ (at es j) + sum_to N (λ c. cond (is_named j (cut_from (at es c))) (weigh n c) 0)

  stable : (n j : ℕ) → N ≤ j + n → weigh (suc n) j ≡ weigh n j
  unfolding weigh
  stable zero j h =
      omega (arith, ap (weigh_entry φ) (get_or-eq_default es ringless {n = j} (omega arith)), sum_none N (λ c. cond (is_named j (cut_from (at es c))) 0 0) (λ c l. flat (is_named j (cut_from (at es c)))))
    where
      flat : (b : Bool) → ◌≡◌ {A = ℕ} (cond b 0 0) 0
      flat true = refl
      flat false = refl
  stable (suc n) j h =
      ap (λ (m : ℕ). weigh_entry φ (at es j) + m) (sum_same N (λ c. cond (is_named j (cut_from (at es c))) (weigh n c) 0) (λ c. cond (is_named j (cut_from (at es c))) (weigh (suc n) c) 0)
      (λ c l. go c (is_named j (cut_from (at es c))) refl (λ k. stable n c k)))
    where
      go : (c : ℕ) (b : Bool) → is_named j (cut_from (at es c)) ≡ b → (N ≤ c + n → weigh (suc n) c ≡ weigh n c) → cond b (weigh (suc n) c) 0 ≡ cond b (weigh n c) 0
      go c true e r = r (omega (arith, later j c e))
      go c false e r = refl

  abbrev whole : ℕ → ℕ
  whole j = weigh N j

  -- of record j: what was cut off it
  abbrev child : ℕ → ℕ → ℕ
  child k j = cond (is_named k (cut_from (at es j))) (whole j) 0

  whole_is : (j : ℕ) → whole j ≡ weigh_entry φ (at es j) + sum_to N (child j)
  unfolding weigh
  whole_is j = sym (stable N j (omega arith))

  -- the records from k on that were cut from none, or from one before k
  before : ℕ → Option ℕ → Bool
  before k none = true
  before k (some p) = ltb p k

  abbrev front : ℕ → ℕ → ℕ
  front k j = cond (ltb j k) 0 (cond (before k (cut_from (at es j))) (whole j) 0)

  front_step : (k j : ℕ) → front (suc k) j + cond (eqb j k) (whole k) 0 ≡ front k j + child k j
  unfolding before
  front_step k j = go (cut_from (at es j)) (λ p e. later p j e) (dec_lt j k) (ℕ_discrete j k)
    where
      go : (q : Option ℕ) → ((p : ℕ) → is_named p q ≡ true → p < j) → Dec (j < k) → Dec (j ≡ k)
          → cond (ltb j (suc k)) 0 (cond (before (suc k) q) (whole j) 0) + cond (eqb j k) (whole k) 0 ≡ cond (ltb j k) 0 (cond (before k q) (whole j) 0) + cond (is_named k q) (whole j) 0
      go q h (yes l) (yes e) = absurd (omega arith)
      go none h (yes l) (no d) = rw (lt-ltb j (suc k) (omega arith), lt-ltb j k l, ne_eqb j k d)
      go (some p) h (yes l) (no d) = rw (lt-ltb j (suc k) (omega arith), lt-ltb j k l, ne_eqb j k d, ne_eqb p k (λ z. omega (arith, h p (eq-eqb p p refl))))
      go none h (no l) (yes e) = rw (lt-ltb j (suc k) (omega arith), le-ltb j k (omega arith), eq-eqb j k e) (zero-add (whole k) ∙ ap whole (sym e) ∙ sym (add-zero (whole j)))
      go (some p) h (no l) (yes e) =
          rw (lt-ltb j (suc k) (omega arith), le-ltb j k (omega arith), eq-eqb j k e, lt-ltb p k (omega (arith, h p (eq-eqb p p refl))), ne_eqb p k (λ z. omega (arith, h p (eq-eqb p p refl)))) (zero-add (whole k) ∙ ap whole (sym e) ∙ sym (add-zero (whole j)))
      go none h (no l) (no d) = rw (le-ltb j (suc k) (omega arith), le-ltb j k (omega arith), ne_eqb j k d)
      go (some p) h (no l) (no d) = rw (le-ltb j (suc k) (omega arith), le-ltb j k (omega arith), ne_eqb j k d) (some_step p (dec_lt p k) (ℕ_discrete p k))
        where
          some_step : (p : ℕ) → Dec (p < k) → Dec (p ≡ k) → cond (ltb p (suc k)) (whole j) 0 + 0 ≡ cond (ltb p k) (whole j) 0 + cond (eqb p k) (whole j) 0
          some_step p (yes m) (yes e) = absurd (omega arith)
          some_step p (yes m) (no e) = rw (lt-ltb p (suc k) (omega arith), lt-ltb p k m, ne_eqb p k e)
          some_step p (no m) (yes e) = rw (lt-ltb p (suc k) (omega arith), le-ltb p k (omega arith), eq-eqb p k e) (add-zero (whole j) ∙ sym (zero-add (whole j)))
          some_step p (no m) (no e) = rw (le-ltb p (suc k) (omega arith), le-ltb p k (omega arith), ne_eqb p k e)

  weight_step : (k : ℕ) → k < N → sum_to N (front k) ≡ weigh_entry φ (at es k) + sum_to N (front (suc k))
  weight_step k l =
      omega (
        arith,
        sym (sum_both N (front (suc k)) (λ j. cond (eqb j k) (whole k) 0)) ∙ sum_same N (λ j. front k j + child k j) (λ j. front (suc k) j + cond (eqb j k) (whole k) 0) (λ j h. front_step k j) ∙ sum_both N (front k) (child k),
        sum_only N k (whole k) l,
        whole_is k,
      )

  weight_to : (k : ℕ) → k ≤ N → sum_to N (front 0) ≡ sum_to k (λ j. weigh_entry φ (at es j)) + sum_to N (front k)
  weight_to zero h = sym (zero-add (sum_to N (front 0)))
  weight_to (suc k) h = omega (arith, weight_to k (omega arith), weight_step k (omega arith))

  -- all records weigh what those that were cut from none do, each with all that was cut off it
  all_weight : sum_by (weigh_entry φ) es ≡ sum_to N (front 0)
  all_weight =
      weight_sum φ es ∙ sym (weight_to N (omega arith) ∙ ap (λ (n : ℕ). sum_to N (λ j. weigh_entry φ (at es j)) + n) (sum_none N (front N) (λ j l. rw (lt-ltb j N l))) ∙ add-zero (sum_to N (λ j. weigh_entry φ (at es j))))

  held_weight : {js : List ℕ} {ts : Trees S} → HoldsTrees es js ts → sum_by whole js ≡ weigh_tree φ ts
  held_weight no_more = refl
  held_weight (and {j = j} {js = js} {L = L} {ts = ts} {us = us} e h k) =
      omega (
        arith,
        whole_is j,
        ap (weigh_entry φ) e,
        children_sum φ whole j 0 es ∙ sum_same N (child j) (λ c. cond (is_named j (cut_from (at es c))) (whole (0 + c)) 0) (λ c l. ap (λ (n : ℕ). cond (is_named j (cut_from (at es c))) (whole n) 0) (zero-add c)),
        held_weight h,
        held_weight k,
      )

-- ---- each record where it would be alone

abbrev NotClosed : {S X : Type 0} → Entry S X → Type 0
NotClosed ringless = Unit {0}
NotClosed (open_ring x) = Unit {0}
NotClosed (closed_ring q L) = ⊥

module _ {S X : Type 0} where
  roots_sum : (f : ℕ → ℕ) (k : ℕ) (os : List (Fed S X)) → ((i : ℕ) → i < length os → NotClosed (at (map enter os) i) → f (k + i) ≡ 0) → sum_by f (roots k os) ≡ sum_to (length os) (λ i. f (k + i))
  roots_sum f k [] h = refl
  roots_sum f k (o ∷ os) h = go o (h 0 (omega arith)) ∙ ap (λ (n : ℕ). f (k + 0) + n) (roots_sum f (suc k) os (λ i l c. ap f (omega arith) ∙ h (suc i) (omega arith) c) ∙ shift) ∙ sym (sum_first (length os) (λ i. f (k + i)))
    where
      shift : sum_to (length os) (λ i. f (suc k + i)) ≡ sum_to (length os) (λ i. f (k + suc i))
      shift = sum_same (length os) (λ i. f (k + suc i)) (λ i. f (suc k + i)) (λ i l. ap f (omega arith))

      go : (o : Fed S X) → (NotClosed (enter o) → f (k + 0) ≡ 0) → sum_by f (roots k (o ∷ os)) ≡ f (k + 0) + sum_by f (roots (suc k) os)
      go left_ringless z = omega (arith, z tt)
      go (left_open x) z = omega (arith, z tt)
      go (left_closed s) z = ap (λ (n : ℕ). f n + sum_by f (roots (suc k) os)) (sym (add-zero k))

  opened_none : (M : Machine S) (rs : List (Fed S X)) (n k : ℕ) → cut_from (steps_entry M n (at (map enter rs) k)) ≡ none
  opened_none M [] n k = refl
  opened_none M (left_ringless ∷ rs) n zero = refl
  opened_none M (left_open x ∷ rs) n zero = refl
  opened_none M (left_closed s ∷ rs) n zero = refl
  opened_none M (o ∷ rs) n (suc k) = opened_none M rs n k

  unnamed : (p : ℕ) (es : List (Entry S X)) → naming p (map cut_from es) ≡ 0 → (c : ℕ) → is_named p (cut_from (at es c)) ≡ false
  unnamed p [] h c = refl
  unnamed p (e ∷ es) h zero = go (is_named p (cut_from e)) refl
    where
      go : (b : Bool) → is_named p (cut_from e) ≡ b → is_named p (cut_from e) ≡ false
      go true d = absurd (omega (arith, ap {B = ℕ} (λ (b : Bool). cond b 1 0) d))
      go false d = d
  unnamed p (e ∷ es) h (suc c) = unnamed p es (omega arith) c

module _ {S X : Type 0} (M : Machine S) (φ : S → ℕ) (os : List (Fed S X)) (es : List (Entry S X)) (g : ℕ → ℕ) (a : Alone M os es g) where
  later : (p c : ℕ) → is_named p (cut_from (at es c)) ≡ true → p < c
  later p c e = go (dec_lt c (length os)) (dec_lt c (length es))
    where
      never : cut_from (at es c) ≡ none → p < c
      never z = absurd (true≢false (sym e ∙ ap (is_named p) z))

      cut : IsOffcut M es g c → p < c
      cut o = let z : o.from ≡ p = eqb-true o.from p (ap (is_named p) (sym (ap cut_from o.is)) ∙ e) in omega (arith, o.before, z)

      go : Dec (c < length os) → Dec (c < length es) → p < c
      go (yes l) d = never (ap cut_from (a.opened c l) ∙ opened_none M os (g c) c)
      go (no l) (yes m) = cut (a.offcut c (omega arith) m)
      go (no l) (no m) = never (ap cut_from (get_or-eq_default es ringless {n = c} (omega arith)))

  top : ℕ → ℕ
  top j = whole φ es later j

  bare_none : (j : ℕ) → NotClosed (at es j) → top j ≡ 0
  unfolding top
  bare_none j n =
      omega (arith, whole_is φ es later j, (bare (at es j) n).0, sum_none (length es) (child φ es later j) (λ c l. rw (unnamed j es (a.as_many j ∙ (bare (at es j) n).1) c)))
    where
      bare : (e : Entry S X) → NotClosed e → (weigh_entry φ e ≡ 0) × (length (offcuts_of e) ≡ 0)
      bare ringless h = (refl, refl)
      bare (open_ring x) h = (refl, refl)
      bare (closed_ring q L) h = absurd h

  still_bare : (e : Entry S X) (n : ℕ) → NotClosed e → NotClosed (steps_entry M n e)
  still_bare ringless n h = tt
  still_bare (open_ring x) n h = tt
  still_bare (closed_ring q L) n h = h

  front_is : (j : ℕ) → j < length os → front φ es later 0 j ≡ top j
  unfolding top before
  front_is j l = rw (le-ltb j 0 (omega arith), ap cut_from (a.opened j l) ∙ opened_none M os (g j) j)

  front_none : (j : ℕ) → length os ≤ j → j < length es → front φ es later 0 j ≡ 0
  unfolding before
  front_none j l m = let o : IsOffcut M es g j = a.offcut j l m in rw (le-ltb j 0 (omega arith), ap cut_from o.is, le-ltb o.from 0 (omega arith))

  -- the table weighs what its trees weigh
  pub table_weight : (ts : Trees S) → HoldsTrees es (roots 0 os) ts → sum_by (weigh_entry φ) es ≡ weigh_tree φ ts
  unfolding top
  table_weight ts h =
      let n : ℕ = length os in
      let m : ℕ = length es - n in
      let e : length es ≡ n + m = omega (arith, a.longer) in
      all_weight φ es later
      ∙ ap (λ (k : ℕ). sum_to k (front φ es later 0)) e
      ∙ sum_split n m (front φ es later 0)
      ∙ ap (λ (k : ℕ). sum_to n (front φ es later 0) + k) (sum_none m (λ i. front φ es later 0 (n + i)) (λ i l. front_none (n + i) (omega arith) (omega (arith, a.longer))))
      ∙ add-zero (sum_to n (front φ es later 0))
      ∙ sum_same n (λ i. top (0 + i)) (front φ es later 0) (λ i l. front_is i l ∙ ap top (sym (zero-add i)))
      ∙ sym (roots_sum top 0 os (λ i l c. ap top (zero-add i) ∙ bare_none i (subst NotClosed (sym (a.opened i l)) (still_bare (at (map enter os) i) (g i) c))))
      ∙ held_weight φ es later h
