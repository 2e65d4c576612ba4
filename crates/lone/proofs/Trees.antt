-- Two lists of steps that finish everything end in the same rings, up to numbering: the table holds what the lone rings end in, and that is one.
use mathlib.Core.Path.{◌≡◌, refl, sym, ap, ◌∙◌, subst}
use mathlib.Core.List.{List, [], ◌∷◌, map}
use mathlib.Core.Option.{Option, none, some}
use mathlib.Core.Bool.{Bool, true, false, true≢false}
use Prim.Native.Nat.{ℕ, zero, suc, ◌+◌, ◌≤◌, ◌<◌}
use native.Mathlib.Nat.{add-zero, add-suc, suc-add, zero-add}
use native.Mathlib.Omega.{arith}
use native.Mathlib.Decide.{dec_lt}
use lib.ListN.{length, get_or, take, drop, get_elem?, length-map, drop_of_length-le, get_or-map}
use lib.Seq.{take_all, take-suc, drop-cons}
use borrow.Author.Tests.{eqb-true}
use Rattle.rings.proofs.Counting.{sum_by_append}
use Rattle.lone.specs.Forest.{Machine, initial, Entry, ringless, closed_ring, Fed, left_ringless, left_open, left_closed, is_named, names, naming}
use Rattle.lone.specs.Forest.{enter, at, cut_from, offcuts_of, rank, steps_state, steps_entry}
use Rattle.lone.specs.Order.{IsOffcut, Alone, AllDone}
use Rattle.lone.specs.Tree.{Trees, nothing, ended, EndsAs, no_more, and, HoldsTrees, seeds, roots}
use Rattle.lone.specs.Table.{offcuts_from}
use Rattle.lone.proofs.Alone.{at_closed}

drop_here : {A : Type 0} (l : List A) (r : ℕ) (a : A) → get_elem? l r ≡ some a → drop r l ≡ a ∷ drop (suc r) l
drop_here [] r a h = let z : ◌≡◌ {A = ℕ} 0 1 = cc in absurd (omega arith)
drop_here (x ∷ l) zero a h = let e : x ≡ a = cc in ap (λ (y : _). y ∷ l) e
drop_here (x ∷ l) (suc r) a h = drop_here l r a h

-- ---- what the table holds, once all are done

module _ {S X : Type 0} (M : Machine S) (os : List (Fed S X)) (es : List (Entry S X)) (g : ℕ → ℕ) (a : Alone M os es g) (over : AllDone M es) where
  -- record j is a lone machine from this start
  record Branch (j : ℕ) : Type 0 where
    seed : S
    from : Option ℕ
    is : at es j ≡ closed_ring from (steps_state M (g j) (initial seed))
    unfinished : (k : ℕ) → k < g j → M.over (steps_state M k (initial seed)).now ≡ false

  -- what its offcuts end in is what the records that name it hold
  Below : (j : ℕ) → Branch j → Type 0
  Below j b = (ts : Trees S) × EndsAs M (steps_state M (g j) (initial b.seed)).offcuts ts × HoldsTrees es (offcuts_from j 0 (map cut_from es)) ts

  -- the same of the offcuts from record k on
  From : ℕ → ℕ → Type 0
  From j k = (ts : Trees S) × EndsAs M (drop (rank es j k) (offcuts_of (at es j))) ts × HoldsTrees es (offcuts_from j k (drop k (map cut_from es))) ts

  rank_suc : (p k : ℕ) → k < length es → rank es p (suc k) ≡ rank es p k + names p (cut_from (at es k))
  rank_suc p k h = ap (naming p) (take-suc (map cut_from es) k none (rw (length-map es cut_from) h)) ∙ sum_by_append (names p) (take k (map cut_from es)) (get_or (map cut_from es) k none ∷ [])
      ∙ ap (λ (n : ℕ). rank es p k + n) (add-zero (names p (get_or (map cut_from es) k none)) ∙ ap (names p) (get_or-map cut_from es k ringless))

  opened_none : (rs : List (Fed S X)) (n k : ℕ) → cut_from (steps_entry M n (at (map enter rs) k)) ≡ none
  opened_none [] n k = refl
  opened_none (left_ringless ∷ rs) n zero = refl
  opened_none (left_open x ∷ rs) n zero = refl
  opened_none (left_closed s ∷ rs) n zero = refl
  opened_none (o ∷ rs) n (suc k) = opened_none rs n k

  -- a record that names another was cut
  late : (j k : ℕ) → is_named j (cut_from (at es k)) ≡ true → length os ≤ k
  late j k e = go (dec_lt k (length os))
    where
      go : Dec (k < length os) → length os ≤ k
      go (yes h) = let z : cut_from (at es k) ≡ none = ap cut_from (a.opened k h) ∙ opened_none os (g k) k in absurd (true≢false (sym e ∙ ap (is_named j) z))
      go (no h) = omega arith

  branch_of : {k : ℕ} → IsOffcut M es g k → Branch k
  branch_of c = record { seed = c.seed; from = some c.from; is = c.is; unfinished = c.unfinished }

  ends : (k : ℕ) (b : Branch k) → M.over (steps_state M (g k) (initial b.seed)).now ≡ true
  ends k b = rw b.is at (over k)

  none_after : (j k : ℕ) → k ≡ length es → From j k
  unfolding From
  none_after j k e =
      let r : rank es j k ≡ length (offcuts_of (at es j)) = ap (naming j) (take_all k (map cut_from es) (rw (length-map es cut_from) (omega arith))) ∙ a.as_many j in
      let d : drop (rank es j k) (offcuts_of (at es j)) ≡ [] = drop_of_length-le (offcuts_of (at es j)) {i = rank es j k} (omega arith) in
      let d' : drop k (map cut_from es) ≡ [] = drop_of_length-le (map cut_from es) {i = k} (rw (length-map es cut_from) (omega arith)) in
      (nothing, rw d no_more, rw d' no_more)

  step_back : (j k : ℕ) → k < length es → ((k : ℕ) → j < k → (b : Branch k) → Below k b) → From j (suc k) → From j k
  unfolding From Below branch_of
  step_back j k h rec r = go (is_named j (cut_from (at es k))) refl
    where
      d : drop k (map cut_from es) ≡ cut_from (at es k) ∷ drop (suc k) (map cut_from es)
      d = drop-cons (map cut_from es) k none (rw (length-map es cut_from) h) ∙ ap (λ (q : Option ℕ). q ∷ drop (suc k) (map cut_from es)) (get_or-map cut_from es k ringless)

      named : is_named j (cut_from (at es k)) ≡ true → (c : IsOffcut M es g k) → c.from ≡ j
          → (us : Trees S) × EndsAs M (steps_state M (g k) (initial c.seed)).offcuts us × HoldsTrees es (offcuts_from k 0 (map cut_from es)) us
          → (ts : Trees S) × EndsAs M (drop (rank es j k) (offcuts_of (at es j))) ts × HoldsTrees es (offcuts_from j k (drop k (map cut_from es))) ts
      named e c j-is u =
          let n : rank es j (suc k) ≡ suc (rank es j k) = rank_suc j k h ∙ (rw e (omega arith)) in
          let w : drop (rank es j k) (offcuts_of (at es j)) ≡ c.seed ∷ drop (suc (rank es j k)) (offcuts_of (at es j)) = drop_here (offcuts_of (at es j)) (rank es j k) c.seed (subst (λ (p : ℕ). get_elem? (offcuts_of (at es p)) (rank es p k) ≡ some c.seed) j-is c.cut_as) in
          (ended (steps_state M (g k) (initial c.seed)).now u.0 r.0, rw w (and (g k) c.unfinished (ends k (branch_of c)) u.1 (rw n at r.1)), rw d (rw e (and c.is u.2 r.2)))

      go : (b : Bool) → is_named j (cut_from (at es k)) ≡ b → (ts : Trees S) × EndsAs M (drop (rank es j k) (offcuts_of (at es j))) ts × HoldsTrees es (offcuts_from j k (drop k (map cut_from es))) ts
      go false e =
          let n : rank es j k ≡ rank es j (suc k) = sym (rank_suc j k h ∙ (rw e (add-zero (rank es j k)))) in
          (r.0, rw n r.1, rw d (rw e r.2))
      go true e =
          let c : IsOffcut M es g k = a.offcut k (late j k e) h in
          let j-is : c.from ≡ j = eqb-true c.from j (ap (is_named j) (sym (ap cut_from c.is)) ∙ e) in
          named e c j-is (rec k (omega (arith, c.before, j-is)) (branch_of c))

  walk : (j : ℕ) → ((k : ℕ) → j < k → (b : Branch k) → Below k b) → (n k : ℕ) → k + n ≡ length es → From j k
  walk j rec zero k e = none_after j k (omega arith)
  walk j rec (suc n) k e = step_back j k (omega arith) rec (walk j rec n (suc k) (omega arith))

  below : (m j : ℕ) → length es ≤ j + m → (b : Branch j) → Below j b
  unfolding Below From
  below zero j h b = absurd (omega (arith, at_closed es j b.is))
  below (suc m) j h b = let r = walk j (λ k l c. below m k (omega arith) c) (length es) 0 (omega arith) in (r.0, rw (ap offcuts_of b.is) at r.1, r.2)

  -- the rings from record k on that opening left closed
  from_roots : (rs : List (Fed S X)) (k : ℕ) → k + length rs ≡ length os → ((i : ℕ) → at (map enter os) (k + i) ≡ at (map enter rs) i) → (ts : Trees S) × EndsAs M (seeds rs) ts × HoldsTrees es (roots k rs) ts
  unfolding Below
  from_roots [] k e h = (nothing, no_more, no_more)
  from_roots (left_ringless ∷ rs) k e h = from_roots rs (suc k) (omega arith) (λ i. ap (at (map enter os)) (suc-add k i ∙ sym (add-suc k i)) ∙ h (suc i))
  from_roots (left_open x ∷ rs) k e h = from_roots rs (suc k) (omega arith) (λ i. ap (at (map enter os)) (suc-add k i ∙ sym (add-suc k i)) ∙ h (suc i))
  from_roots (left_closed s ∷ rs) k e h = one (from_roots rs (suc k) (omega arith) (λ i. ap (at (map enter os)) (suc-add k i ∙ sym (add-suc k i)) ∙ h (suc i)))
    where
      here : at (map enter os) k ≡ closed_ring none (initial s)
      here = ap (at (map enter os)) (sym (add-zero k)) ∙ h 0

      b : Branch k
      b = record { seed = s; from = none; is = a.opened k (omega arith) ∙ ap (steps_entry M (g k)) here; unfinished = λ m l. (rw here at (a.unfinished k m (omega arith) l)) }

      one : (ts : Trees S) × EndsAs M (seeds rs) ts × HoldsTrees es (roots (suc k) rs) ts → (ts : Trees S) × EndsAs M (s ∷ seeds rs) ts × HoldsTrees es (k ∷ roots (suc k) rs) ts
      one r = let u = below (length es) k (omega arith) b in (ended (steps_state M (g k) (initial s)).now u.0 r.0, and (g k) b.unfinished (ends k b) u.1 r.1, and b.is u.2 r.2)

  -- the table holds what the lone machines end in
  pub holds_end : (ts : Trees S) × EndsAs M (seeds os) ts × HoldsTrees es (roots 0 os) ts
  holds_end = from_roots os 0 (omega arith) (λ i. ap (at (map enter os)) (zero-add i))
