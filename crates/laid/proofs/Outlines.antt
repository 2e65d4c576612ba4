-- The outlines of two drawings in one table are those of each: the closed ones up to their order, the open ones one after the other.
use mathlib.Core.Path.{◌≡◌, refl, sym, ap, ◌∙◌, subst}
use mathlib.Core.List.{List, [], ◌∷◌, ◌++◌, map, map-append, append-nil, append_assoc}
use mathlib.Core.Option.{Option, none, some}
use mathlib.Core.Bool.{Bool, true}
use Prim.Native.Nat.{ℕ, zero, suc, ◌+◌, ◌≤◌, ◌<◌}
use native.Mathlib.Nat.{add-zero, add-suc, zero-add, suc-add, add_assoc}
use native.Mathlib.Omega.{arith}
use native.Mathlib.Decide.{dec_lt}
use lib.ListN.{length, length-map, get_or-eq_default}
use Rattle.rings.specs.Count.{sum_by}
use Rattle.rings.specs.Progress.{Ring}
use Rattle.rings.proofs.Counting.{sum_by_append}
use Rattle.lone.specs.Forest.{Machine, to_list, Entry, ringless, open_ring, closed_ring, Fed, left_ringless, left_open, left_closed, enter, at, steps_entry}
use Rattle.lone.specs.Lone.{Geo}
use Rattle.lone.specs.Order.{Alone}
use Rattle.lone.specs.Path.{build_path64_from_outpt, outline}
use Rattle.lone.specs.Tree.{Trees, nothing, ended, no_more, and, HoldsTrees, roots}
use Rattle.lone.specs.Writing.{closed_paths, open_paths}
use Rattle.laid.specs.Trees.{EachOwn, weigh_tree, weigh_entry}
use Rattle.laid.proofs.Weighing.{table_weight}

-- ---- trees one after the other

abbrev and_then : {S : Type 0} → Trees S → Trees S → Trees S
and_then nothing us = us
and_then (ended x ts us) vs = ended x ts (and_then us vs)

module _ {S : Type 0} (φ : S → ℕ) where
  weigh_both : (ts us : Trees S) → weigh_tree φ (and_then ts us) ≡ weigh_tree φ ts + weigh_tree φ us
  weigh_both nothing us = sym (zero-add (weigh_tree φ us))
  weigh_both (ended x ts ts') us = omega (arith, weigh_both ts' us)

module _ {S X : Type 0} where
  holds_both : {es : List (Entry S X)} {js ks : List ℕ} {ts us : Trees S} → HoldsTrees es js ts → HoldsTrees es ks us → HoldsTrees es (js ++ ks) (and_then ts us)
  holds_both no_more k = k
  holds_both (and e h g) k = and e h (holds_both g k)

  roots_both : (k : ℕ) (os ps : List (Fed S X)) → roots k (os ++ ps) ≡ roots k os ++ roots (k + length os) ps
  roots_both k [] ps = rw (add-zero k)
  roots_both k (left_ringless ∷ os) ps = roots_both (suc k) os ps ∙ ap (λ (n : ℕ). roots (suc k) os ++ roots n ps) (omega arith)
  roots_both k (left_open x ∷ os) ps = roots_both (suc k) os ps ∙ ap (λ (n : ℕ). roots (suc k) os ++ roots n ps) (omega arith)
  roots_both k (left_closed s ∷ os) ps = ap (λ (l : List ℕ). k ∷ l) (roots_both (suc k) os ps ∙ ap (λ (n : ℕ). roots (suc k) os ++ roots n ps) (omega arith))

-- ---- any weight of the rings

module _ {S X : Type 0} (M : Machine S) (os ps : List (Fed S X)) (es fs gs : List (Entry S X)) (g g₁ g₂ : ℕ → ℕ) where
  pub own_weight : Alone M (os ++ ps) es g → Alone M os fs g₁ → Alone M ps gs g₂ → EachOwn os ps es fs gs → (φ : S → ℕ) → sum_by (weigh_entry φ) es ≡ sum_by (weigh_entry φ) fs + sum_by (weigh_entry φ) gs
  own_weight a b c o φ =
      let h : HoldsTrees es (roots 0 (os ++ ps)) (and_then o.ts o.us) = subst (λ (js : List ℕ). HoldsTrees es js (and_then o.ts o.us)) (sym (roots_both 0 os ps ∙ ap (λ (n : ℕ). roots 0 os ++ roots n ps) (zero-add (length os)))) (holds_both o.first_held o.second_held) in
      omega (
        arith,
        table_weight M φ (os ++ ps) es g a (and_then o.ts o.us) h,
        weigh_both φ o.ts o.us,
        table_weight M φ os fs g₁ b o.ts o.first_own,
        table_weight M φ ps gs g₂ c o.us o.second_own,
      )

-- ---- the closed paths, by any weight of a path

module _ {P : Type 0} (G : Geo P) (rev : Bool) where
  closed_weight : {X : Type 0} (f : List P → ℕ) (es : List (Entry (Ring P) X)) → sum_by f (closed_paths G rev es) ≡ sum_by (weigh_entry (λ (R : Ring P). sum_by f (to_list (outline G rev R)))) es
  closed_weight f [] = refl
  closed_weight f (ringless ∷ es) = closed_weight f es ∙ sym (zero-add _)
  closed_weight f (open_ring x ∷ es) = closed_weight f es ∙ sym (zero-add _)
  closed_weight f (closed_ring q L ∷ es) = sum_by_append f (to_list (outline G rev L.now)) (closed_paths G rev es) ∙ ap (λ (n : ℕ). sum_by f (to_list (outline G rev L.now)) + n) (closed_weight f es)

  pub own_closed : {X : Type 0} (M : Machine (Ring P)) (os ps : List (Fed (Ring P) X)) (es fs gs : List (Entry (Ring P) X)) (g g₁ g₂ : ℕ → ℕ) → Alone M (os ++ ps) es g → Alone M os fs g₁ → Alone M ps gs g₂ → EachOwn os ps es fs gs
      → (f : List P → ℕ) → sum_by f (closed_paths G rev es) ≡ sum_by f (closed_paths G rev fs) + sum_by f (closed_paths G rev gs)
  own_closed M os ps es fs gs g g₁ g₂ a b c o f =
      omega (arith, closed_weight f es, closed_weight f fs, closed_weight f gs, own_weight M os ps es fs gs g g₁ g₂ a b c o (λ (R : Ring P). sum_by f (to_list (outline G rev R))))

  -- ---- the open paths

  open_of : Entry (Ring P) (List P) → List (List P)
  open_of ringless = []
  open_of (open_ring c) = to_list (build_path64_from_outpt G rev true c)
  open_of (closed_ring q L) = []

  open_head : (e : Entry (Ring P) (List P)) (es : List (Entry (Ring P) (List P))) → open_paths G rev (e ∷ es) ≡ open_of e ++ open_paths G rev es
  unfolding open_of
  open_head ringless es = refl
  open_head (open_ring c) es = refl
  open_head (closed_ring q L) es = refl

  open_same : (es fs : List (Entry (Ring P) (List P))) → ((j : ℕ) → open_of (at es j) ≡ open_of (at fs j)) → open_paths G rev es ≡ open_paths G rev fs
  unfolding open_of
  open_same [] [] h = refl
  open_same [] (f ∷ fs) h = open_same [] fs (λ j. h (suc j)) ∙ ap (λ (l : List (List P)). l ++ open_paths G rev fs) (h 0) ∙ sym (open_head f fs)
  open_same (e ∷ es) [] h = open_head e es ∙ ap (λ (l : List (List P)). l ++ open_paths G rev es) (h 0) ∙ open_same es [] (λ j. h (suc j))
  open_same (e ∷ es) (f ∷ fs) h = open_head e es ∙ ap (λ (l : List (List P)). l ++ open_paths G rev es) (h 0) ∙ ap (λ (l : List (List P)). open_of f ++ l) (open_same es fs (λ j. h (suc j))) ∙ sym (open_head f fs)

  module _ (M : Machine (Ring P)) (os : List (Fed (Ring P) (List P))) (es : List (Entry (Ring P) (List P))) (g : ℕ → ℕ) (a : Alone M os es g) where
    open_stays : (n : ℕ) (e : Entry (Ring P) (List P)) → open_of (steps_entry M n e) ≡ open_of e
    unfolding open_of
    open_stays n ringless = refl
    open_stays n (open_ring c) = refl
    open_stays n (closed_ring q L) = refl

    open_given : open_paths G rev es ≡ open_paths G rev (map enter os)
    unfolding open_of
    open_given = open_same es (map enter os) (λ j. go j (dec_lt j (length os)) (dec_lt j (length es)))
      where
        past : (j : ℕ) → length os ≤ j → at (map enter os) j ≡ ringless
        past j l = get_or-eq_default (map enter os) ringless {n = j} (omega (arith, length-map os enter))

        go : (j : ℕ) → Dec (j < length os) → Dec (j < length es) → open_of (at es j) ≡ open_of (at (map enter os) j)
        go j (yes l) d = ap open_of (a.opened j l) ∙ open_stays (g j) (at (map enter os) j)
        go j (no l) (yes m) = ap open_of (a.offcut j (omega arith) m).is ∙ sym (ap open_of (past j (omega arith)))
        go j (no l) (no m) = ap open_of (get_or-eq_default es ringless {n = j} (omega arith)) ∙ sym (ap open_of (past j (omega arith)))

  open_append : (es fs : List (Entry (Ring P) (List P))) → open_paths G rev (es ++ fs) ≡ open_paths G rev es ++ open_paths G rev fs
  open_append [] fs = refl
  open_append (e ∷ es) fs = open_head e (es ++ fs) ∙ ap (λ (l : List (List P)). open_of e ++ l) (open_append es fs) ∙ sym (append_assoc (open_of e) (open_paths G rev es) (open_paths G rev fs)) ∙ ap (λ (l : List (List P)). l ++ open_paths G rev fs) (sym (open_head e es))

  pub own_open : (M : Machine (Ring P)) (os ps : List (Fed (Ring P) (List P))) (es fs gs : List (Entry (Ring P) (List P))) (g g₁ g₂ : ℕ → ℕ) → Alone M (os ++ ps) es g → Alone M os fs g₁ → Alone M ps gs g₂
      → open_paths G rev es ≡ open_paths G rev fs ++ open_paths G rev gs
  own_open M os ps es fs gs g g₁ g₂ a b c =
      open_given M (os ++ ps) es g a
      ∙ ap (open_paths G rev) (map-append enter os ps)
      ∙ open_append (map enter os) (map enter ps)
      ∙ ap (λ (l : List (List P)). l ++ open_paths G rev (map enter ps)) (sym (open_given M os fs g₁ b))
      ∙ ap (λ (l : List (List P)). open_paths G rev fs ++ l) (sym (open_given M ps gs g₂ c))
