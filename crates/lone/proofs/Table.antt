-- Independence as one equation: the forest after a list of steps is the table made from the lone rings alone.
use mathlib.Core.Path.{◌≡◌, refl, sym, ap, ◌∙◌}
use mathlib.Core.List.{List, [], ◌∷◌, ◌++◌, map}
use mathlib.Core.Option.{Option, none, some}
use Prim.Native.Nat.{ℕ, zero, suc, ◌+◌, ◌-◌, ◌≤◌, ◌<◌}
use native.Mathlib.Nat.{add-suc, add-zero, zero-add, suc-add, le_of_lt, not-suc-le-zero, le_of_suc-le-suc}
use native.Mathlib.Omega.{arith}
use lib.ListN.{length, take, drop, get_elem?, length-map, drop_of_length-le, get_or-map}
use lib.Seq.{take_all, take-suc, drop-cons, get_or-take, length-take-le, ext_get_or}
use Rattle.lone.specs.Forest.{Machine, Entry, ringless, Fed, naming, enter, at, cut_from, offcuts_of, steps_entry}
use Rattle.lone.specs.Order.{IsOffcut, Alone}
use Rattle.lone.specs.Table.{opened_entries, next_entry, add_offcuts, lone_table}

map_take : {A B : Type 0} (f : A → B) (k : ℕ) (l : List A) → map f (take k l) ≡ take k (map f l)
map_take f zero l = refl
map_take f (suc k) [] = refl
map_take {A} {B} f (suc k) (x ∷ l) = ap (λ (r : List B). f x ∷ r) (map_take f k l)

module _ {S X : Type 0} (M : Machine S) where
  length_opened : (g : ℕ → ℕ) (k : ℕ) (os : List (Fed S X)) → length (opened_entries M g k os) ≡ length os
  length_opened g k [] = refl
  length_opened g k (o ∷ os) = ap suc (length_opened g (suc k) os)

  at_opened : (g : ℕ → ℕ) (k : ℕ) (os : List (Fed S X)) (j : ℕ) → j < length os → at (opened_entries M g k os) j ≡ steps_entry M (g (k + j)) (at (map enter os) j)
  at_opened g k [] j h = absurd (not-suc-le-zero h)
  at_opened g k (o ∷ os) zero h = rw add-zero
  at_opened g k (o ∷ os) (suc j) h = at_opened g (suc k) os j (le_of_suc-le-suc h) ∙ ap (λ (n : ℕ). steps_entry M (g n) (at (map enter os) j)) (suc-add k j ∙ sym (add-suc k j))

  module _ (os : List (Fed S X)) (es : List (Entry S X)) (g : ℕ → ℕ) (a : Alone M os es g) where
    opened_is : opened_entries M g 0 os ≡ take (length os) es
    opened_is = ext_get_or ringless (opened_entries M g 0 os) (take (length os) es) (length_opened g 0 os ∙ sym (length-take-le (length os) es a.longer))
        (λ j h. let h' : j < length os = rw (length_opened g 0 os) at h in at_opened g 0 os j h' ∙ (rw zero-add (sym (a.opened j h'))) ∙ sym (get_or-take (length os) es j ringless h'))

    next_is : (k : ℕ) → length os ≤ k → k < length es → next_entry M g (take k es) (cut_from (at es k)) ≡ at es k
    next_is k h l =
        let c : IsOffcut M es g k = a.offcut k h l in
        let e₁ : length (take k es) ≡ k = length-take-le k es (le_of_lt l) in
        let e₂ : at (take k es) c.from ≡ at es c.from = get_or-take k es c.from ringless c.before in
        let e₃ : get_elem? (offcuts_of (at (take k es) c.from)) (naming c.from (map cut_from (take k es))) ≡ some c.seed = rw (e₂, map_take cut_from k es) c.cut_as in
        rw c.is (rw (e₃, e₁))

    add_is : (m k : ℕ) → k + m ≡ length es → length os ≤ k → add_offcuts M g (take k es) (drop k (map cut_from es)) ≡ es
    add_is zero k e h = rw (drop_of_length-le (map cut_from es) {i = k} (rw (length-map es cut_from) (omega arith))) (take_all k es (omega arith))
    add_is (suc m) k e h =
        let l : k < length es = omega arith in
        let d : drop k (map cut_from es) ≡ cut_from (at es k) ∷ drop (suc k) (map cut_from es) = drop-cons (map cut_from es) k none (rw (length-map es cut_from) l) ∙ ap (λ (q : Option ℕ). q ∷ drop (suc k) (map cut_from es)) (get_or-map cut_from es k ringless) in
        ap (add_offcuts M g (take k es)) d
        ∙ ap (λ (e : Entry S X). add_offcuts M g (take k es ++ (e ∷ [])) (drop (suc k) (map cut_from es))) (next_is k h l)
        ∙ ap (λ (r : List (Entry S X)). add_offcuts M g r (drop (suc k) (map cut_from es))) (sym (take-suc es k ringless l))
        ∙ add_is m (suc k) (omega arith) (omega arith)

    pub table : es ≡ lone_table M os g (drop (length os) (map cut_from es))
    unfolding lone_table
    table = sym (ap (λ (r : List (Entry S X)). add_offcuts M g r (drop (length os) (map cut_from es))) opened_is ∙ go a.longer)
      where
        go : length os ≤ length es → add_offcuts M g (take (length os) es) (drop (length os) (map cut_from es)) ≡ es
        go h = add_is (length es - length os) (length os) (omega arith) (omega arith)
