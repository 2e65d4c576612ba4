-- Whether a round meets a point, one turn at a time: what was met, or is on the rest of the walk, is on the ring.
use Prim.Native.Nat.{ℕ, zero, suc, ◌+◌, ◌-◌, ◌<◌, ◌≤◌}
use mathlib.Core.Path.{◌≡◌, refl, sym, ap, ◌∙◌}
use mathlib.Core.Logic.{◌≢◌}
use mathlib.Core.Bool.{Bool, true, false, cond, ◌||◌, or-false}
use mathlib.Core.List.{List, [], ◌∷◌}
use native.Mathlib.Omega.{arith}
use native.Mathlib.Nat.{zero-add}
use native.Mathlib.Numerals.{sub-one}
use lib.Dec.{eqb, ltb}
use borrow.Author.Tests.{eq-eqb, ne_eqb, lt-ltb}
use Rattle.rings.specs.Count.{occ}
use Rattle.rings.specs.Walk.{run}
use Rattle.job.specs.Limits as limit
use Rattle.store.specs.Named.{next_of, ring_of}
use Rattle.bounds.proofs.Walking.{rest}
use Rattle.audit.specs.Tests.{is_in}

in_cons : (k x : ℕ) (l : List ℕ) → is_in k (x ∷ l) ≡ (eqb x k || is_in k l)
in_cons k x l = go (eqb x k)
  where
    go : (b : Bool) → ltb 0 (cond b 1 0 + occ k l) ≡ (b || ltb 0 (occ k l))
    go true = lt-ltb 0 (1 + occ k l) (omega arith)
    go false = rw zero-add

or_assoc : (a b c : Bool) → ((a || b) || c) ≡ (a || (b || c))
or_assoc true b c = refl
or_assoc false b c = refl

module _ (w : List ℕ) (a k : ℕ) where
  pub met_first : (e : Bool) (q : ℕ) → e ≡ eqb a k → q ≡ next_of w a → (e || is_in k (rest (next_of w) a (limit.POINTS - 1) q)) ≡ is_in k (ring_of w a)
  unfolding run
  met_first e q g h = rw (g, h) (sym (in_cons k a (rest (next_of w) a (limit.POINTS - 1) (next_of w a))))

  module _ (e : Bool) (p f : ℕ) where
    pub met_on : (d : Bool) (q : ℕ) → 0 < f → p ≢ a → d ≡ (e || eqb p k) → q ≡ next_of w p → (e || is_in k (rest (next_of w) a f p)) ≡ is_in k (ring_of w a) → (d || is_in k (rest (next_of w) a (f - 1) q)) ≡ is_in k (ring_of w a)
    unfolding run
    met_on d q z n g h i = go f z i
      where
        go : (f : ℕ) → 0 < f → (e || is_in k (rest (next_of w) a f p)) ≡ is_in k (ring_of w a) → (d || is_in k (rest (next_of w) a (f - 1) q)) ≡ is_in k (ring_of w a)
        go zero z i = absurd (omega arith)
        go (suc f) z i =
            rw (sub-one, h, g)
            (or_assoc e (eqb p k) (is_in k (rest (next_of w) a f (next_of w p)))
            ∙ ap (λ (b : Bool). e || b) (sym (in_cons k p (rest (next_of w) a f (next_of w p))))
            ∙ (rw (ne_eqb p a n) at i))

    pub met_over : f ≤ 0 → (e || is_in k (rest (next_of w) a f p)) ≡ is_in k (ring_of w a) → e ≡ is_in k (ring_of w a)
    unfolding run
    met_over z i = go f z i
      where
        none : (x : Bool) → (e || is_in k (cond x [] [])) ≡ e
        none true = or-false e
        none false = or-false e

        go : (f : ℕ) → f ≤ 0 → (e || is_in k (rest (next_of w) a f p)) ≡ is_in k (ring_of w a) → e ≡ is_in k (ring_of w a)
        go zero z i = sym (none (eqb p a)) ∙ i
        go (suc f) z i = absurd (omega arith)

    pub met_back : p ≡ a → (e || is_in k (rest (next_of w) a f p)) ≡ is_in k (ring_of w a) → e ≡ is_in k (ring_of w a)
    met_back h i = sym (or-false e) ∙ (rw (eq-eqb p a h) at i)
