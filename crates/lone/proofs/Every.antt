-- A fact of every machine of the forest, through a step.
use mathlib.Core.Path.{◌≡◌, refl}
use mathlib.Core.List.{List, [], ◌∷◌, ◌++◌}
use mathlib.Core.Option.{Option, none, some}
use Prim.Native.Nat.{ℕ, zero, suc}
use lib.ListN.{set}
use Rattle.lone.specs.Forest.{Machine, State, Entry, ringless, open_ring, closed_ring, Forest, new_entry, at, OfClosed, Every, step_state, carry_out}

module _ {S X : Type 0} where
  every_map : (Q Q' : S → Type 0) → ((x : S) → Q x → Q' x) → (e : Entry S X) → OfClosed Q e → OfClosed Q' e
  every_map Q Q' f ringless h = tt
  every_map Q Q' f (open_ring x) h = tt
  every_map Q Q' f (closed_ring q L) h = f L.now h

  every_set : (Q : S → Type 0) (es : List (Entry S X)) (i : ℕ) (e : Entry S X) → Every Q es → OfClosed Q e → Every Q (set es i e)
  every_set Q [] i e a h j = tt
  every_set Q (x ∷ es) zero e a h zero = h
  every_set Q (x ∷ es) zero e a h (suc j) = a (suc j)
  every_set Q (x ∷ es) (suc i) e a h zero = a 0
  every_set Q (x ∷ es) (suc i) e a h (suc j) = every_set Q es i e (λ k. a (suc k)) h j

  every_append : (Q : S → Type 0) (es es' : List (Entry S X)) → Every Q es → Every Q es' → Every Q (es ++ es')
  every_append Q [] es' a b j = b j
  every_append Q (x ∷ es) es' a b zero = a 0
  every_append Q (x ∷ es) es' a b (suc j) = every_append Q es es' (λ k. a (suc k)) b j

  -- Q before the step, Q' after it
  pub every_carry : (M : Machine S) (Q Q' : S → Type 0) (F : Forest S X) (i : ℕ) (q : Option ℕ) (L : State S) → at F.entries i ≡ closed_ring q L → ((x : S) → Q x → Q' x)
      → (Q L.now → Q' (M.next L.now)) → ((y : S) → M.cuts L.now ≡ some y → Q L.now → Q' y) → Every Q F.entries → Every Q' (carry_out M F i q L).entries
  every_carry M Q Q' F i q L h keep next cuts a =
      every_append Q' (set F.entries i (closed_ring q (step_state M L))) (new_entry i (M.cuts L.now)) (every_set Q' F.entries i (closed_ring q (step_state M L)) (λ j. every_map Q Q' keep (at F.entries j) (a j)) (next now)) (new (M.cuts L.now) refl)
    where
      now : Q L.now
      now = rw h at (a i)

      new : (o : Option S) → M.cuts L.now ≡ o → Every Q' (new_entry {X = X} i o)
      new none e j = tt
      new (some y) e zero = cuts y e now
      new (some y) e (suc j) = tt
