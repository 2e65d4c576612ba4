-- The test that all are done decides it.
use mathlib.Core.Path.{◌≡◌, refl, sym}
use mathlib.Core.Logic.{◌↔◌}
use mathlib.Core.List.{List, [], ◌∷◌}
use mathlib.Core.Bool.{Bool, true, false, ◌&&◌, true≢false}
use Prim.Native.Nat.{ℕ, zero, suc}
use Rattle.lone.specs.Forest.{Machine, Entry, ringless, open_ring, closed_ring, at}
use Rattle.lone.specs.Order.{NoneOrDone, AllDone}
use Rattle.lone.specs.Writing.{is_all_done}

module _ {S X : Type 0} (M : Machine S) where
  all_done : (es : List (Entry S X)) → is_all_done M es ≡ true → AllDone M es
  all_done [] h i = tt
  all_done (ringless ∷ es) h zero = tt
  all_done (ringless ∷ es) h (suc i) = all_done es h i
  all_done (open_ring x ∷ es) h zero = tt
  all_done (open_ring x ∷ es) h (suc i) = all_done es h i
  all_done (closed_ring q L ∷ es) h i = go (M.over L.now) refl h i (all_done es)
    where
      go : (b : Bool) → M.over L.now ≡ b → (b && is_all_done M es) ≡ true → (i : ℕ) → (is_all_done M es ≡ true → AllDone M es) → NoneOrDone M (at (closed_ring q L ∷ es) i)
      go true e h zero rec = e
      go true e h (suc i) rec = rec h i
      go false e h i rec = absurd (true≢false (sym h))

  done_all : (es : List (Entry S X)) → AllDone M es → is_all_done M es ≡ true
  done_all [] a = refl
  done_all (ringless ∷ es) a = done_all es (λ i. a (suc i))
  done_all (open_ring x ∷ es) a = done_all es (λ i. a (suc i))
  done_all (closed_ring q L ∷ es) a = rw (a 0) (done_all es (λ i. a (suc i)))

  pub all_done_is : (es : List (Entry S X)) → (is_all_done M es ≡ true) ↔ AllDone M es
  all_done_is es = (all_done es, done_all es)
