-- Every sound store is in step with its own forest.
use Prim.Native.Nat.{ℕ}
use mathlib.Core.Path.{◌≡◌, refl, ap, ◌∙◌, sym, subst}
use mathlib.Core.Bool.{Bool, true, false, cond}
use mathlib.Core.List.{map}
use mathlib.Core.Option.{none, some}
use native.Mathlib.Nat.{zero-add}
use lib.Dec.{eqb}
use borrow.Author.Tests.{eqb-true}
use Rattle.rings.proofs.Counting.{length_table, at_table}
use Rattle.rings.specs.Progress.{map_ring}
use Rattle.lone.specs.Forest.{initial, open_ring, closed_ring}
use Rattle.lone.specs.Forest as forest
use Rattle.store.specs.Field.{rc, CUT, NONE}
use Rattle.store.specs.Sound.{recs, ringless, ring_at, is_open, lone_at}
use Rattle.store.specs.Good.{Sound}
use Rattle.store.specs.Words.{Store}
use Rattle.acts.specs.InStep.{or_none, Holds, no_ring, an_open, a_closed, InStep}
use Rattle.acts.specs.Value.{value}
use Rattle.order.specs.Demand3.{named}
use Rattle.altered.specs.OwnForest.{entry_of, forest_of}

module _ {P : Type 0} (of : ℕ → ℕ → ℕ → P) (s : Store) where
  held : (i : ℕ) → Holds of s i (entry_of of s i)
  held i = go (ringless s i) (is_open s i) refl refl
    where
      names : (n : ℕ) → n ≡ or_none (named n)
      names n = by (eqb n NONE) refl
        where
          by : (b : Bool) → eqb n NONE ≡ b → n ≡ or_none (cond b none (some n))
          by true e = eqb-true n NONE e
          by false e = refl

      go : (a b : Bool) → ringless s i ≡ a → is_open s i ≡ b
          → Holds of s i (cond a forest.ringless (cond b (open_ring (map (value of s) (ring_at s i))) (closed_ring (named (s (rc CUT) i)) (initial (map_ring (value of s) (lone_at s i))))))
      go true b e g = no_ring e
      go false true e g = an_open (map (value of s) (ring_at s i)) g refl
      go false false e g = a_closed (named (s (rc CUT) i)) (initial (map_ring (value of s) (lone_at s i))) g (names (s (rc CUT) i)) refl

  pub own_forest : Sound s → InStep of s (forest_of of s)
  own_forest o =
      record {
        sound = o;
        points_are = refl;
        records_are = length_table (entry_of of s) 0 (recs s);
        holds = λ i l. subst (Holds of s i) (sym (at_table (entry_of of s) forest.ringless 0 (recs s) i l ∙ ap (entry_of of s) (zero-add i))) (held i);
      }
