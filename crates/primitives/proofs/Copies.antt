-- "Copies carry z with them": a copy is its point by value.
use Prim.Native.Nat.{ℕ}
use mathlib.Core.Path.{◌≡◌, refl}
use borrow.Author.Tests.{eq-eqb}
use Rattle.store.specs.Words.{Store}
use Rattle.store.specs.Stores.{on_store}
use Rattle.store.specs.Sound.{pts}
use Rattle.store.specs.Value.{point_at}
use Rattle.primitives.specs.Primitive.{after_writes, before_writes}

module _ (s : Store) (op : ℕ) where
  pub copy_after : point_at (on_store s (after_writes s op)) (pts s) ≡ point_at s op
  copy_after = rw (eq-eqb (pts s) (pts s) refl)

  pub copy_before : point_at (on_store s (before_writes s op)) (pts s) ≡ point_at s op
  copy_before = rw (eq-eqb (pts s) (pts s) refl)
