-- Opening without boxes: what its answer says of the words, and that they are an opened job's once their boxes are written.
use Prim.Native.Nat.{ℕ, ◌≤◌}
use mathlib.Core.Path.{◌≡◌, ap, ◌∙◌, sym, subst}
use mathlib.Core.List.{List}
use native.Mathlib.Omega.{arith}
use lib.ListN.{length}
use Rattle.std.proofs.Common.{Result, Ok, Err}
use Rattle.job.specs.Limits as limit
use Rattle.job.specs.declared.refusal.Refusal.{Refusal}
use Rattle.store.specs.Field.{ct, RECORDS, BLOCK}
use Rattle.store.specs.Words.{Store}
use Rattle.store.specs.Named.{records_of}
use Rattle.store.specs.Boxes.{all_boxed}
use Rattle.bounds.proofs.Beside.{view_all, length_all}
use Rattle.opening.specs.Open.{end, open_of}
use Rattle.opening.specs.Unboxed.{boxed_end}
use Rattle.opening.specs.After.{AfterOpening}
use Rattle.opening.proofs.Accepted.{after_opening_lem}

module _ (bytes lent w : List ℕ) (a : Result (Unit {0}) Refusal) (e : boxed_end (end a w) ≡ open_of bytes lent) where
  pub unboxed_is : a ≡ Ok tt → open_of bytes lent ≡ end (Ok tt) (all_boxed w)
  unboxed_is h = sym e ∙ ap (λ (o : Result (Unit {0}) Refusal). boxed_end (end o w)) h

  after : a ≡ Ok tt → AfterOpening (all_boxed w)
  after h = after_opening_lem (all_boxed w) bytes lent (unboxed_is h)

  -- the boxes may be written
  pub unboxed_long : a ≡ Ok tt → BLOCK ≤ length w
  unboxed_long h = omega (arith, (after h).ready.long, length_all w)

  pub unboxed_few : a ≡ Ok tt → records_of w ≤ limit.RECORDS
  unboxed_few h = subst (λ (s : Store). s (ct RECORDS) 0 ≤ limit.RECORDS) (view_all w) (after h).ready.resolved.few_records

  -- and then it is opened
  pub boxes_written : (u : List ℕ) → a ≡ Ok tt → u ≡ all_boxed w → end (Ok tt) u ≡ open_of bytes lent
  boxes_written u h f = ap (end (Ok tt)) f ∙ sym (unboxed_is h)

  pub no_boxes : (r : Refusal) → a ≡ Err r → end (Err r) w ≡ open_of bytes lent
  no_boxes r h = sym (ap (λ (o : Result (Unit {0}) Refusal). boxed_end (end o w)) h) ∙ e
