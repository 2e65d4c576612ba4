-- What the primitives' code leaves: each law's premises are what the callees ensure, and the branches.
use Prim.Native.Nat.{ℕ, ◌+◌, ◌≤◌, ◌<◌}
use mathlib.Core.Path.{◌≡◌, ap, ◌∙◌}
use mathlib.Core.Bool.{Bool, true, false}
use mathlib.Core.List.{List}
use native.Mathlib.Omega.{arith}
use native.Mathlib.Numerals.{add-one}
use lib.Dec.{ltb}
use borrow.Author.Tests.{lt-ltb, le-ltb}
use mir.Syntax.{w32}
use mir.Val.{to_z, of_z}
use mir.Facts.{to_z-of_z}
use Rattle.std.proofs.Common.{Some, None}
use Rattle.job.specs.Limits as limit
use Rattle.geometry.specs.declared.Point.{Point}
use Rattle.geometry.specs.Table.{InTable}
use Rattle.store.specs.Field.{pt, rc, ct, X, Y, Z, REC, FLAGS, OWNER, FIRST, MARK, PRESENT, START, CUT, POINTS}
use Rattle.store.specs.Words.{cell, put, on_words}
use Rattle.store.specs.Named.{points_of, next_of, prev_of}
use Rattle.store.specs.Value.{word_of}
use Rattle.primitives.proofs.Coordinates.{fits}
use Rattle.primitives.specs.Primitive.{taken, point_writes, link_writes, unlink_writes, start_writes, duplicate_op}
use Rattle.primitives.specs.Beside.{disposed, dispose_out_pt}

pub took_point : (w w₁ w₂ w₃ w₄ w₅ : List ℕ) (k vx vy vz r : ℕ) → w₁ ≡ put (ct POINTS) w 0 (k + 1) → w₂ ≡ put (pt X) w₁ k vx → w₃ ≡ put (pt Y) w₂ k vy → w₄ ≡ put (pt Z) w₃ k vz → w₅ ≡ put (pt REC) w₄ k r
    → w₅ ≡ on_words w (point_writes k vx vy vz r)
took_point w w₁ w₂ w₃ w₄ w₅ k vx vy vz r e₁ e₂ e₃ e₄ e₅ = rw (e₅, e₄, e₃, e₂, e₁, add-one k)

pub started : (w w₁ w₂ w₃ w₄ w₅ w₆ w₇ : List ℕ) (k o b i : ℕ) → w₁ ≡ put (rc FLAGS) w k 0 → w₂ ≡ put (rc OWNER) w₁ k o → w₃ ≡ put (rc FIRST) w₂ k b → w₄ ≡ put (rc MARK) w₃ k 0
    → w₅ ≡ put (rc PRESENT) w₄ k b → w₆ ≡ put (rc START) w₅ k b → w₇ ≡ put (rc CUT) w₆ k i → w₇ ≡ on_words w (start_writes k o b i)
started w w₁ w₂ w₃ w₄ w₅ w₆ w₇ k o b i e₁ e₂ e₃ e₄ e₅ e₆ e₇ = rw (e₇, e₆, e₅, e₄, e₃, e₂, e₁)

-- a coordinate comes through its bits
pub new_point : (w w₁ : List ℕ) (k : ℕ) (p : Point) (r vx vy : ℕ) → InTable p → vx ≡ word_of (to_z w32 (of_z w32 p.x)) → vy ≡ word_of (to_z w32 (of_z w32 p.y))
    → w₁ ≡ on_words w (point_writes k vx vy p.z r) → w₁ ≡ on_words w (point_writes k (word_of p.x) (word_of p.y) p.z r)
new_point w w₁ k p r vx vy h ex ey e =
    let dx : vx ≡ word_of p.x = ex ∙ ap word_of (to_z-of_z (fits p.x h.x)) in
    let dy : vy ≡ word_of p.y = ey ∙ ap word_of (to_z-of_z (fits p.y h.y)) in
    rw (← dx, ← dy) e

module _ (w : List ℕ) (k : ℕ) (ek : k ≡ points_of w) where
  room : k < limit.POINTS → ltb (points_of w) limit.POINTS ≡ true
  room l = lt-ltb (points_of w) limit.POINTS (omega arith)

  none_left : limit.POINTS ≤ k → ltb (points_of w) limit.POINTS ≡ false
  none_left l = le-ltb (points_of w) limit.POINTS (omega arith)

  pub no_double : limit.POINTS ≤ k → (op : ℕ) (b : Bool) → taken None w ≡ duplicate_op w op b
  unfolding duplicate_op
  no_double l op b = rw (none_left l)

  module _
      (l : k < limit.POINTS) (w₁ w₂ : List ℕ) (op vx vy vz r : ℕ) (b : Bool) (q : ℕ × ℕ)
      (ex : vx ≡ cell (pt X) w op) (ey : vy ≡ cell (pt Y) w op) (ez : vz ≡ cell (pt Z) w op) (er : r ≡ cell (pt REC) w op)
      (e₁ : w₁ ≡ on_words w (point_writes k vx vy vz r)) (e₂ : w₂ ≡ on_words w₁ (link_writes q.0 k q.1)) where
    pub doubled_after : (n : ℕ) → b ≡ true → n ≡ next_of w op → q ≡ (op, n) → taken (Some k) w₂ ≡ duplicate_op w op b
    unfolding duplicate_op
    doubled_after n h en eq = rw (room l, h, e₂, e₁, eq, en, ex, ey, ez, er, ek)

    pub doubled_before : (p : ℕ) → b ≡ false → p ≡ prev_of w op → q ≡ (p, op) → taken (Some k) w₂ ≡ duplicate_op w op b
    unfolding duplicate_op
    doubled_before p h ep eq = rw (room l, h, e₂, e₁, eq, ep, ex, ey, ez, er, ek)

pub went_out : (w w₁ : List ℕ) (op n p : ℕ) → n ≡ next_of w op → p ≡ prev_of w op → w₁ ≡ on_words w (unlink_writes p n) → disposed n w₁ ≡ dispose_out_pt w op
unfolding dispose_out_pt
went_out w w₁ op n p en ep e = rw (e, en, ep)
