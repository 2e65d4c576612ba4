-- What rows 4 to 6 ask of a point, one after the other.
use Prim.Native.Nat.{ℕ, ◌*◌, ◌≤◌, ◌<◌}
use mathlib.Core.Path.{◌≡◌, ap, ◌∙◌, sym}
use mathlib.Core.Logic.{◌≢◌}
use mathlib.Core.Bool.{Bool, true, false, not, ◌||◌}
use mathlib.Core.List.{List}
use native.Mathlib.Omega.{arith}
use lib.Dec.{eqb, ltb}
use borrow.Author.Tests.{eq-eqb, ne_eqb, lt-ltb, le-ltb}
use Rattle.job.specs.Limits as limit
use Rattle.store.specs.Field.{pt, X, Y}
use Rattle.store.specs.Words.{view}
use Rattle.store.specs.Named.{points_of, records_of, next_of, prev_of, rec_of}
use Rattle.audit.specs.Tests.{no_such, loose}
use Rattle.rows.specs.Found.{faulty_point}

module _ (w : List ℕ) (k x : ℕ) (ex : x ≡ view w (pt X) k) where
  pub off_by_x : 2 * limit.COORDINATE < x → true ≡ faulty_point w k
  off_by_x h = rw (lt-ltb (2 * limit.COORDINATE) (view w (pt X) k) (omega arith))

  module _ (h : x ≤ 2 * limit.COORDINATE) (y : ℕ) (ey : y ≡ view w (pt Y) k) where
    near : ltb (2 * limit.COORDINATE) (view w (pt X) k) ≡ false
    near = le-ltb (2 * limit.COORDINATE) (view w (pt X) k) (omega arith)

    pub off_by_y : 2 * limit.COORDINATE < y → true ≡ faulty_point w k
    off_by_y l = rw (near, lt-ltb (2 * limit.COORDINATE) (view w (pt Y) k) (omega arith))

    pub on_table : (r : Bool) → y ≤ 2 * limit.COORDINATE → r ≡ (no_such w k || loose w k) → r ≡ faulty_point w k
    on_table r l e = rw (near, le-ltb (2 * limit.COORDINATE) (view w (pt Y) k) (omega arith)) e

module _ (w : List ℕ) (k m a : ℕ) (em : m ≡ points_of w) (ea : a ≡ next_of w k) where
  pub no_next : m ≤ a → true ≡ (no_such w k || loose w k)
  no_next h = rw (le-ltb (next_of w k) (points_of w) (omega arith))

  module _ (h : a < m) (b : ℕ) (eb : b ≡ prev_of w k) where
    nexts : ltb (next_of w k) (points_of w) ≡ true
    nexts = lt-ltb (next_of w k) (points_of w) (omega arith)

    pub no_prev : m ≤ b → true ≡ (no_such w k || loose w k)
    no_prev l = rw (nexts, le-ltb (prev_of w k) (points_of w) (omega arith))

    module _ (l : b < m) (n r : ℕ) (en : n ≡ records_of w) (er : r ≡ rec_of w k) where
      prevs : ltb (prev_of w k) (points_of w) ≡ true
      prevs = lt-ltb (prev_of w k) (points_of w) (omega arith)

      pub no_record : n ≤ r → true ≡ (no_such w k || loose w k)
      no_record g = rw (nexts, prevs, le-ltb (rec_of w k) (records_of w) (omega arith))

      pub all_named : (t : Bool) → r < n → t ≡ loose w k → t ≡ (no_such w k || loose w k)
      all_named t g e = rw (nexts, prevs, lt-ltb (rec_of w k) (records_of w) (omega arith)) e

module _ (w : List ℕ) (k a b c : ℕ) (eb : b ≡ prev_of w k) (ec : c ≡ next_of w b) where
  pub loose_prev : c ≢ k → true ≡ loose w k
  loose_prev f = rw (ne_eqb (next_of w (prev_of w k)) k (λ z. f (ec ∙ ap (next_of w) eb ∙ z)))

  pub loose_next : (d : ℕ) → a ≡ next_of w k → c ≡ k → d ≡ prev_of w a → not (eqb d k) ≡ loose w k
  loose_next d ea f ed = rw (eq-eqb (next_of w (prev_of w k)) k (sym (ec ∙ ap (next_of w) eb) ∙ f)) (ap (λ (z : ℕ). not (eqb z k)) (ed ∙ ap (prev_of w) ea))
