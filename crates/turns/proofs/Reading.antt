-- What reading a ring comes to: the next and the point before are on it, a point's value is in the table, a mark is its step due.
use Prim.Native.Nat.{ℕ, zero, suc, ◌≤◌, ◌<◌}
use mathlib.Core.Path.{◌≡◌, refl, ap, ◌∙◌, sym, subst}
use mathlib.Core.Logic.{◌≢◌}
use mathlib.Core.List.{List, ◌∷◌}
use native.Mathlib.Omega.{arith}
use lib.ListN.{length}
use Rattle.rings.specs.Circle.{last_of, back, init_of, spin}
use Rattle.rings.specs.Count.{occ}
use Rattle.rings.specs.Whole.{Whole}
use Rattle.rings.specs.Progress.{validity, removal, triangle, split, done}
use Rattle.rings.proofs.Circles.{turn_back, spin_round, length_init_of}
use Rattle.rings.proofs.Counting.{occ_head, occ_turn, occ_last}
use Rattle.rings.proofs.Linking.{prev_is}
use Rattle.rings.proofs.Walking.{ring_is, whole_spin}
use Rattle.geometry.specs.declared.Point.{Point}
use Rattle.store.specs.Field.{pt, rc, X, Y, NEXT, PREV, MARK, BLOCK}
use Rattle.store.specs.Words.{view, cell}
use Rattle.store.specs.Sound.{pts, due_of, due_at}
use Rattle.store.specs.Good.{PointIn}
use Rattle.store.specs.Value.{point_of}
use Rattle.store.specs.Named.{next_of, prev_of, points_of, ring_of}
use Rattle.walks.specs.Ring.{OnRing}
use Rattle.walks.proofs.Visiting.{Split, table_at}
use Rattle.walks.proofs.Visiting as walks
use Rattle.acts.proofs.Progressing.{turned}
use Rattle.turns.specs.Reads.{Found, Valued}

-- the circle seen from the point before
pub back_whole : (n p : ℕ → ℕ) (m x : ℕ) (xs : List ℕ) → Whole n p m (x ∷ xs) → Whole n p m (back (x ∷ xs))
back_whole n p m x xs w = subst (Whole n p m) (spun ∙ spin_round (back (x ∷ xs))) (whole_spin n p m (length xs) (x ∷ xs) w)
  where
    spun : spin (length xs) (x ∷ xs) ≡ spin (length (back (x ∷ xs))) (back (x ∷ xs))
    spun = ap (spin (length xs)) (sym (turn_back (x ∷ xs))) ∙ ap (λ (n : ℕ). spin (suc n) (back (x ∷ xs))) (sym (length_init_of x xs))

-- a whole circle of points in range is a ring
pub on_circle : (w : List ℕ) (a : ℕ) (l : List ℕ) → BLOCK ≤ length w → pts (view w) ≤ 2048 → Whole (view w (pt NEXT)) (view w (pt PREV)) (pts (view w)) (a ∷ l) → ((k : ℕ) → 0 < occ k (a ∷ l) → PointIn (view w) k) → OnRing w a
on_circle w a l h few c p =
    let e : ring_of w a ≡ a ∷ l = ring_is (next_of w) (prev_of w) (points_of w) a l few c in
    record {
      long = h;
      few = few;
      whole = subst (Whole (next_of w) (prev_of w) (points_of w)) (sym e) c;
      points_in_lem = subst (λ (c : List ℕ). (k : ℕ) → 0 < occ k c → PointIn (view w) k) (sym e) p;
    }

module _ (w : List ℕ) (x : ℕ) (o : OnRing w x) where
  others : Split w x
  others = walks.split w x o

  points : (k : ℕ) → 0 < occ k (x ∷ others.others) → PointIn (view w) k
  points k p = o.points_in_lem k (subst (λ (c : List ℕ). 0 < occ k c) (sym others.is) p)

  pub on_in : PointIn (view w) x
  on_in = points x (occ_head x others.others)

  pub low : x < 2048
  low = omega (arith, o.few, on_in.below)

  pub on_next : OnRing w (cell (pt NEXT) w x)
  on_next =
      let t = turned (next_of w) (prev_of w) x others.others others.ring.linked in
      on_circle w (cell (pt NEXT) w x) t.0 o.long o.few (subst (Whole (next_of w) (prev_of w) (points_of w)) t.1 (whole_spin _ _ (points_of w) 1 (x ∷ others.others) others.ring))
      (λ k p. points k (rw (← occ_turn k (x ∷ others.others), t.1) p))

  pub on_prev : OnRing w (cell (pt PREV) w x)
  on_prev =
      subst (OnRing w) (sym (prev_is (next_of w) (prev_of w) x others.others others.ring.linked))
      (on_circle w (last_of x others.others) (init_of x others.others) o.long o.few (back_whole (next_of w) (prev_of w) (points_of w) x others.others others.ring)
      (λ k p. points k (omega (arith, occ_last k x others.others))))

  pub x_low : view w (pt X) x ≤ 2097152
  x_low = on_in.x_in

  pub y_low : view w (pt Y) x ≤ 2097152
  y_low = on_in.y_in

  pub valued : (p : Point) → p ≡ point_of w x → Valued w x p
  valued p e = record { is = e; in_table = rw e (table_at w x on_in) }

pub found : (w : List ℕ) (k r : ℕ) → r ≡ k → OnRing w k → Found w k r
found w k r e o = record { is = e; on = rw e o; low = rw e (low w k o) }

module _ (w : List ℕ) (x r : ℕ) (o : OnRing w x) where
  pub found_next : r ≡ cell (pt NEXT) w x → Found w (cell (pt NEXT) w x) r
  found_next e = found w (cell (pt NEXT) w x) r e (on_next w x o)

  pub found_prev : r ≡ cell (pt PREV) w x → Found w (cell (pt PREV) w x) r
  found_prev e = found w (cell (pt PREV) w x) r e (on_prev w x o)

-- ---- a mark
pub due_0 : (w : List ℕ) (i m : ℕ) → m ≡ cell (rc MARK) w i → m ≡ 0 → validity ≡ due_at (view w) i
due_0 w i m e h = rw (sym e ∙ h)

pub due_1 : (w : List ℕ) (i m : ℕ) → m ≡ cell (rc MARK) w i → m ≡ 1 → removal ≡ due_at (view w) i
due_1 w i m e h = rw (sym e ∙ h)

pub due_2 : (w : List ℕ) (i m : ℕ) → m ≡ cell (rc MARK) w i → m ≡ 2 → triangle ≡ due_at (view w) i
due_2 w i m e h = rw (sym e ∙ h)

pub due_3 : (w : List ℕ) (i m : ℕ) → m ≡ cell (rc MARK) w i → m ≡ 3 → split ≡ due_at (view w) i
due_3 w i m e h = rw (sym e ∙ h)

pub due_4 : (w : List ℕ) (i m : ℕ) → m ≡ cell (rc MARK) w i → m ≢ 0 → m ≢ 1 → m ≢ 2 → m ≢ 3 → done ≡ due_at (view w) i
due_4 w i m e a b c d = subst (λ (n : ℕ). done ≡ due_of n) e (go m a b c d)
  where
    go : (m : ℕ) → m ≢ 0 → m ≢ 1 → m ≢ 2 → m ≢ 3 → done ≡ due_of m
    go zero a b c d = absurd (a refl)
    go (suc zero) a b c d = absurd (b refl)
    go (suc (suc zero)) a b c d = absurd (c refl)
    go (suc (suc (suc zero))) a b c d = absurd (d refl)
    go (suc (suc (suc (suc n)))) a b c d = refl
