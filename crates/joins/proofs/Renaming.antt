-- The loop of fix_outrec_pts: from p on, the points that are yet to name the record, up to the first.
use Prim.Native.Nat.{ℕ, ◌≤◌, ◌<◌}
use mathlib.Core.Path.{◌≡◌, ap, ◌∙◌, sym, subst}
use mathlib.Core.Logic.{◌≢◌}
use mathlib.Core.List.{List, [], ◌∷◌, ◌++◌}
use native.Mathlib.Omega.{arith}
use lib.ListN.{length}
use borrow.Author.Tests.{ne_eqb}
use Rattle.job.specs.Limits as limit
use Rattle.rings.specs.Count.{occ}
use Rattle.rings.specs.Links.{All, Seg}
use Rattle.rings.specs.Walk.{run}
use Rattle.rings.proofs.Counting.{all_in, one_here, pigeon}
use Rattle.rings.proofs.Members.{one_is}
use Rattle.rings.proofs.Walking.{run_seg}
use Rattle.rings.proofs.Walking as walking
use Rattle.store.specs.Field.{pt, REC, NEXT, PREV, NONE, BLOCK}
use Rattle.store.specs.Words.{Store, view}
use Rattle.store.specs.Stores.{upd}
use Rattle.store.specs.Named.{next_of, prev_of, first_of, set_rec}
use Rattle.store.specs.Sound.{ring_at}
use Rattle.store.proofs.Storing.{view_put, length_put}
use Rattle.joins.specs.Join.{name_all, fix_outrec_pts}
use Rattle.joins.specs.Needs.{Ringed}

-- how many are left, p among them
unfoldable pub to_go : List ℕ → ℕ → ℕ → ℕ
to_go w stop p = length (run (next_of w) stop limit.POINTS p)

pub record Naming (F w : List ℕ) (k stop p : ℕ) : Type 0 where
  pub rest : List ℕ
  pub long : BLOCK ≤ length w
  pub kept : k < limit.RECORDS
  pub seg : Seg (next_of w) (prev_of w) (p ∷ rest ++ (stop ∷ []))
  pub out : occ stop rest ≡ 0
  pub bound : All (λ i. i < limit.POINTS) (p ∷ rest)
  pub short : length rest < limit.POINTS
  pub is : name_all w k (p ∷ rest) ≡ F

pub ringed_low : (w : List ℕ) (k : ℕ) → Ringed w k → k < limit.RECORDS
ringed_low w k r = r.low

pub ringed_long : (w : List ℕ) (k : ℕ) → Ringed w k → BLOCK ≤ length w
ringed_long w k r = r.long

pub ring_is : (w : List ℕ) (k : ℕ) (r : Ringed w k) → ring_at (view w) k ≡ first_of w k ∷ r.others
ring_is w k r =
    let d : first_of w k ≢ NONE = λ e. omega (arith, r.whole.below (first_of w k) (omega (arith, one_here (first_of w k)))) in
    rw (ne_eqb (first_of w k) NONE d) (walking.ring_is (next_of w) (prev_of w) limit.POINTS (first_of w k) r.others (omega arith) r.whole)

pub begun : (w : List ℕ) (k s : ℕ) → Ringed w k → s ≡ first_of w k → Naming (fix_outrec_pts w k) w k s s
unfolding fix_outrec_pts
begun w k s r e =
    rw e (
    record {
      rest = r.others;
      long = r.long;
      kept = r.low;
      seg = r.whole.linked;
      out = omega (arith, r.whole.once (first_of w k), one_here (first_of w k));
      bound = all_in (λ i. i < limit.POINTS) (first_of w k ∷ r.others) (λ i h. r.whole.below i h);
      short = omega (arith, pigeon limit.POINTS (first_of w k ∷ r.others) r.whole.once r.whole.below);
      is = ap (name_all w k) (sym (ring_is w k r));
    }
    )

pub here : (F w : List ℕ) (k stop p : ℕ) → Naming F w k stop p → p < limit.POINTS
here F w k stop p g = g.bound.0

pub there : (F w : List ℕ) (k stop p : ℕ) → Naming F w k stop p → BLOCK ≤ length w
there F w k stop p g = g.long

pub which : (F w : List ℕ) (k stop p : ℕ) → Naming F w k stop p → k < limit.RECORDS
which F w k stop p g = g.kept

module _ (F w x : List ℕ) (k stop p q : ℕ) (e : x ≡ set_rec w p k) where
  -- the links stay
  cols : BLOCK ≤ length w → p < limit.POINTS → view x ≡ upd (view w) (pt REC) p k
  cols l h = rw e (view_put w l (pt REC) p k h)

  next_same : BLOCK ≤ length w → p < limit.POINTS → next_of x ≡ next_of w
  next_same l h = ap (λ (s : Store). s (pt NEXT)) (cols l h)

  prev_same : BLOCK ≤ length w → p < limit.POINTS → prev_of x ≡ prev_of w
  prev_same l h = ap (λ (s : Store). s (pt PREV)) (cols l h)

  seg_same : BLOCK ≤ length w → p < limit.POINTS → (c : List ℕ) → Seg (next_of w) (prev_of w) c → Seg (next_of x) (prev_of x) c
  seg_same l h c s = subst (λ (f : ℕ → ℕ). Seg f (prev_of x) c) (sym (next_same l h)) (subst (λ (f : ℕ → ℕ). Seg (next_of w) f c) (sym (prev_same l h)) s)

  pub set_long : BLOCK ≤ length w → BLOCK ≤ length x
  set_long l = rw e (omega (arith, length_put (pt REC) w p k))

  module _ (d : q ≡ next_of x p) where
    moved : BLOCK ≤ length w → p < limit.POINTS → q ≡ next_of w p
    moved l h = d ∙ ap (λ (f : ℕ → ℕ). f p) (next_same l h)

    go_on : (l : List ℕ) → BLOCK ≤ length w → k < limit.RECORDS → Seg (next_of w) (prev_of w) (p ∷ l ++ (stop ∷ [])) → occ stop l ≡ 0 → All (λ i. i < limit.POINTS) (p ∷ l) → length l < limit.POINTS → name_all w k (p ∷ l) ≡ F → q ≢ stop
        → Naming F x k stop q × (to_go x stop q < to_go w stop p)
    unfolding name_all to_go
    go_on [] n m s o b h g y = absurd (y (moved n b.0 ∙ s.0))
    go_on (z ∷ l) n m s o b h g y =
        let eq : q ≡ z = moved n b.0 ∙ s.0 in
        let t : Seg (next_of x) (prev_of x) (z ∷ l ++ (stop ∷ [])) = seg_same n b.0 (z ∷ l ++ (stop ∷ [])) s.2 in
        let u = run_seg (next_of w) (prev_of w) stop limit.POINTS p (z ∷ l) s o h in
        let v = run_seg (next_of x) (prev_of x) stop limit.POINTS z l t (omega arith) (omega arith) in
        rw eq (
          record { rest = l; long = set_long n; kept = m; seg = t; out = omega arith; bound = b.1; short = omega arith; is = rw e g },
          omega (arith, ap length u, ap length v),
        )

    stop_at : (l : List ℕ) → BLOCK ≤ length w → Seg (next_of w) (prev_of w) (p ∷ l ++ (stop ∷ [])) → occ stop l ≡ 0 → All (λ i. i < limit.POINTS) (p ∷ l) → name_all w k (p ∷ l) ≡ F → q ≡ stop → x ≡ F
    unfolding name_all
    stop_at [] n s o b g y = rw e g
    stop_at (z ∷ l) n s o b g y = absurd (omega (arith, o, one_is stop z (sym y ∙ moved n b.0 ∙ s.0)))

    pub along : Naming F w k stop p → q ≢ stop → Naming F x k stop q
    along g y = (go_on g.rest g.long g.kept g.seg g.out g.bound g.short g.is y).0

    pub falls : Naming F w k stop p → q ≢ stop → to_go x stop q < to_go w stop p
    falls g y = (go_on g.rest g.long g.kept g.seg g.out g.bound g.short g.is y).1

    pub over : Naming F w k stop p → q ≡ stop → x ≡ F
    over g y = stop_at g.rest g.long g.seg g.out g.bound g.is y
