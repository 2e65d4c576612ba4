-- Joins of points on closed rings leave every open ring as it was.
use Prim.Native.Nat.{ℕ, zero, suc, ◌+◌, ◌*◌, ◌≤◌, ◌<◌}
use mathlib.Core.Path.{◌≡◌, refl, ◌∙◌}
use mathlib.Core.Bool.{Bool, true, false, cond}
use mathlib.Core.List.{List}
use native.Mathlib.Omega.{arith}
use lib.Dec.{eqb, ltb}
use lib.ListN.{get_or}
use native.Mathlib.Decide.{dec_lt}
use borrow.Author.Tests.{eqb-true, eqb-false, ltb-true}
use Rattle.std.proofs.Common.{Ok, Err}
use Rattle.job.specs.Limits as limit
use Rattle.store.specs.Words.{Store, view}
use Rattle.store.specs.Named.{next_of, records_of}
use Rattle.store.specs.Sound.{recs, is_open}
use Rattle.joins.specs.declared.JoinError.TheVariants.{Knot, Full}
use Rattle.joins.specs.Resolve.{home_of}
use Rattle.joins.specs.Join.{JoinEnd, end, split_ring, split_of, merge_of, by_records, join_of, follow, joins_from, process_horz_joins}
use Rattle.joins.specs.Needs.{Points, Unknotted, Joins}
use Rattle.joins.proofs.Joining.{Shut, OpenKept}
use Rattle.joins.proofs.Cases.{merge_open, split_ring_open}
use Rattle.joins.proofs.Turns.{Still, words, pair_same, points_pair, join_kept}

pub opened_self : (s : Store) → OpenKept s s
opened_self s =
    record {
      records = omega arith;
      points = omega arith;
      flags = λ i h. refl;
      new = λ i h g. absurd (omega arith);
      rings = λ i h e. refl;
      xs = λ k h. refl;
      ys = λ k h. refl;
      zs = λ k h. refl;
      shut = λ k h g. g;
    }

pub opened_on : (s u v : Store) → OpenKept s u → OpenKept u v → OpenKept s v
opened_on s u v a b =
    record {
      records = omega (arith, a.records, b.records);
      points = omega (arith, a.points, b.points);
      flags = λ i h. b.flags i (omega (arith, a.records)) ∙ a.flags i h;
      new = λ i h g. later i h g (dec_lt i (recs u));
      rings = λ i h e. b.rings i (omega (arith, a.records)) (rw (a.flags i h) e) ∙ a.rings i h e;
      xs = λ k h. b.xs k (omega (arith, a.points)) ∙ a.xs k h;
      ys = λ k h. b.ys k (omega (arith, a.points)) ∙ a.ys k h;
      zs = λ k h. b.zs k (omega (arith, a.points)) ∙ a.zs k h;
      shut = λ k h g. b.shut k (omega (arith, a.points)) (a.shut k h g);
    }
  where
    later : (i : ℕ) → recs s ≤ i → i < recs v → Dec (i < recs u) → is_open v i ≡ false
    later i h g (yes l) = rw (b.flags i l) (a.new i h l)
    later i h g (no l) = b.new i (omega arith) g

split_open : (w : List ℕ) (a c i : ℕ) → Unknotted w a c i i → is_open (view w) i ≡ false → OpenKept (view w) (view (words (split_of w a c i)))
unfolding split_of
split_open w a c i t e = go (ltb (records_of w) limit.RECORDS) refl
  where
    go : (b : Bool) → ltb (records_of w) limit.RECORDS ≡ b → OpenKept (view w) (view (words (cond b (end (Ok tt) (split_ring w a c i (records_of w))) (end (Err Full) w))))
    go true f = split_ring_open w a c i (records_of w) t refl (ltb-true _ _ f) e
    go false f = opened_self (view w)

by_open : (w : List ℕ) (a c i j : ℕ) → Unknotted w a c i j → is_open (view w) i ≡ false → is_open (view w) j ≡ false → OpenKept (view w) (view (words (by_records w a c i j)))
unfolding by_records
by_open w a c i j t e f = go (eqb i j) refl
  where
    go : (b : Bool) → eqb i j ≡ b → OpenKept (view w) (view (words (cond b (split_of w a c i) (end (Ok tt) (merge_of w a c i j)))))
    go true g = split_open w a c i (pair_same w a c i j t (eqb-true i j g)) e
    go false g = merge_open w a c i j t (eqb-false i j g) e f

pub join_open : (w : List ℕ) (a c : ℕ) → Points w a c → Shut (view w) a → Shut (view w) c → OpenKept (view w) (view (words (join_of w a c)))
unfolding join_of
join_open w a c t e f = go (eqb (next_of w a) c) refl
  where
    go : (b : Bool) → eqb (next_of w a) c ≡ b → OpenKept (view w) (view (words (cond b (end (Err Knot) w) (by_records w a c (home_of w a) (home_of w c)))))
    go true g = opened_self (view w)
    go false g =
        let p = points_pair w a c t (next_of w a) (home_of w a) (home_of w c) refl (eqb-false (next_of w a) c g) refl refl in
        by_open w a c (home_of w a) (home_of w c) p (e (home_of w a) p.one) (f (home_of w c) p.two)

follow_open : (g : List ℕ → JoinEnd) (w : List ℕ) (e : JoinEnd) → Still w (words e) → OpenKept (view w) (view (words e)) → ((x : List ℕ) → Still w x → OpenKept (view w) (view x) → OpenKept (view x) (view (words (g x)))) → OpenKept (view w) (view (words (follow g e)))
follow_open g w (end (Ok tt) x) s o f = opened_on (view w) (view x) (view (words (g x))) o (f x s o)
follow_open g w (end (Err Knot) x) s o f = o
follow_open g w (end (Err Full) x) s o f = o

list_open : (f i n : ℕ) (js w : List ℕ) → Joins w n js → ((k : ℕ) → k < 2 * n → Shut (view w) (get_or js k 0)) → i + f ≡ n → OpenKept (view w) (view (words (joins_from f i js w)))
unfolding joins_from
list_open zero i n js w t e h = opened_self (view w)
list_open (suc f) i n js w t e h =
    follow_open (joins_from f (i + 1) js) w (join_of w (get_or js (2 * i) 0) (get_or js (2 * i + 1) 0)) (join_kept w (get_or js (2 * i) 0) (get_or js (2 * i + 1) 0) p)
    (join_open w (get_or js (2 * i) 0) (get_or js (2 * i + 1) 0) p (e (2 * i) (omega arith)) (e (2 * i + 1) (omega arith)))
    (λ x s o. list_open f (i + 1) n js x (record { ready = s.ready; fits = t.fits; points = λ j l. rw s.points (t.points j l) }) (λ k l. o.shut (get_or js k 0) (t.points k l) (e k l)) (omega arith))
  where
    p : Points w (get_or js (2 * i) 0) (get_or js (2 * i + 1) 0)
    p = record { ready = t.ready; one = t.points (2 * i) (omega arith); two = t.points (2 * i + 1) (omega arith) }

-- process_horz_joins of points on closed rings
pub joins_open : (n : ℕ) (js w : List ℕ) → Joins w n js → ((k : ℕ) → k < 2 * n → Shut (view w) (get_or js k 0)) → OpenKept (view w) (view (words (process_horz_joins n js w)))
joins_open n js w t e = list_open n 0 n js w t e (omega arith)
