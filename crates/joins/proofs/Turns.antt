-- The needs of a join's functions, as lemmas whose premises are what the callees ensure; and that every join leaves words that keep the invariant.
use Prim.Native.Nat.{ℕ, zero, suc, ◌+◌, ◌*◌, ◌≤◌, ◌<◌}
use mathlib.Core.Path.{◌≡◌, refl, ap, ◌∙◌, sym, subst}
use mathlib.Core.Logic.{◌≢◌}
use mathlib.Core.Bool.{Bool, true, false, cond}
use mathlib.Core.List.{List}
use native.Mathlib.Omega.{arith}
use lib.Dec.{eqb, ltb}
use lib.ListN.{length, get_or}
use borrow.Author.Tests.{eq-eqb, ne_eqb, eqb-true, eqb-false, lt-ltb, le-ltb, ltb-true}
use Rattle.std.proofs.Common.{Result, Ok, Err}
use Rattle.job.specs.Limits as limit
use Rattle.store.specs.Field.{pt, rc, REC, OWNER, FIRST, REASON, TAKER, NONE, BLOCK}
use Rattle.store.specs.Reason.{JOINED}
use Rattle.store.specs.Words.{put}
use Rattle.store.specs.Named.{next_of, rec_of, first_of, points_of, records_of}
use Rattle.joins.specs.declared.JoinError.{JoinError}
use Rattle.joins.specs.declared.JoinError.TheVariants.{Knot, Full}
use Rattle.joins.specs.Resolve.{home_of}
use Rattle.joins.specs.Resolved.{Ready}
use Rattle.joins.specs.Join.{JoinEnd, end, relink_of, new_out_rec, fix_outrec_pts, move_first, split_ring, split_of, merge_of, by_records, join_of, follow, joins_from, process_horz_joins}
use Rattle.joins.specs.Needs.{Point, Points, Four, Ringed, Unknotted, Joins}
use Rattle.joins.proofs.Finding.{at_home}
use Rattle.joins.proofs.Cases.{four, low_one, low_two, merge_ready, merge_points, parts, new_ring, first_low, split_ring_ready, split_ring_points}

pub move_first_yes : (w x y : List ℕ) (i k a f r : ℕ) → f ≡ first_of w i → r ≡ rec_of w f → r ≡ k → x ≡ put (rc FIRST) w i a → y ≡ put (pt REC) x a i → y ≡ move_first w i k a
unfolding move_first
move_first_yes w x y i k a f r e d h g j =
    let t : eqb (rec_of w (first_of w i)) k ≡ true = eq-eqb (rec_of w (first_of w i)) k (cc) in
    cc

pub move_first_no : (w : List ℕ) (i k a f r : ℕ) → f ≡ first_of w i → r ≡ rec_of w f → r ≢ k → w ≡ move_first w i k a
unfolding move_first
move_first_no w i k a f r e d h =
    let t : eqb (rec_of w (first_of w i)) k ≡ false = ne_eqb (rec_of w (first_of w i)) k (λ z. h (d ∙ ap (rec_of w) e ∙ z)) in
    cc

module _ (w : List ℕ) (a c i j : ℕ) (t : Unknotted w a c i j) where
  pub pair_four : Four w a c
  pair_four = four w a c i j t

  pub pair_one : a < limit.POINTS
  pair_one = (four w a c i j t).one

  pub pair_long : BLOCK ≤ length w
  pair_long = t.ready.long

  pub pair_next : (n : ℕ) → n ≡ next_of w a → n < limit.POINTS
  pair_next n e = rw e (four w a c i j t).next

  pub pair_low_one : i < limit.RECORDS
  pair_low_one = low_one w a c i j t

  pub pair_low_two : j < limit.RECORDS
  pair_low_two = low_two w a c i j t

-- ---- one record

module _ (w x y : List ℕ) (a c i k n : ℕ) (t : Unknotted w a c i i) (kn : k ≡ records_of w) (kf : k < limit.RECORDS) (ne : n ≡ next_of w a) (xe : x ≡ relink_of w a c) (ye : y ≡ new_out_rec x k n i) where
  pub split_ring_new : Ringed y k
  split_ring_new = rw (ye, xe, ne) (new_ring w a c i k t kn kf (parts w a c i t))

  pub split_ring_first : (z : List ℕ) → z ≡ fix_outrec_pts y k → first_of z i < limit.POINTS
  split_ring_first z e = rw (e, ye, xe, ne) (first_low w a c i k t kn kf (parts w a c i t))

  pub split_ring_done : (z u : List ℕ) → z ≡ fix_outrec_pts y k → u ≡ move_first z i k a → u ≡ split_ring w a c i k
  unfolding split_ring
  split_ring_done z u e f = cc

pub split_yes : (w x : List ℕ) (a c i k : ℕ) → k ≡ records_of w → k < limit.RECORDS → x ≡ split_ring w a c i k → end (Ok tt) x ≡ split_of w a c i
unfolding split_of
split_yes w x a c i k e h f =
    let t : ltb (records_of w) limit.RECORDS ≡ true = lt-ltb (records_of w) limit.RECORDS (omega arith) in
    cc

pub split_no : (w : List ℕ) (a c i k : ℕ) → k ≡ records_of w → limit.RECORDS ≤ k → end (Err Full) w ≡ split_of w a c i
unfolding split_of
split_no w a c i k e h =
    let t : ltb (records_of w) limit.RECORDS ≡ false = le-ltb (records_of w) limit.RECORDS (omega arith) in
    cc

-- ---- two records

pub merge_done : (w x y z p q : List ℕ) (a c i j : ℕ) → x ≡ relink_of w a c → y ≡ put (rc FIRST) x j NONE → z ≡ put (rc OWNER) y j i → p ≡ put (rc REASON) z j JOINED → q ≡ put (rc TAKER) p j i → q ≡ merge_of w a c i j
unfolding merge_of
merge_done w x y z p q a c i j e f g h k = rw (k, h, g, f, e)

-- ---- by records

pub pair_same : (w : List ℕ) (a c i j : ℕ) → Unknotted w a c i j → i ≡ j → Unknotted w a c i i
pair_same w a c i j t e = subst (λ (k : ℕ). Unknotted w a c i k) (sym e) t

pub by_same : (w x : List ℕ) (a c i j : ℕ) (r : Result (Unit {0}) JoinError) → i ≡ j → end r x ≡ split_of w a c i → end r x ≡ by_records w a c i j
unfolding by_records
by_same w x a c i j r e f =
    let t : eqb i j ≡ true = eq-eqb i j e in
    cc

pub by_two : (w x : List ℕ) (a c i j : ℕ) → i ≢ j → x ≡ merge_of w a c i j → end (Ok tt) x ≡ by_records w a c i j
unfolding by_records
by_two w x a c i j e f =
    let t : eqb i j ≡ false = ne_eqb i j e in
    cc

-- ---- a join at its turn

module _ (w : List ℕ) (a c : ℕ) (t : Points w a c) where
  pub points_one : Point w a
  points_one = record { ready = t.ready; low = t.one }

  pub points_two : Point w c
  points_two = record { ready = t.ready; low = t.two }

  pub points_low : a < limit.POINTS
  points_low = omega (arith, t.one, t.ready.resolved.few_points)

  pub points_long : BLOCK ≤ length w
  points_long = t.ready.long

  pub points_pair : (n i j : ℕ) → n ≡ next_of w a → n ≢ c → i ≡ home_of w a → j ≡ home_of w c → Unknotted w a c i j
  points_pair n i j e d f g = record { ready = t.ready; one = at_home w t.ready a i t.one f; two = at_home w t.ready c j t.two g; loose = λ z. d (e ∙ z) }

pub join_knot : (w : List ℕ) (a c n : ℕ) → n ≡ next_of w a → n ≡ c → end (Err Knot) w ≡ join_of w a c
unfolding join_of
join_knot w a c n e d =
    let t : eqb (next_of w a) c ≡ true = eq-eqb (next_of w a) c (sym e ∙ d) in
    cc

pub join_on : (w x : List ℕ) (a c n i j : ℕ) (u : Result (Unit {0}) JoinError) → n ≡ next_of w a → n ≢ c → i ≡ home_of w a → j ≡ home_of w c → end u x ≡ by_records w a c i j → end u x ≡ join_of w a c
unfolding join_of
join_on w x a c n i j u e d f g m =
    let t : eqb (next_of w a) c ≡ false = ne_eqb (next_of w a) c (λ z. d (e ∙ z)) in
    cc

-- ---- every join leaves words that keep the invariant, refused or not

pub record Still (w x : List ℕ) : Type 0 where
  pub ready : Ready x
  pub points : points_of x ≡ points_of w

abbrev pub words : JoinEnd → List ℕ
words (end u x) = x

split_kept : (w : List ℕ) (a c i : ℕ) → Unknotted w a c i i → Still w (words (split_of w a c i))
unfolding split_of
split_kept w a c i t = go (ltb (records_of w) limit.RECORDS) refl
  where
    go : (b : Bool) → ltb (records_of w) limit.RECORDS ≡ b → Still w (words (cond b (end (Ok tt) (split_ring w a c i (records_of w))) (end (Err Full) w)))
    go true e = record { ready = split_ring_ready w a c i (records_of w) t refl (ltb-true _ _ e); points = split_ring_points w a c i (records_of w) t refl (ltb-true _ _ e) }
    go false e = record { ready = t.ready; points = refl }

by_kept : (w : List ℕ) (a c i j : ℕ) → Unknotted w a c i j → Still w (words (by_records w a c i j))
unfolding by_records
by_kept w a c i j t = go (eqb i j) refl
  where
    go : (b : Bool) → eqb i j ≡ b → Still w (words (cond b (split_of w a c i) (end (Ok tt) (merge_of w a c i j))))
    go true e = split_kept w a c i (pair_same w a c i j t (eqb-true i j e))
    go false e = record { ready = merge_ready w a c i j t (eqb-false i j e); points = merge_points w a c i j t }

-- a join keeps the invariant
pub join_kept : (w : List ℕ) (a c : ℕ) → Points w a c → Still w (words (join_of w a c))
unfolding join_of
join_kept w a c t = go (eqb (next_of w a) c) refl
  where
    go : (b : Bool) → eqb (next_of w a) c ≡ b → Still w (words (cond b (end (Err Knot) w) (by_records w a c (home_of w a) (home_of w c))))
    go true e = record { ready = t.ready; points = refl }
    go false e = by_kept w a c (home_of w a) (home_of w c) (points_pair w a c t (next_of w a) (home_of w a) (home_of w c) refl (eqb-false (next_of w a) c e) refl refl)

-- ---- the list of joins

on : (f i : ℕ) (js w : List ℕ) (F : JoinEnd) → joins_from (suc f) i js w ≡ F → follow (joins_from f (i + 1) js) (join_of w (get_or js (2 * i) 0) (get_or js (2 * i + 1) 0)) ≡ F
unfolding joins_from
on f i js w F e = e

pub record Going (F : JoinEnd) (n : ℕ) (js w : List ℕ) (i : ℕ) : Type 0 where
  pub ready : Joins w n js
  pub left : ℕ
  pub far : i + left ≡ n
  pub goes : joins_from left i js w ≡ F

pub begun : (n : ℕ) (js w : List ℕ) → Joins w n js → Going (process_horz_joins n js w) n js w 0
begun n js w t = record { ready = t; left = n; far = omega arith; goes = refl }

pub going_points : (F : JoinEnd) (n : ℕ) (js w : List ℕ) (i a c : ℕ) → Going F n js w i → i < n → a ≡ get_or js (2 * i) 0 → c ≡ get_or js (2 * i + 1) 0 → Points w a c
going_points F n js w i a c g h e f = rw (e, f) (record { ready = g.ready.ready; one = g.ready.points (2 * i) (omega arith); two = g.ready.points (2 * i + 1) (omega arith) })

pub going_fits : (F : JoinEnd) (n : ℕ) (js w : List ℕ) (i : ℕ) → Going F n js w i → i < n → 2 * i + 1 < length js
going_fits F n js w i g h = omega (arith, g.ready.fits)

module _ (F : JoinEnd) (n : ℕ) (js w x : List ℕ) (i a c : ℕ) (u : Result (Unit {0}) JoinError) (g : Going F n js w i) (h : i < n) (e : a ≡ get_or js (2 * i) 0) (f : c ≡ get_or js (2 * i + 1) 0) (k : end u x ≡ join_of w a c) where
  step : (v : Result (Unit {0}) JoinError) → u ≡ v → (m : ℕ) → i + m ≡ n → joins_from m i js w ≡ F → (l : ℕ) × (m ≡ suc l) × (follow (joins_from l (i + 1) js) (end v x) ≡ F)
  step v d zero p q = absurd (omega arith)
  step v d (suc l) p q =
      let z : join_of w (get_or js (2 * i) 0) (get_or js (2 * i + 1) 0) ≡ end v x = cc in
      (l, refl, rw z at (on l i js w F q))

  pub next : u ≡ Ok tt → Going F n js x (i + 1)
  next d =
      let s = step (Ok tt) d g.left g.far g.goes in
      let v : Still w x = subst (λ (z : JoinEnd). Still w (words z)) (sym k) (join_kept w a c (going_points F n js w i a c g h e f)) in
      record {
        ready = record { ready = v.ready; fits = g.ready.fits; points = λ j l. rw v.points (g.ready.points j l) };
        left = s.0;
        far = omega (arith, s.1, g.far);
        goes = s.2;
      }

  pub refused : (r : JoinError) → u ≡ Err r → end (Err r) x ≡ F
  refused r d = (step (Err r) d g.left g.far g.goes).2

over : (m i n : ℕ) (js w : List ℕ) (F : JoinEnd) → i + m ≡ n → n ≤ i → joins_from m i js w ≡ F → end (Ok tt) w ≡ F
unfolding joins_from
over zero i n js w F p h e = e
over (suc m) i n js w F p h e = absurd (omega arith)

pub done : (F : JoinEnd) (n : ℕ) (js w : List ℕ) (i : ℕ) → Going F n js w i → n ≤ i → end (Ok tt) w ≡ F
done F n js w i g h = over g.left i n js w F g.far h g.goes

-- the whole list keeps the invariant, refused or not
follow_kept : (g : List ℕ → JoinEnd) (w : List ℕ) (e : JoinEnd) → Still w (words e) → ((x : List ℕ) → Still w x → Still w (words (g x))) → Still w (words (follow g e))
follow_kept g w (end (Ok tt) x) s f = f x s
follow_kept g w (end (Err r) x) s f = s

still_on : (w x y : List ℕ) → Still w x → Still x y → Still w y
still_on w x y a b = record { ready = b.ready; points = b.points ∙ a.points }

list_kept : (f i n : ℕ) (js w : List ℕ) → Joins w n js → i + f ≡ n → Still w (words (joins_from f i js w))
unfolding joins_from
list_kept zero i n js w t h = record { ready = t.ready; points = refl }
list_kept (suc f) i n js w t h =
    follow_kept (joins_from f (i + 1) js) w (join_of w (get_or js (2 * i) 0) (get_or js (2 * i + 1) 0))
    (join_kept w (get_or js (2 * i) 0) (get_or js (2 * i + 1) 0) (record { ready = t.ready; one = t.points (2 * i) (omega arith); two = t.points (2 * i + 1) (omega arith) }))
    (λ x s. still_on w x _ s (list_kept f (i + 1) n js x (record { ready = s.ready; fits = t.fits; points = λ j l. rw s.points (t.points j l) }) (omega arith)))

pub joins_kept : (n : ℕ) (js w : List ℕ) → Joins w n js → Still w (words (process_horz_joins n js w))
joins_kept n js w t = list_kept n 0 n js w t (omega arith)
