-- Joins leave the words behind the live block: their points are points, and their records are records.
use Prim.Native.Nat.{ℕ, zero, suc, ◌+◌, ◌*◌, ◌<◌}
use mathlib.Core.Path.{◌≡◌, refl, sym, subst}
use mathlib.Core.Bool.{Bool, true, false, cond}
use mathlib.Core.List.{List, [], ◌∷◌}
use native.Mathlib.Omega.{arith}
use lib.Dec.{ltb, eqb}
use lib.ListN.{get_or}
use borrow.Author.Tests.{ltb-true, eqb-true, eqb-false}
use Rattle.std.proofs.Common.{Ok, Err}
use Rattle.job.specs.Limits as limit
use Rattle.rings.specs.Links.{All}
use Rattle.rings.proofs.Counting.{all_in}
use Rattle.rings.proofs.Walking.{ring_is}
use Rattle.store.specs.Field.{pt, REC, NONE}
use Rattle.store.specs.Words.{view, on_words}
use Rattle.store.specs.Named.{next_of, prev_of, rec_of, first_of, records_of, set_rec, ring_of}
use Rattle.store.specs.Sound.{ring_at}
use Rattle.joins.specs.declared.JoinError.TheVariants.{Knot, Full}
use Rattle.joins.specs.Join as join
use Rattle.joins.specs.Join.{relink_writes, made_writes, empty_writes, first_writes, relink_of, new_out_rec, name_all, fix_outrec_pts, move_first, split_ring, split_of, merge_of, by_records, join_of, joins_from}
use Rattle.joins.specs.Needs as goal
use Rattle.joins.specs.Needs.{Points, Four, Ringed, Unknotted}
use Rattle.joins.specs.Resolve.{home_of}
use Rattle.joins.proofs.Turns.{Still, words, pair_four, pair_low_one, pair_low_two, pair_same, points_pair, split_ring_new, join_kept}
use Rattle.opening.proofs.BehindReading.{RestSame, put_behind, writes_behind}

-- the words behind the live block are `rest`
module _ (rest : List ℕ) where
  -- ---- the joins: their points are points, and their records are records

  relink_behind : (w : List ℕ) (a c : ℕ) → Four w a c → RestSame rest w → RestSame rest (relink_of w a c)
  unfolding relink_of
  relink_behind w a c t z = writes_behind rest w (relink_writes (view w) a c) (t.one, (t.two, (t.next, (t.prev, tt)))) z

  made_behind : (w : List ℕ) (k n i : ℕ) → k < limit.RECORDS → RestSame rest w → RestSame rest (new_out_rec w k n i)
  unfolding new_out_rec
  made_behind w k n i h z = writes_behind rest w (made_writes k n i) (omega arith, (h, (h, (h, tt)))) z

  name_behind : (k : ℕ) (w l : List ℕ) → All (λ x. x < limit.POINTS) l → RestSame rest w → RestSame rest (name_all w k l)
  unfolding name_all
  name_behind k w [] h z = z
  name_behind k w (x ∷ l) h z = name_behind k (set_rec w x k) l h.1 (put_behind rest (pt REC) w x k h.0 z)

  -- the points of a record's ring
  ring_low : (w : List ℕ) (k : ℕ) → Ringed w k → All (λ x. x < limit.POINTS) (ring_at (view w) k)
  ring_low w k t = go (eqb (first_of w k) NONE)
    where
      go : (b : Bool) → All (λ x. x < limit.POINTS) (cond b [] (ring_of w (first_of w k)))
      go true = tt
      go false =
          subst (All (λ x. x < limit.POINTS)) (sym (ring_is (next_of w) (prev_of w) limit.POINTS (first_of w k) t.others (omega arith) t.whole))
          (all_in (λ x. x < limit.POINTS) (first_of w k ∷ t.others) t.whole.below)

  fix_behind : (w : List ℕ) (k : ℕ) → Ringed w k → RestSame rest w → RestSame rest (fix_outrec_pts w k)
  unfolding fix_outrec_pts
  fix_behind w k t z = name_behind k w (ring_at (view w) k) (ring_low w k t) z

  move_first_behind : (w : List ℕ) (i k a : ℕ) → i < limit.RECORDS → a < limit.POINTS → RestSame rest w → RestSame rest (move_first w i k a)
  unfolding move_first
  move_first_behind w i k a h l z = go (eqb (rec_of w (first_of w i)) k)
    where
      go : (b : Bool) → RestSame rest (cond b (on_words w (first_writes i a)) w)
      go true = writes_behind rest w (first_writes i a) (h, (l, tt)) z
      go false = z

  split_ring_behind : (w : List ℕ) (a c i k : ℕ) → Unknotted w a c i i → k ≡ records_of w → k < limit.RECORDS → RestSame rest w → RestSame rest (split_ring w a c i k)
  unfolding split_ring
  split_ring_behind w a c i k t e h z =
      let x : List ℕ = relink_of w a c in
      let y : List ℕ = new_out_rec x k (next_of w a) i in
      let f = pair_four w a c i i t in
      move_first_behind (fix_outrec_pts y k) i k a (pair_low_one w a c i i t) f.one
      (fix_behind y k (split_ring_new w x y a c i k (next_of w a) t e h refl refl refl) (made_behind x k (next_of w a) i h (relink_behind w a c f z)))

  split_behind : (w : List ℕ) (a c i : ℕ) → Unknotted w a c i i → RestSame rest w → RestSame rest (words (split_of w a c i))
  unfolding split_of
  split_behind w a c i t z = go (ltb (records_of w) limit.RECORDS) refl
    where
      go : (b : Bool) → ltb (records_of w) limit.RECORDS ≡ b → RestSame rest (words (cond b (join.end (Ok tt) (split_ring w a c i (records_of w))) (join.end (Err Full) w)))
      go true e = split_ring_behind w a c i (records_of w) t refl (ltb-true _ _ e) z
      go false e = z

  merge_behind : (w : List ℕ) (a c i j : ℕ) → Unknotted w a c i j → RestSame rest w → RestSame rest (merge_of w a c i j)
  unfolding merge_of
  merge_behind w a c i j t z =
      let h = pair_low_two w a c i j t in
      writes_behind rest (relink_of w a c) (empty_writes j i) (h, (h, (h, (h, tt)))) (relink_behind w a c (pair_four w a c i j t) z)

  by_behind : (w : List ℕ) (a c i j : ℕ) → Unknotted w a c i j → RestSame rest w → RestSame rest (words (by_records w a c i j))
  unfolding by_records
  by_behind w a c i j t z = go (eqb i j) refl
    where
      go : (b : Bool) → eqb i j ≡ b → RestSame rest (words (cond b (split_of w a c i) (join.end (Ok tt) (merge_of w a c i j))))
      go true e = split_behind w a c i (pair_same w a c i j t (eqb-true i j e)) z
      go false e = merge_behind w a c i j t z

  join_behind : (w : List ℕ) (a c : ℕ) → Points w a c → RestSame rest w → RestSame rest (words (join_of w a c))
  unfolding join_of
  join_behind w a c t z = go (eqb (next_of w a) c) refl
    where
      go : (b : Bool) → eqb (next_of w a) c ≡ b → RestSame rest (words (cond b (join.end (Err Knot) w) (by_records w a c (home_of w a) (home_of w c))))
      go true e = z
      go false e = by_behind w a c (home_of w a) (home_of w c) (points_pair w a c t (next_of w a) (home_of w a) (home_of w c) refl (eqb-false (next_of w a) c e) refl refl) z

  follow_behind : (g : List ℕ → join.JoinEnd) (w : List ℕ) (e : join.JoinEnd) → Still w (words e) → RestSame rest (words e) → ((x : List ℕ) → Still w x → RestSame rest x → RestSame rest (words (g x))) → RestSame rest (words (join.follow g e))
  follow_behind g w (join.end (Ok tt) x) s z f = f x s z
  follow_behind g w (join.end (Err Knot) x) s z f = z
  follow_behind g w (join.end (Err Full) x) s z f = z

  pub list_behind : (f i n : ℕ) (js w : List ℕ) → goal.Joins w n js → i + f ≡ n → RestSame rest w → RestSame rest (words (joins_from f i js w))
  unfolding joins_from
  list_behind zero i n js w t h z = z
  list_behind (suc f) i n js w t h z =
      follow_behind (joins_from f (i + 1) js) w (join_of w (get_or js (2 * i) 0) (get_or js (2 * i + 1) 0)) (join_kept w (get_or js (2 * i) 0) (get_or js (2 * i + 1) 0) p)
      (join_behind w (get_or js (2 * i) 0) (get_or js (2 * i + 1) 0) p z)
      (λ x s q. list_behind f (i + 1) n js x (record { ready = s.ready; fits = t.fits; points = λ j l. rw s.points (t.points j l) }) (omega arith) q)
    where
      p : Points w (get_or js (2 * i) 0) (get_or js (2 * i + 1) 0)
      p = record { ready = t.ready; one = t.points (2 * i) (omega arith); two = t.points (2 * i + 1) (omega arith) }
