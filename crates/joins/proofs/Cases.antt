-- The two cases of a join at the words: each leaves words that keep the invariant.
use Prim.Native.Nat.{ℕ, ◌+◌, ◌≤◌, ◌<◌}
use mathlib.Core.Path.{◌≡◌, refl, ap, ◌∙◌, sym, subst, fun_ext}
use mathlib.Core.Logic.{◌≢◌, ◌⊎◌, inl, inr}
use mathlib.Core.Bool.{Bool, true, false, cond}
use mathlib.Core.List.{List, [], ◌∷◌, ◌++◌, append_assoc}
use native.Mathlib.Omega.{arith}
use native.Mathlib.Decide.{dec_lt}
use lib.Dec.{eqb}
use lib.ListN.{length}
use borrow.Author.Tests.{eq-eqb, ne_eqb, eqb-true, eqb-false, lt-ltb, le-ltb}
use Rattle.job.specs.Limits as limit
use Rattle.rings.specs.Count.{occ}
use Rattle.rings.specs.Links.{All, Seg}
use Rattle.rings.specs.Whole.{Whole}
use Rattle.rings.specs.Relink.{Crossed}
use Rattle.rings.proofs.Counting.{all_in, one_here, one_else}
use Rattle.rings.proofs.Members.{occ_append, parted, seg_part, seg_next, whole_kept}
use Rattle.rings.proofs.Splicing.{occ_halves, whole_cut_new}
use Rattle.rings.proofs.Walking.{Seen, seen}
use Rattle.store.specs.Field.{Field, pt, rc, ct, X, Y, Z, NEXT, PREV, REC, FLAGS, OWNER, FIRST, REASON, TAKER, POINTS, RECORDS, NONE, BLOCK, same}
use Rattle.store.specs.Words.{Store, view, Write, on_words}
use Rattle.store.specs.Stores.{on_store}
use Rattle.store.specs.Named.{next_of, prev_of, rec_of, first_of, points_of, records_of}
use Rattle.store.specs.Sound.{ring_at, is_open}
use Rattle.store.proofs.Soundness.{first_on}
use Rattle.store.proofs.Storing.{view_writes, length_writes}
use Rattle.joins.specs.Paths.{Lives}
use Rattle.joins.specs.Resolved.{Ready}
use Rattle.joins.specs.Join.{relink_writes, made_writes, empty_writes, first_writes, relink_of, new_out_rec, fix_outrec_pts, move_first, split_ring, merge_of}
use Rattle.joins.specs.Needs.{Four, Ringed, Unknotted}
use Rattle.joins.specs.AsRings.{first_left}
use Rattle.joins.proofs.Resolving.{res_low}
use Rattle.joins.proofs.Homes.{on_ring_lem, from, next_lives, prev_lives, next_prev}
use Rattle.joins.proofs.Joining.{Split, Merged, OpenKept}
use Rattle.joins.proofs.Splitting.{split_resolved, split_opened}
use Rattle.joins.proofs.Merging.{merge_resolved, merge_opened}
use Rattle.joins.proofs.Naming.{name_length, name_col, name_out, name_in}

-- ---- the four links

pub relinked : (s : Store) (a c : ℕ) → s (pt NEXT) (s (pt PREV) c) ≡ c → a ≢ s (pt PREV) c → s (pt NEXT) a ≢ c
    → Crossed (s (pt NEXT)) (s (pt PREV)) (on_store s (relink_writes s a c) (pt NEXT)) (on_store s (relink_writes s a c) (pt PREV)) a (s (pt PREV) c)
relinked s a c e d g =
    record {
      next_a = rw (ne_eqb a (s (pt PREV) c) d, eq-eqb a a refl) (sym e);
      next_b = rw (eq-eqb (s (pt PREV) c) (s (pt PREV) c) refl);
      prev_a = rw (e, ne_eqb c (s (pt NEXT) a) (λ z. g (sym z)), eq-eqb c c refl);
      prev_b = rw (eq-eqb (s (pt NEXT) a) (s (pt NEXT) a) refl);
      next_else = λ i x y. rw (ne_eqb i (s (pt PREV) c) y, ne_eqb i a x);
      prev_else = λ i x y. rw (ne_eqb i (s (pt NEXT) a) x, ne_eqb i c (λ z. y (z ∙ sym e)));
    }

module _ (w : List ℕ) (a c i j : ℕ) (t : Unknotted w a c i j) where
  pub mate : Lives (view w) j (prev_of w c)
  mate = prev_lives (view w) t.ready.resolved j c t.two

  pub back : next_of w (prev_of w c) ≡ c
  back = next_prev (view w) t.ready.resolved j c t.two

  pub other : a ≢ prev_of w c
  other e = t.loose (ap (next_of w) e ∙ back)

  pub four : Four w a c
  four =
      let k : points_of w ≤ limit.POINTS = t.ready.resolved.few_points in
      let n : next_of w a < points_of w = (next_lives (view w) t.ready.resolved i a t.one).bound in
      record { long = t.ready.long; one = omega (arith, t.one.bound); two = omega (arith, t.two.bound); next = omega arith; prev = omega (arith, mate.bound) }

  pub low_one : i < limit.RECORDS
  low_one = omega (arith, t.one.res.real, t.ready.resolved.few_records)

  pub low_two : j < limit.RECORDS
  low_two = omega (arith, t.two.res.real, t.ready.resolved.few_records)

  -- ---- two records

  merges : List Write
  merges = relink_writes (view w) a c ++ empty_writes j i

  view_merge : view (merge_of w a c i j) ≡ on_store (view w) merges
  unfolding merges merge_of relink_of
  view_merge = view_writes w merges t.ready.long (four.one, (four.two, (four.next, (four.prev, (low_two, (low_two, (low_two, (low_two, tt))))))))

  pub merged : Merged (view w) (view (merge_of w a c i j)) a (prev_of w c) i j
  unfolding merges
  merged = subst (λ (u : Store). Merged (view w) u a (prev_of w c) i j) (sym view_merge) go
    where
      go : Merged (view w) (on_store (view w) merges) a (prev_of w c) i j
      go =
          record {
            crossed = relinked (view w) a c back other t.loose;
            points = refl;
            records = refl;
            first_gone = rw (eq-eqb j j refl);
            first_else = λ x d. rw (ne_eqb x j d);
            owner_gone = rw (eq-eqb j j refl);
            owner_else = λ x d. rw (ne_eqb x j d);
            reason_gone = rw (eq-eqb j j refl);
            reason_else = λ x d. rw (ne_eqb x j d);
            taker_gone = rw (eq-eqb j j refl);
            taker_else = λ x d. rw (ne_eqb x j d);
            named = λ k. refl;
            xs = λ k. refl;
            ys = λ k. refl;
            zs = λ k. refl;
            flags = λ t. refl;
          }

  pub merge_points : points_of (merge_of w a c i j) ≡ points_of w
  merge_points = merged.points

  merge_long : BLOCK ≤ length (merge_of w a c i j)
  unfolding merge_of relink_of merges
  merge_long = omega (arith, t.ready.long, length_writes w merges)

  pub merge_open : i ≢ j → is_open (view w) i ≡ false → is_open (view w) j ≡ false → OpenKept (view w) (view (merge_of w a c i j))
  merge_open d =
      let o = t.ready.resolved in
      let f = from (view w) o i a t.one in
      let g = from (view w) o j (prev_of w c) mate in
      merge_opened (view w) (view (merge_of w a c i j)) o a (prev_of w c) i j f.others g.others d t.one.res.real t.two.res.real t.one.res.some t.two.res.some f.whole g.whole f.occs g.occs merged

  pub merge_ready : i ≢ j → Ready (merge_of w a c i j)
  merge_ready d =
      let o = t.ready.resolved in
      let f = from (view w) o i a t.one in
      let g = from (view w) o j (prev_of w c) mate in
      record {
        long = merge_long;
        resolved = merge_resolved (view w) (view (merge_of w a c i j)) o a (prev_of w c) i j f.others g.others d t.one.res.real t.two.res.real t.one.res.some t.two.res.some
            f.whole g.whole f.occs g.occs merged;
      }

-- ---- one record

-- the ring of record i, from a: a, l.., b, r..
pub record Parts (w : List ℕ) (a b i : ℕ) : Type 0 where
  pub l : List ℕ
  pub r : List ℕ
  pub whole : Whole (next_of w) (prev_of w) (points_of w) (a ∷ l ++ b ∷ r)
  pub occs : (k : ℕ) → occ k (a ∷ l ++ b ∷ r) ≡ occ k (ring_at (view w) i)

pub parts : (w : List ℕ) (a c i : ℕ) → Unknotted w a c i i → Parts w a (prev_of w c) i
parts w a c i t =
    let o = t.ready.resolved in
    let f = from (view w) o i a t.one in
    let b = prev_of w c in
    let h : 0 < occ b f.others = omega (arith, on_ring_lem (view w) o i b (mate w a c i i t), f.occs b, one_else b a (other w a c i i t)) in
    let q = parted b f.others h in
    record {
      l = q.front;
      r = q.back;
      whole = subst (λ (m : List ℕ). Whole (next_of w) (prev_of w) (points_of w) (a ∷ m)) q.is f.whole;
      occs = λ k. subst (λ (m : List ℕ). occ k (a ∷ m) ≡ occ k (ring_at (view w) i)) q.is (f.occs k);
    }

module _ (w : List ℕ) (a c i k : ℕ) (t : Unknotted w a c i i) (kn : k ≡ records_of w) (kf : k < limit.RECORDS) (q : Parts w a (prev_of w c) i) where
  open q use {l, r}

  -- after the relinks and the new record
  abbrev x : List ℕ
  x = new_out_rec (relink_of w a c) k (next_of w a) i

  splits : List Write
  splits = relink_writes (view w) a c ++ made_writes k (next_of w a) i

  abbrev u : Store
  u = on_store (view w) splits

  view_x : view x ≡ u
  unfolding splits new_out_rec relink_of
  view_x = view_writes w splits t.ready.long ((four w a c i i t).one, ((four w a c i i t).two, ((four w a c i i t).next, ((four w a c i i t).prev, (omega arith, (kf, (kf, (kf, tt))))))))

  col : (g : Field) (j : ℕ) → view x g j ≡ u g j
  col g j = ap (λ (s : Store). s g j) view_x

  x_long : BLOCK ≤ length x
  unfolding splits new_out_rec relink_of
  x_long = omega (arith, t.ready.long, length_writes w splits)

  crossed : Crossed (next_of w) (prev_of w) (next_of x) (prev_of x) a (prev_of w c)
  unfolding splits
  crossed = subst (λ (s : Store). Crossed (next_of w) (prev_of w) (s (pt NEXT)) (s (pt PREV)) a (prev_of w c)) (sym view_x) (relinked (view w) a c (back w a c i i t) (other w a c i i t) t.loose)

  -- the new ring, from a's next
  half : Whole (next_of x) (prev_of x) (points_of w) (prev_of w c ∷ l)
  half = whole_cut_new (next_of w) (prev_of w) (next_of x) (prev_of x) a (prev_of w c) crossed (points_of w) l r q.whole

  halves : (m : ℕ) → occ m (a ∷ l ++ prev_of w c ∷ r) ≡ occ m (prev_of w c ∷ l) + occ m (a ∷ r)
  halves m = occ_halves (next_of w) (prev_of w) (next_of x) (prev_of x) a (prev_of w c) crossed (points_of w) m l r

  next_on_it : 0 < occ (next_of w a) (prev_of w c ∷ l)
  next_on_it =
      let s = seg_part (next_of w) (prev_of w) (a ∷ l) (prev_of w c) (r ++ (a ∷ [])) (subst (λ (m : List ℕ). Seg (next_of w) (prev_of w) (a ∷ m)) (append_assoc l (prev_of w c ∷ r) (a ∷ [])) q.whole.linked) in
      omega (arith, seg_next (next_of w) (prev_of w) a l (prev_of w c) s.0, occ_append (next_of w a) l (prev_of w c ∷ []))

  few : points_of w ≤ limit.POINTS
  few = t.ready.resolved.few_points

  seen_half : Seen (next_of x) (prev_of x) (points_of w) (prev_of w c ∷ l) (next_of w a)
  seen_half = seen (next_of x) (prev_of x) (points_of w) (prev_of w c ∷ l) (next_of w a) few half next_on_it

  x_first_new : first_of x k ≡ next_of w a
  unfolding splits
  x_first_new = col (rc FIRST) k ∙ rw (eq-eqb k k refl)

  point : (m : ℕ) → 0 < occ m (a ∷ l ++ prev_of w c ∷ r) → m < points_of w
  point m h = q.whole.below m h

  some : next_of w a ≢ NONE
  some e = omega (arith, few, half.below (next_of w a) next_on_it)

  pub new_ring : Ringed x k
  new_ring =
      record {
        long = x_long;
        low = kf;
        others = seen_half.others;
        whole = rw x_first_new (whole_kept (next_of x) (prev_of x) (next_of x) (prev_of x) (points_of w) limit.POINTS (next_of w a ∷ seen_half.others) seen_half.whole few (λ m h. refl) (λ m h. refl));
      }

  ring_is : ring_at (view x) k ≡ next_of w a ∷ seen_half.others
  ring_is = rw (x_first_new, ne_eqb (next_of w a) NONE some) seen_half.walked

  occs : (m : ℕ) → occ m (ring_at (view x) k) ≡ occ m (prev_of w c ∷ l)
  occs m = ap (occ m) ring_is ∙ seen_half.occs m

  list_low : All (λ m. m < limit.POINTS) (ring_at (view x) k)
  list_low = all_in (λ m. m < limit.POINTS) (ring_at (view x) k) (λ m h. omega (arith, few, half.below m (omega (arith, occs m))))

  -- after the renaming
  abbrev y : List ℕ
  y = fix_outrec_pts x k

  y_long : BLOCK ≤ length y
  unfolding fix_outrec_pts
  y_long = omega (arith, x_long, name_length k x (ring_at (view x) k))

  y_col : (g : Field) (j : ℕ) → same (pt REC) g ≡ false → view y g j ≡ u g j
  unfolding fix_outrec_pts
  y_col g j e = name_col k g j e x (ring_at (view x) k) x_long list_low ∙ col g j

  y_new : (m : ℕ) → 0 < occ m (prev_of w c ∷ l) → rec_of y m ≡ k
  unfolding fix_outrec_pts
  y_new m h = name_in k m x (ring_at (view x) k) x_long list_low (omega (arith, occs m, half.once m)) (omega (arith, occs m))

  y_else : (m : ℕ) → occ m (prev_of w c ∷ l) ≡ 0 → rec_of y m ≡ rec_of w m
  unfolding fix_outrec_pts splits
  y_else m h = name_out k m x (ring_at (view x) k) x_long list_low (occs m ∙ h) ∙ col (pt REC) m

  ik : i ≢ k
  ik e = omega (arith, t.one.res.real)

  own_first : first_of y i ≡ first_of w i
  unfolding splits
  own_first = y_col (rc FIRST) i refl ∙ rw (ne_eqb i k ik)

  own_on : 0 < occ (first_of w i) (a ∷ l ++ prev_of w c ∷ r)
  own_on = omega (arith, q.occs (first_of w i), first_on (view w) i (ne_eqb (first_of w i) NONE t.one.res.some))

  pub first_low : first_of y i < limit.POINTS
  first_low = rw own_first (omega (arith, few, point (first_of w i) own_on))

  a_out : occ a (prev_of w c ∷ l) ≡ 0
  a_out = omega (arith, halves a, q.whole.once a, one_here a)

  -- the words at the end, beside y: record i's first point moved to a, or not
  record Settled (z : List ℕ) : Type 0 where
    cols : (g : Field) (j : ℕ) → same (pt REC) g ≡ false → same (rc FIRST) g ≡ false → view z g j ≡ u g j
    long : BLOCK ≤ length z
    first_own : 0 < occ (first_of z i) (a ∷ r)
    first_is : first_of z i ≡ first_left a (prev_of w c ∷ l) (first_of w i)
    first_else : (j : ℕ) → j ≢ i → first_of z j ≡ u (rc FIRST) j
    rec_own : (rec_of z a ≡ rec_of w a) ⊎ (rec_of z a ≡ i)
    rec_else : (j : ℕ) → j ≢ a → rec_of z j ≡ rec_of y j

  -- the first point went to record k, if it names it
  named : rec_of y (first_of y i) ≡ k → 0 < occ (first_of w i) (prev_of w c ∷ l)
  named e = go (dec_lt 0 (occ (first_of w i) (prev_of w c ∷ l)))
    where
      go : Dec (0 < occ (first_of w i) (prev_of w c ∷ l)) → 0 < occ (first_of w i) (prev_of w c ∷ l)
      go (yes h) = h
      go (no h) =
          let d : rec_of w (first_of w i) ≡ k = sym (y_else (first_of w i) (omega arith)) ∙ ap (rec_of y) (sym own_first) ∙ e in
          let b = res_low (view w) (rec_of w (first_of w i)) i (t.ready.resolved.home i (first_of w i) t.one.res.real (omega (arith, own_on, q.occs (first_of w i)))) in
          absurd (omega arith)

  moved : rec_of y (first_of y i) ≡ k → Settled (on_words y (first_writes i a))
  moved e =
      record {
        cols = λ g j d f. v g j ∙ rw (d, f) (y_col g j d);
        long = omega (arith, y_long, length_writes y (first_writes i a));
        first_own = rw (v (rc FIRST) i, eq-eqb i i refl) (omega (arith, one_here a));
        first_is = v (rc FIRST) i ∙ rw (eq-eqb i i refl, lt-ltb 0 (occ (first_of w i) (prev_of w c ∷ l)) (named e));
        first_else = λ j d. v (rc FIRST) j ∙ rw (ne_eqb j i d) (y_col (rc FIRST) j refl);
        rec_own = inr (v (pt REC) a ∙ rw (eq-eqb a a refl));
        rec_else = λ j d. v (pt REC) j ∙ rw (ne_eqb j a d);
      }
    where
      v : (g : Field) (j : ℕ) → view (on_words y (first_writes i a)) g j ≡ on_store (view y) (first_writes i a) g j
      v g j = ap (λ (s : Store). s g j) (view_writes y (first_writes i a) y_long (low_one w a c i i t, ((four w a c i i t).one, tt)))

  stayed : rec_of y (first_of y i) ≢ k → Settled y
  stayed d =
      record {
        cols = λ g j e f. y_col g j e;
        long = y_long;
        first_own = subst (λ (x : ℕ). 0 < occ x (a ∷ r)) (sym own_first) (omega (arith, own_on, halves (first_of w i), off));
        first_is = rw (le-ltb 0 (occ (first_of w i) (prev_of w c ∷ l)) (omega (arith, off))) own_first;
        first_else = λ j e. y_col (rc FIRST) j refl;
        rec_own = inl (y_else a a_out);
        rec_else = λ j e. refl;
      }
    where
      off : occ (first_of w i) (prev_of w c ∷ l) ≡ 0
      off = go (dec_lt 0 (occ (first_of w i) (prev_of w c ∷ l)))
        where
          go : Dec (0 < occ (first_of w i) (prev_of w c ∷ l)) → occ (first_of w i) (prev_of w c ∷ l) ≡ 0
          go (yes h) = absurd (d (ap (rec_of y) own_first ∙ y_new (first_of w i) h))
          go (no h) = omega arith

  settled : Settled (move_first y i k a)
  unfolding move_first
  settled = go (eqb (rec_of y (first_of y i)) k) refl
    where
      go : (m : Bool) → eqb (rec_of y (first_of y i)) k ≡ m → Settled (cond m (on_words y (first_writes i a)) y)
      go true e = moved (eqb-true _ _ e)
      go false e = stayed (eqb-false _ _ e)

  pub split_first_new : first_of (move_first y i k a) k ≡ next_of w a
  split_first_new = settled.first_else k (λ e. ik (sym e)) ∙ sym (col (rc FIRST) k) ∙ x_first_new

  pub split_first : first_of (move_first y i k a) i ≡ first_left a (prev_of w c ∷ l) (first_of w i)
  split_first = settled.first_is

  pub split : Split (view w) (view (move_first y i k a)) a (prev_of w c) i l r
  unfolding splits
  split =
      let z = settled in
      record {
        crossed = subst (λ (s : ℕ → ℕ). Crossed (next_of w) (prev_of w) s (prev_of (move_first y i k a)) a (prev_of w c)) (fun_ext (λ j. col (pt NEXT) j ∙ sym (z.cols (pt NEXT) j refl refl)))
            (subst (λ (s : ℕ → ℕ). Crossed (next_of w) (prev_of w) (next_of x) s a (prev_of w c)) (fun_ext (λ j. col (pt PREV) j ∙ sym (z.cols (pt PREV) j refl refl))) crossed);
        points = z.cols (ct POINTS) 0 refl refl;
        records = z.cols (ct RECORDS) 0 refl refl ∙ omega arith;
        first_new = subst (λ (x : ℕ). 0 < occ (first_of (move_first y i k a) x) (prev_of w c ∷ l)) kn (subst (λ (x : ℕ). 0 < occ x (prev_of w c ∷ l)) (sym split_first_new) next_on_it);
        first_own = z.first_own;
        first_else = λ j d e. z.first_else j d ∙ rw (ne_eqb j k (λ h. e (h ∙ kn)));
        owner_new = rw (← kn) (z.cols (rc OWNER) k refl refl ∙ rw (eq-eqb k k refl));
        owner_else = λ j e. z.cols (rc OWNER) j refl refl ∙ rw (ne_eqb j k (λ h. e (h ∙ kn)));
        reasons = λ j. z.cols (rc REASON) j refl refl;
        takers = λ j. z.cols (rc TAKER) j refl refl;
        named_new = λ m h. z.rec_else m (λ e. omega (arith, a_out, subst (λ (n : ℕ). 0 < occ n (prev_of w c ∷ l)) e h)) ∙ y_new m h ∙ kn;
        named_own = z.rec_own;
        named_else = λ m h d. z.rec_else m d ∙ y_else m h;
        xs = λ m. z.cols (pt X) m refl refl;
        ys = λ m. z.cols (pt Y) m refl refl;
        zs = λ m. z.cols (pt Z) m refl refl;
        flags_new = rw (← kn) (z.cols (rc FLAGS) k refl refl ∙ rw (eq-eqb k k refl));
        flags_else = λ j e. z.cols (rc FLAGS) j refl refl ∙ rw (ne_eqb j k (λ h. e (h ∙ kn)));
      }

  pub split_points : points_of (move_first y i k a) ≡ points_of w
  split_points = split.points

  pub split_open : is_open (view w) i ≡ false → OpenKept (view w) (view (move_first y i k a))
  split_open = split_opened (view w) (view (move_first y i k a)) t.ready.resolved a (prev_of w c) i l r t.one.res.real (omega arith) t.one.res.some q.whole q.occs split

  pub split_ready : Ready (move_first y i k a)
  split_ready =
      record {
        long = settled.long;
        resolved = split_resolved (view w) (view (move_first y i k a)) t.ready.resolved a (prev_of w c) i l r t.one.res.real (omega arith) t.one.res.some q.whole q.occs split;
      }

pub split_ring_ready : (w : List ℕ) (a c i k : ℕ) → Unknotted w a c i i → k ≡ records_of w → k < limit.RECORDS → Ready (split_ring w a c i k)
unfolding split_ring
split_ring_ready w a c i k t kn kf = split_ready w a c i k t kn kf (parts w a c i t)

pub split_ring_points : (w : List ℕ) (a c i k : ℕ) → Unknotted w a c i i → k ≡ records_of w → k < limit.RECORDS → points_of (split_ring w a c i k) ≡ points_of w
unfolding split_ring
split_ring_points w a c i k t kn kf = split_points w a c i k t kn kf (parts w a c i t)

pub split_ring_open : (w : List ℕ) (a c i k : ℕ) → Unknotted w a c i i → k ≡ records_of w → k < limit.RECORDS → is_open (view w) i ≡ false → OpenKept (view w) (view (split_ring w a c i k))
unfolding split_ring
split_ring_open w a c i k t kn kf = split_open w a c i k t kn kf (parts w a c i t)
