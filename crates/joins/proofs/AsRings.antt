-- A join at its turn, as rings: every join of a list is one of the two cases of document 01, or is refused and leaves all as it was.
use Prim.Native.Nat.{ℕ, zero, suc, ◌+◌, ◌*◌, ◌≤◌, ◌<◌}
use mathlib.Core.Path.{◌≡◌, refl, ap, ◌∙◌, sym, subst}
use mathlib.Core.Logic.{◌≢◌, inl, inr}
use mathlib.Core.Bool.{Bool, true, false, cond}
use mathlib.Core.List.{List, [], ◌∷◌, ◌++◌, append_assoc}
use native.Mathlib.Omega.{arith}
use lib.Dec.{eqb, ltb}
use lib.ListN.{get_or}
use borrow.Author.Tests.{eq-eqb, ne_eqb, eqb-true, eqb-false, ltb-true, ltb-false}
use Rattle.std.proofs.Common.{Ok, Err}
use Rattle.job.specs.Limits as limit
use Rattle.rings.specs.Circle.{turn, rest}
use Rattle.rings.specs.Count.{occ}
use Rattle.rings.specs.Links.{Seg}
use Rattle.rings.specs.Walk.{run, walk}
use Rattle.rings.specs.Whole.{Whole}
use Rattle.rings.proofs.Counting.{apart, one_here}
use Rattle.rings.proofs.Members.{occ_append, parted, whole_rotate, seg_part}
use Rattle.rings.proofs.Splicing.{whole_cut_new, whole_cut_own}
use Rattle.rings.proofs.Walking.{ring_is}
use Rattle.store.specs.Field.{pt, rc, NEXT, PREV, FIRST, NONE}
use Rattle.store.specs.Words.{Store, view}
use Rattle.store.specs.Named.{next_of, prev_of, records_of}
use Rattle.store.specs.Sound.{pts, recs, ring_at}
use Rattle.joins.specs.declared.JoinError.TheVariants.{Knot, Full}
use Rattle.joins.specs.Resolve.{home_of}
use Rattle.joins.specs.Resolved.{Resolved}
use Rattle.joins.specs.Join.{JoinEnd, end, split_ring, split_of, merge_of, by_records, join_of, follow, joins_from, process_horz_joins}
use Rattle.joins.specs.Needs.{Points, Unknotted, Joins}
use Rattle.joins.specs.AsRings.{before, onward, seen_from, goes, stays, first_left, spliced, OneRecord, TwoRecords, AsRings, AtTurn}
use Rattle.joins.proofs.Homes.{on_ring_lem, from}
use Rattle.joins.proofs.Joining.{Split, Merged}
use Rattle.joins.proofs.Splitting.{split_others}
use Rattle.joins.proofs.Merging.{merge_whole, merge_others}
use Rattle.joins.proofs.Cases.{mate, back, merged, parts, split, split_first, split_first_new}
use Rattle.joins.proofs.Turns.{Still, words, pair_same, points_pair, joins_kept}

-- ---- lists

before_at : (x : ℕ) (l m : List ℕ) → occ x l ≡ 0 → before x (l ++ x ∷ m) ≡ l
before_at x [] m o = rw (eq-eqb x x refl)
before_at x (y ∷ l) m o = rw (ne_eqb y x (apart x (y ∷ l) o).0) (ap (λ (z : List ℕ). y ∷ z) (before_at x l m (omega arith)))

onward_at : (x : ℕ) (l m : List ℕ) → occ x l ≡ 0 → onward x (l ++ x ∷ m) ≡ x ∷ m
onward_at x [] m o = rw (eq-eqb x x refl)
onward_at x (y ∷ l) m o = rw (ne_eqb y x (apart x (y ∷ l) o).0) (onward_at x l m (omega arith))

seen_at : (x : ℕ) (l m : List ℕ) → occ x l ≡ 0 → seen_from x (l ++ x ∷ m) ≡ (x ∷ m) ++ l
seen_at x l m o = rw (before_at x l m o, onward_at x l m o)

-- the run from b starts with b's next
headed : (n p : ℕ → ℕ) (b : ℕ) (l : List ℕ) (a : ℕ) → Seg n p (b ∷ l ++ (a ∷ [])) → l ++ (a ∷ []) ≡ n b ∷ rest (l ++ (a ∷ []))
headed n p b [] a s = ap (λ (x : ℕ). x ∷ []) (sym s.0)
headed n p b (y ∷ l) a s = ap (λ (x : ℕ). x ∷ l ++ (a ∷ [])) (sym s.0)

-- a list goes on to start with f when what comes after a is another
head_kept : (l : List ℕ) (a : ℕ) (y z : List ℕ) (f : ℕ) (m : List ℕ) → l ++ a ∷ y ≡ f ∷ m → l ++ a ∷ z ≡ f ∷ rest (l ++ a ∷ z)
head_kept [] a y z f m e = let d : a ≡ f = cc in ap (λ (x : ℕ). x ∷ z) d
head_kept (x ∷ l) a y z f m e = let d : x ≡ f = cc in ap (λ (v : ℕ). v ∷ l ++ a ∷ z) d

-- ---- walks

module _ (n p : ℕ → ℕ) (m : ℕ) (few : m ≤ limit.POINTS) where
  -- a whole ring walked from one of its points
  walk_seen : (c : List ℕ) (x : ℕ) → Whole n p m c → 0 < occ x c → walk n x ≡ seen_from x c
  walk_seen c x w o =
      let t = parted x c o in
      let e = t.is in
      let v : Whole n p m (t.front ++ x ∷ t.back) = subst (Whole n p m) e w in
      let z : occ x t.front ≡ 0 = omega (arith, v.once x, occ_append x t.front (x ∷ t.back), one_here x) in
      ring_is n p m x (t.back ++ t.front) few (whole_rotate n p m t.front (x ∷ t.back) v) ∙ sym (ap (seen_from x) e ∙ seen_at x t.front t.back z)

  -- and from the point that its list starts with
  walk_headed : (c : List ℕ) (x : ℕ) (l : List ℕ) → Whole n p m c → c ≡ x ∷ l → walk n x ≡ c
  walk_headed c x l w e = ring_is n p m x l few (subst (Whole n p m) e w) ∙ sym e

walk_starts : (n : ℕ → ℕ) (a : ℕ) → walk n a ≡ a ∷ rest (walk n a)
unfolding run
walk_starts n a = refl

ring_walk : (s : Store) (i : ℕ) → s (rc FIRST) i ≢ NONE → ring_at s i ≡ walk (s (pt NEXT)) (s (rc FIRST) i)
ring_walk s i d = rw (ne_eqb (s (rc FIRST) i) NONE d)

-- ---- one record

module _ (s u : Store) (o : Resolved s) (a b i : ℕ) (l r : List ℕ) (hi : i < recs s) (room : recs s < limit.RECORDS) (fi : s (rc FIRST) i ≢ NONE)
    (w : Whole (s (pt NEXT)) (s (pt PREV)) (pts s) (a ∷ l ++ b ∷ r)) (occs : (k : ℕ) → occ k (a ∷ l ++ b ∷ r) ≡ occ k (ring_at s i)) (q : Split s u a b i l r)
    (c : ℕ) (nb : s (pt NEXT) b ≡ c) (first_new : u (rc FIRST) (recs s) ≡ s (pt NEXT) a) (first_is : u (rc FIRST) i ≡ first_left a (b ∷ l) (s (rc FIRST) i)) where
  runs : Seg (s (pt NEXT)) (s (pt PREV)) (a ∷ l ++ (b ∷ [])) × Seg (s (pt NEXT)) (s (pt PREV)) (b ∷ r ++ (a ∷ []))
  runs = seg_part (s (pt NEXT)) (s (pt PREV)) (a ∷ l) b (r ++ (a ∷ [])) (subst (λ (x : List ℕ). Seg (s (pt NEXT)) (s (pt PREV)) (a ∷ x)) (append_assoc l (b ∷ r) (a ∷ [])) w.linked)

  -- op2 and those after it, up to op1
  tail_is : r ++ (a ∷ []) ≡ c ∷ rest (r ++ (a ∷ []))
  tail_is = headed (s (pt NEXT)) (s (pt PREV)) b r a runs.1 ∙ ap (λ (x : ℕ). x ∷ rest (r ++ (a ∷ []))) nb

  c_late : 0 < occ c (r ++ (a ∷ []))
  c_late = rw tail_is (omega (arith, one_here c))

  c_off : occ c (l ++ (b ∷ [])) ≡ 0
  c_off = omega (arith, w.once c, c_late, occ_append c r (a ∷ []), occ_append c l (b ∷ []), occ_append c l (b ∷ r))

  a_on : 0 < occ a (ring_at s i)
  a_on = omega (arith, occs a, one_here a)

  c_on : 0 < occ c (ring_at s i)
  c_on = omega (arith, occs c, c_late, occ_append c r (a ∷ []), occ_append c l (b ∷ r))

  round : turn (seen_from a (ring_at s i)) ≡ (l ++ (b ∷ [])) ++ c ∷ rest (r ++ (a ∷ []))
  round =
      ap turn (sym (walk_seen (s (pt NEXT)) (s (pt PREV)) (pts s) o.few_points (ring_at s i) a (o.whole i hi) a_on) ∙ ring_is (s (pt NEXT)) (s (pt PREV)) (pts s) a (l ++ b ∷ r) o.few_points w)
      ∙ append_assoc l (b ∷ r) (a ∷ []) ∙ sym (append_assoc l (b ∷ []) (r ++ (a ∷ []))) ∙ ap (λ (x : List ℕ). (l ++ (b ∷ [])) ++ x) tail_is

  goes_is : goes a c (ring_at s i) ≡ l ++ (b ∷ [])
  goes_is = ap (before c) round ∙ before_at c (l ++ (b ∷ [])) (rest (r ++ (a ∷ []))) c_off

  stays_is : stays a c (ring_at s i) ≡ r ++ (a ∷ [])
  stays_is = ap (onward c) round ∙ onward_at c (l ++ (b ∷ [])) (rest (r ++ (a ∷ []))) c_off ∙ sym tail_is

  new_whole : Whole (u (pt NEXT)) (u (pt PREV)) (pts s) (l ++ (b ∷ []))
  new_whole = whole_rotate (u (pt NEXT)) (u (pt PREV)) (pts s) (b ∷ []) l (whole_cut_new (s (pt NEXT)) (s (pt PREV)) (u (pt NEXT)) (u (pt PREV)) a b q.crossed (pts s) l r w)

  own_whole : Whole (u (pt NEXT)) (u (pt PREV)) (pts s) (r ++ (a ∷ []))
  own_whole = whole_rotate (u (pt NEXT)) (u (pt PREV)) (pts s) (a ∷ []) r (whole_cut_own (s (pt NEXT)) (s (pt PREV)) (u (pt NEXT)) (u (pt PREV)) a b q.crossed (pts s) l r w)

  some : (k : ℕ) → k < pts s → k ≢ NONE
  some k h e = omega (arith, o.few_points)

  new_head : l ++ (b ∷ []) ≡ s (pt NEXT) a ∷ rest (l ++ (b ∷ []))
  new_head = headed (s (pt NEXT)) (s (pt PREV)) a l b runs.0

  new_first : u (rc FIRST) (recs s) ≢ NONE
  new_first e = some (s (pt NEXT) a) (new_whole.below (s (pt NEXT) a) (rw new_head (omega (arith, one_here (s (pt NEXT) a))))) (sym first_new ∙ e)

  new_is : ring_at u (recs s) ≡ l ++ (b ∷ [])
  new_is =
      ring_walk u (recs s) new_first ∙ ap (walk (u (pt NEXT))) first_new
      ∙ walk_headed (u (pt NEXT)) (u (pt PREV)) (pts s) o.few_points (l ++ (b ∷ [])) (s (pt NEXT) a) (rest (l ++ (b ∷ []))) new_whole new_head

  own_on : 0 < occ (u (rc FIRST) i) (r ++ (a ∷ []))
  own_on = omega (arith, q.first_own, occ_append (u (rc FIRST) i) r (a ∷ []))

  own_first : u (rc FIRST) i ≢ NONE
  own_first = some (u (rc FIRST) i) (own_whole.below (u (rc FIRST) i) own_on)

  own_is : ring_at u i ≡ seen_from (u (rc FIRST) i) (r ++ (a ∷ []))
  own_is = ring_walk u i own_first ∙ walk_seen (u (pt NEXT)) (u (pt PREV)) (pts s) o.few_points (r ++ (a ∷ [])) (u (rc FIRST) i) own_whole own_on

  gone : occ (s (rc FIRST) i) (b ∷ l) ≡ occ (s (rc FIRST) i) (goes a c (ring_at s i))
  gone = omega (arith, occ_append (s (rc FIRST) i) l (b ∷ []), ap (occ (s (rc FIRST) i)) goes_is)

  one_record : OneRecord s u a c i
  one_record =
      record {
        one_on = a_on;
        two_on = c_on;
        records = q.records;
        new = new_is ∙ sym goes_is;
        own = own_is ∙ ap (seen_from (u (rc FIRST) i)) (sym stays_is);
        first = first_is ∙ ap (λ (x : ℕ). cond (ltb 0 x) a (s (rc FIRST) i)) gone;
        new_ringed = ne_eqb (u (rc FIRST) (recs s)) NONE new_first;
        own_ringed = ne_eqb (u (rc FIRST) i) NONE own_first;
        others = split_others s u o a b i l r hi room fi w occs q;
        owner = q.owner_new;
        owners = λ j h. q.owner_else j (λ e. omega arith);
        reasons = q.reasons;
        takers = q.takers;
        closed = rw q.flags_new;
        unmoved = record { points = q.points; xs = q.xs; ys = q.ys; zs = q.zs; flags = λ j h. q.flags_else j (λ e. omega arith) };
      }

-- ---- two records

module _ (s u : Store) (o : Resolved s) (a b i j : ℕ) (r : List ℕ) (ij : i ≢ j) (hi : i < recs s) (hj : j < recs s) (fi : s (rc FIRST) i ≢ NONE) (fj : s (rc FIRST) j ≢ NONE) (on : 0 < occ a (ring_at s i))
    (v : Whole (s (pt NEXT)) (s (pt PREV)) (pts s) (b ∷ r)) (twos : (k : ℕ) → occ k (b ∷ r) ≡ occ k (ring_at s j)) (q : Merged s u a b i j) (c : ℕ) (nb : s (pt NEXT) b ≡ c) where
  two_record : TwoRecords s u a c i j
  two_record = by (parted a (ring_at s i) on).front (parted a (ring_at s i) on).back (parted a (ring_at s i) on).is
    where
      -- the second ring, from op2
      second : Whole (s (pt NEXT)) (s (pt PREV)) (pts s) (r ++ (b ∷ []))
      second = whole_rotate (s (pt NEXT)) (s (pt PREV)) (pts s) (b ∷ []) r v

      second_is : r ++ (b ∷ []) ≡ c ∷ rest (r ++ (b ∷ []))
      second_is = headed (s (pt NEXT)) (s (pt PREV)) b r b v.linked ∙ ap (λ (x : ℕ). x ∷ rest (r ++ (b ∷ []))) nb

      c_on : 0 < occ c (ring_at s j)
      c_on =
          let h : 0 < occ c (r ++ (b ∷ [])) = rw second_is (omega (arith, one_here c)) in
          omega (arith, twos c, occ_append c r (b ∷ []))

      seen : seen_from c (ring_at s j) ≡ r ++ (b ∷ [])
      seen =
          sym (walk_seen (s (pt NEXT)) (s (pt PREV)) (pts s) o.few_points (ring_at s j) c (o.whole j hj) c_on)
          ∙ walk_headed (s (pt NEXT)) (s (pt PREV)) (pts s) o.few_points (r ++ (b ∷ [])) c (rest (r ++ (b ∷ []))) second second_is

      by : (f g : List ℕ) → ring_at s i ≡ f ++ a ∷ g → TwoRecords s u a c i j
      by f g e =
          record {
            one_on = on;
            two_on = c_on;
            records = q.records;
            own = own;
            own_ringed = ne_eqb (u (rc FIRST) i) NONE (λ z. fi (sym (q.first_else i ij) ∙ z));
            emptied = rw (eq-eqb (u (rc FIRST) j) NONE q.first_gone);
            others = merge_others s u o a b i j (g ++ f) r ij hi hj fi fj first v ones twos q;
            owner = q.owner_gone;
            owners = q.owner_else;
            reason = q.reason_gone;
            reasons = q.reason_else;
            taker = q.taker_gone;
            takers = q.taker_else;
            unmoved = record { points = q.points; xs = q.xs; ys = q.ys; zs = q.zs; flags = λ k h. q.flags k };
          }
        where
          ring : Whole (s (pt NEXT)) (s (pt PREV)) (pts s) (f ++ a ∷ g)
          ring = subst (Whole (s (pt NEXT)) (s (pt PREV)) (pts s)) e (o.whole i hi)

          first : Whole (s (pt NEXT)) (s (pt PREV)) (pts s) (a ∷ g ++ f)
          first = whole_rotate (s (pt NEXT)) (s (pt PREV)) (pts s) f (a ∷ g) ring

          ones : (k : ℕ) → occ k (a ∷ g ++ f) ≡ occ k (ring_at s i)
          ones k = omega (arith, occ_append k g f, occ_append k f (a ∷ g), ap (occ k) e)

          off : occ a f ≡ 0
          off = omega (arith, ring.once a, occ_append a f (a ∷ g), one_here a)

          -- the ring of both, from the first point of record i
          whole : Whole (u (pt NEXT)) (u (pt PREV)) (pts s) (f ++ (a ∷ r ++ b ∷ g))
          whole =
              whole_rotate (u (pt NEXT)) (u (pt PREV)) (pts s) (a ∷ r ++ b ∷ g) f
              (subst (λ (x : List ℕ). Whole (u (pt NEXT)) (u (pt PREV)) (pts s) (a ∷ x)) (sym (append_assoc r (b ∷ g) f)) (merge_whole s u o a b i j (g ++ f) r ij hi hj fi fj first v ones twos q))

          together : spliced a c (ring_at s i) (ring_at s j) ≡ f ++ (a ∷ r ++ b ∷ g)
          together = rw (e, before_at a f g off, onward_at a f g off, seen, append_assoc r (b ∷ []) g)

          starts : f ++ a ∷ g ≡ s (rc FIRST) i ∷ rest (walk (s (pt NEXT)) (s (rc FIRST) i))
          starts = sym e ∙ ring_walk s i fi ∙ walk_starts (s (pt NEXT)) (s (rc FIRST) i)

          own : ring_at u i ≡ spliced a c (ring_at s i) (ring_at s j)
          own =
              let d = q.first_else i ij in
              ring_walk u i (λ z. fi (sym d ∙ z)) ∙ ap (walk (u (pt NEXT))) d
              ∙ walk_headed (u (pt NEXT)) (u (pt PREV)) (pts s) o.few_points (f ++ (a ∷ r ++ b ∷ g)) (s (rc FIRST) i) (rest (f ++ (a ∷ r ++ b ∷ g))) whole (head_kept f a g (r ++ b ∷ g) (s (rc FIRST) i) (rest (walk (s (pt NEXT)) (s (rc FIRST) i))) starts)
              ∙ sym together

-- ---- a join at its turn

split_ring_rings : (w : List ℕ) (a c i k : ℕ) → Unknotted w a c i i → k ≡ records_of w → k < limit.RECORDS → OneRecord (view w) (view (split_ring w a c i k)) a c i
unfolding split_ring
split_ring_rings w a c i k t kn kf =
    let p = parts w a c i t in
    one_record (view w) (view (split_ring w a c i k)) t.ready.resolved a (prev_of w c) i p.l p.r t.one.res.real (omega arith) t.one.res.some p.whole p.occs (split w a c i k t kn kf p) c
    (back w a c i i t) (rw (← kn) (split_first_new w a c i k t kn kf p)) (split_first w a c i k t kn kf p)

merge_rings : (w : List ℕ) (a c i j : ℕ) → Unknotted w a c i j → i ≢ j → TwoRecords (view w) (view (merge_of w a c i j)) a c i j
merge_rings w a c i j t d =
    let o = t.ready.resolved in
    let g = from (view w) o j (prev_of w c) (mate w a c i j t) in
    two_record (view w) (view (merge_of w a c i j)) o a (prev_of w c) i j g.others d t.one.res.real t.two.res.real t.one.res.some t.two.res.some (on_ring_lem (view w) o i a t.one)
    g.whole g.occs (merged w a c i j t) c (back w a c i j t)

split_rings : (w : List ℕ) (a c : ℕ) → Unknotted w a c (home_of w a) (home_of w a) → home_of w a ≡ home_of w c → next_of w a ≢ c → AsRings w a c (split_of w a c (home_of w a))
unfolding split_of
split_rings w a c t e d = go (ltb (records_of w) limit.RECORDS) refl
  where
    go : (b : Bool) → ltb (records_of w) limit.RECORDS ≡ b → AsRings w a c (cond b (end (Ok tt) (split_ring w a c (home_of w a) (records_of w))) (end (Err Full) w))
    go true f = (d, inl (e, split_ring_rings w a c (home_of w a) (records_of w) t refl (ltb-true _ _ f)))
    go false f = (refl, d, e, omega (arith, ltb-false (records_of w) limit.RECORDS f, t.ready.resolved.few_records))

by_rings : (w : List ℕ) (a c : ℕ) → Unknotted w a c (home_of w a) (home_of w c) → next_of w a ≢ c → AsRings w a c (by_records w a c (home_of w a) (home_of w c))
unfolding by_records
by_rings w a c t d = go (eqb (home_of w a) (home_of w c)) refl
  where
    go : (b : Bool) → eqb (home_of w a) (home_of w c) ≡ b → AsRings w a c (cond b (split_of w a c (home_of w a)) (end (Ok tt) (merge_of w a c (home_of w a) (home_of w c))))
    go true e = split_rings w a c (pair_same w a c (home_of w a) (home_of w c) t (eqb-true _ _ e)) (eqb-true _ _ e) d
    go false e = (d, inr (eqb-false _ _ e, merge_rings w a c (home_of w a) (home_of w c) t (eqb-false _ _ e)))

-- THE THEOREM: a join of any two points, on words that keep the invariant of joining
pub join_rings : (w : List ℕ) (a c : ℕ) → Points w a c → AsRings w a c (join_of w a c)
unfolding join_of
join_rings w a c t = go (eqb (next_of w a) c) refl
  where
    go : (b : Bool) → eqb (next_of w a) c ≡ b → AsRings w a c (cond b (end (Err Knot) w) (by_records w a c (home_of w a) (home_of w c)))
    go true e = (refl, eqb-true _ _ e)
    go false e = by_rings w a c (points_pair w a c t (next_of w a) (home_of w a) (home_of w c) refl (eqb-false _ _ e) refl refl) (eqb-false _ _ e)

-- ---- each join of a list

-- join number k
abbrev turn_of : List ℕ → ℕ → List ℕ → JoinEnd
turn_of js k x = join_of x (get_or js (2 * k) 0) (get_or js (2 * k + 1) 0)

follow_none : (g : List ℕ → JoinEnd) → ((x : List ℕ) → g x ≡ end (Ok tt) x) → (e : JoinEnd) → follow g e ≡ e
follow_none g h (end (Ok tt) w) = h w
follow_none g h (end (Err Knot) w) = refl
follow_none g h (end (Err Full) w) = refl

follow_two : (g h k : List ℕ → JoinEnd) → ((x : List ℕ) → k x ≡ follow h (g x)) → (e : JoinEnd) → follow k e ≡ follow h (follow g e)
follow_two g h k f (end (Ok tt) w) = f w
follow_two g h k f (end (Err Knot) w) = refl
follow_two g h k f (end (Err Full) w) = refl

-- the last of f + 1 joins comes after the f before it
last_turn : (f i : ℕ) (js w : List ℕ) → joins_from (suc f) i js w ≡ follow (turn_of js (i + f)) (joins_from f i js w)
unfolding joins_from
last_turn zero i js w = follow_none (joins_from 0 (i + 1) js) (λ x. refl) (turn_of js i w) ∙ ap (λ (k : ℕ). turn_of js k w) (let e : i ≡ i + 0 = omega arith in e)
last_turn (suc f) i js w =
    follow_two (joins_from f (i + 1) js) (turn_of js (i + suc f)) (joins_from (suc f) (i + 1) js)
    (λ x. last_turn f (i + 1) js x ∙ ap (λ (k : ℕ). follow (turn_of js k) (joins_from f (i + 1) js x)) (let e : i + 1 + f ≡ i + suc f = omega arith in e)) (turn_of js i w)

-- THE THEOREM: of every join of a list at its turn
pub at_turn : (n : ℕ) (js w : List ℕ) → Joins w n js → (k : ℕ) → k < n → (x : List ℕ) → process_horz_joins k js w ≡ end (Ok tt) x → AtTurn k js w x
at_turn n js w t k h x e =
    let b : Joins w k js = record { ready = t.ready; fits = omega (arith, t.fits); points = λ i l. t.points i (omega arith) } in
    let s : Still w x = subst (λ (z : JoinEnd). Still w (words z)) e (joins_kept k js w b) in
    record {
      next = last_turn k 0 js w ∙ ap (λ (i : ℕ). follow (turn_of js i) (process_horz_joins k js w)) (let z : 0 + k ≡ k = omega arith in z) ∙ ap (follow (turn_of js k)) e;
      rings = join_rings x (get_or js (2 * k) 0) (get_or js (2 * k + 1) 0) (record { ready = s.ready; one = rw s.points (t.points (2 * k) (omega arith)); two = rw s.points (t.points (2 * k + 1) (omega arith)) });
    }
