-- Pairs of renumbered segments on alike words: the same joins, renumbered, and alike words.
use Prim.Native.Nat.{ℕ, zero, suc, ◌+◌, ◌*◌, ◌≤◌, ◌<◌}
use mathlib.Core.Path.{◌≡◌, refl, ap, ◌∙◌, sym, subst}
use mathlib.Core.Logic.{◌≢◌, ◌⊎◌, inl, inr}
use mathlib.Core.Bool.{Bool, true, false, cond}
use mathlib.Core.List.{List, [], ◌∷◌, map}
use native.Mathlib.Omega.{arith}
use native.Mathlib.Decide.{ℕ_discrete}
use lib.Dec.{eqb, ltb}
use lib.ListN.{length, get_or, set, length-set}
use lib.Seq.{get_or-set_same, get_or-set_other}
use borrow.Author.Tests.{eqb-false, ltb-true}
use Rattle.std.proofs.Common.{Option, Some, None}
use Rattle.job.specs.Limits as limit
use Rattle.store.specs.Field.{pt, X, Y, Z, NEXT, PREV, NONE}
use Rattle.store.specs.Words.{view, on_words}
use Rattle.store.specs.Named.{points_of}
use Rattle.primitives.specs.Primitive.{Taken, taken, after_writes, before_writes, duplicate_op}
use Rattle.joins.specs.Needs.{Point}
use Rattle.sorting.specs.declared.HorzSegment.{HorzSegment}
use Rattle.segments.specs.Level.{x_of, y_of}
use Rattle.converting.specs.Make.{Made, made, second_at, first_at, make_join, Out, out, with_lefts, made_of, apart_of, join_pair, first_one, second_one, moved_pair, pair_of, and_then, inner_from, outer_from, sorted_segments, pairs_of, convert_horz_segs_to_joins}
use Rattle.converting.specs.Needs.{Making, Pairing, Valid, Overlapping, PairAt, Converting}
use Rattle.converting.proofs.Doubling.{Grew, Doubles, beside, doubles}
use Rattle.converting.proofs.Making.{pair_valid, pair_overlaps, making_on, making_back, PairingOf, pair_kept}
use Rattle.converting.proofs.Looping.{inner_kept}
use Rattle.converting.proofs.Converting.{converting_pairing}
use Rattle.drawing.specs.Renumbered.{Renumbered, RenumberedList}
use Rattle.drawing.proofs.Writing.{AmongWrites}
use Rattle.drawing.proofs.Likeness.{tells_apart, none, alike_words}
use Rattle.drawing.proofs.Walks.{renumbered_segment, one_alike, two_alike}
use Rattle.drawing.proofs.Rows.{map_set, sorted_alike}

-- ---- two conversions

-- how many joins there are
abbrev made_count : Option ℕ → ℕ
made_count (Some m) = m
made_count None = 0

abbrev converted_in : Made → Option ℕ
converted_in (made r w js) = r

abbrev words_in : Made → List ℕ
words_in (made r w js) = w

abbrev joins_in : Made → List ℕ
joins_in (made r w js) = js

-- the same answer, alike words, and the same joins, renumbered
pub record SameMade (ρ : ℕ → ℕ) (e e' : Made) : Type 0 where
  pub answer : converted_in e' ≡ converted_in e
  pub words : Renumbered ρ (view (words_in e)) (view (words_in e'))
  pub joins : RenumberedList ρ (2 * made_count (converted_in e)) (joins_in e) (joins_in e')

-- ---- a copy of a point

abbrev SameTaken : (ℕ → ℕ) → Taken → Taken → Type 0
SameTaken ρ (taken (Some k) x) (taken (Some k') x') = (k' ≡ ρ k) × Renumbered ρ (view x) (view x')
SameTaken ρ (taken (Some k) x) (taken None x') = ⊥
SameTaken ρ (taken None x) (taken (Some k') x') = ⊥
SameTaken ρ (taken None x) (taken None x') = Renumbered ρ (view x) (view x')

module _ {ρ : ℕ → ℕ} (w w' : List ℕ) (al : Renumbered ρ (view w) (view w')) (p : ℕ) (t : Point w p) (t' : Point w' (ρ p)) (room : points_of w < limit.POINTS) where
  -- the new point is the same number in both
  new : points_of w' ≡ ρ (points_of w)
  new = al.points ∙ sym (al.renumbers.stays (points_of w) (omega arith))

  room' : points_of w' < limit.POINTS
  room' = rw al.points room

  after_alike : Renumbered ρ (view (on_words w (after_writes (view w) p))) (view (on_words w' (after_writes (view w') (ρ p))))
  after_alike =
      let b = beside w p t in
      let b' = beside w' (ρ p) t' in
      let n = al.nexts p t.low in
      alike_words w w' al (after_writes (view w) p) (after_writes (view w') (ρ p)) t.ready.long t'.ready.long
      (omega arith, (room, (room, (room, (room, (room, (room, (b.here, (b.next, tt)))))))))
      (omega arith, (room', (room', (room', (room', (room', (room', (b'.here, (b'.next, tt)))))))))
      ((refl, refl, ap suc al.points), ((refl, new, al.xs p t.low), ((refl, new, al.ys p t.low), ((refl, new, al.zs p t.low), ((refl, new, tt), ((refl, new, n), ((refl, new, refl), ((refl, refl, new), ((refl, n, new), tt)))))))))
      (record { more = omega arith; points = λ k h. old k h (ℕ_discrete k (points_of w)); records = λ k h. inl h })
    where
      old : (k : ℕ) → k < suc (points_of w) → Dec (k ≡ points_of w)
          → (k < points_of w) ⊎ (AmongWrites (after_writes (view w) p) (pt X) k × AmongWrites (after_writes (view w) p) (pt Y) k × AmongWrites (after_writes (view w) p) (pt NEXT) k × AmongWrites (after_writes (view w) p) (pt PREV) k × AmongWrites (after_writes (view w) p) (pt Z) k)
      old k h (yes e) = inr (inr (inl (refl, e)), inr (inr (inl (refl, e))), inr (inr (inr (inr (inr (inl (refl, e)))))), inr (inr (inr (inr (inr (inr (inl (refl, e))))))), inr (inr (inr (inl (refl, e)))))
      old k h (no d) = inl (omega arith)

  before_alike : Renumbered ρ (view (on_words w (before_writes (view w) p))) (view (on_words w' (before_writes (view w') (ρ p))))
  before_alike =
      let b = beside w p t in
      let b' = beside w' (ρ p) t' in
      let n = al.prevs p t.low in
      alike_words w w' al (before_writes (view w) p) (before_writes (view w') (ρ p)) t.ready.long t'.ready.long
      (omega arith, (room, (room, (room, (room, (room, (room, (b.prev, (b.here, tt)))))))))
      (omega arith, (room', (room', (room', (room', (room', (room', (b'.prev, (b'.here, tt)))))))))
      ((refl, refl, ap suc al.points), ((refl, new, al.xs p t.low), ((refl, new, al.ys p t.low), ((refl, new, al.zs p t.low), ((refl, new, tt), ((refl, new, refl), ((refl, new, n), ((refl, n, new), ((refl, refl, new), tt)))))))))
      (record { more = omega arith; points = λ k h. old k h (ℕ_discrete k (points_of w)); records = λ k h. inl h })
    where
      old : (k : ℕ) → k < suc (points_of w) → Dec (k ≡ points_of w)
          → (k < points_of w) ⊎ (AmongWrites (before_writes (view w) p) (pt X) k × AmongWrites (before_writes (view w) p) (pt Y) k × AmongWrites (before_writes (view w) p) (pt NEXT) k × AmongWrites (before_writes (view w) p) (pt PREV) k × AmongWrites (before_writes (view w) p) (pt Z) k)
      old k h (yes e) = inr (inr (inl (refl, e)), inr (inr (inl (refl, e))), inr (inr (inr (inr (inr (inl (refl, e)))))), inr (inr (inr (inr (inr (inr (inl (refl, e))))))), inr (inr (inr (inl (refl, e)))))
      old k h (no d) = inl (omega arith)

double_alike : {ρ : ℕ → ℕ} (w w' : List ℕ) → Renumbered ρ (view w) (view w') → (p : ℕ) (after : Bool) → Point w p → Point w' (ρ p) → SameTaken ρ (duplicate_op w p after) (duplicate_op w' (ρ p) after)
unfolding duplicate_op
double_alike {ρ} w w' al p after t t' =
    subst (λ (b : Bool). SameTaken ρ (cond (ltb (points_of w) limit.POINTS) (taken (Some (points_of w)) (copy w p after)) (taken None w)) (cond b (taken (Some (points_of w')) (copy w' (ρ p) after)) (taken None w')))
    (ap (λ (n : ℕ). ltb n limit.POINTS) (sym al.points)) (go (ltb (points_of w) limit.POINTS) after refl)
  where
    copy : List ℕ → ℕ → Bool → List ℕ
    copy v q b = cond b (on_words v (after_writes (view v) q)) (on_words v (before_writes (view v) q))

    go : (b c : Bool) → ltb (points_of w) limit.POINTS ≡ b → SameTaken ρ (cond b (taken (Some (points_of w)) (copy w p c)) (taken None w)) (cond b (taken (Some (points_of w')) (copy w' (ρ p) c)) (taken None w'))
    go true true e = (new w w' al p t t' (ltb-true _ _ e), after_alike w w' al p t t' (ltb-true _ _ e))
    go true false e = (new w w' al p t t' (ltb-true _ _ e), before_alike w w' al p t t' (ltb-true _ _ e))
    go false c e = al

-- ---- a join of two copies

listed_two : (ρ : ℕ → ℕ) (m : ℕ) (js js' : List ℕ) (k k' j j' : ℕ) → RenumberedList ρ (2 * m) js js' → k' ≡ ρ k → j' ≡ ρ j → 2 * m + 1 < length js → 2 * m + 1 < length js'
    → RenumberedList ρ (2 * (m + 1)) (set (set js (2 * m) k) (2 * m + 1) j) (set (set js' (2 * m) k') (2 * m + 1) j')
listed_two ρ m js js' k k' j j' l e f h h' x y = go (ℕ_discrete x (2 * m + 1)) (ℕ_discrete x (2 * m))
  where
    go : Dec (x ≡ 2 * m + 1) → Dec (x ≡ 2 * m) → get_or (set (set js' (2 * m) k') (2 * m + 1) j') x 0 ≡ ρ (get_or (set (set js (2 * m) k) (2 * m + 1) j) x 0)
    go (yes d) g =
        rw (d, get_or-set_same (set js (2 * m) k) (2 * m + 1) j 0 (omega (arith, length-set js (2 * m) k)), get_or-set_same (set js' (2 * m) k') (2 * m + 1) j' 0 (omega (arith, length-set js' (2 * m) k'))) f
    go (no d) (yes g) =
        rw (get_or-set_other (set js (2 * m) k) (2 * m + 1) x j 0 d, get_or-set_other (set js' (2 * m) k') (2 * m + 1) x j' 0 d, g, get_or-set_same js (2 * m) k 0 (omega arith), get_or-set_same js' (2 * m) k' 0 (omega arith)) e
    go (no d) (no g) =
        rw (get_or-set_other (set js (2 * m) k) (2 * m + 1) x j 0 d, get_or-set_other (set js' (2 * m) k') (2 * m + 1) x j' 0 d, get_or-set_other js (2 * m) x k 0 g, get_or-set_other js' (2 * m) x k' 0 g) (l x (omega arith))

module _ {ρ : ℕ → ℕ} (w w' : List ℕ) (al : Renumbered ρ (view w) (view w')) (js js' : List ℕ) (m a b : ℕ) (l : RenumberedList ρ (2 * m) js js') where
  pub make_alike : Making w js m a b → Making w' js' m (ρ a) (ρ b) → SameMade ρ (make_join w js m a b) (make_join w' js' m (ρ a) (ρ b))
  unfolding make_join
  make_alike t t' =
      go (duplicate_op w a true) (duplicate_op w' (ρ a) true) (double_alike w w' al a true pa pa') (doubles w a true pa) (doubles w' (ρ a) true pa')
    where
      pa : Point w a
      pa = record { ready = t.ready; low = t.one }

      pa' : Point w' (ρ a)
      pa' = record { ready = t'.ready; low = t'.one }

      full : (x x' : List ℕ) → Renumbered ρ (view x) (view x') → SameMade ρ (made None x js) (made None x' js')
      full x x' z = record { answer = refl; words = z; joins = λ k h. absurd (omega arith) }

      second : (k k' : ℕ) (x x' : List ℕ) → k' ≡ ρ k → Grew w x k → Grew w' x' k' → (c c' : Taken) → SameTaken ρ c c' → SameMade ρ (second_at js m k c) (second_at js' m k' c')
      second k k' x x' e g g' (taken (Some j) y) (taken (Some j') y') z =
          record {
            answer = refl;
            words = z.1;
            joins = listed_two ρ m js js' k k' j j' l e z.0 (omega (arith, t.few, t.room, g.points, g.keeps.ready.resolved.few_points)) (omega (arith, t'.few, t'.room, g'.points, g'.keeps.ready.resolved.few_points));
          }
      second k k' x x' e g g' (taken (Some j) y) (taken None y') z = absurd z
      second k k' x x' e g g' (taken None y) (taken (Some j') y') z = absurd z
      second k k' x x' e g g' (taken None y) (taken None y') z = full y y' z

      go : (c c' : Taken) → SameTaken ρ c c' → Doubles w c → Doubles w' c' → SameMade ρ (first_at js m b c) (first_at js' m (ρ b) c')
      go (taken (Some k) x) (taken (Some k') x') z g g' =
          second k k' x x' z.0 g g' (duplicate_op x b false) (duplicate_op x' (ρ b) false)
          (double_alike x x' z.1 b false (record { ready = g.keeps.ready; low = omega (arith, g.keeps.more, t.two) }) (record { ready = g'.keeps.ready; low = omega (arith, g'.keeps.more, t'.two) }))
      go (taken (Some k) x) (taken None x') z g g' = absurd z
      go (taken None x) (taken (Some k') x') z g g' = absurd z
      go (taken None x) (taken None x') z g g' = full x x' z

-- ---- a pair

at_map : (ρ : ℕ → ℕ) (l : List ℕ) (i : ℕ) → i < length l → get_or (map ρ l) i 0 ≡ ρ (get_or l i 0)
at_map ρ [] i h = absurd (omega arith)
at_map ρ (x ∷ l) zero h = refl
at_map ρ (x ∷ l) (suc i) h = at_map ρ l i (omega arith)

record SameOut (ρ : ℕ → ℕ) (r r' : Option ℕ) (w w' ls ls' js js' : List ℕ) : Type 0 where
  answer : r' ≡ r
  words : Renumbered ρ (view w) (view w')
  joins : RenumberedList ρ (2 * made_count r) js js'
  lefts : ls' ≡ map ρ ls

abbrev SameOuts : (ℕ → ℕ) → Out → Out → Type 0
SameOuts ρ (out r w ls js) (out r' w' ls' js') = SameOut ρ r r' w w' ls ls' js js'

with_lefts_lem : {ρ : ℕ → ℕ} (x : List ℕ) (c c' : Made) → SameMade ρ c c' → SameOuts ρ (with_lefts x c) (with_lefts (map ρ x) c')
with_lefts_lem x (made r y q) (made r' y' q') z = record { answer = z.answer; words = z.words; joins = z.joins; lefts = refl }

module _ {ρ : ℕ → ℕ} (w w' : List ℕ) (al : Renumbered ρ (view w) (view w')) (ls rs fs js js' : List ℕ) (m i j : ℕ) (l : RenumberedList ρ (2 * m) js js')
    (t : PairAt w ls rs fs js m i j) (t' : PairAt w' (map ρ ls) (map ρ rs) fs js' m i j) where
  v : Valid w ls rs fs i j
  v = pair_valid w ls rs fs js m i j t

  left_i : get_or (map ρ ls) i 0 ≡ ρ (get_or ls i 0)
  left_i = at_map ρ ls i (omega (arith, t.before, t.low, t.pairing.lefts))

  left_j : get_or (map ρ ls) j 0 ≡ ρ (get_or ls j 0)
  left_j = at_map ρ ls j (omega (arith, t.low, t.pairing.lefts))

  x_left_i : x_of w' (get_or (map ρ ls) i 0) ≡ x_of w (get_or ls i 0)
  x_left_i = ap (x_of w') left_i ∙ al.xs (get_or ls i 0) v.one.same.one.bound

  x_left_j : x_of w' (get_or (map ρ ls) j 0) ≡ x_of w (get_or ls j 0)
  x_left_j = ap (x_of w') left_j ∙ al.xs (get_or ls j 0) v.two.same.one.bound

  x_right_i : x_of w' (get_or (map ρ rs) i 0) ≡ x_of w (get_or rs i 0)
  x_right_i = ap (x_of w') (at_map ρ rs i (omega (arith, t.before, t.low, t.pairing.rights))) ∙ al.xs (get_or rs i 0) v.one.same.two.bound

  x_right_j : x_of w' (get_or (map ρ rs) j 0) ≡ x_of w (get_or rs j 0)
  x_right_j = ap (x_of w') (at_map ρ rs j (omega (arith, t.low, t.pairing.rights))) ∙ al.xs (get_or rs j 0) v.two.same.two.bound

  apart_alike : apart_of w' (map ρ ls) (map ρ rs) fs i j ≡ apart_of w ls rs fs i j
  unfolding apart_of
  apart_alike = rw (x_left_i, x_left_j, x_right_i, x_right_j)

  first_alike : first_one w' (map ρ ls) fs i j ≡ ρ (first_one w ls fs i j)
  unfolding first_one
  first_alike =
      rw (left_i, left_j, al.ys (get_or ls i 0) v.one.same.one.bound)
      (one_alike w w' al t.pairing.ready t'.pairing.ready (eqb (get_or fs i 0) 1) (y_of w (get_or ls i 0)) (get_or ls i 0) (get_or ls j 0) v.one.same.one.bound v.two.same.one.bound).0

  second_alike : second_one w' (map ρ ls) fs i j ≡ ρ (second_one w ls fs i j)
  unfolding second_one
  second_alike =
      rw (left_i, left_j, al.ys (get_or ls i 0) v.one.same.one.bound)
      (two_alike w w' al t.pairing.ready t'.pairing.ready (eqb (get_or fs i 0) 1) (y_of w (get_or ls i 0)) (get_or ls i 0) (get_or ls j 0) v.one.same.one.bound v.two.same.one.bound).0

  moved_alike : apart_of w ls rs fs i j ≡ false → SameOuts ρ (moved_pair w ls fs js m i j) (moved_pair w' (map ρ ls) fs js' m i j)
  unfolding moved_pair join_pair
  moved_alike e =
      rw (first_alike, second_alike, map_set ρ ls i a, map_set ρ (set ls i a) j b)
      (with_lefts_lem (set (set ls i a) j b) (cond (eqb (get_or fs i 0) 1) (make_join w js m a b) (make_join w js m b a))
      (cond (eqb (get_or fs i 0) 1) (make_join w' js' m (ρ a) (ρ b)) (make_join w' js' m (ρ b) (ρ a))) (go (eqb (get_or fs i 0) 1)))
    where
      a : ℕ
      a = first_one w ls fs i j

      b : ℕ
      b = second_one w ls fs i j

      over : Overlapping w ls rs fs i j
      over = pair_overlaps w ls rs fs js m i j t e

      over' : Overlapping w' (map ρ ls) (map ρ rs) fs i j
      over' = pair_overlaps w' (map ρ ls) (map ρ rs) fs js' m i j t' (apart_alike ∙ e)

      go : (on : Bool) → SameMade ρ (cond on (make_join w js m a b) (make_join w js m b a)) (cond on (make_join w' js' m (ρ a) (ρ b)) (make_join w' js' m (ρ b) (ρ a)))
      go true = make_alike w w' al js js' m a b l (making_on w ls rs fs i j over js m t.pairing) (rw (← first_alike, ← second_alike) (making_on w' (map ρ ls) (map ρ rs) fs i j over' js' m t'.pairing))
      go false = make_alike w w' al js js' m b a l (making_back w ls rs fs i j over js m t.pairing) (rw (← first_alike, ← second_alike) (making_back w' (map ρ ls) (map ρ rs) fs i j over' js' m t'.pairing))

  pair_alike : SameOuts ρ (pair_of rs fs js i j w ls m) (pair_of (map ρ rs) fs js' i j w' (map ρ ls) m)
  unfolding pair_of
  pair_alike = rw apart_alike (go (apart_of w ls rs fs i j) refl)
    where
      go : (z : Bool) → apart_of w ls rs fs i j ≡ z → SameOuts ρ (cond z (out (Some m) w ls js) (moved_pair w ls fs js m i j)) (cond z (out (Some m) w' (map ρ ls) js') (moved_pair w' (map ρ ls) fs js' m i j))
      go true e = record { answer = refl; words = al; joins = l; lefts = refl }
      go false e = moved_alike e

-- ---- the loops

-- two continuations that go on alike
abbrev Onward : (ℕ → ℕ) → List ℕ → List ℕ → (List ℕ → List ℕ → List ℕ → ℕ → Out) → (List ℕ → List ℕ → List ℕ → ℕ → Out) → Type 0
Onward ρ rs fs k k' =
    (x x' ls js js' : List ℕ) (m : ℕ) → Renumbered ρ (view x) (view x') → RenumberedList ρ (2 * m) js js' → Pairing x ls rs fs js m → Pairing x' (map ρ ls) (map ρ rs) fs js' m
    → SameOuts ρ (k x ls js m) (k' x' (map ρ ls) js' m)

then_alike : {ρ : ℕ → ℕ} (rs fs : List ℕ) (k k' : List ℕ → List ℕ → List ℕ → ℕ → Out) (c c' : Out) → SameOuts ρ c c' → PairingOf rs fs c → PairingOf (map ρ rs) fs c' → Onward ρ rs fs k k'
    → SameOuts ρ (and_then k c) (and_then k' c')
then_alike {ρ} rs fs k k' (out (Some m) x ls js) (out (Some m') x' ls' js') z p p' f =
    let a = z.answer in
    let e : m' ≡ m = cc in
    subst (λ (n : ℕ). SameOuts ρ (k x ls js m) (k' x' ls' js' n)) (sym e)
    (subst (λ (q : List ℕ). SameOuts ρ (k x ls js m) (k' x' q js' m)) (sym z.lefts)
    (f x x' ls js js' m z.words z.joins p (subst (λ (q : List ℕ). Pairing x' q (map ρ rs) fs js' m) z.lefts (subst (λ (n : ℕ). Pairing x' ls' (map ρ rs) fs js' n) e p'))))
then_alike rs fs k k' (out (Some m) x ls js) (out None x' ls' js') z p p' f = let a = z.answer in let y : ◌≡◌ {A = ℕ} 0 1 = cc in absurd (omega arith)
then_alike rs fs k k' (out None x ls js) (out (Some m') x' ls' js') z p p' f = let a = z.answer in let y : ◌≡◌ {A = ℕ} 0 1 = cc in absurd (omega arith)
then_alike rs fs k k' (out None x ls js) (out None x' ls' js') z p p' f = z

-- a right point is none in both or in neither
none_test : {ρ : ℕ → ℕ} (w w' : List ℕ) → Renumbered ρ (view w) (view w') → points_of w ≤ limit.POINTS → (rs : List ℕ) (i : ℕ) → i < length rs → eqb (get_or (map ρ rs) i 0) NONE ≡ eqb (get_or rs i 0) NONE
none_test {ρ} w w' al h rs i l =
    ap (λ (n : ℕ). eqb n NONE) (at_map ρ rs i l) ∙ subst (λ (x : ℕ). eqb (ρ (get_or rs i 0)) x ≡ eqb (get_or rs i 0) NONE) (none al h) (tells_apart al (get_or rs i 0) NONE)

inner_alike : {ρ : ℕ → ℕ} (f : ℕ) (rs fs : List ℕ) (i j : ℕ) → get_or rs i 0 ≢ NONE → get_or (map ρ rs) i 0 ≢ NONE → i < j → j + f ≡ limit.SEGMENTS → Onward ρ rs fs (inner_from f rs fs i j) (inner_from f (map ρ rs) fs i j)
unfolding inner_from
inner_alike zero rs fs i j d d' b e x x' ls js js' m al l p p' = record { answer = refl; words = al; joins = l; lefts = refl }
inner_alike {ρ} (suc f) rs fs i j d d' b e x x' ls js js' m al l p p' =
    let q = none_test x x' al p.ready.resolved.few_points rs j (omega (arith, p.rights)) in
    rw q (go q (eqb (get_or rs j 0) NONE) refl (inner_alike f rs fs i (j + 1) d d' (omega arith) (omega arith)))
  where
    go : eqb (get_or (map ρ rs) j 0) NONE ≡ eqb (get_or rs j 0) NONE → (z : Bool) → eqb (get_or rs j 0) NONE ≡ z → Onward ρ rs fs (inner_from f rs fs i (j + 1)) (inner_from f (map ρ rs) fs i (j + 1))
        → SameOuts ρ (cond z (out (Some m) x ls js) (and_then (inner_from f rs fs i (j + 1)) (pair_of rs fs js i j x ls m)))
        (cond z (out (Some m) x' (map ρ ls) js') (and_then (inner_from f (map ρ rs) fs i (j + 1)) (pair_of (map ρ rs) fs js' i j x' (map ρ ls) m)))
    go q true y r = record { answer = refl; words = al; joins = l; lefts = refl }
    go q false y r =
        let t : PairAt x ls rs fs js m i j = record { pairing = p; before = b; low = omega arith; one = d; two = eqb-false _ _ y } in
        let t' : PairAt x' (map ρ ls) (map ρ rs) fs js' m i j = record { pairing = p'; before = b; low = omega arith; one = d'; two = eqb-false _ _ (q ∙ y) } in
        then_alike rs fs (inner_from f rs fs i (j + 1)) (inner_from f (map ρ rs) fs i (j + 1)) (pair_of rs fs js i j x ls m) (pair_of (map ρ rs) fs js' i j x' (map ρ ls) m)
        (pair_alike x x' al ls rs fs js js' m i j l t t') (pair_kept x ls rs fs js m i j t) (pair_kept x' (map ρ ls) (map ρ rs) fs js' m i j t') r

outer_alike : {ρ : ℕ → ℕ} (f : ℕ) (rs fs : List ℕ) (i : ℕ) → i + f ≡ limit.SEGMENTS → Onward ρ rs fs (outer_from f rs fs i) (outer_from f (map ρ rs) fs i)
unfolding outer_from
outer_alike zero rs fs i e x x' ls js js' m al l p p' = record { answer = refl; words = al; joins = l; lefts = refl }
outer_alike {ρ} (suc f) rs fs i e x x' ls js js' m al l p p' =
    let q = none_test x x' al p.ready.resolved.few_points rs i (omega (arith, p.rights)) in
    rw q (go q (eqb (get_or rs i 0) NONE) refl (outer_alike f rs fs (i + 1) (omega arith)))
  where
    go : eqb (get_or (map ρ rs) i 0) NONE ≡ eqb (get_or rs i 0) NONE → (z : Bool) → eqb (get_or rs i 0) NONE ≡ z → Onward ρ rs fs (outer_from f rs fs (i + 1)) (outer_from f (map ρ rs) fs (i + 1))
        → SameOuts ρ (cond z (out (Some m) x ls js) (and_then (outer_from f rs fs (i + 1)) (inner_from f rs fs i (i + 1) x ls js m)))
        (cond z (out (Some m) x' (map ρ ls) js') (and_then (outer_from f (map ρ rs) fs (i + 1)) (inner_from f (map ρ rs) fs i (i + 1) x' (map ρ ls) js' m)))
    go q true y r = record { answer = refl; words = al; joins = l; lefts = refl }
    go q false y r =
        let d = eqb-false (get_or rs i 0) NONE y in
        let d' = eqb-false (get_or (map ρ rs) i 0) NONE (q ∙ y) in
        then_alike rs fs (outer_from f rs fs (i + 1)) (outer_from f (map ρ rs) fs (i + 1)) (inner_from f rs fs i (i + 1) x ls js m) (inner_from f (map ρ rs) fs i (i + 1) x' (map ρ ls) js' m)
        (inner_alike f rs fs i (i + 1) d d' (omega arith) (omega arith) x x' ls js js' m al l p p')
        (inner_kept f rs fs i (i + 1) x ls js m p d (omega arith) (omega arith)) (inner_kept f (map ρ rs) fs i (i + 1) x' (map ρ ls) js' m p' d' (omega arith) (omega arith)) r

-- ---- the whole

made_alike : {ρ : ℕ → ℕ} (c c' : Out) → SameOuts ρ c c' → SameMade ρ (made_of c) (made_of c')
made_alike (out r w ls js) (out r' w' ls' js') z = record { answer = z.answer; words = z.words; joins = z.joins }

-- the columns of renumbered segments
lefts : List HorzSegment → List ℕ
lefts R = map (λ (r : HorzSegment). r.left) R

rights : List HorzSegment → List ℕ
rights R = map (λ (r : HorzSegment). r.right) R

forwards : List HorzSegment → List ℕ
forwards R = map (λ (r : HorzSegment). r.forward) R

lefts_map : (ρ : ℕ → ℕ) (R : List HorzSegment) → lefts (map (renumbered_segment ρ) R) ≡ map ρ (lefts R)
unfolding lefts
lefts_map ρ [] = refl
lefts_map ρ (r ∷ R) = ap (λ (l : List ℕ). ρ r.left ∷ l) (lefts_map ρ R)

rights_map : (ρ : ℕ → ℕ) (R : List HorzSegment) → rights (map (renumbered_segment ρ) R) ≡ map ρ (rights R)
unfolding rights
rights_map ρ [] = refl
rights_map ρ (r ∷ R) = ap (λ (l : List ℕ). ρ r.right ∷ l) (rights_map ρ R)

forwards_map : (ρ : ℕ → ℕ) (R : List HorzSegment) → forwards (map (renumbered_segment ρ) R) ≡ forwards R
unfolding forwards
forwards_map ρ [] = refl
forwards_map ρ (r ∷ R) = ap (λ (l : List ℕ). r.forward ∷ l) (forwards_map ρ R)

-- convert_horz_segs_to_joins on alike words, with renumbered segments and joins
pub convert_alike : {ρ : ℕ → ℕ} (w w' ps ps' : List ℕ) (n : ℕ) (js js' : List ℕ) (m : ℕ) → Converting w ps n js m → Converting w' ps' n js' m → Renumbered ρ (view w) (view w') → RenumberedList ρ n ps ps' → RenumberedList ρ (2 * m) js js'
    → SameMade ρ (convert_horz_segs_to_joins w n ps js m) (convert_horz_segs_to_joins w' n ps' js' m)
unfolding convert_horz_segs_to_joins pairs_of lefts rights forwards
convert_alike {ρ} w w' ps ps' n js js' m t t' al lp lj =
    let R = sorted_segments w n ps in
    let R' = sorted_segments w' n ps' in
    let h : R' ≡ map (renumbered_segment ρ) R = sorted_alike w w' al t.listed.ready t'.listed.ready n ps ps' t.listed lp in
    let a : lefts R' ≡ map ρ (lefts R) = ap lefts h ∙ lefts_map ρ R in
    let b : rights R' ≡ map ρ (rights R) = ap rights h ∙ rights_map ρ R in
    let c : forwards R' ≡ forwards R = ap forwards h ∙ forwards_map ρ R in
    rw (a, b, c)
    (made_alike (outer_from limit.SEGMENTS (rights R) (forwards R) 0 w (lefts R) js m) (outer_from limit.SEGMENTS (map ρ (rights R)) (forwards R) 0 w' (map ρ (lefts R)) js' m)
    (outer_alike limit.SEGMENTS (rights R) (forwards R) 0 (omega arith) w w' (lefts R) js js' m al lj
    (converting_pairing w ps n js m t (lefts R) (rights R) (forwards R) refl)
    (rw (← a, ← b, ← c) (converting_pairing w' ps' n js' m t' (lefts R') (rights R') (forwards R') refl))))
