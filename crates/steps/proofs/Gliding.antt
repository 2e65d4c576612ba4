-- Turns that only move on, many at once: each writes the present place, and past a loop's end the mark, so that a walk's words are those of the first but for these two.
use Prim.Native.Nat.{ℕ, ◌+◌, ◌^◌, ◌<◌, ◌≤◌}
use mathlib.Core.Path.{◌≡◌, refl, ap, ◌∙◌, sym, subst}
use mathlib.Core.Logic.{◌≢◌}
use mathlib.Core.Bool.{Bool, true, false, not, cond, ◌||◌}
use mathlib.Core.List.{List}
use native.Mathlib.Omega.{arith}
use lib.Dec.{eqb}
use lib.Seq.{set-get_or, set-set}
use lib.ListN.{length}
use borrow.Author.Tests.{eq-eqb, ne_eqb, lt-ltb, not-true}
use Rattle.rings.specs.Progress.{Due, removal, triangle, split, done, is_done, while_removing}
use Rattle.rings.proofs.Counting.{occ_head}
use Rattle.rings.proofs.Members.{prev_next}
use Rattle.geometry.specs.declared.Point.{Point}
use Rattle.geometry.specs.Plane.{is_collinear, removable, segments_intersect}
use Rattle.lone.specs.Act.{Act, drop_point, discard, move_on}
use Rattle.lone.specs.Forest.{ok}
use Rattle.store.specs.Field.{Field, pt, rc, NEXT, PREV, FIRST, MARK, PRESENT, START, BLOCK, size, base}
use Rattle.store.specs.Words.{Store, put, cell, view}
use Rattle.store.specs.Stores.{upd}
use Rattle.store.specs.Sound.{recs, Closed, mark_of, due_of, due_at}
use Rattle.store.specs.Good.{Sound, SoundWords}
use Rattle.store.specs.Value.{preserve_collinear, point_of}
use Rattle.store.proofs.Storing.{view_put, length_put}
use Rattle.walks.specs.Ring.{OnRing}
use Rattle.walks.proofs.Visiting as walks
use Rattle.acts.specs.Apply.{after_w}
use Rattle.acts.specs.Step.{outcome, live, step_w}
use Rattle.acts.specs.Run.{step_words}
use Rattle.acts.proofs.Positions.{due_mark, mark_due}
use Rattle.acts.proofs.Stepping.{due_is_lem, step_w_sound}
use Rattle.turns.specs.declared.Due as declared
use Rattle.turns.specs.declared.Due.TheVariants.{Removal, Split}
use Rattle.steps.specs.declared.coming.Coming.{Coming}
use Rattle.steps.specs.declared.coming.Coming.TheVariants.{Nothing, Step, Drop}
use Rattle.steps.specs.declared.glide.WalkEnd.{WalkEnd}
use Rattle.steps.specs.declared.glide.WalkEnd.TheVariants.{At, Gone, Past}
use Rattle.turns.specs.Code.{due_is}
use Rattle.turns.specs.Form.{raised, geometry_of}
use Rattle.turns.specs.Reads.{Steps, Going, Found, Valued, Three}
use Rattle.turns.specs.Decide.{remove_at, valid_without, removal_at, split_at, decide_due, decide_at}
use Rattle.steps.specs.Expects.{Expects, coming_if}
use Rattle.steps.specs.Glide.{Glided, still, onward, Glides, DueAt, leaves, place_of, coming_by, GlidesTo}
use Rattle.turns.proofs.Reading.{low, on_next}
use Rattle.turns.proofs.Ready.{laws, going, decided}
use Rattle.steps.proofs.Steps.{roomy, went}

-- ---- one word written

own_put : (f : Field) (w : List ℕ) (i : ℕ) → i < size f → put f w i (cell f w i) ≡ w
unfolding put cell
own_put f w i h = rw (lt-ltb i (size f) h) (set-get_or w (base f + i) 0)

put_again : (f : Field) (w : List ℕ) (i a b : ℕ) → put f (put f w i a) i b ≡ put f w i b
unfolding put
put_again f w i a b = set-set w (base f + i) a b

-- the point before the next is the point itself
ring_back : (w : List ℕ) (x : ℕ) → OnRing w x → cell (pt PREV) w (cell (pt NEXT) w x) ≡ x
ring_back w x o = let s = walks.split w x o in prev_next (view w (pt NEXT)) (view w (pt PREV)) _ _ s.ring x (occ_head x s.others)

-- what comes next is expected
expected : (w : List ℕ) (i : ℕ) (b : Bool) → b ≡ live (view w) i → Expects (coming_if b) w i
expected w i true e = e
expected w i false e = e

-- a closed ring is live unless it is done
live_at : (s : Store) (i : ℕ) → Closed s i → not (is_done (due_at s i)) ≡ live s i
live_at s i c = rw (lt-ltb i (recs s) c.known, c.closed, c.ringed, due_is_lem (geometry_of s) raised s i (due_at s i))

-- ---- one turn that moves on, at the words with x as the present place

module _ (w : List ℕ) (i : ℕ) (B : Steps w i) where
  record_in : i < 512
  record_in = (going w i B).record_in

  look : (x : ℕ) → view (put (rc PRESENT) w i x) ≡ upd (view w) (rc PRESENT) i x
  look x = view_put w B.long (rc PRESENT) i x record_in

  long_at : (x : ℕ) → BLOCK ≤ length (put (rc PRESENT) w i x)
  long_at x = rw (length_put (rc PRESENT) w i x) B.long

  marked : (x m : ℕ) → view (put (rc MARK) (put (rc PRESENT) w i x) i m) ≡ upd (upd (view w) (rc PRESENT) i x) (rc MARK) i m
  marked x m = view_put (put (rc PRESENT) w i x) (long_at x) (rc MARK) i m record_in ∙ ap (λ (s : Store). upd s (rc MARK) i m) (look x)

  steps_at : (x : ℕ) → Sound (view (put (rc PRESENT) w i x)) → Steps (put (rc PRESENT) w i x) i
  steps_at x o =
      let c = B.closed in
      let k : Closed (upd (view w) (rc PRESENT) i x) i = record { known = c.known; ringed = c.ringed; closed = c.closed } in
      record {
        long = long_at x;
        sound = o;
        closed = subst (λ (s : Store). Closed s i) (sym (look x)) k;
        unfinished = ap (λ (s : Store). is_done (due_at s i)) (look x) ∙ B.unfinished;
      }

  -- past the loop's end, where e is due
  live_past : (x : ℕ) (e : Due) → not (is_done e) ≡ live (view (put (rc MARK) (put (rc PRESENT) w i x) i (mark_of e))) i
  live_past x e =
      let c = B.closed in
      let s : Store = upd (upd (view w) (rc PRESENT) i x) (rc MARK) i (mark_of e) in
      let k : Closed s i = record { known = c.known; ringed = c.ringed; closed = c.closed } in
      let d : due_at s i ≡ e = ap (λ (b : Bool). due_of (cond b (mark_of e) (cell (rc MARK) w i))) (eq-eqb i i refl) ∙ due_mark e in
      sym (ap (λ (d : Due). not (is_done d)) d) ∙ live_at s i k ∙ ap (λ (s : Store). live s i) (sym (marked x (mark_of e)))

  module _ (x : ℕ) (o : Sound (view (put (rc PRESENT) w i x))) (e : Due) where
    written : after_w raised (put (rc PRESENT) w i x) i (move_on e) ≡ put (rc MARK) (put (rc PRESENT) w i (cell (pt NEXT) w x)) i (mark_of e)
    written =
        let v : List ℕ = put (rc PRESENT) w i x in
        let n : ℕ = cell (pt NEXT) w x in
        let at_x : view v (pt NEXT) (view v (rc PRESENT) i) ≡ n = ap (λ (s : Store). s (pt NEXT) (s (rc PRESENT) i)) (look x) ∙ ap (λ (b : Bool). cell (pt NEXT) w (cond b x (cell (rc PRESENT) w i))) (eq-eqb i i refl) in
        ap (λ (k : ℕ). put (rc MARK) (put (rc PRESENT) v i k) i (mark_of e)) at_x ∙ ap (λ (u : List ℕ). put (rc MARK) u i (mark_of e)) (put_again (rc PRESENT) w i x n)

    module _ (q : move_on e ≡ decide_at raised.of (geometry_of (view (put (rc PRESENT) w i x))) (view (put (rc PRESENT) w i x)) i) where
      turned : outcome ok (put (rc MARK) (put (rc PRESENT) w i (cell (pt NEXT) w x)) i (mark_of e)) ≡ step_words (geometry_of (view (put (rc PRESENT) w i x))) raised (put (rc PRESENT) w i x) i
      turned = went (put (rc PRESENT) w i x) i (steps_at x o) (move_on e) (decided (put (rc PRESENT) w i x) i (steps_at x o) (move_on e) q) true (roomy (view (put (rc PRESENT) w i x)) o (move_on e) refl refl) (put (rc MARK) (put (rc PRESENT) w i (cell (pt NEXT) w x)) i (mark_of e)) refl (sym written)

      sound_on : Sound (view (put (rc MARK) (put (rc PRESENT) w i (cell (pt NEXT) w x)) i (mark_of e)))
      unfolding step_words
      sound_on =
          let v : List ℕ = put (rc PRESENT) w i x in
          let s : step_w (geometry_of (view v)) raised v i ≡ put (rc MARK) (put (rc PRESENT) w i (cell (pt NEXT) w x)) i (mark_of e) = cc turned in
          subst (λ (u : List ℕ). Sound (view u)) s (step_w_sound (geometry_of (view v)) raised (laws (preserve_collinear (view v))) v i (steps_at x o).long o)

-- ---- the loops: how far they are

-- the steps so far lead to the words with x as the present place; p is the point before x
pub record GlidingAt (d : Due) (w : List ℕ) (i p x : ℕ) : Type 0 where
  pub here : Steps w i
  pub mark : cell (rc MARK) w i ≡ mark_of d
  pub glided : Glided i w (put (rc PRESENT) w i x)
  pub sound : Sound (view (put (rc PRESENT) w i x))
  pub x_on : OnRing w x
  pub p_on : OnRing w p
  pub p_is : p ≡ cell (pt PREV) w x

pub begun : (d : Due) (w : List ℕ) (i x p : ℕ) → DueAt d w i → Found w (cell (rc PRESENT) w i) x → Found w (cell (pt PREV) w x) p → GlidingAt d w i p x
begun d w i x p b X P =
    let s = b.steps in
    let e : w ≡ put (rc PRESENT) w i x = sym (ap (put (rc PRESENT) w i) X.is ∙ own_put (rc PRESENT) w i (record_in w i s)) in
    record {
      here = s;
      mark = mark_due (cell (rc MARK) w i) d ((s.sound.good i s.closed.known).meant s.closed) b.due;
      glided = subst (Glided i w) e still;
      sound = subst (λ (u : List ℕ). Sound (view u)) e s.sound;
      x_on = X.on;
      p_on = P.on;
      p_is = P.is;
    }

pub due_going : (d : Due) (w : List ℕ) (i : ℕ) → DueAt d w i → Going w i
due_going d w i b = going w i b.steps

module _ (d : Due) (w : List ℕ) (i p x : ℕ) (A : GlidingAt d w i p x) where
  pub x_on : OnRing w x
  x_on = A.x_on

  pub about : (n : ℕ) → Found w (cell (pt NEXT) w x) n → Three w p x n
  about n N = record { one = A.p_on; two = A.x_on; three = N.on }

  -- stopped at x
  stopped : (e : Due) → GlidesTo e w i (At x)
  stopped e =
      let s = steps_at w i A.here x A.sound in
      record {
        glides = record { glided = A.glided; sound = record { long = s.long; sound = s.sound }; expects = sym (ap not s.unfinished) ∙ live_at (view (put (rc PRESENT) w i x)) i s.closed };
        low = low w x A.x_on;
      }

  -- the decision at x, by the step due
  decides : (s : Store → Act Point) → ((t : Store) → due_at t i ≡ d → decide_at raised.of (geometry_of t) t i ≡ s t) → (a : Act Point) → a ≡ s (upd (view w) (rc PRESENT) i x) → a ≡ decide_at raised.of (geometry_of (view (put (rc PRESENT) w i x))) (view (put (rc PRESENT) w i x)) i
  decides s f a q =
      let l = look w i A.here x in
      let m : due_at (view (put (rc PRESENT) w i x)) i ≡ d = ap (λ (t : Store). due_at t i) l ∙ ap due_of A.mark ∙ due_mark d in
      q ∙ ap s (sym l) ∙ sym (f (view (put (rc PRESENT) w i x)) m)

  module _ (n : ℕ) (N : Found w (cell (pt NEXT) w x) n) where
    -- a turn more, in the loop
    along : move_on d ≡ decide_at raised.of (geometry_of (view (put (rc PRESENT) w i x))) (view (put (rc PRESENT) w i x)) i → GlidingAt d w i x n
    along q =
        let k : ℕ = cell (pt NEXT) w x in
        let m : cell (rc MARK) (put (rc PRESENT) w i k) i ≡ mark_of d = ap (λ (s : Store). s (rc MARK) i) (look w i A.here k) ∙ A.mark in
        let r : put (rc MARK) (put (rc PRESENT) w i k) i (mark_of d) ≡ put (rc PRESENT) w i k = ap (put (rc MARK) (put (rc PRESENT) w i k) i) (sym m) ∙ own_put (rc MARK) (put (rc PRESENT) w i k) i (record_in w i A.here) in
        subst (GlidingAt d w i x) (sym N.is)
        (record {
          here = A.here;
          mark = A.mark;
          glided = onward (put (rc PRESENT) w i x) (put (rc PRESENT) w i k) A.glided (ap (outcome ok) (sym r) ∙ turned w i A.here x A.sound d q);
          sound = subst (λ (u : List ℕ). Sound (view u)) r (sound_on w i A.here x A.sound d q);
          x_on = on_next w x A.x_on;
          p_on = A.x_on;
          p_is = sym (ring_back w x A.x_on);
        })

    -- the last turn of the loop
    ended : (e : Due) → move_on e ≡ decide_at raised.of (geometry_of (view (put (rc PRESENT) w i x))) (view (put (rc PRESENT) w i x)) i → GlidesTo e w i (Past n)
    ended e q =
        let k : ℕ = cell (pt NEXT) w x in
        let v : List ℕ = put (rc MARK) (put (rc PRESENT) w i k) i (mark_of e) in
        subst (λ (n : ℕ). GlidesTo e w i (Past n)) (sym N.is)
        (record {
          glides = record {
            glided = onward (put (rc PRESENT) w i x) v A.glided (turned w i A.here x A.sound e q);
            sound = record { long = rw (length_put (rc MARK) (put (rc PRESENT) w i k) i (mark_of e)) (long_at w i A.here k); sound = sound_on w i A.here x A.sound e q };
            expects = expected v i (not (is_done e)) (live_past w i A.here k e);
          };
          low = low w k (on_next w x A.x_on);
        })

at_due : (i : ℕ) (t : Store) (d : Due) → due_at t i ≡ d → decide_at raised.of (geometry_of t) t i ≡ decide_due raised.of (geometry_of t) t i d
unfolding decide_at
at_due i t d e = ap (decide_due raised.of (geometry_of t) t i) e

-- ---- the removal loop
-- a point that is not in line with its neighbours stays
pub not_in_line : (w : List ℕ) (p x n : ℕ) (line : Bool) (a b c : Point) → Valued w p a → Valued w x b → Valued w n c → line ≡ is_collinear a b c → not line ≡ true → false ≡ remove_at raised.of (geometry_of (view w)) (view w) p x n
unfolding removable
not_in_line w p x n line a b c A B C e h = rw (← A.is, ← B.is, ← C.is, ← e, not-true line h)

module _ (w : List ℕ) (i p x : ℕ) (A : GlidingAt removal w i p x) where
  pub removal_stops : GlidesTo triangle w i (At x)
  removal_stops = stopped removal w i p x A triangle

  module _ (n : ℕ) (N : Found w (cell (pt NEXT) w x) n) (g : Bool) (eg : g ≡ remove_at raised.of (geometry_of (view w)) (view w) p x n) (h : g ≡ true) where
    by_drop : cond (valid_without raised.of (geometry_of (upd (view w) (rc PRESENT) i x)) (upd (view w) (rc PRESENT) i x) x) drop_point (discard while_removing) ≡ removal_at raised.of (geometry_of (upd (view w) (rc PRESENT) i x)) (upd (view w) (rc PRESENT) i x) i
    unfolding removal_at
    by_drop = rw (eq-eqb i i refl) (rw (← N.is, ← A.p_is) (rw (sym eg ∙ h)))

    -- stopped at x, which is dropped
    pub removal_drops : GlidesTo triangle w i (Gone x)
    removal_drops =
        let v : List ℕ = put (rc PRESENT) w i x in
        let s = steps_at w i A.here x A.sound in
        let l = look w i A.here x in
        let at_x : view v (rc PRESENT) i ≡ x = ap (λ (s : Store). s (rc PRESENT) i) l ∙ ap (λ (b : Bool). cond b x (cell (rc PRESENT) w i)) (eq-eqb i i refl) in
        record {
          glides = record {
            glided = A.glided;
            sound = record { long = s.long; sound = s.sound };
            expects = record {
              steps = s;
              on = subst (OnRing v) at_x (going v i s).present_on;
              drops = ap (λ (s : Store). cond (valid_without raised.of (geometry_of s) s x) drop_point (discard while_removing)) l ∙ decides removal w i p x A (λ t. removal_at raised.of (geometry_of t) t i) (λ t e. at_due i t removal e) _ by_drop;
            };
          };
          low = low w x A.x_on;
        }

  module _ (n : ℕ) (N : Found w (cell (pt NEXT) w x) n) (g : Bool) (eg : g ≡ remove_at raised.of (geometry_of (view w)) (view w) p x n) (h : g ≡ false) (s : ℕ) (es : s ≡ cell (rc START) w i) where
    by_start : move_on (cond (eqb n (cell (rc START) w i)) triangle removal) ≡ removal_at raised.of (geometry_of (upd (view w) (rc PRESENT) i x)) (upd (view w) (rc PRESENT) i x) i
    unfolding removal_at
    by_start = rw (eq-eqb i i refl) (rw (← N.is, ← A.p_is) (rw (sym eg ∙ h)))

    removal_is : (b : Bool) → eqb n (cell (rc START) w i) ≡ b → move_on (cond b triangle removal) ≡ decide_at raised.of (geometry_of (view (put (rc PRESENT) w i x))) (view (put (rc PRESENT) w i x)) i
    removal_is b e = decides removal w i p x A (λ t. removal_at raised.of (geometry_of t) t i) (λ t e. at_due i t removal e) (move_on (cond b triangle removal)) (ap (λ (b : Bool). move_on (cond b triangle removal)) (sym e) ∙ by_start)

    pub removal_on : n ≢ s → GlidingAt removal w i x n
    removal_on q = along removal w i p x A n N (removal_is false (ne_eqb n (cell (rc START) w i) (λ z. q (z ∙ sym es))))

    pub removal_ends : n ≡ s → GlidesTo triangle w i (Past n)
    removal_ends q = ended removal w i p x A n N triangle (removal_is true (eq-eqb n (cell (rc START) w i) (q ∙ es)))

-- ---- the split loop
pub hit_is :
    (w : List ℕ) (p x y z : ℕ) (a b c d : Point) → Valued w p a → Valued w x b → Valued w y c → Found w (cell (pt NEXT) w y) z → Valued w z d →
    (t : Bool) → t ≡ segments_intersect a b c d → t ≡ segments_intersect (point_of w p) (point_of w x) (point_of w y) (point_of w (cell (pt NEXT) w y))
hit_is w p x y z a b c d A B C Z D t e = rw (← Z.is) (rw (← A.is, ← B.is, ← C.is, ← D.is) e)

module _ (w : List ℕ) (i p x : ℕ) (A : GlidingAt split w i p x) where
  pub split_stops : GlidesTo done w i (At x)
  split_stops = stopped split w i p x A done

  module _ (y : ℕ) (Y : Found w (cell (pt NEXT) w x) y) (t : Bool) (et : t ≡ segments_intersect (point_of w p) (point_of w x) (point_of w y) (point_of w (cell (pt NEXT) w y))) (h : t ≡ false) (f : ℕ) (ef : f ≡ cell (rc FIRST) w i) where
    by_ends : move_on (cond (eqb y (cell (rc FIRST) w i) || eqb y (cell (rc START) w i)) done split) ≡ split_at raised.of (geometry_of (upd (view w) (rc PRESENT) i x)) (upd (view w) (rc PRESENT) i x) i
    unfolding split_at
    by_ends = rw (eq-eqb i i refl) (rw (← Y.is, ← A.p_is) (rw (sym et ∙ h)))

    split_is : (a b : Bool) → eqb y (cell (rc FIRST) w i) ≡ a → eqb y (cell (rc START) w i) ≡ b → move_on (cond (a || b) done split) ≡ decide_at raised.of (geometry_of (view (put (rc PRESENT) w i x))) (view (put (rc PRESENT) w i x)) i
    split_is a b ea eb = decides split w i p x A (λ t. split_at raised.of (geometry_of t) t i) (λ t e. at_due i t split e) (move_on (cond (a || b) done split)) (rw (← ea, ← eb) by_ends)

    pub split_first : y ≡ f → GlidesTo done w i (Past y)
    split_first q = ended split w i p x A y Y done (split_is true (eqb y (cell (rc START) w i)) (eq-eqb y (cell (rc FIRST) w i) (q ∙ ef)) refl)

    module _ (qf : y ≢ f) (s : ℕ) (es : s ≡ cell (rc START) w i) where
      not_first : eqb y (cell (rc FIRST) w i) ≡ false
      not_first = ne_eqb y (cell (rc FIRST) w i) (λ u. qf (u ∙ sym ef))

      pub split_start : y ≡ s → GlidesTo done w i (Past y)
      split_start q = ended split w i p x A y Y done (split_is false true not_first (eq-eqb y (cell (rc START) w i) (q ∙ es)))

      pub split_on : y ≢ s → GlidingAt split w i x y
      split_on qs = along split w i p x A y Y (split_is false false not_first (ne_eqb y (cell (rc START) w i) (λ u. qs (u ∙ sym es))))

-- ---- by the step due
module _ (w : List ℕ) (i : ℕ) (b : Steps w i) where
  pub stays : Glides i w w Step
  stays = record { glided = still; sound = record { long = b.long; sound = b.sound }; expects = sym (ap not b.unfinished) ∙ live_at (view w) i b.closed }

  module _ (t : declared.Due) (e : due_is t ≡ due_at (view w) i) where
    pub due_removal : t ≡ Removal → DueAt removal w i
    due_removal h = record { steps = b; due = sym e ∙ ap due_is h }

    pub due_split : t ≡ Split → DueAt split w i
    due_split h = record { steps = b; due = sym e ∙ ap due_is h }

-- ---- the words written
module _ (r : WalkEnd) (x : ℕ) where
  pub at_low : r ≡ At x → place_of r < 2048 → x < 2 ^ 32
  at_low e h = omega (arith, ap place_of e)

  pub gone_low : r ≡ Gone x → place_of r < 2048 → x < 2 ^ 32
  gone_low e h = omega (arith, ap place_of e)

  pub past_low : r ≡ Past x → place_of r < 2048 → x < 2 ^ 32
  past_low e h = omega (arith, ap place_of e)

  module _ (m : ℕ) (w : List ℕ) (i : ℕ) (w₁ : List ℕ) (e₁ : w₁ ≡ put (rc PRESENT) w i x) where
    pub leaves_at : r ≡ At x → w₁ ≡ leaves m w i r
    leaves_at e = rw (e, e₁)

    pub leaves_gone : r ≡ Gone x → w₁ ≡ leaves m w i r
    leaves_gone e = rw (e, e₁)

    pub leaves_past : (w₂ : List ℕ) → r ≡ Past x → w₂ ≡ put (rc MARK) w₁ i m → w₂ ≡ leaves m w i r
    leaves_past w₂ e e₂ = rw (e, e₂, e₁)

pub gone_comes : (c : Coming) (r : WalkEnd) (x : ℕ) → r ≡ Gone x → Drop x ≡ coming_by c r
gone_comes c r x e = rw e

-- the walk's end written, and what comes next
pub walked : (e : Due) (w w' : List ℕ) (i : ℕ) (r : WalkEnd) (c : Coming) → GlidesTo e w i r → w' ≡ leaves (mark_of e) w i r → c ≡ coming_by (coming_if (not (is_done e))) r → Glides i w w' c
walked e w w' i r c W q k = rw (q, k) W.glides

pub not_going : (w : List ℕ) (i : ℕ) (b : Bool) → SoundWords w → b ≡ live (view w) i → b ≡ false → Glides i w w Nothing
not_going w i b s e h = record { glided = still; sound = s; expects = sym h ∙ e }
