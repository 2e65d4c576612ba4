-- The rounds, one turn at a time: a round gathers the box of its ring, and whether it met a point, while it marks the points; a record; and all records together.
use Prim.Native.Nat.{ℕ, ◌+◌, ◌-◌, ◌*◌, ◌%◌, ◌≤◌, ◌<◌}
use mathlib.Core.Path.{◌≡◌, refl, ap, ◌∙◌, sym, subst}
use mathlib.Core.Bool.{Bool, true, false, not, ◌&&◌, ◌||◌}
use mathlib.Core.Logic.{◌≢◌}
use mathlib.Core.List.{List}
use mathlib.Core.Option.{some}
use native.Mathlib.Omega.{arith}
use lib.Dec.{eqb, ltb}
use lib.ListN.{length, get_or, set}
use lib.Seq.{get_or-set_same, get_or-set_other}
use borrow.Author.Tests.{eq-eqb, ne_eqb, lt-ltb, ltb-false}
use Rattle.job.specs.Limits as limit
use Rattle.store.specs.declared.boxed.Sides.{Sides}
use Rattle.store.specs.Field.{pt, X, Y, NONE}
use Rattle.store.specs.Words.{view}
use Rattle.store.specs.Named.{points_of, records_of, next_of, first_of, owner_of, flags_of, progress_of, present_of, ring_of}
use Rattle.store.specs.Boxes.{sides_at, rect_of, misboxed}
use Rattle.bounds.specs.Along.{point_sides, widen_by, widen_along, box_from, same_sides}
use Rattle.bounds.proofs.Widening.{widen_is, widen_none}
use Rattle.bounds.proofs.Walking.{rest, found, begins, over, back, on, bare_not, says_misboxed}
use Rattle.audit.specs.Tests.{is_in, names_nothing, no_such_of, lost_taker, misplaced, untold}
use Rattle.audit.specs.Marks.{Counted, is_marked, mark_from, meets, faulty}
use Rattle.handed.specs.Rounds.{Tried, Unless, misplaced_if, faulty_of, RoundPassed, RingPassed, RecordPassed, RecordsPassed}
use Rattle.audit.proofs.Testing.{none, more, unmarked, mark_out, mark_met, mark_over, marks_none, marks_more, clash, or_parts}
use Rattle.handed.proofs.Meeting.{met_first, met_on, met_over, met_back}
use Rattle.handed.proofs.Trying.{tried_none, tried_both, tested}

pub something : {P : Type 0} → Unless true P
something = record { none = λ h. clash refl h }

-- ---- one round

-- the box before the first point
abbrev nowhere : Sides
nowhere = record { left = 2 * limit.COORDINATE; top = 2 * limit.COORDINATE; right = 0; bottom = 0 }

-- where the round from a that looks for k is, at p with left points to go: at its beginning, or on its way, a marked; with what is to come, b has the ring's box and e tells whether k is on the ring
pub data Gathers (w ms : List ℕ) (a k p left : ℕ) (e : Bool) (b : Sides) : Type 0 where
  begun : left ≡ limit.POINTS → p ≡ a → get_or ms a 0 ≡ 0 → e ≡ false → b ≡ nowhere → Gathers w ms a k p left e b
  going : is_marked ms a ≡ true → (e || is_in k (rest (next_of w) a left p)) ≡ is_in k (ring_of w a) → widen_along (view w) b (rest (next_of w) a left p) ≡ found (view w) a → Gathers w ms a k p left e b

pub gathers_first : (w ms : List ℕ) (a k : ℕ) → get_or ms a 0 ≡ 0 → Gathers w ms a k a limit.POINTS false nowhere
gathers_first w ms a k u = begun refl refl u refl refl

marked_here : (ms : List ℕ) (p : ℕ) → p < length ms → is_marked (set ms p 1) p ≡ true
marked_here ms p h = rw (get_or-set_same ms p 1 0 h)

-- the first point's box
first_box : (w : List ℕ) (k : ℕ) (b c : Sides) (x y : ℕ) → faulty w k ≡ false → b ≡ nowhere → x ≡ view w (pt X) k → y ≡ view w (pt Y) k → c ≡ widen_by b x y → c ≡ point_sides (view w) k
first_box w k b c x y f e ex ey ec =
    let t = or_parts (ltb (2 * limit.COORDINATE) (view w (pt X) k)) (ltb (2 * limit.COORDINATE) (view w (pt Y) k)) (tested w k f).table in
    widen_is (view w) b c k x y ex ey ec
    ∙ ap (λ (d : Sides). widen_by d (view w (pt X) k) (view w (pt Y) k)) e
    ∙ widen_none (view w) k (2 * limit.COORDINATE) (ltb-false (2 * limit.COORDINATE) (view w (pt X) k) t.0) (ltb-false (2 * limit.COORDINATE) (view w (pt Y) k) t.1)

module _ {w ms : List ℕ} {a k p left : ℕ} {e : Bool} {b : Sides} where
  one_on : Gathers w ms a k p left e b → (ms₀ : List ℕ) (m x y q : ℕ) (d : Bool) (c : Sides) (bad : Bool) → length ms ≡ length ms₀ → points_of w ≤ length ms₀ → m ≡ points_of w → 0 < left → p < m → get_or ms p 0 ≡ 0
      → d ≡ (e || eqb p k) → bad ≡ faulty w p → bad ≡ false → x ≡ view w (pt X) p → y ≡ view w (pt Y) p → c ≡ widen_by b x y → q ≡ next_of w p → Gathers w (set ms p 1) a k q (left - 1) d c
  one_on (begun l g n f i) ms₀ m x y q d c bad es r em z h u ed ef hf ex ey ec eq =
      let j : c ≡ point_sides (view w) a = first_box w p b c x y (sym ef ∙ hf) i ex ey ec ∙ ap (point_sides (view w)) g in
      let o : d ≡ eqb a k = ed ∙ ap (λ (t : Bool). t || eqb p k) f ∙ ap (λ (v : ℕ). eqb v k) g in
      going (rw (← g) (marked_here ms p (omega arith))) (rw l (met_first w a k d q o (eq ∙ ap (next_of w) g))) (rw l (begins w a q c j (eq ∙ ap (next_of w) g)))
  one_on (going n f i) ms₀ m x y q d c bad es r em z h u ed ef hf ex ey ec eq =
      going (rw (get_or-set_other ms p a 1 0 (λ g. away (sym g))) n) (met_on w a k e p left d q z away ed eq f) (on w a p b left c q z away (widen_is (view w) b c p x y ex ey ec) eq i)
    where
      away : p ≢ a
      away g = clash n (rw (← g, eq-eqb (get_or ms p 0) 0 u))

  -- t turns left after this one
  pub gathers_on : Gathers w ms a k p left e b → (ms₀ : List ℕ) (t m x y q : ℕ) (d : Bool) (c : Sides) (bad : Bool) → left ≡ t + 1 → length ms ≡ length ms₀ → points_of w ≤ length ms₀ → m ≡ points_of w → p < m → get_or ms p 0 ≡ 0
      → d ≡ (e || eqb p k) → bad ≡ faulty w p → bad ≡ false → x ≡ view w (pt X) p → y ≡ view w (pt Y) p → c ≡ widen_by b x y → q ≡ next_of w p → Gathers w (set ms p 1) a k q t d c
  gathers_on g ms₀ t m x y q d c bad el es r em h u ed ef hf ex ey ec eq =
      let v : left - 1 ≡ t = omega arith in
      subst (λ (n : ℕ). Gathers w (set ms p 1) a k q n d c) v (one_on g ms₀ m x y q d c bad es r em (omega arith) h u ed ef hf ex ey ec eq)

  -- at its end: whether k is on the ring, and the ring's box
  gathers_over : Gathers w ms a k p left e b → left ≤ 0 → (e ≡ is_in k (ring_of w a)) × (box_from (view w) a ≡ some (rect_of b))
  gathers_over (begun l g n f i) z = absurd (omega arith)
  gathers_over (going n f i) z = (met_over w a k e p left z f, over w a p b left z i)

  gathers_back : Gathers w ms a k p left e b → get_or ms p 0 ≢ 0 → p ≡ a → (e ≡ is_in k (ring_of w a)) × (box_from (view w) a ≡ some (rect_of b))
  gathers_back (begun l g n f i) u h = absurd (u (ap (λ (v : ℕ). get_or ms v 0) h ∙ n))
  gathers_back (going n f i) u h = (met_back w a k e p left h f, back w a p b left h i)

  module _ {ms₀ : List ℕ} (t : Tried w ms₀ ms) (g : Gathers w ms a k p left e b) (x : mark_from left (next_of w) (points_of w) ms p ≡ mark_from limit.POINTS (next_of w) (points_of w) ms₀ a) where
    pub round_back : (m : ℕ) → m ≡ points_of w → p < m → get_or ms p 0 ≢ 0 → p ≡ a → RoundPassed w ms₀ a k ms e b
    round_back m em l u h =
        let q = gathers_back g u h in
        record { marks = mark_met (next_of w) (points_of w) p ms (mark_from limit.POINTS (next_of w) (points_of w) ms₀ a) left m em l u x; tried = t; met = q.0; box = q.1 }

    pub round_over : left ≤ 0 → RoundPassed w ms₀ a k ms e b
    round_over z =
        let q = gathers_over g z in
        record { marks = mark_over (next_of w) (points_of w) p ms (mark_from limit.POINTS (next_of w) (points_of w) ms₀ a) left z x; tried = t; met = q.0; box = q.1 }

-- ---- one record's ring

-- what `is_misplaced` answers of it
pub placed_open : (w : List ℕ) (i g : ℕ) (on : Bool) → g ≡ flags_of w i → g % 2 ≡ 1 → false ≡ misplaced_if w i on
placed_open w i g on e h = rw (eq-eqb (flags_of w i % 2) 1 (ap (λ (x : ℕ). x % 2) (sym e) ∙ h))

pub placed_else : (w : List ℕ) (i g d : ℕ) (on : Bool) → g ≡ flags_of w i → g % 2 ≢ 1 → d ≡ progress_of w i → (ltb 4 d || (ltb d 4 && not on)) ≡ misplaced_if w i on
placed_else w i g d on e h ed = rw (ne_eqb (flags_of w i % 2) 1 (λ z. h (ap (λ (x : ℕ). x % 2) e ∙ z)), ← ed)

pub ring_same : {w ms ms' : List ℕ} {a k : ℕ} {met : Bool} {c : Sides} → RoundPassed w ms a k ms' met c → (i : ℕ) (b : Sides) (lost same : Bool) → a ≡ first_of w i → a ≢ NONE → k ≡ present_of w i → lost ≡ misplaced_if w i met → lost ≡ false
    → b ≡ sides_at w i → same ≡ same_sides c b → Unless (not same) (RingPassed w ms i ms')
ring_same {w} {ms} {ms'} {a} {k} {met} {c} r i b lost same e d ek el hl eb es =
    record {
      none = λ z. record {
        marks = r.marks ∙ ap (mark_from limit.POINTS (next_of w) (points_of w) ms) e;
        tried = r.tried;
        placed = sym (placed met r.met) ∙ sym el ∙ hl;
        boxed = sym (says_misboxed w i a e d b c same eb r.box es) ∙ z;
      };
    }
  where
    placed : (on : Bool) → on ≡ is_in k (ring_of w a) → misplaced_if w i on ≡ misplaced w i
    placed on eo = rw (ne_eqb (first_of w i) NONE (λ z. d (e ∙ z)), eo, ek, e)

-- ---- one record

module _ (w ms ms' : List ℕ) (i n o a : ℕ) (u r : Bool) (en : n ≡ records_of w) (eo : o ≡ owner_of w i) (eu : u ≡ names_nothing n o) (hu : u ≡ false) (ea : a ≡ first_of w i) where
  named : names_nothing (records_of w) (owner_of w i) ≡ false
  named = rw (← en, ← eo) (sym eu ∙ hu)

  pub record_bare : Counted w → length ms ≤ limit.POINTS → a ≡ NONE → r ≡ (lost_taker w i || untold w i) → Unless r (RecordPassed w ms i ms)
  record_bare c s h er =
      record {
        none = λ z. record {
          marks = mark_out (next_of w) (points_of w) (first_of w i) ms (mark_from limit.POINTS (next_of w) (points_of w) ms (first_of w i)) limit.POINTS (points_of w) refl (omega (arith, c.points)) refl;
          apart = sym (unmarked ms (first_of w i) (omega arith));
          tried = tried_none w ms;
          fit = fit (sym er ∙ z);
          boxed = sym (bare_not w i a ea h);
        };
      }
    where
      bare : eqb (first_of w i) NONE ≡ true
      bare = eq-eqb (first_of w i) NONE (sym ea ∙ h)

      fit : (lost_taker w i || untold w i) ≡ false → faulty_of w i ≡ false
      fit q = rw (named, bare) (rw bare at q)

  pub record_ringed : a ≢ NONE → (m : ℕ) → m ≡ points_of w → a < m → get_or ms a 0 ≡ 0 → Unless r (RingPassed w ms i ms') → Unless r (RecordPassed w ms i ms')
  record_ringed d m em l v g =
      record {
        none = λ z.
            let q : RingPassed w ms i ms' = g.none z in
            record {
              marks = q.marks;
              apart = rw (← ea, eq-eqb (get_or ms a 0) 0 v);
              tried = q.tried;
              fit = fit (misplaced w i) q.placed;
              boxed = q.boxed;
            };
      }
    where
      ringed : eqb (first_of w i) NONE ≡ false
      ringed = ne_eqb (first_of w i) NONE (λ z. d (ea ∙ z))

      fit : (b : Bool) → b ≡ false → (no_such_of w i || (lost_taker w i || (b || untold w i))) ≡ false
      fit b h = rw (named, ringed, lt-ltb (first_of w i) (points_of w) (omega arith), h)

-- ---- all of them

pub records_none : (w ms : List ℕ) → RecordsPassed w ms 0 ms
records_none w ms = record { marks = marks_none w ms; apart = none (meets w ms); tried = tried_none w ms; fit = none (faulty_of w); boxed = none (misboxed w) }

pub records_more : {w ms₀ ms ms' : List ℕ} {i : ℕ} (b : Bool) → RecordsPassed w ms₀ i ms → Unless b (RecordPassed w ms i ms') → b ≡ false → RecordsPassed w ms₀ (i + 1) ms'
records_more {w} {ms₀} {ms} {ms'} {i} b r u h =
    let o : RecordPassed w ms i ms' = u.none h in
    record {
      marks = marks_more w ms₀ i (first_of w i) ms ms' r.marks refl o.marks;
      apart = more (meets w ms₀) i (is_marked ms (first_of w i)) r.apart (ap (λ (l : List ℕ). is_marked l (first_of w i)) r.marks) o.apart;
      tried = tried_both r.tried o.tried;
      fit = more (faulty_of w) i (faulty_of w i) r.fit refl o.fit;
      boxed = more (misboxed w) i (misboxed w i) r.boxed refl o.boxed;
    }

pub records_all : {w ms ms' : List ℕ} {i : ℕ} (n : ℕ) → n ≤ i → n ≡ records_of w → i ≤ records_of w → RecordsPassed w ms i ms' → Unless false (RecordsPassed w ms (records_of w) ms')
records_all {w} {ms} {ms'} {i} n h e k r = let d : i ≡ records_of w = omega arith in record { none = λ z. rw (← d) r }
