-- The step on a store, its answer, and that both are the forest's; then the same for every list of steps.
use Prim.Native.Nat.{ℕ, ◌+◌, ◌≤◌, ◌<◌}
use mathlib.Core.Path.{◌≡◌, refl, ap, ◌∙◌}
use mathlib.Core.Logic.{◌⊎◌, inl, inr}
use mathlib.Core.Bool.{Bool, true, false, cond, not, ◌&&◌}
use mathlib.Core.List.{List, [], ◌∷◌}
use mathlib.Core.Option.{some}
use native.Mathlib.Omega.{arith}
use native.Mathlib.Decide.{dec_lt}
use lib.Dec.{leb, ltb}
use lib.ListN.{length, get_or-eq_default}
use borrow.Author.Tests.{lt-ltb, le-ltb, ltb-true, leb-true, not-true}
use Rattle.rings.specs.Progress.{Ring, Due, validity, removal, triangle, split, done, gone, map_ring, is_done}
use Rattle.lone.proofs.Stepping.{Accepted, Refused}
use Rattle.lone.proofs.Stepping as lone
use Rattle.lone.specs.Forest.{State, to_list, Entry, Forest, at, cut_from, Answer, ok, full, out_of_turn, answer, answer_to, carry_out, step_forest, run_forest, is_ok}
use Rattle.lone.specs.Lone.{Geo, act_of, offcut_ring, takes_ring}
use Rattle.lone.specs.Order.{machine}
use Rattle.lone.specs.Act.{Act, stay, discard, drop_point, move_on, to_first, double, cut, offcut, takes_points, rings_new}
use Rattle.lone.specs.Forest as forest
use Rattle.store.specs.Field.{rc, START, CUT, REASON, BLOCK}
use Rattle.store.specs.Reason.{discard_of}
use Rattle.store.specs.Sound.{pts, recs, ringless, is_open, due_at, Closed, lone_due, lone_at}
use Rattle.store.specs.Good.{Sound}
use Rattle.store.specs.Words.{Store, view}
use Rattle.acts.proofs.Acting.{Ready, to_discard, to_move, to_go_first, to_drop, to_double, to_cut, Acted, act_steps}
use Rattle.acts.proofs.OnWords.{after_view, length_after}
use Rattle.acts.proofs.Readiness.{ready}
use Rattle.acts.proofs.Representing.{SameStart, ActDone, start_left, carried, cuts_after}
use Rattle.acts.specs.Apply.{Coding, takes_record}
use Rattle.acts.specs.Codes.{after}
use Rattle.acts.specs.Laws.{Laws}
use Rattle.acts.specs.InStep.{or_none, Holds, no_ring, an_open, a_closed, InStep, Elsewhere}
use Rattle.acts.specs.Rep.{in_loop, Looped, Rep, RepW}
use Rattle.acts.specs.Value.{value}
use Rattle.acts.specs.Step.{act_at, live, room_for, answer_s, step_by_w, step_w}
use Rattle.acts.specs.Run.{step_answered, step_s, run_s, run_w}

-- the step on record i can be done
pub record Able {P : Type 0} (G : Geo P) (f : Coding P) (s : Store) (i : ℕ) : Type 0 where
  pub closed : Closed s i
  pub going : is_done (due_at s i) ≡ false
  pub fits : pts s + takes_points (act_at G f s i) ≤ 2048
  pub room : recs s + takes_record (act_at G f s i) ≤ 512

no_way : false ≡ true → ⊥
no_way e = let y : ◌≡◌ {A = ℕ} 0 1 = cc in omega arith

no_ok : {a : Answer} → a ≡ ok → is_ok a ≡ false → ⊥
no_ok e f = let y : ◌≡◌ {A = ℕ} 0 1 = cc in omega arith

module _ {P : Type 0} (G : Geo P) (f : Coding P) where
  -- an act cuts off as many rings as it takes records
  pub cut_count : (act : Act P) (R : Ring P) → length (to_list (offcut (λ (v : P). v) act R)) ≡ takes_record act
  cut_count stay R = refl
  cut_count (discard y) R = refl
  cut_count drop_point R = refl
  cut_count (move_on d) R = refl
  cut_count (to_first d) R = refl
  cut_count (double v d) R = refl
  cut_count (cut v put false d) R = refl
  cut_count (cut v put true d) R = refl

  pub due_is_lem : (s : Store) (i : ℕ) (d : Due) → (lone_due s i d).due ≡ d
  due_is_lem s i validity = refl
  due_is_lem s i removal = refl
  due_is_lem s i triangle = refl
  due_is_lem s i split = refl
  due_is_lem s i done = refl

  -- ---- on every sound store
  module _ (s : Store) (i : ℕ) where
    -- an unfinished closed ring
    pub live_is : live s i ≡ true → Closed s i × (is_done (due_at s i) ≡ false)
    live_is = by (ltb i (recs s)) (is_open s i) (ringless s i) refl refl refl
      where
        by : (a b e : Bool) → ltb i (recs s) ≡ a → is_open s i ≡ b → ringless s i ≡ e → a && (not b && not (is_done (cond e (gone (discard_of (s (rc REASON) i))) (lone_due s i (due_at s i))).due)) ≡ true → Closed s i × (is_done (due_at s i) ≡ false)
        by true true e l o r h = absurd (no_way h)
        by true false true l o r h = absurd (no_way h)
        by true false false l o r h = (record { known = ltb-true i (recs s) l; ringed = r; closed = o }, not-true (is_done (due_at s i)) (rw (due_is_lem s i (due_at s i)) at h))
        by false b e l o r h = absurd (no_way h)

    pub live_too : Closed s i → is_done (due_at s i) ≡ false → live s i ≡ true
    live_too c d = rw (lt-ltb i (recs s) c.known, c.closed, c.ringed, due_is_lem s i (due_at s i), d)

    pub able : answer_s G f s i ≡ ok → Able G f s i
    unfolding answer_s
    able = by (live s i) (leb (pts s + takes_points (act_at G f s i)) 2048) (leb (recs s + takes_record (act_at G f s i)) 512) refl refl refl
      where
        by : (a b c : Bool) → live s i ≡ a → leb (pts s + takes_points (act_at G f s i)) 2048 ≡ b → leb (recs s + takes_record (act_at G f s i)) 512 ≡ c → cond a (cond (b && c) ok full) out_of_turn ≡ ok → Able G f s i
        by true true true l p r h = let z = live_is l in record { closed = z.0; going = z.1; fits = leb-true _ _ p; room = leb-true _ _ r }
        by true true false l p r h = absurd (no_ok h refl)
        by true false c l p r h = absurd (no_ok h refl)
        by false b c l p r h = absurd (no_ok h refl)

    -- the step keeps the store sound, every other record and its ring; record i's ring is what the act makes of it
    pub step_acts : Laws G f → Sound s → Able G f s i → Acted f s (after f s i (act_at G f s i)) i (act_at G f s i)
    step_acts Λ o a = act_steps f s o i a.closed (act_at G f s i) (ready G f Λ s o i a.closed a.going) a.fits a.room

    pub step_sound : Laws G f → Sound s → Sound (step_s G f s i)
    unfolding step_s
    step_sound Λ o = by (answer_s G f s i) refl
      where
        by : (a : Answer) → answer_s G f s i ≡ a → Sound (step_answered G f s i a)
        by ok e = (step_acts Λ o (able e)).stepped.sound
        by full e = o
        by out_of_turn e = o

  -- ---- the answers agree

  module _ (s : Store) (F : Forest (Ring P) (List P)) (r : InStep f.of s F) (i : ℕ) where
    answer_lone : (L : State (Ring P)) → i < recs s → is_open s i ≡ false → L.now ≡ map_ring (value f.of s) (lone_at s i)
        → answer_s G f s i ≡ cond (is_done L.now.due) out_of_turn (cond (leb (F.points + takes_ring G L.now) 2048 && leb (length F.entries + length (to_list (offcut_ring G L.now))) 512) ok full)
    unfolding answer_s takes_ring offcut_ring
    answer_lone L l closed e =
        rw (e, r.points_are, r.records_are, lt-ltb i (recs s) l, closed, cut_count (act_of G (map_ring (value f.of s) (lone_at s i))) (map_ring (value f.of s) (lone_at s i))) (flip (is_done (lone_at s i).due) (room_for s (act_at G f s i)))
      where
        flip : (b : Bool) (x : Answer) → cond (not b) x out_of_turn ≡ cond b out_of_turn x
        flip true x = refl
        flip false x = refl

    -- the answer, on every sound store
    pub answer_is : answer_s G f s i ≡ answer (machine G) 2048 512 F i
    unfolding answer machine answer_s
    answer_is = go (dec_lt i (recs s))
      where
        held : (x : Entry (Ring P) (List P)) → i < recs s → Holds f.of s i x → answer_s G f s i ≡ answer_to (machine G) 2048 512 x F.points (length F.entries)
        held x l (no_ring e) = idle (ltb i (recs s)) (is_open s i) (is_done (lone_at s i).due) (rw e refl) (room_for s (act_at G f s i))
          where
            idle : (a b g : Bool) → g ≡ true → (y : Answer) → cond (a && (not b && not g)) y out_of_turn ≡ out_of_turn
            idle true true g h y = refl
            idle true false true h y = refl
            idle true false false h y = let z : ◌≡◌ {A = ℕ} 0 1 = cc in absurd (omega arith)
            idle false b g h y = refl
        held x l (an_open c e h) = idle (ltb i (recs s)) (is_open s i) (not (is_done (lone_at s i).due)) e (room_for s (act_at G f s i))
          where
            idle : (a b g : Bool) → b ≡ true → (y : Answer) → cond (a && (not b && g)) y out_of_turn ≡ out_of_turn
            idle true true g h y = refl
            idle true false g h y = let z : ◌≡◌ {A = ℕ} 0 1 = cc in absurd (omega arith)
            idle false b g h y = refl
        held x l (a_closed q L e c m) = answer_lone L l e m

        go : Dec (i < recs s) → answer_s G f s i ≡ answer_to (machine G) 2048 512 (at F.entries i) F.points (length F.entries)
        go (yes l) = held (at F.entries i) l (r.holds i l)
        go (no n) = rw (le-ltb i (recs s) (omega arith), get_or-eq_default F.entries forest.ringless {n = i} (omega (arith, r.records_are)))

    -- what holds of the store and the forest after a step: of a refused one nothing changed
    pub by_answer : (Q : Store → Forest (Ring P) (List P) → Type 0) → Q s F → ((g : Accepted (machine G) 2048 512 F i) → Able G f s i → Q (after f s i (act_at G f s i)) (carry_out (machine G) F i g.who g.state))
        → Q (step_s G f s i) (step_forest (machine G) 2048 512 F i)
    unfolding step_s
    by_answer Q h k = go (lone.view (machine G) 2048 512 F i)
      where
        refused : (a : Answer) → answer_s G f s i ≡ a → is_ok a ≡ false → step_answered G f s i (answer_s G f s i) ≡ s
        refused ok e h = let y : ◌≡◌ {A = ℕ} 0 1 = cc in absurd (omega arith)
        refused full e h = ap (step_answered G f s i) e
        refused out_of_turn e h = ap (step_answered G f s i) e

        go : Accepted (machine G) 2048 512 F i ⊎ Refused (machine G) 2048 512 F i → Q (step_answered G f s i (answer_s G f s i)) (step_forest (machine G) 2048 512 F i)
        go (inl g) = rw (answer_is, g.says, g.becomes) (k g (able s i (answer_is ∙ g.says)))
        go (inr z) = rw (z.becomes, refused (answer (machine G) 2048 512 F i) answer_is z.says) h

    -- ---- the step is the forest's, unless it gives the ring's start to a point that it puts in

    pub step_is : Laws G f → Elsewhere G f s i → InStep f.of (step_s G f s i) (step_forest (machine G) 2048 512 F i)
    step_is Λ h = by_answer (InStep f.of) r (λ g a. let t = step_acts s i Λ r.sound a in carried f.of s F r i G (after f s i (act_at G f s i)) g.who g.state g.here t.stepped t.first_value t.last_value (h (answer_is ∙ g.says)))

  -- ---- stores as opening and steps leave them

  -- an act that puts a point into its ring is one of a loop
  puts_in_loop : (s : Store) (i : ℕ) (act : Act P) → Ready f s i act → (v : P) → rings_new act ≡ some v → in_loop (due_at s i) ≡ true
  puts_in_loop s i act (to_discard y) v e = let z : ◌≡◌ {A = ℕ} 0 1 = cc in absurd (omega arith)
  puts_in_loop s i act (to_move d₀ d h g) v e = let z : ◌≡◌ {A = ℕ} 0 1 = cc in absurd (omega arith)
  puts_in_loop s i act (to_go_first d₀ d h g) v e = let z : ◌≡◌ {A = ℕ} 0 1 = cc in absurd (omega arith)
  puts_in_loop s i act (to_drop h b z w r g) v e = let y : ◌≡◌ {A = ℕ} 0 1 = cc in absurd (omega arith)
  puts_in_loop s i act (to_double d₀ d b y r h x n) v e = b.looping
  puts_in_loop s i act (to_cut d₀ d b y z u r h x n put off) v e = b.looping

  module _ (Λ : Laws G f) (s : Store) (F : Forest (Ring P) (List P)) (r : Rep f.of s F) (i : ℕ) where
    pub elsewhere : Elsewhere G f s i
    elsewhere e v n z =
        let a : Able G f s i = able s i e in
        omega (arith, r.starts i (a.closed, puts_in_loop s i (act_at G f s i) (ready G f Λ s r.in_step.sound i a.closed a.going) v n))

    starts_after : Able G f s i → (j : ℕ) → Looped (after f s i (act_at G f s i)) j → after f s i (act_at G f s i) (rc START) j < pts (after f s i (act_at G f s i))
    starts_after a j h = go (start_left t j h.0.known)
      where
        t : ActDone s (after f s i (act_at G f s i)) i (act_at G f s i)
        t = (step_acts s i Λ r.in_step.sound a).stepped

        go : (after f s i (act_at G f s i) (rc START) j < pts (after f s i (act_at G f s i))) ⊎ SameStart s (after f s i (act_at G f s i)) j → after f s i (act_at G f s i) (rc START) j < pts (after f s i (act_at G f s i))
        go (inl l) = l
        go (inr k) = omega (arith, k.same, r.starts j (k.looped h), t.kept.points_up)

    -- one step
    pub rep_step : Rep f.of (step_s G f s i) (step_forest (machine G) 2048 512 F i)
    rep_step =
        record {
          in_step = step_is s F r.in_step i Λ elsewhere;
          starts = by_answer s F r.in_step i (λ (s' : Store) (F' : Forest (Ring P) (List P)). (j : ℕ) → Looped s' j → s' (rc START) j < pts s') r.starts (λ g a. starts_after a);
          cuts = by_answer s F r.in_step i (λ (s' : Store) (F' : Forest (Ring P) (List P)). (j : ℕ) → j < recs s' → s' (rc CUT) j ≡ or_none (cut_from (at F'.entries j))) r.cuts
              (λ g a. let t = step_acts s i Λ r.in_step.sound a in cuts_after f.of s F r.in_step i G (after f s i (act_at G f s i)) g.who g.state g.here t.stepped t.first_value t.last_value (elsewhere (answer_is s F r.in_step i ∙ g.says)) r.cuts);
        }

  -- every list of steps
  pub run_is : Laws G f → (s : Store) (F : Forest (Ring P) (List P)) → Rep f.of s F → (is : List ℕ) → Rep f.of (run_s G f s is) (run_forest (machine G) 2048 512 F is)
  run_is Λ s F r [] = r
  run_is Λ s F r (i ∷ is) = run_is Λ (step_s G f s i) (step_forest (machine G) 2048 512 F i) (rep_step Λ s F r i) is

-- ---- on words

module _ {P : Type 0} (G : Geo P) (f : Coding P) where
  pub length_step : (w : List ℕ) (i : ℕ) → length (step_w G f w i) ≡ length w
  unfolding step_w
  length_step w i = go (answer_s G f (view w) i)
    where
      go : (a : Answer) → length (step_by_w G f w i a) ≡ length w
      go ok = length_after f w i (act_at G f (view w) i)
      go full = refl
      go out_of_turn = refl

  -- the step on words is the step on the store, for every sound one
  pub view_step : Laws G f → (w : List ℕ) (i : ℕ) → BLOCK ≤ length w → Sound (view w) → view (step_w G f w i) ≡ step_s G f (view w) i
  unfolding step_w step_s
  view_step Λ w i l o = by (answer_s G f (view w) i) refl
    where
      by : (a : Answer) → answer_s G f (view w) i ≡ a → view (step_by_w G f w i a) ≡ step_answered G f (view w) i a
      by ok e = let a : Able G f (view w) i = able G f (view w) i e in after_view f w l o i a.closed (act_at G f (view w) i) (ready G f Λ (view w) o i a.closed a.going) a.fits a.room
      by full e = refl
      by out_of_turn e = refl

  -- a work space that is long enough and sound stays so
  pub step_w_sound : Laws G f → (w : List ℕ) (i : ℕ) → BLOCK ≤ length w → Sound (view w) → Sound (view (step_w G f w i))
  step_w_sound Λ w i l o = rw (view_step Λ w i l o) (step_sound G f (view w) i Λ o)

  pub step_w_is : Laws G f → (w : List ℕ) (F : Forest (Ring P) (List P)) → RepW f w F → (i : ℕ) → RepW f (step_w G f w i) (step_forest (machine G) 2048 512 F i)
  step_w_is Λ w F r i = record { long = rw (length_step w i) r.long; rep = rw (view_step Λ w i r.long r.rep.in_step.sound) (rep_step G f Λ (view w) F r.rep i) }

  -- after every list of steps the words are in step with the forest
  pub run_w_is : Laws G f → (w : List ℕ) (F : Forest (Ring P) (List P)) → RepW f w F → (is : List ℕ) → RepW f (run_w G f w is) (run_forest (machine G) 2048 512 F is)
  run_w_is Λ w F r [] = r
  run_w_is Λ w F r (i ∷ is) = run_w_is Λ (step_w G f w i) (step_forest (machine G) 2048 512 F i) (step_w_is Λ w F r i) is
