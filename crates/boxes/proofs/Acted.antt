-- The ring's points after an act, on every sound store. `ActDone` says the whole ring only where the loop's start was not the number of a point that is put in; which points are on the ring does not hang on
-- the start, so it is read off a store with another start.
use Prim.Native.Nat.{ℕ, ◌+◌, ◌≤◌, ◌<◌}
use mathlib.Core.Path.{◌≡◌, refl, sym, ap, ◌∙◌, subst}
use mathlib.Core.Bool.{Bool, true, false, cond}
use mathlib.Core.List.{List, ◌∷◌}
use mathlib.Core.Option.{Option, none, some}
use native.Mathlib.Omega.{arith}
use Rattle.rings.specs.Count.{occ}
use Rattle.rings.specs.Progress.{Ring, Due, validity, removal, triangle, split, done, Discard, gone, tidy_at, tidy}
use Rattle.job.specs.Limits as limit
use Rattle.lone.specs.Act.{Act, stay, discard, drop_point, move_on, to_first, double, cut, apply, takes_points}
use Rattle.store.specs.Field.{pt, rc, PRESENT, START, REASON, NONE}
use Rattle.store.specs.Words.{Store}
use Rattle.store.specs.Stores.{upd}
use Rattle.store.specs.Sound.{pts, recs, ringless, ring_at, due_at, Closed, lone_due, lone_at}
use Rattle.store.specs.Reason.{discard_of}
use Rattle.store.specs.Good.{PointIn, Explained, Good, Sound}
use Rattle.store.proofs.Storing.{hit}
use Rattle.acts.specs.Apply.{Coding, takes_record}
use Rattle.acts.specs.Codes.{after}
use Rattle.acts.specs.Rep.{in_loop}
use Rattle.acts.proofs.Positions.{Loop, loop}
use Rattle.acts.proofs.Representing.{ActDone}
use Rattle.acts.proofs.Acting.{Ready, to_discard, to_move, to_go_first, to_drop, to_double, to_cut, act_steps}
use Rattle.boxes.proofs.Stores.{lone_occ}

-- the circle after an act hangs on circle, first point and step due only
tidy_circle : (c : List ℕ) (f : ℕ) (s s' : Option ℕ) (d : Due) (y y' : Option Discard) → (tidy_at c f s d y).circle ≡ (tidy_at c f s' d y').circle
tidy_circle c f s s' validity y y' = refl
tidy_circle c f s s' removal y y' = refl
tidy_circle c f s s' triangle y y' = refl
tidy_circle c f s s' split y y' = refl
tidy_circle c f s s' done y y' = refl

-- a ring with another start
abbrev restarted : Ring ℕ → Option ℕ → Ring ℕ
restarted R x = record { circle = R.circle; first = R.first; start = x; due = R.due; why = R.why }

module _ {P : Type 0} (k : ℕ) (R : Ring ℕ) (x : Option ℕ) where
  abbrev act_on : Act P → Ring ℕ → Ring ℕ
  act_on act S = apply (λ (v : P). k) act S

  act_circle : (act : Act P) → (tidy (act_on act (restarted R x))).circle ≡ (tidy (act_on act R)).circle
  act_circle stay = tidy_circle R.circle R.first x R.start R.due R.why R.why
  act_circle (discard y) = refl
  act_circle drop_point = refl
  act_circle (move_on d) = tidy_circle (act_on (move_on d) R).circle (act_on (move_on d) R).first (act_on (move_on d) (restarted R x)).start (act_on (move_on d) R).start d none none
  act_circle (to_first d) = refl
  act_circle (double v d) = tidy_circle (act_on (double v d) R).circle R.first x R.start d none none
  act_circle (cut v put off d) = tidy_circle (act_on (cut v put off d) R).circle 0 (act_on (cut v put off d) (restarted R x)).start (act_on (cut v put off d) R).start d none none

module _ {P : Type 0} (f : Coding P) (s : Store) (o : Sound s) (i : ℕ) (c : Closed s i) where
  -- the same store with a start that is no point's number
  abbrev t : Store
  t = upd s (rc START) i NONE

  good_t : (j : ℕ) → Good s j → Good t j
  good_t j g =
      record {
        linked = g.linked;
        points_in_lem = λ k p. let q : PointIn s k = g.points_in_lem k p in record { below = q.below; x_in = q.x_in; y_in = q.y_in; record_in = q.record_in };
        owner = g.owner;
        meant = λ z. g.meant (record { known = z.known; ringed = z.ringed; closed = z.closed });
        going = λ z e. g.going (record { known = z.known; ringed = z.ringed; closed = z.closed }) e;
        explained = λ e. let q : Explained s j = g.explained e in record { kept = q.kept; taker = q.taker };
      }

  sound_t : Sound t
  sound_t = record { few_points = o.few_points; few_records = o.few_records; good = λ j h. good_t j (o.good j h); once = o.once }

  closed_t : Closed t i
  closed_t = record { known = c.known; ringed = c.ringed; closed = c.closed }

  lone_t : lone_at t i ≡ restarted (lone_at s i) (lone_at t i).start
  lone_t = go (ringless s i) (due_at s i)
    where
      go : (b : Bool) (d : Due) → cond b (gone (discard_of (s (rc REASON) i))) (lone_due t i d) ≡ restarted (cond b (gone (discard_of (s (rc REASON) i))) (lone_due s i d)) (cond b (gone (discard_of (s (rc REASON) i))) (lone_due t i d)).start
      go true d = refl
      go false validity = refl
      go false removal = refl
      go false triangle = refl
      go false split = refl
      go false done = refl

  loop_t : (d : Due) → due_at s i ≡ d → in_loop d ≡ true → Loop t i (s (rc PRESENT) i) d
  loop_t d m h = loop t sound_t i (s (rc PRESENT) i) d closed_t refl m h

  same_others : (d d₀ : Due) (b : Loop t i (s (rc PRESENT) i) d) (b₀ : Loop s i (s (rc PRESENT) i) d₀) → b.others ≡ b₀.others
  same_others d d₀ b b₀ =
      let e : s (rc PRESENT) i ∷ b.others ≡ s (rc PRESENT) i ∷ b₀.others =
      sym (ap (λ (R : Ring ℕ). R.circle) b.lone_is) ∙ ap (λ (R : Ring ℕ). R.circle) lone_t ∙ ap (λ (R : Ring ℕ). R.circle) b₀.lone_is in
      cc

  ready_t : (act : Act P) → Ready f s i act → Ready f t i act
  ready_t act (to_discard y) = to_discard y
  ready_t act (to_move d₀ d e g) = to_move d₀ d e g
  ready_t act (to_go_first d₀ d e g) = to_go_first d₀ d e g
  ready_t act (to_drop e b z w r g) = to_drop e (loop_t removal e refl) z w r (same_others removal removal (loop_t removal e refl) b ∙ g)
  ready_t act (to_double d₀ d b y r e v n) = to_double (due_at s i) d (loop_t (due_at s i) refl b.looping) y r (same_others (due_at s i) d₀ (loop_t (due_at s i) refl b.looping) b ∙ e) v n
  ready_t act (to_cut d₀ d b y z u r e v n put off) =
      to_cut (due_at s i) d (loop_t (due_at s i) refl b.looping) y z u r (same_others (due_at s i) d₀ (loop_t (due_at s i) refl b.looping) b ∙ e) v n put off

  -- the act writes the same links
  ring_t : (act : Act P) → ring_at (after f t i act) i ≡ ring_at (after f s i act) i
  ring_t stay = refl
  ring_t (discard y) = refl
  ring_t drop_point = refl
  ring_t (move_on d) = refl
  ring_t (to_first d) = refl
  ring_t (double v d) = refl
  ring_t (cut v true true d) = refl
  ring_t (cut v true false d) = refl
  ring_t (cut v false true d) = refl
  ring_t (cut v false false d) = refl

  -- the points of record i's ring after an act that is ready and has room
  pub acted_occ : (act : Act P) → Ready f s i act → pts s + takes_points act ≤ limit.POINTS → recs s + takes_record act ≤ limit.RECORDS
      → (k : ℕ) → occ k (ring_at (after f s i act) i) ≡ occ k (tidy (apply (λ (v : P). pts s) act (lone_at s i))).circle
  acted_occ act r h m k =
      let a : ActDone t (after f t i act) i act = (act_steps f t sound_t i closed_t act (ready_t act r) h m).stepped in
      ap (occ k) (sym (ring_t act))
      ∙ sym (lone_occ (after f t i act) a.sound i (omega (arith, a.kept.records_up, c.known)) (rw a.flags c.closed) k)
      ∙ ap (λ (R : Ring ℕ). occ k R.circle) (a.ring (λ v e z. omega (arith, o.few_points, sym (hit i NONE (s (rc START) i)) ∙ z)) ∙ ap (λ (R : Ring ℕ). tidy (apply (λ (v : P). pts s) act R)) lone_t)
      ∙ ap (occ k) (act_circle (pts s) (lone_at s i) (lone_at t i).start act)
