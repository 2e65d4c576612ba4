-- What a step makes of the boxes of every sound store: the stepped ring's is `kept_box` of the one before, every other ring's stays, an offcut's is its three points'; and none passes the one before.
use Prim.Native.Nat.{ℕ, suc, ◌+◌, ◌≤◌, ◌<◌}
use mathlib.Core.Path.{◌≡◌, refl, sym, ap, ◌∙◌, subst}
use mathlib.Core.Logic.{◌≢◌}
use mathlib.Core.Bool.{Bool, false}
use mathlib.Core.List.{List, map}
use mathlib.Core.Option.{Option, none, some}
use native.Mathlib.Omega.{arith}
use native.Mathlib.Decide.{ℕ_discrete}
use Rattle.rings.specs.Circle.{omap}
use Rattle.rings.specs.Progress.{Ring, tidy, map_ring}
use Rattle.geometry.specs.declared.Point.{Point}
use Rattle.geometry.specs.declared.Rect.{Rect}
use Rattle.geometry.specs.Box.{box_of}
use Rattle.lone.specs.Act.{Act, apply, offcut, rings_new}
use Rattle.lone.specs.Lone.{step_ring, offcut_ring}
use Rattle.lone.specs.Forest.{Answer, ok, full, out_of_turn}
use Rattle.lone.proofs.Acting.{step_values, offcut_values, count}
use Rattle.store.specs.Field.{rc, CUT}
use Rattle.store.specs.Words.{Store}
use Rattle.store.specs.Sound.{pts, recs, ring_at, is_open, lone_at}
use Rattle.store.specs.Good.{Sound}
use Rattle.store.specs.Value.{point_at, preserve_collinear}
use Rattle.store.specs.Boxes.{ring_box}
use Rattle.acts.specs.Codes.{after}
use Rattle.acts.specs.Step.{answer_s}
use Rattle.acts.specs.Run.{step_answered, step_s}
use Rattle.acts.proofs.Acting.{Acted}
use Rattle.acts.proofs.Readiness.{ready}
use Rattle.acts.proofs.Representing.{Makes, ActDone, lone_kept}
use Rattle.acts.proofs.Stepping.{Able, able, step_acts}
use Rattle.beside.proofs.Stepping.{box_kept}
use Rattle.turns.specs.Form.{raised, geometry_of}
use Rattle.turns.proofs.Ready.{laws}
use Rattle.boxes.specs.Within.{BoxWithin}
use Rattle.boxes.specs.Acts.{kept_box}
use Rattle.boxes.specs.Beside.{ring_now, act_now, box_of_offcut, BoxesAfter, Shrinks}
use Rattle.boxes.proofs.Sizes.{within_self}
use Rattle.boxes.proofs.Rings.{step_within, offcut_within}
use Rattle.boxes.proofs.Keeping.{kept_is}
use Rattle.boxes.proofs.Stores.{same_points, lone_box, lone_table}
use Rattle.boxes.proofs.Acted.{acted_occ}

module _ (s : Store) (o : Sound s) (i : ℕ) (a : Able (geometry_of s) raised s i) where
  abbrev s' : Store
  s' = after raised s i (act_now s i)

  acted : Acted raised s s' i (act_now s i)
  acted = step_acts (geometry_of s) raised s i (laws (preserve_collinear s)) o a

  done : ActDone s s' i (act_now s i)
  done = acted.stepped

  known : i < recs s
  known = a.closed.known

  shut : is_open s i ≡ false
  shut = a.closed.closed

  values : map_ring (point_at s') (lone_at s i) ≡ ring_now s i
  values = lone_kept raised.of s s' o i done.kept i known shut

  before : ring_box s i ≡ box_of (ring_now s i).circle
  before = lone_box s o i known shut

  -- the ring's box after the step is the lone ring's
  after_own : ring_box s' i ≡ box_of (step_ring (geometry_of s) (ring_now s i)).circle
  unfolding ring_box
  after_own =
      same_points (point_at s') (ring_at s' i) (tidy (apply (λ (v : Point). pts s) (act_now s i) (lone_at s i))).circle
      (acted_occ raised s o i a.closed (act_now s i) (ready (geometry_of s) raised (laws (preserve_collinear s)) s o i a.closed a.going) a.fits a.room)
      ∙ ap (λ (R : Ring Point). box_of R.circle) (step_values (geometry_of s) (point_at s) (point_at s') (lone_at s i) values (pts s) acted.first_value)

  other : (j : ℕ) → j < recs s → j ≢ i → ring_box s' j ≡ ring_box s j
  other j l d = box_kept s s' o i done.kept j l d

  -- what is cut off, by indices and by value
  abbrev cut_off : Option (Ring ℕ)
  cut_off = offcut (λ (v : Point). pts s + count (rings_new (act_now s i))) (act_now s i) (lone_at s i)

  cut_values : omap (map_ring (point_at s')) cut_off ≡ offcut_ring (geometry_of s) (ring_now s i)
  cut_values = offcut_values (geometry_of s) (point_at s) (point_at s') (lone_at s i) values (pts s + count (rings_new (act_now s i))) acted.last_value

  -- the new record, if there is one
  record New (O : Ring Point) : Type 0 where
    ring_is : offcut_ring (geometry_of s) (ring_now s i) ≡ some O
    box_is : ring_box s' (recs s) ≡ box_of O.circle
    cut_word : s' (rc CUT) (recs s) ≡ i

  record Newly : Type 0 where
    ring : Ring Point
    new : New ring

  newly : recs s < recs s' → Newly
  newly h = go cut_off refl done.made
    where
      go : (x : Option (Ring ℕ)) → cut_off ≡ x → Makes s s' i x → Newly
      go none e m = absurd (omega (arith, m))
      go (some R) e m =
          record {
            ring = map_ring (point_at s') R;
            new = record {
              ring_is = sym cut_values ∙ ap (omap (map_ring (point_at s'))) e;
              box_is = lone_box s' done.sound (recs s) h m.2 ∙ ap (λ (S : Ring ℕ). box_of (map (point_at s') S.circle)) m.1;
              cut_word = m.3;
            };
          }

  pub boxes_after : BoxesAfter s s' i
  boxes_after =
      record {
        own = after_own ∙ sym (kept_is (preserve_collinear s) (ring_now s i) (lone_table s o i known shut)) ∙ ap (λ (b : Option Rect). kept_box b (ring_now s i) (act_now s i)) (sym before);
        others = other;
        new = λ h. let n : Newly = newly h in n.new.box_is ∙ sym (ap box_of_offcut n.new.ring_is);
      }

  by_one : (x : Option (Ring ℕ)) → Makes s s' i x → recs s' ≤ suc (recs s)
  by_one none m = omega (arith, m)
  by_one (some R) m = omega (arith, m.0)

  pub shrinks_after : Shrinks s s'
  shrinks_after =
      record {
        grows = done.kept.records_up;
        by_one = by_one cut_off done.made;
        ring = λ j l. ring j l (ℕ_discrete j i);
        cut_kept = λ j l. cuts j l (ℕ_discrete j i);
        new = λ h.
            let n : Newly = newly h in
            record {
              from = i;
              before = known;
              word = n.new.cut_word;
              within = subst (λ (b : Option Rect). BoxWithin (ring_box s' (recs s)) b) (sym before) (subst (λ (b : Option Rect). BoxWithin b (box_of (ring_now s i).circle)) (sym n.new.box_is)
                  (offcut_within (preserve_collinear s) (ring_now s i) (lone_table s o i known shut) n.ring n.new.ring_is));
            };
      }
    where
      ring : (j : ℕ) → j < recs s → Dec (j ≡ i) → BoxWithin (ring_box s' j) (ring_box s j)
      ring j l (yes e) =
          subst (λ (z : ℕ). BoxWithin (ring_box s' z) (ring_box s z)) (sym e)
          (subst (BoxWithin (ring_box s' i)) (sym before) (subst (λ (b : Option Rect). BoxWithin b (box_of (ring_now s i).circle)) (sym after_own) (step_within (preserve_collinear s) (ring_now s i) (lone_table s o i known shut))))
      ring j l (no d) = subst (λ (b : Option Rect). BoxWithin b (ring_box s j)) (sym (other j l d)) (within_self (ring_box s j))

      cuts : (j : ℕ) → j < recs s → Dec (j ≡ i) → s' (rc CUT) j ≡ s (rc CUT) j
      cuts j l (yes e) = subst (λ (z : ℕ). s' (rc CUT) z ≡ s (rc CUT) z) (sym e) done.is_cut_from
      cuts j l (no d) = done.kept.records CUT j l d

-- nothing happened
pub shrinks_not : (s : Store) → Shrinks s s
shrinks_not s = record { grows = omega arith; by_one = omega arith; ring = λ j l. within_self (ring_box s j); cut_kept = λ j l. refl; new = λ h. absurd (omega arith) }

module _ (s : Store) (o : Sound s) (i : ℕ) where
  -- a step that is carried out
  pub step_boxes : answer_s (geometry_of s) raised s i ≡ ok → BoxesAfter s (step_s (geometry_of s) raised s i) i
  unfolding step_s
  step_boxes e = subst (λ (x : Answer). BoxesAfter s (step_answered (geometry_of s) raised s i x) i) (sym e) (boxes_after s o i (able (geometry_of s) raised s i e))

  -- any step, on any record number
  pub step_shrinks : Shrinks s (step_s (geometry_of s) raised s i)
  unfolding step_s
  step_shrinks = go (answer_s (geometry_of s) raised s i) refl
    where
      go : (x : Answer) → answer_s (geometry_of s) raised s i ≡ x → Shrinks s (step_answered (geometry_of s) raised s i x)
      go ok e = shrinks_after s o i (able (geometry_of s) raised s i e)
      go full e = shrinks_not s
      go out_of_turn e = shrinks_not s
