-- Why a start may not be the number of the point that a step puts in: a ring of five points whose start word is 5. The tests pass. The first step cuts the ring and
-- puts point 5 in, so the start is now a point of the ring, and the second step ends the loop there, as the Rust's comparison of numbers would. The ring by value
-- had no start, has none now, and goes on.
use Prim.Native.Nat.{ℕ}
use mathlib.Core.Path.{◌≡◌, refl, ap, ◌∙◌}
use mathlib.Core.List.{List, [], ◌∷◌, ◌++◌}
use native.Mathlib.Omega.{arith}
use lib.Ieee.{to_signed, add, of_int, mul}
use lib.ListN.{replicate}
use Rattle.std.specs.Prelude.{Ok}
use Rattle.rings.specs.Progress.{Ring, Due, split, done}
use Rattle.rings.specs.Walk as walk
use Rattle.geometry.specs.declared.Point.{Point}
use Rattle.geometry.specs.Plane.{same_point, is_collinear, dot_product_three_points, area_triangle, area_outpt, pts_really_close, is_very_small_triangle, removable, strictly_within, segments_intersect}
use Rattle.geometry.specs.Box.{widen}
use Rattle.crossing.specs.Crossing.{fraction_of, crossing, coordinate_at, get_segment_intersect_pt}
use Rattle.lone.specs.Lone.{removal_turn, do_split_op, split_turn, decide, act_of, step_ring, offcut_ring, takes_ring}
use Rattle.lone.specs.Forest.{Entry, ringless, open_ring, closed_ring, Forest, at, answer, step_forest, run_forest}
use Rattle.lone.specs.Order.{machine}
use Rattle.store.specs.Field.{pt, rc, ct, X, Y, NEXT, PREV, OWNER, MARK, PRESENT, START, CUT, POINTS, RECORDS, NONE, LENGTH}
use Rattle.store.specs.Words.{Write, write, cell, put, view, on_words}
use Rattle.store.specs.Sound.{recs, lone_at}
use Rattle.store.specs.Boxes.{set_sides, ring_box, misboxed, boxed_at}
use Rattle.store.specs.Value.{word_of}
use Rattle.audit.specs.Tests.{any_below, reach, reached_by, tests_of}
use Rattle.handed.specs.Handed.{any_misboxed, kept_twice, tested_of, handed_of}
use Rattle.acts.specs.InStep.{Holds, no_ring, an_open, a_closed}
use Rattle.acts.specs.Step.{answer_s, step_w}
use Rattle.turns.specs.Form.{raised}
use Rattle.finishing.specs.Step.{step_of}
use Rattle.finishing.specs.Run.{run_of}
use Rattle.altered.specs.OwnForest.{forest_of}
use Rattle.altered.specs.Altered.{HoldsForest, rings_of}

abbrev point : ℕ → ℕ → ℕ → ℕ → ℕ → List Write
point k x y n p = write (pt X) k x ∷ write (pt Y) k y ∷ write (pt NEXT) k n ∷ write (pt PREV) k p ∷ []

-- (0,0) (10,10) (10,0) (0,12) (-5,6), in a split turn at the second point; its box is from (-5,0) to (10,12)
abbrev pub example : List ℕ
example =
    set_sides
    (on_words (replicate LENGTH 0)
    (point 0 1048576 1048576 1 4 ++ point 1 1048586 1048586 2 0 ++ point 2 1048586 1048576 3 1 ++ point 3 1048576 1048588 4 2 ++ point 4 1048571 1048582 0 3
    ++ write (ct POINTS) 0 5 ∷ write (ct RECORDS) 0 1 ∷ write (rc OWNER) 0 NONE ∷ write (rc MARK) 0 3 ∷ write (rc PRESENT) 0 1 ∷ write (rc START) 0 5 ∷ write (rc CUT) 0 NONE ∷ []))
    0 (record { left = 1048571; top = 1048576; right = 1048586; bottom = 1048588 })

pub passes : handed_of example ≡ Ok tt
unfolding handed_of tested_of any_misboxed misboxed ring_box widen set_sides kept_twice tests_of any_below reach reached_by walk.run cell put
passes = refl

-- the words' ring, after two steps
pub ends : (lone_at (view (run_of example (0 ∷ 0 ∷ []))) 0).due ≡ done
unfolding step_of handed_of tested_of any_misboxed misboxed ring_box widen set_sides boxed_at kept_twice tests_of any_below reach reached_by answer_s step_w word_of walk.run cell put same_point is_collinear dot_product_three_points area_triangle area_outpt pts_really_close is_very_small_triangle removable strictly_within segments_intersect fraction_of crossing coordinate_at get_segment_intersect_pt removal_turn do_split_op split_turn decide act_of to_signed add of_int mul
ends = refl

counts : recs (view (run_of example (0 ∷ 0 ∷ []))) ≡ 2
unfolding step_of handed_of tested_of any_misboxed misboxed ring_box widen set_sides boxed_at kept_twice tests_of any_below reach reached_by answer_s step_w word_of walk.run cell put same_point is_collinear dot_product_three_points area_triangle area_outpt pts_really_close is_very_small_triangle removable strictly_within segments_intersect fraction_of crossing coordinate_at get_segment_intersect_pt removal_turn do_split_op split_turn decide act_of to_signed add of_int mul
counts = refl

-- the step due of a record's ring
abbrev due_in : Entry (Ring Point) (List Point) → Due
due_in ringless = done
due_in (open_ring c) = done
due_in (closed_ring q L) = L.now.due

-- the forest that the words hold, after the same two steps: its ring goes on
abbrev later : Forest (Ring Point) (List Point)
later = run_forest (rings_of example) 2048 512 (forest_of raised.of (view example)) (0 ∷ 0 ∷ [])

pub goes_on : due_in (at later.entries 0) ≡ split
unfolding set_sides step_forest answer machine step_ring takes_ring offcut_ring walk.run cell put same_point is_collinear dot_product_three_points area_triangle area_outpt pts_really_close is_very_small_triangle removable strictly_within segments_intersect fraction_of crossing coordinate_at get_segment_intersect_pt removal_turn do_split_op split_turn decide act_of to_signed add of_int mul
goes_on = refl

-- so the words do not hold that forest
pub apart : HoldsForest (run_of example (0 ∷ 0 ∷ [])) later → ⊥
apart h = go (at later.entries 0) goes_on (h.holds 0 (omega (arith, counts)))
  where
    other : (d : Due) → d ≡ done → d ≡ split → ⊥
    other d e g = let z : ◌≡◌ {A = ℕ} 0 1 = cc in omega arith

    go : (e : Entry (Ring Point) (List Point)) → due_in e ≡ split → Holds raised.of (view (run_of example (0 ∷ 0 ∷ []))) 0 e → ⊥
    go e d (no_ring r) = other done refl d
    go e d (an_open c r m) = other done refl d
    go e d (a_closed q L r c m) = other L.now.due (ap (λ (R : Ring Point). R.due) m ∙ ends) d
