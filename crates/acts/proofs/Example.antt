-- A store of one ring of three points, in step with the forest of its lone ring: so the statements above are about something.
use Prim.Native.Nat.{ℕ, zero, suc, ◌+◌, ◌≤◌, ◌<◌}
use mathlib.Core.Path.{◌≡◌, refl, sym}
use mathlib.Core.Logic.{inl}
use mathlib.Core.Bool.{true≢false}
use mathlib.Core.List.{List, [], ◌∷◌, map}
use mathlib.Core.Option.{none}
use native.Mathlib.Omega.{arith}
use native.Mathlib.Decide.{ℕ_discrete}
use Rattle.rings.proofs.Counting.{one_le, one_else, in_all}
use Rattle.rings.specs.Count.{occ}
use Rattle.rings.specs.Progress.{Ring, at_start}
use Rattle.rings.specs.Walk.{run}
use Rattle.lone.specs.Forest.{Forest, closed_ring, initial, run_forest, at, cut_from}
use Rattle.lone.specs.Lone.{Geo}
use Rattle.lone.specs.Order.{machine}
use Rattle.store.specs.Field.{pt, rc, ct, X, Y, Z, NEXT, PREV, REC, FLAGS, OWNER, FIRST, MARK, PRESENT, START, CUT, REASON, TAKER, SETTINGS, POINTS, RECORDS, NONE}
use Rattle.store.specs.Sound.{ring_at}
use Rattle.store.specs.Good.{PointIn, Good, Sound}
use Rattle.store.specs.Words.{Store}
use Rattle.acts.proofs.Stepping.{run_is}
use Rattle.acts.specs.Apply.{Coding}
use Rattle.acts.specs.Laws.{Laws}
use Rattle.acts.specs.InStep.{or_none, Holds, a_closed}
use Rattle.acts.specs.Rep.{Rep}
use Rattle.acts.specs.Value.{value}
use Rattle.acts.specs.Run.{run_s}

abbrev nx : ℕ → ℕ
nx zero = 1
nx (suc zero) = 2
nx (suc (suc n)) = 0

abbrev pv : ℕ → ℕ
pv zero = 2
pv (suc zero) = 0
pv (suc (suc n)) = 1

abbrev three : Store
three (pt X) k = 1048576 + k
three (pt Y) k = 1048576 + pv k
three (pt NEXT) k = nx k
three (pt PREV) k = pv k
three (pt REC) k = 0
three (pt Z) k = 0
three (rc FLAGS) i = 0
three (rc OWNER) i = NONE
three (rc FIRST) i = 0
three (rc MARK) i = 0
three (rc PRESENT) i = 0
three (rc START) i = 0
three (rc CUT) i = NONE
three (rc REASON) i = 0
three (rc TAKER) i = 0
three (ct SETTINGS) i = 0
three (ct POINTS) i = 3
three (ct RECORDS) i = 1

ring_0 : ring_at three 0 ≡ 0 ∷ 1 ∷ 2 ∷ []
unfolding run
ring_0 = refl

on_three : (Q : ℕ → Type 0) → Q 0 → Q 1 → Q 2 → (k : ℕ) → 0 < occ k (ring_at three 0) → Q k
on_three Q a b c k p = in_all Q (0 ∷ 1 ∷ 2 ∷ []) k (a, (b, (c, tt))) (rw ring_0 at p)

point_in_lem : (k : ℕ) → k < 3 → pv k ≤ 2 → PointIn three k
point_in_lem k l h = record { below = l; x_in = omega arith; y_in = omega arith; record_in = omega arith }

good_0 : Good three 0
good_0 =
    record {
      linked = rw ring_0 (refl, refl, (refl, refl, (refl, refl, tt)));
      points_in_lem = on_three (PointIn three) (point_in_lem 0 (omega arith) (omega arith)) (point_in_lem 1 (omega arith) (omega arith)) (point_in_lem 2 (omega arith) (omega arith));
      owner = inl refl;
      meant = λ c. omega arith;
      going = λ c e. rw ring_0 (omega arith);
      explained = λ e. absurd (true≢false (sym e));
    }

once : (k : ℕ) → occ k (0 ∷ 1 ∷ 2 ∷ []) ≤ 1
once k = go (ℕ_discrete 0 k) (ℕ_discrete 1 k)
  where
    go : Dec (0 ≡ k) → Dec (1 ≡ k) → occ k (0 ∷ 1 ∷ 2 ∷ []) ≤ 1
    go (yes e) _ = omega (arith, one_le k 0, one_else k 1 (λ z. omega arith), one_else k 2 (λ z. omega arith))
    go (no d) (yes e) = omega (arith, one_else k 0 d, one_le k 1, one_else k 2 (λ z. omega arith))
    go (no d) (no n) = omega (arith, one_else k 0 d, one_else k 1 n, one_le k 2)

pub three_sound : Sound three
three_sound = record { few_points = omega arith; few_records = omega arith; good = each; once = λ k. rw ring_0 (omega (arith, once k)) }
  where
    each : (i : ℕ) → i < 1 → Good three i
    each zero l = good_0
    each (suc i) l = absurd (omega arith)

module _ {P : Type 0} (f : Coding P) where
  abbrev pub alone : Forest (Ring P) (List P)
  alone = record { entries = closed_ring none (initial (at_start (map (value f.of three) (0 ∷ 1 ∷ 2 ∷ [])))) ∷ []; points = 3 }

  pub three_rep : Rep f.of three alone
  unfolding run
  three_rep = record { in_step = record { sound = three_sound; points_are = refl; records_are = refl; holds = each }; starts = λ i h. omega arith; cuts = cut }
    where
      each : (i : ℕ) → i < 1 → Holds f.of three i (at alone.entries i)
      each zero l = a_closed none (initial (at_start (map (value f.of three) (0 ∷ 1 ∷ 2 ∷ [])))) refl refl refl
      each (suc i) l = absurd (omega arith)

      cut : (i : ℕ) → i < 1 → three (rc CUT) i ≡ or_none (cut_from (at alone.entries i))
      cut zero l = refl
      cut (suc i) l = absurd (omega arith)

  -- so it stays in step under every list of steps, whatever the geometry
  pub three_runs : (G : Geo P) → Laws G f → (is : List ℕ) → Rep f.of (run_s G f three is) (run_forest (machine G) 2048 512 alone is)
  three_runs G Λ is = run_is G f Λ three alone three_rep is
