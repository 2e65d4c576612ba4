-- Finishing a forest of rings in one call decides: it has steps enough, since the measure falls with every one.
use mathlib.Core.Path.{◌≡◌, refl, sym, ap, ◌∙◌}
use mathlib.Core.Logic.{◌⊎◌, inl, inr}
use mathlib.Core.List.{List, [], ◌∷◌}
use mathlib.Core.Option.{some}
use mathlib.Core.Bool.{Bool, true, false, true≢false}
use Prim.Native.Nat.{ℕ, zero, suc, ◌+◌, ◌-◌, ◌*◌, ◌≤◌, ◌<◌}
use native.Mathlib.Nat.{suc-mul, not-suc-le-zero}
use native.Mathlib.Omega.{arith}
use lib.ListN.{length, take}
use Rattle.rings.specs.Progress.{Ring, at_start}
use Rattle.lone.specs.Act.{Act, stay, discard, drop_point, move_on, to_first, double, cut, offcut, takes_points}
use Rattle.lone.specs.Lone.{Geo, act_of, offcut_ring, takes_ring}
use Rattle.lone.specs.Forest.{Entry, ringless, open_ring, closed_ring, ok, Forest, is_ok, at, step_state, carry_out, answer, step_forest}
use Rattle.lone.specs.Order.{machine, AllDone, ForestFits, ForestNeverEnds}
use Rattle.lone.specs.Kept.{PlacesOnRing, HasStart, Held, HeldIn}
use Rattle.lone.specs.Measure.{measure}
use Rattle.lone.specs.Rounds.{heaviest}
use Rattle.lone.specs.Finish.{finish_forest}
use Rattle.lone.specs.Rounds.{enough}
use Rattle.lone.proofs.Stepping.{at_closed, step_here, Accepted, Refused, view}
use Rattle.lone.proofs.Every.{every_carry}
use Rattle.lone.proofs.Keeping.{on_step, start_kept_lem, offcut_starts}
use Rattle.lone.proofs.Measuring.{weight_le, step_grows, measure_falls}
use Rattle.lone.proofs.Finishing.{finish_decides}

-- an offcut has no more points than the ring had, and the points taken
offcut_size : {P : Type 0} (act : Act P) (R O : Ring P) → offcut (λ (v : P). v) act R ≡ some O → length O.circle ≤ length R.circle + takes_points act
offcut_size stay R O h = let z : ◌≡◌ {A = ℕ} 0 1 = cc in absurd (omega arith)
offcut_size (discard y) R O h = let z : ◌≡◌ {A = ℕ} 0 1 = cc in absurd (omega arith)
offcut_size drop_point R O h = let z : ◌≡◌ {A = ℕ} 0 1 = cc in absurd (omega arith)
offcut_size (move_on d) R O h = let z : ◌≡◌ {A = ℕ} 0 1 = cc in absurd (omega arith)
offcut_size (to_first d) R O h = let z : ◌≡◌ {A = ℕ} 0 1 = cc in absurd (omega arith)
offcut_size (double v d) R O h = let z : ◌≡◌ {A = ℕ} 0 1 = cc in absurd (omega arith)
offcut_size (cut v put false d) R O h = let z : ◌≡◌ {A = ℕ} 0 1 = cc in absurd (omega arith)
offcut_size {P} (cut v put true d) R O h = let e : v ∷ take 2 R.circle ≡ O.circle = cc in rw (← e) (go put R.circle)
  where
    go : (put : Bool) (c : List P) → length (v ∷ take 2 c) ≤ length c + takes_points (cut v put true d)
    go true [] = omega arith
    go true (x ∷ []) = omega arith
    go true (x ∷ y ∷ c) = omega arith
    go false [] = omega arith
    go false (x ∷ []) = omega arith
    go false (x ∷ y ∷ c) = omega arith

scale_le : (a b k : ℕ) → a ≤ b → a * k ≤ b * k
scale_le zero b k h = omega arith
scale_le (suc a) zero k h = absurd (not-suc-le-zero h)
scale_le (suc a) (suc b) k h = omega (arith, scale_le a b k (omega arith), suc-mul a k, suc-mul b k)

module _ {P X : Type 0} (G : Geo P) (lp lr : ℕ) where
  -- with `free` points left
  unfoldable pub left_of : ℕ → Entry (Ring P) X → ℕ
  left_of free ringless = 0
  left_of free (open_ring x) = 0
  left_of free (closed_ring q L) = measure lp free L.now

  unfoldable pub left : Forest (Ring P) X → ℕ → ℕ
  unfolding left_of
  left F i = left_of (lp - F.points) (at F.entries i)

  kept_carry : (F : Forest (Ring P) X) (i : ℕ) (y : Accepted (machine G) lp lr F i) → HeldIn lp F → HeldIn lp (carry_out (machine G) F i y.who y.state)
  unfolding machine offcut_ring takes_ring
  kept_carry F i y v = record {
    within = y.fits_points;
    every = every_carry (machine G) (Held F.points) (Held (F.points + takes_points (act_of G R))) F i y.who y.state y.here (λ T h. record { on_ring_lem = h.on_ring_lem; has_start = h.has_start; short = omega (arith, h.short) })
        (λ h. record { on_ring_lem = on_step G R h.on_ring_lem; has_start = start_kept_lem G R h.has_start; short = omega (arith, h.short, step_grows G R) })
        new v.every;
  }
    where
      R : Ring P
      R = y.state.now

      new : (O : Ring P) → offcut (λ (v : P). v) (act_of G R) R ≡ some O → Held F.points R → Held (F.points + takes_points (act_of G R)) O
      new O e h = record {
        on_ring_lem = offcut_starts (λ (v : P). v) (λ (T : Ring P). PlacesOnRing T) on_start (act_of G R) R O e;
        has_start = offcut_starts (λ (v : P). v) (λ (T : Ring P). HasStart T.due T.start) (λ c. tt) (act_of G R) R O e;
        short = omega (arith, h.short, offcut_size (act_of G R) R O e);
      }
        where
          on_start : (c : List P) → PlacesOnRing (at_start c)
          on_start [] = (omega arith, tt)
          on_start (x ∷ c) = (omega arith, tt)

  pub kept : (F : Forest (Ring P) X) (i : ℕ) → HeldIn lp F → HeldIn lp (step_forest (machine G) lp lr F i)
  kept F i v = go (view (machine G) lp lr F i)
    where
      go : Accepted (machine G) lp lr F i ⊎ Refused (machine G) lp lr F i → HeldIn lp (step_forest (machine G) lp lr F i)
      go (inl y) = rw y.becomes (kept_carry F i y v)
      go (inr z) = rw z.becomes v

  pub falls : (F : Forest (Ring P) X) (i : ℕ) → HeldIn lp F → answer (machine G) lp lr F i ≡ ok → left (step_forest (machine G) lp lr F i) i < left F i
  unfolding left left_of
  falls F i v e = go (view (machine G) lp lr F i)
    where
      less : (y : Accepted (machine G) lp lr F i) → HeldIn lp (carry_out (machine G) F i y.who y.state) → left (carry_out (machine G) F i y.who y.state) i < left F i
      less y w =
          let R : Ring P = y.state.now in
          let k : ℕ = (machine G).takes R in
          let here : at (carry_out (machine G) F i y.who y.state).entries i ≡ closed_ring y.who (step_state (machine G) y.state) = step_here (machine G) F.entries i y.who y.state (at_closed F.entries i y.here) in
          let was : Held F.points R = (rw y.here at (v.every i)) in
          let now : Held (F.points + k) ((machine G).next R) = (rw here at (w.every i)) in
          let free : lp - (F.points + k) + k ≡ lp - F.points = omega (arith, y.fits_points) in
          rw (here, y.here) (rw (← free) (measure_falls G lp (lp - (F.points + k)) R y.unfinished was.has_start now.on_ring_lem (omega (arith, now.short, y.fits_points))))

      go : Accepted (machine G) lp lr F i ⊎ Refused (machine G) lp lr F i → left (step_forest (machine G) lp lr F i) i < left F i
      go (inl y) = rw y.becomes (less y (kept_carry F i y v))
      go (inr z) = absurd (true≢false (sym (ap is_ok e) ∙ z.says))

  pub bound : (F : Forest (Ring P) X) (i : ℕ) → HeldIn lp F → left F i < enough lp
  unfolding left left_of
  bound F i v = go (at F.entries i) refl
    where
      go : (e : Entry (Ring P) X) → at F.entries i ≡ e → left_of (lp - F.points) e < enough lp
      go ringless h = omega (arith, suc-mul lp (suc (heaviest lp)))
      go (open_ring x) h = omega (arith, suc-mul lp (suc (heaviest lp)))
      go (closed_ring q L) h =
          let w : Held F.points L.now = (rw h at (v.every i)) in
          omega (arith, suc-mul lp (suc (heaviest lp)), scale_le (lp - F.points) lp (suc (heaviest lp)) (omega arith), weight_le lp L.now w.on_ring_lem (omega (arith, w.short, v.within)))

  -- finishing a forest of rings: all are done after it, and then no list has a full refusal and each can be carried on so far; or none can
  pub rings_finish : (F : Forest (Ring P) X) → HeldIn lp F → length F.entries ≤ lr → (AllDone (machine G) (finish_forest (machine G) lp lr F).entries × ForestFits (machine G) lp lr F) ⊎ ForestNeverEnds (machine G) lp lr F
  unfolding finish_forest
  rings_finish F v h = finish_decides (machine G) lp lr (HeldIn lp) left kept falls (enough lp) bound F v.within h v
