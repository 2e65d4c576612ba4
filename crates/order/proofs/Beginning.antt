-- Where a closed ring of the table begins: with the points that opening left, or as an offcut; at its start, with points.
use mathlib.Core.Path.{◌≡◌, refl, sym, ap, ◌∙◌}
use mathlib.Core.Bool.{Bool, true, false, cond}
use mathlib.Core.List.{List, [], ◌∷◌}
use mathlib.Core.Option.{Option, some}
use Prim.Native.Nat.{ℕ, ◌≤◌, ◌<◌}
use native.Mathlib.Omega.{arith}
use lib.ListN.{length, take, length-map, get_or-map}
use Rattle.rings.specs.Count.{occ}
use Rattle.rings.specs.Progress.{Ring, at_start}
use Rattle.geometry.specs.declared.Point.{Point}
use Rattle.lone.specs.Act.{Act, stay, discard, drop_point, move_on, to_first, double, cut, offcut}
use Rattle.lone.specs.Lone.{Geo, act_of, offcut_ring}
use Rattle.lone.specs.Forest.{State, initial, closed_ring, left_ringless, left_open, left_closed, enter, at}
use Rattle.lone.specs.Order.{machine}
use Rattle.lone.proofs.Stepping.{at_closed}
use Rattle.store.specs.Field.{rc, FIRST}
use Rattle.store.specs.Words.{view}
use Rattle.store.specs.Sound.{recs, ringless, ring_at, is_open}
use Rattle.store.specs.Value.{point_at, ring_points}
use Rattle.store.proofs.Soundness.{first_on}
use Rattle.finishing.specs.Run.{run_of}
use Rattle.finishing.specs.Start.{Start}
use Rattle.order.specs.Demand3.{fed}
use Rattle.order.proofs.Theorem.{os, F₀, F, follows, left_at}

-- an offcut is at its start, with points
begins : {P : Type 0} (act : Act P) (R O : Ring P) → offcut (λ (v : P). v) act R ≡ some O → (c : List P) × (1 ≤ length c) × (O ≡ at_start c)
begins stay R O h = let z : ◌≡◌ {A = ℕ} 0 1 = cc in absurd (omega arith)
begins (discard y) R O h = let z : ◌≡◌ {A = ℕ} 0 1 = cc in absurd (omega arith)
begins drop_point R O h = let z : ◌≡◌ {A = ℕ} 0 1 = cc in absurd (omega arith)
begins (move_on d) R O h = let z : ◌≡◌ {A = ℕ} 0 1 = cc in absurd (omega arith)
begins (to_first d) R O h = let z : ◌≡◌ {A = ℕ} 0 1 = cc in absurd (omega arith)
begins (double v d) R O h = let z : ◌≡◌ {A = ℕ} 0 1 = cc in absurd (omega arith)
begins (cut v put false d) R O h = let z : ◌≡◌ {A = ℕ} 0 1 = cc in absurd (omega arith)
begins (cut v put true d) R O h = (v ∷ take 2 R.circle, omega arith, cc)

pub offcut_begins : (G : Geo Point) (R S : Ring Point) → (machine G).cuts R ≡ some S → (c : List Point) × (1 ≤ length c) × (S ≡ at_start c)
unfolding machine offcut_ring
offcut_begins G R S e = begins (act_of G R) R S e

module _ (w : List ℕ) (o : Start w) where
  -- an entry for each record
  pub count : (is : List ℕ) → length (F w o is).entries ≡ recs (view (run_of w is))
  count is = (follows w o is).rep.rep.in_step.records_are

  -- what the table begins with
  pub entered : (j : ℕ) → j < recs (view w) → at (F₀ w o).entries j ≡ enter (fed w j)
  entered j l = get_or-map enter (os w o) j left_ringless ∙ ap enter (left_at w o j l)

  -- what opening left is at its start, with points
  pub opened_begins : (j : ℕ) (q : Option ℕ) (L : State (Ring Point)) → at (F₀ w o).entries j ≡ closed_ring q L → (c : List Point) × (1 ≤ length c) × (L ≡ initial (at_start c))
  opened_begins j q L e = go (ringless (view w) j) refl (is_open (view w) j) (sym (entered j (omega (arith, count [], at_closed (F₀ w o).entries j e))) ∙ e)
    where
      has : ringless (view w) j ≡ false → 1 ≤ length (ring_points (view w) j)
      has r = rw (length-map (ring_at (view w) j) (point_at (view w))) (some_in (view w (rc FIRST) j) (ring_at (view w) j) (first_on (view w) j r))
        where
          some_in : (k : ℕ) (c : List ℕ) → 0 < occ k c → 1 ≤ length c
          some_in k [] h = absurd (omega arith)
          some_in k (x ∷ c) h = omega arith

      go : (a : Bool) → ringless (view w) j ≡ a → (b : Bool) → enter (cond a left_ringless (cond b (left_open (ring_points (view w) j)) (left_closed (at_start (ring_points (view w) j))))) ≡ closed_ring q L → (c : List Point) × (1 ≤ length c) × (L ≡ initial (at_start c))
      go true r b k = let z : ◌≡◌ {A = ℕ} 0 1 = cc in absurd (omega arith)
      go false r true k = let z : ◌≡◌ {A = ℕ} 0 1 = cc in absurd (omega arith)
      go false r false k = (ring_points (view w) j, has r, cc)
