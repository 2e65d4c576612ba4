-- A work space as opening leaves it is in step with the forest of its rings, each at its start; so its rings may be finished.
use Prim.Native.Nat.{ℕ, ◌≤◌, ◌<◌}
use mathlib.Core.Path.{◌≡◌, refl, sym, subst}
use mathlib.Core.Bool.{Bool, true, false, cond}
use mathlib.Core.List.{List, [], ◌∷◌}
use native.Mathlib.Omega.{arith}
use native.Mathlib.Decide.{dec_lt}
use lib.ListN.{length, length-map, get_or-eq_default}
use Rattle.job.specs.Limits.{POINTS}
use Rattle.rings.specs.Progress.{Ring, gone, at_start, map_ring}
use Rattle.rings.specs.Walk.{walk}
use Rattle.rings.proofs.Counting.{pigeon}
use Rattle.geometry.specs.declared.Point.{Point}
use Rattle.lone.specs.Forest.{Entry, ringless, Forest, opening, at, OfClosed}
use Rattle.lone.specs.Kept.{Held, HeldIn}
use Rattle.store.specs.Field.{rc, pt, NEXT, FIRST, REASON}
use Rattle.store.specs.Reason.{discard_of}
use Rattle.store.specs.Words.{view}
use Rattle.store.specs.Sound.{pts, recs, ring_at, due_at, lone_due, lone_at}
use Rattle.store.specs.Sound as store
use Rattle.store.proofs.Soundness.{whole, from_first}
use Rattle.handed.specs.Handed.{Usable}
use Rattle.acts.specs.Opened.{records}
use Rattle.acts.specs.InStep.{Holds, no_ring, an_open, a_closed}
use Rattle.acts.specs.Rep.{RepW}
use Rattle.acts.specs.Value.{value}
use Rattle.acts.proofs.Opening.{opening_rep}
use Rattle.turns.specs.Form.{raised}
use Rattle.finishing.specs.Start.{Start}

module _ (w : List ℕ) (o : Start w) where
  -- the forest that opening makes
  abbrev pub F₀ : Forest (Ring Point) (List Point)
  F₀ = opening (records raised.of (view w)) (pts (view w))

  pub start_rep : RepW raised w F₀
  start_rep = record { long = omega (arith, o.long); rep = opening_rep raised.of (view w) o.sound o.fresh }

  -- every ring is at its start, and has no more points than there are
  module _ (i : ℕ) (l : i < recs (view w)) where
    short : length (ring_at (view w) i) ≤ pts (view w)
    short = let r = whole (view w) o.sound i l in pigeon (pts (view w)) (ring_at (view w) i) r.once r.below

    held_ring : (c : List ℕ) → length c ≤ pts (view w) → Held (pts (view w)) (map_ring (value raised.of (view w)) (at_start c))
    held_ring [] h = record { on_ring_lem = (omega arith, tt); has_start = tt; short = omega arith }
    held_ring (x ∷ c) h = record { on_ring_lem = (omega arith, tt); has_start = tt; short = rw (length-map c (value raised.of (view w))) h }

    held_lone : store.is_open (view w) i ≡ false → Held (pts (view w)) (map_ring (value raised.of (view w)) (lone_at (view w) i))
    held_lone shut = go (store.ringless (view w) i) refl
      where
        go : (b : Bool) → store.ringless (view w) i ≡ b → Held (pts (view w)) (map_ring (value raised.of (view w)) (cond b (gone (discard_of (view w (rc REASON) i))) (lone_due (view w) i (due_at (view w) i))))
        go true e = record { on_ring_lem = (omega arith, tt); has_start = tt; short = omega arith }
        go false e = rw ((o.fresh i l).mark_is e shut) (held_ring (walk (view w (pt NEXT)) (view w (rc FIRST) i)) (subst (λ (c : List ℕ). length c ≤ pts (view w)) (from_first (view w) i e) short))

    held_shown : (e : Entry (Ring Point) (List Point)) → Holds raised.of (view w) i e → OfClosed (Held (pts (view w))) e
    held_shown e (no_ring a) = tt
    held_shown e (an_open c a d) = tt
    held_shown e (a_closed q L a b m) = subst (Held (pts (view w))) (sym m) (held_lone a)

  pub held : HeldIn POINTS F₀
  held = record { within = o.sound.few_points; every = λ i. each i (dec_lt i (recs (view w))) }
    where
      each : (i : ℕ) → Dec (i < recs (view w)) → OfClosed (Held (pts (view w))) (at F₀.entries i)
      each i (yes l) = held_shown i l (at F₀.entries i) (start_rep.rep.in_step.holds i l)
      each i (no n) = rw (get_or-eq_default F₀.entries ringless {n = i} (omega (arith, start_rep.rep.in_step.records_are))) tt

  -- it passes the tests
  pub start_usable : Usable w
  start_usable = record { long = o.long; sound = o.sound; boxed = o.boxed; apart = o.apart }
