-- A lone ring has points until the step that discards it, and then has none and keeps the rule: so why it is gone is that step's rule, and a ring without points was discarded.
use mathlib.Core.Path.{◌≡◌, refl, sym, ap, ◌∙◌, subst}
use mathlib.Core.Bool.{Bool, true, false}
use mathlib.Core.List.{List, [], ◌∷◌}
use mathlib.Core.Option.{Option, none, some}
use Prim.Native.Nat.{ℕ, zero, suc, ◌≤◌, ◌<◌}
use native.Mathlib.Omega.{arith}
use native.Mathlib.Decide.{dec_lt}
use lib.ListN.{length, length-append}
use Rattle.rings.specs.Circle.{back, rest, cut_circle}
use Rattle.rings.specs.Progress.{Due, validity, removal, triangle, split, done, Discard, while_removing, at_split, Ring, gone, tidy_at, tidy}
use Rattle.rings.proofs.Circles.{length_turn, length_spin}
use Rattle.lone.specs.Act.{Act, stay, discard, drop_point, move_on, to_first, double, cut, apply}
use Rattle.lone.specs.Lone.{Geo, decide, act_of, step_ring}
use Rattle.lone.specs.Order.{machine}
use Rattle.lone.specs.Kept.{LongEnough, GeoLaws}
use Rattle.lone.proofs.Turning.{validity_cases, removal_cases, triangle_cases, split_cases}
use Rattle.lone.proofs.Keeping.{long_enough}
use Rattle.ended.specs.Discarded.{due_for, ring_after, DiscardedBy}

no_why : {A : Type 0} {y : Discard} → ◌≡◌ {A = Option Discard} none (some y) → A
no_why e = let z : ◌≡◌ {A = ℕ} 0 1 = cc in absurd (omega arith)

-- a rule is that of the step due
module _ {P : Type 0} (G : Geo P) (R : Ring P) (y : Discard) where
  Says : Act P → Type 0
  Says act = act ≡ discard y → R.due ≡ due_for y

  says : (d : Due) → R.due ≡ d → Says (decide G R.circle R.first R.start d)
  unfolding Says decide
  says validity m = validity_cases G Says R.circle R.first R.start (λ h. other h) (λ h. m ∙ ap due_for (same h))
    where
      same : {z : Discard} → ◌≡◌ {A = Act P} (discard z) (discard y) → z ≡ y
      same e = cc

      other : {A : Type 0} → ◌≡◌ {A = Act P} (to_first removal) (discard y) → A
      other e = let z : ◌≡◌ {A = ℕ} 0 1 = cc in absurd (omega arith)
  says removal m =
      removal_cases G Says R.circle R.first R.start (λ h. let k : while_removing ≡ y = cc in m ∙ ap due_for k)
      (λ x xs e t v h. let z : ◌≡◌ {A = ℕ} 0 1 = cc in absurd (omega arith)) (λ x xs e t b i h. let z : ◌≡◌ {A = ℕ} 0 1 = cc in absurd (omega arith))
  says triangle m = triangle_cases G Says R.circle R.first R.start (λ b i h. let z : ◌≡◌ {A = ℕ} 0 1 = cc in absurd (omega arith))
  says split m =
      split_cases G Says R.circle R.first R.start (λ h. let k : at_split ≡ y = cc in m ∙ ap due_for k)
      (λ x xs e b i h. let z : ◌≡◌ {A = ℕ} 0 1 = cc in absurd (omega arith)) (λ x xs e k v o b i h. let z : ◌≡◌ {A = ℕ} 0 1 = cc in absurd (omega arith)) (λ x xs e k v o put off b i h. let z : ◌≡◌ {A = ℕ} 0 1 = cc in absurd (omega arith))
  says done m = stays
    where
      stays : Says stay
      stays h = let z : ◌≡◌ {A = ℕ} 0 1 = cc in absurd (omega arith)

  pub due_of : act_of G R ≡ discard y → R.due ≡ due_for y
  unfolding act_of Says
  due_of e = says R.due refl e

-- what a ring need not remember is forgotten, but not why it is gone
why_tidied : {P : Type 0} (T : Ring P) → (tidy T).why ≡ T.why
why_tidied {P} T = go T.circle T.first T.start T.due T.why
  where
    go : (c : List P) (f : ℕ) (s : Option ℕ) (d : Due) (y : Option Discard) → (tidy_at c f s d y).why ≡ y
    go c f s validity y = refl
    go c f s removal y = refl
    go c f s triangle y = refl
    go c f s split y = refl
    go c f s done y = refl

-- it has points and no rule, or it is gone by one
pub data Fate {P : Type 0} (R : Ring P) : Type 0 where
  going : R.why ≡ none → 1 ≤ length R.circle → Fate R
  gone_by : (y : Discard) → R ≡ gone (some y) → Fate R

module _ {P : Type 0} where
  fate_tidy : (R : Ring P) → Fate R → Fate (tidy R)
  fate_tidy R (going w h) = go R.circle R.first R.start R.due R.why w h
    where
      go : (c : List P) (f : ℕ) (s : Option ℕ) (d : Due) (y : Option Discard) → y ≡ none → 1 ≤ length c → Fate (tidy_at c f s d y)
      go c f s validity y w h = going w (rw (length_spin f c) h)
      go c f s removal y w h = going w h
      go c f s triangle y w h = going w (rw (length_spin f c) h)
      go c f s split y w h = going w h
      go c f s done y w h = going w (rw (length_spin f c) h)
  fate_tidy R (gone_by y e) = gone_by y (ap tidy e)

  cut_some : (put : Bool) (v : P) (c : List P) → 4 ≤ length c → 1 ≤ length (cut_circle put v (back c))
  cut_some put v [] h = absurd (omega arith)
  cut_some put v (a ∷ []) h = absurd (omega arith)
  cut_some put v (a ∷ b ∷ []) h = absurd (omega arith)
  cut_some true v (a ∷ b ∷ c ∷ r) h = omega arith
  cut_some false v (a ∷ b ∷ c ∷ r) h = omega arith

  rest_some : (c : List P) → 4 ≤ length c → 1 ≤ length (rest c)
  rest_some [] h = absurd (omega arith)
  rest_some (x ∷ xs) h = omega arith

  fate_after : (R : Ring P) (act : Act P) → LongEnough act (length R.circle) → R.why ≡ none → 1 ≤ length R.circle → Fate (apply (λ (v : P). v) act R)
  fate_after R stay l w h = going w h
  fate_after R (discard y) l w h = gone_by y refl
  fate_after R drop_point l w h = going refl (rest_some R.circle l)
  fate_after R (move_on d) l w h = going refl (rw (length_turn R.circle) h)
  fate_after R (to_first d) l w h = going refl (rw (length_spin R.first R.circle) h)
  fate_after R (double v d) l w h = going refl (omega (arith, length-append R.circle (v ∷ [])))
  fate_after R (cut v put off d) l w h = going refl (cut_some put v R.circle l)

  module _ (G : Geo P) (laws : GeoLaws G) where
    fate_step : (R : Ring P) → Fate R → Fate (step_ring G R)
    unfolding step_ring act_of decide
    fate_step R (going w h) = fate_tidy (apply (λ (v : P). v) (act_of G R) R) (fate_after R (act_of G R) (long_enough G laws R.circle R.first R.start R.due) w h)
    fate_step R (gone_by y e) = gone_by y (ap (step_ring G) e ∙ stays)
      where
        stays : step_ring G (gone (some y)) ≡ gone (some y)
        stays = refl

    module _ (c : List P) (some_points : 1 ≤ length c) where
      pub fate : (n : ℕ) → Fate (ring_after G c n)
      unfolding machine
      fate zero = going refl some_points
      fate (suc n) = fate_step (ring_after G c n) (fate n)

      -- a ring without points was discarded, and back
      pub empty_gone : (n : ℕ) → (ring_after G c n).circle ≡ [] → (y : Discard) × (ring_after G c n ≡ gone (some y))
      empty_gone n e = go (fate n)
        where
          go : Fate (ring_after G c n) → (y : Discard) × (ring_after G c n ≡ gone (some y))
          go (going w h) = absurd (omega (arith, ap length e))
          go (gone_by y d) = (y, d)

      -- and the rule that it keeps is that of the step that discarded it
      pub discarded_by : (n : ℕ) (y : Discard) → (ring_after G c n).why ≡ some y → DiscardedBy G c n y
      unfolding machine step_ring act_of decide
      discarded_by zero y e = no_why e
      discarded_by (suc n) y e = go (fate n) (λ h. discarded_by n y h)
        where
          later : DiscardedBy G c n y → DiscardedBy G c (suc n) y
          later d = record { at = d.at; within = omega (arith, d.within); had = d.had; due = d.due; act = d.act }

          here : (ring_after G c n).why ≡ none → (act : Act P) → act_of G (ring_after G c n) ≡ act → (tidy (apply (λ (v : P). v) act (ring_after G c n))).why ≡ some y → DiscardedBy G c (suc n) y
          here w (discard z) a h = let k : z ≡ y = cc in record { at = n; within = omega arith; had = w; due = due_of G (ring_after G c n) y (a ∙ ap discard k); act = a ∙ ap discard k }
          here w stay a h = no_why (sym w ∙ sym (why_tidied (ring_after G c n)) ∙ h)
          here w drop_point a h = no_why (sym (why_tidied (apply (λ (v : P). v) drop_point (ring_after G c n))) ∙ h)
          here w (move_on d) a h = no_why (sym (why_tidied (apply (λ (v : P). v) (move_on d) (ring_after G c n))) ∙ h)
          here w (to_first d) a h = no_why (sym (why_tidied (apply (λ (v : P). v) (to_first d) (ring_after G c n))) ∙ h)
          here w (double v d) a h = no_why (sym (why_tidied (apply (λ (v : P). v) (double v d) (ring_after G c n))) ∙ h)
          here w (cut v put off d) a h = no_why (sym (why_tidied (apply (λ (v : P). v) (cut v put off d) (ring_after G c n))) ∙ h)

          go : Fate (ring_after G c n) → ((ring_after G c n).why ≡ some y → DiscardedBy G c n y) → DiscardedBy G c (suc n) y
          go (going w h) before = here w (act_of G (ring_after G c n)) refl e
          go (gone_by z d) before = later (before (kept z d))
            where
              kept : (z : Discard) → ring_after G c n ≡ gone (some z) → (ring_after G c n).why ≡ some y
              kept z d = ap (λ (R : Ring P). R.why) d ∙ sym (ap (λ (R : Ring P). (step_ring G R).why) d) ∙ e

  -- back: from that step on it is gone by its rule
  pub by_discarded : (G : Geo P) (c : List P) (n : ℕ) (y : Discard) → DiscardedBy G c n y → ring_after G c n ≡ gone (some y)
  unfolding machine step_ring act_of decide
  by_discarded G c zero y d = absurd (omega (arith, d.within))
  by_discarded G c (suc n) y d = go (dec_lt d.at n) (λ l. by_discarded G c n y (record { at = d.at; within = l; had = d.had; due = d.due; act = d.act }))
    where
      go : Dec (d.at < n) → (d.at < n → ring_after G c n ≡ gone (some y)) → step_ring G (ring_after G c n) ≡ gone (some y)
      go (yes l) before = ap (step_ring G) (before l)
      go (no l) before =
          let e : d.at ≡ n = omega (arith, d.within) in
          ap (λ (act : Act P). tidy (apply (λ (v : P). v) act (ring_after G c n))) (subst (λ (k : ℕ). act_of G (ring_after G c k) ≡ discard y) e d.act)
