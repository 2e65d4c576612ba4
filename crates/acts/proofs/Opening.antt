-- The start: a sound store as opening leaves it is in step with the forest that opening makes of it; so the words stay in step under every list of
-- steps, and each lone ring is where it would be alone.
use Prim.Native.Nat.{ℕ, ◌<◌}
use mathlib.Core.Path.{◌≡◌, refl, ap, ◌∙◌, sym, subst}
use mathlib.Core.Bool.{Bool, true, false, cond}
use mathlib.Core.List.{List, map}
use mathlib.Core.Option.{none}
use native.Mathlib.Nat.{zero-add}
use native.Mathlib.Omega.{arith}
use lib.ListN.{length-map, get_or-map}
use Rattle.rings.specs.Progress.{Ring, validity, at_start, map_ring}
use Rattle.rings.specs.Walk.{walk}
use Rattle.rings.proofs.Counting.{length_table, at_table}
use Rattle.lone.specs.Forest.{initial, Entry, Fed, left_ringless, left_open, left_closed, enter, opening, at, cut_from}
use Rattle.store.proofs.Soundness.{from_first}
use Rattle.store.specs.Field.{pt, rc, NEXT, FIRST, NONE}
use Rattle.store.specs.Sound.{pts, recs, ringless, ring_at, is_open, lone_at}
use Rattle.store.specs.Good.{Sound}
use Rattle.store.specs.Words.{Store}
use Rattle.acts.specs.Opened.{Fresh, opened_at, records}
use Rattle.acts.specs.InStep.{or_none, Holds, no_ring, an_open, a_closed}
use Rattle.acts.specs.Rep.{in_loop, Rep}
use Rattle.acts.specs.Value.{value}

module _ {P : Type 0} (of : ℕ → ℕ → ℕ → P) (s : Store) where
  held : (i : ℕ) → Fresh s i → Holds of s i (enter (opened_at of s i))
  held i f = go (ringless s i) (is_open s i) refl refl
    where
      go : (a b : Bool) → ringless s i ≡ a → is_open s i ≡ b → Holds of s i (enter (cond a left_ringless (cond b (left_open (map (value of s) (ring_at s i))) (left_closed (at_start (map (value of s) (ring_at s i)))))))
      go true b e g = no_ring e
      go false true e g = an_open (map (value of s) (ring_at s i)) g refl
      go false false e g = a_closed none (initial (at_start (map (value of s) (ring_at s i)))) g f.cut_is
          (ap (λ (c : List ℕ). map_ring (value of s) (at_start c)) (from_first s i e) ∙ ap (map_ring (value of s)) (sym lone_is))
        where
          lone_is : lone_at s i ≡ at_start (walk (s (pt NEXT)) (s (rc FIRST) i))
          lone_is = rw (e, f.mark_is e g)

  pub opening_rep : Sound s → ((i : ℕ) → i < recs s → Fresh s i) → Rep of s (opening (records of s) (pts s))
  opening_rep o f =
      record {
        in_step = record {
          sound = o;
          points_are = refl;
          records_are = length-map (records of s) enter ∙ length_table (opened_at of s) 0 (recs s);
          holds = λ i l. subst (Holds of s i) (sym (here i l)) (held i (f i l));
        };
        starts = λ i h. let k : in_loop validity ≡ true = rw ((f i h.0.known).mark_is h.0.ringed h.0.closed) at h.1 in let z : ◌≡◌ {A = ℕ} 0 1 = cc in absurd (omega arith);
        cuts = λ i l. (f i l).cut_is ∙ sym (ap (λ (e : Entry (Ring P) (List P)). or_none (cut_from e)) (here i l) ∙ from_none (opened_at of s i));
      }
    where
      here : (i : ℕ) → i < recs s → at (map enter (records of s)) i ≡ enter (opened_at of s i)
      here i l = get_or-map enter (records of s) i left_ringless ∙ ap enter (at_table (opened_at of s) left_ringless 0 (recs s) i l ∙ ap (opened_at of s) (zero-add i))

      from_none : (e : Fed (Ring P) (List P)) → or_none (cut_from (enter e)) ≡ NONE
      from_none left_ringless = refl
      from_none (left_open c) = refl
      from_none (left_closed R) = refl
