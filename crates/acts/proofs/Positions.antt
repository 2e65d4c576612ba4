-- A record after an act: from its circle, linked and whole, and where its first point is on it, to its lone ring, its ring and its soundness.
use Prim.Native.Nat.{ℕ, zero, suc, ◌≤◌, ◌<◌}
use mathlib.Core.Path.{◌≡◌, refl, ap, ◌∙◌, sym, subst}
use mathlib.Core.Logic.{◌⊎◌}
use mathlib.Core.Bool.{true, false, true≢false}
use mathlib.Core.List.{List, ◌∷◌}
use mathlib.Core.Option.{Option, none, some}
use native.Mathlib.Omega.{arith}
use native.Mathlib.Decide.{dec_lt}
use borrow.Author.Tests.{ne_eqb}
use Rattle.rings.proofs.Counting.{occ_spin, occ_head}
use Rattle.rings.proofs.Linking.{linked_spin}
use Rattle.rings.proofs.Placing.{place_out}
use Rattle.rings.proofs.Walking.{ring_is, Seen, seen}
use Rattle.rings.specs.Circle.{spin}
use Rattle.rings.specs.Count.{occ}
use Rattle.rings.specs.Place.{place}
use Rattle.rings.specs.Progress.{Due, tidy_at, resting, validity, removal, triangle, split, done, is_done}
use Rattle.rings.specs.Walk.{walk}
use Rattle.rings.specs.Whole.{Whole}
use Rattle.store.proofs.Keeping.{Kept, once_same, sound_after}
use Rattle.store.proofs.Soundness.{first_on, from_first, present_on}
use Rattle.store.specs.Field.{pt, rc, NEXT, PREV, OWNER, FIRST, MARK, PRESENT, START, NONE}
use Rattle.store.specs.Sound.{pts, recs, ringless, ring_at, due_at, due_of, mark_of, Closed, looping, lone_due, lone_at}
use Rattle.store.specs.Good.{PointIn, Good, Sound}
use Rattle.store.specs.Words.{Store}
use Rattle.acts.specs.Rep.{in_loop}

pub due_mark : (d : Due) → due_of (mark_of d) ≡ d
due_mark validity = refl
due_mark removal = refl
due_mark triangle = refl
due_mark split = refl
due_mark done = refl

pub mark_le : (d : Due) → mark_of d ≤ 4
mark_le validity = omega arith
mark_le removal = omega arith
mark_le triangle = omega arith
mark_le split = omega arith
mark_le done = omega arith

pub place_on : (a f : ℕ) (c : List ℕ) → place a c ≡ some f → 0 < occ a c
place_on a f c e = go (dec_lt 0 (occ a c))
  where
    go : Dec (0 < occ a c) → 0 < occ a c
    go (yes h) = h
    go (no h) = let z : none ≡ some f = sym (place_out a c (omega arith)) ∙ e in let y : ◌≡◌ {A = ℕ} 0 1 = cc in absurd (omega arith)

-- the record's circle is x ∷ l, its first point f places ahead
pub record Positioned (s : Store) (i x : ℕ) (l : List ℕ) (f : ℕ) (st : Option ℕ) (d : Due) : Type 0 where
  pub few : pts s ≤ 2048
  pub present_is : s (rc PRESENT) i ≡ x
  pub mark_is : s (rc MARK) i ≡ mark_of d
  pub whole : Whole (s (pt NEXT)) (s (pt PREV)) (pts s) (x ∷ l)
  pub first_at : place (s (rc FIRST) i) (x ∷ l) ≡ some f
  pub start_at : place (s (rc START) i) (x ∷ l) ≡ st

module _ (s : Store) (i x : ℕ) (l : List ℕ) (f : ℕ) (st : Option ℕ) (d : Due) (a : Positioned s i x l f st d) where
  first_in : 0 < occ (s (rc FIRST) i) (x ∷ l)
  first_in = place_on (s (rc FIRST) i) f (x ∷ l) a.first_at

  pub ringed : ringless s i ≡ false
  ringed = ne_eqb (s (rc FIRST) i) NONE (λ e. omega (arith, a.whole.below (s (rc FIRST) i) first_in, a.few))

  view : Seen (s (pt NEXT)) (s (pt PREV)) (pts s) (x ∷ l) (s (rc FIRST) i)
  view = seen _ _ (pts s) (x ∷ l) (s (rc FIRST) i) a.few a.whole first_in

  first_walk : walk (s (pt NEXT)) (s (rc FIRST) i) ≡ spin f (x ∷ l)
  first_walk =
      let e : some f ≡ some view.far = sym a.first_at ∙ view.is in
      let e' : f ≡ view.far = cc in
      view.walked ∙ sym view.spun ∙ ap (λ (n : ℕ). spin n (x ∷ l)) (sym e')

  pub ring_from : ring_at s i ≡ spin f (x ∷ l)
  ring_from = from_first s i ringed ∙ first_walk

  pub occ_from : (k : ℕ) → occ k (ring_at s i) ≡ occ k (x ∷ l)
  occ_from k = ap (occ k) ring_from ∙ occ_spin k f (x ∷ l)

  circle_walk : walk (s (pt NEXT)) (s (rc PRESENT) i) ≡ x ∷ l
  circle_walk = ap (walk (s (pt NEXT))) a.present_is ∙ ring_is _ _ (pts s) x l a.few a.whole

  loop_is : (due : Due) → looping s i due ≡ record { circle = x ∷ l; first = f; start = st; due = due; why = none }
  loop_is due = rw circle_walk (cc (a.first_at, a.start_at))

  pub lone_is : lone_at s i ≡ tidy_at (x ∷ l) f st d none
  lone_is = rw (ringed, a.mark_is, due_mark d) (go d)
    where
      go : (due : Due) → lone_due s i due ≡ tidy_at (x ∷ l) f st due none
      go validity = ap (resting validity none) first_walk
      go removal = loop_is removal
      go triangle = ap (resting triangle none) first_walk
      go split = loop_is split
      go done = ap (resting done none) first_walk

  pub good_is : ((k : ℕ) → 0 < occ k (x ∷ l) → PointIn s k) → (s (rc OWNER) i ≡ NONE) ⊎ (s (rc OWNER) i < recs s) → Good s i
  good_is put ow =
      record {
        linked = rw ring_from (linked_spin _ _ f (x ∷ l) a.whole.linked);
        points_in_lem = λ k p. put k (rw (occ_from k) at p);
        owner = ow;
        meant = λ c. rw a.mark_is (mark_le d);
        going = λ c e. rw (occ_from (s (rc PRESENT) i)) (subst (λ (y : ℕ). 0 < occ y (x ∷ l)) (sym a.present_is) (occ_head x l));
        explained = λ e. absurd (true≢false (sym e ∙ ringed));
      }

  -- no new record, and no point but the record's own and fresh ones: the store is sound
  pub sound_is : (s₀ : Store) → Sound s₀ → i < recs s₀ → Kept s₀ s i → recs s ≡ recs s₀ → ((k : ℕ) → 0 < occ k (x ∷ l) → PointIn s k) → (s (rc OWNER) i ≡ NONE) ⊎ (s (rc OWNER) i < recs s)
      → ((k : ℕ) → k < pts s₀ → occ k (x ∷ l) ≤ occ k (ring_at s₀ i)) → Sound s
  sound_is s₀ o h K e put ow t =
      sound_after s₀ s o i K a.few (rw e o.few_records) (good_is put ow) (λ j m n. absurd (omega arith))
      (once_same s₀ s o i K h e (λ k m. rw (occ_from k) (t k m)) (λ k m. rw (occ_from k) (a.whole.once k)))

-- the mark of a meaning
pub mark_due : (m : ℕ) (d : Due) → m ≤ 4 → due_of m ≡ d → m ≡ mark_of d
mark_due zero d h e = ap mark_of e
mark_due (suc zero) d h e = ap mark_of e
mark_due (suc (suc zero)) d h e = ap mark_of e
mark_due (suc (suc (suc zero))) d h e = ap mark_of e
mark_due (suc (suc (suc (suc zero)))) d h e = ap mark_of e
mark_due (suc (suc (suc (suc (suc n))))) d h e = absurd (omega arith)

-- and a record in a loop, before the act
pub record Loop (s : Store) (i x : ℕ) (d : Due) : Type 0 where
  pub others : List ℕ
  pub far : ℕ
  pub whole : Whole (s (pt NEXT)) (s (pt PREV)) (pts s) (x ∷ others)
  pub occs : (k : ℕ) → occ k (ring_at s i) ≡ occ k (x ∷ others)
  pub first_at : place (s (rc FIRST) i) (x ∷ others) ≡ some far
  pub looping : in_loop (due_at s i) ≡ true
  pub lone_is : lone_at s i ≡ record { circle = x ∷ others; first = far; start = place (s (rc START) i) (x ∷ others); due = d; why = none }

pub loop : (s : Store) → Sound s → (i x : ℕ) (d : Due) → Closed s i → s (rc PRESENT) i ≡ x → due_at s i ≡ d → in_loop d ≡ true → Loop s i x d
loop s o i x d c px m h =
    let t : Seen (s (pt NEXT)) (s (pt PREV)) (pts s) (ring_at s i) (s (rc PRESENT) i) = present_on s o i c (rw m (going d h)) in
    let v : Seen (s (pt NEXT)) (s (pt PREV)) (pts s) (s (rc PRESENT) i ∷ t.others) (s (rc FIRST) i) =
    seen _ _ (pts s) (s (rc PRESENT) i ∷ t.others) (s (rc FIRST) i) o.few_points t.whole (rw (t.occs (s (rc FIRST) i)) (first_on s i c.ringed)) in
    subst (λ (y : ℕ). Loop s i y d) px
    (record { others = t.others; far = v.far; whole = t.whole; occs = λ k. sym (t.occs k); first_at = v.is; looping = ap in_loop m ∙ h; lone_is = rw (c.ringed, m) (go d h t.others v.far t.walked v.is) })
  where
    going : (due : Due) → in_loop due ≡ true → is_done due ≡ false
    going validity e = refl
    going removal e = refl
    going triangle e = refl
    going split e = refl
    going done e = let y : ◌≡◌ {A = ℕ} 0 1 = cc in absurd (omega arith)

    go : (due : Due) → in_loop due ≡ true → (l : List ℕ) (f : ℕ) → walk (s (pt NEXT)) (s (rc PRESENT) i) ≡ s (rc PRESENT) i ∷ l → place (s (rc FIRST) i) (s (rc PRESENT) i ∷ l) ≡ some f
        → lone_due s i due ≡ record { circle = s (rc PRESENT) i ∷ l; first = f; start = place (s (rc START) i) (s (rc PRESENT) i ∷ l); due = due; why = none }
    go validity e l f w p = let y : ◌≡◌ {A = ℕ} 0 1 = cc in absurd (omega arith)
    go removal e l f w p = rw w (cc)
    go triangle e l f w p = let y : ◌≡◌ {A = ℕ} 0 1 = cc in absurd (omega arith)
    go split e l f w p = rw w (cc)
    go done e l f w p = let y : ◌≡◌ {A = ℕ} 0 1 = cc in absurd (omega arith)
