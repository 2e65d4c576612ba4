-- How the walks round the rings go: point by point in one word, ring by ring in one word, and word by word.
use mathlib.Core.Path.{◌≡◌, refl, sym, ap, ◌∙◌, subst}
use mathlib.Core.Bool.{Bool, true, false, not, ◌&&◌, ◌||◌}
use mathlib.Core.Logic.{◌≢◌, ◌⊎◌, inl, inr}
use mathlib.Core.List.{List}
use Prim.Native.Nat.{ℕ, zero, suc, ◌+◌, ◌-◌, ◌/◌, ◌%◌, ◌^◌, ◌<◌, ◌≤◌}
use native.Mathlib.Numerals.{sub-one, add-one}
use native.Mathlib.Omega.{arith}
use lib.Bits.{bit_or}
use lib.Dec.{eqb}
use lib.ListN.{replicate}
use borrow.Author.Tests.{eq-eqb, ne_eqb, eqb-true, eqb-false}
use Rattle.rings.specs.Walk.{run}
use Rattle.job.specs.Limits.{POINTS, RECORDS}
use Rattle.marks.specs.Marks.{BITS, WORDS, with_bit, with_mark, with_bits, marked, all_below}
use Rattle.marks.proofs.Marking.{no_bits, bits_more}
use Rattle.store.specs.Field.{NONE}
use Rattle.store.specs.Words.{view}
use Rattle.store.specs.Named.{next_of, rec_of, first_of, owner_of, points_of, records_of}
use Rattle.store.specs.Sound.{ring_at}
use Rattle.audit.specs.Tests.{any_below}
use Rattle.audit.proofs.Testing.{none, more, hit}
use Rattle.joins.specs.Resolve.{get_real_outrec}
use Rattle.visits.specs.Rings.{any_in, alone, elsewhere, estranged}
use Rattle.visits.specs.Marks.{marks_on, marks_to, Begins, Stretching, Met, Back, Onward, Standing, to_go, Strays, Gathers}
use Rattle.visits.specs.declared.Place.{Place}
use Rattle.visits.specs.declared.Gathered.{Gathered}
use Rattle.visits.proofs.Chains.{here}
use Rattle.visits.proofs.Marking.{unmarked_alone}

clash : {A : Type 0} {b : Bool} → b ≡ true → b ≡ false → A
clash e f = absurd (let z : ◌≡◌ {A = ℕ} 0 1 = cc in omega arith)

-- a record with a ring resolves to itself, so a point that names it does
pub own_here : (w : List ℕ) (i k r : ℕ) (b : Bool) → r ≡ rec_of w k → b ≡ (eqb r i && not (eqb (first_of w i) NONE)) → b ≡ true → false ≡ elsewhere w i k
own_here w i k r b e d h = by (eqb r i) refl (eqb (first_of w i) NONE) refl (sym d ∙ h)
  where
    by : (x : Bool) → eqb r i ≡ x → (y : Bool) → eqb (first_of w i) NONE ≡ y → (x && not y) ≡ true → false ≡ elsewhere w i k
    by false f y g c = clash c refl
    by true f true g c = clash c refl
    by true f false g c =
        let a : rec_of w k ≡ i = sym e ∙ eqb-true r i f in
        let z : i ≡ get_real_outrec w i = here (first_of w) (owner_of w) i (get_real_outrec w i) RECORDS (first_of w i) (omega arith) refl (eqb-false (first_of w i) NONE g) refl in
        rw (a, eq-eqb (get_real_outrec w i) i (sym z))

-- what is ahead of p: p, and then nothing or the rest
module _ (q : ℕ → Bool) (n : ℕ → ℕ) (a p : ℕ) where
  ahead_yes : (f : ℕ) → 0 < f → q p ≡ true → any_in q (run n a f p) ≡ true
  unfolding run any_in
  ahead_yes zero z e = absurd (omega arith)
  ahead_yes (suc f) z e = rw e

  ahead_back : (f : ℕ) → 0 < f → q p ≡ false → n p ≡ a → any_in q (run n a f p) ≡ false
  unfolding run any_in
  ahead_back zero z e h = absurd (omega arith)
  ahead_back (suc f) z e h = rw (e, eq-eqb (n p) a h)

  ahead_on : (f : ℕ) → 0 < f → q p ≡ false → n p ≢ a → any_in q (run n a f p) ≡ any_in q (run n a (f - 1) (n p))
  unfolding run any_in
  ahead_on zero z e h = absurd (omega arith)
  ahead_on (suc f) z e h = rw (sub-one, e, ne_eqb (n p) a h)

  marks_back : (f : ℕ) (ms : List ℕ) → 0 < f → n p ≡ a → marks_on (run n a f p) ms ≡ with_mark ms p
  unfolding run marks_on
  marks_back zero ms z h = absurd (omega arith)
  marks_back (suc f) ms z h = rw (eq-eqb (n p) a h)

  marks_on_lem : (f : ℕ) (ms : List ℕ) → 0 < f → n p ≢ a → marks_on (run n a f p) ms ≡ marks_on (run n a (f - 1) (n p)) (with_mark ms p)
  unfolding run marks_on
  marks_on_lem zero ms z h = absurd (omega arith)
  marks_on_lem (suc f) ms z h = rw (sub-one, ne_eqb (n p) a h)

over_any : (q : ℕ → Bool) (n : ℕ → ℕ) (a p f : ℕ) → f ≤ 0 → any_in q (run n a f p) ≡ false
unfolding run any_in
over_any q n a p zero z = refl
over_any q n a p (suc f) z = absurd (omega arith)

over_marks : (n : ℕ → ℕ) (a p f : ℕ) (ms : List ℕ) → f ≤ 0 → marks_on (run n a f p) ms ≡ ms
unfolding run marks_on
over_marks n a p zero ms z = refl
over_marks n a p (suc f) ms z = absurd (omega arith)

-- a stretch, point by point
pub stretch_begun : (w : List ℕ) (i a p left word n : ℕ) → n ≡ left → Stretching w i a p left word 0 p n
stretch_begun w i a p left word n e = rw e (record { found = refl; marks = λ ms. ap (marks_on (run (next_of w) a left p)) (no_bits ms word) })

module _ {w : List ℕ} {c : Place} {word bits q n : ℕ} (g : Stretching w c.ring c.first c.point c.left word bits q n) (z : 0 < n) (l : n ≤ c.left) where
  pub stretch_on : (q ≡ c.point) ⊎ (n < c.left) → (q / BITS ≡ word → ⊥) → Onward w c word bits (record { ring = c.ring; first = c.first; point = q; left = n })
  stretch_on h d = record { ring = refl; first = refl; goes_on = g; falls = by h; few = l }
    where
      by : (q ≡ c.point) ⊎ (n < c.left) → c.point / BITS ≡ word → n < c.left
      by (inl f) e = absurd (d (ap (λ (x : ℕ). x / BITS) f ∙ e))
      by (inr m) e = m

  module _ (b : Bool) (e : b ≡ elsewhere w c.ring q) where
    pub stretch_met : b ≡ true → Met w c
    stretch_met h = record { found = sym g.found ∙ ahead_yes (elsewhere w c.ring) (next_of w) c.first q n z (sym e ∙ h) }

    module _ (x bits' : ℕ) (h : b ≡ false) (u : q / BITS ≡ word) (d : bits' ≡ with_bit bits (q % BITS)) (j : x ≡ next_of w q) where
      more_bits : (ms : List ℕ) → with_mark (with_bits ms word bits) q ≡ with_bits ms word bits'
      unfolding with_bit
      more_bits ms = rw (u, d) (bits_more ms word bits (2 ^ (q % BITS)))

      pub stretch_back : x ≡ c.first → Back w c word bits'
      stretch_back y =
          record {
            none = sym g.found ∙ ahead_back (elsewhere w c.ring) (next_of w) c.first q n z (sym e ∙ h) (sym j ∙ y);
            marks = λ ms. sym (g.marks ms) ∙ marks_back (elsewhere w c.ring) (next_of w) c.first q n (with_bits ms word bits) z (sym j ∙ y) ∙ more_bits ms;
          }

      stretch_less : (x ≡ c.first → ⊥) → Stretching w c.ring c.first c.point c.left word bits' x (n - 1)
      stretch_less y =
          rw j
          (record {
            found = sym (ahead_on (elsewhere w c.ring) (next_of w) c.first q n z (sym e ∙ h) (λ t. y (j ∙ t))) ∙ g.found;
            marks = λ ms. ap (marks_on (run (next_of w) c.first (n - 1) (next_of w q))) (sym (more_bits ms)) ∙ sym (marks_on_lem (elsewhere w c.ring) (next_of w) c.first q n (with_bits ms word bits) z (λ t. y (j ∙ t))) ∙ g.marks ms;
          })

      -- m points to go after this one
      pub stretch_more : (m : ℕ) → m ≡ n - 1 → (x ≡ c.first → ⊥) → Stretching w c.ring c.first c.point c.left word bits' x m
      stretch_more m v y = rw v (stretch_less y)

pub stretch_over : {w : List ℕ} {c : Place} {word bits q n : ℕ} → Stretching w c.ring c.first c.point c.left word bits q n → n ≤ 0 → Back w c word bits
stretch_over {w} {c} {word} {bits} {q} {n} g z =
    record {
      none = sym g.found ∙ over_any (elsewhere w c.ring) (next_of w) c.first q n z;
      marks = λ ms. sym (g.marks ms) ∙ over_marks (next_of w) c.first q n (with_bits ms word bits) z;
    }

-- a record without points, and one with
module _ (w : List ℕ) (i a : ℕ) (e : a ≡ first_of w i) where
  pub begins_ringless : a ≡ NONE → Begins w i (record { ring = i; first = a; point = a; left = 0 })
  unfolding run
  begins_ringless h = record { ring = refl; ahead = rw (eq-eqb (first_of w i) NONE (sym e ∙ h)); few = omega arith }

  pub begins_ring : (a ≡ NONE → ⊥) → Begins w i (record { ring = i; first = a; point = a; left = POINTS })
  begins_ring h = record { ring = refl; ahead = rw (ne_eqb (first_of w i) NONE (λ y. h (e ∙ y)), e); few = omega arith }

-- at the beginning of a ring
at_ring : (w : List ℕ) (i : ℕ) (c : Place) (ms : List ℕ) → Begins w i c → i ≤ records_of w → any_below i (estranged w) ≡ false → ms ≡ marks_to w i → Standing w c ms
unfolding marks_to
at_ring w i c ms b l a h =
    record {
      few = rw b.ring l;
      none = rw b.ring a;
      found = rw (b.ring, b.ahead);
      marks = rw (b.ring, b.ahead) (ap (marks_on (ring_at (view w) i)) h);
      all = λ _. rw b.ring h;
    }

pub stands_first : (w : List ℕ) (c : Place) (ms : List ℕ) → Begins w 0 c → ms ≡ replicate WORDS 0 → Standing w c ms
unfolding marks_to
stands_first w c ms b e = at_ring w 0 c ms b (omega arith) (none (estranged w)) e

-- a ring, stretch by stretch
module _ {w : List ℕ} {c : Place} {ms : List ℕ} (g : Standing w c ms) (l : c.ring < records_of w) where
  meets : Met w c → any_below (records_of w) (estranged w) ≡ true
  meets s = sym (hit (estranged w) (records_of w) (records_of w) c.ring true l refl (sym s.found ∙ g.found) refl)

  module _ {word bits : ℕ} {d : Place} where
    round_on : Onward w c word bits d → Standing w d (with_bits ms word bits)
    round_on s =
        record {
          few = rw s.ring g.few;
          none = rw s.ring g.none;
          found = rw (s.ring, s.first) (s.goes_on.found ∙ g.found);
          marks = rw (s.ring, s.first) (s.goes_on.marks ms ∙ g.marks);
          all = λ k. absurd (let e : d.ring ≡ c.ring = s.ring in omega arith);
        }

    ring_done : Back w c word bits → Begins w (c.ring + 1) d → Standing w d (with_bits ms word bits)
    ring_done s b =
        at_ring w (c.ring + 1) d (with_bits ms word bits) b (omega arith)
        (more (estranged w) c.ring false g.none (sym s.none ∙ g.found) refl)
        (sym (s.marks ms) ∙ g.marks ∙ ap (marks_to w) (sym (add-one c.ring)))

-- what is gathered in one word up to a place
pub record Gathering (w : List ℕ) (from c : Place) (word bits : ℕ) : Type 0 where
  pub stands : (ms : List ℕ) → Standing w from ms → Standing w c (with_bits ms word bits)
  pub moved : (c ≡ from) ⊎ ((from.ring < c.ring) × (c.left ≤ POINTS))

pub gather_begun : (w : List ℕ) (from : Place) (word : ℕ) → Gathering w from from word 0
gather_begun w from word = record { stands = λ ms s. rw (no_bits ms word) s; moved = inl refl }

module _ {w : List ℕ} {from c : Place} {bits : ℕ} (g : Gathering w from c (from.point / BITS) bits) (r : ℕ) (k : r ≡ records_of w) where
  pub gather_over : r ≤ c.ring → Gathers w from (record { word = from.point / BITS; bits = bits; place = c })
  gather_over h =
      record {
        goes_on = λ ms z. g.stands ms z;
        falls = λ l. by g.moved l;
      }
    where
      by : (c ≡ from) ⊎ ((from.ring < c.ring) × (c.left ≤ POINTS)) → from.ring < records_of w → to_go w c < to_go w from
      by (inl e) l = let d : c.ring ≡ from.ring = ap (λ (x : Place). x.ring) e in absurd (omega arith)
      by (inr (m, f)) l = omega arith

  module _ (l : c.ring < r) where
    pub gather_met : Met w c → Strays w from
    gather_met s = record { met = λ ms z. meets (g.stands ms z) (omega arith) s }

    module _ (b bits' : ℕ) (d : bits' ≡ bit_or bits b) where
      both : (ms : List ℕ) → with_bits (with_bits ms (from.point / BITS) bits) (from.point / BITS) b ≡ with_bits ms (from.point / BITS) bits'
      both ms = bits_more ms (from.point / BITS) bits b ∙ ap (with_bits ms (from.point / BITS)) (sym d)

      module _ {x : Place} where
        pub gather_on : Onward w c (from.point / BITS) b x → Gathers w from (record { word = from.point / BITS; bits = bits'; place = x })
        gather_on s =
            record {
              goes_on = λ ms z. subst (Standing w x) (both ms) (round_on (g.stands ms z) (omega arith) s);
              falls = λ m. by g.moved m;
            }
          where
            by : (c ≡ from) ⊎ ((from.ring < c.ring) × (c.left ≤ POINTS)) → from.ring < records_of w → to_go w x < to_go w from
            by (inl e) m =
                let u : c.ring ≡ from.ring = ap (λ (y : Place). y.ring) e in
                let v : c.left ≡ from.left = ap (λ (y : Place). y.left) e in
                let v' : x.ring ≡ c.ring = s.ring in
                let t : x.left < c.left = s.falls (ap (λ (y : Place). y.point / BITS) e) in
                omega arith
            by (inr (m, f)) _ = let v' : x.ring ≡ c.ring = s.ring in let t : x.left ≤ c.left = s.few in omega arith

        pub gather_more : Back w c (from.point / BITS) b → Begins w (c.ring + 1) x → Gathering w from x (from.point / BITS) bits'
        gather_more s j =
            record {
              stands = λ ms z. subst (Standing w x) (both ms) (ring_done (g.stands ms z) (omega arith) s j);
              moved = inr (by g.moved);
            }
          where
            by : (c ≡ from) ⊎ ((from.ring < c.ring) × (c.left ≤ POINTS)) → (from.ring < x.ring) × (x.left ≤ POINTS)
            by (inl e) = let u : c.ring ≡ from.ring = ap (λ (y : Place). y.ring) e in let v : x.ring ≡ c.ring + 1 = j.ring in (omega arith, j.few)
            by (inr (m, f)) = let v : x.ring ≡ c.ring + 1 = j.ring in (omega arith, j.few)

-- all rings, word by word
module _ {w : List ℕ} {c : Place} {ms : List ℕ} (s : Standing w c ms) where
  pub stray_met : Strays w c → true ≡ (any_below (records_of w) (estranged w) || any_below (points_of w) (alone w))
  stray_met t = rw (t.met ms s)

  module _ {g : Gathered} (t : Gathers w c g) where
    pub stray_on : (ms' : List ℕ) → ms' ≡ with_bits ms g.word g.bits → Standing w g.place ms'
    stray_on ms' e = rw e (t.goes_on ms s)

    pub stray_less : (n : ℕ) → c.ring < n → n ≡ records_of w → to_go w g.place < to_go w c
    stray_less n l e = t.falls (omega arith)

  pub stray_over : (n : ℕ) (b : Bool) → n ≤ c.ring → n ≡ records_of w → points_of w ≤ POINTS → b ≡ not (all_below (points_of w) (marked ms)) → b ≡ (any_below (records_of w) (estranged w) || any_below (points_of w) (alone w))
  stray_over n b h e l d =
      let f : c.ring ≡ records_of w = omega (arith, s.few) in
      let u : any_below (records_of w) (estranged w) ≡ false = rw (← f) s.none in
      let m : ms ≡ marks_to w (records_of w) = s.all (omega arith) ∙ ap (marks_to w) f in
      rw u (d ∙ rw m (unmarked_alone w l))
