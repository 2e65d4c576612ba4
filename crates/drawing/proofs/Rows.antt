-- The level segments of renumbered points: the same list, renumbered, and sorted alike, for the sort reads keys only.
use Prim.Native.Nat.{ℕ, zero, suc, ◌+◌, ◌≤◌, ◌<◌}
use mathlib.Core.Path.{◌≡◌, refl, ap, ◌∙◌, sym, subst}
use mathlib.Core.Bool.{Bool, true, false, cond}
use mathlib.Core.List.{List, [], ◌∷◌, ◌++◌, map, map-append}
use native.Mathlib.Omega.{arith}
use native.Mathlib.Decide.{ℕ_discrete}
use lib.Dec.{eqb, ltb}
use lib.ListN.{length, get_or, set, length-set, length-replicate, replicate}
use lib.Seq.{get_or-set_same, get_or-set_other}
use Rattle.job.specs.Limits as limit
use Rattle.store.specs.Field.{NONE}
use Rattle.store.specs.Words.{view}
use Rattle.store.specs.Named.{points_of}
use Rattle.joins.specs.Resolved.{Ready}
use Rattle.sorting.specs.declared.HorzSegment.{HorzSegment}
use Rattle.sorting.specs.Sorted.{LAST, inserted, place_all, reverse, sorted}
use Rattle.segments.specs.Needs.{Listed}
use Rattle.segments.specs.Update.{invalid, blank, segment_through, Claim, claim, claim_of, on_claim, update_from, segments_of}
use Rattle.segments.proofs.Updates.{through_fit}
use Rattle.converting.specs.Make.{sorted_segments}
use Rattle.drawing.specs.Renumbered.{Renumbered, RenumberedList}
use Rattle.drawing.proofs.Writing.{inj}
use Rattle.drawing.proofs.Likeness.{tells_apart, none, low}
use Rattle.drawing.proofs.Walks.{renumbered_segment, through_alike}

-- ---- the sort

pub map_set : {A B : Type 0} (f : A → B) (l : List A) (i : ℕ) (a : A) → set (map f l) i (f a) ≡ map f (set l i a)
map_set f [] i a = refl
map_set f (x ∷ l) zero a = refl
map_set f (x ∷ l) (suc i) a = ap (λ (m : List _). f x ∷ m) (map_set f l i a)

map_replicate : {A B : Type 0} (f : A → B) (n : ℕ) (a : A) → map f (replicate n a) ≡ replicate n (f a)
map_replicate f zero a = refl
map_replicate f (suc n) a = ap (λ (m : List _). f a ∷ m) (map_replicate f n a)

module _ (ρ : ℕ → ℕ) where
  abbrev ρs : HorzSegment → HorzSegment
  ρs = renumbered_segment ρ

  inserted_map : (a : HorzSegment) (l : List HorzSegment) → inserted (ρs a) (map ρs l) ≡ map ρs (inserted a l)
  inserted_map a [] = refl
  inserted_map a (b ∷ l) = go (ltb a.key b.key) (inserted_map a l)
    where
      go : (t : Bool) → inserted (ρs a) (map ρs l) ≡ map ρs (inserted a l) → cond t (ρs b ∷ inserted (ρs a) (map ρs l)) (ρs a ∷ ρs b ∷ map ρs l) ≡ map ρs (cond t (b ∷ inserted a l) (a ∷ b ∷ l))
      go true r = ap (λ (m : List HorzSegment). ρs b ∷ m) r
      go false r = refl

  place_map : (s l : List HorzSegment) → place_all (map ρs s) (map ρs l) ≡ map ρs (place_all s l)
  place_map s [] = refl
  place_map s (c ∷ l) = ap (λ (t : List HorzSegment). place_all t (map ρs l)) (inserted_map c s) ∙ place_map (inserted c s) l

  reverse_map : (l : List HorzSegment) → reverse (map ρs l) ≡ map ρs (reverse l)
  reverse_map [] = refl
  reverse_map (c ∷ l) = ap (λ (t : List HorzSegment). t ++ (ρs c ∷ [])) (reverse_map l) ∙ sym (map-append ρs (reverse l) (c ∷ []))

  sorted_map : (l : List HorzSegment) → sorted (map ρs l) ≡ map ρs (sorted l)
  unfolding sorted
  sorted_map l = ap reverse (place_map [] l) ∙ reverse_map (place_all [] l)

-- ---- the marks of left points

module _ {ρ : ℕ → ℕ} (w w' : List ℕ) (al : Renumbered ρ (view w) (view w')) (o : Ready w) (o' : Ready w') where
  record Marked (ms ms' : List ℕ) : Type 0 where
    long : length ms ≡ limit.POINTS
    long' : length ms' ≡ limit.POINTS
    marks : (k : ℕ) → k < points_of w → get_or ms' (ρ k) 0 ≡ get_or ms k 0

  few : points_of w ≤ limit.POINTS
  few = o.resolved.few_points

  marked_set : (ms ms' : List ℕ) (i v : ℕ) → i < points_of w → Marked ms ms' → Marked (set ms i v) (set ms' (ρ i) v)
  marked_set ms ms' i v h m =
      record {
        long = length-set ms i v ∙ m.long;
        long' = length-set ms' (ρ i) v ∙ m.long';
        marks = λ k l. go k l (ℕ_discrete k i);
      }
    where
      go : (k : ℕ) → k < points_of w → Dec (k ≡ i) → get_or (set ms' (ρ i) v) (ρ k) 0 ≡ get_or (set ms i v) k 0
      go k l (yes e) = rw (e, get_or-set_same ms i v 0 (omega (arith, m.long, few)), get_or-set_same ms' (ρ i) v 0 (omega (arith, m.long', few, low al i h)))
      go k l (no d) = get_or-set_other ms' (ρ i) (ρ k) v 0 (λ e. d (inj al.renumbers k i e)) ∙ m.marks k l ∙ sym (get_or-set_other ms i k v 0 d)

  abbrev SameClaim : Claim → Claim → Type 0
  SameClaim (claim s ms) (claim s' ms') = (s' ≡ renumbered_segment ρ s) × Marked ms ms'

  none_alike : (r : ℕ) → eqb (ρ r) NONE ≡ eqb r NONE
  none_alike r = subst (λ (x : ℕ). eqb (ρ r) x ≡ eqb r NONE) (none al few) (tells_apart al r NONE)

  -- an invalid segment, by its right point, none
  invalid_alike : (l f : ℕ) → invalid (ρ l) f ≡ renumbered_segment ρ (invalid l f)
  invalid_alike l f = ap (λ (x : ℕ). by x) (sym (none al few))
    where
      by : ℕ → HorzSegment
      by x = record { key = LAST; left = ρ l; right = x; forward = f }

  claim_alike : (ms ms' : List ℕ) (s : HorzSegment) → s.left < points_of w → Marked ms ms' → SameClaim (claim_of ms s) (claim_of ms' (renumbered_segment ρ s))
  unfolding claim_of
  claim_alike ms ms' s h m = rw (none_alike s.right, m.marks s.left h) (go (eqb s.right NONE) (eqb (get_or ms s.left 0) 0))
    where
      go : (t u : Bool) → SameClaim (cond t (claim s ms) (cond u (claim s (set ms s.left 1)) (claim (invalid s.left s.forward) ms)))
          (cond t (claim (renumbered_segment ρ s) ms') (cond u (claim (renumbered_segment ρ s) (set ms' (ρ s.left) 1)) (claim (invalid (ρ s.left) s.forward) ms')))
      go true u = (refl, m)
      go false true = (refl, marked_set ms ms' s.left 1 h m)
      go false false = (invalid_alike s.left s.forward, m)

  -- ---- the loop

  updated_alike : (f i n : ℕ) (ps ps' ms ms' : List ℕ) (R : List HorzSegment) → Listed w n ps → RenumberedList ρ n ps ps' → i + f ≡ n → Marked ms ms'
      → update_from f i w' ps' ms' (map (renumbered_segment ρ) R) ≡ map (renumbered_segment ρ) (update_from f i w ps ms R)
  unfolding update_from
  updated_alike zero i n ps ps' ms ms' R t l e m = refl
  updated_alike (suc f) i n ps ps' ms ms' R t l e m =
      let p = get_or ps i 0 in
      let k : p < points_of w = t.point i (omega arith) in
      rw (l i (omega arith), through_alike w w' al o o' p k)
      (go (claim_of ms (segment_through w p)) (claim_of ms' (renumbered_segment ρ (segment_through w p))) (claim_alike ms ms' (segment_through w p) (through_fit w p (record { ready = o; low = k })).low m)
      (λ q q' S a. updated_alike f (i + 1) n ps ps' q q' S t l (omega arith) a))
    where
      go : (c c' : Claim) → SameClaim c c'
          → ((q q' : List ℕ) (S : List HorzSegment) → Marked q q' → update_from f (i + 1) w' ps' q' (map (renumbered_segment ρ) S) ≡ map (renumbered_segment ρ) (update_from f (i + 1) w ps q S))
          → on_claim i (map (renumbered_segment ρ) R) (update_from f (i + 1) w' ps') c' ≡ map (renumbered_segment ρ) (on_claim i R (update_from f (i + 1) w ps) c)
      go (claim s q) (claim s' q') a r =
          ap (update_from f (i + 1) w' ps' q') (ap (set (map (renumbered_segment ρ) R) i) a.0 ∙ map_set (renumbered_segment ρ) R i s) ∙ r q q' (set R i s) a.1

  blanks : (n : ℕ) → map (renumbered_segment ρ) (replicate n blank) ≡ replicate n blank
  blanks n = map_replicate (renumbered_segment ρ) n blank ∙ ap (replicate n) (sym (invalid_alike NONE 0) ∙ ap (λ (x : ℕ). invalid x 0) (none al few))

  zeros : (n k : ℕ) → ◌≡◌ {A = ℕ} (get_or (replicate n 0) k 0) 0
  zeros zero k = refl
  zeros (suc n) zero = refl
  zeros (suc n) (suc k) = zeros n k

  unmarked : Marked (replicate limit.POINTS 0) (replicate limit.POINTS 0)
  unmarked = record { long = length-replicate {A = ℕ} limit.POINTS 0; long' = length-replicate {A = ℕ} limit.POINTS 0; marks = λ k h. zeros limit.POINTS (ρ k) ∙ sym (zeros limit.POINTS k) }

  segments_alike : (n : ℕ) (ps ps' : List ℕ) → Listed w n ps → RenumberedList ρ n ps ps' → segments_of w' n ps' ≡ map (renumbered_segment ρ) (segments_of w n ps)
  unfolding segments_of
  segments_alike n ps ps' t l =
      ap (update_from n 0 w' ps' (replicate limit.POINTS 0)) (sym (blanks limit.SEGMENTS))
      ∙ updated_alike n 0 n ps ps' (replicate limit.POINTS 0) (replicate limit.POINTS 0) (replicate limit.SEGMENTS blank) t l (omega arith) unmarked

  pub sorted_alike : (n : ℕ) (ps ps' : List ℕ) → Listed w n ps → RenumberedList ρ n ps ps' → sorted_segments w' n ps' ≡ map (renumbered_segment ρ) (sorted_segments w n ps)
  unfolding sorted_segments
  sorted_alike n ps ps' t l = ap sorted (segments_alike n ps ps' t l) ∙ sorted_map ρ (segments_of w n ps)
