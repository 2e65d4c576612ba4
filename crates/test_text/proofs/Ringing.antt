-- A ring's text, part after part; and how many points it has.
use Prim.Native.Nat.{ℕ, suc, ◌+◌, ◌-◌, ◌≤◌, ◌<◌}
use mathlib.Core.Path.{◌≡◌, refl, sym, ap, ◌∙◌, subst}
use mathlib.Core.Bool.{Bool, true, false, cond}
use mathlib.Core.List.{List, [], ◌∷◌, ◌++◌, append_assoc, append-nil}
use native.Mathlib.Omega.{arith}
use native.Mathlib.Nat.{zero-add}
use lib.Dec.{eqb}
use lib.ListN.{length}
use borrow.Author.Tests.{lt-ltb, le-ltb, eq-eqb, ne_eqb}
use Rattle.job.specs.Limits as limit
use Rattle.rings.specs.Walk.{run}
use Rattle.rings.specs.Table.{ring_from}
use Rattle.store.specs.Field.{pt, X, Y, Z, NEXT}
use Rattle.store.specs.Words.{cell}
use Rattle.store.specs.Named.{next_of, ring_of}
use Rattle.text.specs.Pour.{poured, pour}
use Rattle.text.specs.Text.{decimal}
use Rattle.listing.specs.Lines.{depth_text}
use Rattle.text.proofs.Pouring.{pour_none, pour_more, pour_length}
use Rattle.test_text.specs.Ring.{RING, coordinate_text, name_text, pair_text, place_text, places_text, ring_text}

-- ---- a coordinate

module _ (v at r : ℕ) (t o : List ℕ) where
  pub minus_coordinate : (k : ℕ) (u : List ℕ) → v < limit.COORDINATE → poured k u ≡ pour (45 ∷ []) at t → poured r o ≡ pour (decimal (limit.COORDINATE - v)) k u
      → poured r o ≡ pour (coordinate_text v) at t
  unfolding coordinate_text
  minus_coordinate k u h e f =
      pour_more (45 ∷ []) (decimal (limit.COORDINATE - v)) t u o at k r e f
      ∙ ap (λ (b : Bool). pour (cond b ((45 ∷ []) ++ decimal (limit.COORDINATE - v)) (decimal (v - limit.COORDINATE))) at t) (sym (lt-ltb v limit.COORDINATE h))

  pub plus_coordinate : limit.COORDINATE ≤ v → poured r o ≡ pour (decimal (v - limit.COORDINATE)) at t → poured r o ≡ pour (coordinate_text v) at t
  unfolding coordinate_text
  plus_coordinate h e =
      e ∙ ap (λ (b : Bool). pour (cond b ((45 ∷ []) ++ decimal (limit.COORDINATE - v)) (decimal (v - limit.COORDINATE))) at t) (sym (le-ltb v limit.COORDINATE h))

-- ---- a point

pub named_poured : (named : Bool) (p at k r : ℕ) (t u o : List ℕ) → named ≡ true → poured k u ≡ pour (decimal p) at t → poured r o ≡ pour (58 ∷ []) k u → poured r o ≡ pour (name_text named p) at t
named_poured named p at k r t u o h e f = pour_more (decimal p) (58 ∷ []) t u o at k r e f ∙ ap (λ (b : Bool). pour (name_text b p) at t) (sym h)

pub unnamed_poured : (named : Bool) (p at : ℕ) (t : List ℕ) → named ≡ false → poured at t ≡ pour (name_text named p) at t
unnamed_poured named p at t h = pour_none t at ∙ ap (λ (b : Bool). pour (name_text b p) at t) (sym h)

pub pair_poured : (x y at a b r : ℕ) (t u v o : List ℕ) → poured a u ≡ pour (coordinate_text x) at t → poured b v ≡ pour (44 ∷ []) a u → poured r o ≡ pour (coordinate_text y) b v
    → poured r o ≡ pour (pair_text x y) at t
pair_poured x y at a b r t u v o e f g = pour_more (coordinate_text x ++ (44 ∷ [])) (coordinate_text y) t v o at b r (pour_more (coordinate_text x) (44 ∷ []) t u v at a b e f) g

module _ (named : Bool) (w : List ℕ) (p x y z at a b c d r : ℕ) (t u v i j o : List ℕ) where
  said : ℕ → ℕ → List ℕ
  said h k = (32 ∷ []) ++ name_text named p ++ pair_text h k

  pub place_poured : x ≡ cell (pt X) w p → y ≡ cell (pt Y) w p → z ≡ cell (pt Z) w p → poured a u ≡ pour (32 ∷ []) at t → poured b v ≡ pour (name_text named p) a u
      → poured c i ≡ pour (pair_text x y) b v → poured d j ≡ pour (44 ∷ []) c i → poured r o ≡ pour (depth_text z) d j → poured r o ≡ pour (place_text named w p) at t
  unfolding said
  place_poured ex ey ez e f g h k =
      pour_more (said x y ++ (44 ∷ [])) (depth_text z) t j o at d r
      (pour_more (said x y) (44 ∷ []) t i j at c d
      (pour_more ((32 ∷ []) ++ name_text named p) (pair_text x y) t v i at b c (pour_more (32 ∷ []) (name_text named p) t u v at a b e f) g) h) k
      ∙ ap (λ (q : ℕ). pour (said q y ++ (44 ∷ []) ++ depth_text z) at t) ex
      ∙ ap (λ (q : ℕ). pour (said (cell (pt X) w p) q ++ (44 ∷ []) ++ depth_text z) at t) ey
      ∙ ap (λ (q : ℕ). pour (said (cell (pt X) w p) (cell (pt Y) w p) ++ (44 ∷ []) ++ depth_text q) at t) ez

-- ---- along the ring

module _ (w : List ℕ) (a p left : ℕ) where
  abbrev rest : List ℕ
  rest = run (next_of w) a left p

  run_on : 0 < left → rest ≡ p ∷ cond (eqb (next_of w p) a) [] (run (next_of w) a (left - 1) (next_of w p))
  unfolding run
  run_on h = let z : left ≡ suc (left - 1) = omega arith in ap (λ (k : ℕ). run (next_of w) a k p) z

  run_none : left ≤ 0 → rest ≡ []
  unfolding run
  run_none h = let z : left ≡ 0 = omega arith in ap (λ (k : ℕ). run (next_of w) a k p) z

  module _ (q : ℕ) (e : q ≡ cell (pt NEXT) w p) (h : 0 < left) where
    run_last : q ≡ a → rest ≡ p ∷ []
    run_last z = run_on h ∙ ap (λ (b : Bool). p ∷ cond b [] (run (next_of w) a (left - 1) (next_of w p))) (eq-eqb (next_of w p) a (sym e ∙ z))

    run_more : (q ≡ a → ⊥) → rest ≡ p ∷ run (next_of w) a (left - 1) q
    run_more z =
        run_on h
        ∙ ap (λ (b : Bool). p ∷ cond b [] (run (next_of w) a (left - 1) (next_of w p))) (ne_eqb (next_of w p) a (λ (y : next_of w p ≡ a). z (e ∙ y)))
        ∙ ap (λ (k : ℕ). p ∷ run (next_of w) a (left - 1) k) (sym e)

-- ---- points in the making: `done` is poured, `left` points at most are left, the next one p

pub record Placing (named : Bool) (w : List ℕ) (a at : ℕ) (out₀ out : List ℕ) (k p left : ℕ) : Type 0 where
  pub done : List ℕ
  pub is : poured k out ≡ pour done at out₀
  pub all : done ++ places_text named w (rest w a p left) ≡ places_text named w (ring_of w a)

pub placing_begun : (named : Bool) (w : List ℕ) (a at : ℕ) (out : List ℕ) → Placing named w a at out out at a limit.POINTS
placing_begun named w a at out = record { done = []; is = pour_none out at; all = refl }

module _ (named : Bool) (w : List ℕ) (a at : ℕ) (out₀ out : List ℕ) (k p left : ℕ) (s : Placing named w a at out₀ out k p left) where
  pub placing_length : length out ≡ length out₀
  placing_length = pour_length s.done out₀ out at k s.is

  pub placing_still : (k' : ℕ) (out' : List ℕ) → poured k' out' ≡ pour (place_text named w p) k out → length out' ≡ length out₀
  placing_still k' out' f = pour_length (place_text named w p) out out' k k' f ∙ placing_length

  pub placing_none : left ≤ 0 → poured k out ≡ pour (places_text named w (ring_of w a)) at out₀
  placing_none h =
      s.is
      ∙ ap (λ (x : List ℕ). pour x at out₀)
      (sym (append-nil s.done) ∙ ap (λ (l : List ℕ). s.done ++ places_text named w l) (sym (run_none w a p left h)) ∙ s.all)

  module _ (k' q : ℕ) (out' : List ℕ) (h : 0 < left) (f : poured k' out' ≡ pour (place_text named w p) k out) (e : q ≡ cell (pt NEXT) w p) where
    poured_on : poured k' out' ≡ pour (s.done ++ place_text named w p) at out₀
    poured_on = pour_more s.done (place_text named w p) out₀ out out' at k k' s.is f

    pub placing_on : (q ≡ a → ⊥) → Placing named w a at out₀ out' k' q (left - 1)
    placing_on z =
        record {
          done = s.done ++ place_text named w p;
          is = poured_on;
          all =
              append_assoc s.done (place_text named w p) (places_text named w (run (next_of w) a (left - 1) q))
              ∙ ap (λ (l : List ℕ). s.done ++ places_text named w l) (sym (run_more w a p left q e h z))
              ∙ s.all;
        }

    pub placing_last : q ≡ a → poured k' out' ≡ pour (places_text named w (ring_of w a)) at out₀
    placing_last z =
        poured_on
        ∙ ap (λ (x : List ℕ). pour x at out₀)
        (ap (λ (l : List ℕ). s.done ++ l) (sym (append-nil (place_text named w p)))
        ∙ ap (λ (l : List ℕ). s.done ++ places_text named w l) (sym (run_last w a p left q e h z))
        ∙ s.all)

-- of a walk of POINTS at most, i are passed
pub placing_next : (named : Bool) (w : List ℕ) (a at : ℕ) (out₀ out : List ℕ) (k p i : ℕ) → Placing named w a at out₀ out k p (limit.POINTS - i) → (k' q : ℕ) (out' : List ℕ) → i < limit.POINTS
    → poured k' out' ≡ pour (place_text named w p) k out → q ≡ cell (pt NEXT) w p → (q ≡ a → ⊥) → Placing named w a at out₀ out' k' q (limit.POINTS - (i + 1))
placing_next named w a at out₀ out k p i s k' q out' h f e y =
    let z : limit.POINTS - i - 1 ≡ limit.POINTS - (i + 1) = omega arith in
    subst (λ (j : ℕ). Placing named w a at out₀ out' k' q j) z (placing_on named w a at out₀ out k p (limit.POINTS - i) s k' q out' (omega arith) f e y)

-- ---- points counted: n so far, `left` at most are left, the next one p

pub record Counting (w : List ℕ) (a p n left : ℕ) : Type 0 where
  pub all : n + length (rest w a p left) ≡ length (ring_of w a)
  pub low : n + left ≤ limit.POINTS

pub counting_begun : (w : List ℕ) (a : ℕ) → Counting w a a 0 limit.POINTS
counting_begun w a = record { all = zero-add (length (ring_of w a)); low = omega arith }

module _ (w : List ℕ) (a p n left : ℕ) (s : Counting w a p n left) where
  pub counting_none : left ≤ 0 → n ≡ length (ring_of w a)
  counting_none h = omega (arith, s.all, ap length (run_none w a p left h))

  module _ (q : ℕ) (h : 0 < left) (e : q ≡ cell (pt NEXT) w p) where
    pub counting_on : (q ≡ a → ⊥) → Counting w a q (n + 1) (left - 1)
    counting_on z = record { all = omega (arith, s.all, ap length (run_more w a p left q e h z)); low = omega (arith, s.low) }

    pub counting_last : q ≡ a → n + 1 ≡ length (ring_of w a)
    counting_last z = omega (arith, s.all, ap length (run_last w a p left q e h z))

pub counting_next : (w : List ℕ) (a p n i : ℕ) → Counting w a p n (limit.POINTS - i) → (q : ℕ) → i < limit.POINTS → q ≡ cell (pt NEXT) w p → (q ≡ a → ⊥) → Counting w a q (n + 1) (limit.POINTS - (i + 1))
counting_next w a p n i s q h e y =
    let z : limit.POINTS - i - 1 ≡ limit.POINTS - (i + 1) = omega arith in
    subst (λ (j : ℕ). Counting w a q (n + 1) j) z (counting_on w a p n (limit.POINTS - i) s q (omega arith) e y)

-- ---- the ring

module _ (named : Bool) (w : List ℕ) (a at h k r : ℕ) (t u v o : List ℕ) (e : poured h u ≡ pour RING at t) where
  after : List ℕ → List ℕ
  after l = RING ++ decimal (length l) ++ places_text named w l

  whole : (l : List ℕ) (x : List ℕ) (q : ℕ) → ring_from (next_of w) a ≡ l → poured q x ≡ pour (after l) at t → poured r o ≡ pour (10 ∷ []) q x → poured r o ≡ pour (ring_text named w a) at t
  unfolding after ring_text
  whole l x q z f g = pour_more (after l) (10 ∷ []) t x o at q r f g ∙ ap (λ (m : List ℕ). pour (RING ++ decimal (length m) ++ places_text named w m ++ (10 ∷ [])) at t) (sym z)

  pub ring_none : a ≡ limit.NONE → poured k v ≡ pour (decimal 0) h u → poured r o ≡ pour (10 ∷ []) k v → poured r o ≡ pour (ring_text named w a) at t
  unfolding after
  ring_none z f g =
      whole [] v k (ap (λ (b : Bool). cond b [] (ring_of w a)) (eq-eqb a limit.NONE z))
      (pour_more (RING ++ decimal 0) [] t v v at k k (pour_more RING (decimal 0) t u v at h k e f) (pour_none v k)) g

  pub ring_poured : (n q : ℕ) (x : List ℕ) → (a ≡ limit.NONE → ⊥) → n ≡ length (ring_of w a) → poured k v ≡ pour (decimal n) h u
      → poured q x ≡ pour (places_text named w (ring_of w a)) k v → poured r o ≡ pour (10 ∷ []) q x → poured r o ≡ pour (ring_text named w a) at t
  unfolding after
  ring_poured n q x z c f i g =
      let d : poured k v ≡ pour (decimal (length (ring_of w a))) h u = f ∙ ap (λ (m : ℕ). pour (decimal m) h u) c in
      whole (ring_of w a) x q (ap (λ (b : Bool). cond b [] (ring_of w a)) (ne_eqb a limit.NONE z))
      (pour_more (RING ++ decimal (length (ring_of w a))) (places_text named w (ring_of w a)) t v x at k q (pour_more RING (decimal (length (ring_of w a))) t u v at h k e d) i) g
