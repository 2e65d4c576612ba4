-- A fact of every point of a ring, kept by a step if a crossing of two such points has it: of the ring and of its offcut.
use mathlib.Core.Path.{◌≡◌, sym, subst}
use mathlib.Core.Bool.{Bool, true, false}
use mathlib.Core.List.{List, [], ◌∷◌, ◌++◌}
use mathlib.Core.Option.{Option, none, some}
use Prim.Native.Nat.{ℕ, zero, suc}
use native.Mathlib.Omega.{arith}
use lib.ListN.{take}
use Rattle.rings.specs.Circle.{turn, spin, last_of, init_of, back, head_or, rest, cut_circle}
use Rattle.rings.specs.Progress.{Due, validity, removal, triangle, split, done, Discard, Ring, tidy_at, tidy}
use Rattle.lone.specs.Act.{Act, stay, discard, drop_point, move_on, to_first, double, cut, apply, offcut}
use Rattle.lone.specs.Lone.{Geo, decide, act_of, step_ring, offcut_ring}
use Rattle.lone.proofs.Turning.{validity_cases, removal_cases, triangle_cases, split_cases}
use Rattle.boxes.proofs.Boxes.{Each}

module _ {A : Type 0} (Q : A → Type 0) where
  pub each_append : (a b : List A) → Each Q a → Each Q b → Each Q (a ++ b)
  each_append [] b h k = k
  each_append (x ∷ a) b h k = (h.0, each_append a b h.1 k)

  pub each_turn : (c : List A) → Each Q c → Each Q (turn c)
  each_turn [] h = tt
  each_turn (x ∷ xs) h = each_append xs (x ∷ []) h.1 (h.0, tt)

  pub each_spin : (k : ℕ) (c : List A) → Each Q c → Each Q (spin k c)
  each_spin zero c h = h
  each_spin (suc k) c h = each_spin k (turn c) (each_turn c h)

  front : (a b : List A) → Each Q (a ++ b) → Each Q a × Each Q b
  front [] b h = (tt, h)
  front (x ∷ a) b h = let i = front a b h.1 in ((h.0, i.0), i.1)

  unturn : (c : List A) → Each Q (turn c) → Each Q c
  unturn [] h = tt
  unturn (x ∷ xs) h = let i = front xs (x ∷ []) h in (i.1.0, i.0)

  -- seen from any place
  pub each_unspin : (k : ℕ) (c : List A) → Each Q (spin k c) → Each Q c
  each_unspin zero c h = h
  each_unspin (suc k) c h = unturn c (each_unspin k (turn c) h)

  pub each_last : (x : A) (xs : List A) → Each Q (x ∷ xs) → Q (last_of x xs)
  each_last x [] h = h.0
  each_last x (y ∷ ys) h = each_last y ys h.1

  each_init : (x : A) (xs : List A) → Each Q (x ∷ xs) → Each Q (init_of x xs)
  each_init x [] h = tt
  each_init x (y ∷ ys) h = (h.0, each_init y ys h.1)

  pub each_back : (c : List A) → Each Q c → Each Q (back c)
  each_back [] h = tt
  each_back (x ∷ xs) h = (each_last x xs h, each_init x xs h)

  pub each_head : (d : A) (c : List A) → Q d → Each Q c → Q (head_or d c)
  each_head d [] h k = h
  each_head d (x ∷ xs) h k = k.0

  each_rest : (c : List A) → Each Q c → Each Q (rest c)
  each_rest [] h = tt
  each_rest (x ∷ xs) h = h.1

  each_take2 : (c : List A) → Each Q c → Each Q (take 2 c)
  each_take2 [] h = tt
  each_take2 (x ∷ []) h = h
  each_take2 (x ∷ y ∷ r) h = (h.0, (h.1.0, tt))

  each_cut : (put : Bool) (a : A) (c : List A) → Q a → Each Q c → Each Q (cut_circle put a c)
  each_cut put a [] h k = tt
  each_cut put a (p ∷ []) h k = tt
  each_cut put a (p ∷ x ∷ []) h k = tt
  each_cut true a (p ∷ x ∷ y ∷ r) h k = (k.0, (h, k.1.1.1))
  each_cut false a (p ∷ x ∷ y ∷ r) h k = (k.0, k.1.1.1)

  -- of the value of a point newly made
  abbrev pub OfNew : Act A → Type 0
  OfNew stay = Unit {0}
  OfNew (discard y) = Unit {0}
  OfNew drop_point = Unit {0}
  OfNew (move_on d) = Unit {0}
  OfNew (to_first d) = Unit {0}
  OfNew (double v d) = Q v
  OfNew (cut v put off d) = Q v

  pub each_apply : (act : Act A) (R : Ring A) → OfNew act → Each Q R.circle → Each Q (apply (λ (v : A). v) act R).circle
  each_apply stay R n h = h
  each_apply (discard y) R n h = tt
  each_apply drop_point R n h = each_rest R.circle h
  each_apply (move_on d) R n h = each_turn R.circle h
  each_apply (to_first d) R n h = each_spin R.first R.circle h
  each_apply (double v d) R n h = each_append R.circle (v ∷ []) h (n, tt)
  each_apply (cut v put off d) R n h = each_cut put v (back R.circle) n (each_back R.circle h)

  pub each_offcut : (act : Act A) (R O : Ring A) → OfNew act → Each Q R.circle → offcut (λ (v : A). v) act R ≡ some O → Each Q O.circle
  each_offcut stay R O n h e = let z : ◌≡◌ {A = ℕ} 0 1 = cc in absurd (omega arith)
  each_offcut (discard y) R O n h e = let z : ◌≡◌ {A = ℕ} 0 1 = cc in absurd (omega arith)
  each_offcut drop_point R O n h e = let z : ◌≡◌ {A = ℕ} 0 1 = cc in absurd (omega arith)
  each_offcut (move_on d) R O n h e = let z : ◌≡◌ {A = ℕ} 0 1 = cc in absurd (omega arith)
  each_offcut (to_first d) R O n h e = let z : ◌≡◌ {A = ℕ} 0 1 = cc in absurd (omega arith)
  each_offcut (double v d) R O n h e = let z : ◌≡◌ {A = ℕ} 0 1 = cc in absurd (omega arith)
  each_offcut (cut v put false d) R O n h e = let z : ◌≡◌ {A = ℕ} 0 1 = cc in absurd (omega arith)
  each_offcut (cut v put true d) R O n h e = let z : v ∷ take 2 R.circle ≡ O.circle = cc in subst (Each Q) z (n, each_take2 R.circle h)

  pub each_tidy : (R : Ring A) → Each Q R.circle → Each Q (tidy R).circle
  each_tidy R h = go R.circle R.first R.start R.due R.why h
    where
      go : (c : List A) (f : ℕ) (s : Option ℕ) (d : Due) (y : Option Discard) → Each Q c → Each Q (tidy_at c f s d y).circle
      go c f s validity y h = each_spin f c h
      go c f s removal y h = h
      go c f s triangle y h = each_spin f c h
      go c f s split y h = h
      go c f s done y h = each_spin f c h

  -- ---- what a step decides
  module _ (G : Geo A) (meets : (a b c d : A) → Q a → Q b → Q (G.crossing_point a b c d)) where
    pub of_decided : (c : List A) (f : ℕ) (s : Option ℕ) (d : Due) → Each Q c → OfNew (decide G c f s d)
    unfolding decide
    of_decided c f s validity h = validity_cases G OfNew c f s tt tt
    of_decided c f s removal h = removal_cases G OfNew c f s tt (λ x xs e t v. tt) (λ x xs e t b i. tt)
    of_decided c f s triangle h = triangle_cases G OfNew c f s (λ b i. tt)
    of_decided c f s split h =
        split_cases G OfNew c f s tt (λ x xs e b i. tt)
        (λ x xs e k v o b i. let l = subst (Each Q) e h in subst Q (sym o) (each_head x (spin 2 (x ∷ xs)) l.0 (each_spin 2 (x ∷ xs) l)))
        (λ x xs e k v o put off b i. let l = subst (Each Q) e h in subst Q (sym o) (meets (last_of x xs) x (head_or x (spin 1 (x ∷ xs))) (head_or x (spin 2 (x ∷ xs))) (each_last x xs l) l.0))
    of_decided c f s done h = tt

    pub of_act : (R : Ring A) → Each Q R.circle → OfNew (act_of G R)
    unfolding act_of
    of_act R h = of_decided R.circle R.first R.start R.due h

    -- the ring after a step, and its offcut
    pub each_step : (R : Ring A) → Each Q R.circle → Each Q (step_ring G R).circle
    unfolding step_ring
    each_step R h = each_tidy (apply (λ (v : A). v) (act_of G R) R) (each_apply (act_of G R) R (of_act R h) h)

    pub each_cuts : (R O : Ring A) → Each Q R.circle → offcut_ring G R ≡ some O → Each Q O.circle
    unfolding offcut_ring
    each_cuts R O h e = each_offcut (act_of G R) R O (of_act R h) h e
