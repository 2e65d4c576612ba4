-- Boxes written beside rings: what each write leaves, and that the test decides whether a record's box is its ring's.
use Prim.Native.Nat.{ℕ, zero, suc, ◌+◌, ◌≤◌, ◌<◌}
use mathlib.Core.Path.{◌≡◌, refl, sym, ap, ◌∙◌, subst}
use mathlib.Core.Logic.{◌≢◌, ◌↔◌}
use mathlib.Core.Bool.{Bool, true, false, cond, not, ◌&&◌}
use mathlib.Core.List.{List}
use mathlib.Core.Option.{Option, none, some}
use native.Mathlib.Omega.{arith}
use native.Mathlib.Numerals.{add-one}
use native.Mathlib.Decide.{ℕ_discrete, dec_lt}
use lib.Dec.{ltb}
use lib.ListN.{length, drop}
use borrow.Author.Tests.{lt-ltb, le-ltb}
use Rattle.exact.specs.Equal.{eq_z}
use Rattle.exact.proofs.Size.{eq_z_true, eq_z_refl}
use Rattle.job.specs.Limits as limit
use Rattle.geometry.specs.declared.Rect.{Rect}
use Rattle.store.specs.declared.boxed.Sides.{Sides}
use Rattle.store.specs.Field.{rc, ct, FIRST, RECORDS, BLOCK}
use Rattle.store.specs.Words.{Store, view}
use Rattle.store.specs.Named.{records_of}
use Rattle.store.specs.Sound.{ringless}
use Rattle.store.specs.Boxes.{sides_at, set_sides, rect_of, sides_of, box_at, ring_box, Boxed, same_rect, differs, misboxed, boxed_at, boxed_to, all_boxed}
use Rattle.store.proofs.Boxing.{view_sides, length_sides, behind_sides, sides_same, sides_else, sides_again, sides_back}
use Rattle.bounds.proofs.Walking.{found, ring_found}

-- ---- one record's

abbrev one : List ℕ → ℕ → Bool → List ℕ
one w i x = cond x (set_sides w i (sides_of (ring_box (view w) i))) w

module _ (w : List ℕ) (i : ℕ) where
  pub view_boxed : view (boxed_at w i) ≡ view w
  unfolding boxed_at
  view_boxed = go (ltb i (records_of w))
    where
      go : (x : Bool) → view (one w i x) ≡ view w
      go true = view_sides w i (sides_of (ring_box (view w) i))
      go false = refl

  pub length_boxed : length (boxed_at w i) ≡ length w
  unfolding boxed_at
  length_boxed = go (ltb i (records_of w))
    where
      go : (x : Bool) → length (one w i x) ≡ length w
      go true = length_sides w i (sides_of (ring_box (view w) i))
      go false = refl

  pub boxed_past : records_of w ≤ i → boxed_at w i ≡ w
  unfolding boxed_at
  boxed_past h = rw (le-ltb i (records_of w) h)

  pub boxed_is : i < records_of w → boxed_at w i ≡ set_sides w i (sides_of (ring_box (view w) i))
  unfolding boxed_at
  boxed_is h = rw (lt-ltb i (records_of w) h)

  module _ (few : records_of w ≤ limit.RECORDS) where
    pub behind_boxed : drop BLOCK (boxed_at w i) ≡ drop BLOCK w
    behind_boxed = go (dec_lt i (records_of w))
      where
        go : Dec (i < records_of w) → drop BLOCK (boxed_at w i) ≡ drop BLOCK w
        go (yes l) = ap (drop BLOCK) (boxed_is l) ∙ behind_sides w i (sides_of (ring_box (view w) i)) (omega arith)
        go (no n) = ap (drop BLOCK) (boxed_past (omega arith))

    pub boxed_else : (j : ℕ) → j < limit.RECORDS → j ≢ i → sides_at (boxed_at w i) j ≡ sides_at w j
    boxed_else j h d = go (dec_lt i (records_of w))
      where
        go : Dec (i < records_of w) → sides_at (boxed_at w i) j ≡ sides_at w j
        go (yes l) = ap (λ (u : List ℕ). sides_at u j) (boxed_is l) ∙ sides_else w i (sides_of (ring_box (view w) i)) (omega arith) j h d
        go (no n) = ap (λ (u : List ℕ). sides_at u j) (boxed_past (omega arith))

    pub boxed_here : BLOCK ≤ length w → i < records_of w → sides_at (boxed_at w i) i ≡ sides_of (ring_box (view w) i)
    boxed_here long l = ap (λ (u : List ℕ). sides_at u i) (boxed_is l) ∙ sides_same w i (sides_of (ring_box (view w) i)) (omega arith) long

    -- a box that stands there already
    pub boxed_again : (i < records_of w → sides_at w i ≡ sides_of (ring_box (view w) i)) → boxed_at w i ≡ w
    boxed_again e = go (dec_lt i (records_of w))
      where
        go : Dec (i < records_of w) → boxed_at w i ≡ w
        go (yes l) = boxed_is l ∙ ap (set_sides w i) (sym (e l)) ∙ sides_again w i (omega arith)
        go (no n) = boxed_past (omega arith)

-- ---- those below n

module _ (w : List ℕ) where
  pub view_to : (n : ℕ) → view (boxed_to n w) ≡ view w
  unfolding boxed_to
  view_to zero = refl
  view_to (suc n) = view_boxed (boxed_to n w) n ∙ view_to n

  pub length_to : (n : ℕ) → length (boxed_to n w) ≡ length w
  unfolding boxed_to
  length_to zero = refl
  length_to (suc n) = length_boxed (boxed_to n w) n ∙ length_to n

  few_to : (n : ℕ) → records_of w ≤ limit.RECORDS → records_of (boxed_to n w) ≤ limit.RECORDS
  few_to n h = subst (λ (s : Store). s (ct RECORDS) 0 ≤ limit.RECORDS) (sym (view_to n)) h

  pub view_all : view (all_boxed w) ≡ view w
  unfolding all_boxed
  view_all = view_to (records_of w)

  pub length_all : length (all_boxed w) ≡ length w
  unfolding all_boxed
  length_all = length_to (records_of w)

-- ---- all

module _ (w : List ℕ) (long : BLOCK ≤ length w) (few : records_of w ≤ limit.RECORDS) where
  records_to : (n : ℕ) → records_of (boxed_to n w) ≡ records_of w
  records_to n = ap (λ (s : Store). s (ct RECORDS) 0) (view_to w n)

  pub behind_to : (n : ℕ) → drop BLOCK (boxed_to n w) ≡ drop BLOCK w
  unfolding boxed_to
  behind_to zero = refl
  behind_to (suc n) = behind_boxed (boxed_to n w) n (omega (arith, records_to n)) ∙ behind_to n

  pub behind_all : drop BLOCK (all_boxed w) ≡ drop BLOCK w
  unfolding all_boxed
  behind_all = behind_to (records_of w)

  -- from n on they are as they were
  pub above_to : (n j : ℕ) → n ≤ j → j < limit.RECORDS → sides_at (boxed_to n w) j ≡ sides_at w j
  unfolding boxed_to
  above_to zero j h l = refl
  above_to (suc n) j h l = boxed_else (boxed_to n w) n (omega (arith, records_to n)) j l (λ z. omega arith) ∙ above_to n j (omega arith) l

  -- below n they are the rings'
  pub below_to : (n j : ℕ) → j < n → j < records_of w → sides_at (boxed_to n w) j ≡ sides_of (ring_box (view w) j)
  unfolding boxed_to
  below_to zero j h l = absurd (omega arith)
  below_to (suc n) j h l = go (ℕ_discrete j n) (λ k. below_to n j k l)
    where
      go : Dec (j ≡ n) → (j < n → sides_at (boxed_to n w) j ≡ sides_of (ring_box (view w) j)) → sides_at (boxed_at (boxed_to n w) n) j ≡ sides_of (ring_box (view w) j)
      go (yes e) r =
          rw e (boxed_here (boxed_to n w) n (omega (arith, records_to n)) (omega (arith, length_to w n)) (omega (arith, records_to n))
          ∙ ap (λ (s : Store). sides_of (ring_box s n)) (view_to w n))
      go (no d) r = boxed_else (boxed_to n w) n (omega (arith, records_to n)) j (omega arith) d ∙ r (omega arith)

  pub all_here : (j : ℕ) → j < records_of w → sides_at (all_boxed w) j ≡ sides_of (ring_box (view w) j)
  unfolding all_boxed
  all_here j l = below_to (records_of w) j l l

  pub all_above : (j : ℕ) → records_of w ≤ j → j < limit.RECORDS → sides_at (all_boxed w) j ≡ sides_at w j
  unfolding all_boxed
  all_above j h l = above_to (records_of w) j h l

-- ---- what the test decides

-- words that are the ring's box, or zeros without one
pub set_boxed : (w : List ℕ) (i : ℕ) → sides_at w i ≡ sides_of (ring_box (view w) i) → Boxed w i
set_boxed w i e = record { box = λ r. (let f = ring_found (view w) i r in f ∙ ap (λ (b : Sides). some (rect_of b)) (sym (e ∙ ap sides_of f ∙ sides_back (found (view w) (view w (rc FIRST) i))))) }

pub boxed_set : (w : List ℕ) (i : ℕ) → Boxed w i → ringless (view w) i ≡ false → sides_at w i ≡ sides_of (ring_box (view w) i)
boxed_set w i b r = sym (ap sides_of (b.box r) ∙ sides_back (sides_at w i))

-- the same words and the same ring's box
pub boxed_move : (w u : List ℕ) (i : ℕ) → ringless (view u) i ≡ ringless (view w) i → sides_at u i ≡ sides_at w i → ring_box (view u) i ≡ ring_box (view w) i → Boxed w i → Boxed u i
boxed_move w u i r e f b = record { box = λ h. f ∙ b.box (sym r ∙ h) ∙ ap (λ (c : Sides). some (rect_of c)) (sym e) }

four : (a b c d : Bool) → (a && (b && (c && d))) ≡ true → (a ≡ true) × (b ≡ true) × (c ≡ true) × (d ≡ true)
four true true true true e = (refl, refl, refl, refl)
four true true true false e = absurd (let z : ◌≡◌ {A = ℕ} 0 1 = cc in omega arith)
four true true false d e = absurd (let z : ◌≡◌ {A = ℕ} 0 1 = cc in omega arith)
four true false c d e = absurd (let z : ◌≡◌ {A = ℕ} 0 1 = cc in omega arith)
four false b c d e = absurd (let z : ◌≡◌ {A = ℕ} 0 1 = cc in omega arith)

same_is : (a b : Rect) → same_rect a b ≡ true → a ≡ b
same_is a b e =
    let h = four (eq_z a.left b.left) (eq_z a.top b.top) (eq_z a.right b.right) (eq_z a.bottom b.bottom) e in
    rw (eq_z_true a.left b.left h.0, eq_z_true a.top b.top h.1, eq_z_true a.right b.right h.2, eq_z_true a.bottom b.bottom h.3)

same_self : (a : Rect) → same_rect a a ≡ true
same_self a = rw (eq_z_refl a.left, eq_z_refl a.top, eq_z_refl a.right, eq_z_refl a.bottom)

pub not_misboxed : (w : List ℕ) (i : ℕ) → misboxed w i ≡ false → Boxed w i
unfolding misboxed
not_misboxed w i e = record { box = λ r. go (ring_box (view w) i) (found (view w) (view w (rc FIRST) i)) (ring_found (view w) i r) e }
  where
    by : (x : Bool) → not x ≡ false → x ≡ true
    by true h = refl
    by false h = absurd (let z : ◌≡◌ {A = ℕ} 0 1 = cc in omega arith)

    go : (o : Option Rect) (c : Sides) → o ≡ some (rect_of c) → differs o (box_at w i) ≡ false → o ≡ some (box_at w i)
    go none c f h = absurd (let z : ◌≡◌ {A = ℕ} 0 1 = cc in omega arith)
    go (some a) c f h = ap (λ (b : Rect). some b) (same_is a (box_at w i) (by (same_rect a (box_at w i)) h))

pub boxed_not : (w : List ℕ) (i : ℕ) → Boxed w i → misboxed w i ≡ false
unfolding misboxed ring_box
boxed_not w i b = go (ringless (view w) i) refl
  where
    go : (x : Bool) → ringless (view w) i ≡ x → differs (ring_box (view w) i) (box_at w i) ≡ false
    go true h = rw h
    go false h = ap (λ (o : Option Rect). differs o (box_at w i)) (b.box h) ∙ ap not (same_self (box_at w i))

-- THE LAW
pub boxed_decides : (w : List ℕ) (i : ℕ) → (misboxed w i ≡ false) ↔ Boxed w i
boxed_decides w i = (not_misboxed w i, boxed_not w i)

-- ---- for the code

module _ (w u : List ℕ) (i n : ℕ) (e : n ≡ records_of w) where
  pub past_is : n ≤ i → w ≡ boxed_at w i
  past_is h = sym (boxed_past w i (omega arith))

  pub here_is : (b : Sides) → i < n → b ≡ sides_of (ring_box (view w) i) → u ≡ set_sides w i b → u ≡ boxed_at w i
  here_is b h f g = g ∙ ap (set_sides w i) f ∙ sym (boxed_is w i (omega arith))

-- the boxes of the records below i are written
pub record BoxedTo (w₀ : List ℕ) (i : ℕ) (w : List ℕ) : Type 0 where
  pub is : w ≡ boxed_to i w₀
  pub low : i ≤ records_of w₀
  pub size : length w ≡ length w₀
  pub long : BLOCK ≤ length w
  pub few : records_of w ≤ limit.RECORDS

pub boxing_begun : (w : List ℕ) → BLOCK ≤ length w → records_of w ≤ limit.RECORDS → BoxedTo w 0 w
unfolding boxed_to
boxing_begun w l f = record { is = refl; low = omega arith; size = refl; long = l; few = f }

module _ (w₀ : List ℕ) (i : ℕ) (w : List ℕ) (B : BoxedTo w₀ i w) where
  pub boxing_long : BLOCK ≤ length w
  boxing_long = B.long

  pub boxing_few : records_of w ≤ limit.RECORDS
  boxing_few = B.few

  pub boxing_next : (n : ℕ) (u : List ℕ) → n ≡ records_of w₀ → i < n → u ≡ boxed_at w i → BoxedTo w₀ (i + 1) u
  unfolding boxed_to
  boxing_next n u e h g =
      record {
        is = g ∙ ap (λ (v : List ℕ). boxed_at v i) B.is ∙ ap (λ (k : ℕ). boxed_to k w₀) (sym (add-one i));
        low = omega arith;
        size = ap length g ∙ length_boxed w i ∙ B.size;
        long = omega (arith, B.long, ap length g, length_boxed w i);
        few = subst (λ (s : Store). s (ct RECORDS) 0 ≤ limit.RECORDS) (sym (ap view g ∙ view_boxed w i)) B.few;
      }

  pub boxing_ends : (n : ℕ) → n ≡ records_of w₀ → n ≤ i → w ≡ all_boxed w₀
  unfolding all_boxed
  boxing_ends n e h = let l : i ≡ records_of w₀ = omega (arith, B.low) in B.is ∙ ap (λ (k : ℕ). boxed_to k w₀) l
