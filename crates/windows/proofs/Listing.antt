-- The two loops, over plain variables, and what the call comes to.
use Prim.Native.Nat.{ℕ, suc, ◌+◌, ◌-◌, ◌≤◌, ◌<◌, ◌^◌}
use mathlib.Core.Path.{◌≡◌, refl, sym, ap, ◌∙◌, subst}
use mathlib.Core.Logic.{◌≢◌}
use mathlib.Core.Bool.{Bool, true, false, cond}
use mathlib.Core.List.{List, [], ◌∷◌, ◌++◌, append_assoc}
use native.Mathlib.Omega.{arith}
use mir.Val.{bool_byte}
use lib.ListN.{length, set, replicate, length-append, length-replicate}
use lib.Seq.{set-append_seam}
use borrow.Author.Tests.{lt-ltb, le-ltb, eq-eqb, ne_eqb}
use Rattle.std.specs.Prelude.{Result, Ok, Err}
use Rattle.job.specs.Limits as limit
use Rattle.job.specs.declared.refusal.Refusal.{Refusal}
use Rattle.job.specs.declared.refusal.Refusal.TheVariants.{SmallTray}
use Rattle.geometry.specs.declared.Rect.{Rect}
use Rattle.store.specs.declared.boxed.Sides.{Sides}
use Rattle.store.specs.Field.{rc, FIRST, NONE, BLOCK}
use Rattle.store.specs.Words.{cell}
use Rattle.store.specs.Named.{records_of}
use Rattle.store.specs.Good.{SoundWords}
use Rattle.store.specs.Boxes.{sides_at, rect_of}
use Rattle.handed.specs.Handed.{handed_of}
use Rattle.handed.proofs.Handing.{handed_sound}
use Rattle.paths.specs.Tray.{padded}
use Rattle.windows.specs.Window.{box_meets}
use Rattle.windows.specs.RecordsIn.{is_in, once, passing, all_in, placed, place_if, found, records_by, records_in}
use Rattle.windows.specs.Needs.{Counted, Listable, Roomy, CountedTo, ListedTo}
use Rattle.windows.proofs.Passing.{once_le, passing_length, passing_few, passing_up}

-- ---- one record
module _ (w : List ℕ) (window : Rect) (i f : ℕ) (e : f ≡ cell (rc FIRST) w i) where
  pub in_bare : f ≡ NONE → false ≡ is_in w window i
  unfolding is_in
  in_bare h = rw (eq-eqb (cell (rc FIRST) w i) NONE (sym e ∙ h))

  pub in_ringed : f ≢ NONE → (b : Sides) (r : Bool) → b ≡ sides_at w i → r ≡ box_meets (rect_of b) window → r ≡ is_in w window i
  unfolding is_in
  in_ringed h b r g k = rw (ne_eqb (cell (rc FIRST) w i) NONE (λ z. h (e ∙ z))) (k ∙ ap (λ (x : Sides). box_meets (rect_of x) window) g)

-- ---- counting
pub counted_of : (w : List ℕ) → SoundWords w → Counted w
counted_of w h = record { long = h.long; few = h.sound.few_records }

pub counting_long : (w : List ℕ) → Counted w → BLOCK ≤ length w
counting_long w c = c.long

pub counting_begun : (w : List ℕ) (window : Rect) → CountedTo w window 0 0
counting_begun w window = record { low = omega arith; is = refl }

one_for_true : (b : Bool) → bool_byte b ≡ once b
one_for_true true = refl
one_for_true false = refl

module _ (w : List ℕ) (window : Rect) (i m n : ℕ) (k : CountedTo w window i m) (e : n ≡ records_of w) where
  pub counting_in : Counted w → i < n → i < limit.RECORDS
  counting_in c l = omega (arith, c.few)

  pub counting_fits : Counted w → i < n → (b : Bool) (a : ℕ) → b ≡ is_in w window i → a ≡ bool_byte b → m + a < 2 ^ 64
  counting_fits c l b a g h = omega (arith, c.few, k.is, k.low, h, one_for_true b, once_le (is_in w window) b, passing_few (is_in w window) i)

  pub counting_next : i < n → (b : Bool) (a : ℕ) → b ≡ is_in w window i → a ≡ bool_byte b → CountedTo w window (i + 1) (m + a)
  counting_next l b a g h =
      subst (λ (j : ℕ). CountedTo w window j (m + a)) (suc_is i)
      (record { low = omega (arith, e); is = cc (k.is, passing_length (is_in w window) i, h, one_for_true b, ap once g) })
    where
      suc_is : (j : ℕ) → suc j ≡ j + 1
      suc_is j = omega arith

  pub counting_ends : n ≤ i → m ≡ length (all_in w window)
  unfolding all_in
  counting_ends l = let z : i ≡ records_of w = omega (arith, k.low) in k.is ∙ ap (λ (j : ℕ). length (passing (is_in w window) j)) z

-- ---- listing
set_padded : (n : ℕ) (xs : List ℕ) (v : ℕ) → length xs < n → set (padded n xs) (length xs) v ≡ padded n (xs ++ (v ∷ []))
set_padded n xs v h =
    let a : n - length xs ≡ suc (n - length (xs ++ (v ∷ []))) = omega (arith, length-append xs (v ∷ [])) in
    ap (λ (k : ℕ). set (xs ++ replicate k 0) (length xs) v) a ∙ set-append_seam xs 0 (replicate (n - length (xs ++ (v ∷ []))) 0) v ∙ sym (append_assoc xs (v ∷ []) (replicate (n - length (xs ++ (v ∷ []))) 0))

padded_length : (n : ℕ) (xs : List ℕ) → length xs ≤ n → length (padded n xs) ≡ n
padded_length n xs h = omega (arith, length-append xs (replicate (n - length xs) 0), length-replicate {A = ℕ} (n - length xs) 0)

pub listing_begun : (w : List ℕ) (window : Rect) (l : List ℕ) → Listable w window l → ListedTo w window l 0 0 l
listing_begun w window l h = record { low = omega arith; at_is = refl; list_is = let z : length l ≡ length l - 0 = omega arith in h.zeros ∙ ap (λ (k : ℕ). replicate k 0) z; room = h.room }

pub listing_length : (w : List ℕ) (window : Rect) (l₀ : List ℕ) (i at : ℕ) (l : List ℕ) → ListedTo w window l₀ i at l → length l ≡ length l₀
unfolding all_in
listing_length w window l₀ i at l k =
    ap length k.list_is ∙ padded_length (length l₀) (passing (is_in w window) i) (omega (arith, k.room, passing_up (is_in w window) (records_of w) i k.low))

module _ (w : List ℕ) (window : Rect) (l₀ : List ℕ) (i at n : ℕ) (l : List ℕ) (k : ListedTo w window l₀ i at l) (e : n ≡ records_of w) where
  next_fits : i < n → is_in w window i ≡ true → length (passing (is_in w window) i) < length l₀
  unfolding all_in
  next_fits m h = omega (arith, k.room, passing_up (is_in w window) (records_of w) (suc i) (omega (arith, e)), passing_length (is_in w window) i, ap once h)

  pub listing_here : i < n → i < records_of w
  listing_here m = omega (arith, e)

  pub listing_room : Counted w → i < n → Roomy w window i l at
  listing_room c m = record { low = omega (arith, k.at_is, k.low, c.few, passing_few (is_in w window) i); room = λ h. omega (arith, next_fits m h, listing_length w window l₀ i at l k, k.at_is) }

  pub listing_next : i < n → (r : ℕ) (l' : List ℕ) → placed r l' ≡ place_if (is_in w window i) i at l → ListedTo w window l₀ (i + 1) r l'
  listing_next m r l' g = subst (λ (j : ℕ). ListedTo w window l₀ j r l') (suc_is i) (go (is_in w window i) refl g)
    where
      suc_is : (j : ℕ) → suc j ≡ j + 1
      suc_is j = omega arith

      go : (b : Bool) → is_in w window i ≡ b → placed r l' ≡ place_if b i at l → ListedTo w window l₀ (suc i) r l'
      go true h g =
          let x : r ≡ at + 1 = cc in
          let y : l' ≡ set l at i = cc in
          record {
            low = omega (arith, e);
            at_is = omega (arith, x, k.at_is, passing_length (is_in w window) i, ap once h);
            list_is = y ∙ ap (λ (t : List ℕ). set t at i) k.list_is ∙ ap (λ (j : ℕ). set (padded (length l₀) (passing (is_in w window) i)) j i) k.at_is
                ∙ set_padded (length l₀) (passing (is_in w window) i) i (next_fits m h) ∙ ap (λ (b : Bool). padded (length l₀) (cond b (passing (is_in w window) i ++ (i ∷ [])) (passing (is_in w window) i))) (sym h);
            room = k.room;
          }
      go false h g =
          let x : r ≡ at = cc in
          let y : l' ≡ l = cc in
          record {
            low = omega (arith, e);
            at_is = omega (arith, x, k.at_is, passing_length (is_in w window) i, ap once h);
            list_is = y ∙ k.list_is ∙ ap (λ (b : Bool). padded (length l₀) (cond b (passing (is_in w window) i ++ (i ∷ [])) (passing (is_in w window) i))) (sym h);
            room = k.room;
          }

  pub listing_ends : n ≤ i → l ≡ padded (length l₀) (all_in w window)
  unfolding all_in
  listing_ends m = let z : i ≡ records_of w = omega (arith, k.low) in k.list_is ∙ ap (λ (j : ℕ). padded (length l₀) (passing (is_in w window) j)) z

-- one record, by the branch
module _ (w : List ℕ) (window : Rect) (i at : ℕ) (l : List ℕ) (b : Bool) (e : b ≡ is_in w window i) where
  pub place_room : b ≡ true → Roomy w window i l at → at < length l
  place_room h r = r.room (sym e ∙ h)

  pub place_yes : b ≡ true → placed (at + 1) (set l at i) ≡ place_if (is_in w window i) i at l
  place_yes h = ap (λ (x : Bool). place_if x i at l) (sym h ∙ e)

  pub place_no : b ≡ false → placed at l ≡ place_if (is_in w window i) i at l
  place_no h = ap (λ (x : Bool). place_if x i at l) (sym h ∙ e)

-- ---- the call
module _ (w : List ℕ) (window : Rect) (l : List ℕ) (n : ℕ) (e : n ≡ length (all_in w window)) where
  pub tested_short : length l < n → found (Err SmallTray) l ≡ records_by (Ok tt) w window l
  tested_short h = rw (lt-ltb (length l) (length (all_in w window)) (omega (arith, e)))

  module _ (h : n ≤ length l) (l₁ : List ℕ) (z : l₁ ≡ replicate (length l) 0) where
    length_kept : length l₁ ≡ length l
    length_kept = ap length z ∙ length-replicate {A = ℕ} (length l) 0

    pub tested_listable : SoundWords w → Listable w window l₁
    tested_listable s = record { counted = counted_of w s; room = omega (arith, e, length_kept); zeros = z ∙ ap (λ (k : ℕ). replicate k 0) (sym length_kept) }

    pub tested_listed : (l' : List ℕ) → l' ≡ padded (length l₁) (all_in w window) → found (Ok n) l' ≡ records_by (Ok tt) w window l
    tested_listed l' g = rw (le-ltb (length l) (length (all_in w window)) (omega (arith, e))) (cc (e, g, length_kept))

pub in_sound : (w : List ℕ) (v : Result (Unit {0}) Refusal) → v ≡ handed_of w → v ≡ Ok tt → SoundWords w
in_sound w v e h = handed_sound w (sym e ∙ h)

module _ (w : List ℕ) (window : Rect) (l : List ℕ) (v : Result (Unit {0}) Refusal) (e : v ≡ handed_of w) where
  pub in_passed : v ≡ (Ok tt) → (r : Result ℕ Refusal) (l' : List ℕ) → found r l' ≡ records_by (Ok tt) w window l → found r l' ≡ records_in w window l
  unfolding records_in
  in_passed h r l' g = g ∙ ap (λ (x : Result (Unit {0}) Refusal). records_by x w window l) (sym h ∙ e)

  pub in_refused : (x : Refusal) → v ≡ Err x → found (Err x) l ≡ records_in w window l
  unfolding records_in
  in_refused x h = ap (λ (y : Result (Unit {0}) Refusal). records_by y w window l) (sym h ∙ e)
