-- A handed work space passes exactly when it is long enough, its live block is sound, each ring's box stands beside it and no name is kept twice.
use Prim.Native.Nat.{ℕ, ◌≤◌, ◌<◌}
use mathlib.Core.Path.{◌≡◌, refl, sym, ap, ◌∙◌}
use mathlib.Core.Logic.{◌↔◌}
use mathlib.Core.Bool.{Bool, true, false, cond, ◌&&◌, ◌||◌}
use mathlib.Core.List.{List}
use native.Mathlib.Omega.{arith}
use lib.Dec.{eqb, ltb}
use lib.ListN.{length}
use borrow.Author.Tests.{lt-ltb, le-ltb, ltb-false, ne_eqb, eqb-false}
use Rattle.std.specs.Prelude.{Result, Ok, Err}
use Rattle.job.specs.declared.refusal.Refusal.{Refusal}
use Rattle.job.specs.declared.refusal.Refusal.TheVariants.{Crowded, Muddled, Full}
use Rattle.store.specs.Field.{STATES, LENGTH}
use Rattle.store.specs.Good.{SoundWords}
use Rattle.job.specs.Limits as limit
use Rattle.store.specs.Named.{records_of}
use Rattle.store.specs.Boxes.{misboxed, Boxed}
use Rattle.store.specs.States.{is_name, name_at, same_name, Apart}
use Rattle.bounds.proofs.Beside.{not_misboxed, boxed_not}
use Rattle.audit.specs.Tests.{any_below, crowded, tests_of}
use Rattle.handed.specs.Handed.{any_misboxed, boxes_tested, kept_twice, names_tested, tested_of, handed_of, Usable}
use Rattle.audit.specs.Marks.{Counted}
use Rattle.handed.specs.Rounds.{Looked}
use Rattle.audit.proofs.Testing.{says_crowded}
use Rattle.audit.proofs.Marking.{counted}
use Rattle.audit.proofs.Saying.{none_of, all_none}
use Rattle.audit.proofs.Agreeing.{passed_sound, sound_passed}

-- ---- for the code

pub six_pairs : (w : List ℕ) (a b c d e f : Bool) → a ≡ same_name w 0 1 → b ≡ same_name w 0 2 → c ≡ same_name w 1 2 → d ≡ same_name w 0 3 → e ≡ same_name w 1 3 → f ≡ same_name w 2 3
    → ((a || (b || c)) || ((d || e) || f)) ≡ kept_twice w
unfolding kept_twice any_below
six_pairs w a b c d e f ha hb hc hd he hf = rw (ha, hb, hc, hd, he, hf)

module _ (w : List ℕ) (b : Bool) (f : b ≡ kept_twice w) where
  pub says_apart : b ≡ false → Ok tt ≡ names_tested w (Ok tt)
  says_apart h = ap (λ (x : Bool). cond x (Err Muddled) (Ok tt)) (sym h ∙ f)

  pub says_twice : b ≡ true → Err Muddled ≡ names_tested w (Ok tt)
  says_twice h = ap (λ (x : Bool). cond x (Err Muddled) (Ok tt)) (sym h ∙ f)

module _ (w : List ℕ) (b : Bool) (f : b ≡ any_misboxed w) where
  last_is : names_tested w (cond b (Err Muddled) (Ok tt)) ≡ names_tested w (boxes_tested w (Ok tt))
  last_is = ap (λ (x : Bool). names_tested w (cond x (Err Muddled) (Ok tt))) f

  pub says_misboxed : b ≡ true → Err Muddled ≡ names_tested w (boxes_tested w (Ok tt))
  says_misboxed h = ap (λ (x : Bool). names_tested w (cond x (Err Muddled) (Ok tt))) (sym h) ∙ last_is

  pub says_boxed : (r : Result (Unit {0}) Refusal) → b ≡ false → r ≡ names_tested w (Ok tt) → r ≡ names_tested w (boxes_tested w (Ok tt))
  says_boxed r h g = g ∙ ap (λ (x : Bool). names_tested w (cond x (Err Muddled) (Ok tt))) (sym h) ∙ last_is

module _ (w : List ℕ) (v : Result (Unit {0}) Refusal) (e : v ≡ tests_of w) where
  pub says_refused : (x : Refusal) → v ≡ Err x → Err x ≡ tested_of w
  unfolding tested_of
  says_refused x f = ap (λ (u : Result (Unit {0}) Refusal). names_tested w (boxes_tested w u)) (sym f ∙ e)

  pub says_last : (r : Result (Unit {0}) Refusal) → v ≡ Ok tt → r ≡ names_tested w (boxes_tested w (Ok tt)) → r ≡ tested_of w
  unfolding tested_of
  says_last r f g = g ∙ ap (λ (u : Result (Unit {0}) Refusal). names_tested w (boxes_tested w u)) (sym f ∙ e)

  pub says_few : v ≡ Ok tt → records_of w ≤ limit.RECORDS
  says_few f = (passed_sound w (sym e ∙ f)).few_records

pub says_many : (w : List ℕ) (b : Bool) → b ≡ crowded w → b ≡ true → Err Crowded ≡ tested_of w
says_many w b e h = says_refused w (Err Crowded) (says_crowded w b e h) Crowded refl

pub says_counted : (w : List ℕ) (b : Bool) → LENGTH ≤ length w → b ≡ crowded w → b ≡ false → Counted w
says_counted w b l = counted w b (omega arith)

-- nothing found at once
pub says_good : (w : List ℕ) (b : Bool) (r : Result (Unit {0}) Refusal) → Looked w b → b ≡ true → r ≡ names_tested w (Ok tt) → r ≡ tested_of w
unfolding tested_of
says_good w b r l h g = rw (l.passes h, l.boxed h) g

pub says_short : (w : List ℕ) → length w < LENGTH → Err Full ≡ handed_of w
unfolding handed_of
says_short w h = rw (lt-ltb (length w) LENGTH h)

pub says_tested : (w : List ℕ) (v : Result (Unit {0}) Refusal) → LENGTH ≤ length w → v ≡ tested_of w → v ≡ handed_of w
unfolding handed_of
says_tested w v l e = rw (le-ltb (length w) LENGTH l) e

-- ---- the boxes

misboxed_none : (w : List ℕ) → any_misboxed w ≡ false → (i : ℕ) → i < records_of w → Boxed w i
unfolding any_misboxed
misboxed_none w e i l = not_misboxed w i (none_of (records_of w) (misboxed w) e i l)

boxed_none : (w : List ℕ) → ((i : ℕ) → i < records_of w → Boxed w i) → any_misboxed w ≡ false
unfolding any_misboxed
boxed_none w b = all_none (records_of w) (misboxed w) (λ i l. boxed_not w i (b i l))

-- ---- the names

twice_apart : (w : List ℕ) → kept_twice w ≡ false → Apart w
unfolding kept_twice
twice_apart w e = record { differ = λ p q l h n f. go p q n f (none_of q (λ i. same_name w i q) (none_of STATES (λ j. any_below j (λ i. same_name w i j)) e q h) p l) }
  where
    go : (p q : ℕ) → is_name (name_at w p) ≡ true → name_at w p ≡ name_at w q → (is_name (name_at w p) && eqb (name_at w p) (name_at w q)) ≡ false → ⊥
    go p q n f d = eqb-false (name_at w p) (name_at w q) (sym (ap (λ (b : Bool). b && eqb (name_at w p) (name_at w q)) n) ∙ d) f

pub apart_once : (w : List ℕ) → Apart w → kept_twice w ≡ false
unfolding kept_twice
apart_once w a = all_none STATES (λ q. any_below q (λ p. same_name w p q)) (λ q h. all_none q (λ p. same_name w p q) (λ p l. go p q l h (is_name (name_at w p)) refl))
  where
    go : (p q : ℕ) → p < q → q < STATES → (b : Bool) → is_name (name_at w p) ≡ b → (b && eqb (name_at w p) (name_at w q)) ≡ false
    go p q l h true n = ne_eqb (name_at w p) (name_at w q) (a.differ p q l h n)
    go p q l h false n = refl

-- ---- what it decides

pub handed_usable : (w : List ℕ) → handed_of w ≡ Ok tt → Usable w
unfolding handed_of tested_of
handed_usable w e = go (ltb (length w) LENGTH) refl (tests_of w) refl e
  where
    last : (x y : Bool) → names_tested w (cond x (Err Muddled) (Ok tt)) ≡ Ok tt → kept_twice w ≡ y → (x ≡ false) × (kept_twice w ≡ false)
    last true y f h = absurd (let z : ◌≡◌ {A = ℕ} 0 1 = cc in omega arith)
    last false true f h = absurd (let z : ◌≡◌ {A = ℕ} 0 1 = cc in omega arith)
    last false false f h = (refl, h)

    go : (b : Bool) → ltb (length w) LENGTH ≡ b → (v : Result (Unit {0}) Refusal) → tests_of w ≡ v → cond b (Err Full) (names_tested w (boxes_tested w v)) ≡ Ok tt → Usable w
    go true h v t f = absurd (let z : ◌≡◌ {A = ℕ} 0 1 = cc in omega arith)
    go false h (Err r) t f = absurd (let z : ◌≡◌ {A = ℕ} 0 1 = cc in omega arith)
    go false h (Ok _) t f =
        let l = last (any_misboxed w) (kept_twice w) f refl in
        record { long = ltb-false (length w) LENGTH h; sound = passed_sound w t; boxed = misboxed_none w l.0; apart = twice_apart w l.1 }

pub usable_handed : (w : List ℕ) → Usable w → handed_of w ≡ Ok tt
unfolding handed_of tested_of
usable_handed w f = rw (le-ltb (length w) LENGTH f.long, sound_passed w f.sound, boxed_none w f.boxed, apart_once w f.apart)

-- THE LAW
pub handed_decides : (w : List ℕ) → (handed_of w ≡ Ok tt) ↔ Usable w
handed_decides w = (handed_usable w, usable_handed w)

-- so the live block may be worked on
pub handed_sound : (w : List ℕ) → handed_of w ≡ Ok tt → SoundWords w
handed_sound w e = let f : Usable w = handed_usable w e in record { long = omega (arith, f.long); sound = f.sound }
