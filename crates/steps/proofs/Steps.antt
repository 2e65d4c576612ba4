-- What the needs of a step's code come to.
use Prim.Native.Nat.{ℕ, zero, suc, ◌+◌, ◌%◌, ◌≤◌, ◌<◌}
use mathlib.Core.Path.{◌≡◌, refl, ap, ◌∙◌, sym, subst}
use mathlib.Core.Logic.{◌≢◌}
use mathlib.Core.Bool.{Bool, true, false, not, ◌&&◌}
use mathlib.Core.List.{List}
use native.Mathlib.Omega.{arith}
use lib.Dec.{eqb, ltb, leb}
use borrow.Author.Tests.{eq-eqb, ne_eqb, lt-ltb, le-ltb, le-leb, leb-true}
use Rattle.rings.specs.Progress.{is_done}
use Rattle.geometry.specs.declared.Point.{Point}
use Rattle.lone.specs.Act.{Act, cut, takes_points}
use Rattle.lone.specs.Forest.{ok, full, out_of_turn}
use Rattle.store.specs.Field.{rc, ct, FLAGS, FIRST, MARK, PRESENT, POINTS, RECORDS}
use Rattle.store.specs.Words.{Store, view, cell}
use Rattle.store.specs.Sound.{pts, recs, due_of, due_at}
use Rattle.store.specs.Boxes.{sides_at}
use Rattle.store.specs.Good.{Sound, SoundWords}
use Rattle.store.specs.Value.{preserve_collinear}
use Rattle.acts.specs.Apply.{takes_record, after_w}
use Rattle.acts.specs.Step.{outcome, fits, live, act_at, answer_s, step_w}
use Rattle.acts.specs.Run.{step_words}
use Rattle.acts.proofs.Acting.{Ready, to_discard, to_move, to_go_first, to_drop, to_double, to_cut}
use Rattle.acts.proofs.Readiness.{ready}
use Rattle.acts.proofs.Stepping.{live_is, live_too, due_is_lem}
use Rattle.turns.specs.declared.Act as code
use Rattle.turns.specs.declared.Act.TheVariants.{Cut}
use Rattle.turns.specs.declared.Due as due
use Rattle.turns.specs.Code.{due_is, act_is}
use Rattle.turns.specs.Form.{raised, geometry_of}
use Rattle.turns.specs.Reads.{Steps, Going}
use Rattle.turns.proofs.Ready.{laws, in_codes, going}
use Rattle.boxes.specs.AtHand.{changes_at}
use Rattle.std.specs.Prelude.{Ok, Err}
use Rattle.steps.specs.declared.StepError.TheVariants.{Full}
use Rattle.steps.specs.Foretold.{Foretold}
use Rattle.applying.specs.Applies.{NewIn, Applies}
use Rattle.applying.proofs.Applying.{reach}

-- ---- the places that an act takes
module _ (t : code.Act) (v : Point) (put off : Bool) (d : due.Due) (e : t ≡ Cut v put off d) where
  pub both_taken : put ≡ true → off ≡ true → 2 ≡ takes_points (act_is t)
  both_taken h k = rw (e, h, k)

  pub put_taken : put ≡ true → off ≡ false → 1 ≡ takes_points (act_is t)
  put_taken h k = rw (e, h, k)

  pub off_taken : put ≡ false → off ≡ true → 1 ≡ takes_points (act_is t)
  off_taken h k = rw (e, h, k)

  pub none_taken : put ≡ false → off ≡ false → 0 ≡ takes_points (act_is t)
  none_taken h k = rw (e, h, k)

  pub record_taken : off ≡ true → 1 ≡ takes_record (act_is t)
  record_taken h = sym (ap (λ (t : code.Act). takes_record (act_is t)) e ∙ ap (λ (o : Bool). takes_record (cut v put o (due_is d))) h)

  pub no_record : off ≡ false → 0 ≡ takes_record (act_is t)
  no_record h = sym (ap (λ (t : code.Act). takes_record (act_is t)) e ∙ ap (λ (o : Bool). takes_record (cut v put o (due_is d))) h)

pub room_is : (w : List ℕ) (p r a b : ℕ) (act : Act Point) → p ≡ cell (ct POINTS) w 0 → r ≡ cell (ct RECORDS) w 0 → a ≡ takes_points act → b ≡ takes_record act → (leb (p + a) 2048 && leb (r + b) 512) ≡ fits (view w) act
room_is w p r a b act ep er ea eb = rw (ep, er, ea, eb)

-- ---- a step that has room applies

-- an act that takes no place has room
pub roomy : (s : Store) → Sound s → (act : Act Point) → takes_points act ≡ 0 → takes_record act ≡ 0 → true ≡ fits s act
roomy s o act p r = rw (p, r) (rw (le-leb (pts s + 0) 2048 (omega (arith, o.few_points)), le-leb (recs s + 0) 512 (omega (arith, o.few_records))))

new_in : (s : Store) (i : ℕ) (act : Act Point) → Ready raised s i act → NewIn act
new_in s i act (to_discard y) = tt
new_in s i act (to_move d₀ d e g) = tt
new_in s i act (to_go_first d₀ d e g) = tt
new_in s i act (to_drop e b z u r g) = tt
new_in s i act (to_double d₀ d b y r e v n) = in_codes v n
new_in s i act (to_cut d₀ d b y z u r e v n put off) = in_codes v n

module _ (w : List ℕ) (i : ℕ) (s : Steps w i) (act : Act Point) (e : act ≡ act_at (geometry_of (view w)) raised (view w) i) (room : Bool) (er : room ≡ fits (view w) act) where
  pub applies : room ≡ true → Applies w i act
  applies h =
      let f = both (leb (pts (view w) + takes_points act) 2048) (leb (recs (view w) + takes_record act) 512) (sym er ∙ h) in
      record {
        reach = reach w i s;
        points_fit = leb-true _ _ f.0;
        records_fit = leb-true _ _ f.1;
        new_in = new_in (view w) i act (subst (Ready raised (view w) i) (sym e) (ready (geometry_of (view w)) raised (laws (preserve_collinear (view w))) (view w) s.sound i s.closed s.unfinished));
      }
    where
      both : (a b : Bool) → (a && b) ≡ true → (a ≡ true) × (b ≡ true)
      both true b h = (refl, h)
      both false b h = let y : ◌≡◌ {A = ℕ} 0 1 = cc in absurd (omega arith)

  is_live : live (view w) i ≡ true
  is_live = live_too (geometry_of (view w)) raised (view w) i s.closed s.unfinished

  pub went : (w' : List ℕ) → room ≡ true → w' ≡ after_w raised w i act → outcome ok w' ≡ step_words (geometry_of (view w)) raised w i
  unfolding step_words step_w answer_s
  went w' h q = rw (is_live, ← e, sym er ∙ h) (ap (outcome ok) (q ∙ ap (after_w raised w i) e))

  pub no_room : room ≡ false → outcome full w ≡ step_words (geometry_of (view w)) raised w i
  unfolding step_words step_w answer_s
  no_room h = rw (is_live, ← e, sym er ∙ h)

-- ---- what it tells of the box

module _ (w : List ℕ) (i : ℕ) where
  pub foretold : (act : Act Point) (changes : Bool) → act ≡ act_at (geometry_of (view w)) raised (view w) i → changes ≡ changes_at (sides_at w i) (view w) (view w (rc PRESENT) i) act → Foretold w i (Ok changes)
  foretold act changes e h = record { told = λ c z. let y : c ≡ changes = cc z in y ∙ h ∙ ap (changes_at (sides_at w i) (view w) (view w (rc PRESENT) i)) e }

  pub not_told : Foretold w i (Err Full)
  not_told = record { told = λ c z. absurd (let y : ◌≡◌ {A = ℕ} 0 1 = cc in omega arith) }

  pub goes : Steps w i → Going w i
  goes s = going w i s

-- ---- a record number that may be any
module _ (w : List ℕ) (i : ℕ) where
  pub not_live : (b : Bool) → b ≡ live (view w) i → b ≡ false → outcome out_of_turn w ≡ step_words (geometry_of (view w)) raised w i
  unfolding step_words step_w answer_s
  not_live b e h = rw (sym e ∙ h)

  pub steps : (b : Bool) → SoundWords w → b ≡ live (view w) i → b ≡ true → Steps w i
  steps b s e h = let l = live_is (geometry_of (view w)) raised (view w) i (sym e ∙ h) in record { long = s.long; sound = s.sound; closed = l.0; unfinished = l.1 }

and_false : (b : Bool) → (b && false) ≡ false
and_false true = refl
and_false false = refl

module _ (w : List ℕ) (i n : ℕ) (en : n ≡ cell (ct RECORDS) w 0) where
  pub unknown : n ≤ i → false ≡ live (view w) i
  unknown h = rw (le-ltb i (cell (ct RECORDS) w 0) (omega arith))

  pub known : SoundWords w → i < n → i < 512
  known s h = omega (arith, s.sound.few_records)

  module _ (l : i < n) (f : ℕ) (ef : f ≡ cell (rc FLAGS) w i) where
    low : ltb i (cell (ct RECORDS) w 0) ≡ true
    low = lt-ltb i (cell (ct RECORDS) w 0) (omega arith)

    pub opened : f % 2 ≡ 1 → false ≡ live (view w) i
    opened h = rw (low, eq-eqb (cell (rc FLAGS) w i % 2) 1 (ap (λ (k : ℕ). k % 2) (sym ef) ∙ h))

    module _ (c : f % 2 ≢ 1) (p : ℕ) (ep : p ≡ cell (rc FIRST) w i) where
      closed : eqb (cell (rc FLAGS) w i % 2) 1 ≡ false
      closed = ne_eqb (cell (rc FLAGS) w i % 2) 1 (λ z. c (ap (λ (k : ℕ). k % 2) ef ∙ z))

      pub no_ring : p ≡ 65535 → false ≡ live (view w) i
      no_ring h = rw (low, closed, eq-eqb (cell (rc FIRST) w i) 65535 (sym ep ∙ h))

      pub by_mark : (m : ℕ) → p ≢ 65535 → m ≡ cell (rc MARK) w i → ltb m 4 ≡ live (view w) i
      by_mark m r em =
          let k : eqb (cell (rc FIRST) w i) 65535 ≡ false = ne_eqb (cell (rc FIRST) w i) 65535 (λ z. r (ep ∙ z)) in
          rw (low, closed, k, due_is_lem (geometry_of (view w)) raised (view w) i (due_at (view w) i)) (subst (λ (n : ℕ). ltb m 4 ≡ not (is_done (due_of n))) em (by m))
        where
          by : (m : ℕ) → ltb m 4 ≡ not (is_done (due_of m))
          by zero = refl
          by (suc zero) = refl
          by (suc (suc zero)) = refl
          by (suc (suc (suc zero))) = refl
          by (suc (suc (suc (suc m)))) = le-ltb (suc (suc (suc (suc m)))) 4 (omega arith)
