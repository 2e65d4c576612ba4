-- What an answer of laying together says: a refusal leaves every word; else all tests were passed, and the pooled words are left.
use Prim.Native.Nat.{ℕ, ◌+◌, ◌≤◌, ◌<◌}
use mathlib.Core.Path.{◌≡◌, refl, ap, ◌∙◌, sym}
use mathlib.Core.Bool.{Bool, true, false, cond, not, ◌||◌}
use mathlib.Core.List.{List, ◌++◌}
use native.Mathlib.Omega.{arith}
use lib.Dec.{eqb, ltb}
use lib.ListN.{length, drop}
use borrow.Author.Tests.{eqb-true, le-ltb, ltb-false}
use Rattle.std.specs.Prelude.{Result, Ok, Err}
use Rattle.job.specs.Limits as limit
use Rattle.job.specs.declared.refusal.Refusal.{Refusal}
use Rattle.job.specs.declared.refusal.Refusal.TheVariants.{Full, OutOfTurn, SettingsDiffer}
use Rattle.store.specs.Field.{BLOCK, LENGTH}
use Rattle.store.specs.Words.{Store, view}
use Rattle.store.specs.Sound.{pts, recs}
use Rattle.store.specs.Boxes.{sides_at}
use Rattle.store.specs.States.{block_of}
use Rattle.handed.specs.Handed.{tested_of, Usable}
use Rattle.audit.specs.Left.{Left, left}
use Rattle.handed.proofs.Handing.{says_tested, handed_usable, usable_handed}
use Rattle.pooling.specs.Pooled.{used_in}
use Rattle.pooling.specs.Words.{lay_all, pooled_words}
use Rattle.laying.specs.Lay.{settings_byte, settings_differ, any_stepped, crowd, lay_room, lay_tested, lay_second, lay_by, lay_of}
use Rattle.pooling.proofs.Pooling.{BothFit}
use Rattle.pooling.proofs.Laying.{all_more, all_same, pooled_live, pooled_behind}

apart : {A : Type 0} → true ≡ false → A
apart e = absurd (let z : ◌≡◌ {A = ℕ} 0 1 = cc in omega arith)

or_none : (a b : Bool) → (a || b) ≡ false → (a ≡ false) × (b ≡ false)
or_none true b e = apart e
or_none false b e = (refl, e)

not_false : (a : Bool) → not a ≡ false → a ≡ true
not_false true e = refl
not_false false e = apart e

-- ---- the answer, by the tests alone; and what is left by the answer: the words found, or the pooled ones p

-- the settings differ, a record was stepped, a crowd
abbrev then_by : Bool → Bool → Bool → Result (Unit {0}) Refusal
then_by c d e = cond c (Err SettingsDiffer) (cond d (Err OutOfTurn) (cond e (Err Full) (Ok tt)))

abbrev verdicts_by : Result (Unit {0}) Refusal → Result (Unit {0}) Refusal → Result (Unit {0}) Refusal → Result (Unit {0}) Refusal
verdicts_by (Err r) y z = Err r
verdicts_by (Ok _) (Err r) z = Err r
verdicts_by (Ok _) (Ok _) z = z

-- the first is short, the second is
abbrev answer_by : Bool → Bool → Result (Unit {0}) Refusal → Result (Unit {0}) Refusal → Result (Unit {0}) Refusal → Result (Unit {0}) Refusal
answer_by a b x y z = cond a (Err Full) (cond b (Err Full) (verdicts_by x y z))

abbrev left_by : Result (Unit {0}) Refusal → List ℕ → List ℕ → Left
left_by (Ok _) w p = left (Ok tt) p
left_by (Err r) w p = left (Err r) w

module _ (w v : List ℕ) where
  abbrev tested : Result (Unit {0}) Refusal
  tested = then_by (settings_differ (view w) (view v)) (any_stepped (view w) || any_stepped (view v)) (crowd (view w) (view v))

  abbrev asked : Result (Unit {0}) Refusal
  asked = answer_by (ltb (length w) LENGTH) (ltb (length v) LENGTH) (tested_of w) (tested_of v) tested

  pub lay_is : lay_of w v ≡ left_by asked w (pooled_words w v)
  unfolding lay_of lay_tested lay_room
  lay_is = short (ltb (length w) LENGTH) (ltb (length v) LENGTH)
    where
      then : (c d e : Bool) → cond c (left (Err SettingsDiffer) w) (cond d (left (Err OutOfTurn) w) (cond e (left (Err Full) w) (left (Ok tt) (pooled_words w v)))) ≡ left_by (then_by c d e) w (pooled_words w v)
      then true d e = refl
      then false true e = refl
      then false false true = refl
      then false false false = refl

      second : (y : Result (Unit {0}) Refusal) → lay_second y w v ≡ left_by (verdicts_by (Ok tt) y tested) w (pooled_words w v)
      second (Err r) = refl
      second (Ok _) = then (settings_differ (view w) (view v)) (any_stepped (view w) || any_stepped (view v)) (crowd (view w) (view v))

      first : (x : Result (Unit {0}) Refusal) → lay_by x w v ≡ left_by (verdicts_by x (tested_of v) tested) w (pooled_words w v)
      first (Err r) = refl
      first (Ok _) = second (tested_of v)

      short : (a b : Bool) → cond a (left (Err Full) w) (cond b (left (Err Full) w) (lay_by (tested_of w) w v)) ≡ left_by (answer_by a b (tested_of w) (tested_of v) tested) w (pooled_words w v)
      short true b = refl
      short false true = refl
      short false false = first (tested_of w)

-- ---- what was found out where the answer is that they lie together

record AllPassed (a b : Bool) (x y : Result (Unit {0}) Refusal) (c d e : Bool) : Type 0 where
  first_long : a ≡ false
  second_long : b ≡ false
  first_passed : x ≡ Ok tt
  second_passed : y ≡ Ok tt
  same_settings : c ≡ false
  none_stepped : d ≡ false
  no_crowd : e ≡ false

no_reply : {A : Type 0} (r : Refusal) → Err r ≡ Ok (tt {0}) → A
no_reply r e = absurd (let z : ◌≡◌ {A = ℕ} 0 1 = cc in omega arith)

all_passed : (a b : Bool) (x y : Result (Unit {0}) Refusal) (c d e : Bool) → answer_by a b x y (then_by c d e) ≡ Ok tt → AllPassed a b x y c d e
all_passed true b x y c d e h = no_reply Full h
all_passed false true x y c d e h = no_reply Full h
all_passed false false (Err r) y c d e h = no_reply r h
all_passed false false (Ok _) (Err r) c d e h = no_reply r h
all_passed false false (Ok _) (Ok _) true d e h = no_reply SettingsDiffer h
all_passed false false (Ok _) (Ok _) false true e h = no_reply OutOfTurn h
all_passed false false (Ok _) (Ok _) false false true h = no_reply Full h
all_passed false false (Ok _) (Ok _) false false false h = record { first_long = refl; second_long = refl; first_passed = refl; second_passed = refl; same_settings = refl; none_stepped = refl; no_crowd = refl }

answer_left : (r : Result (Unit {0}) Refusal) (w p : List ℕ) → (left_by r w p).answer ≡ r
answer_left (Ok _) w p = refl
answer_left (Err r) w p = refl

module _ (w v : List ℕ) where
  pub answer_is : (lay_of w v).answer ≡ asked w v
  answer_is = ap (λ (l : Left). l.answer) (lay_is w v) ∙ answer_left (asked w v) w (pooled_words w v)

  -- "Each refusal changes neither"
  pub refused_leaves : (x : Refusal) → (lay_of w v).answer ≡ Err x → (lay_of w v).words ≡ w
  refused_leaves x e = ap (λ (l : Left). l.words) (lay_is w v ∙ ap (λ (r : Result (Unit {0}) Refusal). left_by r w (pooled_words w v)) (sym answer_is ∙ e))

  pub record Together : Type 0 where
    pub first : Usable w
    pub second : Usable v
    pub settings : settings_byte (view w) ≡ settings_byte (view v)
    pub first_unstepped : any_stepped (view w) ≡ false
    pub second_unstepped : any_stepped (view v) ≡ false
    pub fit : BothFit (view w) (view v)
    pub is : lay_of w v ≡ left (Ok tt) (pooled_words w v)

  no_crowd_fits : crowd (view w) (view v) ≡ false → BothFit (view w) (view v)
  no_crowd_fits e =
      let f = or_none (ltb limit.POINTS (pts (view w) + pts (view v))) (ltb limit.RECORDS (recs (view w) + recs (view v))) e in
      record { fit_points = ltb-false limit.POINTS (pts (view w) + pts (view v)) f.0; fit_records = ltb-false limit.RECORDS (recs (view w) + recs (view v)) f.1 }

  asked_passed : asked w v ≡ Ok tt → AllPassed (ltb (length w) LENGTH) (ltb (length v) LENGTH) (tested_of w) (tested_of v) (settings_differ (view w) (view v)) (any_stepped (view w) || any_stepped (view v)) (crowd (view w) (view v))
  asked_passed = all_passed (ltb (length w) LENGTH) (ltb (length v) LENGTH) (tested_of w) (tested_of v) (settings_differ (view w) (view v)) (any_stepped (view w) || any_stepped (view v)) (crowd (view w) (view v))

  pub together : (lay_of w v).answer ≡ Ok tt → Together
  together e =
      let p = asked_passed (sym answer_is ∙ e) in
      let d = or_none (any_stepped (view w)) (any_stepped (view v)) p.none_stepped in
      record {
        first = usable w p.first_long p.first_passed;
        second = usable v p.second_long p.second_passed;
        settings = eqb-true (settings_byte (view w)) (settings_byte (view v)) (not_false (eqb (settings_byte (view w)) (settings_byte (view v))) p.same_settings);
        first_unstepped = d.0;
        second_unstepped = d.1;
        fit = no_crowd_fits p.no_crowd;
        is = lay_is w v ∙ ap (λ (r : Result (Unit {0}) Refusal). left_by r w (pooled_words w v)) (sym answer_is ∙ e);
      }
    where
      usable : (x : List ℕ) → ltb (length x) LENGTH ≡ false → tested_of x ≡ Ok tt → Usable x
      usable x l t = handed_usable x (sym (says_tested x (tested_of x) (ltb-false (length x) LENGTH l) refl) ∙ t)

  -- ---- on every two work spaces the words behind the live block stay

  lay_keeps : (r : Result (Unit {0}) Refusal) → (lay_of w v).answer ≡ r → drop BLOCK (lay_of w v).words ≡ drop BLOCK w
  lay_keeps (Err x) e = ap (drop BLOCK) (refused_leaves x e)
  lay_keeps (Ok _) e =
      let t : Together = together e in
      ap (λ (l : Left). drop BLOCK l.words) t.is ∙ pooled_behind w v (omega (arith, t.first.long)) t.fit

  pub lay_behind : drop BLOCK (lay_of w v).words ≡ drop BLOCK w
  lay_behind = lay_keeps (lay_of w v).answer refl

-- ---- words m past the first: the answer is the one without them, and they are left

module _ (w v m : List ℕ) (long : LENGTH ≤ length w) (longer : LENGTH ≤ length (w ++ m)) (shows : view (w ++ m) ≡ view w) (passes : tested_of (w ++ m) ≡ tested_of w) where
  same_asked : asked (w ++ m) v ≡ asked w v
  same_asked =
      ap (λ (a : Bool). answer_by a (ltb (length v) LENGTH) (tested_of (w ++ m)) (tested_of v) (tested (w ++ m) v)) (le-ltb (length (w ++ m)) LENGTH longer ∙ sym (le-ltb (length w) LENGTH long))
      ∙ ap (λ (x : Result (Unit {0}) Refusal). answer_by (ltb (length w) LENGTH) (ltb (length v) LENGTH) x (tested_of v) (tested (w ++ m) v)) passes
      ∙ ap (λ (s : Store). answer_by (ltb (length w) LENGTH) (ltb (length v) LENGTH) (tested_of w) (tested_of v) (then_by (settings_differ s (view v)) (any_stepped s || any_stepped (view v)) (crowd s (view v)))) shows

  pooled_more : BothFit (view w) (view v) → pooled_words (w ++ m) v ≡ pooled_words w v ++ m
  pooled_more h = ap (λ (s : Store). lay_all (used_in s) (used_in (view v)) v (w ++ m)) shows ∙ all_more (used_in (view w)) (used_in (view v)) v m w (omega arith) h.fit_points h.fit_records

  pub lay_more : lay_of (w ++ m) v ≡ left (lay_of w v).answer ((lay_of w v).words ++ m)
  lay_more =
      lay_is (w ++ m) v
      ∙ ap (λ (r : Result (Unit {0}) Refusal). left_by r (w ++ m) (pooled_words (w ++ m) v)) same_asked
      ∙ by (asked w v) refl
      ∙ sym (ap (λ (l : Left). left l.answer (l.words ++ m)) (lay_is w v))
    where
      by : (r : Result (Unit {0}) Refusal) → asked w v ≡ r → left_by r (w ++ m) (pooled_words (w ++ m) v) ≡ left (left_by r w (pooled_words w v)).answer ((left_by r w (pooled_words w v)).words ++ m)
      by (Err x) e = refl
      by (Ok _) e = ap (left (Ok tt)) (pooled_more (no_crowd_fits w v (asked_passed w v e).no_crowd))

-- of the second the store and the boxes are read
module _ (w v v' : List ℕ) (l : LENGTH ≤ length v) (k : LENGTH ≤ length v') (shows : view v ≡ view v') (boxes : (j : ℕ) → j < limit.RECORDS → sides_at v j ≡ sides_at v' j) (passes : tested_of v ≡ tested_of v') where
  second_asked : asked w v ≡ asked w v'
  second_asked =
      ap (λ (b : Bool). answer_by (ltb (length w) LENGTH) b (tested_of w) (tested_of v) (tested w v)) (le-ltb (length v) LENGTH l ∙ sym (le-ltb (length v') LENGTH k))
      ∙ ap (λ (y : Result (Unit {0}) Refusal). answer_by (ltb (length w) LENGTH) (ltb (length v') LENGTH) (tested_of w) y (tested w v)) passes
      ∙ ap (λ (s : Store). answer_by (ltb (length w) LENGTH) (ltb (length v') LENGTH) (tested_of w) (tested_of v') (then_by (settings_differ (view w) s) (any_stepped (view w) || any_stepped s) (crowd (view w) s))) shows

  second_pooled : BothFit (view w) (view v) → pooled_words w v ≡ pooled_words w v'
  second_pooled h =
      ap (λ (s : Store). lay_all (used_in (view w)) (used_in s) v w) shows
      ∙ all_same (used_in (view w)) (used_in (view v')) v v' shows (λ j f. boxes j (omega (arith, h.fit_records, ap recs shows))) w

  pub lay_second_lem : lay_of w v ≡ lay_of w v'
  lay_second_lem = lay_is w v ∙ by (asked w v) refl ∙ ap (λ (r : Result (Unit {0}) Refusal). left_by r w (pooled_words w v')) second_asked ∙ sym (lay_is w v')
    where
      by : (r : Result (Unit {0}) Refusal) → asked w v ≡ r → left_by r w (pooled_words w v) ≡ left_by r w (pooled_words w v')
      by (Err x) e = refl
      by (Ok _) e = ap (left (Ok tt)) (second_pooled (no_crowd_fits w v (asked_passed w v e).no_crowd))

-- ---- two work spaces with one live block

module _ (w x v : List ℕ) (f : Usable w) (g : Usable x) (e : block_of w ≡ block_of x) (shows : view w ≡ view x) where
  passes : (y : List ℕ) → Usable y → tested_of y ≡ Ok tt
  passes y u = says_tested y (tested_of y) u.long refl ∙ usable_handed y u

  both_asked : asked w v ≡ asked x v
  both_asked =
      ap (λ (a : Bool). answer_by a (ltb (length v) LENGTH) (tested_of w) (tested_of v) (tested w v)) (le-ltb (length w) LENGTH f.long ∙ sym (le-ltb (length x) LENGTH g.long))
      ∙ ap (λ (z : Result (Unit {0}) Refusal). answer_by (ltb (length x) LENGTH) (ltb (length v) LENGTH) z (tested_of v) (tested w v)) (passes w f ∙ sym (passes x g))
      ∙ ap (λ (s : Store). answer_by (ltb (length x) LENGTH) (ltb (length v) LENGTH) (tested_of x) (tested_of v) (then_by (settings_differ s (view v)) (any_stepped s || any_stepped (view v)) (crowd s (view v)))) shows

  pub same_laying : (lay_of w v).answer ≡ (lay_of x v).answer
  same_laying = answer_is w v ∙ both_asked ∙ sym (answer_is x v)

  pub same_laid : block_of (lay_of w v).words ≡ block_of (lay_of x v).words
  same_laid = by (lay_of w v).answer refl
    where
      by : (r : Result (Unit {0}) Refusal) → (lay_of w v).answer ≡ r → block_of (lay_of w v).words ≡ block_of (lay_of x v).words
      by (Err y) d = ap block_of (refused_leaves w v y d) ∙ e ∙ sym (ap block_of (refused_leaves x v y (sym same_laying ∙ d)))
      by (Ok _) d =
          let a : Together w v = together w v d in
          let b : Together x v = together x v (sym same_laying ∙ d) in
          ap (λ (l : Left). block_of l.words) a.is
          ∙ pooled_live w v (omega (arith, f.long)) a.fit
          ∙ ap (λ (s : Store). lay_all (used_in s) (used_in (view v)) v (block_of w)) shows
          ∙ ap (lay_all (used_in (view x)) (used_in (view v)) v) e
          ∙ sym (ap (λ (l : Left). block_of l.words) b.is ∙ pooled_live x v (omega (arith, g.long)) b.fit)
