-- A step, and writing out, by the live block alone: what they answer and write there hangs on nothing else, and a step leaves every word behind the block, so names and copies of kept states too.
use Prim.Native.Nat.{ℕ, ◌≤◌, ◌<◌}
use mathlib.Core.Path.{◌≡◌, refl, ap, ◌∙◌, sym, subst}
use mathlib.Core.List.{List, ◌++◌}
use mathlib.Core.Bool.{cond}
use native.Mathlib.Omega.{arith}
use lib.ListN.{length, get_or, take, drop, take-append-drop}
use lib.Seq.{length-take-le, take_at, drop_at, get_or-take, get_or-drop}
use Rattle.std.specs.Prelude.{Result, Ok, Err}
use Rattle.job.specs.declared.refusal.Refusal.{Refusal}
use Rattle.job.specs.declared.refusal.Refusal.TheVariants.{OutOfTurn}
use Rattle.lone.specs.Lone.{Geo}
use Rattle.lone.specs.Forest.{Answer, ok, full, out_of_turn}
use Rattle.store.specs.Field.{BLOCK}
use Rattle.job.specs.Limits as limit
use Rattle.store.specs.Words.{Store, view}
use Rattle.store.specs.Named.{records_of}
use Rattle.store.specs.Sound.{recs, ringless}
use Rattle.store.specs.Good.{Sound}
use Rattle.store.specs.Boxes.{side_at, ring_box, Boxed, boxed_at}
use Rattle.store.specs.States.{is_name, name_at, Apart, block_of}
use Rattle.store.specs.Value.{preserve_collinear}
use Rattle.handed.specs.Handed.{handed_of, Usable}
use Rattle.handed.proofs.Handing.{usable_handed, handed_usable}
use Rattle.acts.specs.Apply.{Coding}
use Rattle.acts.specs.Laws.{Laws}
use Rattle.bounds.proofs.Beside.{view_boxed, length_boxed, boxed_move}
use Rattle.beside.proofs.Setting.{boxed_more}
use Rattle.beside.proofs.Stepping.{step_boxed}
use Rattle.acts.specs.Step.{answer_s, step_by_w, step_w}
use Rattle.acts.proofs.Beyond.{view_more, step_more}
use Rattle.acts.proofs.Stepping.{length_step, step_w_sound}
use Rattle.turns.specs.Form.{raised, geometry_of}
use Rattle.turns.proofs.Ready.{laws}
use Rattle.steps.specs.Live.{any_live}
use Rattle.paths.specs.Wrote.{wrote, build_paths64}
use Rattle.audit.specs.Left.{Left, left}
use Rattle.boxed_steps.specs.Leaves.{step_leaves}
use Rattle.finishing.specs.Step.{stepped_as, step_of}
use Rattle.finishing.specs.Write.{write_of}
use Rattle.finishing.proofs.Entering.{handed_step, handed_write}

-- ---- the live block holds the store

module _ (w : List ℕ) (l : BLOCK ≤ length w) where
  block_long : BLOCK ≤ length (block_of w)
  block_long = omega (arith, length-take-le BLOCK w l)

  pub view_block : view w ≡ view (block_of w)
  view_block = ap view (sym (take-append-drop BLOCK w)) ∙ view_more (drop BLOCK w) (block_of w) block_long

pub same_view : (w v : List ℕ) → BLOCK ≤ length w → BLOCK ≤ length v → block_of w ≡ block_of v → view w ≡ view v
same_view w v l k e = view_block w l ∙ ap view e ∙ sym (view_block v k)

-- and the boxes
module _ (w v : List ℕ) (l : BLOCK ≤ length w) (k : BLOCK ≤ length v) (e : block_of w ≡ block_of v) where
  same_word : (j : ℕ) → j < BLOCK → get_or w j 0 ≡ get_or v j 0
  same_word j h = sym (get_or-take BLOCK w j 0 h) ∙ ap (λ (u : List ℕ). get_or u j 0) e ∙ get_or-take BLOCK v j 0 h

  pub same_boxed : (i : ℕ) → i < limit.RECORDS → Boxed v i → Boxed w i
  same_boxed i h b =
      boxed_move v w i (ap (λ (s : Store). ringless s i) (same_view w v l k e))
      (rw (same_word (side_at 0 i) (omega arith), same_word (side_at 1 i) (omega arith), same_word (side_at 2 i) (omega arith), same_word (side_at 3 i) (omega arith)))
      (ap (λ (s : Store). ring_box s i) (same_view w v l k e)) b

-- ---- names

pub same_apart : (w v : List ℕ) → ((p : ℕ) → name_at v p ≡ name_at w p) → Apart w → Apart v
same_apart w v e a = record { differ = λ p q l h n f. a.differ p q l h (sym (ap is_name (e p)) ∙ n) (sym (e p) ∙ f ∙ e q) }

pub behind_names : (w v : List ℕ) → drop BLOCK v ≡ drop BLOCK w → (p : ℕ) → name_at v p ≡ name_at w p
behind_names w v e p = sym (get_or-drop BLOCK v p 0) ∙ ap (λ (u : List ℕ). get_or u p 0) e ∙ get_or-drop BLOCK w p 0

-- ---- a step on words

module _ {P : Type 0} (G : Geo P) (f : Coding P) (Λ : Laws G f) (w : List ℕ) (l : BLOCK ≤ length w) (o : Sound (view w)) (i : ℕ) where
  step_parts : step_w G f w i ≡ step_w G f (block_of w) i ++ drop BLOCK w
  step_parts =
      ap (λ (v : List ℕ). step_w G f v i) (sym (take-append-drop BLOCK w))
      ∙ step_more (drop BLOCK w) f (block_of w) (block_long w l) i G Λ (subst Sound (view_block w l) o)

  stepped_long : length (step_w G f (block_of w) i) ≡ BLOCK
  stepped_long = length_step G f (block_of w) i ∙ length-take-le BLOCK w l

  pub step_live : block_of (step_w G f w i) ≡ step_w G f (block_of w) i
  step_live = ap (take BLOCK) step_parts ∙ take_at (step_w G f (block_of w) i) (drop BLOCK w) BLOCK stepped_long

  pub step_behind : drop BLOCK (step_w G f w i) ≡ drop BLOCK w
  step_behind = ap (drop BLOCK) step_parts ∙ drop_at (step_w G f (block_of w) i) (drop BLOCK w) BLOCK stepped_long

  pub step_apart : Apart w → Apart (step_w G f w i)
  step_apart a = same_apart w (step_w G f w i) (behind_names w (step_w G f w i) step_behind) a

-- ---- a step with its boxes

module _ (w : List ℕ) (l : BLOCK ≤ length w) (o : Sound (view w)) (i : ℕ) where
  abbrev pub answered : Answer
  answered = answer_s (geometry_of (view w)) raised (view w) i

  abbrev pub stepped : List ℕ
  stepped = step_w (geometry_of (view w)) raised w i

  stepped_few : records_of stepped ≤ limit.RECORDS
  stepped_few = (step_w_sound (geometry_of (view w)) raised (laws (preserve_collinear (view w))) w i l o).few_records

  -- the boxes are beside the store
  pub view_leaves : view (step_leaves answered w i) ≡ view stepped
  unfolding step_w
  view_leaves = by answered refl
    where
      by : (a : Answer) → answered ≡ a → view (step_leaves a w i) ≡ view (step_by_w (geometry_of (view w)) raised w i answered)
      by ok e = view_boxed (boxed_at stepped i) (recs (view w)) ∙ view_boxed stepped i
      by full e = ap (λ (x : Answer). view (step_by_w (geometry_of (view w)) raised w i x)) (sym e)
      by out_of_turn e = ap (λ (x : Answer). view (step_by_w (geometry_of (view w)) raised w i x)) (sym e)

  pub length_leaves : (a : Answer) → length (step_leaves a w i) ≡ length w
  length_leaves ok = length_boxed (boxed_at stepped i) (recs (view w)) ∙ length_boxed stepped i ∙ length_step (geometry_of (view w)) raised w i
  length_leaves full = refl
  length_leaves out_of_turn = refl

  -- what follows the block is neither read nor written
  pub leaves_more : (m : List ℕ) (a : Answer) → step_leaves a (w ++ m) i ≡ step_leaves a w i ++ m
  leaves_more m ok =
      ap (λ (s : Store). boxed_at (boxed_at (step_w (geometry_of s) raised (w ++ m) i) i) (recs s)) (view_more m w l)
      ∙ ap (λ (u : List ℕ). boxed_at (boxed_at u i) (recs (view w))) (step_more m raised w l i (geometry_of (view w)) (laws (preserve_collinear (view w))) o)
      ∙ ap (λ (u : List ℕ). boxed_at u (recs (view w))) (boxed_more stepped m i long stepped_few (view_more m stepped long))
      ∙ boxed_more (boxed_at stepped i) m (recs (view w)) long' (subst (λ (s : Store). recs s ≤ limit.RECORDS) (sym (view_boxed stepped i)) stepped_few) (view_more m (boxed_at stepped i) long')
    where
      long : BLOCK ≤ length stepped
      long = omega (arith, length_step (geometry_of (view w)) raised w i)

      long' : BLOCK ≤ length (boxed_at stepped i)
      long' = omega (arith, length_boxed stepped i, long)
  leaves_more m full = refl
  leaves_more m out_of_turn = refl

-- by the live block
module _ (w : List ℕ) (l : BLOCK ≤ length w) (o : Sound (view w)) (i : ℕ) (a : Answer) where
  block_sound : Sound (view (block_of w))
  block_sound = subst Sound (view_block w l) o

  leaves_parts : step_leaves a w i ≡ step_leaves a (block_of w) i ++ drop BLOCK w
  leaves_parts = ap (λ (v : List ℕ). step_leaves a v i) (sym (take-append-drop BLOCK w)) ∙ leaves_more (block_of w) (block_long w l) block_sound i (drop BLOCK w) a

  left_long : length (step_leaves a (block_of w) i) ≡ BLOCK
  left_long = length_leaves (block_of w) (block_long w l) block_sound i a ∙ length-take-le BLOCK w l

  leaves_live : block_of (step_leaves a w i) ≡ step_leaves a (block_of w) i
  leaves_live = ap (take BLOCK) leaves_parts ∙ take_at (step_leaves a (block_of w) i) (drop BLOCK w) BLOCK left_long

  leaves_behind : drop BLOCK (step_leaves a w i) ≡ drop BLOCK w
  leaves_behind = ap (drop BLOCK) leaves_parts ∙ drop_at (step_leaves a (block_of w) i) (drop BLOCK w) BLOCK left_long

-- ---- the calls

module _ (w : List ℕ) (f : Usable w) (i : ℕ) where
  pub fit_long : BLOCK ≤ length w
  fit_long = omega (arith, f.long)

  pub step_is : step_of w i ≡ left (stepped_as (answered w fit_long f.sound i)) (step_leaves (answered w fit_long f.sound i) w i)
  step_is = handed_step w i (Ok tt) (usable_handed w f)

  pub words_are : (step_of w i).words ≡ step_leaves (answered w fit_long f.sound i) w i
  words_are = ap (λ (x : Left). x.words) step_is

  fit_behind : drop BLOCK (step_of w i).words ≡ drop BLOCK w
  fit_behind = ap (drop BLOCK) words_are ∙ leaves_behind w fit_long f.sound i (answered w fit_long f.sound i)

  live_is : block_of (step_of w i).words ≡ step_leaves (answered w fit_long f.sound i) (block_of w) i
  live_is = ap block_of words_are ∙ leaves_live w fit_long f.sound i (answered w fit_long f.sound i)

  -- each ring's box is beside it still
  boxed_still : (a : Answer) → answered w fit_long f.sound i ≡ a → (j : ℕ) → j < records_of (step_leaves a w i) → Boxed (step_leaves a w i) j
  boxed_still ok e = step_boxed (geometry_of (view w)) raised (laws (preserve_collinear (view w))) w fit_long f.sound i e f.boxed
  boxed_still full e = f.boxed
  boxed_still out_of_turn e = f.boxed

  -- it passes still
  pub leaves_usable : Usable (step_leaves (answered w fit_long f.sound i) w i)
  leaves_usable =
      record {
        long = omega (arith, f.long, length_leaves w fit_long f.sound i (answered w fit_long f.sound i));
        sound = subst Sound (sym (view_leaves w fit_long f.sound i)) (step_w_sound (geometry_of (view w)) raised (laws (preserve_collinear (view w))) w i fit_long f.sound);
        boxed = boxed_still (answered w fit_long f.sound i) refl;
        apart = same_apart w (step_leaves (answered w fit_long f.sound i) w i) (behind_names w (step_leaves (answered w fit_long f.sound i) w i) (leaves_behind w fit_long f.sound i (answered w fit_long f.sound i))) f.apart;
      }

  pub call_usable : Usable (step_of w i).words
  call_usable = subst Usable (sym words_are) leaves_usable

-- every step leaves the words behind the live block, on every work space
pub call_behind : (w : List ℕ) (i : ℕ) → drop BLOCK (step_of w i).words ≡ drop BLOCK w
call_behind w i = go (handed_of w) refl
  where
    go : (v : Result (Unit {0}) Refusal) → handed_of w ≡ v → drop BLOCK (step_of w i).words ≡ drop BLOCK w
    go (Err r) e = ap (λ (x : Left). drop BLOCK x.words) (handed_step w i (Err r) e)
    go (Ok _) e = fit_behind w (handed_usable w e) i

-- two work spaces with one live block
module _ (w v : List ℕ) (f : Usable w) (g : Usable v) (e : block_of w ≡ block_of v) where
  shown : view w ≡ view v
  shown = same_view w v (omega (arith, f.long)) (omega (arith, g.long)) e

  pub same_answer : (i : ℕ) → (step_of w i).answer ≡ (step_of v i).answer
  same_answer i =
      ap (λ (x : Left). x.answer) (step_is w f i)
      ∙ ap (λ (s : Store). stepped_as (answer_s (geometry_of s) raised s i)) shown
      ∙ sym (ap (λ (x : Left). x.answer) (step_is v g i))

  pub same_live : (i : ℕ) → block_of (step_of w i).words ≡ block_of (step_of v i).words
  same_live i =
      live_is w f i
      ∙ ap (λ (s : Store). step_leaves (answer_s (geometry_of s) raised s i) (block_of w) i) shown
      ∙ ap (λ (b : List ℕ). step_leaves (answer_s (geometry_of (view v)) raised (view v) i) b i) e
      ∙ sym (live_is v g i)

  pub same_write : (t : List ℕ) → write_of w t ≡ write_of v t
  same_write t =
      handed_write w t (Ok tt) (usable_handed w f)
      ∙ ap (λ (s : Store). cond (any_live s) (wrote (Err OutOfTurn) t) (build_paths64 s t)) shown
      ∙ sym (handed_write v t (Ok tt) (usable_handed v g))
