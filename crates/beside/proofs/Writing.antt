-- What an act writes is in columns, so it leaves every box, and boxes may be written before it or after.
use Prim.Native.Nat.{ℕ, ◌≤◌}
use mathlib.Core.Path.{◌≡◌, refl, ap, ◌∙◌}
use mathlib.Core.List.{List}
use lib.ListN.{length}
use Rattle.lone.specs.Lone.{Geo}
use Rattle.lone.specs.Forest.{Answer, ok, full, out_of_turn}
use Rattle.lone.specs.Act.{Act, stay, discard, drop_point, move_on, to_first, double, cut}
use Rattle.store.specs.declared.boxed.Sides.{Sides}
use Rattle.store.specs.Field.{BLOCK}
use Rattle.store.specs.Good.{Sound}
use Rattle.store.specs.Words.{Store, Write, view, on_words}
use Rattle.store.specs.Stores.{Within}
use Rattle.store.specs.Boxes.{sides_at, set_sides}
use Rattle.store.proofs.Boxing.{view_sides, writes_sides, sides_writes}
use Rattle.acts.specs.Apply.{Coding, ring_writes, off_writes, after_w}
use Rattle.acts.specs.Laws.{Laws}
use Rattle.acts.specs.Step.{act_at, answer_s, step_by_w, step_w}
use Rattle.acts.specs.Writes.{move_writes, to_first_writes, discard_writes, drop_writes, double_writes}
use Rattle.acts.proofs.OnWords.{Inside, inside}
use Rattle.acts.proofs.Readiness.{ready}
use Rattle.acts.proofs.Stepping.{Able, able}

module _ {P : Type 0} (f : Coding P) (w : List ℕ) (i : ℕ) where
  module _ (j : ℕ) (b : Sides) where
    by_list : (ws : Store → List Write) → Within (ws (view w)) → on_words (set_sides w j b) (ws (view (set_sides w j b))) ≡ set_sides (on_words w (ws (view w))) j b
    by_list ws h = ap (λ (s : Store). on_words (set_sides w j b) (ws s)) (view_sides w j b) ∙ writes_sides (ws (view w)) h w j b

    after_set : (act : Act P) → Inside f w i act → after_w f (set_sides w j b) i act ≡ set_sides (after_w f w i act) j b
    after_set stay h = refl
    after_set (discard y) h = by_list (λ (s : Store). discard_writes i y) h
    after_set drop_point h = by_list (λ (s : Store). drop_writes s i) h
    after_set (move_on d) h = by_list (λ (s : Store). move_writes s i d) h
    after_set (to_first d) h = by_list (λ (s : Store). to_first_writes s i d) h
    after_set (double a d) h = by_list (λ (s : Store). double_writes s i (f.xw a) (f.yw a) (f.zw a) d) h
    after_set (cut a p off d) h =
        let r : Store → List Write = λ (s : Store). ring_writes f s i a p d in
        let u : List ℕ = on_words w (r (view w)) in
        ap (λ (s : Store). on_words (on_words (set_sides w j b) (r s)) (off_writes f s (view (on_words (set_sides w j b) (r s))) i a off)) (view_sides w j b)
        ∙ ap (λ (t : List ℕ). on_words t (off_writes f (view w) (view t) i a off)) (writes_sides (r (view w)) h.0 w j b)
        ∙ ap (λ (s : Store). on_words (set_sides u j b) (off_writes f (view w) s i a off)) (view_sides u j b)
        ∙ writes_sides (off_writes f (view w) (view u) i a off) h.1 u j b

  after_sides : (j : ℕ) (act : Act P) → Inside f w i act → sides_at (after_w f w i act) j ≡ sides_at w j
  after_sides j stay h = refl
  after_sides j (discard y) h = sides_writes (discard_writes i y) h w j
  after_sides j drop_point h = sides_writes (drop_writes (view w) i) h w j
  after_sides j (move_on d) h = sides_writes (move_writes (view w) i d) h w j
  after_sides j (to_first d) h = sides_writes (to_first_writes (view w) i d) h w j
  after_sides j (double a d) h = sides_writes (double_writes (view w) i (f.xw a) (f.yw a) (f.zw a) d) h w j
  after_sides j (cut a p off d) h =
      let r : List Write = ring_writes f (view w) i a p d in
      sides_writes (off_writes f (view w) (view (on_words w r)) i a off) h.1 (on_words w r) j ∙ sides_writes r h.0 w j

module _ {P : Type 0} (G : Geo P) (f : Coding P) (Λ : Laws G f) (w : List ℕ) (l : BLOCK ≤ length w) (o : Sound (view w)) (i : ℕ) where
  within : answer_s G f (view w) i ≡ ok → Inside f w i (act_at G f (view w) i)
  within e = let a : Able G f (view w) i = able G f (view w) i e in inside f w l o i a.closed (act_at G f (view w) i) (ready G f Λ (view w) o i a.closed a.going) a.fits a.room

  -- a step and a box in either order
  pub step_set : (j : ℕ) (b : Sides) → step_w G f (set_sides w j b) i ≡ set_sides (step_w G f w i) j b
  unfolding step_w
  step_set j b = ap (λ (s : Store). step_by_w G f (set_sides w j b) i (answer_s G f s i)) (view_sides w j b) ∙ by (answer_s G f (view w) i) refl
    where
      by : (a : Answer) → answer_s G f (view w) i ≡ a → step_by_w G f (set_sides w j b) i a ≡ set_sides (step_by_w G f w i a) j b
      by ok e = ap (λ (s : Store). after_w f (set_sides w j b) i (act_at G f s i)) (view_sides w j b) ∙ after_set f w i j b (act_at G f (view w) i) (within e)
      by full e = refl
      by out_of_turn e = refl

  -- and it leaves every box
  pub step_sides : (j : ℕ) → sides_at (step_w G f w i) j ≡ sides_at w j
  unfolding step_w
  step_sides j = by (answer_s G f (view w) i) refl
    where
      by : (a : Answer) → answer_s G f (view w) i ≡ a → sides_at (step_by_w G f w i a) j ≡ sides_at w j
      by ok e = after_sides f w i j (act_at G f (view w) i) (within e)
      by full e = refl
      by out_of_turn e = refl
