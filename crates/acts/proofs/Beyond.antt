-- Words past the fixed length: a step on words neither reads nor writes them. v is a work space that is long enough, m what follows it.
use Prim.Native.Nat.{ℕ, ◌+◌, ◌≤◌}
use mathlib.Core.Path.{◌≡◌, refl, ap, ◌∙◌, fun_ext}
use mathlib.Core.Bool.{Bool, true, false, cond}
use mathlib.Core.List.{List, [], ◌∷◌, ◌++◌}
use native.Mathlib.Omega.{arith}
use lib.Dec.{ltb}
use lib.ListN.{length, get_or, get_or-append}
use lib.Seq.{set-append_left}
use borrow.Author.Tests.{ltb-true}
use Rattle.lone.specs.Lone.{Geo}
use Rattle.lone.specs.Forest.{Answer, ok, full, out_of_turn}
use Rattle.lone.specs.Act.{Act, stay, discard, drop_point, move_on, to_first, double, cut}
use Rattle.store.proofs.Storing.{ends, length_put, length_writes}
use Rattle.store.specs.Field.{Field, size, base, BLOCK}
use Rattle.store.specs.Good.{Sound}
use Rattle.store.specs.Words.{Store, Write, cell, put, view, on_words}
use Rattle.store.specs.Stores.{Within}
use Rattle.acts.specs.Apply.{Coding, ring_writes, off_writes, after_w}
use Rattle.acts.specs.Laws.{Laws}
use Rattle.acts.specs.Step.{act_at, answer_s, step_by_w, step_w}
use Rattle.acts.specs.Writes.{move_writes, to_first_writes, discard_writes, drop_writes, double_writes}
use Rattle.acts.proofs.OnWords.{Inside, inside}
use Rattle.acts.proofs.Readiness.{ready}
use Rattle.acts.proofs.Stepping.{Able, able}

module _ (m : List ℕ) where
  cell_more : (v : List ℕ) → BLOCK ≤ length v → (f : Field) (i : ℕ) → cell f (v ++ m) i ≡ cell f v i
  unfolding cell
  cell_more v l f i = go (ltb i (size f)) refl
    where
      go : (b : Bool) → ltb i (size f) ≡ b → cond b (get_or (v ++ m) (base f + i) 0) 0 ≡ cond b (get_or v (base f + i) 0) 0
      go true e = get_or-append v m 0 (base f + i) (omega (arith, ends f i (ltb-true _ _ e)))
      go false e = refl

  -- the words hold the same store
  pub view_more : (v : List ℕ) → BLOCK ≤ length v → view (v ++ m) ≡ view v
  view_more v l = fun_ext (λ f. fun_ext (λ i. cell_more v l f i))

  put_more : (v : List ℕ) → BLOCK ≤ length v → (x : Write) (xs : List Write) → Within (x ∷ xs) → put x.to (v ++ m) x.at x.is ≡ put x.to v x.at x.is ++ m
  unfolding put
  put_more v l x xs h = set-append_left v m (base x.to + x.at) x.is (omega (arith, ends x.to x.at h.0))

  pub writes_more : (v : List ℕ) → BLOCK ≤ length v → (xs : List Write) → Within xs → on_words (v ++ m) xs ≡ on_words v xs ++ m
  writes_more v l [] h = refl
  writes_more v l (x ∷ xs) h = ap (λ (u : List ℕ). on_words u xs) (put_more v l x xs h) ∙ writes_more (put x.to v x.at x.is) (omega (arith, length_put x.to v x.at x.is)) xs h.1

  module _ {P : Type 0} (f : Coding P) (v : List ℕ) (l : BLOCK ≤ length v) (i : ℕ) where
    -- an act whose writes are a list made from the store
    by_list : (ws : Store → List Write) → Within (ws (view v)) → on_words (v ++ m) (ws (view (v ++ m))) ≡ on_words v (ws (view v)) ++ m
    by_list ws h = ap (λ (s : Store). on_words (v ++ m) (ws s)) (view_more v l) ∙ writes_more v l (ws (view v)) h

    after_more : (act : Act P) → Inside f v i act → after_w f (v ++ m) i act ≡ after_w f v i act ++ m
    after_more stay h = refl
    after_more (discard y) h = by_list (λ (s : Store). discard_writes i y) h
    after_more drop_point h = by_list (λ (s : Store). drop_writes s i) h
    after_more (move_on d) h = by_list (λ (s : Store). move_writes s i d) h
    after_more (to_first d) h = by_list (λ (s : Store). to_first_writes s i d) h
    after_more (double a d) h = by_list (λ (s : Store). double_writes s i (f.xw a) (f.yw a) (f.zw a) d) h
    after_more (cut a p off d) h =
        let r : Store → List Write = λ (s : Store). ring_writes f s i a p d in
        let u : List ℕ = on_words v (r (view v)) in
        let k : BLOCK ≤ length u = omega (arith, length_writes v (r (view v))) in
        ap (λ (s : Store). on_words (on_words (v ++ m) (r s)) (off_writes f s (view (on_words (v ++ m) (r s))) i a off)) (view_more v l)
        ∙ ap (λ (t : List ℕ). on_words t (off_writes f (view v) (view t) i a off)) (writes_more v l (r (view v)) h.0)
        ∙ ap (λ (s : Store). on_words (u ++ m) (off_writes f (view v) s i a off)) (view_more u k)
        ∙ writes_more u k (off_writes f (view v) (view u) i a off) h.1

    -- a step, of a sound store
    pub step_more : (G : Geo P) → Laws G f → Sound (view v) → step_w G f (v ++ m) i ≡ step_w G f v i ++ m
    unfolding step_w
    step_more G Λ o = ap (λ (s : Store). step_by_w G f (v ++ m) i (answer_s G f s i)) (view_more v l) ∙ by (answer_s G f (view v) i) refl
      where
        by : (a : Answer) → answer_s G f (view v) i ≡ a → step_by_w G f (v ++ m) i a ≡ step_by_w G f v i a ++ m
        by ok e =
            let a : Able G f (view v) i = able G f (view v) i e in
            ap (λ (s : Store). after_w f (v ++ m) i (act_at G f s i)) (view_more v l)
            ∙ after_more (act_at G f (view v) i) (inside f v l o i a.closed (act_at G f (view v) i) (ready G f Λ (view v) o i a.closed a.going) a.fits a.room)
        by full e = refl
        by out_of_turn e = refl
