-- What the needs of finishing in one call come to.
use Prim.Native.Nat.{ℕ, ◌≤◌}
use mathlib.Core.Path.{◌≡◌, refl, ap, ◌∙◌, sym, subst}
use mathlib.Core.List.{List}
use native.Mathlib.Omega.{arith}
use Rattle.std.proofs.Common.{Result, Ok, Err}
use Rattle.job.specs.Limits as limit
use lib.ListN.{length, replicate}
use Rattle.job.specs.declared.refusal.Refusal.{Refusal}
use Rattle.job.specs.declared.refusal.Refusal.TheVariants as refusal
use Rattle.rings.specs.Progress.{Ring}
use Rattle.geometry.specs.declared.Point.{Point}
use Rattle.lone.specs.Forest.{Forest}
use Rattle.store.specs.Words.{Store, view}
use Rattle.store.specs.Value.{preserve_collinear}
use Rattle.store.specs.Field.{BLOCK}
use Rattle.store.specs.Named.{records_of}
use Rattle.store.specs.Good.{Sound, SoundWords}
use Rattle.store.specs.Boxes.{all_boxed}
use Rattle.bounds.proofs.Beside.{view_all, length_all, set_boxed}
use Rattle.acts.specs.Rep.{Rep, RepW}
use Rattle.acts.specs.Finishable.{MayFinish}
use Rattle.acts.proofs.Finished.{finish_done}
use Rattle.beside.proofs.Finishing.{end_by, finish_boxed}
use Rattle.turns.specs.Form.{raised, geometry_of}
use Rattle.std.specs.Prelude.{⊤}
use Rattle.paths.specs.declared.Written.{Written}
use Rattle.steps.specs.declared.RingsFull.{RingsFull}
use Rattle.steps.specs.Code.{end_is}
use Rattle.turns.proofs.Ready.{laws}
use Rattle.acts.specs.Finish.{RingsEnd, rings_done, rings_full, finish_w}
use Rattle.paths.specs.Wrote.{Wrote, wrote, build_paths64}
use Rattle.finishing.specs.Start.{Start}
use Rattle.finishing.specs.Finish.{then_boxed, finish_rings}
use Rattle.finishing.specs.InOneCall.{finished, refused, after_writing, after_steps, after_opening, finish_of}
use Rattle.opening.specs.Open.{End, end, open_of}
use Rattle.opening.specs.Unboxed.{boxed_end}
use Rattle.opening.proofs.Accepted.{after_opening_lem}
use Rattle.opening.proofs.Behind.{open_long, open_apart}
use Rattle.finishing.proofs.Starting.{F₀, start_rep, held}

pub zeros : (x : Refusal) (w t w' t' : List ℕ) → w' ≡ replicate (length w) 0 → t' ≡ replicate (length t) 0 → finished (Err x) w' t' ≡ refused x (length w) (length t)
zeros x w t w' t' e f = rw (e, f)

-- ---- writing out has ended

module _ (w t t₁ : List ℕ) (r : Result Written Refusal) (e : wrote r t₁ ≡ build_paths64 (view w) t) where
  as_written : after_writing w r t₁ ≡ after_writing w (build_paths64 (view w) t).answer (build_paths64 (view w) t).tray
  as_written = ap (λ (b : Wrote). after_writing w b.answer b.tray) e

  pub all_paths : (p : Written) → r ≡ Ok p → finished (Ok p) w t₁ ≡ after_writing w (build_paths64 (view w) t).answer (build_paths64 (view w) t).tray
  all_paths p h = sym (ap (λ (z : Result Written Refusal). after_writing w z t₁) h) ∙ as_written

  pub small_tray : (x : Refusal) (a : Result Written Refusal) (w' t' : List ℕ) → r ≡ Err x → finished a w' t' ≡ refused x (length w) (length t₁) → finished a w' t' ≡ after_writing w (build_paths64 (view w) t).answer (build_paths64 (view w) t).tray
  small_tray x a w' t' h g = g ∙ sym (ap (λ (z : Result Written Refusal). after_writing w z t₁) h) ∙ as_written

-- ---- the rings are finished

-- words with their boxes
boxed_ready : (u : List ℕ) → SoundWords u → SoundWords (all_boxed u)
boxed_ready u s = record { long = omega (arith, s.long, length_all u); sound = subst Sound (sym (view_all u)) s.sound }

ready_by : (w u : List ℕ) (F : Forest (Ring Point) (List Point)) → RepW raised w F → finish_w (geometry_of (view w)) raised w ≡ rings_done u → SoundWords u
ready_by w u F h e =
    let r = finish_done (geometry_of (view w)) raised (laws (preserve_collinear (view w))) w F u h e in
    record { long = r.long; sound = r.rep.in_step.sound }

-- rings that are done may be written out
pub done_ready : (w w₁ : List ℕ) → Start w → finish_rings w ≡ rings_done w₁ → SoundWords w₁
unfolding finish_rings
done_ready w w₁ o e = go (finish_w (geometry_of (view w)) raised w) refl e
  where
    go : (r : RingsEnd) → finish_w (geometry_of (view w)) raised w ≡ r → then_boxed r ≡ rings_done w₁ → SoundWords w₁
    go (rings_done u) h f = let z : all_boxed u ≡ w₁ = cc in subst SoundWords z (boxed_ready u (ready_by w u (F₀ w o) (start_rep w o) h))
    go (rings_full u) h f = absurd (let z : ◌≡◌ {A = ℕ} 0 1 = cc in omega arith)

-- w: words without their boxes, which opening would have written
module _ (w : List ℕ) (o : Start (all_boxed w)) where
  long : BLOCK ≤ length w
  long = omega (arith, o.long, length_all w)

  sound : Sound (view w)
  sound = subst Sound (view_all w) o.sound

  rep : RepW raised w (F₀ (all_boxed w) o)
  rep = record { long = long; rep = subst (λ (s : Store). Rep raised.of s (F₀ (all_boxed w) o)) (view_all w) (start_rep (all_boxed w) o).rep }

  pub unboxed_finishes : MayFinish (geometry_of (view w)) raised w
  unboxed_finishes = record { forest = F₀ (all_boxed w) o; rep = rep; held = held (all_boxed w) o }

  -- of the boxes those count that are written at the end
  finish_is : finish_rings (all_boxed w) ≡ then_boxed (finish_w (geometry_of (view w)) raised w)
  unfolding finish_rings
  finish_is =
      ap (λ (s : Store). then_boxed (finish_w (geometry_of s) raised (all_boxed w))) (view_all w)
      ∙ same (finish_w (geometry_of (view w)) raised (all_boxed w))
      ∙ finish_boxed (geometry_of (view w)) raised (laws (preserve_collinear (view w))) w long sound
      ∙ sym (same (finish_w (geometry_of (view w)) raised w))
    where
      same : (r : RingsEnd) → then_boxed r ≡ end_by all_boxed r
      same (rings_done u) = refl
      same (rings_full u) = refl

module _ (w w₁ t : List ℕ) (a : Result ⊤ RingsFull) (o : Start (all_boxed w)) (e : end_is a w₁ ≡ finish_w (geometry_of (view w)) raised w) where
  stepped_as : after_steps (then_boxed (end_is a w₁)) t ≡ after_steps (finish_rings (all_boxed w)) t
  stepped_as = ap (λ (r : RingsEnd). after_steps (then_boxed r) t) e ∙ ap (λ (r : RingsEnd). after_steps r t) (sym (finish_is w o))

  done_words : (y : ⊤) → a ≡ Ok y → SoundWords w₁
  done_words y h = ready_by w w₁ (F₀ (all_boxed w) o) (rep w o) (sym e ∙ ap (λ (b : Result ⊤ RingsFull). end_is b w₁) h)

  pub may_box : (y : ⊤) → a ≡ Ok y → BLOCK ≤ length w₁
  may_box y h = (done_words y h).long

  pub few_box : (y : ⊤) → a ≡ Ok y → records_of w₁ ≤ limit.RECORDS
  few_box y h = (done_words y h).sound.few_records

  pub may_write : (y : ⊤) (w₂ : List ℕ) → a ≡ Ok y → w₂ ≡ all_boxed w₁ → SoundWords w₂
  may_write y w₂ h f = subst SoundWords (sym f) (boxed_ready w₁ (done_words y h))

  pub rings_done_lem : (y : ⊤) (w₂ : List ℕ) (b : Result Written Refusal) (w' t' : List ℕ) → a ≡ Ok y → w₂ ≡ all_boxed w₁ → finished b w' t' ≡ after_writing w₂ (build_paths64 (view w₂) t).answer (build_paths64 (view w₂) t).tray
      → finished b w' t' ≡ after_steps (finish_rings (all_boxed w)) t
  rings_done_lem y w₂ b w' t' h f g =
      g ∙ ap (λ (u : List ℕ). after_writing u (build_paths64 (view u) t).answer (build_paths64 (view u) t).tray) f
      ∙ sym (ap (λ (c : Result ⊤ RingsFull). after_steps (then_boxed (end_is c w₁)) t) h) ∙ stepped_as

  pub rings_full_lem : (y : RingsFull) (x : Refusal) (b : Result Written Refusal) (w' t' : List ℕ) → a ≡ Err y → x ≡ refusal.Full → finished b w' t' ≡ refused x (length w₁) (length t) → finished b w' t' ≡ after_steps (finish_rings (all_boxed w)) t
  rings_full_lem y x b w' t' h k g =
      g ∙ ap (λ (z : Refusal). refused z (length w₁) (length t)) k ∙ ap (λ (n : ℕ). refused refusal.Full n (length t)) (sym (length_all w₁))
      ∙ sym (ap (λ (c : Result ⊤ RingsFull). after_steps (then_boxed (end_is c w₁)) t) h) ∙ stepped_as

-- ---- a job is opened

pub opening_left : (bytes lent w : List ℕ) → open_of bytes lent ≡ end (Ok tt) w → Start w
opening_left bytes lent w e = let a = after_opening_lem w bytes lent e in record { long = open_long bytes lent w e; sound = a.sound; boxed = λ i l. set_boxed w i (a.boxes i l); apart = open_apart bytes lent w e; fresh = a.fresh }

module _ (bytes lent w₁ t : List ℕ) (o : Result (Unit {0}) Refusal) (e : boxed_end (end o w₁) ≡ open_of bytes lent) where
  pub may_finish : o ≡ Ok tt → Start (all_boxed w₁)
  may_finish h = opening_left bytes lent (all_boxed w₁) (sym e ∙ ap (λ (a : Result (Unit {0}) Refusal). boxed_end (end a w₁)) h)

  opened_as : after_opening (boxed_end (end o w₁)) t ≡ finish_of bytes lent t
  unfolding finish_of
  opened_as = ap (λ (z : End). after_opening z t) e

  pub job_accepted : (b : Result Written Refusal) (w' t' : List ℕ) → o ≡ (Ok tt) → finished b w' t' ≡ after_steps (finish_rings (all_boxed w₁)) t → finished b w' t' ≡ finish_of bytes lent t
  job_accepted b w' t' h g = g ∙ sym (ap (λ (a : Result (Unit {0}) Refusal). after_opening (boxed_end (end a w₁)) t) h) ∙ opened_as

  pub job_refused : (x : Refusal) (b : Result Written Refusal) (w' t' : List ℕ) → o ≡ Err x → finished b w' t' ≡ refused x (length w₁) (length t) → finished b w' t' ≡ finish_of bytes lent t
  job_refused x b w' t' h g = g ∙ sym (ap (λ (a : Result (Unit {0}) Refusal). after_opening (boxed_end (end a w₁)) t) h) ∙ opened_as
