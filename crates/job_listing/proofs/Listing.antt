-- What finishing in one call answers can be listed, and the listing is the job's.
use Prim.Native.Nat.{ℕ, ◌≤◌, ◌<◌}
use mathlib.Core.Path.{◌≡◌, refl, sym, ap, ◌∙◌, subst}
use mathlib.Core.Bool.{Bool, cond}
use mathlib.Core.List.{List}
use native.Mathlib.Omega.{arith}
use lib.ListN.{length, replicate, length-replicate}
use borrow.Author.Tests.{lt-ltb, le-ltb}
use Rattle.std.proofs.Common.{Ok, Err}
use Rattle.job.specs.Refusal.{number_of}
use Rattle.job.specs.declared.refusal.Refusal.{Refusal}
use Rattle.job.specs.declared.refusal.Refusal.TheVariants.{Full, BadRate}
use Rattle.rates.specs.declared.Rate.{Rate}
use Rattle.rates.specs.declared.Rate.TheVariants.{NoRate, Cents, Bad}
use Rattle.rates.specs.Rate.{LARGEST, asked}
use Rattle.rates.proofs.Digits.{asked_twice, cents_low}
use Rattle.store.specs.Field.{BLOCK, LENGTH}
use Rattle.store.specs.Words.{view}
use Rattle.store.specs.Value.{reverse_solution}
use Rattle.acts.specs.Finish.{RingsEnd, rings_done, rings_full}
use Rattle.std.specs.Prelude.{Option, Result}
use Rattle.paths.specs.Wrote.{ok_paths}
use Rattle.paths.specs.declared.Written.{Written}
use Rattle.store.specs.Good.{SoundWords}
use Rattle.paths.specs.Wrote.{Wrote, wrote, build_paths64}
use Rattle.opening.specs.Open.{End, end, stages_of, settled, cleared, open_of}
use Rattle.finishing.specs.Start.{Start}
use Rattle.finishing.specs.Finish.{finish_rings}
use Rattle.finishing.specs.InOneCall.{Finished, finished, refused, after_writing, after_steps, after_opening, finish_of}
use Rattle.finishing.proofs.InOneCall.{done_ready, opening_left}
use Rattle.listing.specs.Told.{Told, told, tell}
use Rattle.listing.specs.Needs.{Listable, Summable}
use Rattle.listing.specs.Lines.{listing_of, refused_line}
use Rattle.listing.specs.Charge.{charged_of}
use Rattle.listing.proofs.Answers.{answer_listable, answer_summable}
use Rattle.job_listing.specs.Cutlist.{paths_at, listed_as, listed_job, listed_out, short_out, listed_by, list_job_of}

never : {A : Type 0} (c o : ℕ) (x : Refusal) (w t w' t' : List ℕ) → finished (ok_paths c o) w t ≡ finished (Err x) w' t' → A
never c o x w t w' t' e =
    let a : ok_paths c o ≡ Err x = ap (λ (f : Finished). f.answer) e in
    let z : ◌≡◌ {A = ℕ} 0 1 = cc in
    absurd (omega arith)

-- the words are ready to be written out, and the tray is what writing them out left
pub record From (c o : ℕ) (w' t' : List ℕ) : Type 0 where
  pub ready : SoundWords w'
  pub before : List ℕ
  pub is : wrote (ok_paths c o) t' ≡ build_paths64 (view w') before

module _ (c o : ℕ) (w' t' t : List ℕ) where
  after_writing_lem : (w : List ℕ) → SoundWords w → (b : Wrote) → build_paths64 (view w) t ≡ b → finished (ok_paths c o) w' t' ≡ after_writing w b.answer b.tray → From c o w' t'
  after_writing_lem w d b h e = go b.answer refl e
    where
      go : (r : Result Written Refusal) → b.answer ≡ r → finished (ok_paths c o) w' t' ≡ after_writing w r b.tray → From c o w' t'
      go (Ok ps) f g =
          let p : ok_paths c o ≡ Ok ps = ap (λ (z : Finished). z.answer) g in
          let q : t' ≡ b.tray = ap (λ (z : Finished). z.tray) g in
          let y : wrote (ok_paths c o) t' ≡ wrote b.answer b.tray = cc (p, q, f) in
          subst (λ (u : List ℕ). From c o u t') (sym (ap (λ (z : Finished). z.words) g)) (record { ready = d; before = t; is = y ∙ sym h })
      go (Err x) f g = never c o x _ _ _ _ g

  after_steps_lem : (w : List ℕ) → Start w → (r : RingsEnd) → finish_rings w ≡ r → finished (ok_paths c o) w' t' ≡ after_steps r t → From c o w' t'
  after_steps_lem w l (rings_done w₁) h e = after_writing_lem w₁ (done_ready w w₁ l h) (build_paths64 (view w₁) t) refl e
  after_steps_lem w l (rings_full w₁) h e = never c o _ _ _ _ _ e

  pub finish_from : (bytes lent : List ℕ) → finished (ok_paths c o) w' t' ≡ finish_of bytes lent t → From c o w' t'
  unfolding finish_of
  finish_from bytes lent e = go (open_of bytes lent) refl e
    where
      go : (r : End) → open_of bytes lent ≡ r → finished (ok_paths c o) w' t' ≡ after_opening r t → From c o w' t'
      go (end (Ok _) w) h g = after_steps_lem w (opening_left bytes lent w h) (finish_rings w) refl g
      go (end (Err x) w) h g = never c o x _ _ _ _ g

module _ (bytes lent t w' t' : List ℕ) (r : Result Written Refusal) (e : finished r w' t' ≡ finish_of bytes lent t) where
  module _ (p : Written) (h : r ≡ Ok p) where
    from : From p.closed p.«open» w' t'
    from = finish_from p.closed p.«open» w' t' t bytes lent (subst (λ (z : Result Written Refusal). finished z w' t' ≡ finish_of bytes lent t) h e)

    -- what finishing leaves in the tray can be listed, and charged; the words are long enough to tell the setting
    pub may_list : Listable p.closed p.«open» t'
    may_list = let f = from in answer_listable (view w') p.closed p.«open» f.before t' f.ready.sound f.is

    pub may_charge : Summable t' p.closed
    may_charge = let f = from in answer_summable (view w') p.closed p.«open» f.before t' f.ready.sound f.is

    pub may_ask : BLOCK ≤ length w'
    may_ask = from.ready.long

  module _ (rate : Rate) (out out' : List ℕ) (a : Option ℕ) where
    as_listed_lem : (text : List ℕ) → listed_as rate r w' t' ≡ text → told a out' ≡ tell text out → listed_job (told a out') w' t' ≡ listed_out rate (finish_of bytes lent t) out
    as_listed_lem text h g = ap (λ (x : Told). listed_job x w' t') (g ∙ ap (λ (s : List ℕ). tell s out) (sym h)) ∙ ap (λ (f : Finished). listed_out rate f out) e

    pub paths_listed : (p : Written) (rev : Bool) → r ≡ Ok p → rev ≡ reverse_solution (view w') → told a out' ≡ tell (paths_at rate rev p.closed p.«open» t') out → listed_job (told a out') w' t' ≡ listed_out rate (finish_of bytes lent t) out
    paths_listed p rev h i g = as_listed_lem (paths_at rate rev p.closed p.«open» t') (ap (λ (z : Result Written Refusal). listed_as rate z w' t') h ∙ ap (λ (b : Bool). paths_at rate b p.closed p.«open» t') (sym i)) g

    pub refusal_listed : (x : Refusal) → r ≡ Err x → told a out' ≡ tell (refused_line (number_of x)) out → listed_job (told a out') w' t' ≡ listed_out rate (finish_of bytes lent t) out
    refusal_listed x h g = as_listed_lem (refused_line (number_of x)) (ap (λ (z : Result Written Refusal). listed_as rate z w' t') h) g

-- the line of a refusal, by its number
pub line_is : (x : Refusal) (k : ℕ) (out out' : List ℕ) (a : Option ℕ) → k ≡ number_of x → told a out' ≡ tell (refused_line k) out → told a out' ≡ tell (refused_line (number_of x)) out
line_is x k out out' a e g = g ∙ ap (λ (m : ℕ). tell (refused_line m) out) e

-- ---- by the rate

module _ (rate : Rate) (rev : Bool) (c o : ℕ) (t out out' : List ℕ) (a : Option ℕ) where
  at_rate : (q : Rate) → rate ≡ q → told a out' ≡ tell (paths_at q rev c o t) out → told a out' ≡ tell (paths_at rate rev c o t) out
  at_rate q e g = g ∙ ap (λ (p : Rate). tell (paths_at p rev c o t) out) (sym e)

  pub none_told : rate ≡ NoRate → told a out' ≡ tell (listing_of rev c o t) out → told a out' ≡ tell (paths_at rate rev c o t) out
  none_told e g = at_rate NoRate e g

  pub cents_told : (n : ℕ) → rate ≡ Cents n → told a out' ≡ tell (charged_of rev n c o t) out → told a out' ≡ tell (paths_at rate rev c o t) out
  cents_told n e g = at_rate (Cents n) e g

  pub bad_told : rate ≡ Bad → told a out' ≡ tell (refused_line (number_of BadRate)) out → told a out' ≡ tell (paths_at rate rev c o t) out
  bad_told e g = at_rate Bad e g

module _ (rate q : Rate) (e : q ≡ asked rate) (bytes w t out out' w' t' : List ℕ) (a : Option ℕ) where
  pub by_none : q ≡ NoRate → listed_job (told a out') w' t' ≡ listed_out NoRate (finish_of bytes w t) out → listed_job (told a out') w' t' ≡ listed_by (asked rate) bytes w t out
  by_none h g = g ∙ ap (λ (p : Rate). listed_by p bytes w t out) (sym h ∙ e)

  pub by_cents : (n : ℕ) → q ≡ Cents n → listed_job (told a out') w' t' ≡ listed_out (Cents n) (finish_of bytes w t) out → listed_job (told a out') w' t' ≡ listed_by (asked rate) bytes w t out
  by_cents n h g = g ∙ ap (λ (p : Rate). listed_by p bytes w t out) (sym h ∙ e)

pub by_bad : (rate q : Rate) (bytes w t out out' : List ℕ) (a : Option ℕ) → q ≡ asked rate → q ≡ Bad → told a out' ≡ tell (refused_line (number_of BadRate)) out → listed_job (told a out') w t ≡ listed_by (asked rate) bytes w t out
by_bad rate q bytes w t out out' a e h g = ap (λ (x : Told). listed_job x w t) g ∙ ap (λ (p : Rate). listed_by p bytes w t out) (sym h ∙ e)

-- ---- by the length of the work space

-- finishing refuses one that is too short, whatever the job
pub short_full : (bytes w t : List ℕ) → length w < LENGTH → finish_of bytes w t ≡ refused Full (length w) (length t)
unfolding finish_of open_of
short_full bytes w t h =
    ap (λ (b : Bool). after_opening (cond b (end (Err Full) (replicate (length w) 0)) (settled (length w) (stages_of bytes (cleared w)))) t) (lt-ltb (length w) LENGTH h)
    ∙ ap (λ (n : ℕ). refused Full n (length t)) (length-replicate {A = ℕ} (length w) 0)

module _ (rate : Rate) (bytes w t out out' w' t' : List ℕ) (a : Option ℕ) where
  pub too_short : length w < LENGTH → listed_job (told a out') w' t' ≡ listed_out NoRate (finish_of bytes w t) out → listed_job (told a out') w' t' ≡ list_job_of rate bytes w t out
  unfolding list_job_of
  too_short h g =
      g ∙ ap (λ (f : Finished). listed_out NoRate f out) (short_full bytes w t h)
      ∙ sym (ap (λ (b : Bool). cond b (short_out w t out) (listed_by (asked rate) bytes w t out)) (lt-ltb (length w) LENGTH h))

  pub long_enough : LENGTH ≤ length w → listed_job (told a out') w' t' ≡ listed_by (asked rate) bytes w t out → listed_job (told a out') w' t' ≡ list_job_of rate bytes w t out
  unfolding list_job_of
  long_enough h g = g ∙ sym (ap (λ (b : Bool). cond b (short_out w t out) (listed_by (asked rate) bytes w t out)) (le-ltb (length w) LENGTH h))

pub cents_again : (rate q : Rate) (n : ℕ) → q ≡ asked rate → q ≡ Cents n → asked (Cents n) ≡ Cents n
cents_again rate q n e h = let f : asked rate ≡ Cents n = sym e ∙ h in ap asked (sym f) ∙ asked_twice rate ∙ f

pub given_low : (rate : Rate) (n : ℕ) → asked rate ≡ rate → rate ≡ Cents n → n ≤ LARGEST
given_low rate n e h = cents_low n (ap asked (sym h) ∙ e ∙ h)
