-- A job and its written form list alike: they finish alike, and the settings that a listing goes by are the drawing's.
use Prim.Native.Nat.{ℕ, ◌/◌, ◌%◌}
use mathlib.Core.Path.{◌≡◌, refl, ap, ◌∙◌, sym}
use mathlib.Core.List.{List}
use mathlib.Core.Option.{some}
use native.Mathlib.Omega.{arith}
use lib.Dec.{eqb}
use lib.ListN.{replicate, length-replicate}
use Rattle.std.proofs.Common.{Ok, Err}
use Rattle.job.specs.Limits as limit
use Rattle.rates.specs.declared.Rate.{Rate}
use Rattle.store.specs.Field.{BLOCK}
use Rattle.reading.specs.Fill.{ReadEnd, end}
use Rattle.accepting.specs.Accept.{accept_of}
use Rattle.opening.specs.Open.{JOIN_POINTS}
use Rattle.std.specs.Prelude.{Result}
use Rattle.job.specs.declared.refusal.Refusal.{Refusal}
use Rattle.paths.specs.declared.Written.{Written}
use Rattle.finishing.specs.InOneCall.{finish_of}
use Rattle.job_listing.specs.Cutlist.{paths_at, listed_as, cutlist_of}
use Rattle.job_listing.specs.Setting.{settings_in}
use Rattle.job_listing.proofs.Taking.{settings_accepted}
use Rattle.job_listing.proofs.Settings.{jobs_setting}
use Rattle.drawing.specs.Drawing.{Drawing, drawing_of, drawn_from, drawing_in}
use Rattle.drawing.specs.Same.{SameFinish}

settings_drawn : (bytes : List ℕ) (d : Drawing) → drawing_in bytes ≡ some d → d.settings ≡ settings_in bytes
unfolding drawing_in drawing_of
settings_drawn bytes d e = go (accept_of bytes (replicate BLOCK 0) (replicate limit.SEGMENTS 0) (replicate JOIN_POINTS 0)) refl e
  where
    go : (T : ReadEnd) → accept_of bytes (replicate BLOCK 0) (replicate limit.SEGMENTS 0) (replicate JOIN_POINTS 0) ≡ T → drawn_from T ≡ some d → d.settings ≡ settings_in bytes
    go (end (Ok j) v ts ks) f g =
        let q : drawing_of v ts j.segments ks j.joins ≡ d = cc in
        ap (λ (c : Drawing). c.settings) (sym q)
        ∙ settings_accepted bytes (replicate BLOCK 0) (replicate limit.SEGMENTS 0) (replicate JOIN_POINTS 0) j v ts ks (omega (arith, length-replicate {A = ℕ} BLOCK 0)) f
    go (end (Err x) v ts ks) f g = absurd (let z : ◌≡◌ {A = ℕ} 0 1 = cc in omega arith)

-- two jobs of one drawing that finish alike
module _ (a b : List ℕ) (d : Drawing) (p : drawing_in a ≡ some d) (q : drawing_in b ≡ some d) (lent t : List ℕ) (s : SameFinish (finish_of a lent t) (finish_of b lent t)) (rate : Rate) where
  same_settings : settings_in b ≡ settings_in a
  same_settings = sym (settings_drawn b d q) ∙ settings_drawn a d p

  pub same_listing : cutlist_of rate b lent t ≡ cutlist_of rate a lent t
  unfolding cutlist_of
  same_listing = go (finish_of a lent t).answer refl
    where
      go : (r : Result Written Refusal) → (finish_of a lent t).answer ≡ r → cutlist_of rate b lent t ≡ cutlist_of rate a lent t
      go (Ok p) e =
          (jobs_setting b lent).listed rate t p.closed p.«open» (s.answer ∙ e)
          ∙ ap (λ (n : ℕ). paths_at rate (eqb (n / 2 % 2) 1) p.closed p.«open» (finish_of b lent t).tray) same_settings
          ∙ ap (paths_at rate (eqb (settings_in a / 2 % 2) 1) p.closed p.«open») s.tray
          ∙ sym ((jobs_setting a lent).listed rate t p.closed p.«open» e)
      go (Err x) e =
          ap (λ (r : Result Written Refusal). listed_as rate r (finish_of b lent t).words (finish_of b lent t).tray) (s.answer ∙ e)
          ∙ sym (ap (λ (r : Result Written Refusal). listed_as rate r (finish_of a lent t).words (finish_of a lent t).tray) e)
