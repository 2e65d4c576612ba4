-- A job's listing has at most `TEXT` bytes: so a program that lends as many always has room for it.
use Prim.Native.Nat.{ℕ, ◌≤◌}
use mathlib.Core.Path.{◌≡◌, refl, sym, ap, subst}
use mathlib.Core.Bool.{Bool, true, false, cond}
use mathlib.Core.List.{List}
use native.Mathlib.Omega.{arith}
use lib.Dec.{ltb}
use lib.ListN.{length, take, drop, length-append, length-take, length-drop}
use borrow.Author.Tests.{le-leb}
use Rattle.std.proofs.Common.{Ok, Err}
use Rattle.job.specs.Refusal.{number_of}
use Rattle.job.specs.declared.refusal.Refusal.TheVariants.{Full, BadRate}
use Rattle.rates.specs.declared.Rate.{Rate}
use Rattle.rates.specs.declared.Rate.TheVariants.{NoRate, Cents, Bad}
use Rattle.rates.specs.Rate.{asked}
use Rattle.store.specs.Field.{LENGTH}
use Rattle.store.specs.Words.{view}
use Rattle.store.specs.Value.{reverse_solution}
use Rattle.store.specs.Good.{Sound}
use Rattle.acts.specs.Finish.{RingsEnd, rings_done, rings_full}
use Rattle.std.specs.Prelude.{Option, Result, Ok, Err}
use Rattle.job.specs.declared.refusal.Refusal.{Refusal}
use Rattle.paths.specs.Wrote.{ok_paths}
use Rattle.paths.specs.declared.Written.{Written}
use Rattle.paths.specs.Wrote.{wrote, build_paths64}
use Rattle.opening.specs.Open.{End, end, open_of}
use Rattle.finishing.specs.Start.{Start}
use Rattle.finishing.specs.Finish.{finish_rings}
use Rattle.finishing.specs.InOneCall.{after_writing, after_steps, after_opening, finish_of}
use Rattle.finishing.proofs.InOneCall.{done_ready, opening_left}
use Rattle.listing.specs.Lines.{refused_line}
use Rattle.listing.specs.Room.{TEXT}
use Rattle.listing.specs.Told.{Told, told, tell}
use Rattle.listing.specs.Needs.{Whole}
use Rattle.listing.proofs.Answers.{written_out}
use Rattle.listing.proofs.Room.{listing_le, charged_le, refusal_le}
use Rattle.job_listing.specs.Cutlist.{paths_at, listed_from, cutlist_of, ListedJob, listed_job, short_out, listed_by, list_job_of}

module _ (rate : Rate) (t : List ℕ) where
  at_rate : (q : Rate) (rev : Bool) (c o : ℕ) (w u : List ℕ) → Sound (view w) → wrote (ok_paths c o) u ≡ build_paths64 (view w) t → length (paths_at q rev c o u) ≤ TEXT
  at_rate NoRate rev c o w u s e = let p = written_out (view w) c o t u e in rw (p.closed, p.opened, p.tray) (listing_le (view w) rev s (length t))
  at_rate (Cents n) rev c o w u s e = let p = written_out (view w) c o t u e in rw (p.closed, p.opened, p.tray) (charged_le (view w) rev s (length t) n)
  at_rate Bad rev c o w u s e = refusal_le (number_of BadRate)

  after_writing_lem : (w : List ℕ) → Sound (view w) → (r : Result Written Refusal) (u : List ℕ) → wrote r u ≡ build_paths64 (view w) t → length (listed_from rate (after_writing w r u)) ≤ TEXT
  after_writing_lem w s (Ok p) u e = at_rate rate (reverse_solution (view w)) p.closed p.«open» w u s e
  after_writing_lem w s (Err x) u e = refusal_le (number_of x)

  after_steps_lem : (w : List ℕ) → Start w → (r : RingsEnd) → finish_rings w ≡ r → length (listed_from rate (after_steps r t)) ≤ TEXT
  after_steps_lem w l (rings_done w₁) e = after_writing_lem w₁ (done_ready w w₁ l e).sound (build_paths64 (view w₁) t).answer (build_paths64 (view w₁) t).tray refl
  after_steps_lem w l (rings_full w₁) e = refusal_le 10

  pub cutlist_fits : (bytes lent : List ℕ) → length (cutlist_of rate bytes lent t) ≤ TEXT
  unfolding cutlist_of finish_of
  cutlist_fits bytes lent = go (open_of bytes lent) refl
    where
      go : (r : End) → open_of bytes lent ≡ r → length (listed_from rate (after_opening r t)) ≤ TEXT
      go (end (Ok tt) w) h = after_steps_lem w (opening_left bytes lent w h) (finish_rings w) refl
      go (end (Err x) w) h = refusal_le (number_of x)

-- the text that is told in a slice of so many bytes is told whole
tell_whole : (text out : List ℕ) → length text ≤ length out → Whole (tell text out).answer (length (tell text out).out)
unfolding tell
tell_whole text out h =
    rw (le-leb (length text) (length out) h)
    (omega (arith, length-append (take (length out) text) (drop (length text) out), length-take (length out) text, length-drop (length text) out))

by_whole : (q : Rate) (bytes w t out : List ℕ) → TEXT ≤ length out → Whole (listed_by q bytes w t out).text.answer (length (listed_by q bytes w t out).text.out)
unfolding cutlist_of
by_whole NoRate bytes w t out h = tell_whole (listed_from NoRate (finish_of bytes w t)) out (omega (arith, h, cutlist_fits NoRate t bytes w))
by_whole (Cents n) bytes w t out h = tell_whole (listed_from (Cents n) (finish_of bytes w t)) out (omega (arith, h, cutlist_fits (Cents n) t bytes w))
by_whole Bad bytes w t out h = tell_whole (refused_line (number_of BadRate)) out (omega (arith, h, refusal_le (number_of BadRate)))

-- so `list_job` never answers that there is no room
job_whole : (rate : Rate) (bytes w t out : List ℕ) → TEXT ≤ length out → Whole (list_job_of rate bytes w t out).text.answer (length (list_job_of rate bytes w t out).text.out)
unfolding list_job_of
job_whole rate bytes w t out h = go (ltb (length w) LENGTH)
  where
    go : (b : Bool) → Whole (cond b (short_out w t out) (listed_by (asked rate) bytes w t out)).text.answer (length (cond b (short_out w t out) (listed_by (asked rate) bytes w t out)).text.out)
    go true = tell_whole (refused_line (number_of Full)) out (omega (arith, h, refusal_le (number_of Full)))
    go false = by_whole (asked rate) bytes w t out h

pub listed_whole : (rate : Rate) (bytes w t w' t' out out' : List ℕ) (a : Option ℕ) → TEXT ≤ length out → listed_job (told a out') w' t' ≡ list_job_of rate bytes w t out → Whole a (length out')
listed_whole rate bytes w t w' t' out out' a h e =
    subst (λ (x : Told). Whole x.answer (length x.out)) (sym (ap (λ (x : ListedJob). x.text) e)) (job_whole rate bytes w t out h)
