-- Two jobs as opened, with the same settings and room for both, are laid together; so the theorem holds of them.
use Prim.Native.Nat.{ℕ, ◌+◌, ◌≤◌, ◌<◌}
use mathlib.Core.Path.{◌≡◌, refl, ap, ◌∙◌, sym, subst}
use mathlib.Core.Logic.{inl, inr}
use mathlib.Core.Bool.{Bool, true, false, cond, not, ◌||◌}
use mathlib.Core.List.{List}
use native.Mathlib.Omega.{arith}
use lib.Dec.{eqb, ltb}
use lib.ListN.{length}
use borrow.Author.Tests.{eq-eqb, le-ltb}
use Rattle.std.specs.Prelude.{Ok}
use Rattle.job.specs.Limits as limit
use Rattle.store.specs.Field.{rc, FIRST, PRESENT, CUT, REASON, NONE, LENGTH}
use Rattle.store.specs.Words.{view}
use Rattle.store.specs.Sound.{pts, recs, ringless, is_open}
use Rattle.store.specs.Reason.{JOINED}
use Rattle.audit.proofs.Saying.{all_none}
use Rattle.handed.specs.Handed.{tested_of}
use Rattle.handed.proofs.Handing.{usable_handed, says_tested}
use Rattle.joins.specs.Resolved.{Emptied}
use Rattle.opening.specs.Open.{end, open_of}
use Rattle.opening.specs.After.{AfterOpening}
use Rattle.opening.proofs.Accepted.{after_opening_lem}
use Rattle.finishing.specs.Start.{Start}
use Rattle.finishing.proofs.Starting.{start_usable}
use Rattle.finishing.proofs.InOneCall.{opening_left}
use Rattle.audit.specs.Left.{Left, left}
use Rattle.pooling.specs.Words.{pooled_words}
use Rattle.laying.specs.Lay.{settings_byte, is_at_start, is_discarded, is_stepped, any_stepped, lay_of}
use Rattle.laid.specs.Two.{OfTwo}
use Rattle.pooling.proofs.Pooling.{BothFit}
use Rattle.laying.proofs.Deciding.{lay_is}
use Rattle.laid.proofs.Two.{two_drawings}

-- no record of a job as opened was stepped
module _ (w : List ℕ) (a : AfterOpening w) where
  fresh_record : (i : ℕ) → i < recs (view w) → is_stepped (view w) i ≡ false
  unfolding is_stepped
  fresh_record i l = rw (eq-eqb (view w (rc CUT) i) NONE (a.fresh i l).cut_is) (go (ringless (view w) i) (is_open (view w) i) refl)
    where
      stands_at_start : is_at_start (view w) i ≡ true
      stands_at_start = rw (a.marks i l, eq-eqb (view w (rc PRESENT) i) (view w (rc FIRST) i) (a.present i l))

      -- it has no ring since the job has none for it, or since a join took it
      bare : Emptied (view w) i → is_discarded (view w) i ≡ false
      bare (inl x) = le-ltb JOINED (view w (rc REASON) i) (omega (arith, x))
      bare (inr x) = le-ltb JOINED (view w (rc REASON) i) (omega (arith, x.0))

      go : (b c : Bool) → ringless (view w) i ≡ b → cond b (is_discarded (view w) i) (cond c false (not (is_at_start (view w) i))) ≡ false
      go true c e = bare (a.ready.resolved.emptied i l e)
      go false true e = refl
      go false false e = ap not stands_at_start

  none_stepped : any_stepped (view w) ≡ false
  unfolding any_stepped
  none_stepped = all_none (recs (view w)) (is_stepped (view w)) fresh_record

passes : (w : List ℕ) → Start w → tested_of w ≡ Ok tt
passes w o = says_tested w (tested_of w) o.long refl ∙ usable_handed w (start_usable w o)

module _ (bytes bytes' lent lent' w v : List ℕ) (e : open_of bytes lent ≡ end (Ok tt) w) (f : open_of bytes' lent' ≡ end (Ok tt) v) (s : settings_byte (view w) ≡ settings_byte (view v)) (fit : BothFit (view w) (view v)) where
  pub jobs_together : lay_of w v ≡ left (Ok tt) (pooled_words w v)
  jobs_together =
      let a : AfterOpening w = after_opening_lem w bytes lent e in
      let b : AfterOpening v = after_opening_lem v bytes' lent' f in
      let c : Start w = opening_left bytes lent w e in
      let d : Start v = opening_left bytes' lent' v f in
      lay_is w v ∙
      rw (
        le-ltb (length w) LENGTH c.long,
        le-ltb (length v) LENGTH d.long,
        passes w c,
        passes v d,
        eq-eqb (settings_byte (view w)) (settings_byte (view v)) s,
        none_stepped w a,
        none_stepped v b,
        le-ltb limit.POINTS (pts (view w) + pts (view v)) fit.fit_points,
        le-ltb limit.RECORDS (recs (view w) + recs (view v)) fit.fit_records,
      )

  -- two drawings on one table
  pub of_jobs : OfTwo w v (pooled_words w v)
  of_jobs = subst (OfTwo w v) (ap (λ (l : Left). l.words) jobs_together) ((two_drawings w v).together (ap (λ (l : Left). l.answer) jobs_together))
