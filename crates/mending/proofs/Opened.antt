-- A mended job opens without meeting row 6, in a work space of any length.
use mathlib.Core.Path.{◌≡◌, refl, subst}
use mathlib.Core.Logic.{◌≢◌}
use mathlib.Core.Bool.{Bool, true, false, cond, false≢true}
use mathlib.Core.List.{List}
use Prim.Native.Nat.{ℕ}
use native.Mathlib.Omega.{arith}
use lib.Dec.{ltb}
use lib.ListN.{length, replicate, length-replicate}
use Rattle.std.specs.Prelude.{Ok}
use Rattle.std.proofs.Common.{Some, None, Err}
use Rattle.job.specs.Limits as limit
use Rattle.job.specs.Refusal.{number_of}
use Rattle.job.specs.declared.refusal.Refusal.{Refusal}
use Rattle.job.specs.declared.refusal.Refusal.TheVariants.{Loose, Knot, Full}
use Rattle.store.specs.Field.{LENGTH}
use Rattle.joins.specs.declared.JoinError.TheVariants as join_error
use Rattle.reading.specs.Fill as fill
use Rattle.reading.specs.Needs.{Space}
use Rattle.accepting.specs.Accept.{accept_of}
use Rattle.converting.specs.Make.{Made, made}
use Rattle.converting.specs.Make.{convert_horz_segs_to_joins}
use Rattle.joins.specs.Join as join
use Rattle.joins.specs.Join.{process_horz_joins}
use Rattle.opening.specs.Open.{End, end, after_joins, after_segments, after_rows, JOIN_POINTS, stages_of, settled, cleared, open_of}
use Rattle.opening.proofs.Clearing.{cleared_live}
use Rattle.mending.specs.Mend.{mend_of}
use Rattle.mending.specs.Mends.{outcome_of, passes_rows}
use Rattle.mending.proofs.Exactly.{done_well}

-- not refused with 6
abbrev Tight : End → Type 0
Tight (end a w) = a ≢ Err Loose

tight_joins : (T : join.JoinEnd) → Tight (after_joins T)
tight_joins (join.end (Ok tt) w) = λ e. let z : ◌≡◌ {A = ℕ} 0 1 = cc in omega arith
tight_joins (join.end (Err join_error.Knot) w) = λ e. let z : ◌≡◌ {A = ℕ} 0 1 = cc in omega arith
tight_joins (join.end (Err join_error.Full) w) = λ e. let z : ◌≡◌ {A = ℕ} 0 1 = cc in omega arith

tight_segments : (T : Made) → Tight (after_segments T)
tight_segments (made (Some k) w js) = tight_joins (process_horz_joins k js w)
tight_segments (made None w js) = λ e. let z : ◌≡◌ {A = ℕ} 0 1 = cc in omega arith

tight_rows : (T : fill.ReadEnd) → passes_rows 6 (outcome_of T) ≡ true → Tight (after_rows T)
tight_rows (fill.end (Ok j) w ss js) h = tight_segments (convert_horz_segs_to_joins w j.segments ss js j.joins)
tight_rows (fill.end (Err r) w ss js) h = λ e. let z : r ≡ Loose = cc in false≢true (subst (λ (x : Refusal). ltb 6 (number_of x) ≡ true) z h)

tight_settled : (n : ℕ) (T : End) → Tight T → Tight (settled n T)
tight_settled n (end (Ok tt) w) h = h
tight_settled n (end (Err r) w) h = h

tight_end : (T : End) (w : List ℕ) → Tight T → T ≢ end (Err Loose) w
tight_end (end a u) w h e = h cc

module _ (bytes : List ℕ) (e : (mend_of bytes).answer ≡ Ok tt) where
  abbrev out : List ℕ
  out = (mend_of bytes).bytes

  pub opens_tight : (lent words : List ℕ) → open_of out lent ≢ end (Err Loose) words
  unfolding open_of stages_of
  opens_tight lent words = go (ltb (length lent) LENGTH) refl
    where
      go : (t : Bool) → ltb (length lent) LENGTH ≡ t → cond t (end (Err Full) (replicate (length lent) 0)) (settled (length lent) (stages_of out (cleared lent))) ≢ end (Err Loose) words
      go true h = λ d. let z : ◌≡◌ {A = ℕ} 0 1 = cc in omega arith
      go false h =
          let s : Space (cleared lent) (replicate limit.SEGMENTS 0) (replicate JOIN_POINTS 0) =
          record {
            words = cleared_live lent h;
            segments = omega (arith, length-replicate {A = ℕ} limit.SEGMENTS 0);
            joins = omega (arith, length-replicate {A = ℕ} JOIN_POINTS 0);
          }
          in
          tight_end (settled (length lent) (stages_of out (cleared lent))) words
          (tight_settled (length lent) (stages_of out (cleared lent))
          (tight_rows (accept_of out (cleared lent) (replicate limit.SEGMENTS 0) (replicate JOIN_POINTS 0)) ((done_well bytes e).never_6 (cleared lent) (replicate limit.SEGMENTS 0) (replicate JOIN_POINTS 0) s)))
