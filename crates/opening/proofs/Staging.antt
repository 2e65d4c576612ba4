-- The stages put together: each law's premises are what the calls ensure, and how their answers came out.
use Prim.Native.Nat.{ℕ, ◌*◌, ◌≤◌, ◌<◌}
use mathlib.Core.Path.{◌≡◌, refl, ap, ◌∙◌, sym, subst}
use mathlib.Core.Bool.{true, false}
use mathlib.Core.List.{List, ◌++◌}
use native.Mathlib.Omega.{arith}
use lib.ListN.{length, drop, replicate, length-replicate, replicate-append-replicate, get_or-append}
use borrow.Author.Tests.{lt-ltb, le-ltb}
use Rattle.std.specs.Prelude.{Option, Some, None, Result, Ok, Err, is_err, ok_or}
use Rattle.job.specs.Limits as limit
use Rattle.job.specs.declared.Job.{Job}
use Rattle.job.specs.declared.refusal.Refusal.{Refusal}
use Rattle.job.specs.declared.refusal.Refusal.TheVariants as refusal
use Rattle.store.specs.Field.{LENGTH}
use Rattle.store.specs.Named.{points_of, records_of}
use Rattle.joins.specs.declared.JoinError.{JoinError}
use Rattle.reading.specs.Fill as fill
use Rattle.accepting.specs.Accept.{accept_of}
use Rattle.converting.specs.Make.{made, convert_horz_segs_to_joins}
use Rattle.converting.specs.Needs.{Converting}
use Rattle.converting.proofs.Valid.{one_alone}
use Rattle.joins.specs.Error.{row_of}
use Rattle.joins.specs.Join as join
use Rattle.joins.specs.Join.{process_horz_joins}
use Rattle.joins.specs.Needs.{Joins}
use Rattle.opening.specs.Start.{start_to, start_rings}
use Rattle.opening.specs.Open.{JOIN_POINTS, End, end, after_joins, after_segments, stages_of, settled, cleared, open_of}
use Rattle.opening.specs.Unboxed.{boxed_end}
use Rattle.opening.proofs.Clearing.{cleared_long}
use Rattle.opening.proofs.Growing.{grow, accept_grown, joins_grown, laid_is}

module _ (k : ℕ) (js w x : List ℕ) (t : Result (Unit {0}) JoinError) (e : join.end t x ≡ process_horz_joins k js w) where
  pub joins_done : (y : List ℕ) → t ≡ Ok tt → y ≡ start_to (records_of x) x → boxed_end (end (Ok tt) y) ≡ after_joins (process_horz_joins k js w)
  unfolding start_rings
  joins_done y f d = rw (d, ← e, f)

  pub joins_refused : (r : JoinError) → t ≡ Err r → end (Err (row_of r)) x ≡ after_joins (process_horz_joins k js w)
  joins_refused r f = rw (← e, f)

-- how many joins there are, or that there was no room
pub some_joins : (c : Option ℕ) (r : Result ℕ Refusal) (k : ℕ) → r ≡ ok_or c refusal.Full → r ≡ Ok k → c ≡ Some k
some_joins (Some i) r k e f = let z : ◌≡◌ {A = Result ℕ Refusal} (Ok i) (Ok k) = sym e ∙ f in let y : i ≡ k = cc in ap (λ (x : ℕ). Some x) y
some_joins None r k e f = let z : ◌≡◌ {A = Result ℕ Refusal} (Err refusal.Full) (Ok k) = sym e ∙ f in absurd (let y : ◌≡◌ {A = ℕ} 0 1 = cc in omega arith)

pub no_joins : (c : Option ℕ) (r : Result ℕ Refusal) (x : Refusal) → r ≡ ok_or c refusal.Full → r ≡ Err x → (c ≡ None) × (x ≡ refusal.Full)
no_joins (Some i) r x e f = let z : ◌≡◌ {A = Result ℕ Refusal} (Ok i) (Err x) = sym e ∙ f in absurd (let y : ◌≡◌ {A = ℕ} 0 1 = cc in omega arith)
no_joins None r x e f = let z : ◌≡◌ {A = Result ℕ Refusal} (Err refusal.Full) (Err x) = sym e ∙ f in let y : x ≡ refusal.Full = cc in (refl, y)

module _ (w ss : List ℕ) (m : ℕ) (js : List ℕ) (n : ℕ) (c : Option ℕ) (x ks : List ℕ) (e : made c x ks ≡ convert_horz_segs_to_joins w m ss js n) where
  pub segments_done : (k : ℕ) (T : End) → c ≡ Some k → T ≡ after_joins (process_horz_joins k ks x) → T ≡ after_segments (convert_horz_segs_to_joins w m ss js n)
  segments_done k T f d = d ∙ rw (← e, f)

  pub segments_full : c ≡ None → end (Err refusal.Full) x ≡ after_segments (convert_horz_segs_to_joins w m ss js n)
  segments_full f = rw (← e, f)

-- ---- the job's own joins, and places for more
module _ (w ss : List ℕ) (m : ℕ) (js : List ℕ) (n : ℕ) (C : Converting w ss m (js ++ replicate limit.POINTS 0) n) (l : length js ≡ 2 * limit.JOINS) where
  pub own_joins : Joins w n js
  own_joins =
      record {
        ready = C.listed.ready;
        fits = omega (arith, C.few);
        points = λ i h. subst (λ (p : ℕ). p < points_of w) (get_or-append js (replicate limit.POINTS 0) 0 i (omega (arith, C.few))) (C.named i h);
      }

  pub few_segments : (T : End) → m < 2 → T ≡ after_joins (process_horz_joins n js w) → T ≡ after_segments (convert_horz_segs_to_joins w m ss (js ++ replicate limit.POINTS 0) n)
  few_segments T h d = d ∙ ap after_joins (sym (joins_grown (replicate limit.POINTS 0) n js w (omega (arith, C.few)))) ∙ ap after_segments (one_alone w m ss (js ++ replicate limit.POINTS 0) n h)

  module _ (ks : List ℕ) (e : ks ≡ js ++ drop (length js) (replicate JOIN_POINTS 0)) where
    pub laid_converting : Converting w ss m ks n
    laid_converting = subst (λ (x : List ℕ). Converting w ss m x n) (sym (laid_is js ks l e)) C

    pub laid_segments : (T : End) → T ≡ after_segments (convert_horz_segs_to_joins w m ss ks n) → T ≡ after_segments (convert_horz_segs_to_joins w m ss (js ++ replicate limit.POINTS 0) n)
    laid_segments T d = d ∙ ap (λ (x : List ℕ). after_segments (convert_horz_segs_to_joins w m ss x n)) (laid_is js ks l e)

-- ---- rows 1 to 8, whose joins list is as long as the job may need
module _ (bytes w v ts ks : List ℕ) (o : Result Job Refusal) (e : fill.end o v ts ks ≡ accept_of bytes w (replicate limit.SEGMENTS 0) (replicate (2 * limit.JOINS) 0)) where
  pub with_places : fill.end o v ts (ks ++ replicate limit.POINTS 0) ≡ accept_of bytes w (replicate limit.SEGMENTS 0) (replicate JOIN_POINTS 0)
  with_places =
      ap (grow (replicate limit.POINTS 0)) e
      ∙ sym (accept_grown (replicate limit.POINTS 0) bytes w (replicate limit.SEGMENTS 0) (replicate (2 * limit.JOINS) 0) (omega (arith, length-replicate {A = ℕ} (2 * limit.JOINS) 0)))
      ∙ ap (accept_of bytes w (replicate limit.SEGMENTS 0)) (replicate-append-replicate (2 * limit.JOINS) limit.POINTS 0)

  pub rows_passed : (j : Job) (T : End) → o ≡ Ok j → T ≡ after_segments (convert_horz_segs_to_joins v j.segments ts (ks ++ replicate limit.POINTS 0) j.joins) → T ≡ stages_of bytes w
  unfolding stages_of
  rows_passed j T f d = d ∙ rw (← with_places, f)

  pub rows_refused : (x : Refusal) → o ≡ Err x → end (Err x) v ≡ stages_of bytes w
  unfolding stages_of
  rows_refused x f = rw (← with_places, f)

module _ (a : Result (Unit {0}) Refusal) (w : List ℕ) where
  pub settle_accepted : is_err a ≡ false → end a w ≡ settled (length w) (end a w)
  settle_accepted e = go a e
    where
      go : (a : Result (Unit {0}) Refusal) → is_err a ≡ false → end a w ≡ settled (length w) (end a w)
      go (Ok u) e = refl
      go (Err x) e = absurd (let y : ◌≡◌ {A = ℕ} 0 1 = cc in omega arith)

  pub settle_refused : (y : List ℕ) → is_err a ≡ true → y ≡ replicate (length w) 0 → end a y ≡ settled (length w) (end a w)
  settle_refused y e f = go a e
    where
      go : (a : Result (Unit {0}) Refusal) → is_err a ≡ true → end a y ≡ settled (length w) (end a w)
      go (Ok u) e = absurd (let y : ◌≡◌ {A = ℕ} 0 1 = cc in omega arith)
      go (Err x) e = rw f

-- zeros on a refusal, and boxes on none, in either order
boxed_settled : (n : ℕ) (T : End) → boxed_end (settled n T) ≡ settled n (boxed_end T)
boxed_settled n (end (Ok tt) w) = refl
boxed_settled n (end (Err r) w) = refl

module _ (bytes w : List ℕ) where
  pub too_short : (w' : List ℕ) → length w < LENGTH → w' ≡ replicate (length w) 0 → end (Err refusal.Full) w' ≡ open_of bytes w
  unfolding open_of
  too_short w' h e = rw (lt-ltb (length w) LENGTH h, e)

  -- v: the words that were cleared; x: as the stages leave them
  pub opened : (v x y : List ℕ) (a r : Result (Unit {0}) Refusal) → LENGTH ≤ length w → v ≡ cleared w → length x ≡ length v → boxed_end (end a x) ≡ stages_of bytes v → end r y ≡ settled (length x) (end a x) → boxed_end (end r y) ≡ open_of bytes w
  unfolding open_of
  opened v x y a r h e k f d =
      let l : length x ≡ length w = k ∙ ap length e ∙ cleared_long w (omega arith) in
      rw (le-ltb (length w) LENGTH h, ← l, ← e, ← f) (ap boxed_end d ∙ boxed_settled (length x) (end a x))
