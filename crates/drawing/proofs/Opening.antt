-- Opening two jobs that hold one drawing: refused alike, or accepted with the same forest.
use Prim.Native.Nat.{ℕ, ◌*◌, ◌≤◌}
use mathlib.Core.Path.{◌≡◌, refl, sym, subst}
use mathlib.Core.Bool.{Bool, true, false, cond}
use mathlib.Core.List.{List}
use native.Mathlib.Omega.{arith}
use lib.Dec.{ltb}
use lib.ListN.{length, replicate}
use borrow.Author.Tests.{ltb-false}
use Rattle.std.proofs.Common.{Some, None, Ok, Err}
use Rattle.job.specs.Limits as limit
use Rattle.job.specs.declared.Job.{Job}
use Rattle.job.specs.declared.refusal.Refusal.TheVariants as refusal
use Rattle.store.specs.Field.{BLOCK, LENGTH}
use Rattle.store.specs.Words.{view}
use Rattle.joins.specs.declared.JoinError.TheVariants.{Knot, Full}
use Rattle.reading.specs.Fill as fill
use Rattle.accepting.specs.Accept.{accept_of}
use Rattle.converting.specs.Make.{Made, made, convert_horz_segs_to_joins}
use Rattle.converting.specs.Needs.{Converting}
use Rattle.joins.specs.Join as join
use Rattle.joins.specs.Join.{process_horz_joins}
use Rattle.joins.specs.Needs.{Joins}
use Rattle.joins.specs.Resolved.{Ready}
use Rattle.joins.proofs.Turns.{words, joins_kept}
use Rattle.converting.proofs.Converting.{JoinsOf, convert_joins}
use Rattle.opening.specs.Start.{start_rings}
use Rattle.opening.specs.Open.{JOIN_POINTS, End, end, after_joins, after_segments, after_rows, stages_of, settled, cleared, open_of}
use Rattle.opening.proofs.Clearing.{cleared_live}
use Rattle.opening.proofs.Passing.{converting}
use Rattle.opening.proofs.Starting.{start_ready}
use Rattle.drawing.specs.Renumbered.{Renumbered, RenumberedList, RenumberedJob}
use Rattle.drawing.proofs.Joins.{SameJoinEnd, joins_alike}
use Rattle.drawing.proofs.Pairs.{SameMade, convert_alike}
use Rattle.drawing.proofs.Forests.{start_alike, SameForest, same_forest}

-- refused alike, or both accepted with the same forest
abbrev pub SameOpening : End → End → Type 0
SameOpening (end (Ok _) w) (end (Ok _) w') = SameForest w w'
SameOpening (end (Ok _) w) (end (Err y) w') = ⊥
SameOpening (end (Err x) w) (end (Ok _) w') = ⊥
SameOpening (end (Err x) w) (end (Err y) w') = y ≡ x

-- ---- after the joins

after_joins_lem : {ρ : ℕ → ℕ} (e e' : join.JoinEnd) → SameJoinEnd ρ e e' → Ready (words e) → Ready (words e') → SameOpening (after_joins e) (after_joins e')
after_joins_lem (join.end (Ok _) w) (join.end (Ok _) w') s o o' = same_forest (start_rings w) (start_rings w') (start_ready w o) (start_ready w' o') (start_alike w w' o o' s.words)
after_joins_lem (join.end (Ok _) w) (join.end (Err Knot) w') s o o' = let z : ◌≡◌ {A = ℕ} 0 1 = cc in absurd (omega arith)
after_joins_lem (join.end (Ok _) w) (join.end (Err Full) w') s o o' = let z : ◌≡◌ {A = ℕ} 0 1 = cc in absurd (omega arith)
after_joins_lem (join.end (Err Knot) w) (join.end (Ok _) w') s o o' = let z : ◌≡◌ {A = ℕ} 0 1 = cc in absurd (omega arith)
after_joins_lem (join.end (Err Knot) w) (join.end (Err Knot) w') s o o' = refl
after_joins_lem (join.end (Err Knot) w) (join.end (Err Full) w') s o o' = let z : ◌≡◌ {A = ℕ} 0 1 = cc in absurd (omega arith)
after_joins_lem (join.end (Err Full) w) (join.end (Ok _) w') s o o' = let z : ◌≡◌ {A = ℕ} 0 1 = cc in absurd (omega arith)
after_joins_lem (join.end (Err Full) w) (join.end (Err Knot) w') s o o' = let z : ◌≡◌ {A = ℕ} 0 1 = cc in absurd (omega arith)
after_joins_lem (join.end (Err Full) w) (join.end (Err Full) w') s o o' = refl

-- ---- after the segments

joined_alike : {ρ : ℕ → ℕ} (k : ℕ) (js js' w w' : List ℕ) → Renumbered ρ (view w) (view w') → RenumberedList ρ (2 * k) js js' → Joins w k js → Joins w' k js' → SameOpening (after_joins (process_horz_joins k js w)) (after_joins (process_horz_joins k js' w'))
joined_alike k js js' w w' a l g g' = after_joins_lem (process_horz_joins k js w) (process_horz_joins k js' w') (joins_alike k js js' w w' l g g' a) (joins_kept k js w g).ready (joins_kept k js' w' g').ready

module _ {ρ : ℕ → ℕ} (w ss : List ℕ) (m : ℕ) (js : List ℕ) (n : ℕ) (t : Converting w ss m js n) (w' ss' js' : List ℕ) (t' : Converting w' ss' m js' n) where
  after_segments_lem : (e e' : Made) → SameMade ρ e e' → JoinsOf w ss m js n t e → JoinsOf w' ss' m js' n t' e' → SameOpening (after_segments e) (after_segments e')
  after_segments_lem (made (Some k) x ks) (made (Some k') x' ks') s g g' =
      let b = s.answer in
      let e : k' ≡ k = cc in
      subst (λ (i : ℕ). SameOpening (after_joins (process_horz_joins k ks x)) (after_joins (process_horz_joins i ks' x'))) (sym e) (joined_alike k ks ks' x x' s.words s.joins g (subst (λ (i : ℕ). Joins x' i ks') e g'))
  after_segments_lem (made (Some k) x ks) (made None x' ks') s g g' = let b = s.answer in let z : ◌≡◌ {A = ℕ} 0 1 = cc in absurd (omega arith)
  after_segments_lem (made None x ks) (made (Some k') x' ks') s g g' = let b = s.answer in let z : ◌≡◌ {A = ℕ} 0 1 = cc in absurd (omega arith)
  after_segments_lem (made None x ks) (made None x' ks') s g g' = refl

  pub segments_alike : Renumbered ρ (view w) (view w') → RenumberedList ρ m ss ss' → RenumberedList ρ (2 * n) js js' → SameOpening (after_segments (convert_horz_segs_to_joins w m ss js n)) (after_segments (convert_horz_segs_to_joins w' m ss' js' n))
  segments_alike a l k = after_segments_lem (convert_horz_segs_to_joins w m ss js n) (convert_horz_segs_to_joins w' m ss' js' n) (convert_alike w w' ss ss' m js js' n t t' a l k) (convert_joins w ss m js n t) (convert_joins w' ss' m js' n t')

-- ---- two jobs that passed rows 1 to 8

settled_alike : (n : ℕ) (e e' : End) → SameOpening e e' → SameOpening (settled n e) (settled n e')
settled_alike n (end (Ok _) w) (end (Ok _) w') s = s
settled_alike n (end (Ok _) w) (end (Err y) w') s = absurd s
settled_alike n (end (Err x) w) (end (Ok _) w') s = absurd s
settled_alike n (end (Err x) w) (end (Err y) w') s = s

-- what rows 1 to 8 leave of a job, in a lent work space
abbrev pub accepted_as : List ℕ → List ℕ → Job → List ℕ → List ℕ → List ℕ → Type 0
accepted_as bytes lent j w ss js = accept_of bytes (cleared lent) (replicate limit.SEGMENTS 0) (replicate JOIN_POINTS 0) ≡ fill.end (Ok j) w ss js

-- opening depends on the drawing only
pub opening_alike : {ρ : ℕ → ℕ} (bytes bytes' lent : List ℕ) (j j' : Job) (w w' ss ss' js js' : List ℕ) → accepted_as bytes lent j w ss js → accepted_as bytes' lent j' w' ss' js' → RenumberedJob ρ j j' w w' ss ss' js js'
    → SameOpening (open_of bytes lent) (open_of bytes' lent)
unfolding open_of stages_of
opening_alike {ρ} bytes bytes' lent j j' w w' ss ss' js js' p p' d = go (ltb (length lent) LENGTH) refl
  where
    stages : BLOCK ≤ length (cleared lent) → SameOpening (after_segments (convert_horz_segs_to_joins w j.segments ss js j.joins)) (after_segments (convert_horz_segs_to_joins w' j'.segments ss' js' j'.joins))
    stages l =
        let t = converting bytes (cleared lent) w ss js j l p in
        let t' = converting bytes' (cleared lent) w' ss' js' j' l p' in
        rw (d.as_many_segments, d.as_many_joins)
        (segments_alike w ss j.segments js j.joins t w' ss' js' (rw (← d.as_many_segments, ← d.as_many_joins) t') d.words d.segments d.joins)

    go : (b : Bool) → ltb (length lent) LENGTH ≡ b
        → SameOpening (cond b (end (Err refusal.Full) (replicate (length lent) 0)) (settled (length lent) (after_rows (accept_of bytes (cleared lent) (replicate limit.SEGMENTS 0) (replicate JOIN_POINTS 0)))))
        (cond b (end (Err refusal.Full) (replicate (length lent) 0)) (settled (length lent) (after_rows (accept_of bytes' (cleared lent) (replicate limit.SEGMENTS 0) (replicate JOIN_POINTS 0)))))
    go true e = refl
    go false e =
        rw (p, p')
        (settled_alike (length lent) (after_segments (convert_horz_segs_to_joins w j.segments ss js j.joins)) (after_segments (convert_horz_segs_to_joins w' j'.segments ss' js' j'.joins))
        (stages (cleared_live lent e)))
