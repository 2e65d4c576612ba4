-- Two jobs alike but for the backward links of their points are read alike: whatever stood in the words and lists before.
use mathlib.Core.Path.{◌≡◌, refl, sym, ap, ◌∙◌, subst}
use mathlib.Core.Bool.{Bool, true, false, cond}
use mathlib.Core.List.{List}
use Prim.Native.Nat.{ℕ, zero, suc, ◌+◌, ◌*◌, ◌-◌, ◌<◌, ◌≤◌}
use native.Mathlib.Omega.{arith}
use lib.Dec.{ltb}
use lib.ListN.{length, set, drop, length-set}
use borrow.Author.Tests.{leb-false}
use Rattle.std.proofs.Common.{Result, Ok, Err}
use Rattle.numbers.specs.Bytes.{le}
use Rattle.job.specs.Coordinate.{word_at, depth_at}
use Rattle.job.specs.Limits as limit
use Rattle.job.specs.Field.{Y_AT, NEXT_AT, PREV_AT, RECORD_AT, Z_AT, OWNER_AT, FIRST_AT, SECOND_AT, tag_of, value_of, kind_of, field_in, field_of}
use Rattle.job.specs.Job.{past, Within}
use Rattle.job.specs.declared.Job.{Job}
use Rattle.job.specs.declared.field.Kind.{Kind}
use Rattle.job.specs.declared.field.Kind.TheVariants as kind
use Rattle.job.specs.declared.field.Field.{Field}
use Rattle.job.specs.declared.field.Field.TheVariants.{Settings, Point, Record, Segment, Join}
use Rattle.job.specs.declared.refusal.Refusal.{Refusal}
use Rattle.store.specs.Words.{Store, view, Write, on_words}
use Rattle.store.specs.Stores.{on_store}
use Rattle.store.proofs.Storing.{view_writes, length_writes}
use Rattle.reading.specs.Fill.{ReadEnd, end, record_read, placed, taken, turn_of, follow, run}
use Rattle.reading.specs.Needs.{Space}
use Rattle.reading.proofs.Going.{After, moves}
use Rattle.reading.proofs.Standing.{ReadAs, read_as, Lay, lay_past}
use Rattle.mending.proofs.Laying.{as_read, Past, past_is, Laid, turned, run_laid, in_part}
use Rattle.mending.proofs.Agreeing.{Agree, Front, front_more, point_writes, agree_point, agree_record}
use Rattle.mending.proofs.Fields.{fixed, Similar, same_read, value_alike}

-- ---- the two jobs
module _ (bytes bytes' : List ℕ) (f : ℕ → ℕ) (N : ℕ) where
  -- how far both are, and what both hold
  pub record Both (j : Job) (w w' ss ss' js js' : List ℕ) : Type 0 where
    pub lay : Lay j
    pub inside : j.at ≤ length bytes
    pub within : Within j
    pub space : Space w ss js
    pub space' : Space w' ss' js'
    pub agree : Agree f j.points j.records (view w) (view w')
    pub segments : Front j.segments ss ss'
    pub joins : Front (2 * j.joins) js js'

  pub data AlikeEnd : ReadEnd → ReadEnd → Type 0 where
    alike : (n : Job) (v v' ts ts' ks ks' : List ℕ) → Both n v v' ts ts' ks ks' → AlikeEnd (end (Ok n) v ts ks) (end (Ok n) v' ts' ks')

  module _ (sim : Similar bytes bytes' f N) where
    module _ (j : Job) (w w' ss ss' js js' : List ℕ) (b : Both j w w' ss ss' js js') where
      abbrev here : List ℕ
      here = drop j.at bytes

      module _ (n : ℕ) (k : Kind) (r : ReadAs j (drop j.at bytes) (field_in k (value_of (drop j.at bytes))) n k) (within : Within (past (field_in k (value_of (drop j.at bytes))) n j)) where
        lay : Lay (past (field_in k (value_of here)) n j)
        lay = lay_past j here b.lay (field_in k (value_of here)) n k r

        inside : (past (field_in k (value_of here)) n j).at ≤ length bytes
        inside = omega (arith, (past_is j here b.lay (field_in k (value_of here)) n k r).at, in_part j bytes (field_in k (value_of here)) n k b.inside r)

      place_both : (n : ℕ) (k : Kind) → ReadAs j here (field_in k (value_of here)) n k → Within (past (field_in k (value_of here)) n j)
          → AlikeEnd (placed (field_in k (value_of here)) n j w ss js) (placed (fixed f j.points (field_in k (value_of here))) n j w' ss' js')
      unfolding fixed
      place_both n kind.Settings r i =
          alike _ w w' ss ss' js js'
          (record { lay = lay n kind.Settings r i; inside = inside n kind.Settings r i; within = i; space = b.space; space' = b.space'; agree = b.agree; segments = b.segments; joins = b.joins })
      place_both n kind.Point r i =
          let p : j.points < limit.POINTS = leb-false limit.POINTS j.points r.room in
          let x : ℕ = word_at 0 (value_of here) in
          let y : ℕ = word_at Y_AT (value_of here) in
          let nx : ℕ = le 2 NEXT_AT (value_of here) in
          let pv : ℕ = le 2 PREV_AT (value_of here) in
          let rr : ℕ = le 2 RECORD_AT (value_of here) in
          let zz : ℕ = depth_at Z_AT (value_of here) in
          let ws : List Write = point_writes f j.points x y nx pv rr zz in
          let ws' : List Write = point_writes f j.points x y nx (f j.points) rr zz in
          let e : view (on_words w ws) ≡ on_store (view w) ws = view_writes w ws b.space.words (p, (p, (p, (p, (p, (p, tt)))))) in
          let e' : view (on_words w' ws') ≡ on_store (view w') ws' = view_writes w' ws' b.space'.words (p, (p, (p, (p, (p, (p, tt)))))) in
          alike _ (on_words w ws) (on_words w' ws') ss ss' js js'
          (record {
            lay = lay n kind.Point r i;
            inside = inside n kind.Point r i;
            within = i;
            space = record { words = omega (arith, length_writes w ws, b.space.words); segments = b.space.segments; joins = b.space.joins };
            space' = record { words = omega (arith, length_writes w' ws', b.space'.words); segments = b.space'.segments; joins = b.space'.joins };
            agree =
                subst (λ (s : Store). Agree f (j.points + 1) j.records s (view (on_words w' ws'))) (sym e)
                (subst (Agree f (j.points + 1) j.records (on_store (view w) ws)) (sym e') (agree_point f j.points j.records (view w) (view w') x y nx pv rr zz b.agree));
            segments = b.segments;
            joins = b.joins;
          })
      place_both n kind.Record r i =
          let p : j.records < limit.RECORDS = leb-false limit.RECORDS j.records r.room in
          let ws : List Write = record_read j.records (le 1 0 (value_of here)) (le 2 OWNER_AT (value_of here)) (le 2 FIRST_AT (value_of here)) in
          let e : view (on_words w ws) ≡ on_store (view w) ws = view_writes w ws b.space.words (p, (p, (p, (p, tt)))) in
          let e' : view (on_words w' ws) ≡ on_store (view w') ws = view_writes w' ws b.space'.words (p, (p, (p, (p, tt)))) in
          alike _ (on_words w ws) (on_words w' ws) ss ss' js js'
          (record {
            lay = lay n kind.Record r i;
            inside = inside n kind.Record r i;
            within = i;
            space = record { words = omega (arith, length_writes w ws, b.space.words); segments = b.space.segments; joins = b.space.joins };
            space' = record { words = omega (arith, length_writes w' ws, b.space'.words); segments = b.space'.segments; joins = b.space'.joins };
            agree =
                subst (λ (s : Store). Agree f j.points (j.records + 1) s (view (on_words w' ws))) (sym e)
                (subst (Agree f j.points (j.records + 1) (on_store (view w) ws)) (sym e') (agree_record f j.points j.records (view w) (view w') (le 1 0 (value_of here)) (le 2 OWNER_AT (value_of here)) (le 2 FIRST_AT (value_of here)) b.agree));
            segments = b.segments;
            joins = b.joins;
          })
      place_both n kind.Segment r i =
          let p : j.segments < limit.SEGMENTS = leb-false limit.SEGMENTS j.segments r.room in
          let v : ℕ = le 2 0 (value_of here) in
          alike _ w w' (set ss j.segments v) (set ss' j.segments v) js js'
          (record {
            lay = lay n kind.Segment r i;
            inside = inside n kind.Segment r i;
            within = i;
            space = record { words = b.space.words; segments = omega (arith, length-set ss j.segments v, b.space.segments); joins = b.space.joins };
            space' = record { words = b.space'.words; segments = omega (arith, length-set ss' j.segments v, b.space'.segments); joins = b.space'.joins };
            agree = b.agree;
            segments = front_more j.segments v ss ss' (omega (arith, p, b.space.segments)) (omega (arith, p, b.space'.segments)) b.segments;
            joins = b.joins;
          })
      place_both n kind.Join r i =
          let p : j.joins < limit.JOINS = leb-false limit.JOINS j.joins r.room in
          let v : ℕ = le 2 0 (value_of here) in
          let u : ℕ = le 2 SECOND_AT (value_of here) in
          let one : Front (2 * j.joins + 1) (set js (2 * j.joins) v) (set js' (2 * j.joins) v) = front_more (2 * j.joins) v js js' (omega (arith, p, b.space.joins)) (omega (arith, p, b.space'.joins)) b.joins in
          let two : Front (2 * j.joins + 1 + 1) (set (set js (2 * j.joins) v) (2 * j.joins + 1) u) (set (set js' (2 * j.joins) v) (2 * j.joins + 1) u) =
          front_more (2 * j.joins + 1) u (set js (2 * j.joins) v) (set js' (2 * j.joins) v) (omega (arith, p, b.space.joins, length-set js (2 * j.joins) v)) (omega (arith, p, b.space'.joins, length-set js' (2 * j.joins) v)) one
          in
          alike _ w w' ss ss' (set (set js (2 * j.joins) v) (2 * j.joins + 1) u) (set (set js' (2 * j.joins) v) (2 * j.joins + 1) u)
          (record {
            lay = lay n kind.Join r i;
            inside = inside n kind.Join r i;
            within = i;
            space = record { words = b.space.words; segments = b.space.segments; joins = omega (arith, length-set (set js (2 * j.joins) v) (2 * j.joins + 1) u, length-set js (2 * j.joins) v, b.space.joins) };
            space' = record { words = b.space'.words; segments = b.space'.segments; joins = omega (arith, length-set (set js' (2 * j.joins) v) (2 * j.joins + 1) u, length-set js' (2 * j.joins) v, b.space'.joins) };
            agree = b.agree;
            segments = b.segments;
            joins = λ i l. two i (omega (arith, l));
          })

      -- ---- a turn of both; m is how the first's turn ends
      turn_both : (m : Job) (u us ls : List ℕ) → turn_of bytes j w ss js ≡ end (Ok m) u us ls → m.points ≤ N → (2 < m.last → m.points ≡ N) → AlikeEnd (turn_of bytes j w ss js) (turn_of bytes' j w' ss' js')
      unfolding turn_of
      turn_both m u us ls e p o =
          let t = turned bytes j w ss js m u us ls e in
          let g : Field = t.field in
          let n : ℕ = t.long in
          let k : Kind = kind_of (tag_of here) in
          let r = read_as j here g n t.reads in
          let st : past (field_in k (value_of here)) n j ≡ m = ap (λ (x : Field). past x n j) (sym r.is) ∙ t.state in
          let v = value_alike bytes bytes' f N sim j b.lay k g n r (subst (λ (x : Job). x.points ≤ N) (sym st) p) (subst (λ (x : Job). 2 < x.last → x.points ≡ N) (sym st) o) in
          let r0 : ReadAs j here (field_in k (value_of here)) n k = subst (λ (x : Field). ReadAs j here x n k) r.is r in
          let r' : field_of j (drop j.at bytes') ≡ Ok (fixed f j.points (field_in k (value_of here)), n) = as_read j (drop j.at bytes') (fixed f j.points (field_in k (value_of here))) n k (same_read bytes bytes' f N sim j (field_in k (value_of here)) n k r0 v.0 v.1) in
          let i : Within (past (field_in k (value_of here)) n j) = subst Within (sym st) ((subst (After j) e (moves bytes j w ss js)).within b.within) in
          let z : field_of j here ≡ Ok (field_in k (value_of here), n) = t.reads ∙ ap (λ (x : Field). Ok (x, n)) r.is in
          subst (λ (x : Result (Field × ℕ) Refusal). AlikeEnd (taken x j w ss js) (taken (field_of j (drop j.at bytes')) j w' ss' js')) (sym z)
          (subst (λ (x : Result (Field × ℕ) Refusal). AlikeEnd (placed (field_in k (value_of here)) n j w ss js) (taken x j w' ss' js')) (sym r') (place_both n k r0 i))

    -- ---- a run of both
    module _ (n : Job) (v ts ks : List ℕ) (total : n.points ≡ N) where
      pub run_both : (k : ℕ) (j : Job) (w w' ss ss' js js' : List ℕ) → Both j w w' ss ss' js js' → run k bytes j w ss js ≡ end (Ok n) v ts ks → AlikeEnd (run k bytes j w ss js) (run k bytes' j w' ss' js')
      unfolding run
      run_both zero j w w' ss ss' js js' b e = absurd (let z : ◌≡◌ {A = ℕ} 0 1 = cc in omega arith)
      run_both (suc k) j w w' ss ss' js js' b e =
          subst (λ (l : ℕ). AlikeEnd (cond (ltb j.at (length bytes)) (follow (run k bytes) (turn_of bytes j w ss js)) (end (Ok j) w ss js)) (cond (ltb j.at l) (follow (run k bytes') (turn_of bytes' j w' ss' js')) (end (Ok j) w' ss' js'))) (sym sim.long)
          (by (ltb j.at (length bytes)) (turn_of bytes j w ss js) refl e (λ m u u' us us' ls ls' c d. run_both k m u u' us us' ls ls' c d))
        where
          handed : (T T' : ReadEnd) → AlikeEnd T T' → follow (run k bytes) T ≡ end (Ok n) v ts ks
              → ((m : Job) (u u' us us' ls ls' : List ℕ) → Both m u u' us us' ls ls' → run k bytes m u us ls ≡ end (Ok n) v ts ks → AlikeEnd (run k bytes m u us ls) (run k bytes' m u' us' ls'))
              → AlikeEnd (follow (run k bytes) T) (follow (run k bytes') T')
          handed T T' (alike m u u' us us' ls ls' c) d f = f m u u' us us' ls ls' c d

          on : (T : ReadEnd) → turn_of bytes j w ss js ≡ T → follow (run k bytes) T ≡ end (Ok n) v ts ks
              → ((m : Job) (u u' us us' ls ls' : List ℕ) → Both m u u' us us' ls ls' → run k bytes m u us ls ≡ end (Ok n) v ts ks → AlikeEnd (run k bytes m u us ls) (run k bytes' m u' us' ls'))
              → AlikeEnd (follow (run k bytes) T) (follow (run k bytes') (turn_of bytes' j w' ss' js'))
          on (end (Ok m) u us ls) a d f =
              let t = turned bytes j w ss js m u us ls a in
              let r = read_as j (drop j.at bytes) t.field t.long t.reads in
              let lm : Lay m = subst Lay t.state (lay_past j (drop j.at bytes) b.lay t.field t.long (kind_of (tag_of (drop j.at bytes))) r) in
              let pm : Past j m t.long = subst (λ (x : Job). Past j x t.long) t.state (past_is j (drop j.at bytes) b.lay t.field t.long (kind_of (tag_of (drop j.at bytes))) r) in
              let h : m.at ≤ length bytes = omega (arith, pm.at, in_part j bytes t.field t.long (kind_of (tag_of (drop j.at bytes))) b.inside r) in
              let q : Laid bytes m n = run_laid bytes n v ts ks k m u us ls lm h d in
              let tb = turn_both j w w' ss ss' js js' b m u us ls a (omega (arith, q.more, total)) (λ g. sym (q.over g) ∙ total) in
              handed (end (Ok m) u us ls) (turn_of bytes' j w' ss' js') (subst (λ (x : ReadEnd). AlikeEnd x (turn_of bytes' j w' ss' js')) a tb) d f
          on (end (Err x) u us ls) a d f = absurd (let z : ◌≡◌ {A = ℕ} 0 1 = cc in omega arith)

          by : (t : Bool) (T : ReadEnd) → turn_of bytes j w ss js ≡ T → cond t (follow (run k bytes) T) (end (Ok j) w ss js) ≡ end (Ok n) v ts ks
              → ((m : Job) (u u' us us' ls ls' : List ℕ) → Both m u u' us us' ls ls' → run k bytes m u us ls ≡ end (Ok n) v ts ks → AlikeEnd (run k bytes m u us ls) (run k bytes' m u' us' ls'))
              → AlikeEnd (cond t (follow (run k bytes) T) (end (Ok j) w ss js)) (cond t (follow (run k bytes') (turn_of bytes' j w' ss' js')) (end (Ok j) w' ss' js'))
          by true T a d f = on T a d f
          by false T a d f = alike j w w' ss ss' js js' b
