-- The stages of an accepted opening; and of a record that it left without a ring, why: the job has none for it, or a join took it.
use mathlib.Core.Path.{◌≡◌, refl, sym, ap, ◌∙◌, subst}
use mathlib.Core.Bool.{true, false, true≢false}
use mathlib.Core.List.{List}
use Prim.Native.Nat.{ℕ, ◌*◌, ◌≤◌, ◌<◌}
use native.Mathlib.Omega.{arith}
use lib.Dec.{eqb}
use lib.ListN.{length, get_or, replicate}
use borrow.Author.Tests.{eq-eqb, eqb-true}
use Rattle.std.proofs.Common.{Some, None, Ok, Err}
use Rattle.job.specs.Limits as limit
use Rattle.job.specs.declared.Job.{Job}
use Rattle.store.specs.Field.{rc, FIRST, REASON, TAKER, NONE, BLOCK}
use Rattle.store.specs.Words.{view}
use Rattle.store.specs.Named.{records_of, first_of, taker_of}
use Rattle.store.specs.Reason.{NO_RING, JOINED}
use Rattle.store.specs.Sound.{recs, ringless}
use Rattle.audit.specs.Tests.{any_below}
use Rattle.joins.specs.declared.JoinError.TheVariants.{Knot, Full}
use Rattle.reading.specs.Fill as fill
use Rattle.reading.specs.Fill.{reason_read}
use Rattle.rows.specs.Rows.{on_open}
use Rattle.audit.proofs.Testing.{or_left, or_right}
use Rattle.accepting.specs.Accept.{accept_of}
use Rattle.accepting.specs.Accepted as accepting
use Rattle.converting.specs.Make.{Made, made, convert_horz_segs_to_joins}
use Rattle.converting.proofs.Doubling.{Copied}
use Rattle.converting.proofs.Open.{ConvertedOpen, convert_open}
use Rattle.joins.specs.Join as join
use Rattle.joins.specs.Join.{process_horz_joins}
use Rattle.joins.specs.Needs.{Joins}
use Rattle.opening.specs.Start.{start_rings}
use Rattle.opening.specs.Open.{JOIN_POINTS, end, after_joins, after_segments, after_rows, cleared, open_of}
use Rattle.opening.proofs.Passing.{passed, converting, may_join, made_ready}
use Rattle.opening.proofs.Starting.{Begun, begun_all, recs_same, first_same}
use Rattle.opening.proofs.Accepted.{shut, accepts}
use Rattle.ended.specs.Joined.{EmptiedAt}
use Rattle.ended.specs.Stages.{Stages}
use Rattle.ended.proofs.Joining.{Bare, Story, not_yet, ringed, had_none, taken, story, bare_keeps, taken_keeps}

-- ---- the stages

module _ (bytes lent w : List ℕ) where
  abbrev reads : fill.ReadEnd
  reads = accept_of bytes (cleared lent) (replicate limit.SEGMENTS 0) (replicate JOIN_POINTS 0)

  pub stages : open_of bytes lent ≡ end (Ok tt) w → Stages bytes lent w
  stages f = by_read reads refl (accepts w bytes lent f).1
    where
      by_joins : (j : Job) (v ts ks : List ℕ) → reads ≡ fill.end (Ok j) v ts ks → (k : ℕ) (x js : List ℕ) → convert_horz_segs_to_joins v j.segments ts ks j.joins ≡ made (Some k) x js
          → (T : join.JoinEnd) → process_horz_joins k js x ≡ T → after_joins T ≡ end (Ok tt) w → Stages bytes lent w
      by_joins j v ts ks a k x js c (join.end (Ok tt) y) e f =
          let z : start_rings y ≡ w = cc in
          record { job = j; read = v; segments = ts; own = ks; accepted = a; levelled = x; joins = js; many = k; converted = c; joined = y; done = e; started = z }
      by_joins j v ts ks a k x js c (join.end (Err Knot) y) e f = absurd (let z : ◌≡◌ {A = ℕ} 0 1 = cc in omega arith)
      by_joins j v ts ks a k x js c (join.end (Err Full) y) e f = absurd (let z : ◌≡◌ {A = ℕ} 0 1 = cc in omega arith)

      by_segments : (j : Job) (v ts ks : List ℕ) → reads ≡ fill.end (Ok j) v ts ks → (T : Made) → convert_horz_segs_to_joins v j.segments ts ks j.joins ≡ T → after_segments T ≡ end (Ok tt) w → Stages bytes lent w
      by_segments j v ts ks a (made (Some k) x js) c f = by_joins j v ts ks a k x js c (process_horz_joins k js x) refl f
      by_segments j v ts ks a (made None x js) c f = absurd (let z : ◌≡◌ {A = ℕ} 0 1 = cc in omega arith)

      by_read : (T : fill.ReadEnd) → reads ≡ T → after_rows T ≡ end (Ok tt) w → Stages bytes lent w
      by_read (fill.end (Ok j) v ts ks) e f = by_segments j v ts ks e (convert_horz_segs_to_joins v j.segments ts ks j.joins) refl f
      by_read (fill.end (Err x) v ts ks) e f = absurd (let z : ◌≡◌ {A = ℕ} 0 1 = cc in omega arith)

-- ---- a record without a ring

module _ (bytes lent w : List ℕ) (long : BLOCK ≤ length (cleared lent)) (t : Stages bytes lent w) where
  good : accepting.Accepted t.job t.read t.segments t.own
  good = passed bytes (cleared lent) t.read t.segments t.own t.job long t.accepted

  -- the segments leave every word of the records
  copied : Copied (view t.read) (view t.levelled)
  copied =
      let c = converting bytes (cleared lent) t.read t.segments t.own t.job long t.accepted in
      let a = any_below t.job.segments (λ i. on_open t.read (get_or t.segments i 0)) in
      let b = any_below (2 * t.job.joins) (λ i. on_open t.read (get_or t.own i 0)) in
      (subst (ConvertedOpen t.read) t.converted
      (convert_open t.read t.segments t.job.segments t.own t.job.joins c
      (shut t.read t.segments t.job.segments good.ready.resolved (or_left a b good.closed)) (shut t.read t.own (2 * t.job.joins) good.ready.resolved (or_right a b good.closed)))).0

  joins_of : Joins t.levelled t.many t.joins
  joins_of =
      may_join t.read t.segments t.job.segments t.own t.job.joins (Some t.many) t.many t.levelled t.joins
      (converting bytes (cleared lent) t.read t.segments t.own t.job long t.accepted) (sym t.converted) refl

  -- rings at their start keep them too
  begun : Begun (view t.joined) (view w) (recs (view t.joined))
  begun =
      subst (λ (x : List ℕ). Begun (view t.joined) (view x) (recs (view t.joined))) t.started
      (begun_all t.joined (made_ready t.many t.joins t.levelled t.joined (Ok tt) joins_of (sym t.done)))

  -- what such a record keeps, as opening leaves it
  pub record LeftBare (j v u : ℕ) : Type 0 where
    pub low : j < recs (view w)
    pub none : ringless (view w) j ≡ true
    pub kept : view w (rc REASON) j ≡ v
    pub taker : view w (rc TAKER) j ≡ u

  left_bare : (j v u : ℕ) → Bare t.joined j v u → LeftBare j v u
  left_bare j v u b =
      record {
        low = omega (arith, recs_same (view t.joined) (view w) begun, b.low);
        none = ap (λ (x : ℕ). eqb x NONE) (first_same (view t.joined) (view w) begun j) ∙ b.none;
        kept = ap (λ (c : ℕ → ℕ). c j) begun.reasons ∙ b.kept;
        taker = ap (λ (c : ℕ → ℕ). c j) begun.takers ∙ b.taker;
      }

  -- read without one
  pub none_left : (j : ℕ) → j < records_of t.read → first_of t.read j ≡ NONE → LeftBare j NO_RING (taker_of t.levelled j)
  none_left j l e =
      left_bare j NO_RING (taker_of t.levelled j)
      (bare_keeps t.many t.joins t.levelled joins_of j NO_RING (taker_of t.levelled j)
      (record {
        low = omega (arith, copied.count);
        none = eq-eqb (first_of t.levelled j) NONE (copied.words FIRST j ∙ e);
        kept = copied.words REASON j ∙ good.unringed.reasons j l ∙ ap reason_read e;
        taker = refl;
      })
      t.joined t.done)

  -- emptied by a join
  pub taken_left : (j m u : ℕ) → m < t.many → EmptiedAt t.joins t.levelled m u j → LeftBare j JOINED u
  taken_left j m u l d = left_bare j JOINED u (taken_keeps t.many t.joins t.levelled joins_of m u j d l t.joined t.done)

  -- one of the two
  pub data WhyBare (j : ℕ) : Type 0 where
    read_none : j < records_of t.read → first_of t.read j ≡ NONE → WhyBare j
    emptied : (m u : ℕ) → m < t.many → EmptiedAt t.joins t.levelled m u j → WhyBare j

  pub why_bare : (j : ℕ) → j < recs (view w) → ringless (view w) j ≡ true → WhyBare j
  why_bare j l r = go (story t.many t.joins t.levelled joins_of t.joined t.done j)
    where
      low : j < records_of t.joined
      low = omega (arith, recs_same (view t.joined) (view w) begun)

      bare : ringless (view t.joined) j ≡ true
      bare = sym (ap (λ (x : ℕ). eqb x NONE) (first_same (view t.joined) (view w) begun j)) ∙ r

      go : Story t.many t.joins t.levelled joins_of t.many t.joined j → WhyBare j
      go (not_yet h) = absurd (omega (arith, low))
      go (ringed h e) = absurd (true≢false (sym bare ∙ e))
      go (had_none h e b) = read_none (omega (arith, copied.count)) (sym (copied.words FIRST j) ∙ eqb-true (first_of t.levelled j) NONE e)
      go (taken m u h a b) = emptied m u h a
