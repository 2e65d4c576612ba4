-- After an accepted opening: the work space is sound, passes the tests of a step, every ring is at its start, and the open rings are the job's.
use Prim.Native.Nat.{ℕ, ◌*◌, ◌≤◌, ◌<◌}
use mathlib.Core.Path.{◌≡◌, refl, ap, ◌∙◌, sym, subst}
use mathlib.Core.Bool.{Bool, true, false, cond, ◌&&◌}
use mathlib.Core.List.{List}
use native.Mathlib.Omega.{arith}
use lib.Dec.{ltb}
use lib.ListN.{length, get_or, replicate}
use borrow.Author.Tests.{lt-ltb}
use Rattle.std.proofs.Common.{Some, None, Ok, Err}
use Rattle.rings.specs.Count.{occ}
use Rattle.job.specs.Limits as limit
use Rattle.job.specs.declared.Job.{Job}
use Rattle.job.specs.declared.refusal.Refusal.TheVariants as refusal
use Rattle.store.specs.Field.{rc, X, Y, Z, FLAGS, BLOCK, LENGTH}
use Rattle.store.specs.Words.{Store, view}
use Rattle.store.specs.Named.{records_of}
use Rattle.store.specs.Sound.{recs, ring_at, is_open}
use Rattle.audit.specs.Tests.{any_below}
use Rattle.audit.proofs.Saying.{none_of}
use Rattle.joins.specs.declared.JoinError.TheVariants.{Knot, Full}
use Rattle.reading.specs.Fill as fill
use Rattle.visits.specs.Rings.{on_ring}
use Rattle.rows.specs.Rows.{on_open}
use Rattle.audit.proofs.Testing.{or_left, or_right}
use Rattle.accepting.specs.Accept.{accept_of}
use Rattle.converting.specs.Make.{Made, made, convert_horz_segs_to_joins}
use Rattle.converting.specs.Needs.{Converting}
use Rattle.converting.proofs.Open.{ConvertedOpen, convert_open}
use Rattle.joins.specs.Join as join
use Rattle.joins.specs.Join.{process_horz_joins}
use Rattle.joins.specs.Needs.{Joins}
use Rattle.joins.specs.Resolved.{Resolved, Ready}
use Rattle.joins.proofs.Homes.{on_ring_lem}
use Rattle.joins.proofs.Joining.{Shut, OpenKept}
use Rattle.joins.proofs.Open.{opened_on, joins_open}
use Rattle.joins.proofs.Turns.{words}
use Rattle.opening.specs.Start.{start_rings}
use Rattle.opening.specs.Open.{JOIN_POINTS, End, end, after_joins, after_segments, after_rows, stages_of, settled, cleared, open_of}
use Rattle.opening.specs.After.{AfterOpening, OpenAsGiven}
use Rattle.opening.proofs.Clearing.{cleared_live}
use Rattle.opening.proofs.Passing.{passed, converting, may_join, made_ready}
use Rattle.opening.proofs.Starting.{Begun, begun_all, recs_same, pts_same, first_same, ring_same, open_same, boxes_start, start_ready, start_sound, start_fresh}

-- ---- the last stage

started : (w : List ℕ) → Ready w → AfterOpening (start_rings w)
started w r =
    record {
      ready = start_ready w r;
      sound = start_sound w r;
      boxes = boxes_start w r.long r.resolved.few_records;
      fresh = start_fresh w r;
      marks = λ i h. b.marks i (omega (arith, recs_same (view w) (view (start_rings w)) b));
      present = λ i h. b.presents i (omega (arith, recs_same (view w) (view (start_rings w)) b)) ∙ sym (first_same (view w) (view (start_rings w)) b i);
      starts = λ i h. b.starts i (omega (arith, recs_same (view w) (view (start_rings w)) b)) ∙ sym (first_same (view w) (view (start_rings w)) b i);
    }
  where
    b : Begun (view w) (view (start_rings w)) (recs (view w))
    b = begun_all w r

given_started : (s t u : Store) → OpenKept s t → Begun t u (recs t) → OpenAsGiven s u
given_started s t u o b =
    record {
      records = omega (arith, o.records, recs_same t u b);
      points = omega (arith, o.points, pts_same t u b);
      flags = λ i h. flag i ∙ o.flags i h;
      new = λ i h l. open_same t u b i ∙ o.new i h (omega (arith, recs_same t u b));
      rings = λ i h e. ring_same t u b i ∙ o.rings i h e;
      xs = λ k h. ap (λ (c : ℕ → ℕ). c k) (b.points X) ∙ o.xs k h;
      ys = λ k h. ap (λ (c : ℕ → ℕ). c k) (b.points Y) ∙ o.ys k h;
      zs = λ k h. ap (λ (c : ℕ → ℕ). c k) (b.points Z) ∙ o.zs k h;
    }
  where
    flag : (i : ℕ) → u (rc FLAGS) i ≡ t (rc FLAGS) i
    flag i = ap (λ (c : ℕ → ℕ). c i) b.flags

-- ---- row 8: the job's segments and joins are on closed rings

pub shut : (w l : List ℕ) (n : ℕ) → Resolved (view w) → any_below n (λ i. on_open w (get_or l i 0)) ≡ false → (k : ℕ) → k < n → Shut (view w) (get_or l k 0)
shut w l n o e k h i z =
    let a = none_of n (λ j. on_open w (get_or l j 0)) e k h in
    let b = none_of (records_of w) (λ j. is_open (view w) j && on_ring w j (get_or l k 0)) a i z.res.real in
    let c : on_ring w i (get_or l k 0) ≡ true = lt-ltb 0 (occ (get_or l k 0) (ring_at (view w) i)) (on_ring_lem (view w) o i (get_or l k 0) z) in
    by (is_open (view w) i) (subst (λ (x : Bool). (is_open (view w) i && x) ≡ false) c b)
  where
    by : (x : Bool) → (x && true) ≡ false → x ≡ false
    by true d = d
    by false d = refl

-- ---- stage by stage

-- both laws, of a job that was read into the words v
record Both (v y : List ℕ) : Type 0 where
  opened : AfterOpening y
  given : OpenAsGiven (view v) (view y)

module _ (y : List ℕ) where
  by_joins : (v : List ℕ) (k : ℕ) (js w : List ℕ) → Joins w k js → OpenKept (view v) (view w) → ((i : ℕ) → i < 2 * k → Shut (view w) (get_or js i 0)) → (T : join.JoinEnd) → process_horz_joins k js w ≡ T → after_joins T ≡ end (Ok tt) y → Both v y
  by_joins v k js w g o s (join.end (Ok tt) x) e f =
      let a : start_rings x ≡ y = cc in
      let r = made_ready k js w x (Ok tt) g (sym e) in
      let p = opened_on (view v) (view w) (view x) o (subst (λ (z : join.JoinEnd). OpenKept (view w) (view (words z))) e (joins_open k js w g s)) in
      subst (Both v) a (record { opened = started x r; given = given_started (view v) (view x) (view (start_rings x)) p (begun_all x r) })
  by_joins v k js w g o s (join.end (Err Knot) x) e f = absurd (let z : ◌≡◌ {A = ℕ} 0 1 = cc in omega arith)
  by_joins v k js w g o s (join.end (Err Full) x) e f = absurd (let z : ◌≡◌ {A = ℕ} 0 1 = cc in omega arith)

  by_segments : (w ss : List ℕ) (m : ℕ) (js : List ℕ) (n : ℕ) → Converting w ss m js n → (T : Made) → convert_horz_segs_to_joins w m ss js n ≡ T → ConvertedOpen w T → after_segments T ≡ end (Ok tt) y → Both w y
  by_segments w ss m js n g (made (Some k) x ks) e o f =
      by_joins w k ks x (may_join w ss m js n (Some k) k x ks g (sym e) refl) o.0.opened o.1 (process_horz_joins k ks x) refl f
  by_segments w ss m js n g (made None x ks) e o f = absurd (let z : ◌≡◌ {A = ℕ} 0 1 = cc in omega arith)

  by_rows : (bytes w : List ℕ) → BLOCK ≤ length w → (j : Job) (v ts ks : List ℕ) → accept_of bytes w (replicate limit.SEGMENTS 0) (replicate JOIN_POINTS 0) ≡ fill.end (Ok j) v ts ks → after_segments (convert_horz_segs_to_joins v j.segments ts ks j.joins) ≡ end (Ok tt) y → Both v y
  by_rows bytes w l j v ts ks e f =
      let a = passed bytes w v ts ks j l e in
      let c = converting bytes w v ts ks j l e in
      let x = any_below j.segments (λ i. on_open v (get_or ts i 0)) in
      let z = any_below (2 * j.joins) (λ i. on_open v (get_or ks i 0)) in
      by_segments v ts j.segments ks j.joins c (convert_horz_segs_to_joins v j.segments ts ks j.joins) refl
      (convert_open v ts j.segments ks j.joins c (shut v ts j.segments a.ready.resolved (or_left x z a.closed)) (shut v ks (2 * j.joins) a.ready.resolved (or_right x z a.closed))) f

  by_stages : (n : ℕ) (T : End) → settled n T ≡ end (Ok tt) y → T ≡ end (Ok tt) y
  by_stages n (end (Ok tt) w) f = f
  by_stages n (end (Err x) w) f = absurd (let z : ◌≡◌ {A = ℕ} 0 1 = cc in omega arith)

  -- opening accepts only a long enough work space, and a job that passed rows 1 to 8
  pub accepts : (bytes lent : List ℕ) → open_of bytes lent ≡ end (Ok tt) y → (BLOCK ≤ length (cleared lent)) × (after_rows (accept_of bytes (cleared lent) (replicate limit.SEGMENTS 0) (replicate JOIN_POINTS 0)) ≡ end (Ok tt) y)
  unfolding open_of stages_of
  accepts bytes lent f = by (ltb (length lent) LENGTH) refl f
    where
      by : (t : Bool) → ltb (length lent) LENGTH ≡ t → cond t (end (Err refusal.Full) (replicate (length lent) 0)) (settled (length lent) (after_rows (accept_of bytes (cleared lent) (replicate limit.SEGMENTS 0) (replicate JOIN_POINTS 0)))) ≡ end (Ok tt) y → (BLOCK ≤ length (cleared lent)) × (after_rows (accept_of bytes (cleared lent) (replicate limit.SEGMENTS 0) (replicate JOIN_POINTS 0)) ≡ end (Ok tt) y)
      by true e d = absurd (let z : ◌≡◌ {A = ℕ} 0 1 = cc in omega arith)
      by false e d = (cleared_live lent e, by_stages (length lent) (after_rows (accept_of bytes (cleared lent) (replicate limit.SEGMENTS 0) (replicate JOIN_POINTS 0))) d)

  module _ (bytes lent : List ℕ) (f : open_of bytes lent ≡ end (Ok tt) y) where
    by_read : (T : fill.ReadEnd) → accept_of bytes (cleared lent) (replicate limit.SEGMENTS 0) (replicate JOIN_POINTS 0) ≡ T → after_rows T ≡ end (Ok tt) y → AfterOpening y
    by_read (fill.end (Ok j) v ts ks) e d = (by_rows bytes (cleared lent) (accepts bytes lent f).0 j v ts ks e d).opened
    by_read (fill.end (Err x) v ts ks) e d = absurd (let z : ◌≡◌ {A = ℕ} 0 1 = cc in omega arith)

    -- THE LAWS: what the words are,
    pub after_opening_lem : AfterOpening y
    after_opening_lem = by_read (accept_of bytes (cleared lent) (replicate limit.SEGMENTS 0) (replicate JOIN_POINTS 0)) refl (accepts bytes lent f).1

    -- and the open rings, v being the words as the job was read
    pub open_as_given : (j : Job) (v ts ks : List ℕ) → accept_of bytes (cleared lent) (replicate limit.SEGMENTS 0) (replicate JOIN_POINTS 0) ≡ fill.end (Ok j) v ts ks → OpenAsGiven (view v) (view y)
    open_as_given j v ts ks e =
        let a = accepts bytes lent f in
        (by_rows bytes (cleared lent) a.0 j v ts ks e (ap after_rows (sym e) ∙ a.1)).given
