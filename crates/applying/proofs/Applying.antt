-- What the code that applies an act leaves: each law's premises are what the callees ensure, and the branches.
use Prim.Native.Nat.{ℕ, ◌+◌, ◌^◌, ◌≤◌, ◌<◌}
use mathlib.Core.Path.{◌≡◌, ap, ◌∙◌, sym, subst}
use mathlib.Core.Logic.{◌≢◌}
use mathlib.Core.Bool.{Bool, true, false, cond}
use mathlib.Core.List.{List}
use native.Mathlib.Numerals.{add-one}
use native.Mathlib.Omega.{arith}
use lib.Dec.{eqb}
use lib.ListN.{length}
use borrow.Author.Tests.{eq-eqb, ne_eqb}
use Rattle.rings.specs.Progress.{Due}
use Rattle.rings.specs.Progress as rings
use Rattle.geometry.specs.declared.Point.{Point}
use Rattle.lone.specs.Act.{double, cut, takes_points}
use Rattle.job.specs.Limits as limit
use Rattle.store.specs.Reason.{reason_number}
use Rattle.store.specs.Field.{PointCol, pt, rc, ct, NEXT, PREV, REC, OWNER, FIRST, MARK, PRESENT, START, REASON, POINTS, RECORDS, BLOCK, NONE}
use Rattle.store.specs.Named.{next_of, prev_of}
use Rattle.store.specs.Sound.{pts, recs, mark_of}
use Rattle.store.specs.Words.{Store, view, cell, put, on_words}
use Rattle.store.specs.Stores.{on_store, Within}
use Rattle.store.proofs.Storing.{view_put, length_put, view_writes, length_writes}
use Rattle.store.specs.Value.{word_of}
use Rattle.primitives.specs.Primitive.{point_writes, link_writes, unlink_writes, start_writes}
use Rattle.primitives.specs.Beside.{disposed, dispose_out_pt, Beside}
use Rattle.acts.specs.Writes.{move_writes, to_first_writes, discard_writes, drop_writes, put_writes, double_writes, place_writes, cut_writes, cut_put_writes, record_writes, offcut_writes}
use Rattle.acts.specs.Apply.{ring_writes, after_w}
use Rattle.turns.specs.declared.Act.{Act}
use Rattle.turns.specs.declared.Act.TheVariants.{Drop, MoveOn, ToFirst, Double, Cut}
use Rattle.turns.specs.declared.Act.TheVariants as act
use Rattle.turns.specs.declared.Due as code
use Rattle.turns.specs.declared.Discard.{Discard}
use Rattle.turns.specs.Code.{due_is, discard_is, act_is}
use Rattle.turns.specs.Form.{raised}
use Rattle.turns.specs.Reads.{Steps, Going}
use Rattle.turns.proofs.Reading.{low, on_next, on_prev}
use Rattle.turns.proofs.Ready.{going}
use Rattle.applying.specs.Applies.{Reach, PointFits, NewPoint, CutFits, OffcutFits, Applies}

-- an unfinished closed ring of a sound work space has its words in their columns
pub reach : (w : List ℕ) (i : ℕ) → Steps w i → Reach w i
reach w i s =
    let g : Going w i = going w i s in
    record {
      long = s.long;
      record_in = g.record_in;
      present_in = low w _ g.present_on;
      next_in = low w _ (on_next w _ g.present_on);
      prev_in = low w _ (on_prev w _ g.present_on);
      second_in = low w _ (on_next w _ (on_next w _ g.present_on));
    }

-- ---- what is read is in its column
module _ (w : List ℕ) (i x : ℕ) (r : Reach w i) (e : x ≡ cell (rc PRESENT) w i) where
  pub here_low : x < limit.POINTS
  here_low = rw e r.present_in

  pub next_low : (n : ℕ) → n ≡ cell (pt NEXT) w x → n < limit.POINTS
  next_low n f = rw (f, e) r.next_in

  pub prev_low : (p : ℕ) → p ≡ cell (pt PREV) w x → p < limit.POINTS
  prev_low p f = rw (f, e) r.prev_in

  pub second_low : (y z : ℕ) → y ≡ cell (pt NEXT) w x → z ≡ cell (pt NEXT) w y → z < limit.POINTS
  second_low y z f g = rw (g, f, e) r.second_in

-- ---- what is written
pub discarded : (w w₁ w₂ w₃ : List ℕ) (i r : ℕ) (y : rings.Discard) → r ≡ reason_number y → w₁ ≡ put (rc FIRST) w i NONE → w₂ ≡ put (rc MARK) w₁ i 4 → w₃ ≡ put (rc REASON) w₂ i r → w₃ ≡ on_words w (discard_writes i y)
discarded w w₁ w₂ w₃ i r y er e₁ e₂ e₃ = rw (e₃, e₂, e₁, er)

module _ (w w₁ w₂ : List ℕ) (i : ℕ) where
  pub looped : (n : ℕ) → w₁ ≡ put (rc PRESENT) w i n → w₂ ≡ put (rc START) w₁ i n → w₂ ≡ put (rc START) (put (rc PRESENT) w i n) i n
  looped n e₁ e₂ = rw (e₂, e₁)

  pub moved : (m x n : ℕ) (d : Due) → m ≡ mark_of d → x ≡ cell (rc PRESENT) w i → n ≡ cell (pt NEXT) w x → w₁ ≡ put (rc PRESENT) w i n → w₂ ≡ put (rc MARK) w₁ i m → w₂ ≡ on_words w (move_writes (view w) i d)
  moved m x n d em ex en e₁ e₂ = rw (e₂, e₁, em, en, ex)

  pub went_first : (m f : ℕ) (d : Due) → m ≡ mark_of d → f ≡ cell (rc FIRST) w i → w₁ ≡ put (rc START) (put (rc PRESENT) w i f) i f → w₂ ≡ put (rc MARK) w₁ i m → w₂ ≡ on_words w (to_first_writes (view w) i d)
  went_first m f d em ef e₁ e₂ = rw (e₂, e₁, em, ef)

-- the two arms of the first point's store
pub first_is : (w w' : List ℕ) (i x p f : ℕ) → f ≡ cell (rc FIRST) w i → f ≡ x → w' ≡ put (rc FIRST) w i p → w' ≡ put (rc FIRST) w i (cond (eqb (cell (rc FIRST) w i) x) p (cell (rc FIRST) w i))
first_is w w' i x p f e h q = let t : eqb (cell (rc FIRST) w i) x ≡ true = eq-eqb (cell (rc FIRST) w i) x (cc) in rw t q

pub first_not : (w w' : List ℕ) (i x p f : ℕ) → f ≡ cell (rc FIRST) w i → f ≢ x → w' ≡ put (rc FIRST) w i f → w' ≡ put (rc FIRST) w i (cond (eqb (cell (rc FIRST) w i) x) p (cell (rc FIRST) w i))
first_not w w' i x p f e h q = let t : eqb (cell (rc FIRST) w i) x ≡ false = ne_eqb (cell (rc FIRST) w i) x (λ z. h (e ∙ z)) in rw t (q ∙ ap (put (rc FIRST) w i) e)

-- the first point is set: the present point and its neighbours are where they were; it goes out
module _ (w w₁ : List ℕ) (i x p : ℕ) (r : Reach w i) (e : x ≡ cell (rc PRESENT) w i)
    (e₁ : w₁ ≡ put (rc FIRST) w i (cond (eqb (cell (rc FIRST) w i) x) p (cell (rc FIRST) w i))) where
  abbrev v : ℕ
  v = cond (eqb (cell (rc FIRST) w i) x) p (cell (rc FIRST) w i)

  kept : (c : PointCol) → view w₁ (pt c) x ≡ view w (pt c) x
  kept c = rw e₁ (ap (λ (s : Store). s (pt c) x) (view_put w r.long (rc FIRST) i v r.record_in))

  pub beside : Beside w₁ x
  beside =
      record {
        long = rw (e₁, length_put (rc FIRST) w i v) r.long;
        here = here_low w i x r e;
        next = rw (kept NEXT, e) r.next_in;
        prev = rw (kept PREV, e) r.prev_in;
      }

  module _ (n : ℕ) (w₂ : List ℕ) (e₂ : disposed n w₂ ≡ dispose_out_pt w₁ x) where
    next_is : n ≡ cell (pt NEXT) w x
    unfolding dispose_out_pt
    next_is = let d : n ≡ next_of w₁ x = cc in d ∙ kept NEXT

    pub went_low : n < 2 ^ 32
    went_low = let l = next_low w i x r e n next_is in omega arith

    pub dropped : (w₃ : List ℕ) → p ≡ cell (pt PREV) w x → w₃ ≡ put (rc START) (put (rc PRESENT) w₂ i n) i n
        → w₃ ≡ on_words w (drop_writes (view w) i)
    unfolding dispose_out_pt
    dropped w₃ ep e₃ =
        let d : w₂ ≡ on_words w₁ (unlink_writes (prev_of w₁ x) (next_of w₁ x)) = cc in
        rw (e₃, d, kept PREV, kept NEXT, e₁, next_is, ep, e)

module _ (w w₁ w₂ w₃ : List ℕ) (i : ℕ) where
  pub went_to : (p m : ℕ) (d : Due) → m ≡ mark_of d → w₁ ≡ put (rc FIRST) w i p → w₂ ≡ put (rc PRESENT) w₁ i p → w₃ ≡ put (rc MARK) w₂ i m → w₃ ≡ on_words w (place_writes i p d)
  went_to p m d em e₁ e₂ e₃ = rw (e₃, e₂, e₁, em)

module _ (w w₁ w₂ : List ℕ) (i : ℕ) where
  pub put_in : (k vx vy vz r p n : ℕ) → w₁ ≡ on_words w (point_writes k vx vy vz r) → w₂ ≡ on_words w₁ (link_writes p k n) → w₂ ≡ on_words w (put_writes k vx vy vz r p n)
  put_in k vx vy vz r p n e₁ e₂ = rw (e₂, e₁)

  pub doubled : (m x p r k vx vy vz : ℕ) (d : Due) → m ≡ mark_of d → x ≡ cell (rc PRESENT) w i → p ≡ cell (pt PREV) w x → r ≡ cell (pt REC) w x → k ≡ cell (ct POINTS) w 0
      → w₁ ≡ on_words w (put_writes k vx vy vz r p x) → w₂ ≡ put (rc MARK) w₁ i m → w₂ ≡ on_words w (double_writes (view w) i vx vy vz d)
  doubled m x p r k vx vy vz d em ex ep er ek e₁ e₂ = rw (e₂, e₁, em, ep, er, ex, ek)

  pub cut_put : (x y z p r k vx vy vz : ℕ) (d : Due) → x ≡ cell (rc PRESENT) w i → y ≡ cell (pt NEXT) w x → z ≡ cell (pt NEXT) w y → p ≡ cell (pt PREV) w x → r ≡ cell (pt REC) w p → k ≡ cell (ct POINTS) w 0
      → w₁ ≡ on_words w (put_writes k vx vy vz r p z) → w₂ ≡ on_words w₁ (place_writes i p d) → w₂ ≡ on_words w (cut_put_writes (view w) i vx vy vz d)
  cut_put x y z p r k vx vy vz d ex ey ez ep er ek e₁ e₂ = rw (e₂, e₁, er, ez, ey, ep, ex, ek)

pub cut_out : (w w₁ w₂ : List ℕ) (i x y z p : ℕ) (d : Due) → x ≡ cell (rc PRESENT) w i → y ≡ cell (pt NEXT) w x → z ≡ cell (pt NEXT) w y → p ≡ cell (pt PREV) w x
    → w₁ ≡ on_words w (unlink_writes p z) → w₂ ≡ on_words w₁ (place_writes i p d) → w₂ ≡ on_words w (cut_writes (view w) i d)
cut_out w w₁ w₂ i x y z p d ex ey ez ep e₁ e₂ = rw (e₂, e₁, ez, ey, ep, ex)

pub took_record : (w w₁ w₂ w₃ : List ℕ) (r x y : ℕ) → w₁ ≡ put (ct RECORDS) w 0 (r + 1) → w₂ ≡ put (pt REC) w₁ x r → w₃ ≡ put (pt REC) w₂ y r → w₃ ≡ on_words w (record_writes r x y)
took_record w w₁ w₂ w₃ r x y e₁ e₂ e₃ = rw (e₃, e₂, e₁, add-one r)

pub made_offcut : (w w₁ w₂ w₃ : List ℕ) (i x y vx vy vz r b o : ℕ) → r ≡ cell (ct RECORDS) w 0 → b ≡ cell (ct POINTS) w 0 → o ≡ cell (rc OWNER) w i
    → w₁ ≡ on_words w (record_writes r x y) → w₂ ≡ on_words w₁ (put_writes b vx vy vz r y x) → w₃ ≡ on_words w₂ (start_writes r o b i)
    → w₃ ≡ on_words w (offcut_writes (view w) i x y vx vy vz)
made_offcut w w₁ w₂ w₃ i x y vx vy vz r b o er eb eo e₁ e₂ e₃ = rw (e₃, e₂, e₁, er, eb, eo)

-- ---- places for new points and records
pub free_point : (w : List ℕ) (k : ℕ) (v : Point) → BLOCK ≤ length w → PointFits w v → k ≡ cell (ct POINTS) w 0 → NewPoint w k v
free_point w k v l h e = record { long = l; low = rw e h.free; in_table = h.in_table }

pub free_low : (w : List ℕ) (k : ℕ) (v : Point) → PointFits w v → k ≡ cell (ct POINTS) w 0 → k < limit.POINTS
free_low w k v h e = rw e h.free

module _ (w : List ℕ) (i x y : ℕ) (v : Point) (h : OffcutFits w i x y v) where
  pub record_low : (r : ℕ) → r ≡ cell (ct RECORDS) w 0 → r < limit.RECORDS
  record_low r e = rw e h.record_free

  pub offcut_low : (b : ℕ) → b ≡ cell (ct POINTS) w 0 → b < limit.POINTS
  offcut_low b e = rw e h.free

  pub offcut_point : (w' : List ℕ) (b : ℕ) → length w' ≡ length w → b ≡ cell (ct POINTS) w 0 → NewPoint w' b v
  offcut_point w' b l e = record { long = rw l h.long; low = rw e h.free; in_table = h.in_table }

-- ---- a cut
pub cut_free : (w : List ℕ) (i : ℕ) (v : Point) (b : Bool) → CutFits w i v b → b ≡ true → PointFits w v
cut_free w i v b h e = h.free e

module _ (w w' : List ℕ) (i : ℕ) (v : Point) (b : Bool) (d : Due) where
  pub with_put : b ≡ true → w' ≡ on_words w (cut_put_writes (view w) i (word_of v.x) (word_of v.y) v.z d) → w' ≡ on_words w (ring_writes raised (view w) i v b d)
  with_put e h = subst (λ (b : Bool). w' ≡ on_words w (ring_writes raised (view w) i v b d)) (sym e) h

  pub without_put : b ≡ false → w' ≡ on_words w (cut_writes (view w) i d) → w' ≡ on_words w (ring_writes raised (view w) i v b d)
  without_put e h = subst (λ (b : Bool). w' ≡ on_words w (ring_writes raised (view w) i v b d)) (sym e) h

pub cut_fits : (w : List ℕ) (i : ℕ) (v : Point) (b off : Bool) (d : Due) → Applies w i (cut v b off d) → CutFits w i v b
cut_fits w i v b off d a = record { reach = a.reach; free = λ e. record { free = room b off e a.points_fit; in_table = a.new_in } }
  where
    room : (b off : Bool) → b ≡ true → pts (view w) + takes_points (cut v b off d) ≤ limit.POINTS → pts (view w) < limit.POINTS
    room true true e h = omega arith
    room true false e h = omega arith
    room false off e h = let y : ◌≡◌ {A = ℕ} 0 1 = cc in absurd (omega arith)

-- the counts after the ring's own part of a cut with an offcut
cut_within : (w : List ℕ) (i : ℕ) (v : Point) (b : Bool) (d : Due) → Reach w i → pts (view w) + takes_points (cut v b true d) ≤ limit.POINTS → Within (ring_writes raised (view w) i v b d)
cut_within w i v true d r h = let k : pts (view w) < limit.POINTS = omega arith in (omega arith, (k, (k, (k, (k, (k, (k, (r.prev_in, (r.second_in, (r.record_in, (r.record_in, (r.record_in, tt))))))))))))
cut_within w i v false d r h = (r.prev_in, (r.second_in, (r.record_in, (r.record_in, (r.record_in, tt)))))

points_left : (w : List ℕ) (i : ℕ) (v : Point) (b : Bool) (d : Due) → pts (view w) + takes_points (cut v b true d) ≤ limit.POINTS → on_store (view w) (ring_writes raised (view w) i v b d) (ct POINTS) 0 < limit.POINTS
points_left w i v true d h = omega arith
points_left w i v false d h = omega arith

records_left : (w : List ℕ) (i : ℕ) (v : Point) (b : Bool) (d : Due) → recs (view w) + 1 ≤ limit.RECORDS → on_store (view w) (ring_writes raised (view w) i v b d) (ct RECORDS) 0 < limit.RECORDS
records_left w i v true d h = omega arith
records_left w i v false d h = omega arith

module _ (w w₁ : List ℕ) (i : ℕ) (v : Point) (b : Bool) (d : Due) (x y : ℕ) (ex : x ≡ cell (rc PRESENT) w i) (ey : y ≡ cell (pt NEXT) w x) (e₁ : w₁ ≡ on_words w (ring_writes raised (view w) i v b d)) where
  pub off_fits : (off : Bool) → Applies w i (cut v b off d) → off ≡ true → OffcutFits w₁ i x y v
  off_fits off a e =
      let a' : Applies w i (cut v b true d) = subst (λ (o : Bool). Applies w i (cut v b o d)) e a in
      let q = view_writes w (ring_writes raised (view w) i v b d) a'.reach.long (cut_within w i v b d a'.reach a'.points_fit) in
      record {
        long = rw (e₁, length_writes w (ring_writes raised (view w) i v b d)) a'.reach.long;
        record_in = a'.reach.record_in;
        x_in = here_low w i x a'.reach ex;
        y_in = next_low w i x a'.reach ex y ey;
        free = subst (λ (u : List ℕ). view u (ct POINTS) 0 < limit.POINTS) (sym e₁) (subst (λ (s : Store). s (ct POINTS) 0 < limit.POINTS) (sym q) (points_left w i v b d a'.points_fit));
        record_free = subst (λ (u : List ℕ). view u (ct RECORDS) 0 < limit.RECORDS) (sym e₁) (subst (λ (s : Store). s (ct RECORDS) 0 < limit.RECORDS) (sym q) (records_left w i v b d a'.records_fit));
        in_table = a'.new_in;
      }

  pub with_off : (w₂ : List ℕ) (off : Bool) → off ≡ true → w₂ ≡ on_words w₁ (offcut_writes (view w₁) i x y (word_of v.x) (word_of v.y) v.z) → w₂ ≡ after_w raised w i (cut v b off d)
  with_off w₂ off e h = subst (λ (o : Bool). w₂ ≡ after_w raised w i (cut v b o d)) (sym e) (rw (h, ey, ex, e₁))

  pub without_off : (off : Bool) → off ≡ false → w₁ ≡ after_w raised w i (cut v b off d)
  without_off off e = subst (λ (o : Bool). w₁ ≡ after_w raised w i (cut v b o d)) (sym e) e₁

-- ---- every act
module _ (w w' : List ℕ) (i : ℕ) (t : Act) where
  pub by_discard : (y : Discard) → t ≡ act.Discard y → w' ≡ on_words w (discard_writes i (discard_is y)) → w' ≡ after_w raised w i (act_is t)
  by_discard y e h = subst (λ (t : Act). w' ≡ after_w raised w i (act_is t)) (sym e) h

  pub by_drop : t ≡ Drop → w' ≡ on_words w (drop_writes (view w) i) → w' ≡ after_w raised w i (act_is t)
  by_drop e h = subst (λ (t : Act). w' ≡ after_w raised w i (act_is t)) (sym e) h

  pub by_move : (d : code.Due) → t ≡ MoveOn d → w' ≡ on_words w (move_writes (view w) i (due_is d)) → w' ≡ after_w raised w i (act_is t)
  by_move d e h = subst (λ (t : Act). w' ≡ after_w raised w i (act_is t)) (sym e) h

  pub by_first : (d : code.Due) → t ≡ ToFirst d → w' ≡ on_words w (to_first_writes (view w) i (due_is d)) → w' ≡ after_w raised w i (act_is t)
  by_first d e h = subst (λ (t : Act). w' ≡ after_w raised w i (act_is t)) (sym e) h

  pub by_double : (v : Point) (d : code.Due) → t ≡ Double v d → w' ≡ on_words w (double_writes (view w) i (word_of v.x) (word_of v.y) v.z (due_is d)) → w' ≡ after_w raised w i (act_is t)
  by_double v d e h = subst (λ (t : Act). w' ≡ after_w raised w i (act_is t)) (sym e) h

  pub by_cut : (v : Point) (b off : Bool) (d : code.Due) → t ≡ Cut v b off d → w' ≡ after_w raised w i (cut v b off (due_is d)) → w' ≡ after_w raised w i (act_is t)
  by_cut v b off d e h = subst (λ (t : Act). w' ≡ after_w raised w i (act_is t)) (sym e) h

module _ (w : List ℕ) (i : ℕ) (t : Act) (a : Applies w i (act_is t)) where
  pub double_fits : (v : Point) (d : code.Due) → t ≡ Double v d → PointFits w v
  double_fits v d e = let a' : Applies w i (double v (due_is d)) = subst (λ (t : Act). Applies w i (act_is t)) e a in record { free = omega (arith, a'.points_fit); in_table = a'.new_in }

  pub cut_applies : (v : Point) (b off : Bool) (d : code.Due) → t ≡ Cut v b off d → Applies w i (cut v b off (due_is d))
  cut_applies v b off d e = subst (λ (t : Act). Applies w i (act_is t)) e a
