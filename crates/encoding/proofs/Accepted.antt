-- The drawing of an accepted job can be encoded, and has as many points as the job.
use Prim.Native.Nat.{ℕ, zero, suc, ◌+◌, ◌*◌, ◌%◌, ◌≤◌, ◌<◌}
use mathlib.Core.Path.{◌≡◌, refl, ap, ◌∙◌, sym, subst}
use mathlib.Core.Bool.{Bool, true, false, ◌&&◌}
use mathlib.Core.List.{List, [], ◌∷◌, map}
use mathlib.Core.Option.{some}
use native.Mathlib.Nat.{zero-add}
use native.Mathlib.Omega.{arith}
use lib.Dec.{eqb}
use lib.ListN.{length, get_or, length-map}
use borrow.Author.Tests.{lt-ltb}
use Rattle.rings.proofs.Counting.{length_table, at_table}
use Rattle.numbers.specs.Raised.{coordinate}
use Rattle.rings.specs.Count.{occ}
use Rattle.rings.specs.Place.{place, or_zero}
use Rattle.geometry.specs.declared.Point.{Point}
use Rattle.job.specs.Limits as limit
use Rattle.job.specs.declared.Job.{Job}
use Rattle.store.specs.Field.{pt, X, Y, Z}
use Rattle.store.specs.Words.{view}
use Rattle.store.specs.Named.{settings_of, points_of, records_of, owner_of}
use Rattle.store.specs.Sound.{ring_at, is_open}
use Rattle.store.specs.Value.{word_of, point_at}
use Rattle.audit.specs.Tests.{any_below}
use Rattle.audit.proofs.Saying.{none_of}
use Rattle.joins.specs.Resolve.{home_of}
use Rattle.joins.specs.Paths.{Lives}
use Rattle.joins.specs.Resolved.{Ready}
use Rattle.joins.proofs.Homes.{on_ring_lem}
use Rattle.joins.proofs.Finding.{at_home}
use Rattle.owners.specs.Owners.{ends_in}
use Rattle.visits.specs.Rings.{on_ring}
use Rattle.rows.specs.Rows.{on_open}
use Rattle.audit.proofs.Testing.{or_left, or_right}
use Rattle.rows.proofs.Homes.{named_at}
use Rattle.accepting.specs.Accepted.{Accepted}
use Rattle.drawing.specs.Drawing.{Drawn, Drawing, drawn_at, spot_of, drawing_of}
use Rattle.drawing.proofs.Drawings.{word_back, spot_point}
use Rattle.drawing.proofs.Places.{place_low, at_place, at_most}
use Rattle.drawing.proofs.Naming.{home_is, at_lives}
use Rattle.encoding.specs.Encode.{no_record, no_spot, origin, record_at, length_at, first_number, its_ring, its_place, corner_at, spot_number}
use Rattle.encoding.proofs.Encodable.{SpotValid, Encodable, NumberAt, number_at, low_number, ring_at_lem, place_at}
use Rattle.encoding.proofs.Passing.{ends_same}

map_get_d : {A : Type 0} (f : ℕ → A) (l : List ℕ) (e : A) (p : ℕ) → p < length l → get_or (map f l) p e ≡ f (get_or l p 0)
map_get_d f [] e p h = absurd (omega arith)
map_get_d f (x ∷ l) e zero h = refl
map_get_d f (x ∷ l) e (suc p) h = map_get_d f l e p (omega arith)

module _ (j : Job) (w ss js : List ℕ) (acc : Accepted j w ss js) where
  abbrev m : ℕ
  m = j.segments

  abbrev n : ℕ
  n = j.joins

  abbrev o : Ready w
  o = acc.ready

  abbrev d : Drawing
  d = drawing_of w ss m js n

  pub count : length d.records ≡ records_of w
  unfolding drawing_of
  count = length_table (drawn_at (view w)) 0 (records_of w)

  record_is : (i : ℕ) → i < records_of w → record_at d i ≡ drawn_at (view w) i
  unfolding drawing_of
  record_is i h = at_table (drawn_at (view w)) no_record 0 (records_of w) i h ∙ ap (drawn_at (view w)) (zero-add i)

  length_is : (i : ℕ) → i < records_of w → length_at d i ≡ length (ring_at (view w) i)
  length_is i h = ap (λ (r : Drawn). length r.ring) (record_is i h) ∙ length-map (ring_at (view w) i) (point_at (view w))

  corner_is : (i p : ℕ) → i < records_of w → p < length (ring_at (view w) i) → corner_at d i p ≡ point_at (view w) (get_or (ring_at (view w) i) p 0)
  corner_is i p h l = ap (λ (r : Drawn). get_or r.ring p origin) (record_is i h) ∙ map_get_d (point_at (view w)) (ring_at (view w) i) origin p l

  -- ---- as many places as points

  point : ℕ → ℕ
  point k = get_or (ring_at (view w) (its_ring d k)) (its_place d k) 0

  module _ (k : ℕ) (h : k < first_number d (length d.records)) where
    at : NumberAt d k
    at = number_at d k h

    known : its_ring d k < records_of w
    known = omega (arith, at.known, count)

    low : its_place d k < length (ring_at (view w) (its_ring d k))
    low = omega (arith, at.low, length_is (its_ring d k) known)

    lives : Lives (view w) (its_ring d k) (point k)
    unfolding point
    lives = at_lives (view w) o.resolved (its_ring d k) (its_place d k) known low

    placed : place (point k) (ring_at (view w) (its_ring d k)) ≡ some (its_place d k)
    unfolding point
    placed = at_place (its_place d k) (ring_at (view w) (its_ring d k)) (o.resolved.whole (its_ring d k) known).once low

  apart : (k l : ℕ) → k < first_number d (length d.records) → l < first_number d (length d.records) → point k ≡ point l → k ≡ l
  apart k l h g e =
      let r : its_ring d k ≡ its_ring d l = sym (home_is w o (its_ring d k) (point k) (lives k h)) ∙ ap (home_of w) e ∙ home_is w o (its_ring d l) (point l) (lives l g) in
      let p : its_place d k ≡ its_place d l = ap or_zero (sym (placed k h) ∙ ap (λ (x : ℕ). place x (ring_at (view w) (its_ring d k))) e ∙ ap (λ (i : ℕ). place (point l) (ring_at (view w) i)) r ∙ placed l g) in
      (at k h).is ∙ ap (λ (i : ℕ). first_number d i + its_place d k) r ∙ ap (λ (x : ℕ). first_number d (its_ring d l) + x) p ∙ sym (at l g).is

  no_more : first_number d (length d.records) ≤ points_of w
  no_more = at_most point (first_number d (length d.records)) (points_of w) (λ k h. (lives k h).bound) apart

  -- and as many points as places: a point's spot has a number of its own
  module _ (k : ℕ) (h : k < points_of w) where
    spot_known : (spot_of w k).ring < records_of w
    spot_known = (at_home w o k (home_of w k) h refl).res.real

    spot_place : (spot_of w k).place < length_at d (spot_of w k).ring
    spot_place = let z = at_home w o k (home_of w k) h refl in rw (length_is (home_of w k) z.res.real) (place_low k (ring_at (view w) (home_of w k)) (on_ring_lem (view w) o.resolved (home_of w k) k z))

    ring_told : its_ring d (spot_number d (spot_of w k)) ≡ (spot_of w k).ring
    unfolding spot_number
    ring_told = ring_at_lem d (spot_of w k).ring (spot_of w k).place (omega (arith, spot_known, count)) spot_place

    place_told : its_place d (spot_number d (spot_of w k)) ≡ (spot_of w k).place
    unfolding spot_number
    place_told = place_at d (spot_of w k).ring (spot_of w k).place (omega (arith, spot_known, count)) spot_place

    number_low : spot_number d (spot_of w k) < first_number d (length d.records)
    unfolding spot_number
    number_low = low_number d (spot_of w k).ring (spot_of w k).place (omega (arith, spot_known, count)) spot_place

    -- the number tells the point
    told : point (spot_number d (spot_of w k)) ≡ k
    unfolding point
    told = ap (λ (i : ℕ). get_or (ring_at (view w) i) (its_place d (spot_number d (spot_of w k))) 0) ring_told ∙ ap (λ (p : ℕ). get_or (ring_at (view w) (spot_of w k).ring) p 0) place_told ∙ spot_point w o k h

  no_fewer : points_of w ≤ first_number d (length d.records)
  no_fewer = at_most (λ k. spot_number d (spot_of w k)) (points_of w) (first_number d (length d.records)) number_low (λ k l h g e. sym (told k h) ∙ ap point e ∙ told l g)

  pub as_many : first_number d (length d.records) ≡ points_of w
  as_many = omega (arith, no_more, no_fewer)

  -- ---- owners

  owner_is : (i : ℕ) → i < records_of w → (record_at d i).owner ≡ owner_of w i
  owner_is i h = ap (λ (r : Drawn). r.owner) (record_is i h)

  ends : (i : ℕ) → i < records_of w → ends_in limit.RECORDS (λ r. (record_at d r).owner) i ≡ true
  ends i h = ends_same (records_of w) (owner_of w) (λ r. (record_at d r).owner) owner_is o.resolved.owner_in limit.RECORDS i h ∙ acc.chains i h

  -- ---- spots

  spot_valid : (a : ℕ) → a < points_of w → on_open w a ≡ false → SpotValid d (spot_of w a)
  spot_valid a h e =
      let i = home_of w a in
      let z = at_home w o a i h refl in
      let r = on_ring_lem (view w) o.resolved i a z in
      record {
        known = omega (arith, count, z.res.real);
        low = omega (arith, length_is i z.res.real, place_low a (ring_at (view w) i) r);
        closed = ap (λ (q : Drawn). eqb (q.flags % 2) 1) (record_is i z.res.real) ∙ shut i z.res.real (lt-ltb 0 (occ a (ring_at (view w) i)) r);
      }
    where
      by : (x : Bool) → (x && true) ≡ false → x ≡ false
      by true q = q
      by false q = refl

      shut : (i : ℕ) → i < records_of w → on_ring w i a ≡ true → is_open (view w) i ≡ false
      shut i l r = by (is_open (view w) i) (subst (λ (x : Bool). (is_open (view w) i && x) ≡ false) r (none_of (records_of w) (λ j. is_open (view w) j && on_ring w j a) e i l))

  segment_valid : (i : ℕ) → i < length d.segments → SpotValid d (get_or d.segments i no_spot)
  unfolding drawing_of
  segment_valid i h =
      let l : i < m = omega (arith, length_table (λ k. spot_of w (get_or ss k 0)) 0 m) in
      subst (SpotValid d) (sym (at_table (λ k. spot_of w (get_or ss k 0)) no_spot 0 m i l ∙ ap (λ (k : ℕ). spot_of w (get_or ss k 0)) (zero-add i)))
      (spot_valid (get_or ss i 0) (named_at w ss m acc.segments i l) (none_of m (λ k. on_open w (get_or ss k 0)) (or_left (any_below m (λ k. on_open w (get_or ss k 0))) (any_below (2 * n) (λ k. on_open w (get_or js k 0))) acc.closed) i l))

  join_valid : (i : ℕ) → i < length d.joins → SpotValid d (get_or d.joins i no_spot)
  unfolding drawing_of
  join_valid i h =
      let l : i < 2 * n = omega (arith, length_table (λ k. spot_of w (get_or js k 0)) 0 (2 * n)) in
      subst (SpotValid d) (sym (at_table (λ k. spot_of w (get_or js k 0)) no_spot 0 (2 * n) i l ∙ ap (λ (k : ℕ). spot_of w (get_or js k 0)) (zero-add i)))
      (spot_valid (get_or js i 0) (named_at w js (2 * n) acc.joins i l) (none_of (2 * n) (λ k. on_open w (get_or js k 0)) (or_right (any_below m (λ k. on_open w (get_or ss k 0))) (any_below (2 * n) (λ k. on_open w (get_or js k 0))) acc.closed) i l))

  pub segments_count : length d.segments ≡ m
  unfolding drawing_of
  segments_count = length_table (λ k. spot_of w (get_or ss k 0)) 0 m

  pub joins_count : length d.joins ≡ 2 * n
  unfolding drawing_of
  joins_count = length_table (λ k. spot_of w (get_or js k 0)) 0 (2 * n)

  settings_is : d.settings ≡ settings_of w
  unfolding drawing_of
  settings_is = refl

  -- ---- coordinates

  module _ (i p : ℕ) (h : i < length d.records) (l : p < length_at d i) where
    in_w : i < records_of w
    in_w = omega (arith, count)

    on_w : p < length (ring_at (view w) i)
    on_w = omega (arith, length_is i in_w)

    here : ℕ
    here = get_or (ring_at (view w) i) p 0

    bound : here < points_of w
    unfolding here
    bound = (at_lives (view w) o.resolved i p in_w on_w).bound

    x_is : (corner_at d i p).x ≡ coordinate limit.COORDINATE (view w (pt X) here)
    unfolding here
    x_is = ap (λ (q : Point). q.x) (corner_is i p in_w on_w)

    y_is : (corner_at d i p).y ≡ coordinate limit.COORDINATE (view w (pt Y) here)
    unfolding here
    y_is = ap (λ (q : Point). q.y) (corner_is i p in_w on_w)

    x_word : word_of (corner_at d i p).x ≡ view w (pt X) here
    x_word = ap word_of x_is ∙ word_back (view w (pt X) here)

    y_word : word_of (corner_at d i p).y ≡ view w (pt Y) here
    y_word = ap word_of y_is ∙ word_back (view w (pt Y) here)

    z_is : (corner_at d i p).z ≡ view w (pt Z) here
    unfolding here
    z_is = ap (λ (q : Point). q.z) (corner_is i p in_w on_w)

  pub encodable : Encodable d
  encodable =
      record {
        bits = omega (arith, settings_is, acc.bits.settings);
        few_points = omega (arith, no_more, o.resolved.few_points);
        few_records = omega (arith, count, o.resolved.few_records);
        few_segments = omega (arith, segments_count, acc.counts.within.segments);
        pairs = omega (arith, joins_count);
        few_joins = omega (arith, joins_count, acc.counts.within.joins);
        flags = λ i h. let l : i < records_of w = omega (arith, count) in omega (arith, ap (λ (r : Drawn). r.flags) (record_is i l), acc.bits.flags i l);
        owner = λ i h. let l : i < records_of w = omega (arith, count) in rw (owner_is i l, count) (o.resolved.owner_in i l);
        ends = λ i h. ends i (omega (arith, count));
        x_in = λ i p h l. omega (arith, x_word i p h l, o.resolved.x_in (here i p h l) (bound i p h l));
        y_in = λ i p h l. omega (arith, y_word i p h l, o.resolved.y_in (here i p h l) (bound i p h l));
        x_back = λ i p h l. ap (coordinate limit.COORDINATE) (x_word i p h l) ∙ sym (x_is i p h l);
        y_back = λ i p h l. ap (coordinate limit.COORDINATE) (y_word i p h l) ∙ sym (y_is i p h l);
        z_in = λ i p h l. omega (arith, z_is i p h l, acc.bits.depths (here i p h l) (bound i p h l));
        segments = segment_valid;
        joins = join_valid;
      }
