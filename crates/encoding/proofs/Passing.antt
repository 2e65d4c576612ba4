-- The words of a drawing that was written and read: rings one after the other, linked in their order; rows 4 to 8 pass.
use Prim.Native.Nat.{ℕ, zero, suc, ◌+◌, ◌-◌, ◌*◌, ◌%◌, ◌≤◌, ◌<◌}
use mathlib.Core.Path.{◌≡◌, refl, ap, ◌∙◌, sym}
use mathlib.Core.Logic.{◌≢◌, ◌⊎◌, inl, inr}
use mathlib.Core.Bool.{Bool, true, false, cond, not, ◌||◌, ◌&&◌}
use mathlib.Core.List.{List, [], ◌∷◌}
use native.Mathlib.Omega.{arith}
use native.Mathlib.Decide.{ℕ_discrete, dec_lt}
use lib.Dec.{eqb, leb}
use lib.ListN.{length, get_or}
use borrow.Author.Tests.{eq-eqb, ne_eqb, lt-ltb, le-ltb, lt-leb}
use Rattle.std.specs.Prelude.{Ok}
use Rattle.rings.specs.Count.{occ}
use Rattle.rings.specs.Walk.{walk}
use Rattle.rings.specs.Whole.{Whole}
use Rattle.rings.proofs.Counting.{one_here}
use Rattle.rings.proofs.Walking as walking
use Rattle.job.specs.Limits as limit
use Rattle.job.specs.declared.Job.{Job}
use Rattle.store.specs.Field.{pt, rc, X, Y, Z, FLAGS, NONE}
use Rattle.store.specs.Words.{view}
use Rattle.store.specs.Named.{settings_of, points_of, records_of, next_of, prev_of, rec_of, owner_of, first_of}
use Rattle.store.specs.Sound.{ring_at, is_open}
use Rattle.store.specs.Value.{word_of}
use Rattle.audit.specs.Tests.{is_in, any_below, off_table, no_such, no_such_of, loose}
use Rattle.audit.proofs.Saying.{all_none, table_on, such_not, tied_not, owned_not}
use Rattle.owners.specs.Owners.{ends_in, circles}
use Rattle.joins.specs.Resolve.{find_in, home_of}
use Rattle.visits.specs.Rings.{any_in, on_ring, alone, elsewhere, estranged}
use Rattle.rows.specs.Rows.{off_the_table, unnamed, no_such_number, loose_link, muddled, on_open, open_edge, rows_of}
use Rattle.order.specs.Demand3.{numbers}
use Rattle.drawing.specs.Places.{next_place, prev_place}
use Rattle.drawing.specs.Drawing.{Spot, Drawing}
use Rattle.drawing.proofs.Places.{next_place_low}
use Rattle.encoding.specs.Encode.{no_spot, record_at, length_at, first_number, its_ring, its_place, corner_at, spot_number, sheet_of}
use Rattle.encoding.proofs.Sheets.{SheetRead}
use Rattle.encoding.proofs.Numbering.{sum_up, prev_place_low, next_prev_place, prev_next_place, numbers_before, numbers_past, numbers_in, numbers_there, numbers_once, numbers_linked}
use Rattle.encoding.proofs.Encodable.{SpotValid, Encodable, number_at, low_number, ring_at_lem, place_at, spot_low}

-- the words hold the drawing, its points numbered ring by ring
pub record HoldsDrawing (d : Drawing) (w : List ℕ) : Type 0 where
  pub settings : settings_of w ≡ d.settings
  pub points : points_of w ≡ first_number d (length d.records)
  pub records : records_of w ≡ length d.records
  pub x : (i p : ℕ) → i < length d.records → p < length_at d i → view w (pt X) (first_number d i + p) ≡ word_of (corner_at d i p).x
  pub y : (i p : ℕ) → i < length d.records → p < length_at d i → view w (pt Y) (first_number d i + p) ≡ word_of (corner_at d i p).y
  pub z : (i p : ℕ) → i < length d.records → p < length_at d i → view w (pt Z) (first_number d i + p) ≡ (corner_at d i p).z
  pub next : (i p : ℕ) → i < length d.records → p < length_at d i → next_of w (first_number d i + p) ≡ first_number d i + next_place p (length_at d i)
  pub prev : (i p : ℕ) → i < length d.records → p < length_at d i → prev_of w (first_number d i + p) ≡ first_number d i + prev_place p (length_at d i)
  pub rec : (i p : ℕ) → i < length d.records → p < length_at d i → rec_of w (first_number d i + p) ≡ i
  pub flags : (i : ℕ) → i < length d.records → view w (rc FLAGS) i ≡ (record_at d i).flags
  pub owner : (i : ℕ) → i < length d.records → owner_of w i ≡ (record_at d i).owner
  pub first_none : (i : ℕ) → i < length d.records → length_at d i ≡ 0 → first_of w i ≡ NONE
  pub first_some : (i : ℕ) → i < length d.records → length_at d i ≢ 0 → first_of w i ≡ first_number d i

pub holds_drawing : (d : Drawing) (j : Job) (w ss js : List ℕ) → SheetRead (sheet_of d) j w ss js → HoldsDrawing d w
unfolding sheet_of
holds_drawing d j w ss js t =
    record {
      settings = t.settings;
      points = t.points;
      records = t.records;
      x = λ i p h l. t.numbers.points.x (first_number d i + p) (low_number d i p h l) ∙ ap (λ (q : Spot). word_of (corner_at d q.ring q.place).x) (spot i p h l);
      y = λ i p h l. t.numbers.points.y (first_number d i + p) (low_number d i p h l) ∙ ap (λ (q : Spot). word_of (corner_at d q.ring q.place).y) (spot i p h l);
      z = λ i p h l. t.numbers.points.z (first_number d i + p) (low_number d i p h l) ∙ ap (λ (q : Spot). (corner_at d q.ring q.place).z) (spot i p h l);
      next = λ i p h l. t.numbers.points.next (first_number d i + p) (low_number d i p h l) ∙ ap (λ (q : Spot). first_number d q.ring + next_place q.place (length_at d q.ring)) (spot i p h l);
      prev = λ i p h l. t.numbers.points.prev (first_number d i + p) (low_number d i p h l) ∙ ap (λ (q : Spot). first_number d q.ring + prev_place q.place (length_at d q.ring)) (spot i p h l);
      rec = λ i p h l. t.numbers.points.rec (first_number d i + p) (low_number d i p h l) ∙ ring_at_lem d i p h l;
      flags = t.numbers.records.flags;
      owner = t.numbers.records.owner;
      first_none = λ i h e. t.numbers.records.first i h ∙ rw (eq-eqb (length_at d i) 0 e);
      first_some = λ i h e. t.numbers.records.first i h ∙ rw (ne_eqb (length_at d i) 0 e);
    }
  where
    both : {a b c e : ℕ} → a ≡ b → c ≡ e → ◌≡◌ {A = Spot} (record { ring = a; place = c }) (record { ring = b; place = e })
    both p q = cc

    spot : (i p : ℕ) → i < length d.records → p < length_at d i → ◌≡◌ {A = Spot} (record { ring = its_ring d (first_number d i + p); place = its_place d (first_number d i + p) }) (record { ring = i; place = p })
    spot i p h l = both (ring_at_lem d i p h l) (place_at d i p h l)

-- ---- small laws of tests

any_none : (q : ℕ → Bool) (l : List ℕ) → ((k : ℕ) → 0 < occ k l → q k ≡ false) → any_in q l ≡ false
unfolding any_in
any_none q [] h = refl
any_none q (x ∷ l) h = rw (h x (omega (arith, one_here x)), any_none q l (λ k o. h k (omega arith)))

any_true : (n : ℕ) (q : ℕ → Bool) (i : ℕ) → i < n → q i ≡ true → any_below n q ≡ true
unfolding any_below
any_true zero q i h e = absurd (omega arith)
any_true (suc n) q i h e = go (ℕ_discrete i n) (λ l. any_true n q i l e)
  where
    or_true : (b : Bool) → (b || true) ≡ true
    or_true true = refl
    or_true false = refl

    go : Dec (i ≡ n) → (i < n → any_below n q ≡ true) → (any_below n q || q n) ≡ true
    go (yes z) r = rw (ap q (sym z) ∙ e) (or_true (any_below n q))
    go (no z) r = rw (r (omega arith))

find_here : (f : ℕ) (first owner : ℕ → ℕ) (r : ℕ) → first r ≢ NONE → find_in (suc f) first owner r ≡ r
unfolding find_in
find_here f first owner r d = rw (ne_eqb (first r) NONE d)

-- chains of owners that agree below n end alike
pub ends_same : (n : ℕ) (a b : ℕ → ℕ) → ((i : ℕ) → i < n → b i ≡ a i) → ((i : ℕ) → i < n → (a i ≡ NONE) ⊎ (a i < n)) → (f i : ℕ) → i < n → ends_in f b i ≡ ends_in f a i
unfolding ends_in
ends_same n a b e o zero i h = refl
ends_same n a b e o (suc f) i h = rw (e i h) (go (ℕ_discrete (a i) NONE) (o i h) (λ l. ends_same n a b e o f (a i) l))
  where
    go : Dec (a i ≡ NONE) → (a i ≡ NONE) ⊎ (a i < n) → (a i < n → ends_in f b (a i) ≡ ends_in f a (a i)) → cond (eqb (a i) NONE) true (ends_in f b (a i)) ≡ cond (eqb (a i) NONE) true (ends_in f a (a i))
    go (yes z) s r = rw (eq-eqb (a i) NONE z)
    go (no z) (inl s) r = absurd (z s)
    go (no z) (inr s) r = rw (r s)

or_falses : (a b : Bool) → a ≡ false → b ≡ false → (a || b) ≡ false
or_falses a b e f = rw (e, f)

-- ---- the rings

module _ (d : Drawing) (f : Encodable d) (w : List ℕ) (t : HoldsDrawing d w) where
  abbrev ring : ℕ → List ℕ
  ring i = numbers (first_number d i) (length_at d i)

  whole : (i : ℕ) → i < length d.records → Whole (next_of w) (prev_of w) (first_number d (length d.records)) (ring i)
  whole i h =
      record {
        linked = numbers_linked (next_of w) (prev_of w) (first_number d i) (length_at d i) (λ q l. t.next i q h l) (λ q l. t.prev i q h l);
        once = λ k. numbers_once k (first_number d i) (length_at d i);
        below = λ k o. let z = numbers_there k (first_number d i) (length_at d i) o in omega (arith, z.1, sum_up (length_at d) i (length d.records) h);
      }

  first_low : (i : ℕ) → i < length d.records → length_at d i ≢ 0 → first_number d i < limit.POINTS
  first_low i h e = omega (arith, low_number d i 0 h (omega arith), f.few_points)

  pub ring_walked : (i : ℕ) → i < length d.records → ring_at (view w) i ≡ ring i
  ring_walked i h = go (ℕ_discrete (length_at d i) 0)
    where
      walks : (m : ℕ) → Whole (next_of w) (prev_of w) (first_number d (length d.records)) (numbers (first_number d i) m) → m ≢ 0 → walk (next_of w) (first_number d i) ≡ numbers (first_number d i) m
      walks zero v z = absurd (z refl)
      walks (suc m) v z = walking.ring_is (next_of w) (prev_of w) (first_number d (length d.records)) (first_number d i) (numbers (suc (first_number d i)) m) f.few_points v

      go : Dec (length_at d i ≡ 0) → ring_at (view w) i ≡ ring i
      go (yes e) = rw (eq-eqb (first_of w i) NONE (t.first_none i h e)) (sym (ap (numbers (first_number d i)) e))
      go (no e) =
          let q = t.first_some i h e in
          rw (q, ne_eqb (first_number d i) NONE (λ z. omega (arith, first_low i h e))) (walks (length_at d i) (whole i h) e)

  first_not : (i : ℕ) → i < length d.records → length_at d i ≢ 0 → first_of w i ≢ NONE
  first_not i h e z = omega (arith, first_low i h e, t.first_some i h e, z)

  -- point k is on ring i exactly by its number
  on_it : (i p : ℕ) → i < length d.records → p < length_at d i → is_in (first_number d i + p) (ring_at (view w) i) ≡ true
  on_it i p h l = rw (ring_walked i h) (lt-ltb 0 (occ (first_number d i + p) (ring i)) (omega (arith, numbers_in (first_number d i + p) (first_number d i) (length_at d i) (omega arith) (omega arith))))

  off_it : (i p j : ℕ) → i < length d.records → p < length_at d i → j < length d.records → j ≢ i → is_in (first_number d i + p) (ring_at (view w) j) ≡ false
  off_it i p j h l m e = rw (ring_walked j m) (le-ltb 0 (occ (first_number d i + p) (ring j)) (omega (arith, none (dec_lt j i))))
    where
      none : Dec (j < i) → occ (first_number d i + p) (ring j) ≡ 0
      none (yes z) = numbers_past (first_number d i + p) (first_number d j) (length_at d j) (omega (arith, sum_up (length_at d) j i z))
      none (no z) = numbers_before (first_number d i + p) (first_number d j) (length_at d j) (omega (arith, sum_up (length_at d) i j (omega arith)))

  -- ---- rows 4 to 8

  low_next : (k : ℕ) → k < first_number d (length d.records) → (next_of w k < first_number d (length d.records)) × (prev_of w k < first_number d (length d.records)) × (rec_of w k < length d.records)
  low_next k h =
      let z = number_at d k h in
      let i = its_ring d k in
      let p = its_place d k in (
        rw (z.is, t.next i p z.known z.low) (low_number d i (next_place p (length_at d i)) z.known (next_place_low p (length_at d i) z.low)),
        rw (z.is, t.prev i p z.known z.low) (low_number d i (prev_place p (length_at d i)) z.known (prev_place_low p (length_at d i) z.low)),
        rw (z.is, t.rec i p z.known z.low) z.known,
      )

  linked_back : (k : ℕ) → k < first_number d (length d.records) → (next_of w (prev_of w k) ≡ k) × (prev_of w (next_of w k) ≡ k)
  linked_back k h =
      let z = number_at d k h in
      let i = its_ring d k in
      let p = its_place d k in
      let m = length_at d i in
      let a = t.prev i p z.known z.low in
      let b = t.next i p z.known z.low in (
        ap (λ (x : ℕ). next_of w (prev_of w x)) z.is ∙ ap (next_of w) a ∙ t.next i (prev_place p m) z.known (prev_place_low p m z.low) ∙ ap (λ (x : ℕ). first_number d i + x) (next_prev_place p m z.low) ∙ sym z.is,
        ap (λ (x : ℕ). prev_of w (next_of w x)) z.is ∙ ap (prev_of w) b ∙ t.prev i (next_place p m) z.known (next_place_low p m z.low) ∙ ap (λ (x : ℕ). first_number d i + x) (prev_next_place p m z.low) ∙ sym z.is,
      )

  row_4 : off_the_table w ≡ false
  row_4 = all_none (points_of w) (off_table w) (λ k h. go k (omega (arith, t.points)))
    where
      go : (k : ℕ) → k < first_number d (length d.records) → off_table w k ≡ false
      go k h =
          let z = number_at d k h in
          let i = its_ring d k in
          let p = its_place d k in
          table_on w k
          (omega (arith, ap (view w (pt X)) z.is ∙ t.x i p z.known z.low, f.x_in i p z.known z.low))
          (omega (arith, ap (view w (pt Y)) z.is ∙ t.y i p z.known z.low, f.y_in i p z.known z.low))

  row_5_points : any_below (points_of w) (no_such w) ≡ false
  row_5_points =
      all_none (points_of w) (no_such w)
      (λ k h. let z = low_next k (omega (arith, t.points)) in such_not w k (omega (arith, z.0, t.points)) (omega (arith, z.1, t.points)) (omega (arith, z.2, t.records)))

  row_5_records : any_below (records_of w) (no_such_of w) ≡ false
  row_5_records = all_none (records_of w) (no_such_of w) (λ i h. owned_not w i (owns i (omega (arith, t.records))) (firsts i (omega (arith, t.records)) (ℕ_discrete (length_at d i) 0)))
    where
      owns : (i : ℕ) → i < length d.records → (owner_of w i ≡ NONE) ⊎ (owner_of w i < records_of w)
      owns i h = rw (t.owner i h, t.records) (f.owner i h)

      firsts : (i : ℕ) → i < length d.records → Dec (length_at d i ≡ 0) → (first_of w i ≡ NONE) ⊎ (first_of w i < points_of w)
      firsts i h (yes e) = inl (t.first_none i h e)
      firsts i h (no e) = inr (omega (arith, t.first_some i h e, t.points, low_number d i 0 h (omega arith)))

  named : (l : List ℕ) (n : ℕ) → ((i : ℕ) → i < n → get_or l i 0 < first_number d (length d.records)) → unnamed w l n ≡ false
  named l n h = all_none n (λ i. leb (points_of w) (get_or l i 0)) (λ i b. lt-leb (points_of w) (get_or l i 0) (omega (arith, h i b, t.points)))

  row_6 : loose_link w ≡ false
  row_6 = all_none (points_of w) (loose w) (λ k h. let z = linked_back k (omega (arith, t.points)) in tied_not w k z.0 z.1)

  no_circles : any_below (records_of w) (circles w) ≡ false
  no_circles =
      all_none (records_of w) (circles w)
      (λ i h. ap not (ends_same (length d.records) (λ r. (record_at d r).owner) (owner_of w) t.owner f.owner limit.RECORDS i (omega (arith, t.records)) ∙ f.ends i (omega (arith, t.records))))

  none_estranged : any_below (records_of w) (estranged w) ≡ false
  none_estranged = all_none (records_of w) (estranged w) (λ i h. go i (omega (arith, t.records)))
    where
      home : (i k : ℕ) → i < length d.records → (first_number d i ≤ k) × (k < first_number d i + length_at d i) → home_of w k ≡ i
      home i k h b =
          let l : k - first_number d i < length_at d i = omega (arith, b.0, b.1) in
          let e : k ≡ first_number d i + (k - first_number d i) = omega (arith, b.0) in
          let q : rec_of w k ≡ i = ap (rec_of w) e ∙ t.rec i (k - first_number d i) h l in
          ap (find_in limit.RECORDS (first_of w) (owner_of w)) q ∙ find_here 511 (first_of w) (owner_of w) i (first_not i h (λ z. omega arith))

      go : (i : ℕ) → i < length d.records → estranged w i ≡ false
      go i h = rw (ring_walked i h) (any_none (elsewhere w i) (ring i) (λ k o. ap not (eq-eqb (home_of w k) i (home i k h (numbers_there k (first_number d i) (length_at d i) o)))))

  none_alone : any_below (points_of w) (alone w) ≡ false
  none_alone = all_none (points_of w) (alone w) (λ k h. go k (omega (arith, t.points)))
    where
      go : (k : ℕ) → k < first_number d (length d.records) → alone w k ≡ false
      go k h =
          let z = number_at d k h in
          ap not (any_true (records_of w) (λ i. on_ring w i k) (its_ring d k) (omega (arith, z.known, t.records)) (ap (λ (x : ℕ). on_ring w (its_ring d k) x) z.is ∙ on_it (its_ring d k) (its_place d k) z.known z.low))

  row_7 : muddled w ≡ false
  row_7 = or_falses (any_below (records_of w) (circles w)) (any_below (records_of w) (estranged w) || any_below (points_of w) (alone w)) no_circles (or_falses (any_below (records_of w) (estranged w)) (any_below (points_of w) (alone w)) none_estranged none_alone)

  -- a spot's point is on no open ring
  spot_shut : (s : Spot) → SpotValid d s → on_open w (spot_number d s) ≡ false
  unfolding spot_number
  spot_shut s v = all_none (records_of w) (λ i. is_open (view w) i && on_ring w i (first_number d s.ring + s.place)) (λ i h. go i (omega (arith, t.records)) (ℕ_discrete i s.ring))
    where
      and_false : (b : Bool) → (b && false) ≡ false
      and_false true = refl
      and_false false = refl

      go : (i : ℕ) → i < length d.records → Dec (i ≡ s.ring) → (is_open (view w) i && on_ring w i (first_number d s.ring + s.place)) ≡ false
      go i h (yes e) = rw (ap (λ (x : ℕ). eqb (x % 2) 1) (t.flags i h ∙ ap (λ (x : ℕ). (record_at d x).flags) e) ∙ v.closed)
      go i h (no e) = rw (off_it s.ring s.place i v.known v.low h e) (and_false (is_open (view w) i))

  shut : (l : List ℕ) (n : ℕ) → ((i : ℕ) → i < n → on_open w (get_or l i 0) ≡ false) → any_below n (λ i. on_open w (get_or l i 0)) ≡ false
  shut l n h = all_none n (λ i. on_open w (get_or l i 0)) h

  -- the lists name spots
  abbrev pub Spots : List ℕ → ℕ → List Spot → Type 0
  Spots l n qs = (i : ℕ) → i < n → (get_or l i 0 ≡ spot_number d (get_or qs i no_spot)) × SpotValid d (get_or qs i no_spot)

  pub rows_pass : (ss : List ℕ) (m : ℕ) (js : List ℕ) (n : ℕ) → Spots ss m d.segments → Spots js (2 * n) d.joins → rows_of w ss m js n ≡ Ok tt
  unfolding rows_of
  rows_pass ss m js n a b =
      let c : unnamed w ss m ≡ false = named ss m (λ i h. rw (a i h).0 (spot_low d (get_or d.segments i no_spot) (a i h).1)) in
      let e : unnamed w js (2 * n) ≡ false = named js (2 * n) (λ i h. rw (b i h).0 (spot_low d (get_or d.joins i no_spot) (b i h).1)) in
      let g : no_such_number w ss m js n ≡ false =
      or_falses (any_below (points_of w) (no_such w)) (any_below (records_of w) (no_such_of w) || (unnamed w ss m || unnamed w js (2 * n))) row_5_points
      (or_falses (any_below (records_of w) (no_such_of w)) (unnamed w ss m || unnamed w js (2 * n)) row_5_records (or_falses (unnamed w ss m) (unnamed w js (2 * n)) c e)) in
      let o : open_edge w ss m js n ≡ false =
      or_falses (any_below m (λ i. on_open w (get_or ss i 0))) (any_below (2 * n) (λ i. on_open w (get_or js i 0)))
      (shut ss m (λ i h. ap (on_open w) (a i h).0 ∙ spot_shut (get_or d.segments i no_spot) (a i h).1)) (shut js (2 * n) (λ i h. ap (on_open w) (b i h).0 ∙ spot_shut (get_or d.joins i no_spot) (b i h).1)) in
      rw (row_4, g, row_6, row_7, o)
