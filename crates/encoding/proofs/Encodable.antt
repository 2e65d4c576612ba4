-- Drawings that can be encoded: their sheet's numbers fit, and each number of a point has its ring and place.
use Prim.Native.Nat.{ℕ, ◌+◌, ◌*◌, ◌/◌, ◌%◌, ◌≤◌, ◌<◌}
use mathlib.Core.Path.{◌≡◌}
use mathlib.Core.Logic.{◌⊎◌, inl, inr}
use mathlib.Core.Bool.{true, false, cond}
use native.Mathlib.Omega.{arith}
use native.Mathlib.Decide.{ℕ_discrete}
use lib.Dec.{eqb}
use lib.ListN.{length, get_or}
use borrow.Author.Tests.{eq-eqb, ne_eqb}
use Rattle.numbers.specs.Raised.{coordinate}
use Rattle.job.specs.Limits as limit
use Rattle.store.specs.Field.{NONE}
use Rattle.store.specs.Value.{word_of}
use Rattle.owners.specs.Owners.{ends_in}
use Rattle.drawing.specs.Places.{next_place, prev_place}
use Rattle.drawing.specs.Drawing.{Spot, Drawing}
use Rattle.drawing.proofs.Places.{next_place_low}
use Rattle.encoding.specs.Encode.{no_spot, record_at, length_at, first_number, its_ring, its_place, corner_at, spot_number, sheet_of}
use Rattle.encoding.proofs.Numbers.{SheetFits}
use Rattle.encoding.proofs.Numbering.{sum_up, ring_found, ring_is, prev_place_low}

-- a spot of the drawing: on a closed ring
pub record SpotValid (d : Drawing) (s : Spot) : Type 0 where
  pub known : s.ring < length d.records
  pub low : s.place < length_at d s.ring
  pub closed : eqb ((record_at d s.ring).flags % 2) 1 ≡ false

-- what holds of the drawing of an accepted job
pub record Encodable (d : Drawing) : Type 0 where
  pub bits : d.settings ≤ 3
  pub few_points : first_number d (length d.records) ≤ limit.POINTS
  pub few_records : length d.records ≤ limit.RECORDS
  pub few_segments : length d.segments ≤ limit.SEGMENTS
  pub pairs : length d.joins ≡ 2 * (length d.joins / 2)
  pub few_joins : length d.joins / 2 ≤ limit.JOINS
  pub flags : (i : ℕ) → i < length d.records → (record_at d i).flags ≤ 3
  pub owner : (i : ℕ) → i < length d.records → ((record_at d i).owner ≡ NONE) ⊎ ((record_at d i).owner < length d.records)
  pub ends : (i : ℕ) → i < length d.records → ends_in limit.RECORDS (λ r. (record_at d r).owner) i ≡ true
  pub x_in : (i p : ℕ) → i < length d.records → p < length_at d i → word_of (corner_at d i p).x ≤ 2 * limit.COORDINATE
  pub y_in : (i p : ℕ) → i < length d.records → p < length_at d i → word_of (corner_at d i p).y ≤ 2 * limit.COORDINATE
  pub x_back : (i p : ℕ) → i < length d.records → p < length_at d i → coordinate limit.COORDINATE (word_of (corner_at d i p).x) ≡ (corner_at d i p).x
  pub y_back : (i p : ℕ) → i < length d.records → p < length_at d i → coordinate limit.COORDINATE (word_of (corner_at d i p).y) ≡ (corner_at d i p).y
  pub z_in : (i p : ℕ) → i < length d.records → p < length_at d i → (corner_at d i p).z < 4294967296
  pub segments : (i : ℕ) → i < length d.segments → SpotValid d (get_or d.segments i no_spot)
  pub joins : (i : ℕ) → i < length d.joins → SpotValid d (get_or d.joins i no_spot)

-- ---- numbers of points

module _ (d : Drawing) where
  abbrev R : ℕ
  R = length d.records

  abbrev P : ℕ
  P = first_number d (length d.records)

  pub low_number : (i p : ℕ) → i < R → p < length_at d i → first_number d i + p < P
  low_number i p h l = omega (arith, sum_up (length_at d) i R h)

  pub record NumberAt (k : ℕ) : Type 0 where
    pub known : its_ring d k < R
    pub low : its_place d k < length_at d (its_ring d k)
    pub is : k ≡ first_number d (its_ring d k) + its_place d k

  pub number_at : (k : ℕ) → k < P → NumberAt k
  unfolding its_ring its_place
  number_at k h =
      let z = ring_found (length_at d) R k h in
      record { known = z.known; low = omega (arith, z.low, z.high); is = omega (arith, z.low) }

  pub ring_at_lem : (i p : ℕ) → i < R → p < length_at d i → its_ring d (first_number d i + p) ≡ i
  unfolding its_ring
  ring_at_lem i p h l = ring_is (length_at d) R i p h l

  pub place_at : (i p : ℕ) → i < R → p < length_at d i → its_place d (first_number d i + p) ≡ p
  unfolding its_place
  place_at i p h l = rw (ring_at_lem i p h l) (omega arith)

  pub spot_low : (s : Spot) → SpotValid d s → spot_number d s < P
  unfolding spot_number
  spot_low s v = low_number s.ring s.place v.known v.low

  -- ---- the sheet fits

  pub fits : Encodable d → SheetFits (sheet_of d)
  unfolding sheet_of
  fits f =
      record {
        bits = f.bits;
        points = f.few_points;
        records = f.few_records;
        segments = f.few_segments;
        joins = f.few_joins;
        x = λ k h. let z = number_at k h in f.x_in (its_ring d k) (its_place d k) z.known z.low;
        y = λ k h. let z = number_at k h in f.y_in (its_ring d k) (its_place d k) z.known z.low;
        next = λ k h. let z = number_at k h in omega (arith, low_number (its_ring d k) (next_place (its_place d k) (length_at d (its_ring d k))) z.known (next_place_low (its_place d k) (length_at d (its_ring d k)) z.low), f.few_points);
        prev = λ k h. let z = number_at k h in omega (arith, low_number (its_ring d k) (prev_place (its_place d k) (length_at d (its_ring d k))) z.known (prev_place_low (its_place d k) (length_at d (its_ring d k)) z.low), f.few_points);
        rec = λ k h. let z = number_at k h in omega (arith, z.known, f.few_records);
        z = λ k h. let z = number_at k h in f.z_in (its_ring d k) (its_place d k) z.known z.low;
        flags = f.flags;
        owner = λ i h. own (record_at d i).owner (f.owner i h);
        first = λ i h. start i h (ℕ_discrete (length_at d i) 0);
        segment = λ i h. omega (arith, spot_low (get_or d.segments i no_spot) (f.segments i h), f.few_points);
        one = λ i h. omega (arith, spot_low (get_or d.joins (2 * i) no_spot) (f.joins (2 * i) (omega (arith, f.pairs))), f.few_points);
        two = λ i h. omega (arith, spot_low (get_or d.joins (2 * i + 1) no_spot) (f.joins (2 * i + 1) (omega (arith, f.pairs))), f.few_points);
      }
    where
      own : (o : ℕ) → (o ≡ NONE) ⊎ (o < R) → o < 65536
      own o (inl e) = omega arith
      own o (inr e) = omega (arith, f.few_records)

      start : (i : ℕ) → i < R → Dec (length_at d i ≡ 0) → cond (eqb (length_at d i) 0) NONE (first_number d i) < 65536
      start i h (yes e) = rw (eq-eqb (length_at d i) 0 e) (omega arith)
      start i h (no e) = rw (ne_eqb (length_at d i) 0 e) (omega (arith, low_number i 0 h (omega arith), f.few_points))
