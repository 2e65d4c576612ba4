-- Document 02, Ask 3: "records in their order, each ring's points in walk order from its first point, points renumbered so, every point naming the record it
-- resolves to, segments and joins renumbered to match".
use Rattle.std.specs.Prelude.{ℕ, zero, suc, ◌+◌, ◌-◌, ◌*◌, ◌/◌, cond, List, [], eqb, leb, pos, length, get_or}
use Rattle.rings.specs.Count.{sum_to}
use Rattle.geometry.specs.declared.Point.{Point}
use Rattle.store.specs.Field.{NONE}
use Rattle.store.specs.Value.{word_of}
use Rattle.drawing.specs.Places.{next_place, prev_place}
use Rattle.drawing.specs.Drawing.{Drawn, Spot, Drawing}
use Rattle.encoding.specs.Sheet.{Sheet, sheet_bytes}

-- of n rings with these lengths, the one that has point k where the points are numbered ring by ring
unfoldable pub ring_holding : (ℕ → ℕ) → ℕ → ℕ → ℕ
ring_holding len zero k = 0
ring_holding len (suc n) k = cond (leb (sum_to n len) k) n (ring_holding len n k)

-- what stands past the end of a list
abbrev pub no_record : Drawn
no_record = record { flags = 0; owner = NONE; ring = [] }

abbrev pub no_spot : Spot
no_spot = record { ring = 0; place = 0 }

abbrev pub origin : Point
origin = record { x = pos 0; y = pos 0; z = 0 }

module _ (d : Drawing) where
  abbrev pub record_at : ℕ → Drawn
  record_at i = get_or d.records i no_record

  abbrev pub length_at : ℕ → ℕ
  length_at i = length (record_at i).ring

  -- the new number of ring i's first point: as many points come before
  abbrev pub first_number : ℕ → ℕ
  first_number i = sum_to i length_at

  -- the ring of the point numbered k, and its place there
  unfoldable pub its_ring : ℕ → ℕ
  its_ring k = ring_holding length_at (length d.records) k

  unfoldable pub its_place : ℕ → ℕ
  its_place k = k - first_number (its_ring k)

  abbrev pub corner_at : ℕ → ℕ → Point
  corner_at i p = get_or (record_at i).ring p origin

  -- the new number of a segment's or a join's point
  unfoldable pub spot_number : Spot → ℕ
  spot_number s = first_number s.ring + s.place

  unfoldable pub sheet_of : Sheet
  sheet_of =
      record {
        bits = d.settings;
        points = first_number (length d.records);
        records = length d.records;
        segments = length d.segments;
        joins = length d.joins / 2;
        x = λ k. word_of (corner_at (its_ring k) (its_place k)).x;
        y = λ k. word_of (corner_at (its_ring k) (its_place k)).y;
        next = λ k. first_number (its_ring k) + next_place (its_place k) (length_at (its_ring k));
        prev = λ k. first_number (its_ring k) + prev_place (its_place k) (length_at (its_ring k));
        rec = its_ring;
        z = λ k. (corner_at (its_ring k) (its_place k)).z;
        flags = λ i. (record_at i).flags;
        owner = λ i. (record_at i).owner;
        first = λ i. cond (eqb (length_at i) 0) NONE (first_number i);
        segment = λ i. spot_number (get_or d.segments i no_spot);
        one = λ i. spot_number (get_or d.joins (2 * i) no_spot);
        two = λ i. spot_number (get_or d.joins (2 * i + 1) no_spot);
      }

  -- the bytes of the drawing
  unfoldable pub encode : List ℕ
  encode = sheet_bytes sheet_of
