-- The fields that are written are those of the job's drawing.
use Prim.Native.Nat.{ℕ, zero, suc, ◌+◌, ◌*◌, ◌/◌, ◌≤◌, ◌<◌}
use mathlib.Core.Path.{◌≡◌, refl, sym, ap, ◌∙◌}
use mathlib.Core.Bool.{cond}
use mathlib.Core.List.{List, [], ◌∷◌, ◌++◌, map}
use native.Mathlib.Nat.{zero-add}
use native.Mathlib.Omega.{arith}
use native.Mathlib.Decide.{ℕ_discrete}
use lib.Dec.{eqb}
use lib.ListN.{length, get_or, length-map}
use borrow.Author.Tests.{eq-eqb, ne_eqb}
use Rattle.rings.specs.Count.{table}
use Rattle.rings.specs.Place.{place, or_zero}
use Rattle.rings.proofs.Counting.{sum_same, length_table, at_table}
use Rattle.geometry.specs.declared.Point.{Point}
use Rattle.job.specs.declared.field.Field.{Field}
use Rattle.job.specs.declared.field.Field.TheVariants as field
use Rattle.store.specs.Field.{pt, X, Y, NONE}
use Rattle.store.specs.Words.{view}
use Rattle.store.specs.Named.{settings_of, points_of, records_of, next_of, prev_of, first_of}
use Rattle.store.specs.Sound.{ring_at}
use Rattle.store.specs.Value.{point_at, word_of}
use Rattle.joins.proofs.Homes.{home_of_lem, on_ring_lem, prev_next}
use Rattle.converting.specs.Needs.{Converting}
use Rattle.drawing.specs.Places.{next_place, prev_place}
use Rattle.drawing.specs.Drawing.{Drawn, Spot, Drawing, drawn_at, spot_of, drawing_of}
use Rattle.drawing.proofs.Forests.{table_same}
use Rattle.drawing.proofs.Places.{place_at, place_low, next_place_low, next_at}
use Rattle.drawing.proofs.Naming.{home_is, at_lives, no_ring, first_place}
use Rattle.drawing.proofs.Drawings.{word_back}
use Rattle.encoding.specs.Sheet.{point_field, record_field, segment_field, join_field, all_bytes}
use Rattle.encoding.specs.Encode.{no_record, no_spot, origin, record_at, length_at, first_number, its_place, corner_at, spot_number, sheet_of, encode}
use Rattle.encoding.proofs.Numbering.{prev_place_low, next_prev_place}
use Rattle.encoding.proofs.Encodable as number
use Rattle.rewriting.specs.Fields.{corner_field, corner_fields, start_number, drawn_field, new_number, level_field, pair_field, job_fields, numbers_of, job_bytes}
use Rattle.rewriting.proofs.NewNumbers.{points_before, new_number_lem}

-- ---- lists

at_map : {A : Type 0} (f : ℕ → A) (l : List ℕ) (p : ℕ) (e : A) → p < length l → get_or (map f l) p e ≡ f (get_or l p 0)
at_map f [] p e h = absurd (omega arith)
at_map f (x ∷ l) zero e h = refl
at_map f (x ∷ l) (suc p) e h = at_map f l p e (omega arith)

table_split : {A : Type 0} (g : ℕ → A) (k m n : ℕ) → table g k (m + n) ≡ table g k m ++ table g (k + m) n
table_split g k zero n = ap (table g k) (zero-add n) ∙ ap (λ (j : ℕ). table g j n) (let z : k ≡ k + 0 = omega arith in z)
table_split {A} g k (suc m) n =
    ap (table g k) (let z : suc m + n ≡ suc (m + n) = omega arith in z)
    ∙ ap (λ (l : List A). g k ∷ l) (table_split g (suc k) m n ∙ ap (λ (j : ℕ). table g (suc k) m ++ table g j n) (let z : suc k + m ≡ k + suc m = omega arith in z))

table_map : {A : Type 0} (g f : ℕ → A) (k : ℕ) (l : List ℕ) → ((p : ℕ) → p < length l → g (k + p) ≡ f (get_or l p 0)) → table g k (length l) ≡ map f l
table_map g f k [] h = refl
table_map {A} g f k (x ∷ l) h =
    both (ap g (let z : k ≡ k + 0 = omega arith in z) ∙ h 0 (omega arith)) (table_map g f (suc k) l (λ p q. ap g (let z : suc k + p ≡ k + suc p = omega arith in z) ∙ h (suc p) (omega arith)))
  where
    both : {a b : A} {m n : List A} → a ≡ b → m ≡ n → a ∷ m ≡ b ∷ n
    both p q = cc

module _ (w ss : List ℕ) (m : ℕ) (js : List ℕ) (n : ℕ) (c : Converting w ss m js n) where
  abbrev d : Drawing
  d = drawing_of w ss m js n

  abbrev ring : ℕ → List ℕ
  ring i = ring_at (view w) i

  -- ---- the drawing's lists

  records_are : d.records ≡ table (drawn_at (view w)) 0 (records_of w)
  unfolding drawing_of
  records_are = refl

  segments_are : d.segments ≡ table (λ i. spot_of w (get_or ss i 0)) 0 m
  unfolding drawing_of
  segments_are = refl

  joins_are : d.joins ≡ table (λ i. spot_of w (get_or js i 0)) 0 (2 * n)
  unfolding drawing_of
  joins_are = refl

  many : length d.records ≡ records_of w
  many = ap length records_are ∙ length_table (drawn_at (view w)) 0 (records_of w)

  record_is : (i : ℕ) → i < records_of w → record_at d i ≡ drawn_at (view w) i
  record_is i h = ap (λ (l : List Drawn). get_or l i no_record) records_are ∙ at_table (drawn_at (view w)) no_record 0 (records_of w) i h ∙ ap (drawn_at (view w)) (zero-add i)

  length_is : (i : ℕ) → i < records_of w → length_at d i ≡ length (ring i)
  length_is i h = ap (λ (r : Drawn). length r.ring) (record_is i h) ∙ length-map (ring i) (point_at (view w))

  first_is : (i : ℕ) → i ≤ records_of w → first_number d i ≡ points_before (view w) i
  first_is i h = sum_same i (λ j. length (ring j)) (length_at d) (λ j l. length_is j (omega arith))

  -- ---- numbers

  number_is : (i p : ℕ) → i < records_of w → p < length (ring i) → get_or (numbers_of w) (get_or (ring i) p 0) 0 ≡ first_number d i + p
  number_is i p h l = new_number_lem w c.listed.ready i p h l ∙ ap (λ (k : ℕ). k + p) (sym (first_is i (omega arith)))

  next_number : (i p : ℕ) → i < records_of w → p < length (ring i) → get_or (numbers_of w) (next_of w (get_or (ring i) p 0)) 0 ≡ first_number d i + next_place p (length (ring i))
  next_number i p h l =
      ap (λ (k : ℕ). get_or (numbers_of w) k 0) (next_at (next_of w) (prev_of w) (ring i) p (c.listed.ready.resolved.whole i h).linked l)
      ∙ number_is i (next_place p (length (ring i))) h (next_place_low p (length (ring i)) l)

  prev_at : (i p : ℕ) → i < records_of w → p < length (ring i) → prev_of w (get_or (ring i) p 0) ≡ get_or (ring i) (prev_place p (length (ring i))) 0
  prev_at i p h l =
      let q = prev_place p (length (ring i)) in
      let g = prev_place_low p (length (ring i)) l in
      let s = c.listed.ready.resolved in
      ap (λ (k : ℕ). prev_of w (get_or (ring i) k 0)) (sym (next_prev_place p (length (ring i)) l))
      ∙ ap (prev_of w) (sym (next_at (next_of w) (prev_of w) (ring i) q (s.whole i h).linked g))
      ∙ prev_next (view w) s i (get_or (ring i) q 0) (at_lives (view w) s i q h g)

  prev_number : (i p : ℕ) → i < records_of w → p < length (ring i) → get_or (numbers_of w) (prev_of w (get_or (ring i) p 0)) 0 ≡ first_number d i + prev_place p (length (ring i))
  prev_number i p h l = ap (λ (k : ℕ). get_or (numbers_of w) k 0) (prev_at i p h l) ∙ number_is i (prev_place p (length (ring i))) h (prev_place_low p (length (ring i)) l)

  spot_number_lem : (k : ℕ) → k < points_of w → get_or (numbers_of w) k 0 ≡ spot_number d (spot_of w k)
  unfolding spot_number
  spot_number_lem k h =
      let s = c.listed.ready.resolved in
      let z = home_of_lem (view w) s k h in
      let i = z.0 in
      let a = on_ring_lem (view w) s i k z.1 in
      ap (λ (x : ℕ). get_or (numbers_of w) x 0) (sym (place_at k (ring i) a))
      ∙ number_is i (or_zero (place k (ring i))) z.1.res.real (place_low k (ring i) a)
      ∙ sym (ap (λ (j : ℕ). first_number d j + or_zero (place k (ring j))) (home_is w c.listed.ready i k z.1))

  -- ---- points

  corner_is : (i p : ℕ) → i < records_of w → p < length (ring i) → corner_at d i p ≡ point_at (view w) (get_or (ring i) p 0)
  corner_is i p h l = ap (λ (r : Drawn). get_or r.ring p origin) (record_is i h) ∙ at_map (point_at (view w)) (ring i) p origin l

  abbrev drawn_point : ℕ → ℕ → Field
  drawn_point i p =
      field.Point (word_of (corner_at d i p).x) (word_of (corner_at d i p).y) (first_number d i + next_place p (length_at d i)) (first_number d i + prev_place p (length_at d i)) i (corner_at d i p).z

  point_is : (i p : ℕ) → i < records_of w → p < length (ring i) → drawn_point i p ≡ corner_field w (numbers_of w) i (get_or (ring i) p 0)
  unfolding corner_field
  point_is i p h l =
      all_six (ap (λ (q : Point). word_of q.x) (corner_is i p h l) ∙ word_back (view w (pt X) (get_or (ring i) p 0))) (ap (λ (q : Point). word_of q.y) (corner_is i p h l) ∙ word_back (view w (pt Y) (get_or (ring i) p 0)))
      (ap (λ (k : ℕ). first_number d i + next_place p k) (length_is i h) ∙ sym (next_number i p h l)) (ap (λ (k : ℕ). first_number d i + prev_place p k) (length_is i h) ∙ sym (prev_number i p h l)) (ap (λ (q : Point). q.z) (corner_is i p h l))
    where
      all_six : {x x' y y' a a' b b' z z' : ℕ} → x ≡ x' → y ≡ y' → a ≡ a' → b ≡ b' → z ≡ z' → field.Point x y a b i z ≡ field.Point x' y' a' b' i z'
      all_six e f g h k = cc

  point_field_lem : (i p : ℕ) → i < records_of w → p < length (ring i) → point_field (sheet_of d) (first_number d i + p) ≡ corner_field w (numbers_of w) i (get_or (ring i) p 0)
  unfolding sheet_of
  point_field_lem i p h l =
      let a : i < length d.records = omega (arith, many) in
      let b : p < length_at d i = omega (arith, length_is i h) in
      ap (λ (j : ℕ). drawn_point j (its_place d (first_number d i + p))) (number.ring_at_lem d i p a b) ∙ ap (drawn_point i) (number.place_at d i p a b) ∙ point_is i p h l

  corners_are : (i : ℕ) → i ≤ records_of w → corner_fields w (numbers_of w) i ≡ table (point_field (sheet_of d)) 0 (first_number d i)
  unfolding corner_fields
  corners_are zero h = refl
  corners_are (suc i) h =
      ap (λ (l : List Field). l ++ map (corner_field w (numbers_of w) i) (ring i)) (corners_are i (omega arith))
      ∙ ap (λ (l : List Field). table (point_field (sheet_of d)) 0 (first_number d i) ++ l)
      (sym (ap (table (point_field (sheet_of d)) (first_number d i)) (length_is i (omega arith)) ∙ table_map (point_field (sheet_of d)) (corner_field w (numbers_of w) i) (first_number d i) (ring i) (λ p l. point_field_lem i p (omega arith) l)))
      ∙ sym
      (table_split (point_field (sheet_of d)) 0 (first_number d i) (length_at d i)
      ∙ ap (λ (k : ℕ). table (point_field (sheet_of d)) 0 (first_number d i) ++ table (point_field (sheet_of d)) k (length_at d i)) (zero-add (first_number d i)))

  -- ---- records

  start_is : (i : ℕ) → i < records_of w → start_number w (numbers_of w) i ≡ cond (eqb (length_at d i) 0) NONE (first_number d i)
  unfolding start_number
  start_is i h = go (ℕ_discrete (first_of w i) NONE)
    where
      go : Dec (first_of w i ≡ NONE) → cond (eqb (first_of w i) NONE) NONE (get_or (numbers_of w) (first_of w i) 0) ≡ cond (eqb (length_at d i) 0) NONE (first_number d i)
      go (yes e) = rw (eq-eqb (first_of w i) NONE e, eq-eqb (length_at d i) 0 (length_is i h ∙ ap length (no_ring (view w) i e)))
      go (no e) =
          let a = first_place (view w) i e in
          rw (ne_eqb (first_of w i) NONE e, ne_eqb (length_at d i) 0 (λ z. omega (arith, a.1, length_is i h)))
          (ap (λ (k : ℕ). get_or (numbers_of w) k 0) (sym a.0) ∙ number_is i 0 h a.1 ∙ (let z : first_number d i + 0 ≡ first_number d i = omega arith in z))

  drawn_field_lem : (i : ℕ) → i < records_of w → drawn_field w (numbers_of w) i ≡ record_field (sheet_of d) i
  unfolding drawn_field sheet_of
  drawn_field_lem i h = three (sym (ap (λ (r : Drawn). r.flags) (record_is i h))) (sym (ap (λ (r : Drawn). r.owner) (record_is i h))) (start_is i h)
    where
      three : {a a' b b' k k' : ℕ} → a ≡ a' → b ≡ b' → k ≡ k' → field.Record a b k ≡ field.Record a' b' k'
      three e f g = cc

  drawn_are : table (drawn_field w (numbers_of w)) 0 (records_of w) ≡ table (record_field (sheet_of d)) 0 (length d.records)
  drawn_are = table_same (record_field (sheet_of d)) (drawn_field w (numbers_of w)) 0 (records_of w) (λ i h. drawn_field_lem i (omega arith)) ∙ ap (table (record_field (sheet_of d)) 0) (sym many)

  -- ---- segments and joins

  level_are : table (level_field (numbers_of w) ss) 0 m ≡ table (segment_field (sheet_of d)) 0 (length d.segments)
  unfolding level_field sheet_of
  level_are =
      table_same (segment_field (sheet_of d)) (level_field (numbers_of w) ss) 0 m (λ i h. ap (λ (k : ℕ). field.Segment k) (at i (omega arith)))
      ∙ ap (table (segment_field (sheet_of d)) 0) (sym (ap length segments_are ∙ length_table (λ i. spot_of w (get_or ss i 0)) 0 m))
    where
      at : (i : ℕ) → i < m → new_number (numbers_of w) ss i ≡ spot_number d (get_or d.segments i no_spot)
      at i h =
          spot_number_lem (get_or ss i 0) (c.listed.point i h)
          ∙ ap (spot_number d) (sym (ap (λ (l : List Spot). get_or l i no_spot) segments_are ∙ at_table (λ i. spot_of w (get_or ss i 0)) no_spot 0 m i h ∙ ap (λ (k : ℕ). spot_of w (get_or ss k 0)) (zero-add i)))

  pair_are : table (pair_field (numbers_of w) js) 0 n ≡ table (join_field (sheet_of d)) 0 (length d.joins / 2)
  unfolding pair_field sheet_of
  pair_are =
      table_same (join_field (sheet_of d)) (pair_field (numbers_of w) js) 0 n (λ i h. two (at (2 * i) (omega arith)) (at (2 * i + 1) (omega arith)))
      ∙ ap (table (join_field (sheet_of d)) 0) (let l : length d.joins ≡ 2 * n = ap length joins_are ∙ length_table (λ i. spot_of w (get_or js i 0)) 0 (2 * n) in let z : n ≡ length d.joins / 2 = omega (arith, l) in z)
    where
      two : {a a' b b' : ℕ} → a ≡ a' → b ≡ b' → field.Join a b ≡ field.Join a' b'
      two e f = cc

      at : (i : ℕ) → i < 2 * n → new_number (numbers_of w) js i ≡ spot_number d (get_or d.joins i no_spot)
      at i h =
          spot_number_lem (get_or js i 0) (c.named i h)
          ∙ ap (spot_number d) (sym (ap (λ (l : List Spot). get_or l i no_spot) joins_are ∙ at_table (λ i. spot_of w (get_or js i 0)) no_spot 0 (2 * n) i h ∙ ap (λ (k : ℕ). spot_of w (get_or js k 0)) (zero-add i)))

  -- THE LAW: what is written of a job that passed rows 1 to 8 is the encoding of its drawing
  pub encodes : job_bytes w ss m js n ≡ encode (drawing_of w ss m js n)
  unfolding job_bytes job_fields encode sheet_of drawing_of
  encodes =
      all (corners_are (records_of w) (omega arith) ∙ ap (λ (k : ℕ). table (point_field (sheet_of d)) 0 (first_number d k)) (sym many)) drawn_are level_are pair_are
    where
      all : {p p' r r' g g' j j' : List Field} → p ≡ p' → r ≡ r' → g ≡ g' → j ≡ j' → all_bytes (field.Settings (settings_of w) ∷ (p ++ (r ++ (g ++ j)))) ≡ all_bytes (field.Settings (settings_of w) ∷ (p' ++ (r' ++ (g' ++ j'))))
      all e f g h = rw (e, f, g, h)
