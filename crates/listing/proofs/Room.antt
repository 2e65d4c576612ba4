-- How many bytes a listing has: `TEXT` always suffice for a tray that was written from a sound store, and for a refusal.
use Prim.Native.Nat.{ℕ, zero, suc, ◌+◌, ◌*◌, ◌/◌, ◌%◌, ◌^◌, ◌≤◌}
use mathlib.Core.Path.{◌≡◌, refl, ap}
use mathlib.Core.Bool.{Bool, true, false, cond, beq}
use mathlib.Core.List.{List, [], ◌∷◌, ◌++◌}
use mathlib.Core.Option.{Option, none, some}
use native.Mathlib.Omega.{arith}
use lib.Dec.{ltb}
use lib.IntN.{ℤ, pos, negsuc, nat_abs}
use lib.ListN.{length, length-append}
use Rattle.numbers.specs.Raised.{signed}
use Rattle.rings.specs.Count.{sum_to}
use Rattle.geometry.specs.declared.Point.{Point}
use Rattle.geometry.specs.Plane.{area_outpt}
use Rattle.store.specs.Words.{Store}
use Rattle.store.specs.Sound.{recs, ring_at, is_open}
use Rattle.store.specs.Good.{Sound}
use Rattle.paths.specs.Path.{path_if, listed, paths_below, closed_paths, open_paths, size_of}
use Rattle.paths.specs.Tray.{fields_of, padded}
use Rattle.paths.proofs.Counts.{size_le}
use Rattle.paths.proofs.Bound.{rings_few}
use Rattle.rates.specs.declared.Charge.{Charge}
use Rattle.rates.specs.Charge.{charge_of}
use Rattle.text.specs.Text.{SPACE, COMMA, NEWLINE, digit, digits, decimal, signed_text}
use Rattle.listing.specs.Words.{CLOSED, OPEN, LINE, REFUSED, CHARGE}
use Rattle.listing.specs.Fields.{paths_in}
use Rattle.listing.specs.Lines.{word_of, place_text, depth_text, point_text, points_text, head_of, line_of, lines_of, first_line, listing_of, refused_line}
use Rattle.listing.specs.Charge.{net_area, charge_text, charged_of}
use Rattle.listing.specs.Needs.{Summable, point_count}
use Rattle.listing.specs.Room.{TEXT}
use Rattle.listing.proofs.Trays.{words_count, written_closed, written_listable, written_listing}

-- ---- numbers

digits_le : (f n : ℕ) → length (digits f n) ≤ f
unfolding digits
digits_le zero n = omega arith
digits_le (suc f) n = go (ltb n 10) (digits_le f (n / 10))
  where
    go : (t : Bool) → length (digits f (n / 10)) ≤ f → length (cond t (digit n ∷ []) (digits f (n / 10) ++ (digit (n % 10) ∷ []))) ≤ suc f
    go true h = omega arith
    go false h = omega (arith, length-append (digits f (n / 10)) (digit (n % 10) ∷ []))

signed_le : (z : ℤ) → length (signed_text z) ≤ 21
signed_le (pos n) = omega (arith, digits_le 20 n)
signed_le (negsuc n) = omega (arith, digits_le 20 (suc n))

word_le : (rev : Bool) (z : ℤ) → length (word_of rev z) ≤ 5
word_le rev (pos zero) = omega arith
word_le true (pos (suc n)) = omega arith
word_le false (pos (suc n)) = omega arith
word_le true (negsuc n) = omega arith
word_le false (negsuc n) = omega arith

-- ---- lines

point_le : (p : Point) → length (point_text p) ≤ 66
point_le p =
    let x = signed_text p.x in
    let y = signed_text p.y in
    let z = depth_text p.z in
    omega (
      arith,
      length-append (place_text p ++ (COMMA ∷ [])) z,
      length-append (place_text p) (COMMA ∷ []),
      length-append ((SPACE ∷ []) ++ x ++ (COMMA ∷ [])) y,
      length-append ((SPACE ∷ []) ++ x) (COMMA ∷ []),
      signed_le p.x,
      signed_le p.y,
      signed_le (signed (p.z % 2 ^ 32)),
    )

points_le : (path : List Point) → length (points_text path) ≤ 66 * length path
points_le [] = omega arith
points_le (p ∷ ps) = omega (arith, length-append (point_text p) (points_text ps), point_le p, points_le ps)

head_le : (rev o : Bool) (path : List Point) → length (head_of rev o path) ≤ 48
head_le rev false path =
    let w = word_of rev (area_outpt path) in
    let d = decimal (length path) in
    omega (
      arith,
      length-append (w ++ (SPACE ∷ []) ++ d ++ (SPACE ∷ [])) (signed_text (area_outpt path)),
      length-append (w ++ (SPACE ∷ []) ++ d) (SPACE ∷ []),
      length-append (w ++ (SPACE ∷ [])) d,
      length-append w (SPACE ∷ []),
      word_le rev (area_outpt path),
      digits_le 20 (length path),
      signed_le (area_outpt path),
    )
head_le rev true path = omega (arith, length-append (LINE ++ (SPACE ∷ [])) (decimal (length path)), digits_le 20 (length path))

line_le : (rev o : Bool) (path : List Point) → length (line_of rev o path) ≤ 49 + 66 * length path
line_le rev o path = omega (arith, length-append (head_of rev o path ++ points_text path) (NEWLINE ∷ []), length-append (head_of rev o path) (points_text path), head_le rev o path, points_le path)

lines_append : (rev o : Bool) (a b : List (List Point)) → length (lines_of rev o (a ++ b)) ≡ length (lines_of rev o a) + length (lines_of rev o b)
lines_append rev o [] b = omega arith
lines_append rev o (p ∷ a) b = omega (arith, length-append (line_of rev o p) (lines_of rev o (a ++ b)), length-append (line_of rev o p) (lines_of rev o a), lines_append rev o a b)

first_le : (c o : ℕ) → length (first_line c o) ≤ 54
first_le c o =
    let a = CLOSED ++ (SPACE ∷ []) ++ decimal c in
    omega (
      arith,
      length-append (a ++ (SPACE ∷ []) ++ OPEN ++ (SPACE ∷ []) ++ decimal o) (NEWLINE ∷ []),
      length-append (a ++ (SPACE ∷ []) ++ OPEN ++ (SPACE ∷ [])) (decimal o),
      length-append (a ++ (SPACE ∷ []) ++ OPEN) (SPACE ∷ []),
      length-append (a ++ (SPACE ∷ [])) OPEN,
      length-append a (SPACE ∷ []),
      length-append (CLOSED ++ (SPACE ∷ [])) (decimal c),
      digits_le 20 c,
      digits_le 20 o,
    )

charge_le : (c : Charge) → length (charge_text c) ≤ 49
charge_le c =
    let q = decimal c.quotient in
    let r = decimal c.remainder in
    omega (
      arith,
      length-append (CHARGE ++ (SPACE ∷ []) ++ q ++ (SPACE ∷ []) ++ r) (NEWLINE ∷ []),
      length-append (CHARGE ++ (SPACE ∷ []) ++ q ++ (SPACE ∷ [])) r,
      length-append (CHARGE ++ (SPACE ∷ []) ++ q) (SPACE ∷ []),
      length-append (CHARGE ++ (SPACE ∷ [])) q,
      digits_le 20 c.quotient,
      digits_le 20 c.remainder,
    )

count_append : (a b : List (List Point)) → point_count (a ++ b) ≡ point_count a + point_count b
count_append [] b = omega arith
count_append (p ∷ a) b = omega (arith, count_append a b)

count_listed : (x : Option (List Point)) → point_count (listed x) ≡ size_of x
count_listed none = refl
count_listed (some p) = omega arith

-- ---- the paths of a store: a record has one line at most

line_of_lem : (rev o : Bool) (x : Option (List Point)) → length (lines_of rev o (listed x)) ≤ 49 + 66 * size_of x
line_of_lem rev o none = omega arith
line_of_lem rev o (some p) = omega (arith, length-append (line_of rev o p) [], line_le rev o p)

module _ (s : Store) (rev : Bool) where
  none_of : (o : Bool) (i : ℕ) → beq (is_open s i) o ≡ false → length (lines_of rev o (listed (path_if s o i))) ≡ 0
  unfolding path_if
  none_of o i e = rw e

  one_line : (i : ℕ) → length (lines_of rev false (listed (path_if s false i))) + length (lines_of rev true (listed (path_if s true i))) ≤ 49 + 66 * length (ring_at s i)
  one_line i = go (is_open s i) refl
    where
      go : (b : Bool) → is_open s i ≡ b → length (lines_of rev false (listed (path_if s false i))) + length (lines_of rev true (listed (path_if s true i))) ≤ 49 + 66 * length (ring_at s i)
      go true e = omega (arith, none_of false i (rw e), line_of_lem rev true (path_if s true i), size_le s true i)
      go false e = omega (arith, none_of true i (rw e), line_of_lem rev false (path_if s false i), size_le s false i)

  all_lines : (n : ℕ) → length (lines_of rev false (paths_below n false s)) + length (lines_of rev true (paths_below n true s)) ≤ 49 * n + 66 * sum_to n (λ i. length (ring_at s i))
  all_lines zero = omega arith
  all_lines (suc n) =
      omega (
        arith,
        all_lines n,
        one_line n,
        lines_append rev false (paths_below n false s) (listed (path_if s false n)),
        lines_append rev true (paths_below n true s) (listed (path_if s true n)),
      )

  module _ (o : Sound s) (n : ℕ) where
    short : length (listing_of rev (length (closed_paths s)) (length (open_paths s)) (padded n (fields_of s))) + 49 ≤ TEXT
    short =
        let c = closed_paths s in
        let p = open_paths s in
        let a = first_line (length c) (length p) in
        omega (
          arith,
          ap length (written_listing s o n rev),
          length-append (a ++ lines_of rev false c) (lines_of rev true p),
          length-append a (lines_of rev false c),
          first_le (length c) (length p),
          all_lines (recs s),
          rings_few s o,
          o.few_records,
          o.few_points,
        )

    pub listing_le : length (listing_of rev (length (closed_paths s)) (length (open_paths s)) (padded n (fields_of s))) ≤ TEXT
    listing_le = omega (arith, short)

    pub charged_le : (rate : ℕ) → length (charged_of rev rate (length (closed_paths s)) (length (open_paths s)) (padded n (fields_of s))) ≤ TEXT
    unfolding charged_of
    charged_le rate =
        let c = charge_of (nat_abs (net_area (paths_in (padded n (fields_of s)) (length (closed_paths s)) 0))) rate in
        omega (arith, short, length-append (listing_of rev (length (closed_paths s)) (length (open_paths s)) (padded n (fields_of s))) (charge_text c), charge_le c)

-- ---- the points of the closed paths are no more than a job has

module _ (s : Store) where
  points_below : (o : Bool) (n : ℕ) → point_count (paths_below n o s) ≤ sum_to n (λ i. length (ring_at s i))
  points_below o zero = omega arith
  points_below o (suc n) = omega (arith, points_below o n, count_append (paths_below n o s) (listed (path_if s o n)), count_listed (path_if s o n), size_le s o n)

  pub written_summable : Sound s → (n : ℕ) → Summable (padded n (fields_of s)) (length (closed_paths s))
  written_summable o n =
      record {
        fields = (written_listable s o n).closed_in;
        few = rw (written_closed s o n, words_count (closed_paths s)) (omega (arith, points_below false (recs s), rings_few s o, o.few_points));
      }

pub refusal_le : (n : ℕ) → length (refused_line n) ≤ TEXT
refusal_le n =
    omega (
      arith,
      length-append (REFUSED ++ (SPACE ∷ []) ++ decimal n) (NEWLINE ∷ []),
      length-append (REFUSED ++ (SPACE ∷ [])) (decimal n),
      digits_le 20 n,
    )
