-- Paths and their bytes, counted record by record.
use Prim.Native.Nat.{ℕ, suc, ◌+◌, ◌*◌, ◌^◌, ◌≤◌, ◌<◌}
use mathlib.Core.Path.{◌≡◌, refl, sym, ap, ◌∙◌, subst}
use mathlib.Core.Logic.{◌≢◌}
use mathlib.Core.Bool.{Bool, true, false, cond, not, ◌&&◌, beq}
use mathlib.Core.List.{List, [], ◌∷◌, ◌++◌, append-nil, append_assoc}
use mathlib.Core.Option.{Option, none, some}
use native.Mathlib.Omega.{arith}
use lib.Dec.{eqb, leb}
use lib.ListN.{length, length-append, length-map}
use borrow.Author.Tests.{eq-eqb, ne_eqb, leb-true}
use Rattle.rings.specs.Circle.{turn}
use Rattle.rings.proofs.Counting.{pigeon}
use Rattle.geometry.specs.declared.Point.{Point}
use Rattle.lone.specs.Lone.{Geo}
use Rattle.lone.specs.Plane.{plane}
use Rattle.lone.specs.Path.{in_order, without_equals, is_small_ring, build_path64_from_outpt}
use Rattle.store.specs.Words.{Store, view}
use Rattle.store.specs.Sound.{pts, recs, ring_at, is_open}
use Rattle.store.specs.Value.{preserve_collinear, reverse_solution}
use Rattle.store.proofs.Soundness.{whole}
use Rattle.paths.specs.Path.{point_at, points_at, path_by, path_at, path_if, listed, paths_below, size_of}
use Rattle.paths.specs.Tray.{POINT, low_bytes, path_bytes, path_field, tag_of, fields}
use Rattle.paths.specs.Walking.{Known, Directed, Asked}
use Rattle.paths.specs.Count.{path_count, field_size, need_of, Tally, PathsSoFar}
use Rattle.paths.specs.Filling.{field_at}
use Rattle.paths.proofs.Laying.{length_path_bytes}
use Rattle.paths.proofs.Sizes.{path_le, length_in_order}

-- ---- a path that is there has two points or more, and no more than its ring

abbrev pub Proper : ℕ → Option (List Point) → Type 0
Proper n none = Unit {0}
Proper n (some path) = (2 ≤ length path) × (length path ≤ n)

module _ (G : Geo Point) (rev o : Bool) (c : List Point) where
  pub build_proper : Proper (length c) (build_path64_from_outpt G rev o c)
  unfolding build_path64_from_outpt
  build_proper =
      go
      (leb (length c) (cond o 1 2))
      (not o && eqb (length (without_equals G (in_order rev c))) 3 && is_small_ring G (cond rev c (turn c)))
      (leb 2 (length (without_equals G (in_order rev c))))
      refl
    where
      go : (a b t : Bool) → leb 2 (length (without_equals G (in_order rev c))) ≡ t → Proper (length c) (cond a none (cond b none (cond t (some (without_equals G (in_order rev c))) none)))
      go true b t e = tt
      go false true t e = tt
      go false false false e = tt
      go false false true e = (leb-true 2 (length (without_equals G (in_order rev c))) e, omega (arith, path_le G (in_order rev c), length_in_order rev c))

if_proper : (s : Store) (o : Bool) (i : ℕ) → Proper (length (ring_at s i)) (path_if s o i)
unfolding path_if path_at
if_proper s o i = go (beq (is_open s i) o)
  where
    go : (t : Bool) → Proper (length (ring_at s i)) (cond t (path_by s (reverse_solution s) (is_open s i) i) none)
    go true =
        subst (λ (n : ℕ). Proper n (path_by s (reverse_solution s) (is_open s i) i)) (length-map (ring_at s i) (point_at s))
        (build_proper (plane (preserve_collinear s)) (reverse_solution s) (is_open s i) (points_at s i))
    go false = tt

pub size_le : (s : Store) (o : Bool) (i : ℕ) → size_of (path_if s o i) ≤ length (ring_at s i)
size_le s o i = go (path_if s o i) (if_proper s o i)
  where
    go : (x : Option (List Point)) → Proper (length (ring_at s i)) x → size_of x ≤ length (ring_at s i)
    go none p = omega arith
    go (some path) p = p.1

pub ring_short : (w : List ℕ) (i : ℕ) → Known w i → length (ring_at (view w) i) ≤ 2048
ring_short w i k =
    let h = whole (view w) k.ready.sound i k.known in
    omega (arith, pigeon (pts (view w)) (ring_at (view w) i) h.once h.below, k.ready.sound.few_points)

pub size_fits : (w : List ℕ) (o : Bool) (i k : ℕ) → Known w i → k ≡ size_of (path_if (view w) o i) → k ≤ 2048
size_fits w o i k h e = omega (arith, size_le (view w) o i, ring_short w i h)

-- ---- fields

pub length_path_field : (tag : ℕ) (path : List Point) → length (path_field tag path) ≡ 3 + POINT * length path
unfolding path_field
length_path_field tag path =
    omega (arith, length-append ((tag ∷ []) ++ low_bytes 2 (POINT * length path)) (path_bytes path), length_path_bytes path)

pub fields_append : (tag : ℕ) (a b : List (List Point)) → fields tag (a ++ b) ≡ fields tag a ++ fields tag b
fields_append tag [] b = refl
fields_append tag (p ∷ a) b = ap (λ (l : List ℕ). path_field tag p ++ l) (fields_append tag a b) ∙ sym (append_assoc (path_field tag p) (fields tag a) (fields tag b))

module _ (n : ℕ) where
  field_one : (tag : ℕ) (x : Option (List Point)) → Proper n x → length (fields tag (listed x)) ≡ field_size (size_of x)
  field_one tag none p = refl
  field_one tag (some path) p = rw (ne_eqb (length path) 0 (λ e. omega (arith, p.0))) (ap length (append-nil (path_field tag path)) ∙ length_path_field tag path)

-- the field, or none, of record i
pub field_length : (s : Store) (tag : ℕ) (o : Bool) (i : ℕ) → length (fields tag (listed (path_if s o i))) ≡ field_size (size_of (path_if s o i))
field_length s tag o i = field_one (length (ring_at s i)) tag (path_if s o i) (if_proper s o i)

pub field_size_le : (k : ℕ) → field_size k ≤ 3 + POINT * k
field_size_le k = go (eqb k 0)
  where
    go : (t : Bool) → cond t 0 (3 + POINT * k) ≤ 3 + POINT * k
    go true = omega arith
    go false = omega arith

path_count_le : (k : ℕ) → path_count k ≤ 1
path_count_le k = go (eqb k 0)
  where
    go : (t : Bool) → cond t 0 1 ≤ 1
    go true = omega arith
    go false = omega arith

-- ---- the loop

pub tally_begins : (w : List ℕ) (o : Bool) → Tally w o 0 0
tally_begins w o = record { within = omega arith; bytes_are = refl; few_bytes = omega arith }

module _ (w : List ℕ) (rev o : Bool) (r : Directed w rev) (i bytes n : ℕ) (t : Tally w o i bytes) (en : n ≡ recs (view w)) (l : i < n) where
  pub tally_asked : Asked w rev i
  tally_asked = record { of = record { ready = r.ready; known = omega arith }; direction = r.direction }

  pub tally_on : (k b : ℕ) → k ≡ size_of (path_if (view w) o i) → b ≡ field_size k → Tally w o (i + 1) (bytes + b)
  tally_on k b e g =
      let s = view w in
      let z : i + 1 ≡ suc i = omega arith in
      let h = size_fits w o i k tally_asked.of e in
      let q : length (fields (tag_of o) (listed (path_if s o i))) ≡ b = field_length s (tag_of o) o i ∙ ap field_size (sym e) ∙ sym g in
      rw z
      (record {
        within = omega arith;
        bytes_are =
            omega (
              arith,
              t.bytes_are,
              ap length (fields_append (tag_of o) (paths_below i o s) (listed (path_if s o i))),
              length-append (fields (tag_of o) (paths_below i o s)) (fields (tag_of o) (listed (path_if s o i))),
            );
        few_bytes = omega (arith, t.few_bytes, field_size_le k);
      })

pub tally_ends : (w : List ℕ) (o : Bool) (i bytes n : ℕ) → Tally w o i bytes → n ≡ recs (view w) → n ≤ i → bytes ≡ (need_of (view w) o).bytes
unfolding need_of
tally_ends w o i bytes n t e h =
    let z : recs (view w) ≡ i = omega (arith, t.within) in
    rw (t.bytes_are, z)

-- ---- the paths of the records so far

pub no_paths : (w : List ℕ) (o : Bool) → PathsSoFar w o 0 0
no_paths w o = record { are = refl; few = omega arith }

-- one record more, whose path is there or not
paths_more : (w : List ℕ) (o : Bool) (i paths a : ℕ) → PathsSoFar w o i paths → a ≡ length (listed (path_if (view w) o i)) → a ≤ 1 → PathsSoFar w o (i + 1) (paths + a)
paths_more w o i paths a c e l =
    let z : i + 1 ≡ suc i = omega arith in
    rw z (record { are = omega (arith, c.are, length-append (paths_below i o (view w)) (listed (path_if (view w) o i))); few = omega (arith, c.few) })

-- a record has a path where it has points
counted : (s : Store) (o : Bool) (i : ℕ) → length (listed (path_if s o i)) ≡ path_count (size_of (path_if s o i))
counted s o i = go (path_if s o i) (if_proper s o i)
  where
    go : (x : Option (List Point)) → Proper (length (ring_at s i)) x → length (listed x) ≡ path_count (size_of x)
    go none p = refl
    go (some path) p = rw (ne_eqb (length path) 0 (λ e. omega (arith, p.0)))

pub paths_by : (w : List ℕ) (o : Bool) (i paths k a : ℕ) → PathsSoFar w o i paths → k ≡ size_of (path_if (view w) o i) → a ≡ path_count k → PathsSoFar w o (i + 1) (paths + a)
paths_by w o i paths k a c e f = paths_more w o i paths a c (f ∙ ap path_count e ∙ sym (counted (view w) o i)) (omega (arith, f, path_count_le k))

-- and where its field has bytes
pub paths_on : (w : List ℕ) (o : Bool) (i paths size a : ℕ) → PathsSoFar w o i paths → size ≡ length (field_at (view w) o i) → a ≡ path_count size → PathsSoFar w o (i + 1) (paths + a)
unfolding field_at
paths_on w o i paths size a c e f =
    let n : size ≡ field_size (size_of (path_if (view w) o i)) = e ∙ field_length (view w) (tag_of o) o i in
    paths_more w o i paths a c (f ∙ ap path_count n ∙ same (size_of (path_if (view w) o i)) ∙ sym (counted (view w) o i)) (omega (arith, f, path_count_le size))
  where
    same : (k : ℕ) → path_count (field_size k) ≡ path_count k
    same k = go (eqb k 0)
      where
        go : (t : Bool) → path_count (cond t 0 (3 + POINT * k)) ≡ cond t 0 1
        go true = refl
        go false = rw (ne_eqb (3 + POINT * k) 0 (λ e. omega arith))

module _ (w : List ℕ) (rev : Bool) (i : ℕ) (a : Asked w rev i) (j : ℕ) where
  pub asked_below : j < i → Asked w rev j
  asked_below l = record { of = record { ready = a.of.ready; known = omega (arith, a.of.known) }; direction = a.direction }

  pub below_fits : (o : Bool) (paths k n : ℕ) → PathsSoFar w o j paths → j < i → n ≡ path_count k → paths + n < 2 ^ 64
  below_fits o paths k n c l e = omega (arith, c.few, a.of.known, a.of.ready.sound.few_records, path_count_le k)

  pub below_all : (o : Bool) (paths : ℕ) → PathsSoFar w o j paths → j ≤ i → i ≤ j → paths ≡ length (paths_below i o (view w))
  below_all o paths c l m =
      let z : j ≡ i = omega arith in
      c.are ∙ ap (λ (n : ℕ). length (paths_below n o (view w))) z

pub paths_all : (w : List ℕ) (o : Bool) (i paths n : ℕ) → PathsSoFar w o i paths → i ≤ recs (view w) → n ≡ recs (view w) → n ≤ i → paths ≡ (need_of (view w) o).paths
unfolding need_of
paths_all w o i paths n c l e h =
    let z : recs (view w) ≡ i = omega arith in
    rw (c.are, z)

-- ---- one record, as asked

pub if_yes : (s : Store) (rev o opened t : Bool) (i n : ℕ) → o ≡ is_open s i → t ≡ beq o opened → t ≡ true → rev ≡ reverse_solution s → n ≡ size_of (path_by s rev o i) → n ≡ size_of (path_if s opened i)
unfolding path_if path_at
if_yes s rev o opened t i n a b c d e = e ∙ rw (d, a) (rw (← a, ← b, c))

pub if_no : (s : Store) (o opened t : Bool) (i : ℕ) → o ≡ is_open s i → t ≡ beq o opened → t ≡ false → 0 ≡ size_of (path_if s opened i)
unfolding path_if
if_no s o opened t i a b c = rw (← a, ← b, c)

pub bool_yes : (a b : Bool) → a ≡ true → b ≡ beq a b
bool_yes a true e = rw e
bool_yes a false e = rw e

pub bool_no : (a b : Bool) → a ≡ false → not b ≡ beq a b
bool_no a true e = rw e
bool_no a false e = rw e

pub count_none : (k : ℕ) → k ≡ 0 → 0 ≡ path_count k
count_none k e = rw (eq-eqb k 0 e)

pub count_some : (k : ℕ) → k ≢ 0 → 1 ≡ path_count k
count_some k d = rw (ne_eqb k 0 d)

pub field_none : (k : ℕ) → k ≡ 0 → 0 ≡ field_size k
field_none k e = rw (eq-eqb k 0 e)

pub field_some : (k : ℕ) → k ≢ 0 → 3 + POINT * k ≡ field_size k
field_some k d = rw (ne_eqb k 0 d)
