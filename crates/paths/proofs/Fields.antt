-- A record's field is written: its header, then its path in the part after it.
use Prim.Native.Nat.{ℕ, ◌+◌, ◌-◌, ◌*◌, ◌/◌, ◌^◌, ◌≤◌, ◌<◌}
use mathlib.Core.Path.{◌≡◌, refl, sym, ap, ◌∙◌, subst}
use mathlib.Core.Logic.{◌≢◌}
use mathlib.Core.Bool.{Bool, true, false, cond, not, ◌&&◌, beq}
use mathlib.Core.List.{List, [], ◌∷◌, ◌++◌, append-nil, append_assoc}
use mathlib.Core.Option.{Option, none, some}
use native.Mathlib.Omega.{arith}
use lib.Dec.{eqb, leb}
use lib.ListN.{length, set, take, drop, length-append, length-drop, length-set, take-append-drop}
use lib.Seq.{take_all, length-take-le, drop-append_seam}
use borrow.Rule.Slice.PartMut.{put_mid}
use Rattle.numbers.specs.Written.{put_le}
use Rattle.numbers.proofs.Written.{length_put}
use Rattle.rings.specs.Circle.{turn}
use Rattle.geometry.specs.declared.Point.{Point}
use Rattle.lone.specs.Lone.{Geo}
use Rattle.lone.specs.Plane.{plane}
use Rattle.lone.specs.Path.{in_order, without_equals, is_small_ring, build_path64_from_outpt}
use Rattle.store.specs.Field.{rc, FIRST}
use Rattle.store.specs.Words.{Store, view}
use Rattle.store.specs.Sound.{ringless, is_open}
use Rattle.store.specs.Value.{preserve_collinear, reverse_solution}
use Rattle.paths.specs.Path.{points_at, path_by, path_at, path_if, listed, size_of}
use Rattle.paths.specs.Tray.{POINT, low_bytes, path_bytes, path_field, tag_of, fields, over}
use Rattle.paths.specs.Walking.{start_from, Round, Room, Laid, laid, path_round}
use Rattle.paths.specs.Count.{field_size}
use Rattle.paths.specs.Filling.{path_points, field_at, lay_over, PointsFit, FieldFits}
use Rattle.paths.proofs.Directions.{Ringed, ringed, path_of}
use Rattle.paths.proofs.Laying.{length_path_bytes, length_over, put_over, set_over}
use Rattle.paths.proofs.Counts.{field_length, size_fits}
use Rattle.paths.proofs.Parts.{part_is, part_over}

-- ---- the points of a path

module _ (w : List ℕ) (rev : Bool) (i : ℕ) (t : List ℕ) (p : PointsFit w rev i t) (f : ℕ) (e : f ≡ view w (rc FIRST) i) where
  on : (d : Bool) → Ringed w d i
  on d = ringed w p.of.ready i p.of.known p.ringed d

  pub points_first : Round w false f
  points_first = rw e (on rev).first

  points_is : (a : ℕ) → a ≡ start_from (view w) rev f → path_round (view w) rev a ≡ path_points (view w) rev i
  points_is a g = rw (g, e) (path_of w rev i (on rev))

  pub points_room : (a : ℕ) → a ≡ start_from (view w) rev f → Room w rev a t
  points_room a g =
      record {
        round = subst (Round w rev) (sym (g ∙ ap (start_from (view w) rev) e)) (on rev).along;
        room = omega (arith, p.room, ap length (points_is a g));
      }

  pub points_laid : (a r : ℕ) (u : List ℕ) → a ≡ start_from (view w) rev f → laid r u ≡ lay_over (path_bytes (path_round (view w) rev a)) t → laid r u ≡ lay_over (path_bytes (path_points (view w) rev i)) t
  points_laid a r u g h = h ∙ ap (λ (l : List Point). lay_over (path_bytes l) t) (points_is a g)

-- ---- a path that is there

build_some : (G : Geo Point) (rev o : Bool) (c : List Point) → size_of (build_path64_from_outpt G rev o c) ≢ 0 → build_path64_from_outpt G rev o c ≡ some (without_equals G (in_order rev c))
unfolding build_path64_from_outpt
build_some G rev o c d =
    go
    (leb (length c) (cond o 1 2))
    (not o && eqb (length (without_equals G (in_order rev c))) 3 && is_small_ring G (cond rev c (turn c)))
    (leb 2 (length (without_equals G (in_order rev c))))
    d
  where
    go : (a b t : Bool) → size_of (cond a none (cond b none (cond t (some (without_equals G (in_order rev c))) none))) ≢ 0
        → cond a none (cond b none (cond t (some (without_equals G (in_order rev c))) none)) ≡ some (without_equals G (in_order rev c))
    go true b t d = absurd (d refl)
    go false true t d = absurd (d refl)
    go false false false d = absurd (d refl)
    go false false true d = refl

build_none : (G : Geo Point) (rev o : Bool) → build_path64_from_outpt G rev o [] ≡ none
unfolding build_path64_from_outpt
build_none G rev true = refl
build_none G rev false = refl

pub record There (s : Store) (rev o : Bool) (i k : ℕ) : Type 0 where
  pub is : path_if s o i ≡ some (path_points s rev i)
  pub size : k ≡ length (path_points s rev i)
  pub ringed : ringless s i ≡ false
  pub field_is : field_at s o i ≡ (tag_of o ∷ []) ++ low_bytes 2 (POINT * k) ++ path_bytes (path_points s rev i)

path_there : (s : Store) (rev o : Bool) (i : ℕ) → rev ≡ reverse_solution s → size_of (path_if s o i) ≢ 0 → path_if s o i ≡ some (path_points s rev i)
unfolding path_if path_at
path_there s rev o i e d = by (beq (is_open s i) o) d
  where
    by : (t : Bool) → size_of (cond t (path_by s (reverse_solution s) (is_open s i) i) none) ≢ 0 → cond t (path_by s (reverse_solution s) (is_open s i) i) none ≡ some (path_points s rev i)
    by true h = rw e (build_some (plane (preserve_collinear s)) (reverse_solution s) (is_open s i) (points_at s i) h)
    by false h = absurd (h refl)

-- a ringless record has no path
none_ringless : (s : Store) (o : Bool) (i : ℕ) → ringless s i ≡ true → path_if s o i ≡ none
unfolding path_if path_at
none_ringless s o i e = rw (e, build_none (plane (preserve_collinear s)) (reverse_solution s) (is_open s i)) (by (beq (is_open s i) o))
  where
    by : (t : Bool) → ◌≡◌ {A = Option (List Point)} (cond t none none) none
    by true = refl
    by false = refl

pub there : (s : Store) (rev o : Bool) (i k : ℕ) → rev ≡ reverse_solution s → k ≡ size_of (path_if s o i) → k ≢ 0 → There s rev o i k
unfolding field_at path_field
there s rev o i k e f d =
    let a = path_there s rev o i e (λ z. d (f ∙ z)) in
    let b : k ≡ length (path_points s rev i) = f ∙ ap size_of a in
    record { is = a; size = b; ringed = has_ring (ringless s i) refl; field_is = rw (a, append-nil (path_field (tag_of o) (path_points s rev i)), b) }
  where
    has_ring : (t : Bool) → ringless s i ≡ t → t ≡ false
    has_ring false g = refl
    has_ring true g = absurd (d (f ∙ ap size_of (none_ringless s o i g)))

-- ---- its header, and the part after it

pub header_length : (t u : List ℕ) (tag v : ℕ) → u ≡ put_le 2 1 v (set t 0 tag) → length u ≡ length t
header_length t u tag v e = ap length e ∙ length_put 2 1 v (set t 0 tag) ∙ length-set t 0 tag

header_over : (t : List ℕ) (tag v : ℕ) → 3 ≤ length t → put_le 2 1 v (set t 0 tag) ≡ over ((tag ∷ []) ++ low_bytes 2 v) t
header_over t tag v h = ap (λ (l : List ℕ). put_le 2 1 v l) (set_over [] t tag (omega arith)) ∙ put_over 2 v (tag ∷ []) t (omega arith)

-- bytes laid over the first of those that were laid
over_front : (h f z t : List ℕ) → length h ≡ length f → over h (over (f ++ z) t) ≡ over (h ++ z) t
over_front h f z t e =
    let n : length (f ++ z) ≡ length (h ++ z) = omega (arith, length-append f z, length-append h z) in
    ap (λ (k : ℕ). h ++ drop k ((f ++ z) ++ drop (length (f ++ z)) t)) e
    ∙ ap (λ (l : List ℕ). h ++ drop (length f) l) (append_assoc f z (drop (length (f ++ z)) t))
    ∙ ap (λ (l : List ℕ). h ++ l) (drop-append_seam f (z ++ drop (length (f ++ z)) t))
    ∙ ap (λ (k : ℕ). h ++ (z ++ drop k t)) n
    ∙ sym (append_assoc h z (drop (length (h ++ z)) t))

pub no_field : (s : Store) (o : Bool) (i k : ℕ) (t : List ℕ) → k ≡ size_of (path_if s o i) → k ≡ 0 → laid 0 t ≡ lay_over (field_at s o i) t
unfolding field_at
no_field s o i k t e f =
    let h : length (fields (tag_of o) (listed (path_if s o i))) ≡ 0 = field_length s (tag_of o) o i ∙ ap field_size (sym e ∙ f) in
    go (fields (tag_of o) (listed (path_if s o i))) h
  where
    go : (l : List ℕ) → length l ≡ 0 → laid 0 t ≡ lay_over l t
    go [] g = refl
    go (x ∷ l) g = absurd (omega arith)

module _ (w : List ℕ) (rev o : Bool) (i : ℕ) (t : List ℕ) (p : FieldFits w rev o i t) (k : ℕ) (e : k ≡ size_of (path_if (view w) o i)) (d : k ≢ 0) where
  is_there : There (view w) rev o i k
  is_there = there (view w) rev o i k p.asked.direction e d

  field_room : 3 + POINT * k ≤ length t
  field_room =
      let z = path_bytes (path_points (view w) rev i) in
      omega (arith, p.room, ap length is_there.field_is, length-append ((tag_of o ∷ []) ++ low_bytes 2 (POINT * k)) z, length_path_bytes (path_points (view w) rev i), is_there.size)

  pub header_room : 3 ≤ length t
  header_room = omega (arith, field_room)

  pub field_sum : k ≤ 2048
  field_sum = size_fits w o i k p.asked.of e

  module _ (tag : ℕ) (u : List ℕ) (f : tag ≡ tag_of o) (g : u ≡ put_le 2 1 (POINT * k) (set t 0 tag)) where
    laid_head : u ≡ over ((tag_of o ∷ []) ++ low_bytes 2 (POINT * k)) t
    laid_head = g ∙ ap (λ (x : ℕ). put_le 2 1 (POINT * k) (set t 0 x)) f ∙ header_over t (tag_of o) (POINT * k) header_room

    pub points_fit : PointsFit w rev i (take (length u - 3) (drop 3 u))
    points_fit =
        record {
          of = p.asked.of;
          ringed = is_there.ringed;
          room =
              omega (
                arith,
                field_room,
                is_there.size,
                ap length (part_is ((tag_of o ∷ []) ++ low_bytes 2 (POINT * k)) t u 3 refl laid_head header_room),
                length-drop 3 t,
              );
        }

    pub field_laid : (ys : List ℕ) → ys ≡ over (path_bytes (path_points (view w) rev i)) (take (length u - 3) (drop 3 u)) → laid (3 + POINT * k) (put_mid 3 (length u - 3) u ys) ≡ lay_over (field_at (view w) o i) t
    field_laid ys h =
        let z = path_bytes (path_points (view w) rev i) in
        let n : 3 + POINT * k ≡ length ((tag_of o ∷ []) ++ low_bytes 2 (POINT * k) ++ z) =
        omega (arith, length-append ((tag_of o ∷ []) ++ low_bytes 2 (POINT * k)) z, length_path_bytes (path_points (view w) rev i), is_there.size)
        in
        rw (is_there.field_is, n, part_over ((tag_of o ∷ []) ++ low_bytes 2 (POINT * k)) t u 3 refl laid_head header_room z ys h)

  -- the points first, and then the header
  pub part_fit : PointsFit w rev i (take (length t - 3) (drop 3 t))
  part_fit =
      record {
        of = p.asked.of;
        ringed = is_there.ringed;
        room = omega (arith, field_room, is_there.size, ap length (take_all (length t - 3) (drop 3 t) (omega (arith, length-drop 3 t))), length-drop 3 t);
      }

  pub part_size : (n : ℕ) (ys s : List ℕ) → laid n ys ≡ lay_over (path_bytes (path_points (view w) rev i)) s → n ≡ POINT * k
  part_size n ys s h = omega (arith, ap (λ (z : Laid). z.at) h, length_path_bytes (path_points (view w) rev i), is_there.size)

  front : t ≡ over (take 3 t) t
  front = sym (take-append-drop 3 t) ∙ ap (λ (n : ℕ). take 3 t ++ drop n t) (sym (length-take-le 3 t header_room))

  module _ (n : ℕ) (ys : List ℕ) (h : laid n ys ≡ lay_over (path_bytes (path_points (view w) rev i)) (take (length t - 3) (drop 3 t))) where
    three : length (take 3 t) ≡ 3
    three = length-take-le 3 t header_room

    sized : n ≡ POINT * k
    sized = part_size n ys (take (length t - 3) (drop 3 t)) h

    behind : put_mid 3 (length t - 3) t ys ≡ over (take 3 t ++ path_bytes (path_points (view w) rev i)) t
    behind = part_over (take 3 t) t t 3 (sym three) front (omega (arith, three, header_room)) (path_bytes (path_points (view w) rev i)) ys (ap (λ (x : Laid). x.tray) h)

    same_size : length (over (take 3 t ++ path_bytes (path_points (view w) rev i)) t) ≡ length t
    same_size =
        length_over (take 3 t ++ path_bytes (path_points (view w) rev i)) t
        (omega (arith, length-append (take 3 t) (path_bytes (path_points (view w) rev i)), three, length_path_bytes (path_points (view w) rev i), is_there.size, field_room))

    pub head_room : (3 ≤ length (put_mid 3 (length t - 3) t ys)) × (n / POINT ≤ 2048)
    head_room = (omega (arith, ap length behind, same_size, header_room), omega (arith, sized, field_sum))

    pub sum_fits : 3 + n < 2 ^ 64
    sum_fits = omega (arith, sized, field_sum)

    pub head_after : (u : List ℕ) (tag : ℕ) → tag ≡ tag_of o → u ≡ put_le 2 1 (POINT * (n / POINT)) (set (put_mid 3 (length t - 3) t ys) 0 tag) → laid (3 + n) u ≡ lay_over (field_at (view w) o i) t
    head_after u tag f g =
        let z = path_bytes (path_points (view w) rev i) in
        let H = (tag_of o ∷ []) ++ low_bytes 2 (POINT * k) in
        let v : POINT * (n / POINT) ≡ POINT * k = omega (arith, sized) in
        let b : u ≡ over H (over (take 3 t ++ z) t) = g ∙ rw (v, behind, f) (header_over (over (take 3 t ++ z) t) (tag_of o) (POINT * k) (omega (arith, same_size, header_room))) in
        let c : u ≡ over (H ++ z) t = b ∙ over_front H (take 3 t) z t (sym three) in
        let j : 3 + n ≡ length (H ++ z) = omega (arith, sized, length-append H z, length_path_bytes (path_points (view w) rev i), is_there.size) in
        rw (is_there.field_is, j, c)
