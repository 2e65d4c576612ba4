-- A tray that crate paths wrote is read back: its fields hold the paths that were written, and it can be listed.
use Prim.Native.Nat.{ℕ, ◌+◌, ◌-◌, ◌*◌, ◌/◌, ◌%◌, ◌^◌, ◌≤◌, ◌<◌}
use mathlib.Core.Path.{◌≡◌, refl, sym, ap, ◌∙◌, subst}
use mathlib.Core.Bool.{Bool, true, false}
use mathlib.Core.List.{List, [], ◌∷◌, ◌++◌, map, append_assoc, append-nil}
use native.Mathlib.Omega.{arith}
use native.Mathlib.Nat.{mod-eq_of_lt}
use lib.IntN.{ℤ}
use lib.ListN.{length, replicate, length-append, length-map}
use lib.Seq.{drop-append_seam}
use mir.Syntax.{w32}
use mir.Val.{SFits, of_z}
use mir.ValLaws.{of_z_fits, to_z-of_z}
use Rattle.exact.specs.Num.{Within}
use Rattle.exact.proofs.Size.{fits_size}
use Rattle.numbers.specs.Bytes.{le}
use Rattle.numbers.specs.Written.{put_le}
use Rattle.numbers.specs.Raised.{signed}
use Rattle.numbers.proofs.Written.{read_written}
use Rattle.geometry.specs.declared.Point.{Point}
use Rattle.geometry.specs.Plane.{ground, area_outpt}
use Rattle.geometry.specs.Table.{InTable, AllInTable}
use Rattle.geometry.proofs.Circles.{area_ground}
use Rattle.store.specs.Words.{Store}
use Rattle.store.specs.Sound.{recs}
use Rattle.store.specs.Good.{Sound}
use Rattle.paths.specs.Path.{closed_paths, open_paths}
use Rattle.paths.specs.Tray.{POINT, low_bytes, i32_bytes, point_bytes, path_bytes, path_field, tag_of, fields, fields_of, padded, over}
use Rattle.paths.proofs.Laying.{length_low_bytes, length_point_bytes, put_over}
use Rattle.paths.proofs.Counts.{length_path_field}
use Rattle.paths.proofs.Tables.{Fit, Each, paths_fit}
use Rattle.listing.specs.Fields.{point_in, as_words, points_in, value_length, next_field, path_in, paths_in, field_after}
use Rattle.listing.specs.Needs.{FieldIn, FieldsIn}
use Rattle.listing.specs.Lines.{points_text, line_of, first_line, lines_of, listing_of}
use Rattle.listing.specs.Needs.{Listable, point_count}

-- ---- a number, a point, points

over_self : (a b : List ℕ) → over a (a ++ b) ≡ a ++ b
over_self a b = ap (λ (l : List ℕ). a ++ l) (drop-append_seam a b)

number_in : (n v : ℕ) (a b : List ℕ) → le n (length a) (a ++ low_bytes n v ++ b) ≡ v % 256 ^ n
number_in n v a b =
    let t : List ℕ = a ++ low_bytes n v ++ b in
    let room : length a + n ≤ length t = omega (arith, length-append (a ++ low_bytes n v) b, length-append a (low_bytes n v), length_low_bytes n v) in
    let e : over a t ≡ t = ap (over a) (append_assoc a (low_bytes n v) b) ∙ over_self a (low_bytes n v ++ b) ∙ sym (append_assoc a (low_bytes n v) b) in
    let f : put_le n (length a) v t ≡ t = ap (put_le n (length a) v) (sym e) ∙ put_over n v a t room ∙ over_self (a ++ low_bytes n v) b in
    ap (le n (length a)) (sym f) ∙ read_written n (length a) v t room

coordinate_in : (z : ℤ) (a b : List ℕ) → Within (2 ^ 20) z → signed (le 4 (length a) (a ++ i32_bytes z ++ b)) ≡ z
coordinate_in z a b h =
    let s : SFits w32 z = fits_size w32 z (omega (arith, h.size)) in
    let l : of_z w32 z < 2 ^ 32 = (of_z_fits w32 z s).fits in
    ap signed (number_in 4 (of_z w32 z) a b ∙ mod-eq_of_lt l) ∙ to_z-of_z w32 z s

point_in_lem : (p : Point) (a b : List ℕ) → InTable p → point_in (a ++ point_bytes p ++ b) (length a) ≡ as_words p
unfolding point_in point_bytes
point_in_lem p a b h =
    let x : List ℕ = i32_bytes p.x in
    let y : List ℕ = i32_bytes p.y in
    let z : List ℕ = low_bytes 4 p.z in
    let t : List ℕ = a ++ (x ++ y ++ z) ++ b in
    let e : t ≡ a ++ x ++ (y ++ z ++ b) = simp append_assoc in
    let f : t ≡ (a ++ x) ++ y ++ (z ++ b) = simp append_assoc in
    let k : t ≡ (a ++ x ++ y) ++ z ++ b = simp append_assoc in
    let g : length a + 4 ≡ length (a ++ x) = omega (arith, length-append a x, length_low_bytes 4 (of_z w32 p.x)) in
    let i : length a + 8 ≡ length (a ++ x ++ y) = omega (arith, g, length-append (a ++ x) y, length_low_bytes 4 (of_z w32 p.y)) in
    let u : signed (le 4 (length a) t) ≡ p.x = ap (λ (l : List ℕ). signed (le 4 (length a) l)) e ∙ coordinate_in p.x a (y ++ z ++ b) h.x in
    let v : signed (le 4 (length a + 4) t) ≡ p.y =
    ap (λ (l : List ℕ). signed (le 4 (length a + 4) l)) f ∙ ap (λ (m : ℕ). signed (le 4 m ((a ++ x) ++ y ++ (z ++ b)))) g ∙ coordinate_in p.y (a ++ x) (z ++ b) h.y
    in
    let w : le 4 (length a + 8) t ≡ p.z % 2 ^ 32 = ap (le 4 (length a + 8)) k ∙ ap (λ (m : ℕ). le 4 m ((a ++ x ++ y) ++ z ++ b)) i ∙ number_in 4 p.z (a ++ x ++ y) b in
    made _ _ _ u v w
  where
    made : (i j : ℤ) (k : ℕ) → i ≡ p.x → j ≡ p.y → k ≡ p.z % 2 ^ 32 → ◌≡◌ {A = Point} (record { x = i; y = j; z = k }) (as_words p)
    made i j k d e f = rw (d, e, f)

points_in_lem : (path : List Point) (a b : List ℕ) → AllInTable path → points_in (a ++ path_bytes path ++ b) (length path) (length a) ≡ map as_words path
points_in_lem [] a b h = refl
points_in_lem (p ∷ ps) a b h =
    let q : List ℕ = point_bytes p in
    let r : List ℕ = path_bytes ps in
    let e : a ++ (q ++ r) ++ b ≡ a ++ q ++ (r ++ b) = simp append_assoc in
    let f : a ++ (q ++ r) ++ b ≡ (a ++ q) ++ r ++ b = simp append_assoc in
    let g : length a + POINT ≡ length (a ++ q) = omega (arith, length-append a q, length_point_bytes p) in
    let u : point_in (a ++ (q ++ r) ++ b) (length a) ≡ as_words p = ap (λ (l : List ℕ). point_in l (length a)) e ∙ point_in_lem p a (r ++ b) h.0 in
    let v : points_in (a ++ (q ++ r) ++ b) (length ps) (length a + POINT) ≡ map as_words ps =
    ap (λ (l : List ℕ). points_in l (length ps) (length a + POINT)) f ∙ ap (λ (k : ℕ). points_in ((a ++ q) ++ r ++ b) (length ps) k) g ∙ points_in_lem ps (a ++ q) b h.1
    in
    rw (u, v)

-- ---- what it leaves as it was: the table, the area, the text

words_in : (path : List Point) → AllInTable path → AllInTable (map as_words path)
words_in [] h = tt
words_in (p ∷ ps) h = (record { x = h.0.x; y = h.0.y }, words_in ps h.1)

words_ground : (path : List Point) → map ground (map as_words path) ≡ map ground path
words_ground [] = refl
words_ground (p ∷ ps) = ap (λ (l : List Point). ground p ∷ l) (words_ground ps)

words_area : (path : List Point) → area_outpt (map as_words path) ≡ area_outpt path
words_area path = sym (area_ground (map as_words path)) ∙ ap area_outpt (words_ground path) ∙ area_ground path

words_points : (path : List Point) → points_text (map as_words path) ≡ points_text path
words_points [] = refl
words_points (p ∷ ps) = rw (mod_twice p.z, words_points ps)
  where
    mod_twice : (v : ℕ) → v % 2 ^ 32 % 2 ^ 32 ≡ v % 2 ^ 32
    mod_twice v = omega arith

words_line : (rev o : Bool) (path : List Point) → line_of rev o (map as_words path) ≡ line_of rev o path
words_line rev false path = rw (words_area path, length-map path as_words, words_points path)
words_line rev true path = rw (length-map path as_words, words_points path)

pub words_lines : (rev o : Bool) (ps : List (List Point)) → lines_of rev o (map (map as_words) ps) ≡ lines_of rev o ps
words_lines rev o [] = refl
words_lines rev o (p ∷ ps) = rw (words_line rev o p, words_lines rev o ps)

pub words_count : (ps : List (List Point)) → point_count (map (map as_words) ps) ≡ point_count ps
words_count [] = refl
words_count (p ∷ ps) = rw (length-map p as_words, words_count ps)

-- ---- a field

module _ (tag : ℕ) (path : List Point) (a b : List ℕ) (h : Fit path) where
  t : List ℕ
  t = a ++ path_field tag path ++ b

  value_is : value_length t (length a) ≡ POINT * length path
  unfolding t path_field
  value_is =
      let n = POINT * length path in
      let e : a ++ ((tag ∷ []) ++ low_bytes 2 n ++ path_bytes path) ++ b ≡ (a ++ (tag ∷ [])) ++ low_bytes 2 n ++ (path_bytes path ++ b) = simp append_assoc in
      let g : length a + 1 ≡ length (a ++ (tag ∷ [])) = omega (arith, length-append a (tag ∷ [])) in
      ap (le 2 (length a + 1)) e ∙ ap (λ (k : ℕ). le 2 k ((a ++ (tag ∷ [])) ++ low_bytes 2 n ++ (path_bytes path ++ b))) g
      ∙ number_in 2 n (a ++ (tag ∷ [])) (path_bytes path ++ b)
      ∙ mod-eq_of_lt (omega (arith, h.short))

  field_path : path_in t (length a) ≡ map as_words path
  unfolding t path_field
  field_path =
      let n = POINT * length path in
      let m : List ℕ = a ++ ((tag ∷ []) ++ low_bytes 2 n) in
      let d : n / POINT ≡ length path = omega arith in
      let e : a ++ ((tag ∷ []) ++ low_bytes 2 n ++ path_bytes path) ++ b ≡ m ++ path_bytes path ++ b = simp append_assoc in
      let g : length a + 3 ≡ length m = omega (arith, length-append a ((tag ∷ []) ++ low_bytes 2 n)) in
      ap (λ (k : ℕ). points_in (a ++ ((tag ∷ []) ++ low_bytes 2 n ++ path_bytes path) ++ b) (k / POINT) (length a + 3)) value_is
      ∙ ap (λ (k : ℕ). points_in (a ++ ((tag ∷ []) ++ low_bytes 2 n ++ path_bytes path) ++ b) k (length a + 3)) d
      ∙ ap (λ (l : List ℕ). points_in l (length path) (length a + 3)) e
      ∙ ap (λ (k : ℕ). points_in (m ++ path_bytes path ++ b) (length path) k) g
      ∙ points_in_lem path m b h.small

  next_is : next_field t (length a) ≡ length (a ++ path_field tag path)
  next_is = omega (arith, value_is, length-append a (path_field tag path), length_path_field tag path)

  field_in : FieldIn t (length a)
  unfolding t
  field_in =
      let l = length-append (a ++ path_field tag path) b in
      record {
        head = omega (arith, l, length-append a (path_field tag path), length_path_field tag path);
        inside = omega (arith, l, next_is);
        small = subst AllInTable (sym field_path) (words_in path h.small);
      }

-- ---- fields

fields_split : (tag : ℕ) (p : List Point) (ps : List (List Point)) (a b : List ℕ) → a ++ fields tag (p ∷ ps) ++ b ≡ a ++ path_field tag p ++ (fields tag ps ++ b)
fields_split tag p ps a b = simp append_assoc

fields_next : (tag : ℕ) (p : List Point) (ps : List (List Point)) (a b : List ℕ) → a ++ fields tag (p ∷ ps) ++ b ≡ (a ++ path_field tag p) ++ fields tag ps ++ b
fields_next tag p ps a b = simp append_assoc

pub paths_are : (tag : ℕ) (ps : List (List Point)) (a b : List ℕ) → Each Fit ps → paths_in (a ++ fields tag ps ++ b) (length ps) (length a) ≡ map (map as_words) ps
unfolding t
paths_are tag [] a b h = refl
paths_are tag (p ∷ ps) a b h =
    let f = fields_split tag p ps a b in
    let x : path_in (a ++ fields tag (p ∷ ps) ++ b) (length a) ≡ map as_words p = ap (λ (l : List ℕ). path_in l (length a)) f ∙ field_path tag p a (fields tag ps ++ b) h.0 in
    let n : next_field (a ++ fields tag (p ∷ ps) ++ b) (length a) ≡ length (a ++ path_field tag p) = ap (λ (l : List ℕ). next_field l (length a)) f ∙ next_is tag p a (fields tag ps ++ b) h.0 in
    let y : paths_in (a ++ fields tag (p ∷ ps) ++ b) (length ps) (next_field (a ++ fields tag (p ∷ ps) ++ b) (length a)) ≡ map (map as_words) ps =
    ap (paths_in (a ++ fields tag (p ∷ ps) ++ b) (length ps)) n
    ∙ ap (λ (l : List ℕ). paths_in l (length ps) (length (a ++ path_field tag p))) (fields_next tag p ps a b)
    ∙ paths_are tag ps (a ++ path_field tag p) b h.1
    in
    rw (x, y)

pub after_is : (tag : ℕ) (ps : List (List Point)) (a b : List ℕ) → Each Fit ps → field_after (a ++ fields tag ps ++ b) (length ps) (length a) ≡ length (a ++ fields tag ps)
unfolding t
after_is tag [] a b h = ap length (sym (append-nil a))
after_is tag (p ∷ ps) a b h =
    let f = fields_split tag p ps a b in
    let n : next_field (a ++ fields tag (p ∷ ps) ++ b) (length a) ≡ length (a ++ path_field tag p) = ap (λ (l : List ℕ). next_field l (length a)) f ∙ next_is tag p a (fields tag ps ++ b) h.0 in
    ap (field_after (a ++ fields tag (p ∷ ps) ++ b) (length ps)) n
    ∙ ap (λ (l : List ℕ). field_after l (length ps) (length (a ++ path_field tag p))) (fields_next tag p ps a b)
    ∙ after_is tag ps (a ++ path_field tag p) b h.1
    ∙ ap length (append_assoc a (path_field tag p) (fields tag ps))

pub fields_in : (tag : ℕ) (ps : List (List Point)) (a b : List ℕ) → Each Fit ps → FieldsIn (a ++ fields tag ps ++ b) (length ps) (length a)
unfolding t
fields_in tag [] a b h = omega (arith, length-append (a ++ []) b, length-append {A = ℕ} a [])
fields_in tag (p ∷ ps) a b h =
    let f = fields_split tag p ps a b in
    let n : next_field (a ++ fields tag (p ∷ ps) ++ b) (length a) ≡ length (a ++ path_field tag p) = ap (λ (l : List ℕ). next_field l (length a)) f ∙ next_is tag p a (fields tag ps ++ b) h.0 in (
      subst (λ (l : List ℕ). FieldIn l (length a)) (sym f) (field_in tag p a (fields tag ps ++ b) h.0),
      subst (FieldsIn (a ++ fields tag (p ∷ ps) ++ b) (length ps)) (sym n)
          (subst (λ (l : List ℕ). FieldsIn l (length ps) (length (a ++ path_field tag p))) (sym (fields_next tag p ps a b)) (fields_in tag ps (a ++ path_field tag p) b h.1)),
    )

-- ---- a written tray

module _ (s : Store) (o : Sound s) (n : ℕ) where
  A : List ℕ
  A = fields (tag_of false) (closed_paths s)

  B : List ℕ
  B = fields (tag_of true) (open_paths s)

  Z : List ℕ
  Z = replicate (n - length (fields_of s)) 0

  closed_fit : Each Fit (closed_paths s)
  closed_fit = paths_fit s o false (recs s) (omega arith)

  open_fit : Each Fit (open_paths s)
  open_fit = paths_fit s o true (recs s) (omega arith)

  as_closed : padded n (fields_of s) ≡ [] ++ A ++ (B ++ Z)
  unfolding fields_of A B Z
  as_closed = append_assoc (fields (tag_of false) (closed_paths s)) (fields (tag_of true) (open_paths s)) (replicate (n - length (fields_of s)) 0)

  as_open : padded n (fields_of s) ≡ A ++ B ++ Z
  unfolding fields_of A B Z
  as_open = refl

  after_closed : field_after (padded n (fields_of s)) (length (closed_paths s)) 0 ≡ length A
  unfolding A
  after_closed = ap (λ (l : List ℕ). field_after l (length (closed_paths s)) 0) as_closed ∙ after_is (tag_of false) (closed_paths s) [] (B ++ Z) closed_fit

  pub written_closed : paths_in (padded n (fields_of s)) (length (closed_paths s)) 0 ≡ map (map as_words) (closed_paths s)
  unfolding A
  written_closed = ap (λ (l : List ℕ). paths_in l (length (closed_paths s)) 0) as_closed ∙ paths_are (tag_of false) (closed_paths s) [] (B ++ Z) closed_fit

  pub written_open : paths_in (padded n (fields_of s)) (length (open_paths s)) (field_after (padded n (fields_of s)) (length (closed_paths s)) 0) ≡ map (map as_words) (open_paths s)
  unfolding B
  written_open =
      ap (paths_in (padded n (fields_of s)) (length (open_paths s))) after_closed
      ∙ ap (λ (l : List ℕ). paths_in l (length (open_paths s)) (length A)) as_open
      ∙ paths_are (tag_of true) (open_paths s) A Z open_fit

  -- it can be listed
  pub written_listable : Listable (length (closed_paths s)) (length (open_paths s)) (padded n (fields_of s))
  unfolding A B
  written_listable =
      record {
        closed_in = subst (λ (l : List ℕ). FieldsIn l (length (closed_paths s)) 0) (sym as_closed) (fields_in (tag_of false) (closed_paths s) [] (B ++ Z) closed_fit);
        open_in =
            subst (FieldsIn (padded n (fields_of s)) (length (open_paths s))) (sym after_closed)
            (subst (λ (l : List ℕ). FieldsIn l (length (open_paths s)) (length A)) (sym as_open) (fields_in (tag_of true) (open_paths s) A Z open_fit));
      }

  -- and its listing is that of the store's paths
  pub written_listing : (rev : Bool) → listing_of rev (length (closed_paths s)) (length (open_paths s)) (padded n (fields_of s))
      ≡ first_line (length (closed_paths s)) (length (open_paths s)) ++ lines_of rev false (closed_paths s) ++ lines_of rev true (open_paths s)
  unfolding listing_of
  written_listing rev = rw (written_closed, written_open, words_lines rev false (closed_paths s), words_lines rev true (open_paths s))
