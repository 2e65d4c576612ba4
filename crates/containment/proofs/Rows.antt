-- Answers, poured path by path.
use Prim.Native.Nat.{ℕ, zero, suc, ◌+◌, ◌-◌, ◌*◌, ◌/◌, ◌≤◌, ◌<◌}
use mathlib.Core.Path.{◌≡◌, refl, sym, ap, ◌∙◌, subst}
use mathlib.Core.Bool.{Bool, true, false}
use mathlib.Core.List.{List, [], ◌∷◌, ◌++◌, append_assoc, append-nil}
use native.Mathlib.Omega.{arith}
use native.Mathlib.Nat.{mul-le-mul_left, mul-le-mul_right, le_trans}
use lib.ListN.{length, take, drop, replicate, length-append, length-replicate}
use lib.Seq.{take_all}
use mir.Syntax.{w64}
use mir.Val.{Fits}
use Rattle.job.specs.Limits.{RECORDS}
use lib.IntN.{ℤ, pos}
use Rattle.geometry.specs.declared.Point.{Point}
use Rattle.geometry.specs.declared.Rect.{Rect}
use Rattle.paths.specs.Tray.{padded}
use Rattle.text.specs.Pour.{poured, pour}
use Rattle.listing.specs.Fields.{points_in, value_length, next_field, path_in, paths_in, field_after}
use Rattle.listing.specs.Needs.{FieldIn, FieldsIn}
use Rattle.listing.specs.Told.{Told, told, answer_at, tell}
use Rattle.text.proofs.Pouring.{pour_none, pour_more, pour_length}
use Rattle.listing.proofs.Telling.{told_all}
use Rattle.containing.specs.Contains.{path2_contains_path1}
use Rattle.paths.specs.Tray.{POINT}
use Rattle.containment.specs.Answers.{bit, row, rows, pair_answers, pair_count}
use Rattle.containing.specs.Outside.{begins_outside, AllEnclosed}
use Rattle.containing.proofs.Apart.{outside_not_contained}
use Rattle.path_boxes.specs.Table.{nowhere, rect_at, filled, Boxed}
use Rattle.path_boxes.proofs.Tables.{filled_boxed}
use Rattle.containment.specs.Needs.{Fielded, FieldOf, BoxFor, BoxesFrom, Rowing, AllPairs}
use Rattle.containment.proofs.Fields.{fields_next, paths_next, paths_none, fields_first, fields_rest, after_more, paths_more, paths_length}

-- ---- one answer
pub contains_is : (t : List ℕ) (f g a b : ℕ) (r : Bool) → (a ≡ value_length t f) × (a < 65536) → (b ≡ value_length t g) × (b < 65536)
    → r ≡ path2_contains_path1 (points_in t (a / POINT) (f + 3)) (points_in t (b / POINT) (g + 3)) → r ≡ path2_contains_path1 (path_in t f) (path_in t g)
contains_is t f g a b r e h i =
    i ∙ ap (λ (k : ℕ). path2_contains_path1 (points_in t (k / POINT) (f + 3)) (points_in t (b / POINT) (g + 3))) e.0 ∙ ap (λ (k : ℕ). path2_contains_path1 (path_in t f) (points_in t (k / POINT) (g + 3))) h.0

pub one_poured : (t : List ℕ) (f g at k b : ℕ) (y : Bool) (out out' : List ℕ) → y ≡ path2_contains_path1 (path_in t f) (path_in t g) → b ≡ bit y → poured k out' ≡ pour (b ∷ []) at out
    → poured k out' ≡ pour (row (path_in t f) (paths_in t 1 g)) at out
one_poured t f g at k b y out out' e h i = i ∙ ap (λ (x : ℕ). pour (x ∷ []) at out) (h ∙ ap bit e)

-- ---- by the box: outside of it, no
pub contains_not : (t : List ℕ) (boxes : List Rect) (j f g a : ℕ) (e : Rect) (x : Bool) → BoxFor t boxes j g → (a ≡ value_length t f) × (a < 65536) → e ≡ rect_at boxes j → x ≡ begins_outside e (points_in t (a / POINT) (f + 3))
    → x ≡ true → false ≡ path2_contains_path1 (path_in t f) (path_in t g)
contains_not t boxes j f g a e x h i k l m =
    let z : begins_outside (rect_at boxes j) (path_in t f) ≡ true =
    sym (l ∙ ap (λ (b : Rect). begins_outside b (points_in t (a / POINT) (f + 3))) k ∙ ap (λ (v : ℕ). begins_outside (rect_at boxes j) (points_in t (v / POINT) (f + 3))) i.0) ∙ m
    in
    sym (outside_not_contained (rect_at boxes j) (path_in t f) (path_in t g) h.within z)

-- ---- a row
pub rowing_begins : (t : List ℕ) (boxes : List Rect) (p : List Point) (first from count at : ℕ) (out : List ℕ) → FieldsIn t count from → BoxesFrom t boxes first from count
    → Rowing t boxes p at out (row p (paths_in t count from)) out at first from count
rowing_begins t boxes p first from count at out r b = record { rest = r; boxes_from = b; done = []; is = pour_none out at; all = refl }

module _ (t : List ℕ) (boxes : List Rect) (p : List Point) (at : ℕ) (out₀ total out : List ℕ) (k j g left : ℕ) (s : Rowing t boxes p at out₀ total out k j g left) where
  pub rowing_length : length out ≡ length out₀
  rowing_length = pour_length s.done out₀ out at k s.is

  pub rowing_ends : left ≤ 0 → poured k out ≡ pour total at out₀
  rowing_ends h =
      s.is ∙ ap (λ (x : List ℕ). pour x at out₀) (sym (append-nil s.done) ∙ ap (λ (l : List (List Point)). s.done ++ row p l) (sym (paths_none t left g h)) ∙ s.all)

  module _ (h : 0 < left) where
    pub rowing_field : FieldIn t g
    rowing_field = (fields_next t left g h s.rest).0

    pub rowing_box : BoxFor t boxes j g
    rowing_box =
        let b = s.boxes_from in
        let l : j < b.known = omega (arith, b.few) in
        record { room = omega (arith, b.boxed.long); within = subst (λ (m : ℕ). AllEnclosed (rect_at boxes j) (path_in t m)) (sym b.at_is) (b.boxed.each j l) }

    boxes_on : (v : ℕ) → v ≡ value_length t g → BoxesFrom t boxes (j + 1) (g + 3 + v) (left - 1)
    boxes_on v e =
        let b = s.boxes_from in
        let z : suc j ≡ j + 1 = omega arith in
        record {
          known = b.known;
          boxed = b.boxed;
          few = omega (arith, b.few);
          at_is = ap (λ (x : ℕ). g + 3 + x) e ∙ ap (next_field t) b.at_is ∙ sym (after_more t j 0) ∙ ap (λ (m : ℕ). field_after t m 0) z;
        }

    pub rowing_on : (k' v : ℕ) (out' : List ℕ) → poured k' out' ≡ pour (row p (paths_in t 1 g)) k out → (v ≡ value_length t g) × (v < 65536) → Rowing t boxes p at out₀ total out' k' (j + 1) (g + 3 + v) (left - 1)
    rowing_on k' v out' e f =
        let z : g + 3 + v ≡ next_field t g = ap (λ (x : ℕ). g + 3 + x) f.0 in
        record {
          rest = subst (FieldsIn t (left - 1)) (sym z) (fields_next t left g h s.rest).1;
          boxes_from = boxes_on v f.0;
          done = s.done ++ row p (paths_in t 1 g);
          is = pour_more s.done (row p (paths_in t 1 g)) out₀ out out' at k k' s.is e;
          all =
              ap (λ (x : ℕ). (s.done ++ row p (paths_in t 1 g)) ++ row p (paths_in t (left - 1) x)) z
              ∙ append_assoc s.done (row p (paths_in t 1 g)) (row p (paths_in t (left - 1) (next_field t g)))
              ∙ ap (λ (l : List (List Point)). s.done ++ row p l) (sym (paths_next t left g h))
              ∙ s.all;
        }

-- boxes first to last are those of the fields, and that of number j is next
pub rowing_starts : (t : List ℕ) (boxes : List Rect) (p : List Point) (first from count at : ℕ) (out : List ℕ) → FieldsIn t count from → BoxesFrom t boxes first from count
    → Rowing t boxes p at out (row p (paths_in t count from)) out at first from (first + count - first)
rowing_starts t boxes p first from count at out r b =
    let z : count ≡ first + count - first = omega arith in
    subst (λ (n : ℕ). Rowing t boxes p at out (row p (paths_in t count from)) out at first from n) z (rowing_begins t boxes p first from count at out r b)

pub rowing_next : (t : List ℕ) (boxes : List Rect) (p : List Point) (at : ℕ) (out₀ total out : List ℕ) (k j g last : ℕ) → Rowing t boxes p at out₀ total out k j g (last - j) → j < last → (k' v : ℕ) (out' : List ℕ)
    → poured k' out' ≡ pour (row p (paths_in t 1 g)) k out → (v ≡ value_length t g) × (v < 65536) → Rowing t boxes p at out₀ total out' k' (j + 1) (g + 3 + v) (last - (j + 1))
rowing_next t boxes p at out₀ total out k j g last s h k' v out' e f =
    let z : last - j - 1 ≡ last - (j + 1) = omega arith in
    subst (λ (n : ℕ). Rowing t boxes p at out₀ total out' k' (j + 1) (g + 3 + v) n) z (rowing_on t boxes p at out₀ total out k j g (last - j) s (omega arith) k' v out' e f)

-- ---- a path against all others
row_append : (p : List Point) (a b : List (List Point)) → row p (a ++ b) ≡ row p a ++ row p b
row_append p [] b = refl
row_append p (q ∷ a) b = ap (λ (l : List ℕ). bit (path2_contains_path1 p q) ∷ l) (row_append p a b)

module _ (t : List ℕ) (c i f : ℕ) (s : FieldOf t c i f) where
  after_here : FieldsIn t (c - i) f
  after_here = rw s.at_is (fields_rest t i c 0 s.fielded.all_in s.low)

  module _ (h : i < c) where
    pub placed_field : FieldIn t f
    placed_field = (fields_next t (c - i) f (omega arith) after_here).0

    pub placed_before : FieldsIn t i 0
    placed_before = fields_first t i c 0 s.fielded.all_in s.low

    pub placed_after : (v : ℕ) → (v ≡ value_length t f) × (v < 65536) → FieldsIn t (c - i - 1) (f + 3 + v)
    placed_after v e = rw e.0 (fields_next t (c - i) f (omega arith) after_here).1

    pub placed_next : (v : ℕ) → v ≡ value_length t f → FieldOf t c (i + 1) (f + 3 + v)
    placed_next v e =
        let z : suc i ≡ i + 1 = omega arith in
        record {
          fielded = s.fielded;
          low = omega arith;
          at_is = ap (λ (x : ℕ). f + 3 + x) e ∙ ap (next_field t) s.at_is ∙ sym (after_more t i 0) ∙ ap (λ (m : ℕ). field_after t m 0) z;
        }

-- the boxes of those before and those after path i
pub boxes_before : (t : List ℕ) (boxes : List Rect) (c i : ℕ) → Boxed t boxes c → i < c → BoxesFrom t boxes 0 0 i
boxes_before t boxes c i b h = record { known = c; boxed = b; few = omega arith; at_is = refl }

pub boxes_after : (t : List ℕ) (boxes : List Rect) (c i f : ℕ) → FieldOf t c i f → i < c → Boxed t boxes c → (v : ℕ) → (v ≡ value_length t f) × (v < 65536) → BoxesFrom t boxes (i + 1) (f + 3 + v) (c - i - 1)
boxes_after t boxes c i f s h b v e = record { known = c; boxed = b; few = omega arith; at_is = (placed_next t c i f s h v e.0).at_is }

pub others_poured : (t : List ℕ) (c i f v at a r : ℕ) (o₁ o₂ o₃ : List ℕ) → (v ≡ value_length t f) × (v < 65536) → poured a o₂ ≡ pour (row (path_in t f) (paths_in t i 0)) at o₁
    → poured r o₃ ≡ pour (row (path_in t f) (paths_in t (c - i - 1) (f + 3 + v))) a o₂ → poured r o₃ ≡ pour (row (path_in t f) (paths_in t i 0 ++ paths_in t (c - i - 1) (next_field t f))) at o₁
others_poured t c i f v at a r o₁ o₂ o₃ e g h =
    let p = path_in t f in
    pour_more (row p (paths_in t i 0)) (row p (paths_in t (c - i - 1) (f + 3 + v))) o₁ o₂ o₃ at a r g h
    ∙ ap (λ (x : List ℕ). pour x at o₁)
    (sym (row_append p (paths_in t i 0) (paths_in t (c - i - 1) (f + 3 + v))) ∙ ap (λ (m : ℕ). row p (paths_in t i 0 ++ paths_in t (c - i - 1) (f + 3 + m))) e.0)

-- a table that was zero
pub table_boxed : (t : List ℕ) (c : ℕ) (boxes : List Rect) → Fielded t c → boxes ≡ filled t c 0 0 (replicate RECORDS nowhere) → Boxed t boxes c
table_boxed t c boxes h e = filled_boxed t c (replicate RECORDS nowhere) boxes (omega (arith, h.few, length-replicate {A = Rect} RECORDS nowhere)) e

-- ---- all
pub pairing_begins : (t : List ℕ) (c : ℕ) (out : List ℕ) → Fielded t c → AllPairs t c out out 0 0 0
unfolding pair_answers
pairing_begins t c out h =
    let z : c - 0 ≡ c = omega arith in
    record { placed = record { fielded = h; low = omega arith; at_is = refl }; done = []; is = pour_none out 0; all = ap (λ (m : ℕ). rows [] (paths_in t m 0)) z }

module _ (t : List ℕ) (c : ℕ) (out₀ out : List ℕ) (k f i : ℕ) (s : AllPairs t c out₀ out k f i) where
  pub pairing_length : length out ≡ length out₀
  pairing_length = pour_length s.done out₀ out 0 k s.is

  pub pairing_ends : c ≤ i → poured k out ≡ pour (pair_answers (paths_in t c 0)) 0 out₀
  pairing_ends h =
      s.is
      ∙ ap (λ (x : List ℕ). pour x 0 out₀)
      (sym (append-nil s.done) ∙ ap (λ (l : List (List Point)). s.done ++ rows (paths_in t i 0) l) (sym (paths_none t (c - i) f (omega arith))) ∙ s.all)

  module _ (h : i < c) where
    pub pairing_field : FieldIn t f
    pairing_field = placed_field t c i f s.placed h

    pub pairing_on : (k' v : ℕ) (out' : List ℕ) → poured k' out' ≡ pour (row (path_in t f) (paths_in t i 0 ++ paths_in t (c - i - 1) (next_field t f))) k out → (v ≡ value_length t f) × (v < 65536)
        → AllPairs t c out₀ out' k' (f + 3 + v) (i + 1)
    pairing_on k' v out' e g =
        let p = path_in t f in
        let before = paths_in t i 0 in
        let rest = paths_in t (c - i - 1) (next_field t f) in
        let z : c - (i + 1) ≡ c - i - 1 = omega arith in
        let y : i + 1 ≡ suc i = omega arith in
        let m : paths_in t (i + 1) 0 ≡ before ++ (p ∷ []) = ap (λ (j : ℕ). paths_in t j 0) y ∙ paths_more t i 0 ∙ ap (λ (j : ℕ). before ++ (path_in t j ∷ [])) (sym s.placed.at_is) in
        record {
          placed = placed_next t c i f s.placed h v g.0;
          done = s.done ++ row p (before ++ rest);
          is = pour_more s.done (row p (before ++ rest)) out₀ out out' 0 k k' s.is e;
          all =
              append_assoc s.done (row p (before ++ rest)) (rows (paths_in t (i + 1) 0) (paths_in t (c - (i + 1)) (f + 3 + v)))
              ∙ ap (λ (l : List (List Point)). s.done ++ (row p (before ++ rest) ++ rows l (paths_in t (c - (i + 1)) (f + 3 + v)))) m
              ∙ ap (λ (j : ℕ). s.done ++ (row p (before ++ rest) ++ rows (before ++ (p ∷ [])) (paths_in t j (f + 3 + v)))) z
              ∙ ap (λ (j : ℕ). s.done ++ (row p (before ++ rest) ++ rows (before ++ (p ∷ [])) (paths_in t (c - i - 1) (f + 3 + j)))) g.0
              ∙ ap (λ (l : List (List Point)). s.done ++ rows before l) (sym (paths_next t (c - i) f (omega arith)))
              ∙ s.all;
        }

-- ---- how many
pub row_length : (p : List Point) (l : List (List Point)) → length (row p l) ≡ length l
row_length p [] = refl
row_length p (q ∷ l) = ap suc (row_length p l)

rows_length : (b ps : List (List Point)) → length (rows b ps) ≡ length ps * (length b + length ps - 1)
rows_length b [] = omega arith
rows_length b (p ∷ ps) =
    let z : length (b ++ (p ∷ [])) + length ps - 1 ≡ length b + length ps = omega (arith, length-append b (p ∷ [])) in
    let y : length b + suc (length ps) - 1 ≡ length b + length ps = omega arith in
    let ih : length (rows (b ++ (p ∷ [])) ps) ≡ length ps * (length b + length ps) = rows_length (b ++ (p ∷ [])) ps ∙ ap (λ (k : ℕ). length ps * k) z in
    let l : length (row p (b ++ ps)) ≡ length b + length ps = row_length p (b ++ ps) ∙ length-append b ps in
    length-append (row p (b ++ ps)) (rows (b ++ (p ∷ [])) ps)
    ∙ (let g : length (row p (b ++ ps)) + length (rows (b ++ (p ∷ [])) ps) ≡ suc (length ps) * (length b + length ps) = omega (arith, l, ih) in g)
    ∙ ap (λ (k : ℕ). suc (length ps) * k) (sym y)

pub pairs_count : (ps : List (List Point)) → length (pair_answers ps) ≡ pair_count (length ps)
unfolding pair_answers
pairs_count ps = rows_length [] ps ∙ (let z : 0 + length ps - 1 ≡ length ps - 1 = omega arith in ap (λ (k : ℕ). length ps * k) z)

pub pairs_length : (t : List ℕ) (c : ℕ) → length (pair_answers (paths_in t c 0)) ≡ pair_count c
pairs_length t c = pairs_count (paths_in t c 0) ∙ ap pair_count (paths_length t c 0)

pub count_none : (c : ℕ) → c ≡ 0 → 0 ≡ pair_count c
count_none c e = rw e

pub count_fits : (c : ℕ) → c ≤ RECORDS → Fits w64 (c * (c - 1))
count_fits c h =
    let z : c - 1 ≤ 512 = omega arith in
    let y : c * (c - 1) ≤ 512 * 512 = le_trans (mul-le-mul_right (c - 1) h) (mul-le-mul_left 512 z) in
    record { fits = omega (arith, y) }

-- ---- over zeros
drop_zeros : (n k : ℕ) → n ≤ k → drop n (replicate {A = ℕ} k 0) ≡ replicate (k - n) 0
drop_zeros zero k h = go k
  where
    go : (k : ℕ) → drop 0 (replicate {A = ℕ} k 0) ≡ replicate (k - 0) 0
    go zero = refl
    go (suc k) = let z : suc k ≡ suc k - 0 = omega arith in ap (λ (m : ℕ). replicate m 0) z
drop_zeros (suc n) zero h = absurd (omega arith)
drop_zeros (suc n) (suc k) h = let z : k - n ≡ suc k - suc n = omega arith in drop_zeros n k (omega arith) ∙ ap (λ (m : ℕ). replicate m 0) z

zeros_length : (k : ℕ) → length (replicate {A = ℕ} k 0) ≡ k
zeros_length zero = refl
zeros_length (suc k) = ap suc (zeros_length k)

pub poured_padded : (text a b : List ℕ) (k r : ℕ) → a ≡ replicate k 0 → length text ≤ k → poured r b ≡ pour text 0 a → b ≡ padded k text
unfolding tell
poured_padded text a b k r e h f =
    let g : poured r b ≡ pour text 0 (replicate k 0) = f ∙ ap (pour text 0) e in
    let o : b ≡ take (length (replicate {A = ℕ} k 0)) text ++ drop (length text) (replicate k 0) = ap (λ (x : Told). x.out) (told_all text (replicate k 0) b r (answer_at r b) g refl) in
    o
    ∙ ap (λ (x : List ℕ). x ++ drop (length text) (replicate k 0)) (take_all (length (replicate {A = ℕ} k 0)) text (omega (arith, zeros_length k)))
    ∙ ap (λ (x : List ℕ). text ++ x) (drop_zeros (length text) k h)
