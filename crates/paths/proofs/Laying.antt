-- Bytes laid over the beginning of a tray: byte after byte, number after number, part after part.
use Prim.Native.Nat.{ℕ, zero, suc, ◌+◌, ◌*◌, ◌/◌, ◌%◌, ◌^◌, ◌≤◌, ◌<◌}
use mathlib.Core.Path.{◌≡◌, refl, sym, ap, ◌∙◌}
use mathlib.Core.List.{List, [], ◌∷◌, ◌++◌, append-nil, append_assoc}
use native.Mathlib.Omega.{arith}
use lib.ListN.{length, get_or, set, drop, length-append, length-drop}
use lib.Seq.{drop-cons, append_snoc, set-append_seam, drop-append_seam, drop-append-add, drop-drop}
use Rattle.numbers.specs.Written.{put_le}
use Rattle.numbers.proofs.Written.{put_more}
use Rattle.geometry.specs.declared.Point.{Point}
use Rattle.paths.specs.Tray.{POINT, low_bytes, i32_bytes, point_bytes, path_bytes, over}

-- ---- lengths

pub length_low_bytes : (n v : ℕ) → length (low_bytes n v) ≡ n
length_low_bytes zero v = refl
length_low_bytes (suc n) v = omega (arith, length-append (low_bytes n v) (v / 256 ^ n % 256 ∷ []), length_low_bytes n v)

pub length_point_bytes : (p : Point) → length (point_bytes p) ≡ POINT
unfolding point_bytes
length_point_bytes p = length-append (i32_bytes p.x ++ i32_bytes p.y) (low_bytes 4 p.z)

pub length_path_bytes : (path : List Point) → length (path_bytes path) ≡ POINT * length path
length_path_bytes [] = refl
length_path_bytes (p ∷ ps) = omega (arith, length-append (point_bytes p) (path_bytes ps), length_point_bytes p, length_path_bytes ps)

pub path_bytes_append : (a b : List Point) → path_bytes (a ++ b) ≡ path_bytes a ++ path_bytes b
path_bytes_append [] b = refl
path_bytes_append (p ∷ a) b = ap (λ (l : List ℕ). point_bytes p ++ l) (path_bytes_append a b) ∙ sym (append_assoc (point_bytes p) (path_bytes a) (path_bytes b))

pub length_over : (a t : List ℕ) → length a ≤ length t → length (over a t) ≡ length t
length_over a t h = omega (arith, length-append a (drop (length a) t), length-drop (length a) t)

-- ---- one byte more, and a number more

pub set_over : (a t : List ℕ) (b : ℕ) → length a < length t → set (over a t) (length a) b ≡ over (a ++ (b ∷ [])) t
set_over a t b h =
    let e : suc (length a) ≡ length (a ++ (b ∷ [])) = omega (arith, length-append a (b ∷ [])) in
    ap (λ (l : List ℕ). set (a ++ l) (length a) b) (drop-cons t (length a) 0 h)
    ∙ set-append_seam a (get_or t (length a) 0) (drop (suc (length a)) t) b
    ∙ sym (append_snoc a b (drop (suc (length a)) t))
    ∙ ap (λ (n : ℕ). a ++ (b ∷ []) ++ drop n t) e

pub put_over : (n v : ℕ) (a t : List ℕ) → length a + n ≤ length t → put_le n (length a) v (over a t) ≡ over (a ++ low_bytes n v) t
put_over zero v a t h = ap (λ (l : List ℕ). over l t) (sym (append-nil a))
put_over (suc n) v a t h =
    let d = v / 256 ^ n % 256 in
    let e : length (a ++ low_bytes n v) ≡ length a + n = omega (arith, length-append a (low_bytes n v), length_low_bytes n v) in
    put_more n (length a) v (over a t)
    ∙ ap (λ (l : List ℕ). set l (length a + n) d) (put_over n v a t (omega arith))
    ∙ ap (λ (k : ℕ). set (over (a ++ low_bytes n v) t) k d) (sym e)
    ∙ set_over (a ++ low_bytes n v) t d (omega arith)
    ∙ ap (λ (l : List ℕ). over l t) (append_assoc a (low_bytes n v) (d ∷ []))

-- ---- a part

pub over_none : (t : List ℕ) → t ≡ over [] t
over_none t = refl

-- what is left after bytes laid over
pub drop_over : (a t : List ℕ) → drop (length a) (over a t) ≡ drop (length a) t
drop_over a t = drop-append_seam a (drop (length a) t)

-- laid over the rest
pub over_rest : (a b t : List ℕ) → a ++ over b (drop (length a) t) ≡ over (a ++ b) t
over_rest a b t =
    ap (λ (l : List ℕ). a ++ (b ++ l)) (drop-drop (length b) (length a) t)
    ∙ sym (append_assoc a b (drop (length a + length b) t))
    ∙ ap (λ (n : ℕ). a ++ b ++ drop n t) (sym (length-append a b))

-- laid over once more
pub over_again : (a b t : List ℕ) → over (a ++ b) (over a t) ≡ over (a ++ b) t
over_again a b t =
    ap (λ (l : List ℕ). (a ++ b) ++ l)
    (ap (λ (n : ℕ). drop n (over a t)) (length-append a b)
    ∙ drop-append-add a (drop (length a) t) (length b)
    ∙ drop-drop (length b) (length a) t
    ∙ ap (λ (n : ℕ). drop n t) (sym (length-append a b)))
