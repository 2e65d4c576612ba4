-- The points of one path: their text, and their doubled area.
use Prim.Native.Nat.{ℕ, zero, suc, ◌+◌, ◌-◌, ◌*◌, ◌≤◌, ◌<◌, ◌^◌}
use mathlib.Core.Path.{◌≡◌, refl, sym, ap, ◌∙◌, subst}
use mathlib.Core.Logic.{◌≢◌}
use mathlib.Core.List.{List, [], ◌∷◌, ◌++◌, append_assoc, append-nil}
use native.Mathlib.Omega.{arith}
use lib.IntN.{ℤ, pos, nat_abs, ◌+ℤ◌, +ℤ_assoc, +ℤ_idl, +ℤ_idr}
use lib.ListN.{length}
use mir.Syntax.{w64}
use mir.Val.{SFits, to_z, of_z}
use mir.Facts.{to_z-of_z}
use Rattle.exact.proofs.Size.{fits_size, size_add}
use Rattle.rings.specs.Circle.{last_of}
use Rattle.geometry.specs.declared.Point.{Point}
use Rattle.geometry.specs.Plane.{edge_area, area_from, area_outpt}
use Rattle.geometry.specs.Table.{InTable, AllInTable}
use Rattle.geometry.proofs.Coordinates.{edge_within}
use Rattle.paths.specs.Tray.{POINT}
use Rattle.text.specs.Pour.{poured, pour}
use Rattle.listing.specs.Fields.{point_in, points_in}
use Rattle.listing.specs.Needs.{Held, Run, Adding}
use Rattle.listing.specs.Lines.{point_text, points_text}
use Rattle.listing.specs.Needs.{Showing}
use Rattle.text.proofs.Pouring.{pour_none, pour_more, pour_length}

-- one less than are left
pub less : (k : ℕ) → 0 < k → k ≡ suc (k - 1)
less k h = omega arith

module _ (t : List ℕ) where
  run_next : (m f : ℕ) → Run t (suc m) f → Held t f × Run t m (f + POINT)
  run_next m f r = (record { inside = omega (arith, r.inside); small = r.small.0 }, record { inside = omega (arith, r.inside); small = r.small.1 })

  pub run_head : (left f : ℕ) → Run t left f → 0 < left → Held t f
  run_head left f r h = (run_next (left - 1) f (subst (λ (k : ℕ). Run t k f) (less left h) r)).0

  pub run_rest : (left f : ℕ) → Run t left f → 0 < left → Run t (left - 1) (f + POINT)
  run_rest left f r h = (run_next (left - 1) f (subst (λ (k : ℕ). Run t k f) (less left h) r)).1

  points_next : (left f : ℕ) → 0 < left → points_in t left f ≡ point_in t f ∷ points_in t (left - 1) (f + POINT)
  points_next left f h = ap (λ (k : ℕ). points_in t k f) (less left h)

  points_none : (left f : ℕ) → left ≤ 0 → points_in t left f ≡ []
  points_none left f h = let z : left ≡ 0 = omega arith in ap (λ (k : ℕ). points_in t k f) z

-- ---- the same where i of c are passed
none_passed : (c : ℕ) → c ≡ c - 0
none_passed c = omega arith

pub one_passed : (c i : ℕ) → i < c → c - i ≡ suc (c - (i + 1))
one_passed c i h = omega arith

pub all_passed : (c i : ℕ) → c ≤ i → c - i ≡ 0
all_passed c i h = omega arith

-- what holds of all at the start
pub from_none : (P : ℕ → Type 0) (c : ℕ) → P c → P (c - 0)
from_none P c h = subst P (none_passed c) h

module _ (t : List ℕ) (c i f : ℕ) where
  pub head_at : Run t (c - i) f → i < c → Held t f
  head_at r h = run_head t (c - i) f r (omega arith)

  pub rest_at : Run t (c - i) f → i < c → Run t (c - (i + 1)) (f + POINT)
  rest_at r h = (run_next t (c - (i + 1)) f (subst (λ (k : ℕ). Run t k f) (one_passed c i h) r)).1

  pub points_at : i < c → points_in t (c - i) f ≡ point_in t f ∷ points_in t (c - (i + 1)) (f + POINT)
  points_at h = ap (λ (k : ℕ). points_in t k f) (one_passed c i h)

  pub points_over : c ≤ i → points_in t (c - i) f ≡ []
  points_over h = ap (λ (k : ℕ). points_in t k f) (all_passed c i h)

-- ---- the text

pub showing_begins : (t : List ℕ) (from n at : ℕ) (out : List ℕ) → Run t n from → Showing t from n at out out at from (n - 0)
showing_begins t from n at out r = from_none (Showing t from n at out out at from) n (record { rest = r; done = []; is = pour_none out at; all = refl })

module _ (t : List ℕ) (from n at : ℕ) (out₀ out : List ℕ) (k f c i : ℕ) (s : Showing t from n at out₀ out k f (c - i)) where
  pub showing_on : (k' : ℕ) (out' : List ℕ) → i < c → poured k' out' ≡ pour (point_text (point_in t f)) k out → Showing t from n at out₀ out' k' (f + POINT) (c - (i + 1))
  showing_on k' out' h e =
      record {
        rest = rest_at t c i f s.rest h;
        done = s.done ++ point_text (point_in t f);
        is = pour_more s.done (point_text (point_in t f)) out₀ out out' at k k' s.is e;
        all =
            append_assoc s.done (point_text (point_in t f)) (points_text (points_in t (c - (i + 1)) (f + POINT)))
            ∙ ap (λ (l : List Point). s.done ++ points_text l) (sym (points_at t c i f h))
            ∙ s.all;
      }

  pub showing_length : length out ≡ length out₀
  showing_length = pour_length s.done out₀ out at k s.is

  pub showing_ends : c ≤ i → poured k out ≡ pour (points_text (points_in t n from)) at out₀
  showing_ends h =
      s.is
      ∙ ap (λ (x : List ℕ). pour x at out₀)
      (sym (append-nil s.done) ∙ ap (λ (l : List Point). s.done ++ points_text l) (sym (points_over t c i f h)) ∙ s.all)

-- ---- one edge

pub in_table : (t : List ℕ) (at : ℕ) (p : Point) → Held t at → p ≡ point_in t at → InTable p
in_table t at p h e = rw e h.small

pub edge_is : (t : List ℕ) (prev at : ℕ) (p q : Point) (r : ℤ) → Held t prev → Held t at → p ≡ point_in t prev → q ≡ point_in t at → r ≡ edge_area p q
    → to_z w64 (of_z w64 r) ≡ edge_area (point_in t prev) (point_in t at)
edge_is t prev at p q r h g e f i =
    let d : r ≡ edge_area (point_in t prev) (point_in t at) = i ∙ ap (λ (x : Point). edge_area x q) e ∙ ap (edge_area (point_in t prev)) f in
    to_z-of_z (fits_size w64 r (omega (arith, ap nat_abs d, (edge_within h.small g.small).size))) ∙ d

-- ---- the sum

last_is : (t : List ℕ) (m from : ℕ) → last_of (point_in t from) (points_in t m (from + POINT)) ≡ point_in t (from + POINT * m)
last_is t zero from = let z : from ≡ from + POINT * 0 = omega arith in ap (point_in t) z
last_is t (suc m) from = let z : from + POINT + POINT * m ≡ from + POINT * suc m = omega arith in last_is t m (from + POINT) ∙ ap (point_in t) z

last_small : (t : List ℕ) (m from : ℕ) → AllInTable (points_in t (suc m) from) → InTable (point_in t (from + POINT * m))
last_small t zero from h = let z : from ≡ from + POINT * 0 = omega arith in subst (λ (k : ℕ). InTable (point_in t k)) z h.0
last_small t (suc m) from h = let z : from + POINT + POINT * m ≡ from + POINT * suc m = omega arith in subst (λ (k : ℕ). InTable (point_in t k)) z (last_small t m (from + POINT) h.1)

begins : (t : List ℕ) (from m : ℕ) → Run t (suc m) from → suc m ≤ 8191 → Adding t (from + POINT * m) from (suc m) (pos 0) (area_outpt (points_in t (suc m) from))
unfolding area_outpt
begins t from m r h =
    record {
      before = record { inside = omega (arith, r.inside); small = last_small t m from r.small };
      rest = r;
      sum = +ℤ_idl (area_from (point_in t (from + POINT * m)) (points_in t (suc m) from)) ∙ ap (λ (p : Point). area_from p (points_in t (suc m) from)) (sym (last_is t m from));
      low = omega arith;
    }

pub adding_begins : (t : List ℕ) (from n : ℕ) → Run t n from → n ≤ 8191 → n ≢ 0 → Adding t (from + POINT * (n - 1)) from (n - 0) (pos 0) (area_outpt (points_in t n from))
adding_begins t from n r h d =
    from_none (λ (k : ℕ). Adding t (from + POINT * (n - 1)) from k (pos 0) (area_outpt (points_in t n from))) n
    (let z : suc (n - 1) ≡ n = omega arith in
    subst (λ (k : ℕ). Adding t (from + POINT * (n - 1)) from k (pos 0) (area_outpt (points_in t k from))) z (begins t from (n - 1) (subst (λ (k : ℕ). Run t k from) (sym z) r) (omega arith)))

pub none_area : (t : List ℕ) (from n : ℕ) → n ≡ 0 → pos 0 ≡ area_outpt (points_in t n from)
unfolding area_outpt
none_area t from n e = rw e

module _ (t : List ℕ) (prev at c i v : ℕ) (total : ℤ) (s : Adding t prev at (c - i) (to_z w64 v) total) where
  pub adding_here : i < c → Held t prev × Held t at
  adding_here h = (s.before, head_at t c i at s.rest h)

  pub adding_ends : c ≤ i → to_z w64 v ≡ total
  adding_ends h = sym (+ℤ_idr (to_z w64 v)) ∙ ap (λ (l : List Point). to_z w64 v +ℤ area_from (point_in t prev) l) (sym (points_over t c i at h)) ∙ s.sum

  module _ (d : ℤ) (e : d ≡ edge_area (point_in t prev) (point_in t at)) (h : i < c) where
    small : nat_abs d ≤ 2 ^ 42
    small = omega (arith, ap nat_abs e, (edge_within s.before.small (head_at t c i at s.rest h).small).size)

    plain : to_z w64 v +ℤ to_z w64 (of_z w64 d) ≡ to_z w64 v +ℤ d
    plain = ap (λ (y : ℤ). to_z w64 v +ℤ y) (to_z-of_z (fits_size w64 d (omega (arith, small))))

    near : nat_abs (to_z w64 v +ℤ d) ≤ nat_abs (to_z w64 v) + 2 ^ 42
    near = omega (arith, size_add (to_z w64 v) d, small)

    pub adding_fits : SFits w64 (to_z w64 v +ℤ to_z w64 (of_z w64 d))
    adding_fits = rw plain (fits_size w64 (to_z w64 v +ℤ d) (omega (arith, near, s.low)))

    held : to_z w64 (of_z w64 (to_z w64 v +ℤ to_z w64 (of_z w64 d))) ≡ to_z w64 v +ℤ d
    held = to_z-of_z adding_fits ∙ plain

    pub adding_on : Adding t at (at + POINT) (c - (i + 1)) (to_z w64 (of_z w64 (to_z w64 v +ℤ to_z w64 (of_z w64 d)))) total
    adding_on =
        subst (λ (y : ℤ). Adding t at (at + POINT) (c - (i + 1)) y total) (sym held)
        (record {
          before = head_at t c i at s.rest h;
          rest = rest_at t c i at s.rest h;
          sum =
              +ℤ_assoc (to_z w64 v) d (area_from (point_in t at) (points_in t (c - (i + 1)) (at + POINT)))
              ∙ ap (λ (y : ℤ). to_z w64 v +ℤ (y +ℤ area_from (point_in t at) (points_in t (c - (i + 1)) (at + POINT)))) e
              ∙ ap (λ (l : List Point). to_z w64 v +ℤ area_from (point_in t prev) l) (sym (points_at t c i at h))
              ∙ s.sum;
          low = omega (arith, near, s.low);
        })
