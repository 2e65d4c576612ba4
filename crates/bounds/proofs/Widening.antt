-- Least and greatest by words are those by value: raising keeps the order. And what the steps of the walk come to.
use Prim.Native.Nat.{ℕ, suc, ◌-◌, ◌<◌, ◌≤◌, ◌^◌, min, max}
use mathlib.Core.Path.{◌≡◌, refl, sym, ap, ◌∙◌}
use mathlib.Core.Bool.{Bool, true, false, cond}
use mathlib.Core.List.{List, [], ◌∷◌, map}
use native.Mathlib.Omega.{arith}
use native.Mathlib.Decide.{dec_lt, ℕ_discrete}
use lib.Dec.{eqb, ltb}
use lib.IntN.{ℤ}
use lib.Signed.{lt_z}
use borrow.Author.Tests.{eq-eqb, ne_eqb, lt-ltb, le-ltb}
use Rattle.numbers.specs.Raised.{coordinate}
use Rattle.numbers.proofs.Raises.{at_least, less}
use Rattle.exact.specs.Equal.{eq_z}
use Rattle.exact.proofs.Size.{eq_eq_z, ne_eq_z}
use Rattle.job.specs.Limits as limit
use Rattle.geometry.specs.declared.Rect.{Rect}
use Rattle.geometry.specs.Box.{lesser, greater}
use Rattle.geometry.specs.Box as box
use Rattle.store.specs.declared.boxed.Sides.{Sides}
use Rattle.store.specs.Field.{pt, X, Y}
use Rattle.store.specs.Words.{Store}
use Rattle.store.specs.Value.{point_at}
use Rattle.store.specs.Boxes.{rect_of, same_rect}
use Rattle.store.specs.Needs.{Small}
use Rattle.store.proofs.Boxing.{word_back}
use Rattle.store.specs.Value.{word_of}
use Rattle.bounds.specs.Along.{least, most, point_sides, widen_by, widen_sides, widen_along, same_sides}

-- ---- by value

same_test : (a b c d : ℕ) → (a < b → c < d) → (c < d → a < b) → ltb a b ≡ ltb c d
same_test a b c d f g = by (dec_lt a b)
  where
    by : Dec (a < b) → ltb a b ≡ ltb c d
    by (yes l) = lt-ltb a b l ∙ sym (lt-ltb c d (f l))
    by (no n) =
        let h : (c < d) → ⊥ = λ l. n (g l) in
        le-ltb a b (omega arith) ∙ sym (le-ltb c d (omega arith))

-- raised words compare as what they stand for
pub lower_lt : (by a b : ℕ) → lt_z (coordinate by a) (coordinate by b) ≡ ltb a b
lower_lt by a b = go (dec_lt a by) (dec_lt b by)
  where
    go : Dec (a < by) → Dec (b < by) → lt_z (coordinate by a) (coordinate by b) ≡ ltb a b
    go (yes h) (yes k) = rw (less a by h, less b by k) (same_test (by - suc b) (by - suc a) a b (λ z. omega arith) (λ z. omega arith))
    go (yes h) (no k) = let l : by ≤ b = omega arith in rw (less a by h, at_least b by l) (sym (lt-ltb a b (omega arith)))
    go (no h) (yes k) = let l : by ≤ a = omega arith in rw (at_least a by l, less b by k) (sym (le-ltb a b (omega arith)))
    go (no h) (no k) =
        let l : by ≤ a = omega arith in
        let m : by ≤ b = omega arith in
        rw (at_least a by l, at_least b by m) (same_test (a - by) (b - by) a b (λ z. omega arith) (λ z. omega arith))

abbrev pub co : ℕ → ℤ
co v = coordinate limit.COORDINATE v

pub lower_eq : (a b : ℕ) → eq_z (co a) (co b) ≡ eqb a b
lower_eq a b = go (ℕ_discrete a b)
  where
    go : Dec (a ≡ b) → eq_z (co a) (co b) ≡ eqb a b
    go (yes e) = eq_eq_z (co a) (co b) (ap co e) ∙ sym (eq-eqb a b e)
    go (no n) = ne_eq_z (co a) (co b) (λ e. n (sym (word_back a) ∙ ap word_of e ∙ word_back b)) ∙ sym (ne_eqb a b n)

module _ (a b : ℕ) where
  co_least : lesser (co a) (co b) ≡ co (least a b)
  co_least = rw (lower_lt limit.COORDINATE b a) (go (ltb b a))
    where
      go : (x : Bool) → cond x (co b) (co a) ≡ co (cond x b a)
      go true = refl
      go false = refl

  co_most : greater (co a) (co b) ≡ co (most a b)
  co_most = rw (lower_lt limit.COORDINATE a b) (go (ltb a b))
    where
      go : (x : Bool) → cond x (co b) (co a) ≡ co (cond x b a)
      go true = refl
      go false = refl

widen_means : (s : Store) (b : Sides) (k : ℕ) → box.widen (rect_of b) (point_at s k) ≡ rect_of (widen_sides s b k)
unfolding box.widen widen_by
widen_means s b k = rw (co_least b.left (s (pt X) k), co_least b.top (s (pt Y) k), co_most b.right (s (pt X) k), co_most b.bottom (s (pt Y) k))

-- THE LAW
pub along_means : (s : Store) (ks : List ℕ) (b : Sides) → box.widen_all (rect_of b) (map (point_at s) ks) ≡ rect_of (widen_along s b ks)
along_means s [] b = refl
along_means s (k ∷ ks) b = ap (λ (r : Rect). box.widen_all r (map (point_at s) ks)) (widen_means s b k) ∙ along_means s ks (widen_sides s b k)

pub same_means : (a b : Sides) → same_rect (rect_of a) (rect_of b) ≡ same_sides a b
same_means a b = rw (lower_eq a.left b.left, lower_eq a.top b.top, lower_eq a.right b.right, lower_eq a.bottom b.bottom)

-- ---- for the code

pub least_second : (a b : ℕ) → b < a → b ≡ least a b
least_second a b h = rw (lt-ltb b a h)

pub least_first : (a b : ℕ) → a ≤ b → a ≡ least a b
least_first a b h = rw (le-ltb b a h)

pub most_second : (a b : ℕ) → a < b → b ≡ most a b
most_second a b h = rw (lt-ltb a b h)

pub most_first : (a b : ℕ) → b ≤ a → a ≡ most a b
most_first a b h = rw (le-ltb a b h)

pub point_is : (s : Store) (k x y : ℕ) → x ≡ s (pt X) k → y ≡ s (pt Y) k → record { left = x; top = y; right = x; bottom = y } ≡ point_sides s k
point_is s k x y ex ey = rw (ex, ey)

-- the library's least and greatest
least_is : (a b : ℕ) → min a b ≡ least a b
least_is a b = by (dec_lt b a)
  where
    by : Dec (b < a) → min a b ≡ least a b
    by (yes l) = let e : min a b ≡ b = omega arith in e ∙ least_second a b l
    by (no n) = let e : min a b ≡ a = omega arith in e ∙ least_first a b (omega arith)

most_is : (a b : ℕ) → max a b ≡ most a b
most_is a b = by (dec_lt a b)
  where
    by : Dec (a < b) → max a b ≡ most a b
    by (yes l) = let e : max a b ≡ b = omega arith in e ∙ most_second a b l
    by (no n) = let e : max a b ≡ a = omega arith in e ∙ most_first a b (omega arith)

pub sides_by : (b : Sides) (x y l t r m : ℕ) → l ≡ min b.left x → t ≡ min b.top y → r ≡ max b.right x → m ≡ max b.bottom y
    → record { left = l; top = t; right = r; bottom = m } ≡ widen_by b x y
unfolding widen_by
sides_by b x y l t r m el et er em = rw (el ∙ least_is b.left x, et ∙ least_is b.top y, er ∙ most_is b.right x, em ∙ most_is b.bottom y)

pub widen_is : (s : Store) (b c : Sides) (k x y : ℕ) → x ≡ s (pt X) k → y ≡ s (pt Y) k → c ≡ widen_by b x y → c ≡ widen_sides s b k
widen_is s b c k x y ex ey e = rw (← ex, ← ey) e

-- a box that every place is beyond, widened by one point, is that point's
pub widen_none : (s : Store) (k far : ℕ) → s (pt X) k ≤ far → s (pt Y) k ≤ far → widen_sides s (record { left = far; top = far; right = 0; bottom = 0 }) k ≡ point_sides s k
unfolding widen_by
widen_none s k far h l = rw (low (s (pt X) k) h, low (s (pt Y) k) l, high (s (pt X) k), high (s (pt Y) k))
  where
    low : (x : ℕ) → x ≤ far → least far x ≡ x
    low x h = by (dec_lt x far)
      where
        by : Dec (x < far) → least far x ≡ x
        by (yes l) = sym (least_second far x l)
        by (no n) = sym (least_first far x (omega arith)) ∙ omega arith

    high : (x : ℕ) → most 0 x ≡ x
    high x = by (dec_lt 0 x)
      where
        by : Dec (0 < x) → most 0 x ≡ x
        by (yes l) = sym (most_second 0 x l)
        by (no n) = sym (most_first 0 x (omega arith)) ∙ omega arith

either_small : (x : Bool) (a b : ℕ) → a < 2 ^ 32 → b < 2 ^ 32 → cond x b a < 2 ^ 32
either_small true a b h k = k
either_small false a b h k = h

pub point_small : (x y : ℕ) → x < 2 ^ 32 → y < 2 ^ 32 → Small (record { left = x; top = y; right = x; bottom = y })
point_small x y h k = record { left = h; top = k; right = h; bottom = k }

pub widen_small : (b c : Sides) (x y : ℕ) → Small b → x < 2 ^ 32 → y < 2 ^ 32 → c ≡ widen_by b x y → Small c
unfolding widen_by
widen_small b c x y z h k e =
    rw e (record {
      left = either_small (ltb x b.left) b.left x z.left h;
      top = either_small (ltb y b.top) b.top y z.top k;
      right = either_small (ltb b.right x) b.right x z.right h;
      bottom = either_small (ltb b.bottom y) b.bottom y z.bottom k;
    })
