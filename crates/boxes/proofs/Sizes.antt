-- The lesser and the greater of two whole numbers; boxes as an order with joins. Assumes nothing.
use mathlib.Core.Path.{◌≡◌, refl, sym, ap, ◌∙◌, subst}
use mathlib.Core.Bool.{Bool, true, false, not, cond}
use mathlib.Core.Option.{Option, none, some}
use native.Mathlib.Nat.{le_of_lt}
use native.Mathlib.Omega.{arith}
use lib.Dec.{T, le→leb, ltb→lt}
use lib.IntN.{ℤ, pos, negsuc}
use lib.Signed.{le_z, lt_z, lt_z_no, ◌≤ℤ◌, ≤ℤ_refl}
use Rattle.exact.proofs.Parts.{le_z_parts, parts_le_z, parts_inj, le_transᶻ}
use Rattle.geometry.specs.declared.Rect.{Rect}
use Rattle.geometry.specs.Box.{lesser, greater}
use Rattle.boxes.specs.Within.{RectWithin, BoxWithin}

pub le_then : {a b c : ℤ} → a ≤ℤ b → b ≤ℤ c → a ≤ℤ c
le_then {a} {b} {c} h k = record { le = parts_le_z a c (le_transᶻ a b c (le_z_parts a b h.le) (le_z_parts b c k.le)) }

pub le_both : {a b : ℤ} → a ≤ℤ b → b ≤ℤ a → a ≡ b
le_both {a} {b} h k = let i = (le_z_parts a b h.le).parts in let j = (le_z_parts b a k.le).parts in parts_inj a b (omega arith)

lt_le : (a b : ℤ) → T (lt_z a b) → T (le_z a b)
lt_le (pos a) (pos b) h = le→leb a b (le_of_lt (ltb→lt a b h))
lt_le (pos a) (negsuc b) h = h
lt_le (negsuc a) (pos b) h = h
lt_le (negsuc a) (negsuc b) h = le→leb b a (le_of_lt (ltb→lt b a h))

pub less_le : (a b : ℤ) → T (lt_z a b) → a ≤ℤ b
less_le a b h = record { le = lt_le a b h }

module _ (a b : ℤ) where
  pub lesser_left : lesser a b ≤ℤ a
  lesser_left = go (lt_z b a) (less_le b a)
    where
      go : (t : Bool) → (T t → b ≤ℤ a) → cond t b a ≤ℤ a
      go true h = h tt
      go false h = ≤ℤ_refl a

  pub lesser_right : lesser a b ≤ℤ b
  lesser_right = go (lt_z b a) (λ (t : T (not (lt_z b a))). lt_z_no t)
    where
      go : (t : Bool) → (T (not t) → a ≤ℤ b) → cond t b a ≤ℤ b
      go true h = ≤ℤ_refl b
      go false h = h tt

  pub lesser_least : (c : ℤ) → c ≤ℤ a → c ≤ℤ b → c ≤ℤ lesser a b
  lesser_least c h k = go (lt_z b a)
    where
      go : (t : Bool) → c ≤ℤ cond t b a
      go true = k
      go false = h

  pub greater_left : a ≤ℤ greater a b
  greater_left = go (lt_z a b) (less_le a b)
    where
      go : (t : Bool) → (T t → a ≤ℤ b) → a ≤ℤ cond t b a
      go true h = h tt
      go false h = ≤ℤ_refl a

  pub greater_right : b ≤ℤ greater a b
  greater_right = go (lt_z a b) (λ (t : T (not (lt_z a b))). lt_z_no t)
    where
      go : (t : Bool) → (T (not t) → b ≤ℤ a) → b ≤ℤ cond t b a
      go true h = ≤ℤ_refl b
      go false h = h tt

  pub greater_most : (c : ℤ) → a ≤ℤ c → b ≤ℤ c → greater a b ≤ℤ c
  greater_most c h k = go (lt_z a b)
    where
      go : (t : Bool) → cond t b a ≤ℤ c
      go true = k
      go false = h

-- ---- rectangles
-- the least that holds both
abbrev pub span : Rect → Rect → Rect
span a b =
    record {
      left = lesser a.left b.left;
      top = lesser a.top b.top;
      right = greater a.right b.right;
      bottom = greater a.bottom b.bottom;
    }

pub rect_self : (a : Rect) → RectWithin a a
rect_self a = record { left = ≤ℤ_refl a.left; top = ≤ℤ_refl a.top; right = ≤ℤ_refl a.right; bottom = ≤ℤ_refl a.bottom }

rect_then : (a b c : Rect) → RectWithin a b → RectWithin b c → RectWithin a c
rect_then a b c h k =
    record {
      left = le_then k.left h.left;
      top = le_then k.top h.top;
      right = le_then h.right k.right;
      bottom = le_then h.bottom k.bottom;
    }

abbrev rect : ℤ → ℤ → ℤ → ℤ → Rect
rect l t r b = record { left = l; top = t; right = r; bottom = b }

rect_both : (a b : Rect) → RectWithin a b → RectWithin b a → a ≡ b
rect_both a b h k =
    let l : a.left ≡ b.left = le_both k.left h.left in
    let t : a.top ≡ b.top = le_both k.top h.top in
    let r : a.right ≡ b.right = le_both h.right k.right in
    let m : a.bottom ≡ b.bottom = le_both h.bottom k.bottom in
    ap (λ (x : ℤ). rect x a.top a.right a.bottom) l
    ∙ ap (λ (x : ℤ). rect b.left x a.right a.bottom) t
    ∙ ap (λ (x : ℤ). rect b.left b.top x a.bottom) r
    ∙ ap (λ (x : ℤ). rect b.left b.top b.right x) m

span_left : (a b : Rect) → RectWithin a (span a b)
span_left a b =
    record {
      left = lesser_left a.left b.left;
      top = lesser_left a.top b.top;
      right = greater_left a.right b.right;
      bottom = greater_left a.bottom b.bottom;
    }

span_right : (a b : Rect) → RectWithin b (span a b)
span_right a b =
    record {
      left = lesser_right a.left b.left;
      top = lesser_right a.top b.top;
      right = greater_right a.right b.right;
      bottom = greater_right a.bottom b.bottom;
    }

span_least : (a b c : Rect) → RectWithin a c → RectWithin b c → RectWithin (span a b) c
span_least a b c h k =
    record {
      left = lesser_least a.left b.left c.left h.left k.left;
      top = lesser_least a.top b.top c.top h.top k.top;
      right = greater_most a.right b.right c.right h.right k.right;
      bottom = greater_most a.bottom b.bottom c.bottom h.bottom k.bottom;
    }

-- ---- boxes
abbrev pub join : Option Rect → Option Rect → Option Rect
join none b = b
join (some a) none = some a
join (some a) (some b) = some (span a b)

pub within_self : (a : Option Rect) → BoxWithin a a
within_self none = tt
within_self (some a) = rect_self a

pub within_then : (a b c : Option Rect) → BoxWithin a b → BoxWithin b c → BoxWithin a c
within_then none b c h k = tt
within_then (some a) none c h k = absurd h
within_then (some a) (some b) none h k = absurd k
within_then (some a) (some b) (some c) h k = rect_then a b c h k

pub within_both : (a b : Option Rect) → BoxWithin a b → BoxWithin b a → a ≡ b
within_both none none h k = refl
within_both none (some b) h k = absurd k
within_both (some a) none h k = absurd h
within_both (some a) (some b) h k = ap some (rect_both a b h k)

pub join_left : (a b : Option Rect) → BoxWithin a (join a b)
join_left none b = tt
join_left (some a) none = rect_self a
join_left (some a) (some b) = span_left a b

pub join_right : (a b : Option Rect) → BoxWithin b (join a b)
join_right none b = within_self b
join_right (some a) none = tt
join_right (some a) (some b) = span_right a b

pub join_least : (a b c : Option Rect) → BoxWithin a c → BoxWithin b c → BoxWithin (join a b) c
join_least none b c h k = k
join_least (some a) none c h k = h
join_least (some a) (some b) none h k = absurd h
join_least (some a) (some b) (some c) h k = span_least a b c h k

pub join_swap : (a b : Option Rect) → join a b ≡ join b a
join_swap a b = within_both (join a b) (join b a) (join_least a b (join b a) (join_right b a) (join_left b a)) (join_least b a (join a b) (join_right a b) (join_left a b))

pub join_group : (a b c : Option Rect) → join (join a b) c ≡ join a (join b c)
join_group a b c =
    within_both (join (join a b) c) (join a (join b c))
    (join_least (join a b) c (join a (join b c)) (join_least a b (join a (join b c)) (join_left a (join b c)) (within_then b (join b c) (join a (join b c)) (join_left b c) (join_right a (join b c))))
    (within_then c (join b c) (join a (join b c)) (join_right b c) (join_right a (join b c))))
    (join_least a (join b c) (join (join a b) c) (within_then a (join a b) (join (join a b) c) (join_left a b) (join_left (join a b) c))
    (join_least b c (join (join a b) c) (within_then b (join a b) (join (join a b) c) (join_right a b) (join_left (join a b) c)) (join_right (join a b) c)))

-- what lies within adds nothing
pub join_absorbs : (a b : Option Rect) → BoxWithin a b → join a b ≡ b
join_absorbs a b h = within_both (join a b) b (join_least a b b h (within_self b)) (join_right a b)
