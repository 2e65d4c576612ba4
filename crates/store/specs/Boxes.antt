-- The boxes beside the rings: document 02, "Keep the least and greatest x and y of each ring that has points, open and done ones too, beside it". A box has four words, raised as coordinates are,
-- behind the columns of the live block; nothing that a store holds is read from them.
use Rattle.std.specs.Prelude.{ℕ, zero, suc, ◌+◌, ◌*◌, ◌≡◌, Bool, false, cond, not, ◌&&◌, List, ltb, get_or, set}
use Rattle.std.proofs.Math.Option.{Option, none, some}
use Rattle.numbers.specs.Raised.{coordinate}
use Rattle.exact.specs.Equal.{eq_z}
use Rattle.job.specs.Limits as limit
use Rattle.geometry.specs.declared.Rect.{Rect}
use Rattle.geometry.specs.Box.{box_of}
use Rattle.store.specs.declared.boxed.Sides.{Sides}
use Rattle.store.specs.Field.{BOXES}
use Rattle.store.specs.Words.{Store, view}
use Rattle.store.specs.Named.{records_of}
use Rattle.store.specs.Sound.{ringless}
use Rattle.store.specs.Value.{word_of, ring_points}

-- ---- the words

-- where side k of record i's box stands: 0 left, 1 top, 2 right, 3 bottom
abbrev pub side_at : ℕ → ℕ → ℕ
side_at k i = BOXES + limit.RECORDS * k + i

-- the four words of record i's box
abbrev pub sides_at : List ℕ → ℕ → Sides
sides_at w i = record { left = get_or w (side_at 0 i) 0; top = get_or w (side_at 1 i) 0; right = get_or w (side_at 2 i) 0; bottom = get_or w (side_at 3 i) 0 }

-- the words with others there
unfoldable pub set_sides : List ℕ → ℕ → Sides → List ℕ
set_sides w i b = set (set (set (set w (side_at 0 i) b.left) (side_at 1 i) b.top) (side_at 2 i) b.right) (side_at 3 i) b.bottom

-- what four words stand for; as in core.rs, top is the least y
abbrev pub rect_of : Sides → Rect
rect_of b =
    record {
      left = coordinate limit.COORDINATE b.left;
      top = coordinate limit.COORDINATE b.top;
      right = coordinate limit.COORDINATE b.right;
      bottom = coordinate limit.COORDINATE b.bottom;
    }

-- back: the words of a box; without one they are zero
abbrev pub sides_of : Option Rect → Sides
sides_of none = record { left = 0; top = 0; right = 0; bottom = 0 }
sides_of (some b) = record { left = word_of b.left; top = word_of b.top; right = word_of b.right; bottom = word_of b.bottom }

-- ---- beside the rings

-- the box that record i's words say
abbrev pub box_at : List ℕ → ℕ → Rect
box_at w i = rect_of (sides_at w i)

-- the box of record i's ring as it is; a record without a ring has none
unfoldable pub ring_box : Store → ℕ → Option Rect
ring_box s i = box_of (ring_points s i)

-- record i's words are "its ring's"; of a record without a ring they are not asked
pub record Boxed (w : List ℕ) (i : ℕ) : Type 0 where
  pub box : ringless (view w) i ≡ false → ring_box (view w) i ≡ some (box_at w i)

-- the test of it: "A work space whose box isn't its ring's meets 7"
abbrev pub same_rect : Rect → Rect → Bool
same_rect a b = eq_z a.left b.left && (eq_z a.top b.top && (eq_z a.right b.right && eq_z a.bottom b.bottom))

abbrev pub differs : Option Rect → Rect → Bool
differs none b = false
differs (some a) b = not (same_rect a b)

unfoldable pub misboxed : List ℕ → ℕ → Bool
misboxed w i = differs (ring_box (view w) i) (box_at w i)

-- ---- written

-- record i, if it is one, gets its ring's box
unfoldable pub boxed_at : List ℕ → ℕ → List ℕ
boxed_at w i = cond (ltb i (records_of w)) (set_sides w i (sides_of (ring_box (view w) i))) w

-- the records below n
unfoldable pub boxed_to : ℕ → List ℕ → List ℕ
boxed_to zero w = w
boxed_to (suc i) w = boxed_at (boxed_to i w) i

-- every record
unfoldable pub all_boxed : List ℕ → List ℕ
all_boxed w = boxed_to (records_of w) w
