-- The walks of convert_horz_segs_to_joins: along next or prev, until a test holds. Three tests, one walk.
use Rattle.std.specs.Prelude.{ℕ, zero, suc, Bool, cond, ◌||◌, not, List, eqb, ltb}
use Rattle.job.specs.Limits as limit
use Rattle.store.specs.Field.{pt, X, Y}
use Rattle.store.specs.Words.{view}
use Rattle.store.specs.Named.{next_of, prev_of}
use Rattle.segments.specs.declared.level.Halt.{Halt}
use Rattle.segments.specs.declared.level.Halt.TheVariants.{Wall, Stop, Limit}

abbrev pub x_of : List ℕ → ℕ → ℕ
x_of w p = view w (pt X) p

abbrev pub y_of : List ℕ → ℕ → ℕ
y_of w p = view w (pt Y) p

-- the neighbour that way: next, or prev
unfoldable pub along_of : List ℕ → Bool → ℕ → ℕ
along_of w on p = cond on (next_of w p) (prev_of w p)

-- p, moved on by g until t holds there; a ring has at most 2,048 points, so that as many moves suffice
unfoldable pub until : ℕ → (ℕ → Bool) → (ℕ → ℕ) → ℕ → ℕ
until zero t g p = p
until (suc f) t g p = cond (t p) p (until f t g (g p))

-- with a front edge: p is the wall, or the one after is at another height
unfoldable pub at_wall : List ℕ → Bool → ℕ → ℕ → ℕ → Bool
at_wall w on wall y p = eqb p wall || not (eqb (y_of w (along_of w on p)) y)

-- without one: the one after is the other end, or at another height
unfoldable pub at_stop : List ℕ → Bool → ℕ → ℕ → ℕ → Bool
at_stop w on stop y p = eqb (along_of w on p) stop || not (eqb (y_of w (along_of w on p)) y)

-- of a pair: the one after is at another height, or to the right of the limit
unfoldable pub at_limit : List ℕ → Bool → ℕ → ℕ → ℕ → Bool
at_limit w on limit y p = ltb limit (x_of w (along_of w on p)) || not (eqb (y_of w (along_of w on p)) y)

unfoldable pub wall_run : List ℕ → Bool → ℕ → ℕ → ℕ → ℕ
wall_run w on wall y p = until limit.POINTS (at_wall w on wall y) (along_of w on) p

unfoldable pub stop_run : List ℕ → Bool → ℕ → ℕ → ℕ → ℕ
stop_run w on stop y p = until limit.POINTS (at_stop w on stop y) (along_of w on) p

unfoldable pub limit_run : List ℕ → Bool → ℕ → ℕ → ℕ → ℕ
limit_run w on far y p = until limit.POINTS (at_limit w on far y) (along_of w on) p

-- the three by value: what ends a walk is its test
abbrev pub halts_at : List ℕ → Bool → Halt → ℕ → ℕ → Bool
halts_at w on (Wall k) y = at_wall w on k y
halts_at w on (Stop k) y = at_stop w on k y
halts_at w on (Limit k) y = at_limit w on k y

abbrev pub run_of : List ℕ → Bool → Halt → ℕ → ℕ → ℕ
run_of w on (Wall k) y = wall_run w on k y
run_of w on (Stop k) y = stop_run w on k y
run_of w on (Limit k) y = limit_run w on k y
