-- The fields that are written of a job that was read: by its words w, the table t of its points' new numbers, and its two lists.
use Rattle.std.specs.Prelude.{ℕ, zero, suc, ◌+◌, ◌*◌, cond, List, [], ◌∷◌, ◌++◌, map, eqb, get_or, replicate}
use Rattle.rings.specs.Count.{table}
use Rattle.job.specs.Limits.{POINTS}
use Rattle.job.specs.declared.field.Field.{Field}
use Rattle.job.specs.declared.field.Field.TheVariants.{Settings, Point, Record, Segment, Join}
use Rattle.store.specs.Field.{pt, X, Y, Z, NONE}
use Rattle.store.specs.Words.{view}
use Rattle.store.specs.Named.{settings_of, records_of, next_of, prev_of, flags_of, owner_of, first_of}
use Rattle.store.specs.Sound.{ring_at}
use Rattle.encoding.specs.Sheet.{all_bytes}
use Rattle.numbering.specs.Numbers.{number_to}

module _ (w t : List ℕ) where
  -- point p, on the ring of record i
  unfoldable pub corner_field : ℕ → ℕ → Field
  corner_field i p = Point (view w (pt X) p) (view w (pt Y) p) (get_or t (next_of w p) 0) (get_or t (prev_of w p) 0) i (view w (pt Z) p)

  -- the points of the rings of the records below i
  unfoldable pub corner_fields : ℕ → List Field
  corner_fields zero = []
  corner_fields (suc i) = corner_fields i ++ map (corner_field i) (ring_at (view w) i)

  unfoldable pub start_number : ℕ → ℕ
  start_number i = cond (eqb (first_of w i) NONE) NONE (get_or t (first_of w i) 0)

  unfoldable pub drawn_field : ℕ → Field
  drawn_field i = Record (flags_of w i) (owner_of w i) (start_number i)

module _ (t l : List ℕ) where
  -- the new number of the point that is number k of a list
  abbrev pub new_number : ℕ → ℕ
  new_number k = get_or t (get_or l k 0) 0

  unfoldable pub level_field : ℕ → Field
  level_field i = Segment (new_number i)

  unfoldable pub pair_field : ℕ → Field
  pair_field i = Join (new_number (2 * i)) (new_number (2 * i + 1))

-- all fields, with m segments and n joins
unfoldable pub job_fields : List ℕ → List ℕ → List ℕ → ℕ → List ℕ → ℕ → List Field
job_fields w t ss m js n =
    Settings (settings_of w)
    ∷ (corner_fields w t (records_of w)
    ++ (table (drawn_field w t) 0 (records_of w)
    ++ (table (level_field t ss) 0 m
    ++ table (pair_field t js) 0 n)))

-- the new numbers of the points of a job that was read
unfoldable pub numbers_of : List ℕ → List ℕ
numbers_of w = (number_to (view w) (records_of w) (replicate POINTS 0)).numbers

unfoldable pub job_bytes : List ℕ → List ℕ → ℕ → List ℕ → ℕ → List ℕ
job_bytes w ss m js n = all_bytes (job_fields w (numbers_of w) ss m js n)
