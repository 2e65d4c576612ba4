-- The drawing of an accepted job: what two files have to agree in to hold one drawing. No point has a number here.
use Rattle.std.specs.Prelude.{ℕ, ◌*◌, List, get_or, replicate, Ok, Err}
use Rattle.std.proofs.Math.Option.{Option, none, some}
use Rattle.rings.specs.Count.{table}
use Rattle.rings.specs.Place.{place, or_zero}
use Rattle.geometry.specs.declared.Point.{Point}
use Rattle.job.specs.Limits as limit
use Rattle.store.specs.Field.{rc, FLAGS, OWNER, BLOCK}
use Rattle.store.specs.Words.{Store, view}
use Rattle.store.specs.Named.{settings_of, records_of}
use Rattle.store.specs.Sound.{ring_at}
use Rattle.store.specs.Value.{ring_points}
use Rattle.joins.specs.Resolve.{home_of}
use Rattle.reading.specs.Fill.{ReadEnd, end}
use Rattle.accepting.specs.Accept.{accept_of}
use Rattle.opening.specs.Open.{JOIN_POINTS}

-- a record: its flags, its owner, its "ring coordinates from the first point", z among them (Ask 9)
pub record Drawn : Type 0 where
  pub flags : ℕ
  pub owner : ℕ
  pub ring : List Point

-- a segment's or a join's point, "named by its ring and its place in the walk"
pub record Spot : Type 0 where
  pub ring : ℕ
  pub place : ℕ

pub record Drawing : Type 0 where
  pub settings : ℕ
  pub records : List Drawn
  pub segments : List Spot
  -- two by two
  pub joins : List Spot

abbrev pub drawn_at : Store → ℕ → Drawn
drawn_at s i = record { flags = s (rc FLAGS) i; owner = s (rc OWNER) i; ring = ring_points s i }

-- point k: the record that it resolves to, and where it is on that record's ring
abbrev pub spot_of : List ℕ → ℕ → Spot
spot_of w k = record { ring = home_of w k; place = or_zero (place k (ring_at (view w) (home_of w k))) }

-- the drawing of a job that was read: its words, its m segments, its n joins
unfoldable pub drawing_of : List ℕ → List ℕ → ℕ → List ℕ → ℕ → Drawing
drawing_of w ss m js n =
    record {
      settings = settings_of w;
      records = table (drawn_at (view w)) 0 (records_of w);
      segments = table (λ i. spot_of w (get_or ss i 0)) 0 m;
      joins = table (λ i. spot_of w (get_or js i 0)) 0 (2 * n);
    }

abbrev pub drawn_from : ReadEnd → Option Drawing
drawn_from (end (Ok j) w ss js) = some (drawing_of w ss j.segments js j.joins)
drawn_from (end (Err r) w ss js) = none

-- the drawing of a job by its bytes, none where one of rows 1 to 8 refuses it. (A longer work space gives the same: `any_space`.)
unfoldable pub drawing_in : List ℕ → Option Drawing
drawing_in bytes = drawn_from (accept_of bytes (replicate BLOCK 0) (replicate limit.SEGMENTS 0) (replicate JOIN_POINTS 0))
