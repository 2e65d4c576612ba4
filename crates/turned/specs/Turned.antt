-- Document 02, Ask 10, "Turning the direction round". "Users flip `reverse_solution` late and reuse charges and reasons. Show that for one job, finished in one call under either setting, there are equally many paths and each
-- is the points of the other at its place in exactly opposite order, open paths included. This is said of x and y; z agrees too unless neighbours equal in x and y were dropped, where the first one walked keeps its z.
-- Doubled areas change sign and no more." Each clause is a field below. Proved in proofs/Theorem.
use Rattle.std.specs.Prelude.{ℕ, ◌-◌, ◌/◌, ◌%◌, ◌<◌, ◌≤◌, ◌≡◌, ◌≢◌, true, false, List, ◌++◌, map, reverse, ℤ, nat_abs, neg_ℤ, length, get_or, set}
use Rattle.geometry.specs.declared.Point.{Point}
use Rattle.geometry.specs.Plane.{area_outpt}
use Rattle.job.specs.Field.{HEADER}
use Rattle.job.specs.declared.refusal.Refusal.{Refusal}
use Rattle.store.specs.Field.{ct, SETTINGS}
use Rattle.store.specs.Words.{view, put}
use Rattle.store.specs.Sound.{recs}
use Rattle.std.specs.Prelude.{Err}
use Rattle.paths.specs.Wrote.{ok_paths}
use Rattle.paths.specs.Path.{path_at, closed_paths, open_paths}
use Rattle.paths.specs.Tray.{tag_of, fields, padded}
use Rattle.opposite.specs.Opposite.{other_bits, all_on_ground, opposite}
use Rattle.opposite.specs.Turned.{TurnedOr, AllTurned, walk_at, walks_below}
use Rattle.listing.specs.Charge.{net_area, charge_line}
use Rattle.listing.specs.Senses.{words_of}
use Rattle.telling.specs.Telling.{reason_at, reason_of}
use Rattle.finishing.specs.InOneCall.{Finished, finish_of}

-- ---- "one job .. under either setting"

-- the settings are a job's first field, so their byte comes right after the first header
abbrev pub settings_of_job : List ℕ → ℕ
settings_of_job job = get_or job HEADER 0

-- the job under the other setting
abbrev pub turned_round : List ℕ → List ℕ
turned_round job = set job HEADER (other_bits (settings_of_job job))

-- the two jobs differ in bit 1 of the settings byte and in nothing else
pub record OneBit (job other : List ℕ) : Type 0 where
  pub as_long : length other ≡ length job
  pub bytes : (i : ℕ) → i ≢ HEADER → get_or other i 0 ≡ get_or job i 0
  pub bit_0 : settings_of_job other % 2 ≡ settings_of_job job % 2
  pub bit_1 : HEADER < length job → settings_of_job other / 2 % 2 ≡ 1 - settings_of_job job / 2 % 2
  pub other_bits_same : settings_of_job other / 4 ≡ settings_of_job job / 4
  -- a job that is too short to have a settings byte stays as it is
  pub too_short : length job ≤ HEADER → other ≡ job
  -- turned round again it is the job
  pub again : turned_round other ≡ job

-- ---- what both answer

-- the doubled areas, path by path
abbrev pub doubled_areas : List (List Point) → List ℤ
doubled_areas paths = map area_outpt paths

-- the bytes of closed and open paths
abbrev pub tray_bytes : List (List Point) → List (List Point) → List ℕ
tray_bytes cs os = fields (tag_of false) cs ++ fields (tag_of true) os

-- finishing answers with these paths, in its words, in its counts and in the tray of n bytes
pub record GivesPaths (n : ℕ) (f : Finished) (cs os : List (List Point)) : Type 0 where
  pub closed : closed_paths (view f.words) ≡ cs
  pub open_ones : open_paths (view f.words) ≡ os
  pub answer : f.answer ≡ ok_paths (length cs) (length os)
  pub tray : f.tray ≡ padded n (tray_bytes cs os)

-- both accepted
pub record BothGive (n : ℕ) (one other : Finished) : Type 0 where
  pub closed : List (List Point)
  pub open_ones : List (List Point)
  pub other_closed : List (List Point)
  pub other_open : List (List Point)
  pub this : GivesPaths n one closed open_ones
  pub that : GivesPaths n other other_closed other_open
  -- "equally many paths", and as many bytes of the tray in use
  pub as_many_closed : length other_closed ≡ length closed
  pub as_many_open : length other_open ≡ length open_ones
  pub used : length (tray_bytes other_closed other_open) ≡ length (tray_bytes closed open_ones)
  -- "each is the points of the other at its place in exactly opposite order, open paths included. This is said of x and y"
  pub opposed : all_on_ground other_closed ≡ opposite (all_on_ground closed)
  pub opposed_open : all_on_ground other_open ≡ opposite (all_on_ground open_ones)
  -- the same with z, at each place: `Turned` of the ring's points, as finishing left them, in the order in which this path walks them; the other walks them back
  pub turned : AllTurned (walks_below (recs (view one.words)) false (view one.words)) closed other_closed
  pub turned_open : AllTurned (walks_below (recs (view one.words)) true (view one.words)) open_ones other_open
  pub walked_back : (i : ℕ) → walk_at (view other.words) i ≡ reverse (walk_at (view one.words) i)
  -- and of each record: it has a path under both settings or under neither
  pub each : (i : ℕ) → TurnedOr (walk_at (view one.words) i) (path_at (view one.words) i) (path_at (view other.words) i)
  -- "Doubled areas change sign and no more"; so does the net one, and its magnitude stays
  pub signs : doubled_areas other_closed ≡ map neg_ℤ (doubled_areas closed)
  pub net_sign : net_area other_closed ≡ neg_ℤ (net_area closed)
  pub net_size : nat_abs (net_area other_closed) ≡ nat_abs (net_area closed)
  -- so pieces stay pieces, and holes holes: request 2, of two jobs
  pub senses : words_of (view other.words) ≡ words_of (view one.words)
  -- "reuse charges": the same line at every rate
  pub charges : (rate : ℕ) → charge_line rate other_closed ≡ charge_line rate closed
  -- "and reasons": the same of every record, with the same place; and `reason_of` answers the same of every number
  pub reasons : (j : ℕ) → reason_at (view other.words) j ≡ reason_at (view one.words) j
  pub told : (j : ℕ) → reason_of other.words j ≡ reason_of one.words j
  -- every word but the settings is the same, and of these only bit 1 is another
  pub words : other.words ≡ put (ct SETTINGS) one.words 0 (other_bits (view one.words (ct SETTINGS) 0))

-- both refused with the same number, and everything that is left is the same
pub record BothRefuse (one other : Finished) : Type 0 where
  pub number : Refusal
  pub refused : one.answer ≡ Err number
  pub alike : other ≡ one

pub data EitherWay (n : ℕ) (one other : Finished) : Type 0 where
  both_give : BothGive n one other → EitherWay n one other
  both_refuse : BothRefuse one other → EitherWay n one other

-- of every list of bytes, every lent work space and every tray
pub record TurningRound (job : List ℕ) : Type 0 where
  pub one_bit : OneBit job (turned_round job)
  pub either_way : (lent tray : List ℕ) → EitherWay (length tray) (finish_of job lent tray) (finish_of (turned_round job) lent tray)
