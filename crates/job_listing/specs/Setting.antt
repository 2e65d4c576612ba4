-- Document 02, Ask 2: the words follow the job's setting. That it is the job's: what opening and finishing leave in the work space, and what the listing goes by, is what stands in the job's bytes.
use Rattle.std.specs.Prelude.{ℕ, ◌/◌, ◌%◌, ◌≡◌, Bool, List, eqb, Ok}
use Rattle.numbers.specs.Bytes.{le}
use Rattle.job.specs.Field.{HEADER}
use Rattle.rates.specs.declared.Rate.{Rate}
use Rattle.store.specs.Named.{settings_of}
use Rattle.opening.specs.Open.{end, open_of}
use Rattle.paths.specs.Wrote.{ok_paths}
use Rattle.finishing.specs.InOneCall.{finish_of}
use Rattle.job_listing.specs.Cutlist.{paths_at, cutlist_of}

-- "settings, 1 byte, first, once": the byte after the first field's header
abbrev pub settings_in : List ℕ → ℕ
settings_in bytes = le 1 HEADER bytes

-- "bit 1 `reverse_solution`"
abbrev pub reverse_in : List ℕ → Bool
reverse_in bytes = eqb (settings_in bytes / 2 % 2) 1

pub record JobsSetting (bytes lent : List ℕ) : Type 0 where
  -- an accepted job's settings are in the words that opening leaves
  pub opened : (w : List ℕ) → open_of bytes lent ≡ end (Ok tt) w → settings_of w ≡ settings_in bytes
  -- and in those that finishing leaves, in a tray t
  pub finished : (t : List ℕ) (c o : ℕ) → (finish_of bytes lent t).answer ≡ ok_paths c o → settings_of (finish_of bytes lent t).words ≡ settings_in bytes
  -- so the listing's words follow the job's own setting
  pub listed : (rate : Rate) (t : List ℕ) (c o : ℕ) → (finish_of bytes lent t).answer ≡ ok_paths c o → cutlist_of rate bytes lent t ≡ paths_at rate (reverse_in bytes) c o (finish_of bytes lent t).tray
