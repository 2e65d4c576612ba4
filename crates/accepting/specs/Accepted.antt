-- What holds of a job that rows 1 to 8 accept.
use Rattle.std.specs.Prelude.{ℕ, ◌*◌, ◌<◌, ◌≡◌, true, false, List}
use Rattle.job.specs.Limits.{RECORDS}
use Rattle.job.specs.declared.Job.{Job}
use Rattle.store.specs.Named.{records_of, owner_of}
use Rattle.reading.specs.Alike.{Counts, Bits, Unringed}
use Rattle.owners.specs.Owners.{ends_in}
use Rattle.rows.specs.Rows.{unnamed, open_edge}
use Rattle.rows.specs.Found.{Clear}
use Rattle.joins.specs.Resolved.{Ready}

-- what holds of a job that is accepted so far: what rows 1 to 8 found, and what follows for opening
pub record Accepted (j : Job) (w ss js : List ℕ) : Type 0 where
  pub counts : Counts j w
  pub bits : Bits w
  pub unringed : Unringed w
  pub clear : Clear w ss j.segments js j.joins
  pub chains : (i : ℕ) → i < records_of w → ends_in RECORDS (owner_of w) i ≡ true
  pub ready : Ready w
  pub segments : unnamed w ss j.segments ≡ false
  pub joins : unnamed w js (2 * j.joins) ≡ false
  pub closed : open_edge w ss j.segments js j.joins ≡ false
