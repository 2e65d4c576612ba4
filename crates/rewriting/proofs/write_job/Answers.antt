-- `rewriting::write_job` meets its contract.
use Rattle.rewriting.proofs.Ends.{job_written_lem}
use Rattle.rewriting.proofs.write_job.Goals as goal

pub returns : goal.returns
returns c = job_written_lem _ _ c.args.m _ c.args.n _ _ _ _ _ _ c.number_rings.ensures c.put_job-at.ensures c.answer.ensures
