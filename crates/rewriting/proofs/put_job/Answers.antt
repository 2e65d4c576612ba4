-- `rewriting::put_job` meets its contract.
use Rattle.rewriting.proofs.Laying.{job_poured}
use Rattle.rewriting.proofs.put_job.Goals as goal

pub returns : goal.returns
returns c = job_poured _ _ _ c.args.m _ c.args.n _ _ _ _ _ _ _ _ _ _ _ _ c.read-bits.ensures.0 c.put_settings-a.ensures c.put_points-b.ensures c.put_records-c.ensures c.put_segments-d.ensures c.put_joins.ensures
