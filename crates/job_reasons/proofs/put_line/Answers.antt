-- `put_line` meets its contract.
use Rattle.job_reasons.proofs.Lines.{line_told}
use Rattle.job_reasons.proofs.put_line.Goals as goal

pub returns : goal.returns
returns c = search line_told
