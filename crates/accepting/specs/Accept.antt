-- Rows 1 to 8 of document 01's table: a job is read, then judged over the whole.
use Rattle.std.specs.Prelude.{ℕ, List, Result, Ok, Err}
use Rattle.job.specs.declared.Job.{Job}
use Rattle.job.specs.declared.refusal.Refusal.{Refusal}
use Rattle.reading.specs.Fill.{ReadEnd, end}
use Rattle.reading.specs.Read.{read_of}
use Rattle.rows.specs.Rows.{rows_of}

abbrev pub answer : Result (Unit {0}) Refusal → Job → Result Job Refusal
answer (Ok _) j = Ok j
answer (Err r) j = Err r

-- rows 4 to 8 of a job that was read, with as many segments and joins as were counted
abbrev pub judge_of : Job → List ℕ → List ℕ → List ℕ → Result Job Refusal
judge_of j w ss js = answer (rows_of w ss j.segments js j.joins) j

abbrev pub judged : ReadEnd → ReadEnd
judged (end (Ok j) w ss js) = end (judge_of j w ss js) w ss js
judged (end (Err r) w ss js) = end (Err r) w ss js

-- the first of rows 1 to 8 that holds, or the job as words and two lists
unfoldable pub accept_of : List ℕ → List ℕ → List ℕ → List ℕ → ReadEnd
accept_of bytes w ss js = judged (read_of bytes w ss js)
