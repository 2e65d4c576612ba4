-- `put_end` meets its contract.
use Rattle.steps.proofs.Gliding.{leaves_at, leaves_gone, leaves_past}
use Rattle.steps.proofs.glide.put_end.Goals as goal

pub returns-in-At : goal.returns-in-At
returns-in-At c = search leaves_at

pub returns-in-Gone : goal.returns-in-Gone
returns-in-Gone c = search leaves_gone

pub returns-in-Past : goal.returns-in-Past
returns-in-Past c = search leaves_past
