-- `containing::widen` meets its contract.
use Rattle.containing.proofs.Boxes.{widen_is}
use Rattle.containing.proofs.widen.Goals as goal

pub returns : goal.returns
returns c = widen_is c.args.b c.args.p _ _ _ _
    (record {
      left = record { sfits = c.struct_told-1.given.0.1 };
      top = record { sfits = c.struct_told-1.given.1.0.1 };
      right = record { sfits = c.struct_told-1.given.1.1.0.1 };
      bottom = record { sfits = c.struct_told-1.given.1.1.1.0.1 };
      x = record { sfits = c.struct_told-2-1.given.0.1 };
      y = record { sfits = c.struct_told-2-1.given.1.0.1 };
    })
    c.min.ensures.value
    c.min-2.ensures.value
    c.max.ensures.value
    c.max-2.ensures.value
