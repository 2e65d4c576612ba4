-- `text::put_decimal` meets its contract: the digits but the last, then the last.
use Rattle.std.proofs.Common.{arith}
use Rattle.text.proofs.Decimals.{small_poured, more_poured}
use Rattle.text.proofs.+put_decimal.Goals as goal

pub returns-then-n-lt10 : goal.returns-then-n-lt10
returns-then-n-lt10 t c = small_poured _ _ _ _ _ c.if-n-lt10.true c.put.ensures

pub returns : goal.returns
returns t c = more_poured _ _ _ _ _ _ _ c.if-n-lt10.false (omega arith) c.put_decimal-k.ensures c.put-2.ensures
