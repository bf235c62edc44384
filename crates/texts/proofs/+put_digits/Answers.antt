-- `texts::put_digits` meets its contract: its three ways are the definition's.
use Rattle.std.proofs.Common.{◌<◌, arith}
use Rattle.texts.proofs.Writing.{then, wrote_none}
use Rattle.texts.proofs.Digits.{no-digits, one-digit, last-digit}
use Rattle.texts.proofs.+put_digits.Goals as goal

pub returns-then-k-eq0 : goal.returns-then-k-eq0
returns-then-k-eq0 t c = rw (c.if-k-eq0.true, no-digits) (wrote_none _ _)

pub returns-then-n-lt10 : goal.returns-then-n-lt10
returns-then-n-lt10 t c =
    let a = c.args in
    let some : 0 < a.k = omega arith in
    rw (one-digit a.k a.n some c.if-n-lt10.true, ← c.last_digit.ensures) c.put_byte.ensures

pub returns : goal.returns
returns t c =
    let a = c.args in
    let some : 0 < a.k = omega arith in
    rw (last-digit a.k a.n some c.if-n-lt10.false, ← c.last_digit-2.ensures) (then c.put_digits-a.ensures c.put_byte-2.ensures)
