use Rattle.std.proofs.Common.{◌+◌, ◌-◌, ◌*◌, get_or, drop, arith}
use Rattle.text.proofs.Decimal.{value_more, value_ge}
use Rattle.text.proofs.read.numbers.value_up_to.Goals as goal

pub returns-then-value-limit : goal.returns-then-value-limit
returns-then-value-limit c =
    let e = value_more c.loop-b.value c.args.part.now c.loop-b.b-index c.loop-b-test.true in
    let h = value_ge (c.loop-b.value * 10 + (get_or c.args.part.now c.loop-b.b-index 0 - 48)) (drop (c.loop-b.b-index + 1) c.args.part.now) in
    omega (arith, c.loop-b.invariant.1)
