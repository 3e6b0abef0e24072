use Rattle.std.proofs.Common.{◌≡◌, true, false, rules}
use Rattle.text.specs.Numbers.{is_numeral, leading_zero}
use Rattle.text.proofs.Decimal.{digits_all, number_read}
use Rattle.text.proofs.read.numbers.number.Goals as goal

pub returns : goal.returns
returns c =
    let h = digits_all c.args.part.now in
    let a : is_numeral c.args.part.now ≡ true = search rules in
    let b : leading_zero c.args.part.now ≡ false = search rules in
    rw c.ok_or.ensures.value (number_read c.args.limit c.args.part.now c.value_up_to.result c.ranges.limit.fits a b c.value_up_to.ensures)
