use Rattle.std.proofs.Common.{◌+◌, ◌*◌, ◌/◌, ◌%◌, arith}
use Rattle.suit_lines.proofs.LongDivision.{digit_more, digits_few}
use Rattle.suit_lines.proofs.value.quotient.Goals as goal

pub overflow_add-whole : goal.overflow_add-whole
overflow_add-whole c =
    let more = digit_more c.args.num c.args.den c.loop-digit._digit c.loop-digit.whole c.loop-digit.rest
    c.requires.some c.requires.most c.loop-digit.invariant in
    omega (
      arith,
      digits_few c.args.num c.args.den (c.loop-digit._digit + 1)
          (c.loop-digit.whole * 10 + c.loop-digit.rest * 10 / c.args.den) (c.loop-digit.rest * 10 % c.args.den)
          (omega arith) more,
    )

pub loop-digit-preserved : goal.loop-digit-preserved
loop-digit-preserved c =
    digit_more c.args.num c.args.den c.loop-digit._digit c.loop-digit.whole c.loop-digit.rest
    c.requires.some c.requires.most c.loop-digit.invariant
