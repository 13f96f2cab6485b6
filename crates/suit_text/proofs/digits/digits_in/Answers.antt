use Rattle.std.proofs.Common.{◌≤◌, ◌*◌, ◌^◌, arith}
use Rattle.suit_text.proofs.TooLarge.{too_large}
use Rattle.suit_text.proofs.digits.digits_in.Goals as goal

pub returns-in_err-checked_mul-clause-value : goal.returns-in_err-checked_mul-clause-value
returns-in_err-checked_mul-clause-value c =
    let large : 2 ^ 127 ≤ c.loop-byte.number * 10 = omega (arith, c.in_err-checked_mul.ensures) in
    rw (
      c.from_residual.ensures,
      too_large c.args.text.now c.loop-byte.byte-index c.loop-byte.number
          c.loop-byte-test.true c.loop-byte.invariant.value large,
    )

pub returns-in_err-number-clause-value : goal.returns-in_err-number-clause-value
returns-in_err-number-clause-value c =
    let byte = c.type_inv.text c.loop-byte.byte-index in
    let large : 2 ^ 127 ≤ c.loop-byte.number * 10 =
    omega (arith, c.in_err-number.ensures, c.in_ok-checked_mul.ensures) in
    rw (
      c.from_residual-in_err-number.ensures,
      too_large c.args.text.now c.loop-byte.byte-index c.loop-byte.number
          c.loop-byte-test.true c.loop-byte.invariant.value large,
    )
