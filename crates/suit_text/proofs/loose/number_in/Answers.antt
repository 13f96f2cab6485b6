use Rattle.std.proofs.Common.{◌<◌, ◌≤◌, ◌^◌, length, arith, sym, ◌∙◌}
use Rattle.std.proofs.lemmas.Bool.Decides.{nat_tests}
use Rattle.suit_text.proofs.ShortNumbers.{power_small, short_read, short_small}
use Rattle.suit_text.proofs.loose.number_in.Goals as goal

pub returns-in_err-number-clause-value : goal.returns-in_err-number-clause-value
returns-in_err-number-clause-value c =
    let text = c.args.text.now in
    let some : 0 < length text = grind (arith, nat_tests) in
    let few : length text ≤ c.args.digits = grind (arith, nat_tests) in
    rw c.from_residual.ensures
    (sym (short_read c.args.digits text some few c.requires ∙ (sym c.digits_in.ensures.value ∙ c.in_err-number.was)))

pub overflow_cast-result : goal.overflow_cast-result
overflow_cast-result c =
    let text = c.args.text.now in
    let few : length text ≤ c.args.digits = grind (arith, nat_tests) in
    let small : c.in_ok-number.number < 10 ^ c.args.digits =
    short_small c.args.digits c.in_ok-number.number text few (sym c.digits_in.ensures.value ∙ c.in_ok-number.was) in
    let least : 10 ^ c.args.digits < 2 ^ 64 = power_small c.args.digits c.requires in
    omega arith

pub returns-clause-most : goal.returns-clause-most
returns-clause-most c =
    let few : length c.args.text.now ≤ c.args.digits = grind (arith, nat_tests) in
    short_small c.args.digits c.in_ok-number.number c.args.text.now few
    (sym c.digits_in.ensures.value ∙ c.in_ok-number.was)
