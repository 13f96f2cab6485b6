use Rattle.std.proofs.Common.{◌≡◌, Some, sym, ◌∙◌, rules}
use Rattle.std.specs.Prelude.{FitsSigned}
use Rattle.std.specs.Int.{w128}
use Rattle.std.proofs.lemmas.Int.{to_z-of_z}
use Rattle.suit_text.specs.Strict.{words_of}
use Rattle.suit_answer.specs.Fractions.{fraction_of}
use Rattle.suit_answer.proofs.Lowest.{value_found}
use Rattle.suit_answer.proofs.values.value_due.Goals as goal

pub returns-in-Some-fraction_of : goal.returns-in-Some-fraction_of
returns-in-Some-fraction_of c =
    let num_fits : FitsSigned w128 c.in_ok-num.num = search rules in
    let den_fits : FitsSigned w128 c.in_ok-den.den = search rules in
    let told : fraction_of c.in_ok-num.num c.in_ok-den.den ≡ Some c.in-Some-fraction_of.value =
    simp to_z-of_z at (sym c.fraction_of.ensures ∙ c.in-Some-fraction_of.is) in
    value_found c.args.line (words_of c.args.text.now) c.in-Some.num.now c.in-Some.den.now c.in_ok-num.num
    c.in_ok-den.den c.in-Some-fraction_of.value
    (rw (← c.value_form.ensures, c.in-Some.is)) c.in_ok-num.ensures.value c.in_ok-den.ensures.value told
