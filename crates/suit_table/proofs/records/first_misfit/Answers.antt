-- What was found of the records is what their fields say.
use Rattle.std.proofs.Common.{◌∙◌, add-one}
use Rattle.suit_table.proofs.Misfits.{misfit_of}
use Rattle.suit_table.proofs.records.first_misfit.Goals as goal

pub returns-in_err-index : goal.returns-in_err-index
returns-in_err-index c =
    let same = misfit_of c.args.records.now c.misfit_index.result c.misfit_index.ensures.first in
    let none = rw (c.in_err-index.was) at same in
    c.from_residual.ensures ∙ none

pub returns : goal.returns
returns c =
    let same = misfit_of c.args.records.now c.misfit_index.result c.misfit_index.ensures.first in
    let found = rw (c.in_ok-index.was) at same in
    rw add-one found
