-- A blank in front says nothing, and another byte ends the blanks.
use Rattle.std.proofs.Common.{◌∙◌, sym}
use Rattle.suit_table.proofs.Trimming.{first_blank, first_word, no_first}
use Rattle.suit_table.proofs.fields.without_first_blanks.Goals as goal

pub returns-then-not-is_blank : goal.returns-then-not-is_blank
returns-then-not-is_blank c =
    first_word c.loop-first.rest.now c.in-Some.first.now c.in-Some.after.now c.in-Some.ensures.cases.0
    (sym c.if-not-is_blank.ensures) ∙ sym c.loop-first.invariant

pub loop-first-preserved : goal.loop-first-preserved
loop-first-preserved c =
    c.loop-first.invariant ∙ first_blank c.loop-first.rest.now c.in-Some.first.now c.in-Some.after.now
    c.in-Some.ensures.cases.0 (sym c.if-not-is_blank.ensures)

pub returns : goal.returns
returns c = no_first c.loop-first.rest.now c.in_default.ensures.cases ∙ sym c.loop-first.invariant
