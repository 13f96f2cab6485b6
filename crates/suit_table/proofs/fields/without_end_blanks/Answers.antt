-- A blank at the end says nothing, and another byte ends the blanks.
use Rattle.std.proofs.Common.{◌∙◌, sym, ap}
use Rattle.std.specs.Prelude.{reverse}
use Rattle.suit_table.proofs.Trimming.{last_blank, last_word, no_last}
use Rattle.suit_table.proofs.fields.without_end_blanks.Goals as goal

pub returns-then-not-is_blank : goal.returns-then-not-is_blank
returns-then-not-is_blank c =
    last_word c.loop-last.rest.now c.in-Some.before.now c.in-Some.last.now c.in-Some.ensures.cases.0
    (sym c.if-not-is_blank.ensures) ∙ ap reverse (sym c.loop-last.invariant)

pub loop-last-preserved : goal.loop-last-preserved
loop-last-preserved c =
    c.loop-last.invariant ∙ last_blank c.loop-last.rest.now c.in-Some.before.now c.in-Some.last.now
    c.in-Some.ensures.cases.0 (sym c.if-not-is_blank.ensures)

pub returns : goal.returns
returns c = no_last c.loop-last.rest.now c.in_default.ensures.cases ∙ ap reverse (sym c.loop-last.invariant)
