-- The lines so far.
use Rattle.std.proofs.Common.{◌≡◌, ◌++◌, codes, length, map, take}
use Rattle.std.specs.List.{flat_map}
use Rattle.suit_answer.specs.Writing.{line_text, header_words, plan_row_words}
use Rattle.suit_answer.proofs.writing.write_plan.Given as goal

abbrev pub invariant-loop-row : goal.invariant-loop-row
invariant-loop-row l =
    l.text.items
    ≡ (l.fn.text.items ++ line_text (header_words (codes "plan") l.plan.den (length l.plan.rows)))
    ++ flat_map line_text (map (plan_row_words l.letters) (take l.row-index l.rows))
