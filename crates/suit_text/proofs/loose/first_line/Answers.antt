use Rattle.std.proofs.Common.{◌≡◌, ◌<◌, ◌+◌, length, arith, sym, ◌∙◌}
use Rattle.std.proofs.lemmas.Bool.Decides.{nat_tests}
use Rattle.std.proofs.lemmas.List.{take_all}
use Rattle.suit_text.specs.Loose.{BeginsPiece}
use Rattle.suit_text.proofs.LooseLines.{begins_fed, begins_last, lines_after, no_lines}
use Rattle.suit_text.proofs.loose.first_line.Goals as goal

pub returns-in_default : goal.returns-in_default
returns-in_default c =
    let text = c.args.text.now in
    let some : 0 < length text = grind (arith, nat_tests) in
    let begins : BeginsPiece text c.split_at.result.0.now c.split_at.result.1.now =
    rw (c.split_at.ensures.front, c.split_at.ensures.back, take_all (length text) text (omega arith))
    (begins_last text (sym c.feed_index.ensures ∙ c.in_default.is) some) in
    let size : 0 < length begins.piece = begins.some in
    let whole : length begins.piece + length c.split_at.result.1.now ≡ length text = begins.whole in
    record { none = tt; some = begins; lines = lines_after _ _ _ begins; shorter = omega arith; over = tt }

pub returns : goal.returns
returns c =
    let text = c.args.text.now in
    let begins : BeginsPiece text c.unreturned.result.now c.split_at-3.result.1.now =
    rw (c.unreturned.ensures, c.split_at-2.ensures.front, c.split_at-3.ensures.back)
    (begins_fed text c.in-Some.at (sym c.feed_index.ensures ∙ c.in-Some.is)) in
    let size : 0 < length begins.piece = begins.some in
    let whole : length begins.piece + length c.split_at-3.result.1.now ≡ length text = begins.whole in
    record { none = tt; some = begins; lines = lines_after _ _ _ begins; shorter = omega arith; over = tt }

pub returns-then-is_empty-clause-over : goal.returns-then-is_empty-clause-over
returns-then-is_empty-clause-over c = no_lines c.args.text.now (sym c.is_empty.ensures ∙ c.if-is_empty.true)
