use Rattle.std.proofs.Common.{◌∙◌, ◌++◌, List, map, sym, ap}
use Rattle.std.proofs.lemmas.List.{append-nil, nil_from_length}
use Rattle.suit_lists.proofs.Maps.{one_mapped}
use Rattle.suit_plans.specs.declared.moves.DeclarerMove.{DeclarerMove}
use Rattle.suit_reply.specs.declared.chosen_move.ChosenMove.{ChosenMove}
use Rattle.suit_reply.proofs.against_defence.moves_of.Goals as goal

abbrev named : ChosenMove → DeclarerMove
named choice = record { history = choice.history; mv = choice.mv }

pub loop-choice-init : goal.loop-choice-init
loop-choice-init c =
    ap (λ (l : List DeclarerMove). l ++ map named c.into_iter-choice-iterator.result.rest.items)
    c.new-moves.ensures.items
    ∙ ap (map named) c.into_iter-choice-iterator.ensures.into_iter_gives.0

pub loop-choice-preserved : goal.loop-choice-preserved
loop-choice-preserved c =
    let later = c.next.new.self.rest.items in
    ap (λ (l : List DeclarerMove). l ++ map named later) c.in_ok-push.ensures.items
    ∙ one_mapped named c.loop-choice.moves.items c.in-Some.choice later c.loop-choice.choice-iterator.rest.items
    c.in-Some.ensures.steps.0
    ∙ c.loop-choice.invariant

pub returns : goal.returns
returns c =
    let moves = c.loop-choice.moves.items in
    let rest = c.loop-choice.choice-iterator.rest in
    c.of.ensures ∙ sym (append-nil moves)
    ∙ ap (λ (l : List ChosenMove). moves ++ map named l)
    (sym (nil_from_length rest.items (sym rest.ok.0 ∙ c.in-None.ensures.steps.0)))
    ∙ c.loop-choice.invariant
