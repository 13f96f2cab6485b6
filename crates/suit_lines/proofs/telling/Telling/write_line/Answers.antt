use Rattle.std.proofs.Common.{◌≡◌, ◌++◌, ℕ, Bool, true, [], rules, length, sym, ap, ◌∙◌, subst}
use Rattle.std.specs.Prelude.{All, ◌&&◌, codes, nat_lt, FitsSigned, if◌then◌else◌}
use Rattle.std.specs.Int.{w128}
use Rattle.std.proofs.lemmas.Int.{to_z-of_z}
use Rattle.suit_cards.specs.Cards.{Text}
use Rattle.suit_answer.specs.Writable.{IsWritableMove}
use Rattle.suit_answer.proofs.TextTaken.{letters_each}
use Rattle.suit_classes.specs.Classes.{class_count, hands_of}
use Rattle.suit_classes.specs.declared.class_turn.ClassTurn.{ClassTurn}
use Rattle.suit_classes.specs.ClassPlaces.{class_start, class_turn}
use Rattle.suit_plans.specs.Masses.{is_declarers}
use Rattle.suit_lines.specs.Lines.{history_line}
use Rattle.suit_lines.specs.Sentences.{choice_words, opening}
use Rattle.suit_lines.specs.Told.{is_told}
use Rattle.suit_lines.proofs.OneMoreTextJoined.{then_written}
use Rattle.suit_lines.specs.Walks.{allowing_counts}
use Rattle.suit_lines.proofs.WalkWhereMassGoes.{choice_told, line_written, shares_writable, stands_short}
use Rattle.suit_lines.proofs.telling.Telling.write_line.Goals as goal

pub write_opening-requires-clause-short : goal.write_opening-requires-clause-short
write_opening-requires-clause-short c =
    stands_short c.args.self.now.question.now c.args.self.now.plan.now c.args.history.now c.args.place.now _
    (allowing_counts c.args.self.now.question.now c.args.history.now) c.requires.stands

pub write_opening-requires-clause-writable : goal.write_opening-requires-clause-writable
write_opening-requires-clause-writable c =
    let many : class_count (hands_of c.args.self.now.question.now) ≡ length c.args.self.now.letters.now =
    sym (letters_each c.args.self.now.question.now) ∙ sym (ap length c.requires.letters) in
    subst (λ (n : ℕ). All (IsWritableMove n) c.args.history.now) many c.requires.stands.writable

pub write_choice-requires : goal.write_choice-requires
write_choice-requires c =
    let many : class_count (hands_of c.args.self.now.question.now) ≡ length c.args.self.now.letters.now =
    sym (letters_each c.args.self.now.question.now) ∙ sym (ap length c.requires.letters) in
    subst (λ (n : ℕ). All (λ share. IsWritableMove n share.0) c.args.shares.now) many
    (shares_writable c.args.self.now.question.now c.args.self.now.plan.now c.args.history.now c.args.shares.now
    c.requires.stands.valid c.requires.shares)

pub returns : goal.returns
returns c =
    let question = c.args.self.now.question.now in
    let plan = c.args.self.now.plan.now in
    let history = c.args.history.now in
    let letters = c.args.self.now.letters.now in
    let shares = c.args.shares.now in
    let fits : FitsSigned w128 c.args.mass = search rules in
    let at_view = c.turn-2.ensures.value in
    let stands = c.requires.stands in
    let chosen : c.write_choice.new.text.items
    ≡ c.write_opening.new.text.items ++ choice_words letters c.turn-2.result c.args.mass shares =
    simp to_z-of_z at c.in_ok-write_choice.ensures in
    let choice : c.write_choice.new.text.items
    ≡ c.write_opening.new.text.items ++ choice_words letters (class_turn c.args.place.now) c.args.mass shares =
    chosen ∙ ap (λ (turn : ClassTurn). c.write_opening.new.text.items ++ choice_words letters turn c.args.mass shares)
    at_view in
    let told : is_told question plan history ≡ true =
    sym (choice_told question plan history c.args.place.now c.args.mass (allowing_counts question history)
    c.args.moves.now stands c.requires.moves)
    ∙ ap (λ (turn : ClassTurn). is_declarers turn && nat_lt 1 (length c.args.moves.now)) (sym c.turn.ensures.value)
    ∙ sym c.if-not-is_choice.ensures in
    then_written c.args.text.now.items (opening letters (class_start question) history
    ++ choice_words letters (class_turn c.args.place.now) c.args.mass shares) c.write_choice.new.text.items
    (codes ".\n") c.extend_from_slice.new.self.items
    (then_written c.args.text.now.items (opening letters (class_start question) history)
    c.write_opening.new.text.items (choice_words letters (class_turn c.args.place.now) c.args.mass shares)
    c.write_choice.new.text.items c.in_ok-write_opening.ensures choice) c.in_ok-extend_from_slice.ensures.items
    ∙ ap (λ (l : Text). c.args.text.now.items ++ l)
    (line_written question plan history c.args.place.now c.args.mass (allowing_counts question history) letters shares
    stands c.requires.letters c.requires.shares
    ∙ ap (λ (b : Bool). if b then history_line question plan history else []) (sym told))
