-- The summary of a made table tells the outcomes of its own questions (`tried_text`).
use Rattle.std.proofs.Common.{◌≡◌, ◌≢◌, suc, List, [], ◌∷◌, map, Ok, refl, sym, ap, ◌∙◌, arith}
use Rattle.std.specs.Prelude.{All}
use Rattle.suit_cards.specs.Cards.{Text}
use Rattle.suit_game.specs.declared.question.Question.{Question}
use Rattle.suit_gen.specs.Naming.{question_named}
use Rattle.suit_gen.specs.Records.{fields_of}
use Rattle.suit_gen.specs.declared.deals.Deal.{Deal}
use Rattle.suit_table.specs.Summaries.{AreOutcomes, IsSummary, summary_line}
use Rattle.suit_table.specs.declared.outcomes.Outcome.{Outcome}
use Rattle.suit_table.specs.declared.outcomes.Outcome.TheVariants.{Value, Nodes, Support, Pivots, Wide, Memory}
use Rattle.suit_top.specs.Commands.Table.{outcome_of, own_outcome, Shows}
use Rattle.suit_top.specs.Commands.Trial.{outcome_named, outcomes_of}

-- an outcome that is shown and is not want of memory is the question's own
own_shown : (question : Question) (outcome : Outcome) → Shows question outcome → outcome ≢ Memory
    → outcome ≡ own_outcome question
own_shown question (Value value) shown told = sym (ap outcome_of shown.is_fate ∙ ap Value shown.value_is)
own_shown question Nodes shown told = shown
own_shown question Support shown told = shown
own_shown question Pivots shown told = shown
own_shown question Wide shown told = shown
own_shown question Memory shown told = absurd (told refl)

all_own : (questions : List Question) (outcomes : List Outcome) → AreOutcomes Shows questions outcomes
    → All (λ outcome. outcome ≢ Memory) outcomes → outcomes ≡ map own_outcome questions
unfolding AreOutcomes
all_own [] [] fit told = refl
all_own [] (outcome ∷ outcomes) fit told = absurd fit
all_own (question ∷ questions) [] fit told = absurd fit
all_own (question ∷ questions) (outcome ∷ outcomes) (shown, fit) told =
    let head = own_shown question outcome shown (told 0 outcome (omega arith)) in
    let tail = all_own questions outcomes fit (λ index other less. told (suc index) other (omega (arith, less))) in
    ap (λ (one : Outcome). one ∷ outcomes) head ∙ ap (λ (l : List Outcome). own_outcome question ∷ l) tail

named_again : (questions : List Question)
    → map own_outcome questions ≡ map outcome_named (map Ok questions)
named_again [] = refl
named_again (question ∷ questions) = ap (λ (l : List Outcome). own_outcome question ∷ l) (named_again questions)

outcomes_again : (deals : List Deal)
    → map outcome_named (map (λ deal. question_named (fields_of deal)) deals) ≡ outcomes_of deals
outcomes_again [] = refl
outcomes_again (deal ∷ deals) =
    ap (λ (l : List Outcome). outcome_named (question_named (fields_of deal)) ∷ l) (outcomes_again deals)

-- so the summary of the questions that records name is the line of these outcomes
pub tried_text : (questions : List Question) (deals : List Deal) (text : Text)
    → map Ok questions ≡ map (λ deal. question_named (fields_of deal)) deals → IsSummary Shows questions text
    → text ≡ summary_line (outcomes_of deals)
tried_text questions deals text named summary =
    summary.is_text ∙ ap summary_line (all_own questions summary.outcomes summary.fit summary.told
    ∙ named_again questions ∙ ap (map outcome_named) named ∙ outcomes_again deals)
