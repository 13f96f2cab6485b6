-- How many questions came to which outcome.
use Rattle.std.specs.Prelude.{◌≡◌, ◌≢◌, ⊤, ℕ, ◌++◌, Bool, true, false, List, [], ◌∷◌}
use Rattle.std.specs.Prelude.{All, codes, decimal, filter, length}
use Rattle.suit_cards.specs.Cards.{Text}
use Rattle.suit_game.specs.declared.question.Question.{Question}
use Rattle.suit_table.specs.declared.judging.Finding.{Finding}
use Rattle.suit_table.specs.declared.judging.Finding.TheVariants.{Judged, Faulty}
use Rattle.suit_table.specs.declared.outcomes.Outcome.{Outcome}
use Rattle.suit_table.specs.declared.outcomes.Outcome.TheVariants.{Value, Nodes, Support, Pivots, Wide, Memory}
use Rattle.suit_table.specs.declared.summaries.Tally.{Tally}
use Rattle.suit_table.specs.Outcomes.{Fit}

-- each question has an outcome that fits it
unfoldable pub AreOutcomes : Fit → List Question → List Outcome → Type 0
AreOutcomes Fits [] [] = ⊤
AreOutcomes Fits [] (outcome ∷ outcomes) = ⊥
AreOutcomes Fits (question ∷ questions) [] = ⊥
AreOutcomes Fits (question ∷ questions) (outcome ∷ outcomes) =
    Fits question outcome × AreOutcomes Fits questions outcomes

-- which outcome one is, the value aside
abbrev pub is_value : Outcome → Bool
is_value (Value value) = true
is_value Nodes = false
is_value Support = false
is_value Pivots = false
is_value Wide = false
is_value Memory = false

abbrev pub is_nodes : Outcome → Bool
is_nodes (Value value) = false
is_nodes Nodes = true
is_nodes Support = false
is_nodes Pivots = false
is_nodes Wide = false
is_nodes Memory = false

abbrev pub is_support : Outcome → Bool
is_support (Value value) = false
is_support Nodes = false
is_support Support = true
is_support Pivots = false
is_support Wide = false
is_support Memory = false

abbrev pub is_pivots : Outcome → Bool
is_pivots (Value value) = false
is_pivots Nodes = false
is_pivots Support = false
is_pivots Pivots = true
is_pivots Wide = false
is_pivots Memory = false

abbrev pub is_wide : Outcome → Bool
is_wide (Value value) = false
is_wide Nodes = false
is_wide Support = false
is_wide Pivots = false
is_wide Wide = true
is_wide Memory = false

-- this is the outcome of a finding, and no want of memory
abbrev pub IsOutcome : Finding → Outcome → Type 0
IsOutcome (Judged question found) outcome = (outcome ≡ found) × (outcome ≢ Memory)
IsOutcome (Faulty kind) outcome = ⊥

-- how many outcomes are such
abbrev pub count_of : (Outcome → Bool) → List Outcome → ℕ
count_of is outcomes = length (filter is outcomes)

-- the one line of a summary
abbrev pub summary_line : List Outcome → Text
summary_line outcomes =
    codes "records " ++ decimal (length outcomes) ++ codes " values " ++ decimal (count_of is_value outcomes)
    ++ codes " nodes " ++ decimal (count_of is_nodes outcomes) ++ codes " support "
    ++ decimal (count_of is_support outcomes) ++ codes " pivots " ++ decimal (count_of is_pivots outcomes)
    ++ codes " wide " ++ decimal (count_of is_wide outcomes) ++ codes "\n"

-- how many outcomes there are, and how many of each kind
pub record IsTally (outcomes : List Outcome) (tally : Tally) : Type 0 where
  pub records : tally.records ≡ length outcomes
  pub values : tally.values ≡ count_of is_value outcomes
  pub nodes : tally.nodes ≡ count_of is_nodes outcomes
  pub support : tally.support ≡ count_of is_support outcomes
  pub pivots : tally.pivots ≡ count_of is_pivots outcomes
  pub wide : tally.wide ≡ count_of is_wide outcomes

-- the line of a tally
abbrev pub tally_line : Tally → Text
tally_line tally =
    codes "records " ++ decimal tally.records ++ codes " values " ++ decimal tally.values
    ++ codes " nodes " ++ decimal tally.nodes ++ codes " support " ++ decimal tally.support
    ++ codes " pivots " ++ decimal tally.pivots ++ codes " wide " ++ decimal tally.wide ++ codes "\n"

-- the summary of questions: of outcomes that fit them, none of which is want of memory
pub record IsSummary (Fits : Fit) (questions : List Question) (text : Text) : Type 0 where
  pub outcomes : List Outcome
  pub fit : AreOutcomes Fits questions outcomes
  pub told : All (λ outcome. outcome ≢ Memory) outcomes
  pub is_text : text ≡ summary_line outcomes
