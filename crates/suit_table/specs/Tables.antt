-- A table: the text of its records, one line each, in their order.
use Rattle.std.specs.Prelude.{◌≡◌, ⊤, ℕ, suc, List, [], ◌∷◌, ◌++◌, Some, None, MatchResult}
use Rattle.suit_cards.specs.Cards.{Text}
use Rattle.suit_table.specs.declared.outcomes.Outcome.{Outcome}
use Rattle.suit_table.specs.declared.tables.TableEnd.{TableEnd}
use Rattle.suit_table.specs.declared.tables.TableEnd.TheVariants.{Csv, Memory}
use Rattle.suit_table.specs.Fields.{question_named}
use Rattle.suit_table.specs.Outcomes.{Fit, fault_line, outcome_line}
use Rattle.suit_table.specs.Records.{Record, first_misfit, records_of}

-- the line of a record: of an outcome that fits the question that it names, or of its own fault
abbrev pub IsRecordLine : Fit → ℕ → Record → Text → Type 0
IsRecordLine Fits number fields line = MatchResult (question_named number fields)
    (λ question. (outcome : Outcome) × Fits question outcome × (line ≡ outcome_line number question outcome))
    (λ fault. line ≡ fault_line number fault.kind)

-- the lines of records, one each and in their order, which are numbered on from this number
unfoldable pub AreLines : Fit → ℕ → List Record → Text → Type 0
AreLines Fits number [] text = text ≡ []
AreLines Fits number (fields ∷ records) text =
    (line : Text) × (rest : Text) × IsRecordLine Fits number fields line × AreLines Fits (suc number) records rest
    × (text ≡ line ++ rest)

-- the answer to a text: each record has as many fields as a question has columns, and these are their lines
pub record IsTable (Fits : Fit) (input text : Text) : Type 0 where
  pub fit : first_misfit (records_of input) ≡ None
  pub lines : AreLines Fits 1 (records_of input) text

-- why there is no answer: this record is the first with more or fewer fields, or memory was wanted
abbrev pub IsTableEnd : Text → TableEnd → Type 0
IsTableEnd input (Csv at) = first_misfit (records_of input) ≡ Some at
IsTableEnd input Memory = ⊤
