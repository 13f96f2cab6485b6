-- The keywords, and the columns that their values go to.
use Rattle.std.specs.Prelude.{List, [], ◌∷◌, codes, Option, Some, None, if◌then◌else◌}
use Rattle.suit_cards.specs.Cards.{Text}
use Rattle.suit_question.specs.declared.column.Column.TheVariants.{North, South, Start, Regain, EntriesN, EntriesS}
use Rattle.suit_question.specs.declared.column.Column.TheVariants.{VacantW, VacantE, WestLeast}
use Rattle.suit_question.specs.declared.column.Column.TheVariants.{WestMost, Goal, Nodes, Pivots}
use Rattle.suit_question.specs.declared.keywords.Keyword.{Keyword}
use Rattle.suit_question.specs.declared.keywords.Keyword.TheVariants.{Single, Pair}
use Rattle.suit_text.specs.Loose.{is_word}

-- the keywords, each with the one column or the two that its values go to
abbrev pub keywords : List (Text × Keyword)
keywords =
    (codes "north", Single North)
    ∷ (codes "south", Single South)
    ∷ (codes "start", Single Start)
    ∷ (codes "regain", Single Regain)
    ∷ (codes "entries", Pair EntriesN EntriesS)
    ∷ (codes "vacant", Pair VacantW VacantE)
    ∷ (codes "west", Pair WestLeast WestMost)
    ∷ (codes "goal", Single Goal)
    ∷ (codes "nodes", Single Nodes)
    ∷ (codes "pivots", Single Pivots)
    ∷ []

-- the first of some keywords that a word is
abbrev pub named_in : List (Text × Keyword) → Text → Option Keyword
named_in [] word = None
named_in (entry ∷ entries) word = if is_word entry.0 word then Some entry.1 else named_in entries word

-- the keyword that a word is
unfoldable pub keyword_named : Text → Option Keyword
keyword_named word = named_in keywords word
