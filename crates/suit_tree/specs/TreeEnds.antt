-- Why a tree was not grown.
use Rattle.std.specs.Prelude.{⊤, ◌≡◌, ◌<◌, ℕ}
use Rattle.suit_tree.specs.declared.tree_end.TreeEnd.{TreeEnd}
use Rattle.suit_tree.specs.declared.tree_end.TreeEnd.TheVariants.{Nodes, Memory}

-- there are more pairs than the budget, which is told, or memory was wanted
abbrev pub IsPastBudget : ℕ → ℕ → TreeEnd → Type 0
IsPastBudget pairs budget (Nodes told) = (told ≡ budget) × (budget < pairs)
IsPastBudget pairs budget Memory = ⊤
