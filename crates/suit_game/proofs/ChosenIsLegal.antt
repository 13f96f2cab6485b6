-- What a side plays is among its legal moves, and has weight.
use Rattle.std.proofs.Common.{◌≡◌, ℕ, zero, suc, ◌<◌, List, [], ◌∷◌, map, refl, arith}
use Rattle.std.specs.Prelude.{Contains}
use Rattle.std.specs.List.{AllByRecursion}
use Rattle.suit_game.specs.declared.moves.Move.{Move}
use Rattle.suit_game.specs.Fractions.{Fraction, total_weight}
use Rattle.suit_game.specs.Strategies.{Weighed, kept, weighed, or_first, chosen}
use Rattle.suit_lists.proofs.Elements.{each_at, each_contained}

-- the first move alone
abbrev pub first_of : List Move → List Move
first_of [] = []
first_of (move ∷ moves) = move ∷ []

kept_each : (P : Weighed → Type 0) (n : ℕ) (move : Move) (more : List Weighed)
    → ((k : ℕ) → P (suc k, move)) → AllByRecursion P more → AllByRecursion P (kept n move more)
kept_each P zero move more here each = each
kept_each P (suc n) move more here each = (here n, each)

weighed_each : (P : Move → Type 0) (weight_of : Move → ℕ) (moves : List Move)
    → AllByRecursion P moves → AllByRecursion (λ choice. P choice.1) (weighed weight_of moves)
unfolding weighed
weighed_each P weight_of [] each = tt
weighed_each P weight_of (move ∷ moves) each =
    kept_each (λ choice. P choice.1) (weight_of move) move (weighed weight_of moves) (λ k. each.0)
    (weighed_each P weight_of moves each.1)

or_first_each : (P : Move → Type 0) (picked : List Weighed) (moves : List Move)
    → AllByRecursion (λ choice. P choice.1) picked → AllByRecursion P (first_of moves)
    → AllByRecursion (λ choice. P choice.1) (or_first picked moves)
or_first_each P [] [] each first = tt
or_first_each P [] (move ∷ moves) each first = first
or_first_each P (choice ∷ picked) moves each first = each

-- what holds of each move holds of the first
pub first_of_each : (P : Move → Type 0) (moves : List Move) → AllByRecursion P moves → AllByRecursion P (first_of moves)
first_of_each P [] each = tt
first_of_each P (move ∷ moves) each = (each.0, tt)

-- each move that is chosen is one of the moves
pub chosen_each : (P : Move → Type 0) (weight_of : Move → ℕ) (moves : List Move)
    → AllByRecursion P moves → AllByRecursion (λ choice. P choice.1) (chosen weight_of moves)
chosen_each P weight_of moves each =
    or_first_each P (weighed weight_of moves) moves (weighed_each P weight_of moves each) (first_of_each P moves each)

-- what is chosen among some moves is one of them
pub chosen_from : (weight_of : Move → ℕ) (moves : List Move) (choice : Weighed)
    → Contains (chosen weight_of moves) choice → Contains moves choice.1
chosen_from weight_of moves choice found =
    each_at (λ (it : Weighed). Contains moves it.1) (chosen weight_of moves) choice
    (chosen_each (Contains moves) weight_of moves (each_contained moves)) found

weighed-none : (weight_of : Move → ℕ) (moves : List Move) → ((move : Move) → weight_of move ≡ 0)
    → weighed weight_of moves ≡ []
unfolding weighed
weighed-none weight_of [] none = refl
weighed-none weight_of (move ∷ moves) none = rw (none move, weighed-none weight_of moves none)

-- with no weights it is the first move
pub chosen_first : (P : Move → Type 0) (weight_of : Move → ℕ) (moves : List Move) → ((move : Move) → weight_of move ≡ 0)
    → AllByRecursion P (first_of moves) → AllByRecursion (λ choice. P choice.1) (chosen weight_of moves)
chosen_first P weight_of moves none each =
    rw (weighed-none weight_of moves none) (or_first_each P [] moves tt each)

weighed_above : (weight_of : Move → ℕ) (moves : List Move)
    → AllByRecursion (λ (choice : Weighed). 0 < choice.0) (weighed weight_of moves)
unfolding weighed
weighed_above weight_of [] = tt
weighed_above weight_of (move ∷ moves) =
    kept_each (λ (choice : Weighed). 0 < choice.0) (weight_of move) move (weighed weight_of moves) (λ k. omega arith)
    (weighed_above weight_of moves)

or_first_weight : (value : Weighed → Fraction) (picked : List Weighed) (move : Move) (moves : List Move)
    → AllByRecursion (λ (choice : Weighed). 0 < choice.0) picked
    → 0 < total_weight (map (λ (choice : Weighed). (choice.0, value choice)) (or_first picked (move ∷ moves)))
unfolding total_weight
or_first_weight value [] move moves above = omega arith
or_first_weight value (choice ∷ picked) move moves above = omega (arith, above.0)

-- where there is a move, what is chosen has weight
pub chosen-weight : (value : Weighed → Fraction) (weight_of : Move → ℕ) (move : Move) (moves : List Move)
    → 0 < total_weight (map (λ (choice : Weighed). (choice.0, value choice)) (chosen weight_of (move ∷ moves)))
chosen-weight value weight_of move moves =
    or_first_weight value (weighed weight_of (move ∷ moves)) move moves (weighed_above weight_of (move ∷ moves))
