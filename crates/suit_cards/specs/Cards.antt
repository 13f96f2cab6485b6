-- Names for lists of numbers, so that a hand is not taken for counts, sizes or a text.
use Rattle.std.specs.Prelude.{ℕ, Bool, List}
use Rattle.std.specs.Str.{bytes_eq}

-- cards of the suit, told by their ranks; where they are a hand, from the highest down
abbrev pub Cards : Type 0
Cards = List ℕ

-- how many cards somebody holds of each of some groups of cards
abbrev pub ClassLayout : Type 0
ClassLayout = List ℕ

-- how many cards each of some groups of cards has
abbrev pub Sizes : Type 0
Sizes = List ℕ

-- numbers of elements of a list, from 0 on
abbrev pub Indices : Type 0
Indices = List ℕ

-- whether two lists have the same numbers in the same order; std compares the bytes of texts by this very test
abbrev pub same_numbers : List ℕ → List ℕ → Bool
same_numbers here there = bytes_eq here there

-- a text, told by its bytes
abbrev pub Text : Type 0
Text = List ℕ
