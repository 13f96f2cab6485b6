-- A walk over the class layouts of positive weight that looks for one which allows a class history.
use Rattle.std.proofs.Common.{◌≡◌, ℕ, ◌<◌, Bool, true, false, ◌||◌, List, [], ◌∷◌, refl, ap, ◌∙◌, arith}
use Rattle.std.specs.List.{AllByRecursion, list_any}
use Rattle.suit_lists.proofs.Elements.{each_in}
use Rattle.suit_cards.specs.Cards.{ClassLayout}
use Rattle.suit_game.specs.declared.question.Question.{Question}
use Rattle.suit_classes.specs.declared.class_moves.ClassMove.{ClassMove}
use Rattle.suit_classes.specs.WhatIsAllowed.{allows}
use Rattle.suit_classes.specs.Classes.{defence_sizes, hands_of, sizes_of}
use Rattle.suit_classes.proofs.DefenceSizes.{sum-defence_sizes}
use Rattle.suit_layouts.proofs.WhatHasWeightIsListed.{class_layouts_exact}
use Rattle.suit_layouts.specs.ClassLayouts.{class_layouts}
use Rattle.suit_plans.specs.Masses.{weight_of}
use Rattle.suit_plans.specs.Properness.{some_allows}
use Rattle.suit_classes.specs.ClassMoves.{ClassHistory}

-- whether some of these class layouts allow a history
abbrev pub any_allows : Question → ClassHistory → List (ClassLayout × ℕ) → Bool
any_allows question history layouts = list_any (λ (layout : ClassLayout × ℕ). allows question layout.0 history) layouts

-- these class layouts are still to come, and none before them allows the history
pub record StillToCome (question : Question) (history : ClassHistory) (layouts : List (ClassLayout × ℕ)) : Type 0 where
  pub left : any_allows question history layouts ≡ some_allows question history
  pub weigh : AllByRecursion (λ (layout : ClassLayout × ℕ). 0 < weight_of question layout.0) layouts

pub all_to_come : (question : Question) (history : ClassHistory)
    → StillToCome question history (class_layouts question (sizes_of question))
unfolding some_allows
all_to_come question history =
    let sizes = defence_sizes (hands_of question) in
    record {
      left = refl;
      weigh = each_in (λ (layout : ClassLayout × ℕ). 0
          < weight_of question layout.0) (class_layouts question (sizes_of question))
          (λ layout found.
          let whole = sum-defence_sizes (hands_of question) in
          let exact = (class_layouts_exact question sizes layout.0 layout.1 whole).0 found in
          omega (arith, exact.0, exact.1));
    }

pub found_to_come : (question : Question) (history : ClassHistory) (layout : ClassLayout × ℕ)
    (rest : List (ClassLayout × ℕ))
    → StillToCome question history (layout ∷ rest)
    → true ≡ allows question layout.0 history → true ≡ some_allows question history
found_to_come question history layout rest come found = ap (λ (b : Bool). b || any_allows question history rest) found
    ∙ come.left

pub next_to_come : (question : Question) (history : ClassHistory) (layout : ClassLayout × ℕ)
    (rest : List (ClassLayout × ℕ))
    → StillToCome question history (layout ∷ rest)
    → false ≡ allows question layout.0 history → StillToCome question history rest
next_to_come question history layout rest come missed =
    record { left = ap (λ (b : Bool). b || any_allows question history rest) missed ∙ come.left; weigh = come.weigh.1 }

pub none_to_come : (question : Question) (history : ClassHistory) → StillToCome question history []
    → false ≡ some_allows question history
none_to_come question history come = come.left
