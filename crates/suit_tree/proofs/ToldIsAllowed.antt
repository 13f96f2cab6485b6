-- The listed class layouts are told to allow the class histories that they allow (listed_tells).
use Rattle.std.proofs.Common.{◌≡◌, ℕ, ◌<◌, true, [], ◌∙◌, arith}
use Rattle.std.specs.Prelude.{◌↔◌, Contains}
use Rattle.suit_lists.proofs.Maps.{Contains-map_from}
use Rattle.suit_cards.specs.Cards.{ClassLayout}
use Rattle.suit_game.specs.declared.question.Question.{Question}
use Rattle.suit_game.specs.Validity.{IsValid}
use Rattle.suit_layouts.specs.ClassLayouts.{class_layouts, class_weight}
use Rattle.suit_layouts.proofs.CountsOfALayout.{class_layouts_held}
use Rattle.suit_layouts.proofs.WhatHasWeightIsListed.{class_layouts_exact}
use Rattle.suit_classes.specs.WhatIsAllowed.{allows}
use Rattle.suit_classes.specs.ClassGame.{Allows}
use Rattle.suit_classes.specs.Classes.{hands_of, sizes_of}
use Rattle.suit_classes.proofs.CountsAllowAsTold.{allows_tells, layouts_allow}
use Rattle.suit_classes.proofs.DefenceSizes.{sum-defence_sizes}
use Rattle.suit_tree.specs.TreeLaws.{listed_counts}
use Rattle.suit_classes.specs.ClassMoves.{ClassHistory}

-- counts that are listed allow the empty history
pub listed_allow : (question : Question) (counts : ClassLayout) → IsValid question
    → Contains (listed_counts question) counts
    → Allows question counts []
listed_allow question counts valid found =
    let layout = Contains-map_from (λ (listed : ClassLayout × ℕ). listed.0) (class_layouts question (sizes_of question))
    counts found in
    let exact = (class_layouts_exact question (sizes_of question) layout.0.0 layout.0.1
    (sum-defence_sizes (hands_of question))).0 layout.1 in
    let weighs : 0 < class_weight question (sizes_of question) layout.0.0 = omega (arith, exact.0, exact.1) in
    let held = class_layouts_held question (sizes_of question) layout.0.0 weighs in
    layouts_allow question held.0 counts valid held.1 (held.2 ∙ layout.2)

-- they are told to allow what they allow
pub listed_tells : (question : Question) (counts : ClassLayout) (history : ClassHistory) → IsValid question
    → Contains (listed_counts question) counts
    → (allows question counts history ≡ true) ↔ Allows question counts history
listed_tells question counts history valid found =
    allows_tells question counts history (listed_allow question counts valid found)
