-- A hand in two parts, the cards gone and the cards left, and how many of each class they have (parts_by_class).
use Rattle.std.proofs.Common.{◌≡◌, ℕ, zero, suc, ◌+◌, ◌*◌, Bool, true, false, cond, not, nat_eq, List, [], ◌∷◌, length}
use Rattle.std.proofs.Common.{refl, sym, ap, ◌∙◌, subst, inl, inr, arith}
use Rattle.std.specs.Prelude.{Contains, ◌==◌, ◌&&◌, if◌then◌else◌}
use Rattle.std.specs.List.{AllByRecursion, filter, sum_by}
use Rattle.std.proofs.lemmas.Bool.{cases_eq, eq-eqb, ne_eqb}
use Rattle.std.proofs.lemmas.List.Sums.{sum_by-cons}
use Rattle.suit_lists.proofs.Elements.{each_gives, each_in}
use Rattle.suit_lists.proofs.Once.{IsOnce}
use Rattle.suit_lists.proofs.Sums.{sum_by_alike, sum_by_both, sum_by_none}
use Rattle.suit_cards.specs.Cards.{Cards}
use Rattle.suit_cards.specs.Holdings.{holds}
use Rattle.suit_cards.proofs.HoldingIsWhatItHolds.{holds-filter}
use Rattle.suit_game.specs.Positions.{without}
use Rattle.suit_classes.specs.Classes.{Hands, class_of}
use Rattle.suit_classes.specs.ClassGame.{cards_in}
use Rattle.suit_classes.proofs.CardsByClass.{cards_in-more}

-- the cards of a hand that are gone
abbrev pub gone_of : Cards → Cards → Cards
gone_of gone cards = filter (holds gone) cards

both_parts : (held b : Bool) (x : ℕ) (left took all : Cards) (test : ℕ → Bool) → test x ≡ b
    → length (filter test left) + length (filter test took) ≡ length (filter test all)
    → length (filter test (cond (not held) (x ∷ left) left)) + length (filter test (cond held (x ∷ took) took))
    ≡ length (cond b (x ∷ filter test all) (filter test all))
both_parts true true x left took all test is parts = rw is (omega (arith, parts))
both_parts true false x left took all test is parts = rw is parts
both_parts false true x left took all test is parts = rw is (omega (arith, parts))
both_parts false false x left took all test is parts = rw is parts

-- of the cards that pass a test, some are left and the others gone
pub length_parts : (test : ℕ → Bool) (cards gone : Cards)
    → length (filter test (without cards gone)) + length (filter test (gone_of gone cards)) ≡ length (filter test cards)
unfolding without
length_parts test [] gone = omega arith
length_parts test (card ∷ cards) gone =
    both_parts (holds gone card) (test card) card (without cards gone) (gone_of gone cards) cards test refl
    (length_parts test cards gone)

-- and so for each class
pub parts_by_class : (hands : Hands) (cards gone : Cards) (class : ℕ)
    → cards_in hands (without cards gone) class + cards_in hands (gone_of gone cards) class ≡ cards_in hands cards class
parts_by_class hands cards gone class = length_parts (λ card. class_of hands card == class) cards gone

pub cards_in-same : (hands : Hands) (card : ℕ) (cards : Cards) (class : ℕ) → class_of hands card ≡ class
    → cards_in hands (card ∷ cards) class ≡ suc (cards_in hands cards class)
cards_in-same hands card cards class same = rw (eq-eqb (class_of hands card) class same) refl

pub cards_in-other : (hands : Hands) (card : ℕ) (cards : Cards) (class : ℕ) → (class_of hands card ≡ class → ⊥)
    → cards_in hands (card ∷ cards) class ≡ cards_in hands cards class
cards_in-other hands card cards class differ = rw (ne_eqb (class_of hands card) class differ) refl

-- a card is gone of a hand where the hand had it and it is gone
pub holds-gone_of : (gone cards : Cards) (card : ℕ) → holds (gone_of gone cards) card ≡ (holds cards card
    && holds gone card)
holds-gone_of gone cards card = holds-filter (holds gone) cards card

-- ---- sums over classes

picked_none : (hands : Hands) (f : ℕ → ℕ) (card : ℕ) (classes : List ℕ)
    → AllByRecursion (λ class. class_of hands card ≡ class → ⊥) classes
    → sum_by (λ class. (if class_of hands card == class then 1 else 0) * f class) classes ≡ 0
picked_none hands f card classes apart =
    let term : ℕ → ℕ = λ class. (if class_of hands card == class then 1 else 0) * f class in
    sum_by_alike term (λ class. 0) classes
    (each_gives (λ class. class_of hands card ≡ class → ⊥) (λ class. term class ≡ 0) classes
    (λ class differ. let told : nat_eq (class_of hands card) class
    ≡ false = ne_eqb (class_of hands card) class differ in rw told (omega arith)) apart)
    ∙ sum_by_none (λ class. 0) classes (λ class. refl)

picked_one : (hands : Hands) (f : ℕ → ℕ) (card : ℕ) (classes : List ℕ) → IsOnce classes
    → Contains classes (class_of hands card)
    → sum_by (λ class. (if class_of hands card == class then 1 else 0) * f class) classes ≡ f (class_of hands card)
unfolding IsOnce
picked_one hands f card [] once found = absurd (omega (arith, found.1))
picked_one hands f card (class ∷ classes) once found =
    let term : ℕ → ℕ = λ other. (if class_of hands card == other then 1 else 0) * f other in
    elim (cases_eq (class_of hands card) class) [
      | inl here ↦
          let told : nat_eq (class_of hands card) class ≡ true = eq-eqb (class_of hands card) class here in
          let none = picked_none hands f card classes (subst (λ (c : ℕ). AllByRecursion (λ other. c ≡ other
          → ⊥) classes) (sym here) once.0) in
          sum_by-cons term class classes ∙ rw told (omega (arith, none, ap f here))
      | inr other ↦
          let told : nat_eq (class_of hands card) class ≡ false = ne_eqb (class_of hands card) class other in
          let rest = picked_one hands f card classes once.1 (later class classes (class_of hands card) other found) in
          sum_by-cons term class classes ∙ rw told (omega (arith, rest))
    ]
  where
    later : (x : ℕ) (xs : List ℕ) (y : ℕ) → (y ≡ x → ⊥) → Contains (x ∷ xs) y → Contains xs y
    later x xs y differ (zero, below, is) = absurd (differ (sym is))
    later x xs y differ (suc k, below, is) = (k, omega arith, is)

-- what depends on the class of a card, added up over cards, is what the classes have of them
pub group_sum : (hands : Hands) (f : ℕ → ℕ) (classes : List ℕ) (cards : Cards) → IsOnce classes
    → AllByRecursion (λ card. Contains classes (class_of hands card)) cards
    → sum_by (λ class. cards_in hands cards class * f class) classes ≡ sum_by (λ card. f (class_of hands card)) cards
group_sum hands f classes [] once each = sum_by_none (λ class. 0 * f class) classes (λ class. omega arith)
group_sum hands f classes (card ∷ cards) once each =
    let first : ℕ → ℕ = λ class. (if class_of hands card == class then 1 else 0) * f class in
    let rest : ℕ → ℕ = λ class. cards_in hands cards class * f class in
    sum_by_alike (λ class. cards_in hands (card ∷ cards) class * f class) (λ class. first class + rest class) classes
    (each_in (λ class. cards_in hands (card ∷ cards) class * f class ≡ first class + rest class) classes
    (λ class found. rw (cards_in-more hands card cards class) (omega arith)))
    ∙ sum_by_both first rest classes
    ∙ omega (
      arith,
      picked_one hands f card classes once each.0,
      group_sum hands f classes cards once each.1,
      sum_by-cons (λ other. f (class_of hands other)) card cards,
    )
