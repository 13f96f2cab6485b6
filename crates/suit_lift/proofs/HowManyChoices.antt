-- How many choices have given numbers of each class (counted_choices), and how that number changes as a card goes
-- (ways_step).
use Rattle.std.proofs.Common.{◌≡◌, ℕ, zero, suc, ◌+◌, ◌*◌, Bool, true, false, nat_eq, List, [], ◌∷◌, map, refl, sym, ap}
use Rattle.std.proofs.Common.{◌∙◌, subst, inl, inr, arith}
use Rattle.std.specs.Prelude.{Contains, bytes_eq, ◌==◌, ◌&&◌, if◌then◌else◌}
use Rattle.std.specs.List.{AllByRecursion, sum_by}
use Rattle.std.proofs.lemmas.Bool.{cases_Bool, cases_eq, eq-eqb, eqb-false, ne_eqb, false≢true, false_from_ne_true}
use Rattle.std.proofs.lemmas.Slice.Eq.{bytes_eq-Decides}
use Rattle.suit_lists.proofs.Elements.{Contains-cons_cases, Contains-nil}
use Rattle.suit_lists.proofs.Maps.{map_same}
use Rattle.suit_lists.proofs.Once.{IsOnce}
use Rattle.suit_lists.proofs.Sums.{sum_by_none, sum_by_same}
use Rattle.suit_num.specs.Binomials.{binomial}
use Rattle.suit_num.proofs.BinomialLaws.{binomial-absorbed, binomial-none, binomial_past, pascal}
use Rattle.suit_cards.specs.Cards.{Cards}
use Rattle.suit_game.specs.Layouts.{choices_of}
use Rattle.suit_classes.specs.Classes.{Hands, class_of}
use Rattle.suit_classes.specs.ClassGame.{cards_in}
use Rattle.suit_layouts.specs.ClassLayouts.{ways_of}
use Rattle.suit_lift.proofs.ChoicesAmongTheRest.{choices_parted}
use Rattle.suit_lift.proofs.GoneAndLeft.{cards_in-other, cards_in-same}

-- the ways of all classes but one
pub other_ways : (all held : ℕ → ℕ) → ℕ → List ℕ → ℕ
other_ways all held class [] = 1
other_ways all held class (first ∷ classes) =
    (if class == first then 1 else binomial (all first) (held first)) * other_ways all held class classes

factor_same : (class first : ℕ) (here there rest later : ℕ) (b : Bool) → nat_eq class first ≡ b → (b ≡ false → here
    ≡ there) → rest ≡ later
    → (if class == first then 1 else here) * rest ≡ (if class == first then 1 else there) * later
factor_same class first here there rest later true is same others = rw (is, others) refl
factor_same class first here there rest later false is same others = rw (is, others, same refl) refl

-- they do not see the class that they leave out
pub others_same : (all held more some : ℕ → ℕ) (class : ℕ) (classes : List ℕ)
    → ((other : ℕ) → (class ≡ other → ⊥) → (all other ≡ more other) × (held other ≡ some other))
    → other_ways all held class classes ≡ other_ways more some class classes
unfolding other_ways
others_same all held more some class [] same = refl
others_same all held more some class (first ∷ classes) same =
    factor_same class first (binomial (all first) (held first)) (binomial (more first) (some first))
    (other_ways all held class classes) (other_ways more some class classes)
    (nat_eq class first) refl
    (λ differ. let both = same first (eqb-false class first differ) in ap (λ (n : ℕ). binomial n
    (held first)) both.0 ∙ ap (binomial (more first)) both.1)
    (others_same all held more some class classes same)

none_left_out : (all held : ℕ → ℕ) (class : ℕ) (classes : List ℕ) → AllByRecursion (λ other. class ≡ other → ⊥) classes
    → other_ways all held class classes ≡ ways_of (map all classes) (map held classes)
unfolding other_ways ways_of
none_left_out all held class [] apart = refl
none_left_out all held class (first ∷ classes) apart =
    rw (ne_eqb class first apart.0) (ap (λ (n : ℕ). binomial (all first) (held first)
    * n) (none_left_out all held class classes apart.1))

-- the ways of all classes are those of one times those of the others
pub ways_split : (all held : ℕ → ℕ) (class : ℕ) (classes : List ℕ) → IsOnce classes → Contains classes class
    → ways_of (map all classes) (map held classes) ≡ binomial (all class) (held class)
    * other_ways all held class classes
unfolding IsOnce other_ways ways_of
ways_split all held class [] once found = absurd (Contains-nil class found)
ways_split all held class (first ∷ classes) once found = elim (cases_eq class first) [
  | inl here ↦
      let none = none_left_out all held class classes (subst (λ (c : ℕ). AllByRecursion (λ other. c ≡ other
      → ⊥) classes) (sym here) once.0) in
      rw (eq-eqb class first here) (omega (
        arith,
        ap (λ (n : ℕ). binomial (all first) (held first)
            * n) none,
        ap (λ (c : ℕ). binomial (all c) (held c) * other_ways all held class classes) here,
      ))
  | inr other ↦
      let later : Contains classes class = elim (Contains-cons_cases first classes class found) [
        | inl same ↦ absurd
            (other (sym same))
        | inr there ↦ there
      ] in
      rw (ne_eqb class first other) (omega (
        arith,
        ap (λ (n : ℕ). binomial (all first) (held first)
            * n) (ways_split all held class classes once.1 later),
      ))
]

-- ---- choices by class

none_here : (k others ways : ℕ) (told : Bool) → (if told then 1 else 0) ≡ ways → (if (0 == k)
    && told then 1 else 0) ≡ binomial 0 k * ways
none_here zero others ways told same = rw (binomial-none 0) (omega (arith, same))
none_here (suc k) others ways told same =
    let other : nat_eq 0 (suc k) ≡ false = ne_eqb 0 (suc k) (λ e. omega arith) in
    rw (other, binomial_past 0 (suc k) (omega arith)) (omega arith)

no_choice : (counts : ℕ → ℕ) (classes : List ℕ)
    → (if bytes_eq (map (λ class. 0) classes) (map counts classes) then 1 else 0)
    ≡ ways_of (map (λ class. 0) classes) (map counts classes)
unfolding ways_of
no_choice counts [] = refl
no_choice counts (class ∷ classes) =
    none_here (counts class) 0 (ways_of (map (λ other. 0) classes) (map counts classes)) (bytes_eq (map
    (λ other. 0) classes) (map counts classes)) (no_choice counts classes)

pub map_at : (f g : ℕ → ℕ) (xs : List ℕ) (x : ℕ) → map f xs ≡ map g xs → Contains xs x → f x ≡ g x
map_at f g [] x same found = absurd (Contains-nil x found)
map_at f g (first ∷ xs) x same found =
    let head : f first ≡ g first = cc in
    let tail : map f xs ≡ map g xs = cc in
    elim (Contains-cons_cases first xs x found) [
      | inl here ↦ ap f (sym here) ∙ head ∙ ap g here
      | inr there ↦ map_at f g xs x tail there
    ]

-- two tests of lists are alike where the lists are equal together
pub told_alike : (a b c d : List ℕ) → (a ≡ b → c ≡ d) → (c ≡ d → a ≡ b) → bytes_eq a b ≡ bytes_eq c d
told_alike a b c d there back = elim (cases_Bool (bytes_eq a b)) [
  | inl same ↦ same ∙ sym ((bytes_eq-Decides c d).1 (there ((bytes_eq-Decides a b).0 same)))
  | inr other ↦ other ∙ sym (false_from_ne_true (bytes_eq c d) (λ same. false≢true (sym other
      ∙ (bytes_eq-Decides a b).1 (back ((bytes_eq-Decides c d).0 same)))))
]

-- the counts with one of a class less
abbrev less_one : (counts : ℕ → ℕ) → ℕ → ℕ → ℕ → ℕ
less_one counts class fewer other = if class == other then fewer else counts other

less_here : (counts : ℕ → ℕ) (class fewer other : ℕ) → class ≡ other → less_one counts class fewer other ≡ fewer
less_here counts class fewer other same = rw (eq-eqb class other same) refl

less_there : (counts : ℕ → ℕ) (class fewer other : ℕ) → (class ≡ other → ⊥) → less_one counts class fewer other
    ≡ counts other
less_there counts class fewer other differ = rw (ne_eqb class other differ) refl

module _ (hands : Hands) (counts : ℕ → ℕ) (card : ℕ) (taken : Cards) (fewer : ℕ) (is : counts (class_of hands card)
    ≡ suc fewer) (class : ℕ) where
  card_there : cards_in hands (card ∷ taken) class ≡ counts class → cards_in hands taken class
      ≡ less_one counts (class_of hands card) fewer class
  card_there here = elim (cases_eq (class_of hands card) class) [
    | inl same ↦
        let less : cards_in hands taken class ≡ fewer = omega
        (arith, here, cards_in-same hands card taken class same, ap counts same, is) in
        less ∙ sym (less_here counts (class_of hands card) fewer class same)
    | inr other ↦ sym (cards_in-other hands card taken class other) ∙ here
        ∙ sym (less_there counts (class_of hands card) fewer class other)
  ]

  card_back : cards_in hands taken class ≡ less_one counts (class_of hands card) fewer class
      → cards_in hands (card ∷ taken) class ≡ counts class
  card_back here = elim (cases_eq (class_of hands card) class) [
    | inl same ↦
        cards_in-same hands card taken class same ∙ ap suc (here
        ∙ less_here counts (class_of hands card) fewer class same) ∙ sym is ∙ ap counts same
    | inr other ↦ cards_in-other hands card taken class other ∙ here
        ∙ less_there counts (class_of hands card) fewer class other
  ]

with_card : (hands : Hands) (counts : ℕ → ℕ) (classes : List ℕ) (card : ℕ) (taken : Cards) (fewer : ℕ)
    → counts (class_of hands card) ≡ suc fewer
    → bytes_eq (map (cards_in hands (card ∷ taken)) classes) (map counts classes)
    ≡ bytes_eq (map (cards_in hands taken) classes) (map (less_one counts (class_of hands card) fewer) classes)
with_card hands counts classes card taken fewer is =
    told_alike (map (cards_in hands (card ∷ taken)) classes) (map counts classes) (map
    (cards_in hands taken) classes) (map (less_one counts (class_of hands card) fewer) classes)
    (λ same. map_same (cards_in hands taken) (less_one counts (class_of hands card) fewer) classes
    (λ class found. card_there hands counts card taken fewer is class (map_at (cards_in hands
    (card ∷ taken)) counts classes class same found)))
    (λ same. map_same (cards_in hands (card ∷ taken)) counts classes
    (λ class found. card_back hands counts card taken fewer is class (map_at (cards_in hands taken) (less_one counts
    (class_of hands card) fewer) classes class same found)))

one_choice : (hands : Hands) (counts : ℕ → ℕ) (classes : List ℕ)
    → sum_by (λ taken. if bytes_eq (map (cards_in hands taken) classes) (map counts classes) then 1 else 0)
    (choices_of [])
    ≡ ways_of (map (cards_in hands []) classes) (map counts classes)
unfolding choices_of
one_choice hands counts classes = omega (arith, no_choice counts classes)

module _ (hands : Hands) (counts : ℕ → ℕ) (classes : List ℕ) (card : ℕ) (cards : Cards) (once : IsOnce classes)
    (found : Contains classes (class_of hands card)) where
  -- the others stay as they are
  others_kept : (other : ℕ → ℕ) → ((class : ℕ) → (class_of hands card ≡ class → ⊥) → counts class ≡ other class)
      → other_ways (cards_in hands (card ∷ cards)) counts (class_of hands card) classes
      ≡ other_ways (cards_in hands cards) other (class_of hands card) classes
  others_kept other same =
      others_same (cards_in hands (card ∷ cards)) counts (cards_in hands cards) other (class_of hands card) classes
      (λ class differ. (cards_in-other hands card cards class differ, same class differ))

  whole_split : ways_of (map (cards_in hands (card ∷ cards)) classes) (map counts classes)
      ≡ binomial (suc (cards_in hands cards (class_of hands card))) (counts (class_of hands card))
      * other_ways (cards_in hands cards) counts (class_of hands card) classes
  whole_split =
      ways_split (cards_in hands (card ∷ cards)) counts (class_of hands card) classes once found
      ∙ ap (λ (n : ℕ). binomial n (counts (class_of hands card))
      * other_ways (cards_in hands (card ∷ cards)) counts (class_of hands card) classes)
      (cards_in-same hands card cards (class_of hands card) refl)
      ∙ ap (λ (n : ℕ). binomial (suc (cards_in hands cards (class_of hands card))) (counts (class_of hands card))
      * n) (others_kept counts (λ class differ. refl))

  counted_step : (count : ℕ) → counts (class_of hands card) ≡ count
      → ((other : ℕ → ℕ) → sum_by (λ taken. if bytes_eq (map (cards_in hands taken) classes)
      (map other classes) then 1 else 0) (choices_of cards)
      ≡ ways_of (map (cards_in hands cards) classes) (map other classes))
      → sum_by (λ taken. if bytes_eq (map (cards_in hands taken) classes) (map counts classes) then 1 else 0)
      (choices_of (card ∷ cards))
      ≡ ways_of (map (cards_in hands (card ∷ cards)) classes) (map counts classes)
  counted_step zero is rest =
      let class : ℕ = class_of hands card in
      let told : Cards → ℕ = λ taken. if bytes_eq (map (cards_in hands taken) classes)
      (map counts classes) then 1 else 0 in
      let others : ℕ = other_ways (cards_in hands cards) counts class classes in
      let none : sum_by (λ taken. told (card ∷ taken)) (choices_of cards) ≡ 0 =
      sum_by_none (λ taken. told (card ∷ taken)) (choices_of cards)
      (λ taken. ap {B = ℕ} (λ (b : Bool). if b then 1 else 0)
      (false_from_ne_true (bytes_eq (map (cards_in hands (card ∷ taken)) classes) (map counts classes))
      (λ same. absurd (omega (
        arith,
        map_at (cards_in hands (card ∷ taken)) counts classes class ((bytes_eq-Decides (map (cards_in hands
            (card ∷ taken)) classes) (map counts classes)).0 same) found,
        is,
        cards_in-same hands card taken class refl,
      ))))) in
      let few : binomial (cards_in hands cards class) (counts class)
      ≡ 1 = ap (binomial (cards_in hands cards class)) is ∙ binomial-none (cards_in hands cards class) in
      let many : binomial (suc (cards_in hands cards class)) (counts class)
      ≡ 1 = ap (binomial (suc (cards_in hands cards class))) is ∙ binomial-none (suc (cards_in hands cards class)) in
      choices_parted told card cards
      ∙ omega (
        arith,
        none,
        rest counts,
        ways_split (cards_in hands cards) counts class classes once found,
        ap (λ
            (n : ℕ). n * others) few,
        ap (λ (n : ℕ). n * others) many,
      )
      ∙ sym whole_split
  counted_step (suc fewer) is rest =
      let class : ℕ = class_of hands card in
      let told : Cards → ℕ = λ taken. if bytes_eq (map (cards_in hands taken) classes)
      (map counts classes) then 1 else 0 in
      let later : ℕ → ℕ = less_one counts class fewer in
      let others : ℕ = other_ways (cards_in hands cards) counts class classes in
      let first : sum_by (λ taken. told (card ∷ taken)) (choices_of cards)
      ≡ ways_of (map (cards_in hands cards) classes) (map later classes) =
      sum_by_same (λ taken. told (card ∷ taken)) (λ taken. if bytes_eq (map (cards_in hands taken) classes)
      (map later classes) then 1 else 0) (choices_of cards)
      (λ taken. ap {B = ℕ} (λ (b : Bool). if b then 1 else 0) (with_card hands counts classes card taken fewer is))
      ∙ rest later in
      let kept : other_ways (cards_in hands cards) later class classes ≡ others =
      sym (others_kept later (λ other differ. sym (less_there counts class fewer other differ)))
      ∙ others_kept counts (λ other differ. refl) in
      let here : ways_of (map (cards_in hands cards) classes) (map later classes)
      ≡ binomial (cards_in hands cards class) fewer * others =
      ways_split (cards_in hands cards) later class classes once found
      ∙ ap (λ (n : ℕ). binomial (cards_in hands cards class) n
      * other_ways (cards_in hands cards) later class classes) (less_here counts class fewer class refl)
      ∙ ap (λ (n : ℕ). binomial (cards_in hands cards class) fewer * n) kept in
      let split : binomial (suc (cards_in hands cards class)) (counts class)
      ≡ binomial (cards_in hands cards class) fewer + binomial (cards_in hands cards class) (counts class) =
      ap (binomial (suc (cards_in hands cards class))) is ∙ pascal (cards_in hands cards class) fewer
      ∙ ap (λ (n : ℕ). binomial (cards_in hands cards class) fewer + binomial (cards_in hands cards class) n)
      (sym is) in
      choices_parted told card cards
      ∙ omega (
        arith,
        first,
        here,
        rest counts,
        ways_split
            (cards_in hands cards) counts class classes once found,
        ap (λ (n : ℕ). n * others) split,
      )
      ∙ sym whole_split

-- as many choices have such counts of each class as the product of the ways of the classes
pub counted_choices : (hands : Hands) (counts : ℕ → ℕ) (classes : List ℕ) (cards : Cards) → IsOnce classes
    → AllByRecursion (λ card. Contains classes (class_of hands card)) cards
    → sum_by (λ taken. if bytes_eq (map (cards_in hands taken) classes) (map counts classes) then 1 else 0)
    (choices_of cards)
    ≡ ways_of (map (cards_in hands cards) classes) (map counts classes)
counted_choices hands counts classes [] once each = one_choice hands counts classes
counted_choices hands counts classes (card ∷ cards) once each =
    counted_step hands counts classes card cards once each.0 (counts (class_of hands card)) refl
    (λ other. counted_choices hands other classes cards once each.1)

-- ---- as a card goes

west_factor : (n k others : ℕ) → suc n * (binomial n k * others) ≡ suc k * (binomial (suc n) (suc k) * others)
west_factor n k others = omega (arith, ap (λ (m : ℕ). m * others) (binomial-absorbed n k))

east_factor : (n k east others : ℕ) → east + k ≡ suc n → suc n * (binomial n k * others) ≡ east
    * (binomial (suc n) k * others)
east_factor n zero east others parts =
    let all : east ≡ suc n = omega (arith, parts) in
    rw (all, binomial-none n, binomial-none (suc n)) refl
east_factor n (suc k) east others parts =
    let whole : binomial (suc n) (suc k) ≡ binomial n k + binomial n (suc k) = pascal n k in
    let chosen : suc k * binomial (suc n) (suc k) ≡ suc n * binomial n k = binomial-absorbed n k in
    let each : (east + suc k) * binomial (suc n) (suc k) ≡ suc n * binomial (suc n) (suc k) = ap (λ (m : ℕ). m
    * binomial (suc n) (suc k)) parts in
    let all : suc n * binomial (suc n) (suc k) ≡ suc n * (binomial n k + binomial n (suc k)) = ap (λ (m : ℕ). suc n
    * m) whole in
    let east_ways : east * binomial (suc n) (suc k) ≡ suc n * binomial n (suc k) = omega (arith, chosen, each, all) in
    omega (arith, ap (λ (m : ℕ). m * others) east_ways)

module _ (all held more some : ℕ → ℕ) (class : ℕ) (classes : List ℕ) (once : IsOnce classes)
    (found : Contains classes class)
    (same : (other : ℕ) → (class ≡ other → ⊥) → (all other ≡ more other) × (held other
    ≡ some other)) (one : suc (all class) ≡ more class) where
  ways_are : (count : ℕ) → held class ≡ count → ways_of (map all classes) (map held classes)
      ≡ binomial (all class) count * other_ways more some class classes
  ways_are count is =
      ways_split all held class classes once found
      ∙ ap (λ (n : ℕ). binomial (all class) n * other_ways all held class classes) is
      ∙ ap (λ (n : ℕ). binomial (all class) count * n) (others_same all held more some class classes same)

  ways_were : (count : ℕ) → some class ≡ count → ways_of (map more classes) (map some classes)
      ≡ binomial (suc (all class)) count * other_ways more some class classes
  ways_were count is =
      ways_split more some class classes once found
      ∙ ap (λ (n : ℕ). binomial n (some class) * other_ways more some class classes) (sym one)
      ∙ ap (λ (n : ℕ). binomial (suc (all class)) n * other_ways more some class classes) is

  -- a card of West's goes: all of the class times the ways then are West's times the ways before
  pub west_step : suc (held class) ≡ some class → more class * ways_of (map all classes) (map held classes)
      ≡ some class * ways_of (map more classes) (map some classes)
  west_step taken =
      rw (ways_are (held class) refl, ways_were (suc (held class)) (sym taken), sym one, sym taken) (west_factor
      (all class) (held class) (other_ways more some class classes))

  -- and so for East, who has the others of the class
  pub east_step : (east : ℕ) → held class ≡ some class → east + some class ≡ more class
      → more class * ways_of (map all classes) (map held classes) ≡ east * ways_of (map more classes) (map some classes)
  east_step east kept parts =
      rw (ways_are (some class) kept, ways_were (some class) refl, sym one)
      (east_factor (all class) (some class) east (other_ways more some class classes) (parts ∙ sym one))
