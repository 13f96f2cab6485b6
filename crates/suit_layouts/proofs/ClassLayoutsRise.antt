-- The counts stand in strictly rising lexicographic order.
use Rattle.std.proofs.Common.{◌≡◌, ℕ, zero, suc, ◌+◌, ◌≤◌, ◌<◌, nat_eq, nat_lt, true, false, List, [], ◌∷◌, ◌++◌, map}
use Rattle.std.proofs.Common.{refl, ap, ◌∙◌, arith}
use Rattle.std.specs.Prelude.{AllPairs}
use Rattle.std.specs.List.{AllByRecursion, flat_map, range_with_len}
use Rattle.std.specs.Ordering.{nat_cmp}
use Rattle.std.specs.Cmp.Lexicographic.{slice_cmp}
use Rattle.std.specs.declared.cmp.Ordering.TheVariants.{Less}
use Rattle.std.proofs.lemmas.Bool.{eq-eqb, lt-ltb, le-ltb}
use Rattle.std.proofs.lemmas.List.Elements.{All-from_recursion}
use Rattle.std.proofs.lemmas.List.Kept.{AllPairs-cons, AllPairs-filter}
use Rattle.suit_lists.proofs.Elements.{each_append, each_gives, each_of}
use Rattle.suit_lists.proofs.Maps.{each_map}
use Rattle.suit_cards.specs.Cards.{ClassLayout, Sizes}
use Rattle.suit_game.specs.declared.question.Question.{Question}
use Rattle.suit_layouts.specs.ClassLayouts.{class_layouts, class_weight, counts_up_to, weighed}

-- one list stands before another
abbrev IsBefore : List ℕ → List ℕ → Type 0
IsBefore counts later = slice_cmp nat_cmp counts later ≡ Less

-- each of some lists stands before each later one
abbrev AreRising : List (List ℕ) → Type 0
AreRising [] = Unit {0}
AreRising (counts ∷ all) = AllByRecursion (IsBefore counts) all × AreRising all

-- a lower first number stands before
before_by_first : (first other : ℕ) (counts later : List ℕ) → first < other → IsBefore (first ∷ counts) (other ∷ later)
before_by_first first other counts later less =
    let below : nat_lt first other ≡ true = lt-ltb first other less in
    rw below refl

-- after an equal first number the others decide
before_by_others : (first : ℕ) (counts later : List ℕ) → IsBefore counts later
    → IsBefore (first ∷ counts) (first ∷ later)
before_by_others first counts later before =
    let not_below : nat_lt first first ≡ false = le-ltb first first (omega arith) in
    let same : nat_eq first first ≡ true = eq-eqb first first refl in
    rw (not_below, same) before

-- two lists that rise, each element of the first before all of the second
rising_append : (some others : List (List ℕ)) → AreRising some → AreRising others
    → AllByRecursion (λ counts. AllByRecursion (IsBefore counts) others) some → AreRising (some ++ others)
rising_append [] others rise rise_others before = rise_others
rising_append (counts ∷ some) others rise rise_others before =
    (each_append (IsBefore counts) some others rise.0 before.0, rising_append some others rise.1 rise_others before.1)

-- an equal first number changes no order
rising_with_first : (first : ℕ) (all : List (List ℕ)) → AreRising all → AreRising (map (λ counts. first ∷ counts) all)
rising_with_first first [] rise = tt
rising_with_first first (counts ∷ all) rise = (
  each_map (IsBefore (first ∷ counts)) (λ later. first ∷ later) all
      (each_gives (IsBefore counts) (λ later. IsBefore (first ∷ counts) (first ∷ later)) all
      (before_by_others first counts) rise.0),
  rising_with_first first all rise.1,
)

-- a list whose first number is at least some number
record StartsFrom (least : ℕ) (counts : ClassLayout) : Type 0 where
  first : ℕ
  others : List ℕ
  is : counts ≡ first ∷ others
  above : least ≤ first

-- the pieces from a first count on start from it
pieces_start : (all : List (List ℕ)) (a n : ℕ)
    → AllByRecursion (StartsFrom a) (flat_map (λ count. map (λ counts. count ∷ counts) all) (range_with_len a n))
pieces_start all a zero = tt
pieces_start all a (suc n) =
    each_append (StartsFrom a) (map (λ counts. a ∷ counts) all)
    (flat_map (λ count. map (λ counts. count ∷ counts) all) (range_with_len (a + 1) n))
    (each_map (StartsFrom a) (λ counts. a ∷ counts) all
    (each_of (λ counts. StartsFrom a (a ∷ counts)) all (λ counts. record {
      first = a;
      others = counts;
      is = refl;
      above = omega arith;
    })))
    (each_gives (StartsFrom (a + 1)) (StartsFrom a)
    (flat_map (λ count. map (λ counts. count ∷ counts) all) (range_with_len (a + 1) n))
    (λ counts starts. record {
      first = starts.first;
      others = starts.others;
      is = starts.is;
      above = omega (arith, starts.above);
    }) (pieces_start all (a + 1) n))

-- a first number stands before all that start above it
before_starting : (first : ℕ) (counts later : List ℕ) → StartsFrom (first + 1) later → IsBefore (first ∷ counts) later
before_starting first counts later starts =
    ap (λ (other : List ℕ). slice_cmp nat_cmp (first ∷ counts) other) starts.is
    ∙ before_by_first first starts.first counts starts.others (omega (arith, starts.above))

-- the pieces rise together
pieces_rise : (all : List (List ℕ)) (a n : ℕ) → AreRising all
    → AreRising (flat_map (λ count. map (λ counts. count ∷ counts) all) (range_with_len a n))
pieces_rise all a zero rise = tt
pieces_rise all a (suc n) rise =
    let later = flat_map (λ count. map (λ counts. count ∷ counts) all) (range_with_len (a + 1) n) in
    rising_append (map (λ counts. a ∷ counts) all) later (rising_with_first a all rise) (pieces_rise all (a + 1) n rise)
    (each_map (λ counts. AllByRecursion (IsBefore counts) later) (λ counts. a ∷ counts) all
    (each_of (λ counts. AllByRecursion (IsBefore (a ∷ counts)) later) all
    (λ counts. each_gives (StartsFrom (a + 1)) (IsBefore (a ∷ counts)) later (before_starting a counts)
    (pieces_start all (a + 1) n))))

-- all counts rise
up_to-rise : (sizes : Sizes) → AreRising (counts_up_to sizes)
unfolding counts_up_to
up_to-rise [] = (tt, tt)
up_to-rise (size ∷ sizes) = pieces_rise (counts_up_to sizes) 0 (size + 1) (up_to-rise sizes)

-- and so they do with their weights
weighed-pairs : (question : Question) (sizes : Sizes) (all : List (List ℕ)) → AreRising all
    → AllPairs (λ (before later : List ℕ × ℕ). IsBefore before.0 later.0)
    (map (λ counts. (counts, class_weight question sizes counts)) all)
weighed-pairs question sizes [] rise = λ i j d less within. absurd (omega arith)
weighed-pairs question sizes (counts ∷ all) rise =
    let with_weight : List ℕ → List ℕ × ℕ = λ other. (other, class_weight question sizes other) in
    AllPairs-cons (λ (before later : List ℕ × ℕ). IsBefore before.0 later.0) (with_weight counts) (map with_weight all)
    (All-from_recursion (λ (later : List ℕ × ℕ). IsBefore counts later.0) (map with_weight all)
    (each_map (λ (later : List ℕ × ℕ). IsBefore counts later.0) with_weight all rise.0))
    (weighed-pairs question sizes all rise.1)

-- the class layouts stand in strictly rising order
pub class_layouts_rise : (question : Question) (sizes : Sizes)
    → AllPairs (λ before later. slice_cmp nat_cmp before.0 later.0 ≡ Less) (class_layouts question sizes)
unfolding class_layouts weighed
class_layouts_rise question sizes =
    AllPairs-filter (λ (before later : List ℕ × ℕ). IsBefore before.0 later.0) (λ layout. nat_lt 0 layout.1)
    (map (λ counts. (counts, class_weight question sizes counts)) (counts_up_to sizes))
    (weighed-pairs question sizes (counts_up_to sizes) (up_to-rise sizes))
