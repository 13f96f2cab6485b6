use Rattle.std.proofs.Common.{◌≤◌, ◌<◌, length, ℕ, List, Option, Some, None, inl, arith, rules, tests}
use Rattle.std.specs.Prelude.{IfSome}
use Rattle.std.proofs.lemmas.Iterator.Consumers.{YieldsList-from_first}
use Rattle.std.proofs.lemmas.Iterator.Search.{position_from_yields_List}
use Rattle.suit_layouts.specs.declared.class_list.TheConstants.{MOST_CLASS_LAYOUTS}
use Rattle.suit_layouts.specs.ClassLayouts.{class_layouts, same_counts}
use Rattle.suit_layouts.proofs.walks.class_index.Goals as goal

pub position-requires-clause-fits : goal.position-requires-clause-fits
position-requires-clause-fits c =
    inl (omega (arith, c.new.ensures.few))

pub returns-clause-index : goal.returns-clause-index
returns-clause-index c =
    position_from_yields_List (λ (layout : List ℕ × ℕ). same_counts layout.0 c.args.counts.now) _ _ _
    c.position.ensures.ran
    (YieldsList-from_first (λ (layout : List ℕ × ℕ). layout) (λ (walk : List (List ℕ × ℕ)). walk)
    (class_layouts c.args.question.now c.args.sizes.now) c.new.ensures.value)
    (λ x b q k. search (rules, tests))

if_below : (most least : ℕ) (index : Option ℕ) → IfSome index (λ n. n < least) → least ≤ most
    → IfSome index (λ n. n < most)
if_below most least None is few = tt
if_below most least (Some index) is few = omega (arith, is)

pub returns-clause-few : goal.returns-clause-few
returns-clause-few c =
    if_below MOST_CLASS_LAYOUTS (length c.new.result) c.position.result c.position.ensures.bound c.new.ensures.few
