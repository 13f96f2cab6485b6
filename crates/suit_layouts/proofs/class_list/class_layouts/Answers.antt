use Rattle.std.proofs.Common.{◌≡◌, ◌≤◌, ℕ, List, length, Result, Ok, Err, ap, ◌∙◌, arith}
use Rattle.std.specs.Prelude.{IfOk, vec_len}
use Rattle.std.specs.List.{sum_by}
use Rattle.std.proofs.lemmas.Iterator.{items_from_collect}
use Rattle.std.proofs.lemmas.Iterator.Consumers.{YieldsList-from_first}
use Rattle.suit_layouts.specs.declared.class_list.TheConstants.{MOST_CLASS_LAYOUTS}
use Rattle.suit_game.specs.Layouts.{total}
use Rattle.suit_layouts.specs.ClassLayouts.{class_layouts}
use Rattle.suit_layouts.proofs.ClassWeights.{class_weights_add_up}
use Rattle.suit_layouts.proofs.FewCounts.{class_layouts_few}
use Rattle.suit_layouts.proofs.class_list.class_layouts.Goals as goal

-- what follows of a value follows of one that is there
if_ok_gives : {X E : Type 0} (P Q : X → Type 0) (r : Result X E) → IfOk r P → ((x : X) → P x → Q x) → IfOk r Q
if_ok_gives P Q (Ok x) is gives = gives x is
if_ok_gives P Q (Err e) is gives = tt

pub returns-clause-few : goal.returns-clause-few
returns-clause-few c =
    let all = class_layouts c.args.question.now c.args.sizes.now in
    let few = class_layouts_few c.args.question.now c.args.sizes.now c.requires.blocks in
    let value = items_from_collect c.collect.result c.collect.ensures.ran
    (YieldsList-from_first (λ (layout : List ℕ × ℕ). layout) (λ (walk : List (List ℕ × ℕ)). walk) all
    c.new.ensures.value) in
    if_ok_gives (λ list. list.items ≡ all) (λ list. vec_len list ≤ MOST_CLASS_LAYOUTS) c.collect.result value
    (λ list is. omega (
      arith,
      ap length is,
      few,
    ))

pub returns-clause-total : goal.returns-clause-total
returns-clause-total c =
    let all = class_layouts c.args.question.now c.args.sizes.now in
    let value = items_from_collect c.collect.result c.collect.ensures.ran
    (YieldsList-from_first (λ (layout : List ℕ × ℕ). layout) (λ (walk : List (List ℕ × ℕ)). walk) all
    c.new.ensures.value) in
    if_ok_gives (λ list. list.items ≡ all) (λ list. sum_by (λ layout. layout.1) list.items
    ≡ total c.args.question.now) c.collect.result value
    (λ list is. ap (λ (layouts : List (List ℕ × ℕ)). sum_by (λ layout. layout.1) layouts) is
    ∙ class_weights_add_up c.args.question.now c.args.sizes.now c.requires.blocks.filled)
