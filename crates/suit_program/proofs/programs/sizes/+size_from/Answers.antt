use Rattle.std.proofs.Common.{◌≡◌, ◌<◌, ◌≤◌, ◌+◌, ◌-◌, ◌^◌, ◌++◌, ◌∷◌, ℕ}
use Rattle.std.proofs.Common.{Bool, List, [], ap, arith, get_or, length, sym, take, ◌∙◌}
use Rattle.std.specs.Prelude.{Contains, if◌then◌else◌, min, sum_by}
use Rattle.std.proofs.lemmas.List.{length-append, take_all}
use Rattle.std.proofs.lemmas.List.Elements.{Contains-get_or}
use Rattle.suit_lists.proofs.Elements.{Contains-same}
use Rattle.suit_lists.proofs.Sums.{sum_one_more}
use Rattle.suit_tree.specs.declared.node.Node.{Node}
use Rattle.suit_tree.specs.Nodes.{children_of, move_of}
use Rattle.suit_program.specs.Walks.SupportSizes.{size_at, size_from}
use Rattle.suit_program.proofs.lemmas.Walks.NoNode.{no_node}
use Rattle.suit_program.proofs.lemmas.Walks.SizeFromHere.{child_short, child_size, one_below, size_below}
use Rattle.suit_program.proofs.programs.sizes.+size_from.Goals as goal
use Rattle.suit_program.proofs.programs.sizes.+size_from.Goals.{in-Some, in-None}

pub overflow_sub-more : goal.overflow_sub-more
overflow_sub-more t c =
    let nodes : List Node = children_of c.args.reach.now.node in
    let child : Node = get_or c.children-child-items.result.now c.loop-child.child-index no_node in
    let same : c.children-child-items.result.now ≡ nodes =
    c.children-child-items.ensures ∙ ap children_of c.node.ensures in
    let below : Contains nodes child = Contains-same child same
    (Contains-get_or c.children-child-items.result.now c.loop-child.child-index no_node c.loop-child-test.true) in
    let short = child_short c.requires.question c.requires.support c.requires.history c.args.reach.now
    c.requires.reached child below in
    omega (arith, short, c.requires.left)

pub size_from-size-requires : goal.size_from-size-requires
size_from-size-requires t c =
    let nodes : List Node = children_of c.args.reach.now.node in
    let child : Node = get_or c.children-child-items.result.now c.loop-child.child-index no_node in
    let same : c.children-child-items.result.now ≡ nodes =
    c.children-child-items.ensures ∙ ap children_of c.node.ensures in
    let below : Contains nodes child = Contains-same child same
    (Contains-get_or c.children-child-items.result.now c.loop-child.child-index no_node c.loop-child-test.true) in
    let short = child_short c.requires.question c.requires.support c.requires.history c.args.reach.now
    c.requires.reached child below in (
      omega (arith, c.decreases, short, c.requires.left),
      record {
        question = c.requires.question;
        support = c.requires.support;
        history = c.requires.history ++ move_of child ∷ [];
        reached = c.in-Some.ensures.next c.requires.question c.requires.support c.requires.history c.requires.reached;
        left = omega (arith, c.requires.left, short, length-append c.requires.history (move_of child ∷ []));
      },
    )

pub loop-child-preserved : goal.loop-child-preserved
loop-child-preserved t c =
    λ question support history is.
    let nodes : List Node = children_of c.args.reach.now.node in
    let i = c.loop-child.child-index in
    let child : Node = get_or c.children-child-items.result.now i no_node in
    let same : c.children-child-items.result.now ≡ nodes =
    c.children-child-items.ensures ∙ ap children_of c.node.ensures in
    let within : i < length nodes =
    omega (arith, c.loop-child-test.true, ap (λ (l : List Node). length l) same) in
    let size : Node → ℕ = child_size question support history c.args.reach.now is in
    let below : ℕ = size_from question support (history ++ move_of child ∷ []) in
    let one = sum_one_more size nodes i no_node within
    ∙ ap (λ (l : List Node). sum_by size (take i nodes) + size (get_or l i no_node)) (sym same) in
    elim c.match-child.branch [
      | in-Some w ↦
          w.size-is
          ∙ w.size_from-size.ensures question support (history ++ move_of child ∷ [])
          (w.in-Some.ensures.next question support history is)
          ∙ one_below c.loop-child.size c.args.before (size_at question support history)
          (sum_by size (take i nodes)) (sum_by size (take (i + 1) nodes)) below (2 ^ 32 - 1)
          (c.loop-child.invariant question support history is)
          (one ∙ ap (λ (b : Bool). sum_by size (take i nodes) + (if b then below else 0))
          (sym (w.in-Some.ensures.some question support history is)))
      | in-None w ↦
          w.size-is
          ∙ c.loop-child.invariant question support history is
          ∙ ap (λ (n : ℕ). min (c.args.before + (size_at question support history + n)) (2 ^ 32 - 1))
          (sym (one ∙ ap (λ (b : Bool). sum_by size (take i nodes) + (if b then below else 0))
          (sym (w.in-None.ensures.some question support history is)) ∙ nothing (sum_by size (take i nodes))))
    ]
  where
    nothing : (n : ℕ) → n + 0 ≡ n
    nothing n = omega arith

pub returns : goal.returns
returns t c =
    λ question support history is.
    let nodes : List Node = children_of c.args.reach.now.node in
    let same : c.children-child-items.result.now ≡ nodes =
    c.children-child-items.ensures ∙ ap children_of c.node.ensures in
    let past : length nodes ≤ c.loop-child.child-index =
    omega (arith, c.loop-child-test.false, ap (λ (l : List Node). length l) same) in
    c.loop-child.invariant question support history is
    ∙ ap (λ (n : ℕ). min (c.args.before + n) (2 ^ 32 - 1))
    (ap (λ (l : List Node). size_at question support history
    + sum_by (child_size question support history c.args.reach.now is) l)
    (take_all c.loop-child.child-index nodes past)
    ∙ sym (size_below question support history c.args.reach.now is))
