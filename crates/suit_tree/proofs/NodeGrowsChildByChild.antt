-- A node grows child by child, in the order of its moves (one_grown, all_grown, all_counted).
use Rattle.std.proofs.Common.{◌≡◌, ◌<◌, ◌≤◌, ℕ, All, zero, suc, ◌+◌, ◌-◌, Bool, true, List, [], ◌∷◌, ◌++◌, length, map}
use Rattle.std.proofs.Common.{take, get_or, refl, sym, ap, ◌∙◌, subst, arith, Some}
use Rattle.std.specs.Prelude.{Contains, filter, sum_by, nat_lt}
use Rattle.std.proofs.lemmas.Bool.{ltb-true}
use Rattle.std.proofs.lemmas.List.{get_or-map, length-append, length-map, take_more}
use Rattle.std.proofs.lemmas.List.Elements.{All-contains, Contains-get_or, filter_passes}
use Rattle.std.proofs.lemmas.List.Sums.{sum_by-append, sum_by-cons, sum_by-take-le, sum_by_more}
use Rattle.suit_cards.specs.Cards.{ClassLayout, Indices}
use Rattle.suit_game.specs.declared.question.Question.{Question}
use Rattle.suit_classes.specs.declared.class_moves.ClassMove.{ClassMove}
use Rattle.suit_classes.specs.declared.class_moves.ClassMove.TheVariants.{ShowOut}
use Rattle.suit_classes.specs.WhatIsAllowed.{every_move}
use Rattle.suit_classes.specs.ClassMoves.{ClassHistory}
use Rattle.suit_classes.specs.declared.class_view.ClassView.{ClassView}
use Rattle.suit_classes.specs.ClassPlaces.{class_after, class_decided, class_step}
use Rattle.suit_classes.proofs.SmallCounts.{class_after_move}
use Rattle.suit_tree.specs.declared.branch.Branch.{Branch}
use Rattle.suit_tree.specs.declared.node.Node.{Node}
use Rattle.suit_tree.specs.declared.tree_end.TreeEnd.{TreeEnd}
use Rattle.suit_tree.specs.declared.tree_end.TreeEnd.TheVariants.{Nodes, Memory}
use Rattle.suit_tree.specs.Growing.{HasRoom, IsGrown, StandsFor, branch_seen, branched, keeping, moves_from}
use Rattle.suit_tree.specs.Growing.{moves_within, pairs_from}
use Rattle.suit_tree.specs.Nodes.{children_of, move_to}
use Rattle.suit_tree.specs.TreeEnds.{IsPastBudget}
use Rattle.suit_tree.specs.Trees.{AllFit}
use Rattle.suit_tree.proofs.WhichIndicesStay.{all_kept}
use Rattle.suit_tree.proofs.MovesOn.{unless_parts}
use Rattle.suit_game.specs.declared.limits.TheConstants.{MOST_MOVES}

-- a child stands below a node by a move
abbrev pub Below : ℕ → List (ClassLayout × ℕ) → ClassView → Indices → ClassMove → Node → Type 0
Below more layouts view indices move child =
    (move_to child ≡ Some move) × IsGrown more layouts (class_step view move) (keeping layouts view indices move) child

-- the pairs below a node by a move
abbrev pub pairs_below : ℕ → List (ClassLayout × ℕ) → ClassView → Indices → ClassMove → ℕ
pairs_below more layouts view indices move =
    pairs_from more layouts (class_step view move) (keeping layouts view indices move)

-- the children by the first moves are grown, and their pairs counted on
pub record AreGrown (more : ℕ) (layouts : List (ClassLayout × ℕ)) (view : ClassView) (indices : Indices)
    (moves : List ClassMove) (children : List Node)
    (first pairs : ℕ) : Type 0 where
  pub fit : AllFit (Below more layouts view indices) moves children
  pub counted : pairs ≡ first + sum_by (pairs_below more layouts view indices) moves

fit-push : (Fits : ClassMove → Node
    → Type 0) (moves : List ClassMove) (nodes : List Node) (move : ClassMove) (node : Node) → AllFit Fits moves nodes
    → Fits move node → AllFit Fits (moves ++ move ∷ []) (nodes ++ node ∷ [])
unfolding AllFit
fit-push Fits [] [] move node all one = (one, tt)
fit-push Fits [] (other ∷ nodes) move node all one = absurd all
fit-push Fits (other ∷ moves) [] move node all one = absurd all
fit-push Fits (first ∷ moves) (other ∷ nodes) move node all one = (all.0, fit-push Fits moves nodes move node all.1 one)

fit-none : (Fits : ClassMove → Node → Type 0) (nodes : List Node) → AllFit Fits [] nodes → nodes ≡ []
unfolding AllFit
fit-none Fits [] fit = refl
fit-none Fits (node ∷ nodes) fit = absurd fit

none_fit : (Fits : ClassMove → Node → Type 0) → AllFit Fits [] []
unfolding AllFit
none_fit Fits = tt

sum-push : (f : ClassMove → ℕ) (moves : List ClassMove) (move : ClassMove)
    → sum_by f (moves ++ move ∷ []) ≡ sum_by f moves + f move
sum-push f moves move = omega (arith, sum_by-append f moves (move ∷ []), sum_by-cons f move [])

-- an end that tells of too few pairs tells of more
pub past_more : (pairs more budget : ℕ) (end : TreeEnd) → pairs ≤ more → IsPastBudget pairs budget end
    → IsPastBudget more budget end
past_more pairs more budget (Nodes told) least past = (past.0, omega (arith, past.1, least))
past_more pairs more budget Memory least past = tt

pub past_told : (pairs budget : ℕ) (end : TreeEnd) → end ≡ Nodes budget → budget < pairs → IsPastBudget pairs budget end
past_told pairs budget end told past = rw told (refl, past)

module _ (layouts : List (ClassLayout × ℕ)) (view : ClassView) (indices : Indices) where
  pub none_grown : (more : ℕ) (children : List Node) (first pairs : ℕ) → children ≡ [] → pairs ≡ first
      → AreGrown more layouts view indices [] children first pairs
  none_grown more children first pairs none same = record { fit = rw none (none_fit _); counted = omega (arith, same) }

  pub one_grown : (more : ℕ) (moves longer : List ClassMove) (move : ClassMove) (children after : List Node)
      (child : Node) (first pairs now : ℕ)
      → longer ≡ moves ++ move ∷ [] → after ≡ children ++ child ∷ [] → Below more layouts view indices move child
      → now ≡ pairs + pairs_below more layouts view indices move
      → AreGrown more layouts view indices moves children first pairs
      → AreGrown more layouts view indices longer after first now
  one_grown more moves longer move children after child first pairs now longer_is is fits counted before = record {
    fit = rw (longer_is, is) (fit-push (Below more layouts view indices) moves children move child before.fit fits);
    counted = rw longer_is (omega (
      arith,
      counted,
      before.counted,
      sum-push (pairs_below more layouts view indices) moves move,
    ));
  }

  -- with all moves done a node is grown
  pub all_grown : (more less : ℕ) (children : List Node) (node : Node) (first pairs : ℕ) → less ≡ more - 1
      → StandsFor view indices node
      → children_of node ≡ children
      → AreGrown less layouts view indices (moves_within more layouts view indices) children first pairs
      → IsGrown more layouts view indices node
  unfolding IsGrown moves_within
  all_grown zero less children node first pairs is stands below all =
      (stands, below ∙ fit-none (Below less layouts view indices) children all.fit)
  all_grown (suc more) less children node first pairs is stands below all =
      let same : less ≡ more = omega (arith, is) in
      let fit : AllFit (Below more layouts view indices) (moves_from layouts view indices) children =
      rw same at all.fit in
      (stands, rw below fit)

  pub all_counted : (more less : ℕ) (children : List Node) (old first pairs : ℕ) → less ≡ more - 1
      → first ≡ old + length indices
      → AreGrown less layouts view indices (moves_within more layouts view indices) children first pairs
      → pairs ≡ old + pairs_from more layouts view indices
  unfolding pairs_from moves_within
  all_counted zero less children old first pairs is begun all = omega (arith, all.counted, begun)
  all_counted (suc more) less children old first pairs is begun all =
      let same : less ≡ more = omega (arith, is) in
      let counted : pairs ≡ first + sum_by (pairs_below more layouts view indices) (moves_from layouts view indices) =
      rw same at all.counted in
      omega (arith, counted, begun)

  -- what the children so far, and one more, come to is no more than what all do
  pub so_far_below : (more less : ℕ) (i : ℕ) (move : ClassMove) (children : List Node) (old first pairs : ℕ)
      → less ≡ more - 1
      → first ≡ old + length indices → i < length (moves_within more layouts view indices)
      → move ≡ get_or (moves_within more layouts view indices) i ShowOut
      → AreGrown less layouts view indices (take i (moves_within more layouts view indices)) children first pairs
      → pairs + pairs_below less layouts view indices move ≤ old + pairs_from more layouts view indices
  unfolding pairs_from moves_within
  so_far_below zero less i move children old first pairs is begun below here all = absurd (omega (arith, below))
  so_far_below (suc more) less i move children old first pairs is begun below here all =
      let same : less ≡ more = omega (arith, is) in
      let moves : List ClassMove = moves_from layouts view indices in
      let f : ClassMove → ℕ = pairs_below more layouts view indices in
      let counted : pairs ≡ first + sum_by f (take i moves) = rw same at all.counted in
      let one : f (get_or moves i ShowOut) ≡ f move = ap f (sym here) in
      rw same (omega (arith, counted, begun, one, sum_by_more f moves i ShowOut below, sum_by-take-le f moves (i + 1)))

  -- where a move more comes, the tree may go deeper
  pub goes_deeper : (more i : ℕ) → i < length (moves_within more layouts view indices) → 0 < more
  unfolding moves_within
  goes_deeper zero i below = absurd (omega (arith, below))
  goes_deeper (suc more) i below = omega arith

  -- and it may be made at some index
  pub made_somewhere : (more i : ℕ) (move : ClassMove) → i < length (moves_within more layouts view indices)
      → move ≡ get_or (moves_within more layouts view indices) i ShowOut
      → 0 < length (keeping layouts view indices move)
  unfolding moves_within moves_from
  made_somewhere zero i move below here = absurd (omega (arith, below))
  made_somewhere (suc more) i move below here =
      let some : ClassMove → Bool = λ other. nat_lt 0 (length (keeping layouts view indices other)) in
      let moves : List ClassMove = moves_from layouts view indices in
      let found : Contains moves move = subst (Contains moves) (sym here) (Contains-get_or moves i ShowOut below) in
      let parts = unless_parts (class_decided view) (filter some every_move) move found in
      ltb-true 0 (length (keeping layouts view indices move))
      (All-contains (λ (other : ClassMove). some other
      ≡ true) (filter some every_move) move (filter_passes some every_move) parts.1)

  -- a branch is a move that may be made, with the indices at which it may
  pub record IsBranch (more i : ℕ) (branch : Branch) : Type 0 where
    pub within : i < length (moves_within more layouts view indices)
    pub move : branch.mv ≡ get_or (moves_within more layouts view indices) i ShowOut
    pub held : branch.indices.now ≡ keeping layouts view indices branch.mv

  -- there are as many as moves
  pub branches_long : (more : ℕ) (branches : List Branch)
      → map branch_seen branches ≡ branched more layouts view indices
      → length branches ≡ length (moves_within more layouts view indices)
  branches_long more branches same =
      let seen : ClassMove → ClassMove × Indices = λ move. (move, keeping layouts view indices move) in
      sym (length-map branches branch_seen) ∙ ap length same ∙ length-map (moves_within more layouts view indices) seen

  pub branch_at : (more i : ℕ) (branches : List Branch) (d : Branch) → i < length branches
      → map branch_seen branches ≡ branched more layouts view indices → IsBranch more i (get_or branches i d)
  branch_at more i branches d below same =
      let moves : List ClassMove = moves_within more layouts view indices in
      let seen : ClassMove → ClassMove × Indices = λ move. (move, keeping layouts view indices move) in
      let within : i < length moves = omega (arith, below, branches_long more branches same) in
      let here : branch_seen (get_or branches i d) ≡ seen (get_or moves i ShowOut) =
      sym (get_or-map branch_seen branches i d (branch_seen d) below)
      ∙ ap (λ (l : List (ClassMove × Indices)). get_or l i (branch_seen d)) same
      ∙ get_or-map seen moves i ShowOut (branch_seen d) within in
      let move : (get_or branches i d).mv ≡ get_or moves i ShowOut = ap (λ (pair : ClassMove × Indices). pair.0) here in
      record {
        within = within;
        move = move;
        held = ap (λ (pair : ClassMove × Indices). pair.1) here ∙ ap (keeping layouts view indices) (sym move);
      }

  pub branch_some : (more i : ℕ) (branch : Branch) → IsBranch more i branch → 0 < length branch.indices.now
  branch_some more i branch here =
      subst (λ (l : Indices). 0 < length l) (sym here.held) (made_somewhere more i branch.mv here.within here.move)

  pub branch_all : (more i : ℕ) (branch : Branch) (P : ℕ → Type 0) → All P indices → IsBranch more i branch
      → All P branch.indices.now
  branch_all more i branch P all here = subst (All P) (sym here.held) (all_kept layouts view branch.mv indices P all)

  -- a child by the next branch is grown
  pub grown_more : (more less i : ℕ) (branch : Branch) (next : ClassView) (child : Node) (children after : List Node)
      (first pairs now : ℕ)
      → next ≡ class_step view branch.mv → after ≡ children ++ child ∷ [] → move_to child ≡ Some branch.mv
      → IsGrown less layouts next branch.indices.now child
      → now ≡ pairs + pairs_from less layouts next branch.indices.now
      → AreGrown less layouts view indices (take i (moves_within more layouts view indices)) children first pairs
      → IsBranch more i branch
      → AreGrown less layouts view indices (take (i + 1) (moves_within more layouts view indices)) after first now
  grown_more more less i branch next child children after first pairs now step is last grown counted before here =
      let moves : List ClassMove = moves_within more layouts view indices in
      let fits : IsGrown less layouts (class_step view branch.mv) (keeping layouts view indices branch.mv) child =
      subst (λ (held : Indices). IsGrown less layouts (class_step view branch.mv) held child) here.held
      (subst (λ (v : ClassView). IsGrown less layouts v branch.indices.now child) step grown) in
      one_grown less (take i moves) (take (i + 1) moves) branch.mv children after child first pairs now
      (take_more moves i ShowOut here.within ∙ ap (λ (m : ClassMove). take i moves ++ m ∷ []) (sym here.move)) is (
        last,
        fits,
      )
      (counted ∙ ap (λ (v : ClassView). pairs + pairs_from less layouts v branch.indices.now) step
      ∙ ap (λ (held : Indices). pairs + pairs_from less layouts (class_step view branch.mv) held) here.held) before

  -- an end below it is an end of all
  pub past_below : (more less i : ℕ) (branch : Branch) (next : ClassView) (children : List Node)
      (old first pairs budget : ℕ) (end : TreeEnd)
      → less ≡ more - 1 → first ≡ old + length indices → next ≡ class_step view branch.mv
      → IsPastBudget (pairs + pairs_from less layouts next branch.indices.now) budget end
      → AreGrown less layouts view indices (take i (moves_within more layouts view indices)) children first pairs
      → IsBranch more i branch
      → IsPastBudget (old + pairs_from more layouts view indices) budget end
  past_below more less i branch next children old first pairs budget end is begun step past before here =
      let same : pairs_from less layouts next branch.indices.now ≡ pairs_below less layouts view indices branch.mv =
      ap (λ (v : ClassView). pairs_from less layouts v branch.indices.now) step
      ∙ ap (pairs_from less layouts (class_step view branch.mv)) here.held in
      let least = so_far_below more less i branch.mv children old first pairs is begun here.within here.move before in
      past_more (pairs + pairs_from less layouts next branch.indices.now) (old + pairs_from more layouts view indices)
      budget end
      (omega (arith, same, least)) past

  pub at_least_indices : (more : ℕ) → length indices ≤ pairs_from more layouts view indices
  unfolding pairs_from
  at_least_indices zero = omega arith
  at_least_indices (suc more) = omega arith

-- after one more move there is room for one less
pub room_next : (more : ℕ) (view next : ClassView) (move : ClassMove) → HasRoom more view → 0 < more
    → ((question : Question) (history : ClassHistory) → length history ≤ MOST_MOVES → view ≡ class_after question history
    → next ≡ class_after question (history ++ move ∷ []))
    → HasRoom (more - 1) next
room_next more view next move room some step = record {
  question = room.question;
  history = room.history ++ move ∷ [];
  short = omega (arith, length-append room.history (move ∷ []), room.short, some);
  after = step room.question room.history (omega (arith, room.short)) room.after;
}

-- and it is the position after the move
pub step_next : (more : ℕ) (view next : ClassView) (move : ClassMove) → HasRoom more view
    → ((question : Question) (history : ClassHistory) → length history ≤ MOST_MOVES → view ≡ class_after question history
    → next ≡ class_after question (history ++ move ∷ []))
    → next ≡ class_step view move
step_next more view next move room step =
    step room.question room.history (omega (arith, room.short)) room.after
    ∙ class_after_move room.question room.history move ∙ ap (λ (v : ClassView). class_step v move) (sym room.after)
