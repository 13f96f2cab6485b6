-- How a defence's readers begin (`root_stop`, `root_stops`), and that the rows of all class layouts are those of the
-- defence (`all_rows`).
use Rattle.std.proofs.Common.{◌≡◌, ℕ, ◌<◌, ◌≤◌, List, [], ◌++◌, length, map}
use Rattle.std.proofs.Common.{get_or, sym, ap, ◌∙◌, subst, arith, append-nil}
use Rattle.std.specs.Prelude.{All, ◌&&◌, ℤ, pos, ◌*ℤ◌, ◌≤ℤ◌}
use Rattle.std.specs.List.{flat_map}
use Rattle.std.proofs.lemmas.Int.{ints}
use Rattle.std.proofs.lemmas.List.{get_or-map, get_or_default, length-map}
use Rattle.std.proofs.lemmas.List.Elements.{Contains-get_or}
use Rattle.suit_lists.proofs.Basics.{first_element}
use Rattle.suit_lists.proofs.FlatMaps.{same_pieces}
use Rattle.suit_cards.specs.Cards.{ClassLayout}
use Rattle.suit_num.proofs.IntegerLaws.{mul_not_negative}
use Rattle.suit_game.specs.declared.question.Question.{Question}
use Rattle.suit_game.specs.declared.limits.TheConstants.{MOST_TOTAL}
use Rattle.suit_classes.specs.ClassMoves.{ClassHistory}
use Rattle.suit_plans.specs.declared.defence.DefenceRow.{DefenceRow}
use Rattle.suit_plans.specs.declared.plan.TheConstants.{MOST_DEN}
use Rattle.suit_plans.specs.ReplyLaws.{counts_at}
use Rattle.suit_plans.proofs.RepliesAreBounded.{weight_listed}
use Rattle.suit_plans.proofs.RowLimits.{weight_at_most}
use Rattle.suit_tree.specs.declared.tree.Tree.{Tree}
use Rattle.suit_program.specs.declared.walks.defence_reader.DefenceReader.{DefenceReader}
use Rattle.suit_program.specs.declared.walks.defence_walk.DefenceWalk.{DefenceWalk}
use Rattle.suit_program.specs.declared.walks.reach.Reach.{Reach}
use Rattle.suit_program.specs.declared.supports.support.Support.{Support as MarkedSupport}
use Rattle.suit_program.specs.Walks.AnswerRows.{layout_at}
use Rattle.suit_program.specs.Walks.DefenceLists.{AreDefenceStops, AreEmptyLists, AreRead, AreReaders, RowList, rows_of}
use Rattle.suit_program.specs.Walks.DefenceWalks.{IsDefenceStop, IsPricedTree, their_row}
use Rattle.suit_program.specs.Supports.Marks.{support_seen}
use Rattle.suit_program.specs.Programs.{limits, limits_at}
use Rattle.suit_program.specs.Walks.Reaches.{IsReach}
use Rattle.suit_program.specs.Readings.{Reading, defence_reading, defence_rows_in, has_row, read_from, read_mass}
use Rattle.suit_program.specs.Readings.{row_counts}
use Rattle.suit_program.specs.Supports.{Support, is_reached, layouts_of, reached_histories}
use Rattle.suit_program.specs.Walks.{StandsIn, walked}
use Rattle.suit_program.proofs.lemmas.Walks.DefenceAtATurn.{rows_kept}

-- a list stands in itself
whole_stands : {X : Type 0} (xs : List X) → StandsIn xs 0 xs
whole_stands xs = record { rest = []; from = sym (append-nil xs); within = omega arith }

-- the same prices, of which the scale is told otherwise
abbrev pub with_scale : {tree : Tree} {support : MarkedSupport} {prices : List ℤ} {scale : ℤ}
    → IsPricedTree tree support prices scale → (other : ℤ) → other ≡ scale → IsPricedTree tree support prices other
with_scale case other same = record {
  question = case.question;
  valid = case.valid;
  grown = case.grown;
  long = case.long;
  low = case.low;
  some = subst (λ (z : ℤ). pos 0 ≤ℤ z) (sym same) case.some;
  few = subst (λ (z : ℤ). z ≤ℤ MOST_DEN) (sym same) case.few;
}

module _ (tree : Tree) (support : MarkedSupport) (prices : List ℤ) (scale : ℤ)
    (case : IsPricedTree tree support prices scale) where
  abbrev q : Question
  q = case.question

  abbrev s : Support
  s = support_seen q support

  pub all_limits : StandsIn (limits q s) 0 (walked (limits_at q s) q s [])
  unfolding limits reached_histories
  all_limits = whole_stands (limits q s)

  pub whole_mass : (index : ℕ) → index < length (layouts_of q)
      → pos (layout_at q index).1 *ℤ scale ≡ read_mass (defence_reading q s prices scale (counts_at q index)) []
  unfolding read_mass read_from
  whole_mass index below =
      ap (λ (n : ℕ). pos n *ℤ scale)
      (weight_listed q (layout_at q index) (Contains-get_or (layouts_of q) index ([], 0) below))

  -- the weight of a class layout is small enough
  pub weight_few : (index : ℕ) → index < length (layouts_of q) → (layout_at q index).1 ≤ MOST_TOTAL
  weight_few index below =
      let most = weight_at_most q (counts_at q index) case.valid in
      let is = weight_listed q (layout_at q index) (Contains-get_or (layouts_of q) index ([], 0) below) in
      omega (arith, most, is)

  -- the stop at the empty class history
  abbrev pub root_stop : (reader : DefenceReader) (reach : Reach) (history : ClassHistory) (mass : ℤ) (index : ℕ)
      → index < length (layouts_of q) → reader.prices.now ≡ prices → reader.index ≡ index
      → reader.west.now ≡ counts_at q index → IsReach q s [] reach → mass ≡ pos (layout_at q index).1 *ℤ scale
      → history ≡ [] → IsDefenceStop reader reach history 0 mass
  root_stop reader reach history mass index below same at west reached is none = record {
    turn = record {
      question = q;
      support = s;
      history = [];
      scale = scale;
      long = ap (λ (l : List ℤ). length l) same ∙ case.long;
      low = subst (All (λ (price : ℤ). pos 0 ≤ℤ price)) (sym same) case.low;
      listed = subst (λ (n : ℕ). n < length (layouts_of q)) (sym at) below;
      west = west ∙ ap (counts_at q) (sym at);
      reached = reached;
      rows = all_limits;
      some = subst (λ (z : ℤ). pos 0 ≤ℤ z) (sym is)
          (mul_not_negative (pos (layout_at q index).1) scale (omega (arith, ints)) case.some);
      is_mass = λ there.
          is ∙ whole_mass index below
          ∙ ap (λ (l : List ℤ). read_mass (defence_reading q s l scale (counts_at q index)) []) (sym same)
          ∙ ap (λ w. read_mass (defence_reading q s reader.prices.now scale w) []) (sym west);
    };
    here = sym none;
  }

  -- the rows of a class layout, as a walk gathers them
  rows_walked : (index : ℕ)
      → walked (their_row q s (counts_at q index) (defence_reading q s prices scale (counts_at q index))) q s []
      ≡ defence_rows_in q s prices scale (layout_at q index)
  unfolding reached_histories
  rows_walked index =
      let west = counts_at q index in
      let reading : Reading = defence_reading q s prices scale west in
      rows_kept (λ history. record { west = west; history = history; counts = row_counts reading history })
      (λ history. is_reached q s west history && has_row reading history) (reached_histories q s)

  -- the stops in all class layouts
  abbrev pub root_stops : (walk : DefenceWalk) (reach : Reach) (history : ClassHistory) (masses : List ℤ)
      → walk.prices.now ≡ prices
      → AreReaders tree.layouts.items prices (length tree.layouts.items) walk.readers.now
      → masses ≡ map (λ (layout : ClassLayout × ℕ). pos layout.1 *ℤ scale) tree.layouts.items → IsReach q s [] reach
      → history ≡ [] → AreDefenceStops walk reach history 0 masses
  root_stops walk reach history masses priced readers is reached none = record {
    question = q;
    support = s;
    told = [];
    reached = reached;
    here = sym none;
    long = ap (λ (l : List ℤ). length l) priced ∙ case.long;
    rows = all_limits;
    many = ap (λ (l : List ℤ). length l) is
        ∙ length-map tree.layouts.items (λ (layout : ClassLayout × ℕ). pos layout.1 *ℤ scale) ∙ sym readers.long;
    each = λ index reader mass below.
        let listed : index < length tree.layouts.items = subst (λ (n : ℕ). index < n) readers.long below in
        let at = readers.each index reader listed in
        root_stop (get_or walk.readers.now index reader) reach history (get_or masses index mass) index
        (subst (λ (l : List (ClassLayout × ℕ)). index < length l) case.grown.layouts listed) at.priced at.at
        (at.west ∙ ap (λ (l : List (ClassLayout × ℕ)). (get_or l index ([], 0)).0) case.grown.layouts) reached
        (ap (λ (l : List ℤ). get_or l index mass) is
        ∙ get_or-map (λ (layout : ClassLayout × ℕ). pos layout.1 *ℤ scale) tree.layouts.items index ([], 0) mass listed
        ∙ ap (λ (l : List (ClassLayout × ℕ)). pos (get_or l index ([], 0)).1 *ℤ scale) case.grown.layouts) none;
  }

  -- the rows of all class layouts
  pub all_rows : (walk : DefenceWalk) (reach : Reach) (history : ClassHistory) (masses : List ℤ)
      → walk.prices.now ≡ prices
      → AreReaders tree.layouts.items prices (length tree.layouts.items) walk.readers.now
      → masses ≡ map (λ (layout : ClassLayout × ℕ). pos layout.1 *ℤ scale) tree.layouts.items → IsReach q s [] reach
      → history ≡ [] → (old new : List RowList) → length new ≡ length old
      → AreEmptyLists (length tree.layouts.items) old
      → AreRead walk reach history 0 masses old new
      → flat_map rows_of new ≡ flat_map (defence_rows_in q s prices scale) (layouts_of q)
  all_rows walk reach history masses priced readers is reached none old new same empty read =
      let long = ap (λ (l : List (ClassLayout × ℕ)). length l) case.grown.layouts in
      same_pieces rows_of (defence_rows_in q s prices scale) new (layouts_of q)
      (same ∙ empty.long ∙ long)
      (λ i d e below.
      let under : i < length walk.readers.now = omega (arith, below, readers.long, long) in
      let reader : DefenceReader = first_element walk.readers.now (omega (arith, under)) in
      let at = readers.each i reader (omega (arith, below, long)) in
      let west : (get_or walk.readers.now i reader).west.now ≡ counts_at q i =
      at.west ∙ ap (λ (l : List (ClassLayout × ℕ)). (get_or l i ([], 0)).0) case.grown.layouts in
      let stops = root_stops walk reach history masses priced readers is reached none in
      read i reader (pos 0) d under (stops.each i reader (pos 0) under)
      ∙ ap (λ (l : List DefenceRow). l
      ++ walked (their_row q s (get_or walk.readers.now i reader).west.now (defence_reading q s
      (get_or walk.readers.now i reader).prices.now scale (get_or walk.readers.now i reader).west.now)) q s [])
      (empty.each i d (omega (arith, below, long)))
      ∙ ap (λ (l : List ℤ). walked (their_row q s (get_or walk.readers.now i reader).west.now (defence_reading q s l
      scale (get_or walk.readers.now i reader).west.now)) q s []) at.priced
      ∙ ap (λ (w : ClassLayout). walked (their_row q s w (defence_reading q s prices scale w)) q s []) west
      ∙ rows_walked i
      ∙ ap (defence_rows_in q s prices scale) (get_or_default (layouts_of q) i ([], 0) e below))
