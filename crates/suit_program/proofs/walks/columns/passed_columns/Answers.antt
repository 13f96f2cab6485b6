use Rattle.std.proofs.Common.{◌∙◌, sym, ap, List, [], ◌++◌, Bool, map, refl}
use Rattle.std.specs.List.{flat_map}
use Rattle.suit_lists.proofs.FlatMaps.{map_flat}
use Rattle.suit_program.specs.Programs.{columns, columns_at}
use Rattle.suit_program.specs.Readings.{is_passed}
use Rattle.suit_program.specs.Supports.Marks.{support_seen}
use Rattle.suit_program.specs.Supports.{reached_histories}
use Rattle.suit_program.proofs.walks.columns.passed_columns.Goals as goal

pub returns : goal.returns
unfolding columns reached_histories
returns c = λ question valid grown.
    c.in_ok-add_below.ensures (record {
      question = question;
      support = support_seen question c.args.support.now;
      history = [];
      reached = c.start.ensures question valid grown;
      room = refl;
    })
    ∙ ap (λ (l : List Bool). l ++ flat_map (λ history. map is_passed (columns_at question
    (support_seen question c.args.support.now) history)) (reached_histories question
    (support_seen question c.args.support.now))) c.new-passed.ensures.items
    ∙ sym (map_flat is_passed (columns_at question (support_seen question c.args.support.now))
    (reached_histories question (support_seen question c.args.support.now)))
