use Rattle.std.proofs.Common.{◌≡◌, ◌+◌, ◌∙◌, ◌∷◌, [], ◌++◌, List, ℕ, Option, Some, map, ap, sym, arith}
use Rattle.std.specs.List.{range_with_len}
use Rattle.std.specs.Option.{option_map_or}
use Rattle.std.proofs.lemmas.List.FromFn.{map-range_with_len_more}
use Rattle.suit_cards.specs.Ranks.{letter_of}
use Rattle.suit_classes.specs.Classes.{hands_of, class_top}
use Rattle.suit_answer.specs.Letters.{class_letter}
use Rattle.suit_answer.proofs.letters.ClassLetters.of.Goals as goal

pub push-requires : goal.push-requires
push-requires c = (omega arith, omega arith)

pub loop-class-preserved : goal.loop-class-preserved
loop-class-preserved c =
    let hands = hands_of c.args.question.now in
    let top : class_top hands c.loop-class.class ≡ Some c.top.result = rw c.of-classes.ensures at c.top.ensures in
    let letter : class_letter hands c.loop-class.class ≡ c.letter.result =
    ap (λ (rank : Option ℕ). option_map_or letter_of rank 0) top ∙ sym c.letter.ensures.value in
    let next : map (class_letter hands) (range_with_len 0 (c.loop-class.class + 1))
    ≡ map (class_letter hands) (range_with_len 0 c.loop-class.class)
    ++ class_letter hands c.loop-class.class ∷ [] =
    map-range_with_len_more (class_letter hands) 0 c.loop-class.class c.loop-class.class (omega arith) in
    record {
      told =
          c.push.ensures.items
          ∙ ap (λ (front : List ℕ). front ++ c.letter.result ∷ []) c.loop-class.invariant.told
          ∙ ap (λ (last : ℕ). map (class_letter hands) (range_with_len 0 c.loop-class.class) ++ last ∷ []) (sym letter)
          ∙ sym next;
      few = omega (arith, c.push.ensures.len, c.loop-class.invariant.few);
    }
