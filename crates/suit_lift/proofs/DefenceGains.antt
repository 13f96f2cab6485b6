-- The lift of a proper defence holds declarer to at most the defence's most (defences_hold).
use Rattle.std.proofs.Common.{◌≡◌, ℕ, zero, suc, ◌+◌, ◌*◌, ◌<◌, Bool, true, false, List, [], ◌∷◌, length, map, refl}
use Rattle.std.proofs.Common.{sym, ap, ◌∙◌, arith}
use Rattle.std.specs.Prelude.{Contains, bytes_eq, nat_lt, ◌&&◌, pos, ◌≤ℤ◌, if◌then◌else◌}
use Rattle.std.specs.List.{AllByRecursion, filter, sum_by}
use Rattle.std.proofs.Math.Nat.{mul-le-mul_left, mul-pos}
use Rattle.std.proofs.lemmas.Bool.{lt-ltb, true≢false}
use Rattle.std.proofs.lemmas.List.Sums.{sum_by-cons}
use Rattle.std.proofs.lemmas.Slice.Eq.{bytes_eq-Decides}
use Rattle.suit_lists.proofs.Elements.{each_in, each_of}
use Rattle.suit_lists.proofs.Filters.{filter_same, kept_parts}
use Rattle.suit_lists.proofs.Sums.{sum_by_alike}
use Rattle.suit_cards.specs.Cards.{Cards, ClassLayout}
use Rattle.suit_game.specs.declared.question.Question.{Question}
use Rattle.suit_game.specs.Blocks.{counts_of as block_counts}
use Rattle.suit_game.specs.Fractions.{Fraction, IsAtMost, weighted_sum, whole}
use Rattle.suit_game.specs.Gains.{gain, pay}
use Rattle.suit_game.specs.Layouts.{layouts, total, weight}
use Rattle.suit_game.specs.Strategies.{Way, counted}
use Rattle.suit_game.specs.Validity.{IsValid}
use Rattle.suit_game.proofs.LayoutCards.{layouts_are_deals}
use Rattle.suit_game.proofs.PayDenominators.{gain-den, pay-den, total_weight-gain}
use Rattle.suit_classes.specs.Classes.{hands_of, sizes_of}
use Rattle.suit_classes.specs.ClassGame.{counts_of}
use Rattle.suit_classes.proofs.CountsAllowAsTold.{counts_alike}
use Rattle.suit_layouts.specs.ClassLayouts.{class_weight}
use Rattle.suit_plans.specs.BestReplies.{most}
use Rattle.suit_plans.specs.declared.defence.Defence.{Defence}
use Rattle.suit_plans.specs.Masses.{defence_mass, mass_from, mass_of, weight_of}
use Rattle.suit_plans.specs.Properness.{IsProperDefence}
use Rattle.suit_plans.proofs.ProperDefences.{proper_defence}
use Rattle.suit_lift.specs.LiftLaws.{DefencesHold}
use Rattle.suit_lift.specs.Lifts.{defence_way}
use Rattle.suit_lift.specs.Naming.{is_legal_from}
use Rattle.suit_lift.proofs.HowManyAreAlike.{alike_layouts, equal_lengths, is_alike}
use Rattle.suit_lift.proofs.FractionSums.{IsNoMore, kept_sum, no_more_itself, no_more_same, no_more_then, parts_of}
use Rattle.suit_lift.proofs.FractionSums.{plus, plus_no_more, sum_no_more, sum_of}
use Rattle.suit_lift.proofs.GoneAndLeft.{gone_of}
use Rattle.suit_lift.proofs.SpreadMassesPay.{all_at, defences_spread, most_at, term, term_some}
use Rattle.suit_lift.proofs.LayoutsStillLegal.{is_live, live_layouts}
use Rattle.suit_lift.proofs.PlanGains.{den_some}
use Rattle.suit_lift.proofs.WorthsAreNotNegative.{most_positive}
use Rattle.suit_lift.proofs.SharesAreMasses.{counted_mul}

none_gone : (cards : Cards) → gone_of [] cards ≡ []
none_gone [] = refl
none_gone (card ∷ cards) = none_gone cards

constant_sum : (f : Cards → ℕ) (k : ℕ) (xs : List Cards) → ((x : Cards) → Contains xs x → f x ≡ k) → sum_by f xs
    ≡ length xs * k
constant_sum f k xs same =
    sum_by_alike f (λ x. k) xs (each_in (λ x. f x ≡ k) xs same) ∙ each_one xs
  where
    each_one : (ys : List Cards) → sum_by (λ y. k) ys ≡ length ys * k
    each_one [] = omega arith
    each_one (y ∷ ys) = let it : Cards → ℕ = λ z. k in omega (arith, sum_by-cons it y ys, each_one ys)

module _ (question : Question) (west : Cards) (valid : IsValid question) (layout : Contains
    (layouts question) west) where
  abbrev its_counts : ClassLayout
  its_counts = counts_of (hands_of question) west

  alike_first : alike_layouts question west []
      ≡ filter (λ other. bytes_eq (block_counts question (sizes_of question) other) its_counts) (layouts question)
  unfolding alike_layouts
  alike_first =
      filter_same (is_alike question west []) (λ other. bytes_eq (block_counts question
      (sizes_of question) other) its_counts) (layouts question)
      (λ other found.
      let holding = (layouts_are_deals question other valid.north valid.south valid.apart found).1 in
      let none : bytes_eq (gone_of [] other) (gone_of [] west)
      ≡ true = (bytes_eq-Decides (gone_of [] other) (gone_of [] west)).1 (none_gone other ∙ sym (none_gone west)) in
      ap (λ (b : Bool). bytes_eq (counts_of (hands_of question) other) its_counts && b) none
      ∙ and_only (bytes_eq (counts_of (hands_of question) other) its_counts)
      ∙ ap (λ (counts : ClassLayout). bytes_eq counts its_counts) (sym (counts_alike question other holding)))
    where
      and_only : (b : Bool) → (b && true) ≡ b
      and_only true = refl
      and_only false = refl

  -- a class layout weighs as much as each of its layouts
  class_weight_alike : weight_of question its_counts ≡ length (alike_layouts question west [])
      * weight question (length west)
  unfolding class_weight
  class_weight_alike =
      let those : List Cards = filter (λ other. bytes_eq (block_counts question
      (sizes_of question) other) its_counts) (layouts question) in
      let here = (layouts_are_deals question west valid.north valid.south valid.apart layout).0 in
      constant_sum (λ other. weight question (length other)) (weight question (length west)) those
      (λ other found.
      let from = kept_parts (λ it. bytes_eq (block_counts question (sizes_of question) it) its_counts)
      (layouts question) other found in
      let deal = layouts_are_deals question other valid.north valid.south valid.apart from.0 in
      let same : counts_of (hands_of question) other ≡ its_counts =
      sym (counts_alike question other deal.1)
      ∙ (bytes_eq-Decides (block_counts question (sizes_of question) other) its_counts).0 from.1 in
      ap (weight question) (sym (equal_lengths question west other here.defenders deal.0.defenders same)))
      ∙ ap (λ (l : List Cards). length l * weight question (length west)) (sym alike_first)

  -- before any move the mass of a layout's class layout is its weight, for each layout that is alike
  pub mass_starts : (defence : Defence) → counted (defence_mass question defence its_counts [])
      ≡ length (alike_layouts question west []) * weight question (length west) * counted defence.den
  unfolding defence_mass mass_of mass_from
  mass_starts defence =
      counted_mul (weight_of question its_counts) defence.den ∙ ap (λ (n : ℕ). n
      * counted defence.den) class_weight_alike

weighed_den : (den w pn pd n d : ℕ) → den * (w * pn * d + n * pd) * (pd * d) ≡ (w * den * pn * d + den * n * pd)
    * (pd * d)
weighed_den den w pn pd n d = omega arith

-- a weighted sum, times a number, is the sum of its items
weighted_parts : {X : Type 0} (weight_at : X → ℕ) (value : X → Fraction) (den : ℕ) (xs : List X)
    → AllByRecursion (λ x. 0 < (value x).den) xs
    → IsNoMore (parts_of (den * (weighted_sum (map (λ x. (weight_at x, value x)) xs)).num) (weighted_sum (map (λ x.
    (weight_at x, value x)) xs)).den)
    (sum_of (λ x. parts_of (weight_at x * den * (value x).num) (value x).den) xs)
unfolding weighted_sum sum_of
weighted_parts weight_at value den [] each =
    record { here_some = omega arith; there_some = omega arith; least = omega arith }
weighted_parts {X} weight_at value den (x ∷ xs) each =
    let items = map (λ y. (weight_at y, value y)) xs in
    let first : Fraction = parts_of (weight_at x * den * (value x).num) (value x).den in
    let rest : Fraction = parts_of (den * (weighted_sum items).num) (weighted_sum items).den in
    let later = weighted_parts weight_at value den xs each.1 in
    no_more_then (parts_of (den * (weight_at x * (value x).num
    * (weighted_sum items).den + (weighted_sum items).num * (value x).den)) ((value x).den
    * (weighted_sum items).den)) (plus first rest)
    (plus first (sum_of (λ y. parts_of (weight_at y * den * (value y).num) (value y).den) xs))
    (no_more_same (parts_of (den * (weight_at x * (value x).num
    * (weighted_sum items).den + (weighted_sum items).num * (value x).den)) ((value x).den
    * (weighted_sum items).den)) (plus first rest)
    (mul-pos each.0 later.here_some) (mul-pos each.0 later.here_some)
    (weighed_den den (weight_at x) (value x).num (value x).den (weighted_sum items).num (weighted_sum items).den))
    (plus_no_more first first rest (sum_of (λ y. parts_of (weight_at y * den
    * (value y).num) (value y).den) xs) (no_more_itself first each.0) later)

light : (n : ℕ) → (nat_lt 0 n && true) ≡ false → n ≡ 0
light zero told = refl
light (suc n) told = absurd (true≢false (sym (ap (λ (b : Bool). b && true) (lt-ltb 0 (suc n) (omega arith))) ∙ told))

-- where the empty history is not live, a layout has no weight
light_live : (question : Question) (west : Cards) → is_live question [] west ≡ false → weight question (length west) ≡ 0
unfolding is_legal_from
light_live question west told = light (weight question (length west)) told

module _ (question : Question) (declarer : Way) (defence : Defence) (valid : IsValid question)
    (proper : IsProperDefence question defence) where
  abbrev pays : Cards → Fraction
  pays west = pay question declarer (defence_way question defence) west []

  abbrev weighed_pay : Cards → Fraction
  weighed_pay west = parts_of (weight question (length west) * counted defence.den * (pays west).num) (pays west).den

  pays_some : (west : Cards) → 0 < (pays west).den
  pays_some west = pay-den question declarer (defence_way question defence) west []

  kept_live : (west : Cards) → IsNoMore (weighed_pay west)
      (if is_live question [] west then weighed_pay west else whole 0)
  kept_live west = weighs (is_live question [] west) refl
    where
      weighs : (b : Bool) → is_live question [] west ≡ b
          → IsNoMore (weighed_pay west) (if b then weighed_pay west else whole 0)
      weighs true told = no_more_itself (weighed_pay west) (pays_some west)
      weighs false told = record {
        here_some = pays_some west;
        there_some = omega arith;
        least = rw (light_live question west told) (omega arith);
      }

  parts_meet : (w den pn pd a : ℕ) → w * den * pn * (a * pd) ≡ a * w * den * pn * pd
  parts_meet w den pn pd a = omega arith

  pay_met : (west : Cards) → Contains (layouts question) west
      → IsNoMore (weighed_pay west) (term question declarer defence valid proper [] west)
  pay_met west found =
      let alike : ℕ = length (alike_layouts question west []) in
      no_more_same (weighed_pay west) (term question declarer defence valid proper [] west) (pays_some west)
      (term_some question declarer defence valid proper [] west found)
      (parts_meet (weight question (length west)) (counted defence.den) (pays west).num (pays west).den alike
      ∙ ap (λ (n : ℕ). n * (pays west).num * (pays west).den) (sym (mass_starts question west valid found defence)))

  gain_most : IsAtMost (gain question declarer (defence_way question defence)) (counted (most question defence))
      (counted defence.den * total question)
  unfolding live_layouts most
  gain_most =
      let weight_at : Cards → ℕ = λ west. weight question (length west) in
      let items : List (ℕ × Fraction) = map (λ west. (weight_at west, pays west)) (layouts question) in
      let den : ℕ = counted defence.den in
      let scaled : Fraction = parts_of (den * (weighted_sum items).num) (weighted_sum items).den in
      let all : List Cards = layouts question in
      let those : List Cards = filter (is_live question []) all in
      let some : AllByRecursion (λ west. 0 < (weighed_pay west).den) all = each_of (λ west. 0 <
      (weighed_pay west).den) all pays_some in
      let first = weighted_parts weight_at pays den all (each_of (λ west. 0 < (pays west).den) all pays_some) in
      let second = no_more_then scaled (sum_of weighed_pay all) (sum_of weighed_pay those) first
      (no_more_then (sum_of weighed_pay all) (sum_of
      (λ west. if is_live question [] west then weighed_pay west else whole 0) all) (sum_of weighed_pay those)
      (sum_no_more weighed_pay (λ west. if is_live question [] west then weighed_pay west else whole 0) all
      (each_of (λ west. IsNoMore (weighed_pay west)
      (if is_live question [] west then weighed_pay west else whole 0)) all kept_live))
      (kept_sum (is_live question []) weighed_pay all some)) in
      let third = no_more_then scaled (sum_of weighed_pay those) (sum_of
      (term question declarer defence valid proper []) those) second
      (sum_no_more weighed_pay (term question declarer defence valid proper []) those
      (each_in (λ west. IsNoMore (weighed_pay west) (term question declarer defence valid proper [] west)) those
      (λ west found. pay_met west (kept_parts (is_live question []) all west found).0))) in
      let held = no_more_then scaled (all_at question declarer defence valid proper []) (whole
      (most_at question declarer defence valid proper [])) third
      (defences_spread question declarer defence valid proper []) in
      rw (total_weight-gain question pays) (omega (arith, mul-le-mul_left (total question) held.least))

most_not_negative : (question : Question) (defence : Defence) → IsProperDefence question defence
    → pos 0 ≤ℤ most question defence
unfolding most
most_not_negative question defence proper = most_positive question defence proper []

pub defences_hold : DefencesHold
defences_hold question declarer defence valid proper = record {
  bound = gain_most question declarer defence valid proper;
  not_negative = most_not_negative question defence proper;
  some = gain-den question declarer (defence_way question defence) valid.has_weight;
  weighs = mul-pos (den_some defence.den (proper_defence question defence proper).0) valid.has_weight;
}
