-- A defence names the layouts of a class layout by its masses (naming_law).
use Rattle.std.proofs.Common.{◌≡◌, ℕ, suc, ◌+◌, ◌*◌, ◌<◌, Bool, true, false, not, List, [], ◌∷◌, ◌++◌, length, map}
use Rattle.std.proofs.Common.{refl, sym, ap, ◌∙◌, subst, arith}
use Rattle.std.specs.Prelude.{Contains, bytes_eq, ◌&&◌, if◌then◌else◌}
use Rattle.std.specs.List.{AllByRecursion, filter, sum_by}
use Rattle.std.proofs.Math.Nat.{eq_of_mul-eq-mul_right, mul-pos}
use Rattle.std.proofs.lemmas.Bool.{and_parts}
use Rattle.std.proofs.lemmas.List.{append-nil, append_assoc}
use Rattle.std.proofs.lemmas.Slice.Eq.{bytes_eq-Decides}
use Rattle.suit_lists.proofs.Elements.{each_in}
use Rattle.suit_lists.proofs.Filters.{filter_same, kept_parts}
use Rattle.suit_lists.proofs.Maps.{each_map}
use Rattle.suit_cards.specs.Cards.{Cards, ClassLayout}
use Rattle.suit_game.specs.declared.question.Question.{Question}
use Rattle.suit_game.specs.declared.moves.Move.{Move}
use Rattle.suit_game.specs.Fractions.{Fraction, weighted_sum}
use Rattle.suit_game.specs.Gains.{is_declarer_turn}
use Rattle.suit_game.specs.Histories.{History}
use Rattle.suit_game.specs.Layouts.{layouts, weight}
use Rattle.suit_game.specs.PlaceViews.{IsPlay}
use Rattle.suit_game.specs.Positions.{LegalFrom, after, legal, start_place}
use Rattle.suit_game.specs.Strategies.{counted}
use Rattle.suit_game.proofs.LegalPlays.{after_move}
use Rattle.suit_game.proofs.PlaceSeenAfterAMove.{play_more, play_none}
use Rattle.suit_game.proofs.MeansLieBetween.{weighted_sum-den}
use Rattle.suit_classes.specs.Classes.{hands_of}
use Rattle.suit_classes.specs.ClassGame.{counts_of}
use Rattle.suit_classes.specs.ClassMoves.{merge, merged}
use Rattle.suit_plans.specs.declared.defence.Defence.{Defence}
use Rattle.suit_plans.specs.Masses.{defence_mass, defenders}
use Rattle.suit_plans.specs.Properness.{IsProperDefence}
use Rattle.suit_plans.proofs.MassSteps.{mass_kept}
use Rattle.suit_plans.proofs.ProperDefences.{proper_defence}
use Rattle.suit_classes.proofs.AllowedMoveByMove.{merged-push}
use Rattle.suit_lift.specs.Lifts.{defence_way}
use Rattle.suit_lift.specs.Naming.{LayoutShare, LayoutsNamed, NamingLaw, StaysUndecided, held, is_legal, layouts_naming}
use Rattle.suit_lift.specs.Naming.{product_from, shares_made, unplayed, unplayed_product}
use Rattle.suit_lift.proofs.HowManyAreAlike.{alike_layouts}
use Rattle.suit_lift.proofs.CardsOfADefender.{unplayed_fits}
use Rattle.suit_lift.proofs.DefenceGains.{mass_starts}
use Rattle.suit_lift.proofs.AfterADefendersCard.{count_step, weight_step, weights_some}
use Rattle.suit_lift.proofs.GoneAndLeft.{gone_of}
use Rattle.suit_lift.proofs.LegalIsTold.{legal_alike, legal_from_tells}
use Rattle.suit_lift.proofs.LayoutsStillLegal.{alike_kept, alike_some}
use Rattle.suit_lift.proofs.PlanGains.{den_some}
use Rattle.suit_lift.proofs.PlayGoesOn.{IsOn, is_on}

-- the layouts that a history names are those that are alike on the cards gone
naming_alike : (question : Question) (west : Cards) (history : History) → IsPlay question west history
    → layouts_naming question west history ≡ alike_layouts question west (after question history).gone
unfolding layouts_naming alike_layouts
naming_alike question west history play =
    filter_same (λ other. bytes_eq (counts_of (hands_of question) other) (counts_of (hands_of question) west)
    && is_legal question history other)
    (λ other. bytes_eq (counts_of (hands_of question) other) (counts_of (hands_of question) west)
    && bytes_eq (gone_of (after question history).gone other) (gone_of (after question history).gone west))
    (layouts question)
    (λ other found. either (bytes_eq (counts_of (hands_of question) other) (counts_of (hands_of question) west))
    (is_legal question history other)
    (bytes_eq (gone_of (after question history).gone other) (gone_of (after question history).gone west))
    (λ told. legal_alike question west other history play found ((bytes_eq-Decides (counts_of
    (hands_of question) other) (counts_of (hands_of question) west)).0 told)))
  where
    either : (a b c : Bool) → (a ≡ true → b ≡ c) → (a && b) ≡ (a && c)
    either true b c same = same refl
    either false b c same = refl

-- one step after another, where the number between them is not 0
chained_steps : (a b c d e f x : ℕ) → 0 < x → a * x ≡ b * c → c * d ≡ e * (f * x) → a * d ≡ b * (e * f)
chained_steps a b c d e f x some first later =
    eq_of_mul-eq-mul_right x some (a * d) (b * (e * f))
    (let one : a * x * d ≡ b * c * d = ap (λ (n : ℕ). n * d) first in
    let two : b * (c * d) ≡ b * (e * (f * x)) = ap (λ (n : ℕ). b * n) later in
    omega (arith, one, two))

module _ (question : Question) (west : Cards) where
  abbrev alike_at : History → ℕ
  alike_at history = length (alike_layouts question west (after question history).gone)

  abbrev unplayed_at : History → Move → ℕ
  unplayed_at before move = unplayed question (after question before).gone move

  count_one : (history : History) (move : Move) → IsPlay question west history
      → Contains (legal question west history) move → (own : Bool)
      → is_declarer_turn (after question history).trick ≡ own
      → (if own then 1 else unplayed_at history move) * alike_at (history ++ move ∷ [])
      ≡ (if own then 1 else held question west history move) * alike_at history
  count_one history move play found true own =
      ap (λ (n : ℕ). 1 * n) (ap length (alike_kept question west history move play own found))
  count_one history move play found false waits = count_step question west history move play waits found

  met_counts : (u k us ks a0 a1 a2 : ℕ) → u * a1 ≡ k * a0 → us * a2 ≡ ks * a1 → u * us * a2 ≡ k * ks * a0
  met_counts u k us ks a0 a1 a2 first later =
      let one : u * (us * a2) ≡ u * (ks * a1) = ap (λ (n : ℕ). u * n) later in
      let two : ks * (u * a1) ≡ ks * (k * a0) = ap (λ (n : ℕ). ks * n) first in
      omega (arith, one, two)

  counted_along : (history moves : List Move) → IsPlay question west history
      → LegalFrom question west (after question history) moves
      → product_from question unplayed_at history moves * alike_at (history ++ moves)
      ≡ product_from question (held question west) history moves * alike_at history
  unfolding product_from LegalFrom
  counted_along history [] play legal_moves = ap (λ (h : List Move). 1 * alike_at h) (append-nil history)
  counted_along history (move ∷ moves) play legal_moves =
      let next : History = history ++ move ∷ [] in
      let rest = counted_along next moves (play_more question west history move play legal_moves.0)
      (subst (λ p. LegalFrom question west p moves) (sym (after_move question history move)) legal_moves.1) in
      met_counts (if is_declarer_turn (after question history).trick then 1 else unplayed_at history move)
      (if is_declarer_turn (after question history).trick then 1 else held question west history move)
      (product_from question unplayed_at next moves) (product_from question (held question west) next moves)
      (alike_at history) (alike_at next) (alike_at (history ++ move ∷ moves))
      (count_one history move play legal_moves.0 (is_declarer_turn (after question history).trick) refl)
      (subst (λ (h : List Move). product_from question unplayed_at next moves * alike_at h
      ≡ product_from question (held question west) next moves
      * alike_at next) (append_assoc history (move ∷ []) moves) rest)

pub layouts_named : LayoutsNamed
layouts_named question west history play =
    ap (λ (l : List Cards). unplayed_product question history * length l) (naming_alike question west history play)
    ∙ counted_along question west [] history (play_none question west play.valid play.layout) play.legal
    ∙ ap (λ (l : List Cards). product_from question (held question west) [] history
    * length l) (sym (naming_alike question west [] (play_none question west play.valid play.layout)))

module _ (question : Question) (defence : Defence) (west : Cards) (proper : IsProperDefence question defence) where
  abbrev mass_after : History → ℕ
  mass_after history =
      counted (defence_mass question defence (counts_of (hands_of question) west) (merged (hands_of question) history))

  abbrev weights_at : History → Move → ℕ
  weights_at before move = sum_by (defence_way question defence west before) (legal question west before)

  share_one : (history : History) (move : Move) → IsPlay question west history → IsOn question west history
      → Contains (legal question west history) move
      → (own : Bool) → is_declarer_turn (after question history).trick ≡ own
      → (0 < (if own then 1 else weights_at history move))
      × (mass_after history * (if own then 1 else defence_way question defence west history move)
      * (if own then 1 else unplayed_at question west history move) * alike_at question west (history ++ move ∷ [])
      ≡ mass_after (history ++ move ∷ []) * (if own then 1 else weights_at history move)
      * alike_at question west history)
  unfolding defence_mass
  share_one history move play on found true own =
      let side = defenders question defence.den defence.rows (counts_of (hands_of question) west) in
      let kept : mass_after (history ++ move ∷ []) ≡ mass_after history =
      ap (λ line. counted (defence_mass question defence (counts_of (hands_of question) west) line)) (merged-push
      (hands_of question) history move)
      ∙ ap counted (mass_kept question side (merged (hands_of question) history) (merge (hands_of question) move)
      (on.defences ∙ ap not own)) in
      let alike : alike_at question west (history ++ move ∷ [])
      ≡ alike_at question west history = ap length (alike_kept question west history move play own found) in
      (omega arith, rw (kept, alike) (omega arith))
  share_one history move play on found false waits =
      let met = weight_step question defence west history proper play on waits move found in
      (weights_some question defence west history proper play on waits, omega (arith, met))

  met_shares : (m0 m1 m2 w t u ws ts us a0 a1 a2 : ℕ) → 0 < a1 → m0 * w * u * a1 ≡ m1 * t * a0 → m1 * ws * us * a2
      ≡ m2 * ts * a1
      → m0 * (w * ws) * (u * us) * a2 ≡ m2 * (t * ts) * a0
  met_shares m0 m1 m2 w t u ws ts us a0 a1 a2 some first later =
      eq_of_mul-eq-mul_right a1 some (m0 * (w * ws) * (u * us) * a2) (m2 * (t * ts) * a0)
      (let one : m0 * w * u * a1 * (ws * us * a2) ≡ m1 * t * a0 * (ws * us * a2) = ap (λ (n : ℕ). n * (ws * us
      * a2)) first in
      let two : m1 * ws * us * a2 * (t * a0) ≡ m2 * ts * a1 * (t * a0) = ap (λ (n : ℕ). n * (t * a0)) later in
      omega (arith, one, two))

  shared_along : (history moves : List Move) → IsPlay question west history
      → LegalFrom question west (after question history) moves → StaysUndecided question history moves
      → (0 < product_from question weights_at history moves)
      × (mass_after history * product_from question (defence_way question defence west) history moves
      * product_from question (unplayed_at question west) history moves * alike_at question west (history ++ moves)
      ≡ mass_after (history ++ moves) * product_from question weights_at history moves * alike_at question west history)
  unfolding product_from LegalFrom StaysUndecided
  shared_along history [] play legal_moves stays = (
    omega arith,
    ap (λ (h : List Move). mass_after history * 1 * 1 * alike_at question west h) (append-nil history)
        ∙ omega arith ∙ ap (λ (h : List Move). mass_after h * 1
        * alike_at question west history) (sym (append-nil history)),
  )
  shared_along history (move ∷ moves) play legal_moves stays =
      let next : History = history ++ move ∷ [] in
      let later : IsPlay question west next = play_more question west history move play legal_moves.0 in
      let rest = shared_along next moves later (subst (λ p. LegalFrom question west p moves) (sym
      (after_move question history move)) legal_moves.1) stays.1 in
      let one = share_one history move play (is_on question west history play stays.0) legal_moves.0
      (is_declarer_turn (after question history).trick) refl in
      let same : (history ++ move ∷ []) ++ moves ≡ history ++ move ∷ moves = append_assoc history (move ∷ []) moves in (
        mul-pos one.0 rest.0,
        met_shares (mass_after history) (mass_after next) (mass_after (history ++ move ∷ moves))
            (if is_declarer_turn
            (after question history).trick then 1 else defence_way question defence west history move)
            (if is_declarer_turn (after question history).trick then 1 else weights_at history move)
            (if is_declarer_turn (after question history).trick then 1 else unplayed_at question west history move)
            (product_from question (defence_way question defence west) next moves)
            (product_from question weights_at next moves) (product_from question (unplayed_at question west) next moves)
            (alike_at question west history) (alike_at question west next) (alike_at question west
            (history ++ move ∷ moves))
            (alike_some question west (after question next).gone play.layout) one.1
            (subst (λ (h : List Move). mass_after next
            * product_from question (defence_way question defence west) next moves
            * product_from question (unplayed_at question west) next moves * alike_at question west h
            ≡ mass_after h * product_from question weights_at next moves * alike_at question west next) same rest.1),
      )

start_cancelled : (a w d n u k m t : ℕ) → 0 < a → a * w * d * n * u * k ≡ m * t * a → w * n * (d * u * k) ≡ m * t
start_cancelled a w d n u k m t some met =
    eq_of_mul-eq-mul_right a some (w * n * (d * u * k)) (m * t) (omega (arith, met))

pub layout_share : LayoutShare
layout_share question defence west history proper play stays =
    let first : IsPlay question west [] = play_none question west play.valid play.layout in
    let along = shared_along question defence west proper [] history first play.legal stays in
    let mass : ℕ = counted (defence_mass question defence (counts_of (hands_of question) west) (merged
    (hands_of question) history)) in
    let shares : Fraction = shares_made question defence west history in
    let starts = mass_starts question west play.valid play.layout defence in
    let alike : ℕ = length (alike_layouts question west (after question history).gone) in (
      along.0,
      ap (λ (l : List Cards). weight question (length west) * shares.num * (counted defence.den
          * unplayed_product question history * length l)) (naming_alike question west history play)
          ∙ start_cancelled (length (alike_layouts question west [])) (weight question (length west))
          (counted defence.den) shares.num (unplayed_product question history) alike mass shares.den
          (alike_some question west [] play.layout)
          (subst (λ (n : ℕ). n * shares.num * unplayed_product question history * alike ≡ mass * shares.den
          * length (alike_layouts question west [])) starts along.1),
    )

exact_step : (w n d k c sum sd many : ℕ) → w * n * k ≡ c * d → sum * k ≡ many * c * sd → (w * n * sd + sum * d) * k
    ≡ suc many * c * (d * sd)
exact_step w n d k c sum sd many here rest =
    let one : w * n * k * sd ≡ c * d * sd = ap (λ (m : ℕ). m * sd) here in
    let two : sum * k * d ≡ many * c * sd * d = ap (λ (m : ℕ). m * d) rest in
    omega (arith, one, two)

-- equal weighted fractions add up to so many times one of them
weighted_exact : (weight_at : Cards → ℕ) (value : Cards → Fraction) (k c : ℕ) (xs : List Cards)
    → AllByRecursion (λ x. weight_at x * (value x).num * k ≡ c * (value x).den) xs
    → (weighted_sum (map (λ x. (weight_at x, value x)) xs)).num * k ≡ length xs * c
    * (weighted_sum (map (λ x. (weight_at x, value x)) xs)).den
unfolding weighted_sum
weighted_exact weight_at value k c [] each = omega arith
weighted_exact weight_at value k c (x ∷ xs) each =
    let items = map (λ y. (weight_at y, value y)) xs in
    exact_step (weight_at x) (value x).num (value x).den k c (weighted_sum items).num (weighted_sum items).den
    (length xs) each.0 (weighted_exact weight_at value k c xs each.1)

many_cancelled : (sum d u many mass sd : ℕ) → 0 < many → sum * (d * u * many) ≡ many * mass * sd → sum * (d * u)
    ≡ mass * sd
many_cancelled sum d u many mass sd some met =
    eq_of_mul-eq-mul_right many some (sum * (d * u)) (mass * sd) (omega (arith, met))

-- no unplayed number is 0
unplayed_some : (question : Question) (west : Cards) (history moves : List Move) → IsPlay question west history
    → LegalFrom question west (after question history) moves
    → 0 < product_from question (unplayed_at question west) history moves
unfolding product_from LegalFrom
unplayed_some question west history [] play legal_moves = omega arith
unplayed_some question west history (move ∷ moves) play legal_moves =
    mul-pos (here (is_declarer_turn (after question history).trick) refl)
    (unplayed_some question west (history ++ move ∷ []) moves (play_more question west history move play legal_moves.0)
    (subst (λ p. LegalFrom question west p moves) (sym (after_move question history move)) legal_moves.1))
  where
    here : (own : Bool) → is_declarer_turn (after question history).trick ≡ own
        → 0 < (if own then 1 else unplayed_at question west history move)
    here true own = omega arith
    here false waits = (unplayed_fits question west history move play waits legal_moves.0).0

module _ (question : Question) (defence : Defence) (west : Cards) (history : History)
    (proper : IsProperDefence question defence) (play : IsPlay question west history)
    (stays : StaysUndecided question [] history) where
  named_play : (other : Cards) → Contains (layouts_naming question west history) other
      → IsPlay question other history × (counts_of (hands_of question) other ≡ counts_of (hands_of question) west)
  unfolding layouts_naming
  named_play other found =
      let from = kept_parts (λ it. bytes_eq (counts_of (hands_of question) it) (counts_of
      (hands_of question) west) && is_legal question history it) (layouts question) other found in
      let parts = and_parts (bytes_eq (counts_of (hands_of question) other) (counts_of (hands_of question) west))
      (is_legal question history other) from.1 in (
        record {
          valid =
              play.valid;
          layout = from.0;
          legal = legal_from_tells question other
              (start_place question) history parts.1;
        },
        (bytes_eq-Decides (counts_of (hands_of question) other) (counts_of (hands_of question) west)).0 parts.0,
      )

  same_naming : (other : Cards) → counts_of (hands_of question) other ≡ counts_of (hands_of question) west
      → layouts_naming question other history ≡ layouts_naming question west history
  unfolding layouts_naming
  same_naming other same =
      ap (λ (counts : ClassLayout). filter (λ it. bytes_eq (counts_of (hands_of question) it) counts
      && is_legal question history it) (layouts question)) same

  naming : (0 < (weighted_sum (map (λ other. (
    weight question
        (length other),
    shares_made question defence other history,
  )) (layouts_naming question west history))).den)
      × ((weighted_sum (map (λ other. (weight question (length other), shares_made question defence other history))
      (layouts_naming question west history))).num
      * (counted defence.den * unplayed_product question history)
      ≡ counted (defence_mass question defence (counts_of (hands_of question) west) (merged
      (hands_of question) history))
      * (weighted_sum (map (λ other. (weight question (length other), shares_made question defence other history))
      (layouts_naming question west history))).den)
  naming =
      let those : List Cards = layouts_naming question west history in
      let weight_at : Cards → ℕ = λ other. weight question (length other) in
      let value : Cards → Fraction = λ other. shares_made question defence other history in
      let mass : ℕ = counted (defence_mass question defence (counts_of (hands_of question) west) (merged
      (hands_of question) history)) in
      let k : ℕ = counted defence.den * unplayed_product question history * length those in
      let each : (other : Cards) → Contains those other → weight_at other * (value other).num * k ≡ mass
      * (value other).den = λ other found.
      let named = named_play other found in
      let share = (layout_share question defence other history proper named.0 stays).1 in
      ap (λ (l : List Cards). weight_at other * (value other).num * (counted defence.den
      * unplayed_product question history * length l)) (sym (same_naming other named.1))
      ∙ share ∙ ap (λ (counts : ClassLayout). counted (defence_mass question defence counts (merged
      (hands_of question) history)) * (value other).den) named.1 in
      let dens : AllByRecursion (λ item. 0 < item.1.den) (map (λ other. (weight_at other, value other)) those) =
      each_map (λ item. 0 < item.1.den) (λ other. (weight_at other, value other)) those
      (each_in (λ other. 0 < (value other).den) those (λ other found.
      (layout_share question defence other history proper (named_play other found).0 stays).0)) in
      let some : 0 < length those = rw (naming_alike question west history play) (alike_some question west
      (after question history).gone play.layout) in (
        weighted_sum-den (map (λ other. (weight_at other, value other)) those) dens,
        many_cancelled (weighted_sum (map (λ other. (weight_at other, value other)) those)).num
            (counted defence.den) (unplayed_product question history) (length those) mass
            (weighted_sum (map (λ other. (weight_at other, value other)) those)).den some
            (weighted_exact weight_at value k mass those (each_in (λ other. weight_at other * (value other).num * k
            ≡ mass * (value other).den) those each)),
      )

pub naming_law : NamingLaw
naming_law question defence west history proper play stays =
    let both = naming question defence west history proper play stays in (
      both.0,
      mul-pos (den_some defence.den (proper_defence question defence proper).0)
          (unplayed_some question west [] history (play_none question west play.valid play.layout) play.legal),
      both.1,
    )
