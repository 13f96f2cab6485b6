-- What the rows come to at their prices, told by names (`priced_by_names`).
use Rattle.std.proofs.Common.{ℕ, zero, suc, ◌<◌, get_or}
use Rattle.std.proofs.Common.{◌≡◌, Bool, true, List, [], ◌∷◌, length, map, refl, sym, ap, ◌∙◌, subst}
use Rattle.std.proofs.Common.{arith}
use Rattle.std.specs.Prelude.{Contains, ◌&&◌, bytes_eq, if◌then◌else◌, ℤ, pos, ◌+ℤ◌, ◌*ℤ◌, ◌≤ℤ◌}
use Rattle.std.specs.List.{AllByRecursion}
use Rattle.std.proofs.lemmas.Bool.{and_from, and_parts, false≢true, false_from_ne_true}
use Rattle.std.proofs.lemmas.Int.{ints}
use Rattle.std.proofs.lemmas.List.Elements.{Contains-get_or}
use Rattle.std.proofs.lemmas.Slice.Eq.{bytes_eq-Decides}
use Rattle.suit_lists.proofs.Elements.{Contains-first, Contains-later, each_at}
use Rattle.suit_lists.proofs.Maps.{map_same}
use Rattle.suit_lists.proofs.Once.{IsOnce}
use Rattle.suit_cards.specs.Cards.{ClassLayout}
use Rattle.suit_num.proofs.IntegerLaws.{mul-add_left, mul_left_comm}
use Rattle.suit_classes.specs.declared.class_moves.ClassMove.{ClassMove}
use Rattle.suit_classes.specs.ClassMoves.{same_class_move}
use Rattle.suit_classes.proofs.SameMoves.{same_move-itself, same_move_is}
use Rattle.suit_plans.specs.Orders.{same_class_history}
use Rattle.suit_plans.specs.Properness.{sum_of}
use Rattle.suit_plans.proofs.HistoryOrder.{same_class_history-itself, same_class_history_is}
use Rattle.suit_plans.proofs.SharesAddUpToTheMass.{count_case}
use Rattle.suit_linear.specs.Points.{dot, number_at}
use Rattle.suit_program.specs.Programs.{Answered, Limit, Shared}
use Rattle.suit_program.specs.Readings.{is_answer, price_of}

-- what numbers of rows come to at prices, row by row
unfoldable pub priced : List Limit → List ℤ → (Limit → ℤ) → ℤ
priced [] prices f = pos 0
priced (limit ∷ limits) [] f = pos 0
priced (limit ∷ limits) (price ∷ prices) f = price *ℤ f limit +ℤ priced limits prices f

-- as the prices of a program tell it
pub dot_priced : (limits : List Limit) (prices : List ℤ) (f : Limit → ℤ) → length prices ≡ length limits
    → dot prices (number_at (map f limits)) ≡ priced limits prices f
unfolding dot priced
dot_priced [] [] f long = refl
dot_priced [] (price ∷ prices) f long = absurd (omega (arith, long))
dot_priced (limit ∷ limits) [] f long = absurd (omega (arith, long))
dot_priced (limit ∷ limits) (price ∷ prices) f long =
    ap (λ (z : ℤ). price *ℤ f limit +ℤ z) (dot_priced limits prices f (omega (arith, long)))

-- it is linear in the numbers
pub priced_linear : (k : ℤ) (limits : List Limit) (prices : List ℤ) (f g h : Limit → ℤ)
    → ((limit : Limit) → h limit ≡ k *ℤ f limit +ℤ g limit)
    → priced limits prices h ≡ k *ℤ priced limits prices f +ℤ priced limits prices g
unfolding priced
priced_linear k [] prices f g h is = omega (arith, ints)
priced_linear k (limit ∷ limits) [] f g h is = omega (arith, ints)
priced_linear k (limit ∷ limits) (price ∷ prices) f g h is =
    both (price *ℤ h limit) (price *ℤ f limit) (price *ℤ g limit) (priced limits prices h) (priced limits prices f)
    (priced limits prices g)
    (ap (λ (z : ℤ). price *ℤ z) (is limit) ∙ mul-add_left price (k *ℤ f limit) (g limit)
    ∙ ap (λ (z : ℤ). z +ℤ price *ℤ g limit) (mul_left_comm price k (f limit)))
    (priced_linear k limits prices f g h is)
  where
    both : (z x y w u v : ℤ) → z ≡ k *ℤ x +ℤ y → w ≡ k *ℤ u +ℤ v → z +ℤ w ≡ k *ℤ (x +ℤ u) +ℤ (y +ℤ v)
    both z x y w u v one other = let parts = mul-add_left k x u in omega (arith, ints, one, other, parts)

-- ---- by names

-- the price of a row by its name; those of declarer's are not asked for
abbrev pub price_in : List Limit → List ℤ → Limit → ℤ
price_in limits prices (Shared history) = pos 0
price_in limits prices (Answered west history move) = price_of limits prices west history move

answer_itself : (west : ClassLayout) (history : List ClassMove) (move : ClassMove)
    → is_answer west history move (Answered west history move) ≡ true
unfolding is_answer
answer_itself west history move =
    and_from (bytes_eq west west && same_class_history history history) (same_class_move move move)
    (and_from (bytes_eq west west) (same_class_history history history) ((bytes_eq-Decides west west).1 refl)
    (same_class_history-itself history)) (same_move-itself move)

answer_is : (west : ClassLayout) (history : List ClassMove) (move : ClassMove) (limit : Limit)
    → is_answer west history move limit ≡ true → limit ≡ Answered west history move
unfolding is_answer
answer_is west history move (Shared other) same = absurd (false≢true same)
answer_is west history move (Answered counts other next) same =
    let parts = and_parts (bytes_eq west counts && same_class_history history other) (same_class_move move next) same in
    let names = and_parts (bytes_eq west counts) (same_class_history history other) parts.0 in
    ap (λ (w : ClassLayout). Answered w other next) (sym ((bytes_eq-Decides west counts).0 names.0))
    ∙ ap (λ (h : List ClassMove). Answered west h next) (sym (same_class_history_is history other names.1))
    ∙ ap (Answered west history) (sym (same_move_is move next parts.1))

-- a row that comes later has its own price
later_price : (first : Limit) (price : ℤ) (limits : List Limit) (prices : List ℤ) (limit : Limit)
    → (first ≡ limit → ⊥) → price_in (first ∷ limits) (price ∷ prices) limit ≡ price_in limits prices limit
unfolding price_of
later_price first price limits prices (Shared history) apart = refl
later_price first price limits prices (Answered west history move) apart =
    ap (λ (b : Bool). if b then price else price_of limits prices west history move)
    (false_from_ne_true (is_answer west history move first) (λ same. apart (answer_is west history move first same)))

first_price : (limit : Limit) (price : ℤ) (limits : List Limit) (prices : List ℤ) (f : Limit → ℤ)
    → ((history : List ClassMove) → limit ≡ Shared history → f limit ≡ pos 0)
    → price *ℤ f limit ≡ price_in (limit ∷ limits) (price ∷ prices) limit *ℤ f limit
unfolding price_of
first_price (Shared history) price limits prices f none =
    let zero = none history refl in
    ap (λ (z : ℤ). price *ℤ z) zero ∙ nothing price ∙ sym (ap (λ (z : ℤ). pos 0 *ℤ z) zero)
  where
    nothing : (x : ℤ) → x *ℤ pos 0 ≡ pos 0 *ℤ pos 0
    nothing x = omega (arith, ints)
first_price (Answered west history move) price limits prices f none =
    ap (λ (b : Bool). (if b then price else price_of limits prices west history move) *ℤ f (Answered west history move))
    (sym (answer_itself west history move))

-- where no row comes twice, and those of declarer's come to nothing
pub priced_by_names : (limits : List Limit) (prices : List ℤ) (f : Limit → ℤ) → IsOnce limits
    → length prices ≡ length limits
    → ((history : List ClassMove) → Contains limits (Shared history) → f (Shared history) ≡ pos 0)
    → priced limits prices f ≡ sum_of (map (λ limit. price_in limits prices limit *ℤ f limit) limits)
unfolding priced sum_of IsOnce
priced_by_names [] prices f once long none = refl
priced_by_names (limit ∷ limits) [] f once long none = absurd (omega (arith, long))
priced_by_names (limit ∷ limits) (price ∷ prices) f once long none =
    ap (λ (z : ℤ). z +ℤ priced limits prices f)
    (first_price limit price limits prices f (λ history is. ap f is
    ∙ none history (subst (Contains (limit ∷ limits)) is (Contains-first limit limits))))
    ∙ ap (λ (z : ℤ). price_in (limit ∷ limits) (price ∷ prices) limit *ℤ f limit +ℤ z)
    (priced_by_names limits prices f once.1 (omega (arith, long))
    (λ history found. none history (Contains-later limit limits (Shared history) found))
    ∙ ap sum_of (map_same (λ other. price_in limits prices other *ℤ f other)
    (λ other. price_in (limit ∷ limits) (price ∷ prices) other *ℤ f other) limits
    (λ other found. ap (λ (z : ℤ). z *ℤ f other) (sym (later_price limit price limits prices other
    (each_at (λ next. limit ≡ next → ⊥) limits other once.0 found))))))

-- no price by name is negative, where none is
pub price_low : (limits : List Limit) (prices : List ℤ) (west : ClassLayout) (history : List ClassMove)
    (move : ClassMove)
    → AllByRecursion (λ price. pos 0 ≤ℤ price) prices → pos 0 ≤ℤ price_of limits prices west history move
unfolding price_of
price_low [] prices west history move low = omega (arith, ints)
price_low (limit ∷ limits) [] west history move low = omega (arith, ints)
price_low (limit ∷ limits) (price ∷ prices) west history move low =
    count_case (is_answer west history move limit) price (price_of limits prices west history move) low.0
    (price_low limits prices west history move low.1)

-- the price by the name of a row is the one in its place
pub price_at : (limits : List Limit) (prices : List ℤ) (index : ℕ) (limit : Limit) (west : ClassLayout)
    (history : List ClassMove) (move : ClassMove) → IsOnce limits → length prices ≡ length limits
    → index < length limits → get_or limits index limit ≡ Answered west history move
    → price_of limits prices west history move ≡ number_at prices index
unfolding price_of IsOnce
price_at [] prices index limit west history move once long below is = absurd (omega (arith, below))
price_at (first ∷ limits) [] index limit west history move once long below is = absurd (omega (arith, long))
price_at (first ∷ limits) (price ∷ prices) zero limit west history move once long below is =
    ap (λ (b : Bool). if b then price else price_of limits prices west history move)
    (ap (is_answer west history move) is ∙ answer_itself west history move)
price_at (first ∷ limits) (price ∷ prices) (suc index) limit west history move once long below is =
    ap (λ (b : Bool). if b then price else price_of limits prices west history move)
    (false_from_ne_true (is_answer west history move first)
    (λ same. each_at (λ later. first ≡ later → ⊥) limits (get_or limits index limit) once.0
    (Contains-get_or limits index limit (omega (arith, below))) (answer_is west history move first same ∙ sym is)))
    ∙ price_at limits prices index limit west history move once.1 (omega (arith, long)) (omega (arith, below)) is
