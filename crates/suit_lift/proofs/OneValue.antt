-- A question has one value (one_value), and no two that are certified (one_certified_value).
use Rattle.std.proofs.Common.{◌≡◌, ℕ, ◌*◌, ◌≤◌, ◌<◌, ap, arith}
use Rattle.std.specs.Prelude.{pos, ◌<ℤ◌}
use Rattle.std.proofs.Math.Nat.{le_of_mul-le-mul_left, mul-le-mul_left}
use Rattle.std.proofs.lemmas.Int.{ints}
use Rattle.suit_num.proofs.FractionLaws.{same_reduced}
use Rattle.suit_game.specs.Fractions.{Fraction}
use Rattle.suit_game.specs.Gains.{gain}
use Rattle.suit_game.specs.Layouts.{total}
use Rattle.suit_game.specs.Strategies.{counted}
use Rattle.suit_game.proofs.PayDenominators.{gain-den}
use Rattle.suit_plans.specs.BestReplies.{least, most}
use Rattle.suit_lift.specs.Certified.{MetIsCertified, OneCertifiedValue, OneValue}
use Rattle.suit_lift.specs.Lifts.{defence_way, plan_way}
use Rattle.suit_lift.proofs.DefenceGains.{defences_hold}
use Rattle.suit_lift.proofs.FractionSums.{chained}
use Rattle.suit_lift.proofs.PlanGains.{plans_earn}

both_ways : (m n : ℕ) → m ≤ n → n ≤ m → m ≡ n
both_ways m n up down = omega (arith, up, down)

pub one_value : OneValue
one_value question plan other_plan defence other_defence num den other_num other_den here there =
    let forth : Fraction = gain question plan other_defence in
    let back : Fraction = gain question other_plan defence in
    both_ways (num * other_den) (other_num * den)
    (chained num den forth.num forth.den other_num other_den (here.dens plan other_defence)
    (here.earns other_defence) (there.holds plan))
    (chained other_num other_den back.num back.den num den (here.dens other_plan defence) (there.earns defence)
    (here.holds other_plan))

positive : (n : ℕ) → 0 < n → pos 0 <ℤ pos n
positive n some = omega (arith, ints, some)

pub one_certified_value : OneCertifiedValue
one_certified_value question num den other_num other_den plan other_plan defence other_defence here there =
    let same = one_value question _ _ _ _ num den other_num other_den here.settles there.settles in
    let parts = same_reduced (pos num) (pos den) (pos other_num) (pos other_den)
    (positive den here.settles.positive) (positive other_den there.settles.positive)
    here.reduced there.reduced (omega (arith, ints, same)) in
    (number parts.0, number parts.1)
  where
    number : {m n : ℕ} → pos m ≡ pos n → m ≡ n
    number same = ap counted same

met_least : (gn gd num den value whole : ℕ) → 0 < whole → value * den ≡ num * whole → value * gd ≤ gn * whole → num
    * gd ≤ gn * den
met_least gn gd num den value whole some met bound =
    let both : whole * (num * gd) ≤ whole * (gn * den) = omega (
      arith,
      ap (λ (n : ℕ). n
          * gd) met,
      mul-le-mul_left den bound,
    ) in
    le_of_mul-le-mul_left both some

met_most : (gn gd num den value whole : ℕ) → 0 < whole → value * den ≡ num * whole → gn * whole ≤ value * gd → gn
    * den ≤ num * gd
met_most gn gd num den value whole some met bound =
    let both : whole * (gn * den) ≤ whole * (num * gd) = omega (
      arith,
      ap (λ (n : ℕ). n
          * gd) met,
      mul-le-mul_left den bound,
    ) in
    le_of_mul-le-mul_left both some

pub met_is_certified : MetIsCertified
met_is_certified question num den plan defence valid plan_proper defence_proper reduced some least_met most_met =
    record {
      reduced = reduced;
      plan_proper = plan_proper;
      defence_proper = defence_proper;
      settles = record {
        earns = λ other.
            let low = plans_earn question plan other valid plan_proper in
            let gained : Fraction = gain question (plan_way question plan) other in
            met_least gained.num gained.den num den (counted (least question plan)) (counted plan.den
            * total question) low.weighs least_met low.bound;
        holds = λ other.
            let high = defences_hold question other defence valid defence_proper in
            let gained : Fraction = gain question other (defence_way question defence) in
            met_most gained.num gained.den num den (counted (most question defence)) (counted defence.den
            * total question) high.weighs most_met high.bound;
        positive = some;
        weighs = valid.has_weight;
        dens = λ way other. gain-den question way other valid.has_weight;
      };
    }
