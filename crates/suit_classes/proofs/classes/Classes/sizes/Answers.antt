use Rattle.std.proofs.Common.{◌≡◌, ◌∙◌, ◌<◌, ◌≤◌, List, ℕ, ap, sym, subst, length, arith}
use Rattle.std.specs.Prelude.{All, map, sum}
use Rattle.std.proofs.lemmas.List.{take_all}
use Rattle.suit_classes.specs.Classes.{class_count, class_size, defence_classes}
use Rattle.suit_classes.proofs.DefenceSizes.{defence_classes-below, defence_sizes-some, sum-defence_sizes}
use Rattle.suit_classes.proofs.DefenceSizes.{length-defence_sizes}
use Rattle.suit_classes.proofs.classes.Classes.sizes.Goals as goal

pub size-requires : goal.size-requires
size-requires c =
    let items : c.as_slice-class-items.result.now ≡ defence_classes c.args.self.now =
    c.as_slice-class-items.ensures.value ∙ c.defence.ensures.value in
    subst (λ (l : List ℕ). All (λ class. class < class_count c.args.self.now) l) (sym items)
    (defence_classes-below c.args.self.now) c.loop-class.class-index 0 (omega arith)

pub returns-clause-value : goal.returns-clause-value
returns-clause-value c =
    let items : c.as_slice-class-items.result.now ≡ defence_classes c.args.self.now =
    c.as_slice-class-items.ensures.value ∙ c.defence.ensures.value in
    c.loop-class.invariant
    ∙ ap (map (class_size c.args.self.now)) (take_all c.loop-class.class-index _ (omega arith) ∙ items)

pub returns-clause-some : goal.returns-clause-some
returns-clause-some c =
    subst (All (λ size. 1 ≤ size)) (sym (returns-clause-value c)) (defence_sizes-some c.args.self.now)

pub returns-clause-sum : goal.returns-clause-sum
returns-clause-sum c = ap sum (returns-clause-value c) ∙ sum-defence_sizes c.args.self.now

pub returns-clause-few : goal.returns-clause-few
returns-clause-few c = omega (arith, ap length (returns-clause-value c), length-defence_sizes c.args.self.now)
