use Rattle.std.proofs.Common.{◌<◌, ◌∙◌, ap, ℕ, subst, sym}
use Rattle.std.specs.Prelude.{◌==◌, count_by}
use Rattle.suit_classes.specs.Classes.{Hands, class_size}
use Rattle.suit_classes.proofs.ClassNumbers.{numbers_counted, class_size-some}
use Rattle.suit_classes.proofs.classes.Classes.size.Goals as goal

pub returns-clause-value : goal.returns-clause-value
returns-clause-value c =
    c.how_often.ensures
    ∙ ap (count_by (λ number. number == c.args.class)) c.self.invariant
    ∙ numbers_counted _ c.args.class
    ∙ ap (λ (hands : Hands). class_size hands c.args.class) c.self.view_is

pub returns-clause-some : goal.returns-clause-some
returns-clause-some c =
    subst (λ (n : ℕ). 0 < n) (sym (returns-clause-value c)) (class_size-some c.args.self.now c.args.class c.requires)
