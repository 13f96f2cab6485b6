use Rattle.std.proofs.Common.{◌≡◌, ◌∙◌, ◌-◌, ap, not, arith}
use Rattle.suit_classes.specs.declared.classes.Owner.{Owner}
use Rattle.suit_classes.specs.Classes.{holder, same_owner}
use Rattle.suit_classes.proofs.classes.starts_class.Goals as goal

pub returns : goal.returns
returns c = λ hands above north south next.
    let upper : c.holder_of-above.result ≡ holder hands (14 - above) =
    c.holder_of-above.ensures hands north south ∙ ap (holder hands) (omega (arith, c.rank_at.ensures.value)) in
    let lower : c.holder_of-here.result ≡ holder hands (14 - c.args.index) =
    c.holder_of-here.ensures hands north south ∙ ap (holder hands) (omega (arith, c.rank_at-2.ensures.value)) in
    ap not c.is.ensures ∙ ap (λ (owner : Owner). not (same_owner owner c.holder_of-here.result)) upper
    ∙ ap (λ (owner : Owner). not (same_owner (holder hands (14 - above)) owner)) lower
