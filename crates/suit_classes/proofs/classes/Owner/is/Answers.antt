use Rattle.std.proofs.Common.{◌≡◌, ◌∙◌, refl}
use denote.Enum.Bare.{sameb}
use Rattle.suit_classes.specs.contracts.classes.Owner.{the_type}
use Rattle.suit_classes.specs.declared.classes.Owner.{Owner}
use Rattle.suit_classes.specs.declared.classes.Owner.TheVariants.{N, S, Defence}
use Rattle.suit_classes.specs.Classes.{same_owner}
use Rattle.suit_classes.proofs.classes.Owner.is.Goals as goal

compared : (here there : Owner) → sameb the_type here there ≡ same_owner here there
compared N N = refl
compared N S = refl
compared N Defence = refl
compared S N = refl
compared S S = refl
compared S Defence = refl
compared Defence N = refl
compared Defence S = refl
compared Defence Defence = refl

pub returns : goal.returns
returns c = c.eq.ensures ∙ compared c.args.self c.args.other
