use Rattle.suit_question.specs.Keywords.{keyword_named}
use Rattle.suit_question.proofs.keywords.keyword_in.Goals as goal

pub returns : goal.returns
unfolding keyword_named
returns c = c.found_in.ensures
