use Rattle.suit_answer_tests.proofs.lifts.Play.legal_moves.Goals as goal

pub returns-in-Declarer : goal.returns-in-Declarer
returns-in-Declarer c =
    c.follows.ensures.legal c.args.self.now.question c.args.self.now.west c.args.self.now.history.items
    c.in-Declarer.seat c.requires.at c.in-Declarer.ensures.trick.0
    (c.hand.ensures c.args.self.now.question c.args.self.now.west c.args.self.now.history.items c.requires.at)
