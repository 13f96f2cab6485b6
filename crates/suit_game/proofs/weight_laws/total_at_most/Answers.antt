use Rattle.suit_game.proofs.WhatAllLayoutsWeigh.{total_at_most}
use Rattle.suit_game.proofs.weight_laws.total_at_most.Goals as goal

pub returns : goal.returns
returns c = total_at_most
