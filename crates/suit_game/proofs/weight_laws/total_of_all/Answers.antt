use Rattle.suit_game.proofs.WhatAllLayoutsWeigh.{total_of_all}
use Rattle.suit_game.proofs.weight_laws.total_of_all.Goals as goal

pub returns : goal.returns
returns c = total_of_all
