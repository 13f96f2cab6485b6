use Rattle.suit_game.proofs.WhatAllLayoutsWeigh.{choices_filled}
use Rattle.suit_game.proofs.weight_laws.choices_filled.Goals as goal

pub returns : goal.returns
returns c = choices_filled
