use Rattle.suit_layouts.proofs.WhatHasWeightIsListed.{class_layouts_exact}
use Rattle.suit_layouts.proofs.laws.class_layouts_exact.Goals as goal

pub returns : goal.returns
returns c = class_layouts_exact
