use Rattle.std.proofs.Common.{◌≡◌, ◌++◌, map, take}
use Rattle.suit_program.specs.Programs.{columns_at}
use Rattle.suit_program.specs.Readings.{is_passed}
use Rattle.suit_program.specs.Walks.{IsWalkAt}
use Rattle.suit_program.proofs.lemmas.Walks.WhatAWalkGathers.{gathered}
use Rattle.suit_program.proofs.walks.columns.+add_below.Given as goal

abbrev pub decreases-add_below : goal.decreases-add_below
decreases-add_below l = l.more

abbrev pub invariant-loop-child : goal.invariant-loop-child
invariant-loop-child l =
    (at : IsWalkAt l.reach l.more) → l.passed.items
    ≡ l.fn.passed.items ++ gathered (λ history. map is_passed (columns_at at.question at.support history))
    at.question at.support at.history (take l.child-index l.child-items)
