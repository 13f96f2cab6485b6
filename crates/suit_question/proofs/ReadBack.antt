-- `read_back`: the text of a valid question is read back as it.
use Rattle.std.proofs.Common.{ℕ, ◌+◌, ◌≡◌, ◌==◌, nat_lt, not, Bool, true, false, List, [], ◌∷◌, length}
use Rattle.std.proofs.Common.{decimal, codes, Option, Some, None, Ok, Err, IsTrue, arith, refl, sym, ap, ◌∙◌, lit<}
use Rattle.std.specs.List.{list_any}
use Rattle.std.specs.Option.{option_map_or}
use Rattle.std.proofs.lemmas.Bool.Decides.{nat_tests}
use Rattle.suit_cards.specs.Holdings.{holds, text_of}
use Rattle.suit_game.specs.declared.limits.TheConstants.{MOST_NODES, MOST_PIVOTS}
use Rattle.suit_game.specs.declared.question.Question.{Question}
use Rattle.suit_game.specs.Layouts.{total}
use Rattle.suit_game.specs.Question.{missing}
use Rattle.suit_game.specs.Validity.{IsValid}
use Rattle.suit_question.specs.Columns.{no_columns, whole_fault, finished, told_at}
use Rattle.suit_question.specs.Reading.{line_put, first_saying, asked_by, question_read}
use Rattle.suit_question.specs.Keywords.{keyword_named}
use Rattle.suit_question.specs.Words.{is_skipped, is_end}
use Rattle.suit_question.specs.Writing.{lead_text, entries_text, goal_text, question_lines, text_written}
use Rattle.suit_question.specs.declared.columns.Columns.{Columns}
use Rattle.suit_question.specs.declared.faults.QuestionKind.{QuestionKind}
use Rattle.suit_text.proofs.LooseLinesBack.{ArePlainLines, lines_back}
use Rattle.suit_question.proofs.ValuesBack.{number_within_back, count_back, entries_back, goal_back, lead_back}
use Rattle.suit_question.proofs.ValuesBack.{holding_back, entries_plain}
use Rattle.suit_question.proofs.ValuesBack.{goal_plain, lead_plain, holding_plain}
use Rattle.suit_text.proofs.LooseNumbersBack.{number_plain}

-- a line that puts its values
put_step : (columns after : Columns) (number : ℕ) (line : List (List ℕ)) (lines : List (List (List ℕ)))
    → is_skipped line ≡ false → is_end line ≡ false
    → line_put columns line ≡ Ok after → asked_by columns number (line ∷ lines) ≡ asked_by after (number + 1) lines
unfolding asked_by
put_step columns after number line lines said more put = rw (said, more, put) refl

not_true : (b : Bool) → IsTrue (not b) → b ≡ false
not_true true h = sym h
not_true false h = refl

-- a valid question has no fault as a whole
no_fault : (question : Question) → IsValid question → whole_fault question ≡ None
no_fault question valid =
    let some : (length question.north + length question.south == 0) ≡ false =
    (let h = valid.some_card in grind (arith, nat_tests)) in
    let range : nat_lt question.west_most question.west_least ≡ false =
    (let h = valid.range in grind (arith, nat_tests)) in
    let places : nat_lt (question.vacant_w + question.vacant_e) (length (missing question)) ≡ false =
    (let h = valid.places in grind (arith, nat_tests)) in
    let weight : (total question == 0) ≡ false = (let h = valid.has_weight in grind (arith, nat_tests)) in
    rw (not_true (list_any (holds question.south) question.north) valid.apart, some, range, places, weight) refl

-- the end, with nothing after it
end_step : (columns : Columns) (number : ℕ)
    → asked_by columns number ((codes "end" ∷ []) ∷ []) ≡ told_at number (finished columns)
unfolding asked_by first_saying
end_step columns number = refl

module _ (question : Question) (valid : IsValid question) where
  -- the columns after each line of the text
  abbrev after_1 : Columns
  after_1 = record no_columns { north = Some question.north }

  abbrev after_2 : Columns
  after_2 = record after_1 { south = Some question.south }

  abbrev after_3 : Columns
  after_3 = record after_2 { start = Some question.start }

  abbrev after_4 : Columns
  after_4 = record after_3 { regain = Some question.regain }

  abbrev after_5 : Columns
  after_5 = record after_4 { entries_n = Some question.entries_n; entries_s = Some question.entries_s }

  abbrev after_6 : Columns
  after_6 = record after_5 { vacant_w = Some question.vacant_w; vacant_e = Some question.vacant_e }

  abbrev after_7 : Columns
  after_7 = record after_6 { west_least = Some question.west_least; west_most = Some question.west_most }

  abbrev after_8 : Columns
  after_8 = record after_7 { goal = Some question.goal }

  abbrev after_9 : Columns
  after_9 = record after_8 { nodes = Some question.nodes }

  abbrev after_10 : Columns
  after_10 = record after_9 { pivots = Some question.pivots }

  line_1 : line_put no_columns (codes "north" ∷ text_of question.north ∷ []) ≡ Ok after_1
  unfolding keyword_named
  line_1 = rw (holding_back question.north valid.north) refl

  line_2 : line_put after_1 (codes "south" ∷ text_of question.south ∷ []) ≡ Ok after_2
  unfolding keyword_named
  line_2 = rw (holding_back question.south valid.south) refl

  line_3 : line_put after_2 (codes "start" ∷ lead_text question.start ∷ []) ≡ Ok after_3
  unfolding keyword_named
  line_3 = rw (lead_back question.start) refl

  line_4 : line_put after_3 (codes "regain" ∷ lead_text question.regain ∷ []) ≡ Ok after_4
  unfolding keyword_named
  line_4 = rw (lead_back question.regain) refl

  line_5 : line_put after_4 (codes "entries" ∷ entries_text question.entries_n ∷ entries_text question.entries_s ∷ [])
      ≡ Ok after_5
  unfolding keyword_named
  line_5 = rw (entries_back question.entries_n valid.entries_n, entries_back question.entries_s valid.entries_s) refl

  line_6 : line_put after_5 (codes "vacant" ∷ decimal question.vacant_w ∷ decimal question.vacant_e ∷ []) ≡ Ok after_6
  unfolding keyword_named
  line_6 = rw (count_back question.vacant_w valid.vacant_w, count_back question.vacant_e valid.vacant_e) refl

  line_7 : line_put after_6 (codes "west" ∷ decimal question.west_least ∷ decimal question.west_most ∷ []) ≡ Ok after_7
  unfolding keyword_named
  line_7 =
      rw (
        count_back question.west_least (let low = valid.range in let high = valid.west_most in omega arith),
        count_back question.west_most valid.west_most,
      ) refl

  line_8 : line_put after_7 (codes "goal" ∷ goal_text question.goal ∷ []) ≡ Ok after_8
  unfolding keyword_named
  line_8 = rw (goal_back question.goal valid.goal) refl

  line_9 : line_put after_8 (codes "nodes" ∷ decimal question.nodes ∷ []) ≡ Ok after_9
  unfolding keyword_named
  line_9 =
      rw (number_within_back 1 MOST_NODES question.nodes valid.nodes_least valid.nodes_most
      (let most = valid.nodes_most in omega arith)) refl

  line_10 : line_put after_9 (codes "pivots" ∷ decimal question.pivots ∷ []) ≡ Ok after_10
  unfolding keyword_named
  line_10 =
      rw (number_within_back 0 MOST_PIVOTS question.pivots (omega arith) valid.pivots (let most = valid.pivots in
      omega arith)) refl

  lines_plain : ArePlainLines (question_lines question)
  lines_plain = (
    (
      record { some = lit< tt; plain = (lit< tt, (lit< tt, (lit< tt, (lit< tt, (lit< tt, tt))))) },
      (holding_plain question.north valid.north, tt),
    ),
    (
      (
        record { some = lit< tt; plain = (lit< tt, (lit< tt, (lit< tt, (lit< tt, (lit< tt, tt))))) },
        (holding_plain question.south valid.south, tt),
      ),
      (
        (
          record { some = lit< tt; plain = (lit< tt, (lit< tt, (lit< tt, (lit< tt, (lit< tt, tt))))) },
          (lead_plain question.start, tt),
        ),
        (
          (
            record { some = lit< tt; plain = (lit< tt, (lit< tt, (lit< tt, (lit< tt, (lit< tt, (lit< tt, tt)))))) },
            (lead_plain question.regain, tt),
          ),
          (
            (
              record {
                some = lit< tt;
                plain =
                    (lit< tt, (lit< tt, (lit< tt, (lit< tt, (lit< tt, (lit< tt, (lit< tt, tt)))))));
              },
              (
                entries_plain question.entries_n valid.entries_n,
                (entries_plain question.entries_s valid.entries_s, tt),
              ),
            ),
            (
              (
                record { some = lit< tt; plain = (lit< tt, (lit< tt, (lit< tt, (lit< tt, (lit< tt, (lit< tt, tt)))))) },
                (
                  number_plain question.vacant_w (let most = valid.vacant_w in omega arith),
                  (number_plain question.vacant_e (let most = valid.vacant_e in omega arith), tt),
                ),
              ),
              (
                (
                  record { some = lit< tt; plain = (lit< tt, (lit< tt, (lit< tt, (lit< tt, tt)))) },
                  (
                    number_plain question.west_least (let low = valid.range in let high = valid.west_most in
                        omega arith),
                    (number_plain question.west_most (let high = valid.west_most in omega arith), tt),
                  ),
                ),
                (
                  (
                    record { some = lit< tt; plain = (lit< tt, (lit< tt, (lit< tt, (lit< tt, tt)))) },
                    (goal_plain question.goal valid.goal, tt),
                  ),
                  (
                    (
                      record { some = lit< tt; plain = (lit< tt, (lit< tt, (lit< tt, (lit< tt, (lit< tt, tt))))) },
                      (number_plain question.nodes (let most = valid.nodes_most in omega arith), tt),
                    ),
                    (
                      (
                        record {
                          some = lit< tt;
                          plain =
                              (lit< tt, (lit< tt, (lit< tt, (lit< tt, (lit< tt, (lit< tt, tt))))));
                        },
                        (number_plain question.pivots (let most = valid.pivots in omega arith), tt),
                      ),
                      ((record { some = lit< tt; plain = (lit< tt, (lit< tt, (lit< tt, tt))) }, tt), tt),
                    ),
                  ),
                ),
              ),
            ),
          ),
        ),
      ),
    ),
  )

  -- the lines of a valid question ask it
  lines_asked : asked_by no_columns 1 (question_lines question) ≡ Ok question
  lines_asked =
      put_step no_columns after_1 1 _ _ refl refl line_1 ∙ (
      put_step after_1 after_2 2 _ _ refl refl line_2 ∙ (
      put_step after_2 after_3 3 _ _ refl refl line_3 ∙ (
      put_step after_3 after_4 4 _ _ refl refl line_4 ∙ (
      put_step after_4 after_5 5 _ _ refl refl line_5 ∙ (
      put_step after_5 after_6 6 _ _ refl refl line_6 ∙ (
      put_step after_6 after_7 7 _ _ refl refl line_7 ∙ (
      put_step after_7 after_8 8 _ _ refl refl line_8 ∙ (
      put_step after_8 after_9 9 _ _ refl refl line_9 ∙ (
      put_step after_9 after_10 10 _ _ refl refl line_10 ∙ (
      end_step after_10 11
      ∙ ap (λ (fault : Option QuestionKind). told_at 11 (option_map_or Err fault (Ok question)))
      (no_fault question valid)))))))))))

  pub read_back : question_read (text_written question) ≡ Ok question
  read_back =
      ap (asked_by no_columns 1) (lines_back (question_lines question) lines_plain) ∙ lines_asked
