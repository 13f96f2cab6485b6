-- Texts with each kind of fault, and texts that two readers may take in two ways, written down by hand.
use Rattle.std.specs.Prelude.{ℕ, ◌≡◌, codes, Err}
use Rattle.suit_cards.specs.Cards.{Text}
use Rattle.suit_question.specs.Reading.{question_read, end_index}
use Rattle.suit_question.specs.declared.faults.QuestionKind.{QuestionKind}
use Rattle.suit_question.specs.declared.faults.QuestionKind.TheVariants.{NoLine, Word, Repeated, Rank, Twice, Shared}
use Rattle.suit_question.specs.declared.faults.QuestionKind.TheVariants.{Empty, Number, Range, Vacant, NoLayout, Tail}

-- a text has this fault at this line
abbrev pub HasFault : Text → QuestionKind → ℕ → Type 0
HasFault text kind line = question_read text ≡ Err (record { kind = kind; line = line })

-- faults of single lines
pub record LineFaults : Type 0 where
  pub word : HasFault (codes "start W\n") Word 1
  pub repeated : HasFault (codes "goal 1\nGoal x\n") Repeated 2
  pub rank : HasFault (codes "\nnorth AxA\n") Rank 2
  pub twice : HasFault (codes "north AKAx\n") Twice 1
  pub number : HasFault (codes "goal x\n") Number 1
  pub long_number : HasFault (codes "goal 0000000001\n") Number 1
  pub range : HasFault (codes "goal 14\n") Range 1
  pub few_words : HasFault (codes "north A\nnorth\nend\n") Word 2
  pub end_and_more : HasFault (codes "goal 1\nend x\n") Word 2
  pub left_first : HasFault (codes "entries 14 x\n") Range 1
  pub returns : HasFault (codes "goal 2\r\r\nend\n") Number 1
  pub last_return : HasFault (codes "end\r") Word 1
  pub skipped : HasFault (codes "# a\r\n\n \t\r\nnodes 4000001\n") Range 4

-- faults of the whole
pub record WholeFaults : Type 0 where
  pub nothing : HasFault (codes "") NoLine 1
  pub no_south : HasFault (codes "north A\nEND\n") NoLine 2
  pub no_end : HasFault (codes "north A\ngoal 1") NoLine 3
  pub shared : HasFault (codes "goal 1\nsouth A\nnorth AKQJT98765432\nend\n") Shared 4
  pub range : HasFault (codes "west 5 4\nsouth -\nnorth AKQJT98765432\ngoal 1\nend\n") Range 5
  pub vacant : HasFault (codes "vacant 1 1\nsouth -\nnorth AKQJT98765\ngoal 1\nend\n") Vacant 5
  pub no_layout : HasFault (codes "vacant 1 1\nwest 2 2\nsouth -\nnorth AKQJT987654\ngoal 1\nend\n") NoLayout 6
  pub tail : HasFault (codes "goal 1\nend\nx\n") Tail 3

-- a text with each of the twelve kinds
pub record EachKind : Type 0 where
  pub nothing : HasFault (codes "") NoLine 1
  pub word : HasFault (codes "north A\nsouth 2\nstart W\ngoal 1\nend\n") Word 3
  pub repeated : HasFault (codes "north A\nnorth A\nsouth 2\ngoal 1\nend\n") Repeated 2
  pub rank : HasFault (codes "north Ax\nsouth 2\ngoal 1\nend\n") Rank 1
  pub twice : HasFault (codes "north AKA\nsouth 2\ngoal 1\nend\n") Twice 1
  pub shared : HasFault (codes "north A\nsouth A\ngoal 1\nend\n") Shared 4
  pub empty : HasFault (codes "north -\nsouth -\ngoal 0\nend\n") Empty 4
  pub number : HasFault (codes "north A\nsouth 2\ngoal x\nend\n") Number 3
  pub range : HasFault (codes "north A\nsouth 2\ngoal 14\nend\n") Range 3
  pub vacant : HasFault (codes "north A\nsouth 2\nvacant 5 5\ngoal 1\nend\n") Vacant 5
  pub no_layout : HasFault (codes "north AJT98765432\nsouth -\nstart N\ngoal 11\nwest 3 13\nend\n") NoLayout 6
  pub tail : HasFault (codes "north A\nsouth 2\ngoal 1\nend\nx\n") Tail 5

-- where the first end line ends
pub record Ends : Type 0 where
  pub nothing : end_index (codes "") ≡ 0
  pub first : end_index (codes "goal 1\nend\nmore\nend\n") ≡ 11
  pub spaced : end_index (codes "# end\n END\t\r\nx") ≡ 13
  pub last : end_index (codes "end x\nend") ≡ 9
  pub none : end_index (codes "end\r") ≡ 4
