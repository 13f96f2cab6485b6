-- Holds after some fields: they were put, and the others are still to be put.
use Rattle.std.proofs.Common.{◌≡◌, ◌+◌, ◌≤◌, drop}
use Rattle.csv.specs.Records.{fields_of}
use Rattle.suit_question.specs.Columns.{no_columns}
use Rattle.suit_table.specs.Fields.{fields_put}
use Rattle.suit_table.specs.declared.records.TheConstants.{FIELDS}
use Rattle.suit_table.proofs.fields.question_named.Given as goal

abbrev pub invariant-loop-field : goal.invariant-loop-field
invariant-loop-field l = record {
  same : l.field-iterator.row.now ≡ l.fn.fields;
  column : l.column ≡ l.field-iterator.at + 1;
  within : l.field-iterator.at ≤ FIELDS;
  rest : fields_put 1 no_columns (fields_of l.fn.fields)
      ≡ fields_put l.column l.draft (drop l.field-iterator.at (fields_of l.fn.fields));
}
