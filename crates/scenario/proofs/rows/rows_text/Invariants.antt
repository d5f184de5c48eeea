use Rattle.std.proofs.Common.{◌≡◌, string_bytes}
use Rattle.std.specs.Slice.Iter.{chunks_exact_rest, chunks_exact_size}
use Rattle.sweep.specs.Plate.{plain_of}
use Rattle.digits.specs.Digits.{row_lines}
use Rattle.scenario.proofs.RowTexts.{Left}
use Rattle.scenario.proofs.rows.rows_text.Given as goal

-- the rows written, and those to come
abbrev pub invariant-loop-row : goal.invariant-loop-row
invariant-loop-row l = record {
  sized : chunks_exact_size l.row-iterator ≡ l.width;
  left : Left l.width (chunks_exact_rest l.row-iterator) (string_bytes l.text) (row_lines (plain_of l.plate).shape.width (plain_of l.plate).shape.height (plain_of l.plate).cells);
}
