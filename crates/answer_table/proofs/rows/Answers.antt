-- `answer_table::rows` meets its contract, by computation. Assumes nothing.
use mathlib.Core.Path.{refl}
use Rattle.text.specs.Bytes.{bytes, parts}
use Rattle.layout.specs.Rows.{row_of, key_of, first_row, rows_of}
use Rattle.sheets.specs.Notation.{repeated}
use Rattle.sheets.specs.Trees.{chain, field_rows, member_rows, rows_in, table_of}
use Rattle.answer_table.specs.Tree.{reasons, status, general, tree}
use Rattle.answer_table.proofs.rows.Goals as goal

pub returns : goal.returns
unfolding bytes parts row_of key_of first_row rows_of table_of tree general status reasons rows_in member_rows field_rows repeated chain
returns c = refl
