-- `table::rows` meets its contract, by computation. Assumes nothing.
use mathlib.Core.Path.{refl}
use Rattle.text.specs.Bytes.{bytes, parts}
use Rattle.layout.specs.Rows.{row_of, key_of, first_row, rows_of}
use Rattle.sheets.specs.Trees.{field_rows, member_rows, rows_in, table_of}
use Rattle.table.specs.Tree.{general, pool, details, tree}
use Rattle.table.proofs.rows.Goals as goal

pub returns : goal.returns
unfolding bytes parts row_of key_of first_row rows_of table_of tree general pool details rows_in member_rows field_rows
returns c = refl
