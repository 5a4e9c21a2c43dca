-- What callers cite, of the bytes that a message type lends to the writer: what is put is what the parts of the type put.
-- Assumes nothing.
use Prim.Native.Nat.{ℕ}
use mathlib.Core.Path.{◌≡◌}
use mathlib.Core.List.{List}
use Rattle.stretches.specs.Stretches.{stretch_of}
use Rattle.forms.specs.Slots.{slot_at}
use Rattle.layout.specs.Rows.{rows_of}
use Rattle.sheets.specs.Trees.{table_of}
use Rattle.fill.specs.Filling.{lent, is_any}
use Rattle.fill.proofs.Runs.{Run}
use Rattle.format.specs.Format.{Format, optional}
use Rattle.writer.specs.Parts.{message_parts, parts_for}
use Rattle.writer.proofs.Messages.{parts-lent}

pub run-lent : (F : Format) (fixed may text from to rows heads : List ℕ) → heads ≡ F.header → rows_of rows ≡ table_of F.tree → slot_at fixed ≡ F.slot_of
    → is_any may ≡ optional F → (buf : List ℕ) {now : List ℕ} {n : ℕ} → Run buf 0 (message_parts (lent fixed may text from to) heads rows) n now
    → Run buf 0 (parts_for F (stretch_of text from to)) n now
run-lent F fixed may text from to rows heads h r s o buf run = rw (parts-lent F (lent fixed may text from to) rows h r s o) at run
