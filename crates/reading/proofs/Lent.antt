-- What callers cite, of the bytes that a message type lends: what is said of them is said of its rows, its slots and its header.
-- Assumes nothing.
use Prim.Native.Nat.{ℕ}
use mathlib.Core.Path.{◌≡◌}
use mathlib.Core.List.{List}
use Rattle.forms.specs.Forms.{Slot}
use Rattle.layout.specs.Rows.{Row}
use Rattle.sheets.specs.Trees.{table_of}
use Rattle.format.specs.Format.{Format}

pub lent-right : (F : Format) (P : List Row → (ℕ → Slot) → List ℕ → Type 0) {heads : List ℕ} {table : List Row} {slots : ℕ → Slot}
    → heads ≡ F.header → table ≡ table_of F.tree → slots ≡ F.slot_of
    → P table slots heads → P (table_of F.tree) F.slot_of F.header
lent-right F P h r s p = rw (h, r, s) at p
