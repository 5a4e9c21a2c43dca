-- The bytes of the program are those of specs/Table and specs/Tree.
-- Assumes nothing.
use Prim.Native.Nat.{ℕ}
use mathlib.Core.Path.{◌≡◌}
use mathlib.Core.List.{List}
use lib.ListN.{length}
use Rattle.text.specs.Bytes.{bytes}
use Rattle.forms.specs.Forms.{Slot}
use Rattle.forms.specs.Slots.{slot_at}
use Rattle.forms.proofs.Tables as Slots
use Rattle.forms.proofs.Tables.{places}
use Rattle.pool_table.specs.Table.{lines, slot_of}

pub slots-are : (t : List ℕ) → places t 0 36 ≡ lines → length t ≡ 720 → (i : ℕ) → slot_at t i ≡ slot_of i
unfolding slot_of bytes
slots-are t e l = Slots.slots-are lines t 36 e l
