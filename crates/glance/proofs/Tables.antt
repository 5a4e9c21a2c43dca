-- What callers cite, of a message type as bytes: where the bytes that are lent are its header's slots, its rows and its slots, what is said of
-- them is said of these.
-- Assumes nothing.
use Prim.Native.Nat.{ℕ, ◌*◌}
use mathlib.Core.Path.{◌≡◌, fun_ext}
use mathlib.Core.List.{List, []}
use lib.ListN.{length, get_or}
use Rattle.layout.specs.Rows.{Row, rows_of}
use Rattle.forms.specs.Forms.{Slot, other}
use Rattle.forms.specs.Slots.{slot_at}
use Rattle.forms.proofs.Tables.{places, slots-are}

module _ (header : List ℕ) (table : List Row) (ss : List Slot) (n : ℕ) where
  -- three runs of bytes that are these: each fact is computed
  pub record Right (heads rows slots : List ℕ) : Type 0 where
    pub is-header : heads ≡ header
    pub is-table : rows_of rows ≡ table
    pub are-slots : places slots 0 n ≡ ss
    pub long : length slots ≡ n * 20

  pub lent-right : (P : List Row → (ℕ → Slot) → List ℕ → Type 0) {heads rows slots : List ℕ} → Right heads rows slots
      → P (rows_of rows) (slot_at slots) heads → P table (λ i. get_or ss i (record { fixed = []; form = other })) header
  lent-right P {heads} {rows} {slots} r p =
      rw (r.is-header, r.is-table, fun_ext (slots-are ss slots n r.are-slots r.long)) at p
