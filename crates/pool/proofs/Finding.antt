-- What a place and a field of a pool message are to each other, to the message and to its record: what field's proofs/Finding says of any
-- message type, with 70E for the one field that leaves a byte of its value out, the `/` in front of it.
-- Assumes nothing.
use Prim.Native.Nat.{ℕ}
use mathlib.Core.Path.{◌≡◌, refl}
use mathlib.Core.Bool.{true}
use native.Mathlib.Omega.{arith}
use Rattle.text.specs.Bytes.{bytes}
use Rattle.sheets.specs.Slots.{must_slots, first_slots}
use Rattle.sheets.specs.Sheets.{has}
use Rattle.format.proofs.Finding.{said-behind, is-named}
use Rattle.field.specs.Finding as AnyType
use Rattle.field.proofs.Finding as Proved
use Rattle.pool_trade.specs.Records.{narrative_slot}
use Rattle.pool_table.specs.Tree.{tree, general, security, details}
use Rattle.pool_values.specs.Pool.{pool}
use Rattle.pool_values.proofs.Laid.{layout}
use Rattle.pool_demands.proofs.Laws.{laws}
use Rattle.pool_demands.proofs.Demands.{holds}
use Rattle.pool_demands.proofs.Asked.{fields-are, told-begins}
use Rattle.pool.specs.Finding.{Finding}

of_any : AnyType.Finding pool
of_any = Proved.finding pool layout laws fields-are holds

told-stands : has (must_slots tree) narrative_slot ≡ true
unfolding must_slots first_slots tree general security details has
told-stands = refl

pub finding : Finding
unfolding bytes
finding =
    record {
      is-part = of_any.is-part;
      any = of_any.any;
      is-told-behind = λ m w.
          said-behind pool narrative_slot 1 (bytes "/TDSVPOOL") (λ s. refl) refl told-begins layout of_any.any m w told-stands (is-named 19 19 (omega arith) (omega arith));
    }
