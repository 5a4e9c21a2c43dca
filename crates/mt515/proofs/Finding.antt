-- What a place and a field of an MT515 are to each other, to the message and to its record: what field's proofs/Finding says of any message
-- type, with 70E for the one field that leaves a byte of its value out, the `/` in front of it.
-- Assumes nothing.
use Prim.Native.Nat.{ℕ}
use mathlib.Core.Path.{◌≡◌, refl}
use mathlib.Core.Bool.{true}
use native.Mathlib.Omega.{arith}
use Rattle.text.specs.Bytes.{bytes}
use Rattle.sheets.specs.Slots.{must_slots, first_slots}
use Rattle.sheets.specs.Sheets.{has}
use Rattle.format.proofs.Finding.{read-before, said-behind, is-named}
use Rattle.field.specs.Finding as AnyType
use Rattle.field.proofs.Finding as Proved
use Rattle.table.specs.Tree.{tree, general, pool, details}
use Rattle.values.specs.Mt515.{mt515}
use Rattle.values.proofs.Laid.{layout}
use Rattle.demands.proofs.Laws.{laws}
use Rattle.demands.proofs.Demands as Demands
use Rattle.demands.proofs.Asked.{fields-are, told-begins}
use Rattle.mt515.specs.Finding.{Finding}

of_any : AnyType.Finding mt515
of_any = Proved.finding mt515 layout laws fields-are Demands.any

told-stands : has (must_slots tree) 21 ≡ true
unfolding must_slots first_slots tree general pool details has
told-stands = refl

pub finding : Finding
unfolding bytes
finding =
    let any = of_any.any in
    record {
      is-part = of_any.is-part;
      is_read = λ m w. read-before mt515 21 1 (bytes "/TDSV") (λ s. refl) refl told-begins layout any m w 20 refl refl;
      is-told-behind = λ m w. said-behind mt515 21 1 (bytes "/TDSV") (λ s. refl) refl told-begins layout any m w told-stands (is-named 21 21 (omega arith) (omega arith));
      none-refused = of_any.none-refused;
      none-unnamed = of_any.none-unnamed;
      none-absent = of_any.none-absent;
    }
