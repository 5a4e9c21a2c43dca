-- The slots that are lent as optional are those that the layout makes so, by computation.
-- Assumes nothing.
use mathlib.Core.Path.{◌≡◌, refl, fun_ext}
use Rattle.sheets.specs.Slots.{field_slots, own_slots, member_slots, slots_of, first_slots, must_slots}
use Rattle.sheets.specs.Sheets.{has}
use Rattle.fill.specs.Filling.{is_any}
use Rattle.format.specs.Format.{optional}
use Rattle.format.proofs.Tests.{every}
use Rattle.writer.proofs.Messages.{optional_in, optional-are}
use Rattle.table.specs.Tree.{general, pool, details, tree}
use Rattle.values.specs.Mt515.{mt515}
use Rattle.values.specs.declared.TheConstants.{OPTIONAL}

pub optional-is : is_any OPTIONAL ≡ optional mt515
unfolding tree general pool details every optional_in optional slots_of member_slots own_slots field_slots must_slots first_slots has
optional-is = fun_ext (optional-are mt515 OPTIONAL refl)
