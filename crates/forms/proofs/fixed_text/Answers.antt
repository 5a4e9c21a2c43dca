-- `forms::fixed_text` meets its contract. Assumes nothing.
use Rattle.forms.specs.Forms.{Slot}
use mathlib.Core.Path.{sym, ap, refl}
use Rattle.forms.proofs.Parts.{slot-none, fixed-part}
use Rattle.forms.proofs.fixed_text.Goals as goal

pub returns-then-slots-slot : goal.returns-then-slots-slot
returns-then-slots-slot c = sym (ap (λ (s : Slot). s.fixed) (slot-none _ _ c.if-slots-slot.true))

pub returns : goal.returns
returns c = rw c.remainder-len.ensures (fixed-part c.args.slots.now c.args.slot c.if-slots-slot.false _ refl)
