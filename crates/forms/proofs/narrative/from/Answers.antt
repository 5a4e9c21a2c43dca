-- `forms::narrative::from` meets its contract. Assumes nothing.
use Rattle.forms.proofs.Parts.{none_left}
use mathlib.Core.Path.{refl}
use Rattle.text.proofs.Laws.{rest_of}
use Rattle.forms.proofs.narrative.from.Goals as goal

pub returns-then-value-place : goal.returns-then-value-place
returns-then-value-place c = none_left c.args.place c.args.value.now c.if-value-place.true

pub returns : goal.returns
returns c = rest_of c.args.place _ c.args.value.now refl
