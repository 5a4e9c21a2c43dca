-- `measure::plain_width` meets its contract: each arm is a form by its kind. Assumes nothing.
use Rattle.forms.proofs.ByKind.{form_as, of_kind}
use Rattle.measure.proofs.Laws.{nothing-told, code-told}
use Rattle.measure.proofs.plain_width.Goals as goal

pub returns-in-Nothing : goal.returns-in-Nothing
unfolding form_as
returns-in-Nothing c = rw (of_kind _ _ _ _ _ c.of.ensures _ c.in-Nothing.is) (nothing-told _)

pub returns-in-Codes : goal.returns-in-Codes
unfolding form_as
returns-in-Codes c = rw (of_kind _ _ _ _ _ c.of.ensures _ c.in-Codes.is) (code-told _ _ _ _ c.characters_width.ensures)
