-- `measure::form_width` meets its contract: each arm is a form by its kind. Assumes nothing.
use Rattle.forms.proofs.ByKind.{form_as, of_kind}
use Rattle.measure.proofs.Laws.{nothing-told, code-told}
use Rattle.measure.proofs.form_width.Goals as goal

pub returns-in-Nothing : goal.returns-in-Nothing
unfolding form_as
returns-in-Nothing c = rw (of_kind _ _ _ _ _ c.of.ensures _ c.in-Nothing.is) (nothing-told _)

pub returns-in-Codes : goal.returns-in-Codes
unfolding form_as
returns-in-Codes c = rw (of_kind _ _ _ _ _ c.of.ensures _ c.in-Codes.is) (code-told _ _ _ _ c.characters_width.ensures)

pub returns-in-Words : goal.returns-in-Words
unfolding form_as
returns-in-Words c = rw (of_kind _ _ _ _ _ c.of.ensures _ c.in-Words.is) c.word_width.ensures

pub returns-in-Amount : goal.returns-in-Amount
unfolding form_as
returns-in-Amount c = rw (of_kind _ _ _ _ _ c.of.ensures _ c.in-Amount.is) c.amount_width.ensures

pub returns-in-Date : goal.returns-in-Date
unfolding form_as
returns-in-Date c = rw (of_kind _ _ _ _ _ c.of.ensures _ c.in-Date.is) c.date_width.ensures

pub returns-in-Moment : goal.returns-in-Moment
unfolding form_as
returns-in-Moment c = rw (of_kind _ _ _ _ _ c.of.ensures _ c.in-Moment.is) c.moment_width.ensures

pub returns-in-Narrative : goal.returns-in-Narrative
unfolding form_as
returns-in-Narrative c = rw (of_kind _ _ _ _ _ c.of.ensures _ c.in-Narrative.is) c.narrative_width.ensures

pub returns-in-PoolNarrative : goal.returns-in-PoolNarrative
unfolding form_as
returns-in-PoolNarrative c = rw (of_kind _ _ _ _ _ c.of.ensures _ c.in-PoolNarrative.is) c.pool_width.ensures

pub returns-in-Hyphened : goal.returns-in-Hyphened
unfolding form_as
returns-in-Hyphened c = rw (of_kind _ _ _ _ _ c.of.ensures _ c.in-Hyphened.is) c.characters_width-in-Hyphened.ensures

pub returns-in-Printed : goal.returns-in-Printed
unfolding form_as
returns-in-Printed c = rw (of_kind _ _ _ _ _ c.of.ensures _ c.in-Printed.is) c.characters_width-in-Printed.ensures
