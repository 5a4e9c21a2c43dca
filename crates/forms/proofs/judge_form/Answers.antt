-- `forms::judge_form` meets its contract: each arm is a form by its kind. Assumes nothing.
use mathlib.Core.Path.{ap, ◌∙◌}
use Rattle.amount.specs.Amounts.{amount_number}
use Rattle.calendar.specs.Dates.{date_number, moment_number}
use Rattle.forms.specs.Forms.{unless, form_number}
use Rattle.forms.proofs.ByKind.{form_as, of_kind}
use Rattle.forms.proofs.Parts.{words-number}
use Rattle.forms.proofs.judge_form.Goals as goal

pub returns-in-Nothing : goal.returns-in-Nothing
unfolding form_as form_number
returns-in-Nothing c = rw (of_kind _ _ _ _ _ c.of.ensures _ c.in-Nothing.is) c.unless.ensures

pub returns-in-Codes : goal.returns-in-Codes
unfolding form_as form_number
returns-in-Codes c =
    rw (of_kind _ _ _ _ _ c.of.ensures _ c.in-Codes.is, ← c.from-in-Codes.ensures, ← c.from.ensures)
    (c.unless-in-Codes.ensures ∙ ap unless c.is_code.ensures)

pub returns-in-Words : goal.returns-in-Words
unfolding form_as form_number
returns-in-Words c =
    rw (of_kind _ _ _ _ _ c.of.ensures _ c.in-Words.is) (c.unless-in-Words.ensures ∙ words-number _ _ _ _ _ _ c.word_in.ensures c.from-in-Words.ensures)

pub returns-in-Amount : goal.returns-in-Amount
unfolding form_as form_number
returns-in-Amount c = rw (of_kind _ _ _ _ _ c.of.ensures _ c.in-Amount.is) (c.number.ensures ∙ ap amount_number c.read.ensures)

pub returns-in-Date : goal.returns-in-Date
unfolding form_as form_number
returns-in-Date c = rw (of_kind _ _ _ _ _ c.of.ensures _ c.in-Date.is) (c.number-in-Date.ensures ∙ ap date_number c.read-in-Date.ensures)

pub returns-in-Moment : goal.returns-in-Moment
unfolding form_as form_number
returns-in-Moment c = rw (of_kind _ _ _ _ _ c.of.ensures _ c.in-Moment.is) (c.number-in-Moment.ensures ∙ ap moment_number c.read-in-Moment.ensures)

pub returns-in-Narrative : goal.returns-in-Narrative
unfolding form_as form_number
returns-in-Narrative c = rw (of_kind _ _ _ _ _ c.of.ensures _ c.in-Narrative.is) (c.unless-in-Narrative.ensures ∙ ap unless c.is_narrative.ensures)

pub returns-in-PoolNarrative : goal.returns-in-PoolNarrative
unfolding form_as form_number
returns-in-PoolNarrative c = rw (of_kind _ _ _ _ _ c.of.ensures _ c.in-PoolNarrative.is) c.number-in-PoolNarrative.ensures

pub returns-in-Hyphened : goal.returns-in-Hyphened
unfolding form_as form_number
returns-in-Hyphened c = rw (of_kind _ _ _ _ _ c.of.ensures _ c.in-Hyphened.is) c.judge_characters.ensures

pub returns-in-Printed : goal.returns-in-Printed
unfolding form_as form_number
returns-in-Printed c = rw (of_kind _ _ _ _ _ c.of.ensures _ c.in-Printed.is) c.judge_characters-in-Printed.ensures

pub returns-in-Other : goal.returns-in-Other
unfolding form_as form_number
returns-in-Other c = rw (of_kind _ _ _ _ _ c.of.ensures _ c.in-Other.is)
