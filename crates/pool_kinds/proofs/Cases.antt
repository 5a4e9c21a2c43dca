-- Each trade of the table gets the number beside it, by computation.
-- Assumes nothing.
use mathlib.Core.Path.{refl}
use Rattle.text.specs.Bytes.{bytes, same}
use Rattle.text.specs.Texts.{text_of, padded_of}
use Rattle.calendar.specs.Dates.{year, month, day, earlier}
use Rattle.lines.specs.Verdicts.{refused, pass, then, when}
use Rattle.pool_kinds.specs.Kinds.{other, own, contra, stray, function_of, needs, there, some_of, lacks_field, has_forbidden, record_pass, kinds_pass}
use Rattle.pool_kinds.specs.Cases.{trade, cases, Answered}

pub answered : Answered
unfolding trade cases bytes same padded_of year month day earlier refused pass then other own contra stray function_of needs there some_of lacks_field has_forbidden when record_pass kinds_pass
answered = refl
