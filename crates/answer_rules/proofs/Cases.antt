-- Each message and each record of the tables gets the number beside it, by computation.
-- Assumes nothing.
use mathlib.Core.Path.{refl}
use Rattle.text.specs.Bytes.{bytes, begins, same}
use Rattle.text.specs.Texts.{text_of, padded_of}
use Rattle.lines.specs.Verdicts.{refused, pass, then, when}
use Rattle.forms.specs.Forms.{word_at, is_word}
use Rattle.status.specs.Statuses.{statuses, status_of, status_text}
use Rattle.answer.specs.Records.{reason_of, reasons_of, answer_of, reason_at}
use Rattle.answer.specs.Cases.{value_in}
use Rattle.answer_rules.specs.Rules.{of_cancel, goes_with, is_reject, has_reason, lacks_reason, has_forbidden, record_pass, answer_pass}
use Rattle.answer_rules.specs.Cases.{messages, held, records, Answered}

pub answered : Answered
unfolding bytes begins same padded_of refused pass then when word_at is_word statuses status_of status_text reason_of reasons_of answer_of reason_at of_cancel goes_with is_reject has_reason lacks_reason has_forbidden record_pass answer_pass value_in messages held records
answered = (refl, refl)
