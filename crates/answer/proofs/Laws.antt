-- What callers cite: a message without values is held as the blank record.
-- Assumes nothing.
use mathlib.Core.Path.{◌≡◌, refl}
use mathlib.Core.List.{[]}
use Rattle.text.specs.Bytes.{bytes, same}
use Rattle.text.specs.Texts.{text_of, padded_of}
use Rattle.remark.specs.Remarks.{remark_of}
use Rattle.digits.specs.Numerals.{wide_number}
use Rattle.calendar.specs.Dates.{moment_read, moment_from}
use Rattle.forms.specs.Forms.{word_at, is_word}
use Rattle.status.specs.Statuses.{statuses, status_of}
use Rattle.answer.specs.Records.{reason_of, reasons_of, answer_of, no_reason, never, blank_answer}

pub blank-is : answer_of (λ slot. []) ≡ blank_answer
unfolding bytes same padded_of wide_number moment_read moment_from word_at is_word statuses status_of reason_of reasons_of answer_of no_reason never blank_answer
blank-is = refl
