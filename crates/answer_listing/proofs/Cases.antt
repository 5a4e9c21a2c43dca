-- The rows are as the table says, by computation. Assumes nothing.
use mathlib.Core.Path.{refl}
use Rattle.text.specs.Bytes.{bytes}
use Rattle.text.specs.Texts.{contents, text_of, padded_of}
use Rattle.digits.specs.Numerals.{digits}
use Rattle.amount.specs.Amounts.{trimmed}
use Rattle.remark.specs.Remarks.{remark_of}
use Rattle.status.specs.Statuses.{statuses, status_text}
use Rattle.answer.specs.Records.{no_reason, never, blank_answer}
use Rattle.answer.specs.Cases.{r as answer_of_r}
use Rattle.listing.specs.Rows.{spaced, decimal, shown}
use Rattle.answer_listing.specs.Rows.{heading, without_issuer, codes_of, standing, joined, told, untold, fields_of, printed_row}
use Rattle.answer_listing.specs.Cases.{Answered}

pub answered : Answered
unfolding bytes contents padded_of digits trimmed statuses status_text no_reason never blank_answer answer_of_r spaced decimal shown heading without_issuer codes_of standing joined told untold fields_of printed_row
answered = (refl, refl, refl, refl, refl)
