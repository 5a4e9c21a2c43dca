-- The sample's rows are what document 01 prints, by computation. Assumes nothing.
use mathlib.Core.Path.{refl}
use Rattle.text.specs.Bytes.{bytes}
use Rattle.text.specs.Texts.{contents, text_of, padded_of}
use Rattle.digits.specs.Numerals.{digits}
use Rattle.amount.specs.Amounts.{trimmed}
use Rattle.trade.specs.Records.{nobody, blank_trade}
use Rattle.values.specs.Values.{kind_word}
use Rattle.values.specs.Cases.{b as trade_of_b}
use Rattle.listing.specs.Rows.{spaced, heading, decimal, shown, told, untold, fields_of, printed_row}
use Rattle.listing.specs.Cases.{Answered}

pub answered : Answered
unfolding bytes contents padded_of digits trimmed nobody blank_trade kind_word trade_of_b spaced heading decimal shown told untold fields_of printed_row
answered = (refl, refl, refl, refl)
