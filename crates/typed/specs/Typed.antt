-- What a value of a slot is held as; zero where it is none. A value that gets 0 in its form is never none.
use Rattle.std.specs.Prelude.{Option, unwrap_or}
use Rattle.amount.specs.Amounts.{nought}
use Rattle.amount.specs.declared.Amount.{Amount}
use Rattle.calendar.specs.declared.Date.{Date}
use Rattle.calendar.specs.declared.Moment.{Moment}

abbrev pub amount_or0 : Option Amount → Amount
amount_or0 a = unwrap_or a nought

abbrev pub date_or0 : Option Date → Date
date_or0 d = unwrap_or d (record { 0 = 0 })

abbrev pub moment_or0 : Option Moment → Moment
moment_or0 m = unwrap_or m (record { date = record { 0 = 0 }; time = record { 0 = 0 } })
