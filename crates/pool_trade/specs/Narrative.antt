-- Request A1, "The narrative": what the value of 70E behind `//DTCY` means. No delivery date and no reason where it has none; that the pool
-- has a CDR status is told by the mark itself (forms' specs/Pool).
use Rattle.std.specs.Prelude.{ℕ, cond, List, Option, Some, None}
use Rattle.text.specs.Texts.{text_of}
use Rattle.text.specs.Texts.{Text}
use Rattle.calendar.specs.Dates.{date_read}
use Rattle.reason.specs.Reason.{reason_in}
use Rattle.forms.specs.Pool.{has_delivery, delivery_in, behind_delivery}
use Rattle.typed.specs.Typed.{date_or0}
use Rattle.calendar.specs.declared.Date.{Date}

unfoldable pub delivery_of : List ℕ → Option Date
delivery_of v = cond (has_delivery v) (Some (date_or0 (date_read (delivery_in v)))) None

unfoldable pub reason_of : List ℕ → Text
reason_of v = text_of (reason_in (behind_delivery v))
