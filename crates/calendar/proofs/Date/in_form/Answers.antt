-- `calendar::Date::in_form` meets its contract. Assumes nothing.
use Rattle.calendar.specs.Dates.{is_date, year, month, day}
use Rattle.calendar.proofs.Date.in_form.Goals as goal

pub returns : goal.returns
unfolding is_date year month day
returns c = c.is_day.ensures
