-- A moment of a record that need not be there, as PREP.
use Rattle.std.specs.Prelude.{Bool, ◌&&◌, ◌||◌, eqb}
use Rattle.calendar.specs.Dates.{is_moment}
use Rattle.calendar.specs.declared.Moment.{Moment}

-- it is absent, which is date 0 and time 0 and has no other form, or a date and time
unfoldable pub prep_form : Moment → Bool
prep_form m = (eqb m.date.0 0 && eqb m.time.0 0) || is_moment m
