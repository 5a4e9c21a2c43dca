-- Request A1 of document 02, the value of 70E behind `//DTCY`: `/TDSVPOOL`; then optionally `/CDRY`; then optionally `/DDTE` and
-- a date, the delivery date; then optionally `/DKRS` and 4 c; then nothing.
--   10  any text that is not of this shape, whatever stands for the date
--   12  the text has this shape and the date is wrong in any way
use Rattle.std.specs.Prelude.{ℕ, Bool, ◌&&◌, cond, List, length, drop}
use Rattle.text.specs.Bytes.{bytes, begins, before}
use Rattle.calendar.specs.Dates.{date_read, date_number}
use Rattle.reason.specs.Reason.{good_reason}

-- `/CDRY` stands behind `/TDSVPOOL`, or not; and what is left behind it
unfoldable pub has_cdr : List ℕ → Bool
has_cdr v = begins (bytes "/CDRY") (drop 9 v)

unfoldable pub behind_cdr : List ℕ → List ℕ
behind_cdr v = cond (has_cdr v) (drop 14 v) (drop 9 v)

-- a delivery date stands there, or not: all between `/DDTE` and the next slash, or the end where there is none; and what is left behind it
unfoldable pub has_delivery : List ℕ → Bool
has_delivery v = begins (bytes "/DDTE") (behind_cdr v)

unfoldable pub delivery_in : List ℕ → List ℕ
delivery_in v = before 47 (drop 5 (behind_cdr v))

unfoldable pub behind_delivery : List ℕ → List ℕ
behind_delivery v = cond (has_delivery v) (drop (length (delivery_in v)) (drop 5 (behind_cdr v))) (behind_cdr v)

unfoldable pub is_pool_shape : List ℕ → Bool
is_pool_shape v = begins (bytes "/TDSVPOOL") v && good_reason (behind_delivery v)

unfoldable pub pool_number : List ℕ → ℕ
pool_number v = cond (is_pool_shape v) (cond (has_delivery v) (date_number (date_read (delivery_in v))) 0) 10
