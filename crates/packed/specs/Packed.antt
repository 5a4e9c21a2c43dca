-- A record as 375 bytes, for programs in C. They stand in this order:
--   4 of one byte      the kind, the side, the service and GUPP
--   15 of 21 bytes     the texts, each its length and its twenty bytes
--   7 of 8 bytes       the numbers, the least byte first
-- What is too great for its place is the most that the place holds. No record that may be written has such a field, and none that has
-- one comes back as a record that may be written (unpacked's specs/Back).
use Rattle.std.specs.Prelude.{ℕ, zero, suc, ◌+◌, ◌*◌, ◌/◌, ◌%◌, cond, leb, Option, Some, None}
use mathlib.Core.List.{List, [], ◌∷◌, ◌++◌, map, flatten}
use Rattle.text.specs.Texts.{Text}
use Rattle.calendar.specs.declared.Moment.{Moment}
use Rattle.trade.specs.declared.Kind.{Kind}
use Rattle.typed.specs.declared.Side.{Side}
use Rattle.trade.specs.declared.Service.{Service}
use Rattle.trade.specs.declared.Trade.{Trade}

unfoldable pub at_most : ℕ → ℕ → ℕ
at_most most n = cond (leb n most) n most

-- ---- a byte each: a code word is its place in its list, and 255 is no GUPP

unfoldable pub kind_byte : Kind → ℕ
kind_byte Kind.Inst = 0
kind_byte Kind.Canc = 1
kind_byte Kind.Mdfc = 2
kind_byte Kind.Tddk = 3

unfoldable pub side_byte : Side → ℕ
side_byte Side.Buyi = 0
side_byte Side.Sell = 1

unfoldable pub service_byte : Service → ℕ
service_byte Service.Sbod = 0
service_byte Service.Tftd = 1
service_byte Service.Stip = 2

unfoldable pub period_byte : Option ℕ → ℕ
period_byte None = 255
period_byte (Some n) = at_most 254 n

unfoldable pub codes : Trade → List ℕ
codes t = kind_byte t.kind ∷ side_byte t.side ∷ service_byte t.service ∷ period_byte t.period ∷ []

-- ---- the texts

unfoldable pub texts : Trade → List Text
texts t =
    t.password ∷ t.sender ∷ t.seme ∷ t.mast ∷ t.prev ∷ t.list
    ∷ t.buyer.code ∷ t.buyer.reference ∷ t.buyer.trader
    ∷ t.seller.code ∷ t.seller.reference ∷ t.seller.trader
    ∷ t.cusip ∷ t.pool ∷ t.reason ∷ []

unfoldable pub text_bytes : Text → List ℕ
text_bytes t = at_most 255 t.len ∷ t.bytes

-- ---- the numbers

-- a date and time as YYYYMMDDHHMMSS; PREP that is absent is 0
unfoldable pub moment_packed : Moment → ℕ
moment_packed m = at_most 18446744073709551615 (m.date.0 * 1000000 + at_most 999999 m.time.0)

unfoldable pub numbers : Trade → List ℕ
numbers t =
    moment_packed t.prep ∷ moment_packed t.trad ∷ t.sett.0
    ∷ t.price.0.number ∷ t.price.0.decimals
    ∷ t.par.0.number ∷ t.par.0.decimals ∷ []

-- the last so many bytes of a number, the least first
unfoldable pub number_bytes : ℕ → ℕ → List ℕ
number_bytes zero n = []
number_bytes (suc width) n = n % 256 ∷ number_bytes width (n / 256)

-- ---- all of them

unfoldable pub packed_of : Trade → List ℕ
packed_of t = codes t ++ (flatten (map text_bytes (texts t)) ++ flatten (map (number_bytes 8) (numbers t)))
