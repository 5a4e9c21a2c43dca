-- Document 01, "Order in writing": the numbers of a write that a record shows by itself, of the MT515.
--   18  a record field is outside its slot's values or the forms of the record
--   14 to 17  the rules of the kinds
--   20  the narrative is over 35 characters, counted from `GSCC`
use Rattle.std.specs.Prelude.{ℕ}
use Rattle.format.specs.Writing as AnyType
use Rattle.trade.specs.declared.Trade.{Trade}
use Rattle.values.specs.Mt515.{mt515}

-- the first of them, or 0
abbrev pub judge_of : Trade → ℕ
judge_of t = AnyType.judge_of mt515 t
