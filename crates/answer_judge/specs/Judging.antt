-- Request A3, "Writing": the numbers of a write that a record shows by itself, of an answer.
--   18  a record field is outside its slot's values or the forms of the record
--   14 and 15  the rules by status
use Rattle.std.specs.Prelude.{ℕ}
use Rattle.format.specs.Writing as AnyType
use Rattle.answer.specs.declared.Answer.{Answer}
use Rattle.answer_values.specs.Mt509.{mt509}

-- the first of them, or 0
abbrev pub judge_of : Answer → ℕ
judge_of a = AnyType.judge_of mt509 a
