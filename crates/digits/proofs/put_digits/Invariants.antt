-- `digits::put_digits` meets its contract. The loop's invariant: with the digits that are left put too, the buffer is as promised.
-- Assumes nothing.
use mathlib.Core.Path.{◌≡◌}
use Rattle.text.specs.Copy.{over}
use Rattle.digits.specs.Numerals.{digits}
use Rattle.digits.proofs.put_digits.Given as goal

abbrev pub invariant-loop-left : goal.invariant-loop-left
invariant-loop-left l = over l.buf l.at (digits l.left l.rest) ≡ over l.initial.buf l.at (digits l.width l.number)
