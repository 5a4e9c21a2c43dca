-- `answer_listing::put_codes` meets its contract. The loop's invariant: to put all codes is to put those that are left, behind what was
-- put; each that was put took 21 bytes at most. Assumes nothing.
use Prim.Native.Nat.{◌≤◌, ◌+◌, ◌*◌}
use mathlib.Core.Path.{◌≡◌}
use mathlib.Core.List.{flatten}
use lib.ListN.{length}
use Rattle.answer_listing.specs.Rows.{codes_of}
use Rattle.answer_listing.specs.Composed.{code_parts}
use Rattle.answer_listing.proofs.Laws.{codes_from, Going}
use Rattle.answer_listing.proofs.put_codes.Given as goal

abbrev pub invariant-loop-number : goal.invariant-loop-number
invariant-loop-number l =
    Going l.initial.line l.at (code_parts 32 (codes_of l.answer)) l.line l.end (code_parts l.between (codes_from l.answer l.number))
    × (length (flatten (code_parts 32 (codes_of l.answer))) ≤ 21 * l.number + length (flatten (code_parts l.between (codes_from l.answer l.number))))
    × (length l.line ≡ length l.initial.line)
