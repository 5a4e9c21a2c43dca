-- `answer::reasons_in` meets its contract. The loop's invariant: the first reasons are there, and blank ones behind them. Assumes nothing.
use Prim.Native.Nat.{◌≤◌}
use mathlib.Core.Path.{◌≡◌}
use Rattle.stretches.specs.Stretches.{stretch_of}
use Rattle.answer.proofs.Reasons.{so_far}
use Rattle.answer.proofs.reasons_in.Given as goal

abbrev pub invariant-loop-k : goal.invariant-loop-k
invariant-loop-k l = l.reason-items ≡ so_far (stretch_of l.message l.starts l.ends) l.k
