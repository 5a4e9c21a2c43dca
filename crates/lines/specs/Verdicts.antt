-- Document 01, "Numbers the desk gets back": a read answers a number and a line, and its passes come one after the other.
use Rattle.std.specs.Prelude.{ℕ, Bool, true, false, cond, eqb}
use Rattle.lines.specs.declared.Verdict.{Verdict}

unfoldable pub refused : ℕ → ℕ → Verdict
refused number line = record { number = number; line = line }

-- nothing found wrong
unfoldable pub pass : Verdict
pass = refused 0 0

-- a pass that finds something wrong stops the passes behind it
unfoldable pub then : Verdict → Verdict → Verdict
then v w = cond (eqb v.number 0) w v

-- a number of line 0, where its rule is broken
unfoldable pub when : Bool → ℕ → Verdict
when true number = refused number 0
when false number = pass
