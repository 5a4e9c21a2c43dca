-- What callers cite of a write: a writable record shows no number by itself.
-- Assumes nothing.
use mathlib.Core.Path.{◌≡◌}
use mathlib.Core.Bool.{true}
use Rattle.format.proofs.Demands as Demands
use Rattle.trade.specs.declared.Trade.{Trade}
use Rattle.values.specs.Mt515.{mt515}
use Rattle.judge.specs.Judging.{judge_of}
use Rattle.message.specs.Writing.{writable}

pub writable-judged : (t : Trade) → writable t ≡ true → judge_of t ≡ 0
writable-judged t h = Demands.writable-judged mt515 t h
