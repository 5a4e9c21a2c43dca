-- `pool_trade::words::kind_in` meets its contract. Assumes nothing.
use Rattle.text.specs.Bytes.{bytes}
use Rattle.pool_trade.proofs.CodeWords.{kind-is, kind-else}
use Rattle.std.proofs.Common.{arith}
use Rattle.pool_trade.proofs.words.kind_in.Goals as goal

pub returns-in-1 : goal.returns-in-1
unfolding bytes
returns-in-1 c = kind-is _ _ c.word_at.ensures 1 c.in-1.is

pub returns-in-2 : goal.returns-in-2
unfolding bytes
returns-in-2 c = kind-is _ _ c.word_at.ensures 2 c.in-2.is

pub returns-in-3 : goal.returns-in-3
unfolding bytes
returns-in-3 c = kind-is _ _ c.word_at.ensures 3 c.in-3.is

pub returns-in-4 : goal.returns-in-4
unfolding bytes
returns-in-4 c = kind-is _ _ c.word_at.ensures 4 c.in-4.is

pub returns-in-5 : goal.returns-in-5
unfolding bytes
returns-in-5 c = kind-is _ _ c.word_at.ensures 5 c.in-5.is

pub returns-in_default : goal.returns-in_default
unfolding bytes
returns-in_default c =
    kind-else _ _ c.word_at.ensures (omega arith) (omega arith) (omega arith) (omega arith) (omega arith)
