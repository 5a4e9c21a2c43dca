-- `typed::sides::side_word` meets its contract: each case has its word. Assumes nothing.
use mathlib.Core.Path.{refl}
use Rattle.text.specs.Bytes.{bytes}
use Rattle.typed.specs.Sides.{side_word}
use Rattle.typed.proofs.sides.side_word.Goals as goal

pub returns-in-Buyi : goal.returns-in-Buyi
unfolding side_word bytes
returns-in-Buyi c = rw c.in-Buyi.is refl

pub returns-in-Sell : goal.returns-in-Sell
unfolding side_word bytes
returns-in-Sell c = rw c.in-Sell.is refl
