-- `typed::sides::side_in` meets its contract. Assumes nothing.
use Rattle.text.specs.Bytes.{bytes}
use Rattle.typed.proofs.SideWords.{side-is, side-else}
use Rattle.typed.proofs.sides.side_in.Goals as goal

pub returns-in-1 : goal.returns-in-1
unfolding bytes
returns-in-1 c = side-is _ _ c.word_at.ensures 1 c.in-1.is

pub returns-in_default : goal.returns-in_default
unfolding bytes
returns-in_default c = side-else _ _ c.word_at.ensures c.in_default.in_default-own.rest.1
