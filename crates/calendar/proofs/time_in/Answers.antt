-- `calendar::time_in` meets its contract. Assumes nothing.
use Rattle.calendar.proofs.Parts.{hour-wrong, minute-wrong, second-wrong, time-good}
use Rattle.calendar.proofs.time_in.Goals as goal

pub returns-then-hour-gt23 : goal.returns-then-hour-gt23
returns-then-hour-gt23 c = hour-wrong c.args.part.now c.requires.0 _ _ _ c.pair-hour.ensures c.pair-minute.ensures c.pair-second.ensures c.if-hour-gt23.true

pub returns-then-minute-gt59 : goal.returns-then-minute-gt59
returns-then-minute-gt59 c = minute-wrong c.args.part.now c.requires.0 _ _ _ c.pair-hour.ensures c.pair-minute.ensures c.pair-second.ensures c.if-hour-gt23.false c.if-minute-gt59.true

pub returns-then-second-gt59 : goal.returns-then-second-gt59
returns-then-second-gt59 c = second-wrong c.args.part.now c.requires.0 _ _ _ c.pair-hour.ensures c.pair-minute.ensures c.pair-second.ensures c.if-hour-gt23.false c.if-minute-gt59.false c.if-second-gt59.true

pub returns : goal.returns
returns c = time-good c.args.part.now c.requires.0 _ _ _ c.pair-hour.ensures c.pair-minute.ensures c.pair-second.ensures c.if-hour-gt23.false c.if-minute-gt59.false c.if-second-gt59.false
