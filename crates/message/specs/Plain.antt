-- Document 01, "Plain form, and the record": the plain form of an accepted MT515 is had from its text by four rules. Every line ends in
-- CR LF; LINK blocks stand as MAST, PREV, LIST; the buyer's block stands before the seller's; in an amount, needless noughts go.
-- Nothing else changes. The rules are format's specs/Plain with the blocks and amounts of values' specs/Mt515.
use Rattle.std.specs.Prelude.{ℕ, List}
use Rattle.format.specs.Plain as AnyType
use Rattle.values.specs.Mt515.{mt515}

abbrev pub plain_of : List ℕ → List ℕ
plain_of m = AnyType.plain_of mt515 m
