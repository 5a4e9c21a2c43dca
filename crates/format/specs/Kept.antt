-- Where the values of a message of any type stand.
use Rattle.std.specs.Prelude.{ℕ, cond, List, eqb}
use Rattle.sheets.specs.Trees.{table_of}
use Rattle.walk.specs.declared.Body.{Body}
use Rattle.reader.specs.Take.{placeless, take_of}
use Rattle.format.specs.Format.{Format}
use Rattle.format.specs.Reading.{verdict_of}

module _ (F : Format) where
  -- a message up to its values: the verdict of 1 to 12, and where the value of each slot begins and ends
  abbrev pub taken : List ℕ → Body
  taken m = take_of (table_of F.tree) F.slot_of F.header m

  -- where the values of an accepted message stand, as the passes keep them; a refusal keeps no places
  unfoldable pub kept_of : List ℕ → Body
  kept_of m = let v = verdict_of F m in cond (eqb v.number 0) (taken m) (placeless v)
