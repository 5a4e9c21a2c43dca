-- Request A3, "Slots, in order": the table of an MT509 as the blocks that its rows make.
use Rattle.std.specs.Prelude.{ℕ, suc, true, false, List, [], ◌∷◌}
use Rattle.text.specs.Bytes.{bytes}
use Rattle.bars.specs.Bars.{only}
use Rattle.sheets.specs.Trees.{Field, Tree, last, line, block, group, barred}
use Rattle.sheets.specs.Notation.{must, may, field, link, repeated}
use Rattle.answer.specs.Records.{function_slot, status_slot}

-- a REAS, by the slot of its code: the code and, in the next slot, the text
abbrev pub reason : ℕ → List Field
reason code = field must code ":24B::REJT" ∷ field may (suc code) ":70D::REAS" ∷ []

-- the ten that may come
unfoldable pub reasons : List (List Field)
reasons =
    reason 12 ∷ reason 14 ∷ reason 16 ∷ reason 18 ∷ reason 20 ∷ reason 22 ∷ reason 24 ∷ reason 26 ∷ reason 28 ∷ reason 30 ∷ []

-- 25D is IPRC, CPRC or MTCH, and its value begins there; an eleventh REAS is 22
unfoldable pub status : Tree
status =
    barred (only (bytes "IPRCCPRCMTCH"))
    (line (field must status_slot ":25D::")
    (repeated 22 (bytes ":16R:REAS") (bytes ":16S:REAS") reasons
    (last (bytes ":16S:STAT"))))

unfoldable pub general : Tree
general =
    line (field must 1 ":20C::SEME")
    (line (field must function_slot ":23G:")
    (line (field may 3 ":98C::PREP")
    (group false true (bytes ":16R:LINK") (bytes ":16S:LINK")
    (link 4 ":20C::MAST" ∷ link 5 ":20C::PREV" ∷ link 6 ":20C::RELA" ∷ link 7 ":20C::LIST" ∷ link 8 ":20C::BASK" ∷ link 9 ":20C::PROG" ∷ link 10 ":20C::COMM" ∷ [])
    (block must (bytes ":16R:STAT") status
    (last (bytes ":16S:GENL"))))))

unfoldable pub tree : Tree
tree = block must (bytes ":16R:GENL") general (last (bytes "-"))
