-- Document 01, "The slots, in order": the table of the MT515 as the blocks that its rows make.
use Rattle.std.specs.Prelude.{ℕ, true, false, [], ◌∷◌}
use Prim.Native.String.{String}
use Rattle.text.specs.Bytes.{bytes}
use Rattle.sheets.specs.Trees.{Member, Tree, last, line, block, group}
use Rattle.sheets.specs.Notation.{must, may, field, link}
use Rattle.trade.specs.Records.{narrative_slot}
use Rattle.table.specs.Table.{trtr_slot, paym_slot}

-- a party, with its contra reference and its trader
abbrev pub party : ℕ → String → ℕ → ℕ → Member
party s k reference trader = record { slot = s; key = bytes k; inside = field may reference ":20C::PROC" ∷ field may trader ":70C::PACO" ∷ [] }

unfoldable pub general : Tree
general =
    line (field must 1 ":20C::SEME")
    (line (field must 2 ":23G:")
    (line (field may 3 ":98C::PREP")
    (line (field must trtr_slot ":22F::TRTR")
    (group false true (bytes ":16R:LINK") (bytes ":16S:LINK") (link 4 ":20C::MAST" ∷ link 5 ":20C::PREV" ∷ link 6 ":20C::LIST" ∷ [])
    (last (bytes ":16S:GENL"))))))

unfoldable pub pool : Tree
pool = line (field must 20 ":13B::POOL") (last (bytes ":16S:FIA"))

unfoldable pub details : Tree
details =
    line (field must 7 ":98C::TRAD")
    (line (field must 8 ":98A::SETT")
    (line (field must 9 ":90A::DEAL")
    (line (field must 10 ":22H::BUSE")
    (line (field must 11 ":22F::PROC")
    (line (field must paym_slot ":22H::PAYM")
    (group true false (bytes ":16R:CONFPRTY") (bytes ":16S:CONFPRTY") (party 12 ":95R::BUYR" 13 14 ∷ party 15 ":95R::SELL" 16 17 ∷ [])
    (line (field must 18 ":36B::CONF")
    (line (field must 19 ":35B:")
    (block may (bytes ":16R:FIA") pool
    (line (field must narrative_slot ":70E::TPRO")
    (last (bytes ":16S:CONFDET"))))))))))))

unfoldable pub tree : Tree
tree = block must (bytes ":16R:GENL") general (block must (bytes ":16R:CONFDET") details (last (bytes "-")))
