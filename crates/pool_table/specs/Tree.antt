-- Request A1, "Slots, in order": the table of a pool message as the blocks that its rows make.
use Rattle.std.specs.Prelude.{ℕ, true, false, [], ◌∷◌}
use Prim.Native.String.{String}
use Rattle.text.specs.Bytes.{bytes}
use Rattle.sheets.specs.Trees.{Member, Tree, last, line, block, group}
use Rattle.sheets.specs.Notation.{must, may, field, link}
use Rattle.pool_trade.specs.Records.{narrative_slot}
use Rattle.pool_table.specs.Table.{trtr_slot, paym_slot}

-- a party, with its contra reference
abbrev pub party : ℕ → String → ℕ → Member
party s k reference = record { slot = s; key = bytes k; inside = field may reference ":20C::PROC" ∷ [] }

unfoldable pub general : Tree
general =
    line (field must 1 ":20C::SEME")
    (line (field must 2 ":23G:")
    (line (field must trtr_slot ":22F::TRTR")
    (group false true (bytes ":16R:LINK") (bytes ":16S:LINK") (link 3 ":20C::MAST" ∷ link 4 ":20C::PREV" ∷ link 5 ":20C::LIST" ∷ [])
    (last (bytes ":16S:GENL")))))

unfoldable pub security : Tree
security = line (field must 18 ":13B::POOL") (last (bytes ":16S:FIA"))

unfoldable pub details : Tree
details =
    line (field must 6 ":98C::TRAD")
    (line (field must 7 ":98A::SETT")
    (line (field must 8 ":90A::DEAL")
    (line (field may 9 ":19A::SETT")
    (line (field must 10 ":22H::BUSE")
    (line (field must 11 ":22F::PROC")
    (line (field must paym_slot ":22H::PAYM")
    (group true false (bytes ":16R:CONFPRTY") (bytes ":16S:CONFPRTY") (party 12 ":95R::BUYR" 13 ∷ party 14 ":95R::SELL" 15 ∷ [])
    (line (field must 16 ":36B::CONF")
    (line (field must 17 ":35B:")
    (block may (bytes ":16R:FIA") security
    (line (field must narrative_slot ":70E::TPRO")
    (last (bytes ":16S:CONFDET")))))))))))))

unfoldable pub tree : Tree
tree = block must (bytes ":16R:GENL") general (block must (bytes ":16R:CONFDET") details (last (bytes "-")))
