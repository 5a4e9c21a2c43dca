-- Worked cases of a block that may repeat, and of a line that is one of some by its qualifier, in a message of seven rows: a 25D that is
-- IPRC or MTCH, and REAS at most twice.
use Rattle.std.specs.Prelude.{ℕ, ◌≡◌, List, [], ◌∷◌, map}
use Prim.Native.String.{String}
use Rattle.text.specs.Bytes.{bytes}
use Rattle.bars.specs.Bars.{only}
use Rattle.layout.specs.Layout.{Taken, Run, refused_at, taken}
use Rattle.sheets.specs.Trees.{Tree, last, line, barred}
use Rattle.sheets.specs.Notation.{must, may, field, repeated}
use Rattle.sheets.specs.Taking.{taken_by}

unfoldable pub tree : Tree
tree =
    barred (only (bytes "IPRCMTCH"))
    (line (field must 1 ":25D::")
    (repeated 22 (bytes ":16R:REAS") (bytes ":16S:REAS")
    ((field must 2 ":24B::REJT" ∷ field may 3 ":70D::REAS" ∷ []) ∷ (field must 4 ":24B::REJT" ∷ field may 5 ":70D::REAS" ∷ []) ∷ [])
    (last (bytes "-"))))

-- what the lines come to, counted from 1
unfoldable pub taking : List String → Run
taking ls = taken_by tree 1 (map bytes ls)

-- a line that is taken for a slot
abbrev pub slot : ℕ → ℕ → String → Taken
slot s n value = record { slot = s; line = n; value = bytes value }

pub record Cases : Type 0 where
  -- a REAS is told by its place: the first has slots 2 and 3, the second 4 and 5
  pub none : taking (":25D::IPRC//PACK" ∷ "-" ∷ []) ≡ taken (slot 1 1 "IPRC//PACK" ∷ [])
  pub one : taking (":25D::MTCH//MACH" ∷ ":16R:REAS" ∷ ":24B::REJT//E001" ∷ ":16S:REAS" ∷ "-" ∷ []) ≡ taken (slot 1 1 "MTCH//MACH" ∷ slot 2 3 "//E001" ∷ [])
  pub two : taking (":25D::IPRC//REJT" ∷ ":16R:REAS" ∷ ":24B::REJT//E001" ∷ ":16S:REAS" ∷ ":16R:REAS" ∷ ":24B::REJT//E016" ∷ ":70D::REAS//X" ∷ ":16S:REAS" ∷ "-" ∷ [])
      ≡ taken (slot 1 1 "IPRC//REJT" ∷ slot 2 3 "//E001" ∷ slot 4 6 "//E016" ∷ slot 5 7 "//X" ∷ [])
  -- a third gets its number, at its first line
  pub three : taking (":25D::IPRC//REJT" ∷ ":16R:REAS" ∷ ":24B::REJT//E001" ∷ ":16S:REAS" ∷ ":16R:REAS" ∷ ":24B::REJT//E016" ∷ ":16S:REAS" ∷ ":16R:REAS" ∷ "-" ∷ [])
      ≡ refused_at 22 8
  -- the first faulty line decides
  pub lacking : taking (":25D::IPRC//REJT" ∷ ":16R:REAS" ∷ ":16S:REAS" ∷ ":16R:REAS" ∷ ":16R:REAS" ∷ ":16R:REAS" ∷ "-" ∷ []) ≡ refused_at 9 3
  -- another qualifier fits no slot, and so does the line when it comes again
  pub other : taking (":25D::CPRC//PACK" ∷ "-" ∷ []) ≡ refused_at 8 1
  pub short : taking (":25D::IPR" ∷ "-" ∷ []) ≡ refused_at 8 1
  pub again : taking (":25D::IPRC//PACK" ∷ ":25D::IPRC//PACK" ∷ "-" ∷ []) ≡ refused_at 8 2
  -- it must come
  pub absent : taking ("-" ∷ []) ≡ refused_at 9 1
  pub late : taking (":16R:REAS" ∷ []) ≡ refused_at 9 1
