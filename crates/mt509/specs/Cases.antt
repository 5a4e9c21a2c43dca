-- Request A3, "Worked cases": R and what is done to it, in one table.
use Rattle.std.specs.Prelude.{ℕ, zero, suc, ◌-◌, ◌≡◌, List, [], ◌∷◌, ◌++◌, map, length, replicate, take, drop}
use Prim.Native.String.{String}
use Rattle.lines.specs.Verdicts.{refused}
use Rattle.format.specs.Changes.{ended, without, with, behind, exchanged}
use Rattle.format.specs.Reading.{verdict_of, read_of}
use Rattle.format.specs.Plain.{plain_of}
use Rattle.answer.specs.Cases.{r as answer_of_r}
use Rattle.answer_values.specs.Mt509.{mt509}

unfoldable pub r : List String
r =
    "" ∷ "MBSCTRRS" ∷ "509/000/GSCC" ∷ "0017"
    ∷ ":16R:GENL"
    ∷ ":20C::SEME//RTTM0005"
    ∷ ":23G:INST"
    ∷ ":98C::PREP//20240229093001"
    ∷ ":16R:LINK"
    ∷ ":20C::RELA//0008"
    ∷ ":16S:LINK"
    ∷ ":16R:LINK"
    ∷ ":20C::MAST//0017"
    ∷ ":16S:LINK"
    ∷ ":16R:LINK"
    ∷ ":20C::LIST//000001-1306"
    ∷ ":16S:LINK"
    ∷ ":16R:STAT"
    ∷ ":25D::IPRC//REJT"
    ∷ ":16R:REAS"
    ∷ ":24B::REJT/GSCC/E001"
    ∷ ":70D::REAS//GSCC/MDRJ"
    ∷ ":16S:REAS"
    ∷ ":16R:REAS"
    ∷ ":24B::REJT/GSCC/E016"
    ∷ ":16S:REAS"
    ∷ ":16S:STAT"
    ∷ ":16S:GENL"
    ∷ "-"
    ∷ []

-- ---- what is done to lines from one to another, beside format's specs/Changes: they are taken out, or moved behind a later one

unfoldable pub removed : ℕ → ℕ → List String → List String
removed from to ls = take (from - 1) ls ++ drop to ls

unfoldable pub moved : ℕ → ℕ → ℕ → List String → List String
moved from to later ls = removed from to (behind later (drop (from - 1) (take to ls)) ls)

-- R with so many more REAS behind its two
unfoldable pub reasons : ℕ → List String
reasons zero = []
reasons (suc n) = ":16R:REAS" ∷ ":24B::REJT/GSCC/E002" ∷ ":16S:REAS" ∷ reasons n

abbrev more : ℕ → List String
more n = behind 26 (reasons n) r

-- another 23G, another status, another text of the first REAS, and both REAS gone
abbrev function : String → List String → List String
function l m = with 7 l m

abbrev status : String → List String → List String
status l m = with 19 l m

abbrev text : String → List String
text l = with 22 l r

abbrev bare : List String → List String
bare m = removed 20 26 m

-- a message, and the number and line that it gets
unfoldable pub cases : List (List String × ℕ × ℕ)
cases =
    (r, 0, 0)
    -- the header
    ∷ (with 2 "GSCCTRRS" r, 4, 2)
    ∷ (with 3 "515/000/GSCC" r, 4, 3)
    ∷ (with 4 "123456789" r, 4, 4)
    -- LINK
    ∷ (behind 17 (":16R:LINK" ∷ ":20C::RELA//0008" ∷ ":16S:LINK" ∷ []) r, 8, 19)
    ∷ (with 10 ":20C::INDX//1" r, 8, 10)
    ∷ (removed 9 17 r, 0, 0)
    ∷ (moved 9 11 27 r, 8, 25)
    -- STAT and 25D
    ∷ (removed 18 27 r, 9, 18)
    ∷ (without 19 r, 9, 19)
    ∷ (status ":25D::XPRC//REJT" r, 8, 19)
    ∷ (status ":25D::XPRC//REJT" (with 8 ":98C::PREP//20240230093001" r), 8, 19)
    ∷ (status ":25D::IPRC//REJX" r, 10, 19)
    ∷ (bare (status ":25D::IPRC//GSCC/MODA" r), 10, 19)
    ∷ (status ":25D::MTCH//PACK" r, 10, 19)
    ∷ (behind 19 (":25D::IPRC//REJT" ∷ []) r, 8, 20)
    ∷ (behind 27 (":16R:STAT" ∷ ":25D::IPRC//REJT" ∷ ":16S:STAT" ∷ []) r, 8, 28)
    -- REAS: ten in all, and eleven
    ∷ (more 8, 0, 0)
    ∷ (more 9, 22, 51)
    ∷ (with 21 ":24B::REJT/GSCC/E01" (more 9), 22, 51)
    ∷ (without 25 (more 9), 9, 25)
    ∷ (moved 24 26 27 r, 8, 25)
    ∷ (exchanged 21 r, 9, 21)
    ∷ (without 21 r, 9, 21)
    ∷ (behind 22 (":70D::REAS//GSCC/MDRJ" ∷ []) r, 8, 23)
    -- their codes and texts: 35 characters, and 36
    ∷ (with 21 ":24B::REJT//E001" r, 10, 21)
    ∷ (with 21 ":24B::REJT/GSCC/ZZZ9" r, 0, 0)
    ∷ (text ":70D::REAS//DKRJ", 0, 0)
    ∷ (text ":70D::REAS//the instruction of 0017 is too late", 0, 0)
    ∷ (text ":70D::REAS//the instruction of 0017 is too late.", 10, 22)
    ∷ (text ":70D::REAS//", 10, 22)
    -- the references
    ∷ (with 13 ":20C::MAST//00-17" r, 10, 13)
    ∷ (with 16 ":20C::LIST//-" r, 0, 0)
    -- the rules by status
    ∷ (function ":23G:CAST" r, 13, 0)
    ∷ (function ":23G:CAST" (status ":25D::CPRC//REJT" r), 0, 0)
    ∷ (function ":23G:CAST/COPY" (status ":25D::CPRC//REJT" r), 15, 0)
    ∷ (bare (function ":23G:CAST/COPY" (status ":25D::CPRC//CAND" r)), 0, 0)
    ∷ (function ":23G:CAST/COPY" r, 13, 0)
    ∷ (bare r, 14, 0)
    ∷ (status ":25D::IPRC//PACK" r, 15, 0)
    ∷ (bare (status ":25D::IPRC//PACK" r), 0, 0)
    -- PREP
    ∷ (without 8 r, 0, 0)
    ∷ (with 8 ":98C::PREP//20240230093001" r, 12, 8)
    -- nothing behind the header
    ∷ (removed 5 28 r, 9, 5)
    ∷ []

-- each message gets the number and line beside it; R's record, with LF and with CR LF, is that of answer's table; R has 396 bytes, and in its
-- plain form the MAST block stands before the RELA block
pub record Answered : Type 0 where
  pub verdicts : map (λ row. verdict_of mt509 (ended "\n" row.0)) cases ≡ map (λ row. refused row.1 row.2) cases
  pub endings : map (λ ending. read_of mt509 (ended ending r)) ("\n" ∷ "\r\n" ∷ []) ≡ replicate 2 (record { number = 0; line = 0; held = answer_of_r })
  pub lengths : length (ended "\r\n" r) ≡ 396
  pub plain : plain_of mt509 (ended "\n" r) ≡ ended "\r\n" (moved 9 11 14 r)
