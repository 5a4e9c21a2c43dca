-- Request A3, "Worked cases": the lines of R's record, which are R's with the MAST block before the RELA block; and what is done to the
-- record, with what writing it into so much room answers.
use Rattle.std.specs.Prelude.{ℕ, ◌≡◌, true, false, List, [], ◌∷◌, ◌++◌, map, replicate}
use Prim.Native.String.{String}
use Rattle.text.specs.Bytes.{bytes}
use Rattle.text.specs.Texts.{text_of}
use Rattle.remark.specs.Remarks.{remark_of}
use Rattle.format.specs.Writing.{lines_for, write_number, write_length}
use Rattle.answer.specs.Records.{no_reason, blank_answer}
use Rattle.answer.specs.Cases.{r}
use Rattle.answer.specs.declared.Reason.{Reason}
use Rattle.answer.specs.declared.Answer.{Answer}
use Rattle.answer_values.specs.Mt509.{mt509}
use Rattle.answer_judge.specs.Cases.{ruled, told, widest}

-- a reason, by its code and the bytes of its text
abbrev said : String → List ℕ → Reason
said code words = record { code = text_of (bytes code); text = remark_of words }

-- two reasons, and no other
abbrev two : Reason → Reason → List Reason
two first second = (first ∷ second ∷ []) ++ replicate {A = Reason} 8 no_reason

abbrev none : List Reason
none = replicate {A = Reason} 10 no_reason

-- the lines of R's message
unfoldable pub lines_of_r : List String
lines_of_r =
    "" ∷ "MBSCTRRS" ∷ "509/000/GSCC" ∷ "0017"
    ∷ ":16R:GENL" ∷ ":20C::SEME//RTTM0005" ∷ ":23G:INST" ∷ ":98C::PREP//20240229093001"
    ∷ ":16R:LINK" ∷ ":20C::MAST//0017" ∷ ":16S:LINK"
    ∷ ":16R:LINK" ∷ ":20C::RELA//0008" ∷ ":16S:LINK"
    ∷ ":16R:LINK" ∷ ":20C::LIST//000001-1306" ∷ ":16S:LINK"
    ∷ ":16R:STAT" ∷ ":25D::IPRC//REJT"
    ∷ ":16R:REAS" ∷ ":24B::REJT/GSCC/E001" ∷ ":70D::REAS//GSCC/MDRJ" ∷ ":16S:REAS"
    ∷ ":16R:REAS" ∷ ":24B::REJT/GSCC/E016" ∷ ":16S:REAS"
    ∷ ":16S:STAT" ∷ ":16S:GENL" ∷ "-" ∷ []

-- a record and the bytes of a buffer, with the number and the length of writing it there
unfoldable pub writes : List (Answer × ℕ × ℕ × ℕ)
writes =
    (r, 396, 0, 396)
    ∷ (r, 395, 19, 0)
    ∷ (widest, 1476, 0, 1476)
    ∷ (widest, 1475, 19, 0)
    -- the receiver absent, PREP no date, and a hyphen in MAST, which is the member's own, and in PREV
    ∷ (told 1 "" "RTTM0005" "0017" "" 20240229 93001, 1476, 18, 0)
    ∷ (told 1 "0017" "RTTM0005" "0017" "" 20240230 93001, 1476, 18, 0)
    ∷ (told 1 "0017" "RTTM0005" "00-17" "" 20240229 93001, 1476, 18, 0)
    ∷ (told 1 "0017" "RTTM0005" "0017" "00-17" 20240229 93001, 1476, 0, 437)
    -- the reasons
    ∷ (ruled false "IPRC//REJT" (two no_reason (said "E016" [])), 1476, 18, 0)
    ∷ (ruled false "IPRC//REJT" (two (said "E001" (bytes "GSCC/MDRJ")) (said "" (bytes "MDRJ"))), 1476, 18, 0)
    ∷ (ruled false "IPRC//REJT" (two (said "E001" (bytes "~ ~")) (said "E016" [])), 1476, 0, 390)
    ∷ (ruled false "IPRC//REJT" (two (said "E001" (127 ∷ [])) (said "E016" [])), 1476, 18, 0)
    -- the rules by status, and 18 before them
    ∷ (ruled false "IPRC//REJT" none, 1476, 14, 0)
    ∷ (ruled true "IPRC//REJT" none, 1476, 14, 0)
    ∷ (ruled true "IPRC//REJT" r.reasons, 1476, 15, 0)
    ∷ (ruled false "IPRC//PACK" r.reasons, 1476, 15, 0)
    ∷ (ruled false "IPRC//PACK" (two (said "E001" (bytes "GSCC/MDRJ")) (said "E16" [])), 1476, 18, 0)
    ∷ (blank_answer, 1476, 18, 0)
    ∷ []

pub record Answered : Type 0 where
  pub lines : lines_for mt509 r ≡ map bytes lines_of_r
  -- each write gets what stands beside it
  pub numbers : map (λ row. write_number mt509 row.0 row.1) writes ≡ map (λ row. row.2) writes
  pub written : map (λ row. write_length mt509 row.0 row.1) writes ≡ map (λ row. row.3) writes
