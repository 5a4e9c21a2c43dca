-- Request A3, "Worked cases": the values of R's slots and the record that is held of them; and some 23G and 25D with what is held of these.
use Rattle.std.specs.Prelude.{ℕ, ◌≡◌, Bool, true, false, cond, List, [], ◌∷◌, ◌++◌, map, eqb, replicate}
use Prim.Native.String.{String}
use Rattle.text.specs.Bytes.{bytes}
use Rattle.text.specs.Texts.{text_of}
use Rattle.text.specs.Texts.{Text}
use Rattle.remark.specs.Remarks.{remark_of}
use Rattle.answer.specs.Records.{function_slot, status_slot, receiver_slot, answer_of, no_reason}
use Rattle.answer.specs.declared.Reason.{Reason}
use Rattle.answer.specs.declared.Answer.{Answer}

-- values by their slots; a slot that is not named has none
unfoldable pub value_in : List (ℕ × String) → ℕ → List ℕ
value_in [] slot = []
value_in (row ∷ rows) slot = cond (eqb slot row.0) (bytes row.1) (value_in rows slot)

unfoldable pub filled : List (ℕ × String)
filled =
    (1, "RTTM0005")
    ∷ (function_slot, "INST")
    ∷ (3, "20240229093001")
    ∷ (4, "0017")
    ∷ (6, "0008")
    ∷ (7, "000001-1306")
    ∷ (status_slot, "IPRC//REJT")
    ∷ (12, "E001")
    ∷ (13, "GSCC/MDRJ")
    ∷ (14, "E016")
    ∷ (receiver_slot, "0017")
    ∷ []

abbrev text : String → Text
text s = text_of (bytes s)

abbrev reason : String → String → Reason
reason code said = record { code = text code; text = remark_of (bytes said) }

unfoldable pub r : Answer
r =
    record {
      copy = false;
      status = record { 0 = 1 };
      password = text "";
      receiver = text "0017";
      seme = text "RTTM0005";
      mast = text "0017";
      prev = text "";
      rela = text "0008";
      list = text "000001-1306";
      bask = text "";
      prog = text "";
      comm = text "";
      prep = record { date = record { 0 = 20240229 }; time = record { 0 = 93001 } };
      reasons = (reason "E001" "GSCC/MDRJ" ∷ reason "E016" "" ∷ []) ++ replicate {A = Reason} 8 no_reason;
    }

-- 23G and 25D, whether it is a copy, and the number of the status
unfoldable pub told : List (String × String × Bool × ℕ)
told =
    ("INST", "IPRC//PACK", false, 0)
    ∷ ("CAST", "CPRC//REJT", false, 15)
    ∷ ("CAST/COPY", "CPRC//CAND", true, 16)
    ∷ ("INST", "MTCH/GSCC/MAFM", false, 29)
    ∷ ("INST/COPY", "IPRC//GSCC/MODA", false, 0)
    ∷ []

abbrev pub Answered : Type 0
Answered =
    (answer_of (value_in filled) ≡ r)
    × (map (λ row. (answer_of (value_in ((function_slot, row.0) ∷ (status_slot, row.1) ∷ []))).copy) told ≡ map (λ row. row.2) told)
    × (map (λ row. (answer_of (value_in ((function_slot, row.0) ∷ (status_slot, row.1) ∷ []))).status.0) told ≡ map (λ row. row.3) told)
