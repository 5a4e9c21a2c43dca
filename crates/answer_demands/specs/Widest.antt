-- Request A3, "Writing, and the longest message": records with every field at its widest, and how long their messages are.
use Rattle.std.specs.Prelude.{ℕ, ◌≡◌, Bool, true, false, List, [], ◌∷◌, map, length, replicate}
use Prim.Native.String.{String}
use Rattle.text.specs.Bytes.{bytes}
use Rattle.text.specs.Texts.{text_of}
use Rattle.text.specs.Texts.{Text}
use Rattle.remark.specs.Remarks.{remark_of}
use Rattle.format.specs.Writing.{message_of, judge_of}
use Rattle.answer.specs.Records.{no_reason}
use Rattle.answer.specs.declared.Reason.{Reason}
use Rattle.answer.specs.declared.Answer.{Answer}
use Rattle.answer_values.specs.Mt509.{mt509}

abbrev text : String → Text
text s = text_of (bytes s)

-- by its status, the number in the list of statuses; whether it is a copy; and each of its reasons
unfoldable pub broad : ℕ → Bool → Reason → Answer
broad status copy reason =
    record {
      copy = copy;
      status = record { 0 = status };
      password = text "PASSWORD0012";
      receiver = text "RECEIVER";
      seme = text "SEME000000000016";
      mast = text "MAST000000000016";
      prev = text "PREV00000000-016";
      rela = text "RELA000000000016";
      list = text "LIST00000000-016";
      bask = text "BASK00000000-016";
      prog = text "PROG00000000-016";
      comm = text "COMM00000000-016";
      prep = record { date = record { 0 = 20240229 }; time = record { 0 = 93001 } };
      reasons = replicate {A = Reason} 10 reason;
    }

unfoldable pub said : Reason
said = record { code = text "E001"; text = remark_of (bytes "thirty-five bytes, and ~ among them") }

-- both rejects; CPRC//CAND as a copy; and a status with an issuer
unfoldable pub widest : List (Answer × ℕ)
widest = (broad 1 false said, 1476) ∷ (broad 15 false said, 1476) ∷ (broad 16 true no_reason, 551) ∷ (broad 2 false no_reason, 550) ∷ []

-- each may be written, and its message is as long as that
abbrev pub Measured : Type 0
Measured =
    (map (λ row. judge_of mt509 row.0) widest ≡ map (λ row. 0) widest)
    × (map (λ row. length (message_of mt509 row.0)) widest ≡ map (λ row. row.1) widest)
