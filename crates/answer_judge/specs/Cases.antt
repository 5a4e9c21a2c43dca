-- Request A3, "Worked cases": R's record and records that differ from it in a field or two, with the number that each gets by itself.
use Rattle.std.specs.Prelude.{ℕ, ◌≡◌, Bool, true, false, List, [], ◌∷◌, ◌++◌, map, replicate}
use Prim.Native.String.{String}
use Rattle.text.specs.Bytes.{bytes}
use Rattle.text.specs.Texts.{text_of}
use Rattle.text.specs.Texts.{Text}
use Rattle.remark.specs.Remarks.{remark_of}
use Rattle.status.specs.Statuses.{status_of}
use Rattle.answer.specs.Records.{no_reason, blank_answer}
use Rattle.answer.specs.Cases.{r}
use Rattle.answer.specs.declared.Reason.{Reason}
use Rattle.answer.specs.declared.Answer.{Answer}
use Rattle.answer_judge.specs.Judging.{judge_of}

abbrev text : String → Text
text s = text_of (bytes s)

-- a reason, by its code and its text
abbrev said : String → String → Reason
said code words = record { code = text code; text = remark_of (bytes words) }

-- by its code, and a text that no literal has
abbrev unprinted : String → List ℕ → Reason
unprinted code words = record { code = text code; text = remark_of words }

-- two reasons, and no other
abbrev two : Reason → Reason → List Reason
two first second = (first ∷ second ∷ []) ++ replicate {A = Reason} 8 no_reason

abbrev none : List Reason
none = replicate {A = Reason} 10 no_reason

-- R's record with what the rules look at: whether it is a copy, the status and the reasons
unfoldable pub ruled : Bool → String → List Reason → Answer
ruled copy status reasons =
    record {
      copy = copy;
      status = status_of (bytes status);
      password = r.password;
      receiver = r.receiver;
      seme = r.seme;
      mast = r.mast;
      prev = r.prev;
      rela = r.rela;
      list = r.list;
      bask = r.bask;
      prog = r.prog;
      comm = r.comm;
      prep = r.prep;
      reasons = reasons;
    }

-- R's record with another number of the status, receiver, SEME, MAST and PREV, and another date and time in PREP
unfoldable pub told : ℕ → String → String → String → String → ℕ → ℕ → Answer
told status receiver seme mast prev date time =
    record {
      copy = r.copy;
      status = record { 0 = status };
      password = r.password;
      receiver = text receiver;
      seme = text seme;
      mast = text mast;
      prev = text prev;
      rela = r.rela;
      list = r.list;
      bask = r.bask;
      prog = r.prog;
      comm = r.comm;
      prep = record { date = record { 0 = date }; time = record { 0 = time } };
      reasons = r.reasons;
    }

-- the reject with every field at its widest
unfoldable pub widest : Answer
widest =
    let own = text "ABCDEFGHIJKL0123" in
    let house = text "000001-13060-123" in
    record {
      copy = false;
      status = r.status;
      password = text "ABCDEFGH0123";
      receiver = text "ABCD0123";
      seme = own;
      mast = own;
      prev = house;
      rela = own;
      list = house;
      bask = house;
      prog = house;
      comm = house;
      prep = r.prep;
      reasons = replicate {A = Reason} 10 (said "E001" "~ of thirty-five bytes, lower case~");
    }

unfoldable pub cases : List (Answer × ℕ)
cases =
    (r, 0)
    ∷ (widest, 0)
    ∷ (blank_answer, 18)
    -- what must be there, a number of a status, and PREP, which is absent or a date and time
    ∷ (told 1 "0017" "RTTM0005" "0017" "" 20240229 93001, 0)
    ∷ (told 1 "" "RTTM0005" "0017" "" 20240229 93001, 18)
    ∷ (told 1 "0017" "" "0017" "" 20240229 93001, 18)
    ∷ (told 29 "0017" "RTTM0005" "0017" "" 20240229 93001, 15)
    ∷ (told 30 "0017" "RTTM0005" "0017" "" 20240229 93001, 18)
    ∷ (told 1 "0017" "RTTM0005" "0017" "" 20240230 93001, 18)
    ∷ (told 1 "0017" "RTTM0005" "0017" "" 0 0, 0)
    ∷ (told 1 "0017" "RTTM0005" "0017" "" 0 93001, 18)
    -- the references of the clearing house may have a hyphen, and no other
    ∷ (told 1 "0017" "RTTM0005" "00-17" "" 20240229 93001, 18)
    ∷ (told 1 "0017" "RTTM0005" "0017" "00-17" 20240229 93001, 0)
    -- the reasons stand without a gap, and a text only where its reason stands
    ∷ (ruled false "IPRC//REJT" (two no_reason (said "E016" "")), 18)
    ∷ (ruled false "IPRC//REJT" (two (said "E001" "GSCC/MDRJ") (said "" "MDRJ")), 18)
    ∷ (ruled false "IPRC//REJT" (two (said "E001" "~ ~") (said "E016" "")), 0)
    ∷ (ruled false "IPRC//REJT" (two (unprinted "E001" (127 ∷ [])) (said "E016" "")), 18)
    -- the rules by status
    ∷ (ruled false "IPRC//REJT" none, 14)
    ∷ (ruled true "IPRC//REJT" none, 14)
    ∷ (ruled true "IPRC//REJT" r.reasons, 15)
    ∷ (ruled false "IPRC//PACK" r.reasons, 15)
    -- 18 comes first
    ∷ (ruled false "IPRC//PACK" (two (said "E001" "GSCC/MDRJ") (said "E16" "")), 18)
    ∷ []

-- each record gets the number beside it
abbrev pub Answered : Type 0
Answered = map (λ row. judge_of row.0) cases ≡ map (λ row. row.1) cases
