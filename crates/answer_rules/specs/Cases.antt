-- Request A3, "Worked cases": R and its neighbours, as far as the rules by status look at them, as messages and as records.
use Rattle.std.specs.Prelude.{ℕ, ◌≡◌, Bool, true, false, List, [], ◌∷◌, map}
use Prim.Native.String.{String}
use Rattle.text.specs.Bytes.{bytes}
use Rattle.lines.specs.Verdicts.{refused}
use Rattle.answer.specs.Records.{function_slot, status_slot, answer_of}
use Rattle.answer.specs.Cases.{value_in}
use Rattle.answer.specs.declared.Answer.{Answer}
use Rattle.answer_rules.specs.Rules.{record_pass, answer_pass}

-- a message by what the rules look at: 23G, 25D and the code of the first reason, which is slot 12
abbrev pub message : String → String → String → Answer
message function status code = answer_of (value_in ((function_slot, function) ∷ (status_slot, status) ∷ (12, code) ∷ []))

-- these, and the number
unfoldable pub messages : List (String × String × String × ℕ)
messages =
    -- INST for IPRC and MTCH, CAST and CAST/COPY for CPRC; 13 comes before the others
    ("INST", "IPRC//REJT", "E001", 0)
    ∷ ("CAST", "IPRC//REJT", "E001", 13)
    ∷ ("CAST/COPY", "IPRC//REJT", "E001", 13)
    ∷ ("CAST", "IPRC//REJT", "", 13)
    ∷ ("CAST", "CPRC//REJT", "E001", 0)
    ∷ ("INST", "CPRC/GSCC/CDNA", "", 13)
    ∷ ("INST", "MTCH//MACH", "", 0)
    ∷ ("CAST", "MTCH//MACH", "", 13)
    -- a reject must have a reason, and no other status may
    ∷ ("INST", "IPRC//REJT", "", 14)
    ∷ ("CAST", "CPRC//REJT", "", 14)
    ∷ ("INST", "IPRC//PACK", "E001", 15)
    ∷ ("INST", "IPRC//PACK", "", 0)
    ∷ ("CAST", "CPRC//CAND", "E001", 15)
    -- a copy goes with CPRC//CAND alone
    ∷ ("CAST/COPY", "CPRC//CAND", "", 0)
    ∷ ("CAST/COPY", "CPRC//REJT", "E001", 15)
    ∷ ("CAST/COPY", "CPRC//REJT", "", 14)
    ∷ ("CAST/COPY", "CPRC/GSCC/PACS", "", 15)
    ∷ []

-- the record of such a message, as a copy or not
unfoldable pub held : String → String → Bool → Answer
held status code copy =
    let a = message "" status code in
    record {
      copy = copy;
      status = a.status;
      password = a.password;
      receiver = a.receiver;
      seme = a.seme;
      mast = a.mast;
      prev = a.prev;
      rela = a.rela;
      list = a.list;
      bask = a.bask;
      prog = a.prog;
      comm = a.comm;
      prep = a.prep;
      reasons = a.reasons;
    }

unfoldable pub records : List (String × String × Bool × ℕ)
records =
    ("IPRC//REJT", "E001", false, 0)
    ∷ ("IPRC//REJT", "", false, 14)
    ∷ ("IPRC//REJT", "", true, 14)
    ∷ ("IPRC//REJT", "E001", true, 15)
    ∷ ("IPRC//PACK", "E001", false, 15)
    ∷ ("CPRC//CAND", "", true, 0)
    ∷ []

-- each message and each record gets the number beside it, and line 0
abbrev pub Answered : Type 0
Answered =
    (map (λ row. answer_pass (bytes row.0) (message row.0 row.1 row.2)) messages ≡ map (λ row. refused row.3 0) messages)
    × (map (λ row. record_pass (held row.0 row.1 row.2)) records ≡ map (λ row. refused row.3 0) records)
