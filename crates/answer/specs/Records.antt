-- Request A3, "The record": an answer as it is held, from the values of its slots; and the blank record.
use Rattle.std.specs.Prelude.{ℕ, false, List, [], ◌∷◌, get_or, replicate}
use Rattle.text.specs.Bytes.{bytes, same}
use Rattle.text.specs.Texts.{text_of, blank}
use Rattle.remark.specs.Remarks.{remark_of, blank as blank_remark}
use Rattle.calendar.specs.Dates.{moment_read}
use Rattle.calendar.specs.declared.Moment.{Moment}
use Rattle.typed.specs.Typed.{moment_or0}
use Rattle.status.specs.Statuses.{status_of}
use Rattle.answer.specs.declared.Reason.{Reason}
use Rattle.answer.specs.declared.Answer.{Answer}

-- ---- the record of a message, from the values of its slots. Slots are numbered as the fields are, from 1 to the text of the tenth
-- reason; the password and the receiver stand behind them

abbrev pub function_slot : ℕ
function_slot = 2

abbrev pub status_slot : ℕ
status_slot = 11

abbrev pub password_slot : ℕ
password_slot = 32

abbrev pub receiver_slot : ℕ
receiver_slot = 33

-- a reason, from its code and its text
unfoldable pub reason_of : List ℕ → List ℕ → Reason
reason_of code text = record { code = text_of code; text = remark_of text }

-- the ten of them
unfoldable pub reasons_of : (ℕ → List ℕ) → List Reason
reasons_of value =
    reason_of (value 12) (value 13)
    ∷ reason_of (value 14) (value 15)
    ∷ reason_of (value 16) (value 17)
    ∷ reason_of (value 18) (value 19)
    ∷ reason_of (value 20) (value 21)
    ∷ reason_of (value 22) (value 23)
    ∷ reason_of (value 24) (value 25)
    ∷ reason_of (value 26) (value 27)
    ∷ reason_of (value 28) (value 29)
    ∷ reason_of (value 30) (value 31)
    ∷ []

unfoldable pub answer_of : (ℕ → List ℕ) → Answer
answer_of value =
    record {
      copy = same (bytes "CAST/COPY") (value function_slot);
      status = status_of (value status_slot);
      password = text_of (value password_slot);
      receiver = text_of (value receiver_slot);
      seme = text_of (value 1);
      mast = text_of (value 4);
      prev = text_of (value 5);
      rela = text_of (value 6);
      list = text_of (value 7);
      bask = text_of (value 8);
      prog = text_of (value 9);
      comm = text_of (value 10);
      prep = moment_or0 (moment_read (value 3));
      reasons = reasons_of value;
    }

-- ---- the blank record: no copy, the first status, every text of length 0, no date and time

unfoldable pub no_reason : Reason
no_reason = record { code = blank; text = blank_remark }

unfoldable pub never : Moment
never = record { date = record { 0 = 0 }; time = record { 0 = 0 } }

unfoldable pub blank_answer : Answer
blank_answer =
    record {
      copy = false;
      status = record { 0 = 0 };
      password = blank;
      receiver = blank;
      seme = blank;
      mast = blank;
      prev = blank;
      rela = blank;
      list = blank;
      bask = blank;
      prog = blank;
      comm = blank;
      prep = never;
      reasons = replicate {A = Reason} 10 no_reason;
    }

-- ---- a reason of a record, by its number from 0; a number that none has is answered by the blank one

unfoldable pub reason_at : Answer → ℕ → Reason
reason_at a number = get_or a.reasons number no_reason
