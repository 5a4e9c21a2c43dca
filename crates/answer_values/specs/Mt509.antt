-- Request A3: the MT509 as a message type, what is its own and no more. What is said of a message type in format's specs/ is said of this one.
use Rattle.std.specs.Prelude.{ℕ, List, [], ◌∷◌}
use Rattle.text.specs.Bytes.{bytes}
use Rattle.sheets.specs.Plain.{Group}
use Rattle.format.specs.Format.{Format}
use Rattle.answer.specs.Records.{function_slot, answer_of, blank_answer}
use Rattle.answer.specs.declared.Answer.{Answer}
use Rattle.answer_rules.specs.Rules.{record_pass, answer_pass}
use Rattle.answer_table.specs.Table.{header, slot_of, last_field}
use Rattle.answer_table.specs.Tree.{tree}
use Rattle.answer_values.specs.Values.{value_of}
use Rattle.answer_values.specs.Writable.{in_form}

-- ---- the plain form: LINK blocks stand as MAST, PREV, RELA, LIST, BASK, PROG, COMM; there is no amount

unfoldable pub links : Group
links =
    record {
      opening = bytes ":16R:LINK";
      closing = bytes ":16S:LINK";
      keys = bytes ":20C::MAST" ∷ bytes ":20C::PREV" ∷ bytes ":20C::RELA" ∷ bytes ":20C::LIST" ∷ bytes ":20C::BASK" ∷ bytes ":20C::PROG" ∷ bytes ":20C::COMM" ∷ [];
    }

-- ---- the message type: 13, 14 and 15 are the rules of reading, with 23G's value; 14 and 15 those of writing

abbrev pub mt509 : Format
mt509 =
    record {
      header = header;
      tree = tree;
      slot_of = slot_of;
      Held = Answer;
      blank = blank_answer;
      record_of = answer_of;
      value_of = value_of;
      in_form = in_form;
      read_rules = λ value a. answer_pass (value function_slot) a;
      write_rules = record_pass;
      groups = links ∷ [];
      fronts = [];
      longest = 1476;
      fields = last_field;
      beyond = λ slot. 0;
    }
