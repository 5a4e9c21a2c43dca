-- Demand 2, acceptance said a second time, without passes and their order: a message is lawful where its bytes and endings and
-- its header are as document 01 says and there is a sheet of the layout whose lines are those behind the header, whose values
-- have their forms, and whose record meets the rules.
use Rattle.std.specs.Prelude.{ℕ, ◌≡◌, cond, List, [], ◌∷◌, length, drop}
use Rattle.lines.specs.Lines.{lines_of, lines_pass}
use Rattle.forms.specs.Forms.{value_number}
use Rattle.sheets.specs.Sheets.{Entry, edge, item, lines_in, has, Sheet}
use Rattle.sheets.specs.Filled.{value_in}
use Rattle.reader.specs.Header.{head_pass, head_value}
use Rattle.format.specs.Format.{Format}
use Rattle.format.specs.Reading.{rules_of}

module _ (F : Format) where
  -- every value has its slot's form: none of 10, 11 and 12
  unfoldable pub Valued : List Entry → Type 0
  Valued [] = Unit
  Valued (edge o ∷ es) = Valued es
  Valued (item s k v ∷ es) = (value_number (F.slot_of s) v ≡ 0) × Valued es

  -- what a message says of a slot, behind the slot's fixed text: on its line of the header, or of the sheet
  unfoldable pub said_in : List ℕ → List Entry → ℕ → List ℕ
  said_in m es s =
      cond (has F.header s) (head_value F.slot_of [] F.header (lines_of m) s) (drop (length (F.slot_of s).fixed) (value_in es s))

  pub record Lawful (m : List ℕ) : Type 0 where
    pub text : (lines_pass m).number ≡ 0
    pub head : (head_pass F.slot_of F.header m).number ≡ 0
    pub sheet : List Entry
    pub laid : Sheet F.tree sheet
    pub lines : drop 4 (lines_of m) ≡ lines_in sheet
    pub valued : Valued sheet
    pub rules : (rules_of F (said_in m sheet)).number ≡ 0
