-- Document 01, "Order in reading", of any message type: 1; 2; 3; 4; then 5, 6, 7 in one pass; then 8, 9 in one pass; then 10, 11, 12
-- in one pass; then the rules of line 0. Beside a refusal stands the blank record.
use Rattle.std.specs.Prelude.{ℕ, cond, List, [], eqb, drop}
use Rattle.lines.specs.Verdicts.{then}
use Rattle.lines.specs.Lines.{lines_of, lines_pass}
use Rattle.lines.specs.declared.Verdict.{Verdict}
use Rattle.blocks.specs.Blocks.{nest_pass}
use Rattle.layout.specs.Layout.{Taken, Run}
use Rattle.sheets.specs.Taking.{taken_by}
use Rattle.walk.specs.Walk.{body_pass, taken_in, value_from}
use Rattle.reader.specs.Header.{head_pass, head_value}
use Rattle.format.specs.Format.{Format}
use Rattle.format.specs.declared.Reading.{Reading}

-- what reading answers: the record of what has 0, and the blank record beside a refusal
unfoldable pub reading : {Held : Type 0} → Held → Verdict → Held → Reading Held
reading blank v r = record { number = v.number; line = v.line; held = cond (eqb v.number 0) r blank }

module _ (F : Format) where
  -- the lines behind the header, as the layout takes them
  unfoldable pub body_of : List ℕ → Run
  body_of m = taken_by F.tree 5 (drop 4 (lines_of m))

  -- the value of a slot, with the lines that were taken for slots: what follows the fixed text on its line, or on its line of the
  -- header; nothing where there is none
  unfoldable pub value_on : List ℕ → List Taken → ℕ → List ℕ
  value_on m ts s = value_from F.slot_of (head_value F.slot_of [] F.header (lines_of m) s) s ts

  -- the rules of line 0, of values
  unfoldable pub rules_of : (ℕ → List ℕ) → Verdict
  rules_of value = F.read_rules value (F.record_of value)

  -- the order of reading: 1, 2, 3; 4; 5, 6, 7; 8, 9 and then 10, 11, 12; the rules
  unfoldable pub verdict_of : List ℕ → Verdict
  verdict_of m =
      let value = value_on m (taken_in (body_of m)) in
      then (lines_pass m)
      (then (head_pass F.slot_of F.header m)
      (then (nest_pass m)
      (then (body_pass F.slot_of (body_of m))
      (rules_of value))))

  unfoldable pub read_of : List ℕ → Reading F.Held
  read_of m = reading F.blank (verdict_of m) (F.record_of (value_on m (taken_in (body_of m))))
