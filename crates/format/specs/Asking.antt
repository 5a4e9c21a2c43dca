-- Document 01, "Order in writing", of any message type: asking for a plain form gives the read's number and line, or 19 after all of
-- those, and treats its buffer as a write does. A refusal answers length 0 and changes no byte; else the length is answered, and
-- bytes after it keep their values.
use Rattle.std.specs.Prelude.{ℕ, cond, List, ltb, eqb, length}
use Rattle.text.specs.Copy.{over}
use Rattle.lines.specs.Verdicts.{refused, pass, then}
use Rattle.lines.specs.declared.Verdict.{Verdict}
use Rattle.format.specs.Format.{Format}
use Rattle.format.specs.Reading.{verdict_of}
use Rattle.format.specs.Plain.{plain_of}

module _ (F : Format) where
  -- 19, line 0: the buffer has fewer bytes than the plain form
  unfoldable pub room_pass : List ℕ → ℕ → Verdict
  room_pass m room = cond (ltb room (length (plain_of F m))) (refused 19 0) pass

  -- the read's number and line, or 19 after all of those
  unfoldable pub ask_verdict : List ℕ → ℕ → Verdict
  ask_verdict m room = then (verdict_of F m) (room_pass m room)

  -- the length that is answered
  unfoldable pub ask_length : List ℕ → ℕ → ℕ
  ask_length m room = cond (eqb (ask_verdict m room).number 0) (length (plain_of F m)) 0

  -- and what the buffer holds afterwards
  unfoldable pub asked_over : List ℕ → List ℕ → List ℕ
  asked_over m buf = cond (eqb (ask_verdict m (length buf)).number 0) (over buf 0 (plain_of F m)) buf
