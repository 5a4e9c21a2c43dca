-- Document 01, the last part of a narrative: optionally `/DKRS` and 4 c, the reason of a DK; then nothing. What a narrative has
-- left behind its other parts is `rest`, so that this is said once, whichever parts those are.
use Rattle.std.specs.Prelude.{ℕ, Bool, ◌||◌, cond, List, [], ◌++◌, eqb, ltb, length, drop}
use Rattle.text.specs.Bytes.{bytes, begins}
use Rattle.text.specs.Classes.{is_code}
use Rattle.text.specs.Texts.{contents, in_form}
use Rattle.text.specs.Texts.{Text}

unfoldable pub has_reason : List ℕ → Bool
has_reason rest = begins (bytes "/DKRS") rest

-- what stands behind `/DKRS`; nothing where there is none
unfoldable pub reason_in : List ℕ → List ℕ
reason_in rest = cond (has_reason rest) (drop 5 rest) []

-- a reason, where there is one, is 4 c; and nothing else is left
unfoldable pub good_reason : List ℕ → Bool
good_reason rest = cond (has_reason rest) (is_code 4 4 (reason_in rest)) (eqb (length rest) 0)

-- ---- the reason of a record, a text that is absent where its length is 0

-- as it is written
unfoldable pub reason_text : Text → List ℕ
reason_text reason = cond (ltb 0 reason.len) (bytes "/DKRS" ++ contents reason) []

-- absent or 4 c
unfoldable pub reason_form : Text → Bool
reason_form reason = in_form 0 0 reason || in_form 4 4 reason
