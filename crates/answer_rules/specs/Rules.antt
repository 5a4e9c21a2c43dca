-- Request A3, "The rules by status": the numbers 13, 14 and 15, which come after all others and have line 0.
--   13  23G against the status
--   14  a reject without a reason
--   15  a reason with any other status, and a copy with any but `CPRC//CAND`
use Rattle.std.specs.Prelude.{ℕ, Bool, ◌&&◌, ◌||◌, not, cond, List, ltb}
use Rattle.text.specs.Bytes.{bytes, begins, same}
use Rattle.lines.specs.Verdicts.{then, when}
use Rattle.lines.specs.declared.Verdict.{Verdict}
use Rattle.status.specs.Statuses.{status_text}
use Rattle.status.specs.declared.Status.{Status}
use Rattle.answer.specs.Records.{reason_at}
use Rattle.answer.specs.declared.Answer.{Answer}

-- a status of CPRC answers a cancel, one of IPRC or MTCH an instruction
unfoldable pub of_cancel : Status → Bool
of_cancel s = begins (bytes "CPRC") (status_text s)

-- 23G is CAST or CAST/COPY for the first and INST for the others
unfoldable pub goes_with : List ℕ → Status → Bool
goes_with function s = cond (of_cancel s) (same (bytes "CAST") function || same (bytes "CAST/COPY") function) (same (bytes "INST") function)

unfoldable pub is_reject : Status → Bool
is_reject s = same (bytes "IPRC//REJT") (status_text s) || same (bytes "CPRC//REJT") (status_text s)

-- a reason stands where it has a code; they stand without a gap, so that a record has one where its first stands
unfoldable pub has_reason : Answer → Bool
has_reason a = ltb 0 (reason_at a 0).code.len

unfoldable pub lacks_reason : Answer → Bool
lacks_reason a = is_reject a.status && not (has_reason a)

unfoldable pub has_forbidden : Answer → Bool
has_forbidden a = (not (is_reject a.status) && has_reason a) || (a.copy && not (same (bytes "CPRC//CAND") (status_text a.status)))

-- 14 and 15, which a record shows by itself
unfoldable pub record_pass : Answer → Verdict
record_pass a = then (when (lacks_reason a) 14) (when (has_forbidden a) 15)

-- 13, and then those
unfoldable pub answer_pass : List ℕ → Answer → Verdict
answer_pass function a = then (when (not (goes_with function a.status)) 13) (record_pass a)

-- 23G as a record has it: it tells whether the answer is a copy, also of a status that no copy goes with
unfoldable pub function_of : Answer → List ℕ
function_of a = cond a.copy (bytes "CAST/COPY") (cond (of_cancel a.status) (bytes "CAST") (bytes "INST"))
