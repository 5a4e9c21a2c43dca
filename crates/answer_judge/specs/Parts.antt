-- One reason of a record judged by itself. It serves the private functions only, and need not be believed.
use Rattle.std.specs.Prelude.{Bool, ◌&&◌, ◌||◌, not, eqb}
use Rattle.text.specs.Texts.{in_form as text_form}
use Rattle.remark.specs.Remarks.{in_form as remark_form}
use Rattle.answer.specs.declared.Reason.{Reason}
use Rattle.answer_values.specs.Writable.{stands}

-- behind one that stands or not
unfoldable pub reason_form : Bool → Reason → Bool
reason_form before r =
    ((text_form 0 0 r.code || text_form 4 4 r.code) && (not (stands r) || before))
    && (remark_form 0 35 r.text && (eqb r.text.len 0 || stands r))
