-- `gateway::answers::mt509_next` meets its contract: the answer of `batch::next`, handed out. Assumes nothing.
use native.Mathlib.Omega.{arith}
use mathlib.Core.Path.{ap, ◌∙◌}
use Rattle.answer.specs.declared.Answer.{Answer}
use Rattle.batch.specs.declared.Found.{Found}
use Rattle.gateway.specs.Numbers.{turn_number}
use Rattle.gateway.proofs.AnswerHanding.{next-byte}
use Rattle.gateway.proofs.answers.mt509_next.Goals as goal

pub overflow_cast-number : goal.overflow_cast-number
overflow_cast-number c = let h = next-byte _ _ _ c.next-found.ensures in omega (arith, h)

pub returns : goal.returns
returns c =
    let e = c.next-found.ensures in (
      c.turn_number.ensures ∙ ap (λ (a : Found Answer). turn_number a.turn) e,
      ap (λ (a : Found Answer). a.reading.line) e,
      ap (λ (a : Found Answer). a.position) e,
      ap (λ (a : Found Answer). a.reading.number) e,
    )
