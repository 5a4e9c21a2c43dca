-- `gateway::answers::mt509_read` meets its contract: the answer of `outline::of`, handed out. Assumes nothing.
use native.Mathlib.Omega.{arith}
use mathlib.Core.Path.{ap}
use Rattle.outline.specs.declared.Outline.{Outline}
use Rattle.gateway.proofs.AnswerHanding.{read_byte}
use Rattle.gateway.proofs.answers.mt509_read.Goals as goal

pub overflow_cast-result : goal.overflow_cast-result
overflow_cast-result c = let h = read_byte _ _ c.of-all.ensures in omega (arith, h)

pub returns : goal.returns
returns c =
    let e = c.of-all.ensures in (
      ap (λ (a : Outline 34). a.number) e,
      ap (λ (a : Outline 34). a.starts) e,
      ap (λ (a : Outline 34). a.ends) e,
      ap (λ (a : Outline 34). a.line) e,
    )
