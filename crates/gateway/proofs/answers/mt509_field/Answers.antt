-- `gateway::answers::mt509_field` meets its contract: the answer of `field::place`, handed out. Assumes nothing.
use native.Mathlib.Omega.{arith}
use mathlib.Core.Path.{ap}
use Rattle.field.specs.declared.Stretch.{Stretch}
use Rattle.gateway.proofs.AnswerHanding.{field-byte}
use Rattle.gateway.proofs.answers.mt509_field.Goals as goal

pub overflow_cast-result : goal.overflow_cast-result
overflow_cast-result c = let h = field-byte _ _ _ c.place-place.ensures in omega (arith, h)

pub returns : goal.returns
returns c = let e = c.place-place.ensures in (ap (λ (a : Stretch). a.number) e, ap (λ (a : Stretch). a.offset) e, ap (λ (a : Stretch). a.count) e)
