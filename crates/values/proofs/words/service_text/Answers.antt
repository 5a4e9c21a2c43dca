-- `values::words::service_text` meets its contract: each case has its word. Assumes nothing.
use mathlib.Core.Path.{refl}
use Rattle.text.specs.Bytes.{bytes}
use Rattle.values.specs.Values.{service_word}
use Rattle.values.proofs.words.service_text.Goals as goal

pub returns-in-Sbod : goal.returns-in-Sbod
unfolding service_word bytes
returns-in-Sbod c = rw c.in-Sbod.is refl

pub returns-in-Tftd : goal.returns-in-Tftd
unfolding service_word bytes
returns-in-Tftd c = rw c.in-Tftd.is refl

pub returns-in-Stip : goal.returns-in-Stip
unfolding service_word bytes
returns-in-Stip c = rw c.in-Stip.is refl
