-- `pool_values::words::function_word` meets its contract: each case has its word. Assumes nothing.
use mathlib.Core.Path.{refl}
use Rattle.text.specs.Bytes.{bytes}
use Rattle.pool_kinds.specs.Kinds.{function_of}
use Rattle.pool_values.proofs.words.function_word.Goals as goal

pub returns-in-Inst : goal.returns-in-Inst
unfolding function_of bytes
returns-in-Inst c = rw c.in-Inst.is refl

pub returns-in-Canc : goal.returns-in-Canc
unfolding function_of bytes
returns-in-Canc c = rw c.in-Canc.is refl

pub returns-in-Mdfc : goal.returns-in-Mdfc
unfolding function_of bytes
returns-in-Mdfc c = rw c.in-Mdfc.is refl

pub returns-in-Tddk : goal.returns-in-Tddk
unfolding function_of bytes
returns-in-Tddk c = rw c.in-Tddk.is refl

pub returns-in-Cdrq : goal.returns-in-Cdrq
unfolding function_of bytes
returns-in-Cdrq c = rw c.in-Cdrq.is refl

pub returns-in-Cdrl : goal.returns-in-Cdrl
unfolding function_of bytes
returns-in-Cdrl c = rw c.in-Cdrl.is refl
