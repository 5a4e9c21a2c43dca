-- `pool_kinds::needs` meets its contract. Assumes nothing.
use Rattle.text.specs.Bytes.{bytes}
use Rattle.pool_kinds.specs.Kinds as Kinds
use Rattle.pool_kinds.proofs.needs.Goals as goal

pub returns-in-Inst : goal.returns-in-Inst
unfolding Kinds.needs bytes
returns-in-Inst c = rw c.in-Inst.is

pub returns-in-Canc : goal.returns-in-Canc
unfolding Kinds.needs bytes
returns-in-Canc c = rw c.in-Canc.is

pub returns-in-Mdfc : goal.returns-in-Mdfc
unfolding Kinds.needs bytes
returns-in-Mdfc c = rw c.in-Mdfc.is

pub returns-in-Tddk : goal.returns-in-Tddk
unfolding Kinds.needs bytes
returns-in-Tddk c = rw c.in-Tddk.is

pub returns-in-Cdrq : goal.returns-in-Cdrq
unfolding Kinds.needs bytes
returns-in-Cdrq c = rw c.in-Cdrq.is

pub returns-in-Cdrl : goal.returns-in-Cdrl
unfolding Kinds.needs bytes
returns-in-Cdrl c = rw c.in-Cdrl.is
