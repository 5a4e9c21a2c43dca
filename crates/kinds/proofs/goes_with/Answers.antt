-- `kinds::goes_with` meets its contract. Assumes nothing.
use Rattle.text.specs.Bytes.{bytes}
use Rattle.kinds.specs.Kinds.{function_of}
use Rattle.kinds.proofs.goes_with.Goals as goal

pub returns-in-Inst : goal.returns-in-Inst
unfolding function_of bytes
returns-in-Inst c = rw c.in-Inst.is c.equals-newm.ensures

pub returns-in-Canc : goal.returns-in-Canc
unfolding function_of bytes
returns-in-Canc c = rw c.in-Canc.is c.equals-canc.ensures

pub returns-in-Mdfc : goal.returns-in-Mdfc
unfolding function_of bytes
returns-in-Mdfc c = rw c.in-Mdfc.is c.equals-newm.ensures

pub returns-in-Tddk : goal.returns-in-Tddk
unfolding function_of bytes
returns-in-Tddk c = rw c.in-Tddk.is c.equals-newm.ensures
