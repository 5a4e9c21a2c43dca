-- `packed::codes::kind_byte` meets its contract: each case has its byte. Assumes nothing.
use Rattle.packed.specs.Packed.{kind_byte}
use Rattle.packed.proofs.codes.kind_byte.Goals as goal

pub returns-in-Inst : goal.returns-in-Inst
unfolding kind_byte
returns-in-Inst c = rw c.in-Inst.is

pub returns-in-Canc : goal.returns-in-Canc
unfolding kind_byte
returns-in-Canc c = rw c.in-Canc.is

pub returns-in-Mdfc : goal.returns-in-Mdfc
unfolding kind_byte
returns-in-Mdfc c = rw c.in-Mdfc.is

pub returns-in-Tddk : goal.returns-in-Tddk
unfolding kind_byte
returns-in-Tddk c = rw c.in-Tddk.is
