-- `values::words::kind_word` meets its contract: each case has its word. Assumes nothing.
use mathlib.Core.Path.{refl}
use Rattle.text.specs.Bytes.{bytes}
use Rattle.values.specs.Values.{kind_word}
use Rattle.values.proofs.words.kind_word.Goals as goal

pub returns-in-Inst : goal.returns-in-Inst
unfolding kind_word bytes
returns-in-Inst c = rw c.in-Inst.is refl

pub returns-in-Canc : goal.returns-in-Canc
unfolding kind_word bytes
returns-in-Canc c = rw c.in-Canc.is refl

pub returns-in-Mdfc : goal.returns-in-Mdfc
unfolding kind_word bytes
returns-in-Mdfc c = rw c.in-Mdfc.is refl

pub returns-in-Tddk : goal.returns-in-Tddk
unfolding kind_word bytes
returns-in-Tddk c = rw c.in-Tddk.is refl
