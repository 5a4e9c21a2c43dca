-- `kinds::lacks_field` meets its contract: each arm is its kind's line of the definition. Assumes nothing.
use Rattle.lines.proofs.Rules.{by_kind}
use Rattle.kinds.specs.Kinds.{lacks_field}
use Rattle.kinds.proofs.lacks_field.Goals as goal

pub returns-in-Inst : goal.returns-in-Inst
unfolding lacks_field
returns-in-Inst c = by_kind lacks_field c.args.trade _ c.in-Inst.is (rw (← c.present-mast.ensures))

pub returns-in-Canc : goal.returns-in-Canc
unfolding lacks_field
returns-in-Canc c = by_kind lacks_field c.args.trade _ c.in-Canc.is (rw (← c.present-mast.ensures))

pub returns-in-Mdfc : goal.returns-in-Mdfc
unfolding lacks_field
returns-in-Mdfc c = by_kind lacks_field c.args.trade _ c.in-Mdfc.is (rw (← c.present-mast.ensures))

pub returns-in-Tddk : goal.returns-in-Tddk
unfolding lacks_field
returns-in-Tddk c = by_kind lacks_field c.args.trade _ c.in-Tddk.is (rw (← c.contra-contra.ensures, ← c.present-reason.ensures))
