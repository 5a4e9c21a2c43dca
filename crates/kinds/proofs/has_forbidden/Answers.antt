-- `kinds::has_forbidden` meets its contract: each arm is its kind's line of the definition. Assumes nothing.
use Rattle.lines.proofs.Rules.{by_kind}
use Rattle.kinds.specs.Kinds.{has_forbidden}
use Rattle.kinds.proofs.has_forbidden.Goals as goal

pub returns-in-Inst : goal.returns-in-Inst
unfolding has_forbidden
returns-in-Inst c = by_kind has_forbidden c.args.trade _ c.in-Inst.is (rw (← c.present-prev.ensures, ← c.present-list.ensures, ← c.tddk_only-only.ensures))

pub returns-in-Canc : goal.returns-in-Canc
unfolding has_forbidden
returns-in-Canc c = by_kind has_forbidden c.args.trade _ c.in-Canc.is (rw (← c.present-prev.ensures, ← c.tddk_only-only.ensures))

pub returns-in-Mdfc : goal.returns-in-Mdfc
unfolding has_forbidden
returns-in-Mdfc c = by_kind has_forbidden c.args.trade _ c.in-Mdfc.is c.tddk_only-only.ensures

pub returns-in-Tddk : goal.returns-in-Tddk
unfolding has_forbidden
returns-in-Tddk c = by_kind has_forbidden c.args.trade _ c.in-Tddk.is c.tddk_never.ensures
