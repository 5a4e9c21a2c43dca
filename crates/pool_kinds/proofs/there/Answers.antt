-- `pool_kinds::there` meets its contract. Assumes nothing.
use Rattle.pool_kinds.specs.Kinds as Kinds
use Rattle.pool_kinds.proofs.there.Goals as goal

pub returns : goal.returns
unfolding Kinds.there
returns c =
    rw (
      ← c.present-mast.ensures,
      ← c.present-prev.ensures,
      ← c.present-list.ensures,
      ← c.contra-contra.ensures,
      ← c.stray-stray.ensures,
      ← c.present-reason.ensures,
    )
