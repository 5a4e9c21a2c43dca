-- `forms::pool::behind_cdr` meets its contract. Assumes nothing.
use Rattle.forms.specs.Pool.{behind_cdr}
use Rattle.forms.proofs.pool.behind_cdr.Goals as goal

pub returns-then-has_cdr : goal.returns-then-has_cdr
unfolding behind_cdr
returns-then-has_cdr c = rw (← c.has_cdr.ensures, c.if-has_cdr.true) c.from.ensures

pub returns-else-has_cdr : goal.returns-else-has_cdr
unfolding behind_cdr
returns-else-has_cdr c = rw (← c.has_cdr.ensures, c.if-has_cdr.false) c.from-else-has_cdr.ensures
