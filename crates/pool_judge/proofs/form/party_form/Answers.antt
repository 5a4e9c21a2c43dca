-- `pool_judge::form::party_form` meets its contract. Assumes nothing.
use mathlib.Core.Bool.{and-true}
use Rattle.format.specs.Writable.{hold}
use Rattle.pool_judge.proofs.form.party_form.Goals as goal

pub returns : goal.returns
unfolding hold
returns c = rw (← c.in_form-code.ensures, ← c.in_form-reference.ensures, and-true c.in_form-reference.result)
