-- `digits::value` meets its contract. Assumes nothing.
use Rattle.text.specs.Classes.{in_class}
use Rattle.digits.proofs.Laws.{digit_low}
use Rattle.digits.proofs.value.Goals as goal

pub overflow_sub-digit : goal.overflow_sub-digit
unfolding in_class
overflow_sub-digit c = digit_low _ c.requires
