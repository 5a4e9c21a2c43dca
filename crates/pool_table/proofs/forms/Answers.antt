-- `pool_table::forms` meets its contract, by computation. Assumes nothing.
use mathlib.Core.Path.{◌≡◌, refl, fun_ext}
use lib.ListN.{length}
use Rattle.text.specs.Bytes.{bytes}
use Rattle.forms.specs.Slots.{reaches, line_in, text_in, words_in, form_of, form_in, slot_at}
use Rattle.forms.proofs.Tables.{places}
use Rattle.pool_table.specs.Table.{slots, lines}
use Rattle.pool_table.specs.declared.TheConstants.{SLOTS}
use Rattle.pool_table.proofs.Tables.{slots-are}
use Rattle.pool_table.proofs.forms.Goals as goal

right : places SLOTS 0 36 ≡ lines
unfolding bytes reaches line_in text_in words_in form_of form_in slot_at slots
right = refl

long : length SLOTS ≡ 720
long = refl

pub returns : goal.returns
returns c = fun_ext (slots-are SLOTS right long)
