-- `packed::pack` meets its contract. Assumes nothing.
use mathlib.Core.Path.{◌≡◌, ◌∙◌}
use lib.ListN.{length}
use Rattle.packed.specs.Packed.{packed_of}
use Rattle.packed.proofs.Bytes.{packed-is}
use borrow.Author.Rules.{rules}
use Rattle.packed.proofs.pack.Goals as goal

pub returns : goal.returns
unfolding packed_of
returns c =
    let room : length c.args.packed.now ≡ 375 =
    search rules
    in
    let four : length c.codes_of.result ≡ 4 =
    search rules
    in
    let long : length c.text_row.result ≡ 315 =
    search rules
    in
    let last : length c.number_row.result ≡ 56 =
    search rules
    in
    packed-is c.args.packed.now c.codes_of.result c.text_row.result c.number_row.result room four long last c.put-texts.ensures c.put-numbers.ensures c.put.ensures
    ∙ rw (c.codes_of.ensures, c.text_row.ensures, c.texts_of.ensures, c.number_row.ensures, c.numbers_of.ensures)
