-- Each message of the table gets what stands beside its lines, by computation.
-- Assumes nothing.
use mathlib.Core.Path.{refl}
use Rattle.text.specs.Bytes.{bytes, begins, same, before}
use Rattle.text.specs.Classes.{all_in, in_class, is_c, is_upper, is_digit, is_between, is_code}
use Rattle.lines.specs.Verdicts.{refused, pass}
use Rattle.lines.specs.Lines.{in_front, cut_behind, bare, without_ending, lines_of}
use Rattle.blocks.specs.Blocks.{is_tagged, name_of, named, role_of, ending, opening, closing, turn, follow, nest, nest_pass}
use Rattle.blocks.specs.Cases.{joined, message, eight, back, cases, Answered}

pub answered : Answered
unfolding cases message joined eight back bytes begins same before all_in in_class is_c is_upper is_digit is_between refused pass in_front cut_behind bare without_ending lines_of is_tagged name_of is_code named role_of ending opening closing turn follow nest nest_pass
answered = refl
