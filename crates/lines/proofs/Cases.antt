-- Each message of the table gets what stands beside it, by computation.
-- Assumes nothing.
use mathlib.Core.Path.{refl}
use Rattle.text.specs.Bytes.{bytes, begins, same, before}
use Rattle.text.specs.Classes.{is_between}
use Rattle.lines.specs.Verdicts.{refused, pass, then}
use Rattle.lines.specs.Lines.{in_front, cut_behind, bare, without_ending, lines_of, ended, size_pass, may_stand, byte_pass, end_pass, lines_pass}
use Rattle.lines.specs.Cases.{cases, Answered}

pub answered : Answered
unfolding cases bytes begins same before is_between refused pass then in_front cut_behind without_ending bare lines_of ended size_pass may_stand byte_pass end_pass lines_pass
answered = refl
