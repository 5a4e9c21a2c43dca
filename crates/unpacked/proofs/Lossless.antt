-- The statements of specs/Back, each from where it is proved.
-- Assumes nothing.
use mathlib.Core.Path.{refl, sym, ap, ◌∙◌}
use native.Mathlib.Omega.{arith}
use Rattle.std.proofs.lemmas.Option.{same_Some}
use Rattle.trade.specs.Records.{nobody, never, blank_trade}
use Rattle.format.specs.Writable.{hold}
use Rattle.values.specs.Mt515.{mt515}
use Rattle.writing.proofs.Answers as Writing
use Rattle.packed.specs.Packed.{at_most, texts, moment_packed, numbers}
use Rattle.unpacked.specs.Unpacked.{unpacked_of}
use Rattle.unpacked.specs.Back.{text_fits, period_fits, moment_fits, number_fits, has_room, Lossless}
use Rattle.unpacked.proofs.Back.{unpacks, writable-fits, packs-all, none-blank, blank-judged}
use Rattle.unpacked.proofs.Itself.{itself}

pub lossless : Lossless
unfolding has_room text_fits period_fits moment_fits number_fits texts numbers moment_packed at_most hold nobody never blank_trade
lossless =
    record {
      back = unpacks;
      fit = (writable-fits, refl);
      itself = itself;
      again = packs-all;
      apart = λ t u h k e. same_Some t u (sym (unpacks t (writable-fits t h)) ∙ ap unpacked_of e ∙ unpacks u (writable-fits u k));
      refused = λ s buf g.
          let b = none-blank s g in
          let j = Writing.refused mt515 blank_trade blank-judged buf (λ z. let w : ⊥ = omega arith in w) in
          rw b (sym j.0, sym j.1);
    }
