-- The demands of the MT515: those of any message type, and a record of the longest length.
-- Assumes nothing.
use Prim.Native.Nat.{ℕ}
use mathlib.Core.Path.{◌≡◌, refl, ap}
use mathlib.Core.List.{List}
use lib.ListN.{length, get_or}
use borrow.Author.Tests.{eq-eqb}
use Rattle.format.specs.Demands as Every
use Rattle.format.specs.Writing as AnyType
use Rattle.format.proofs.Demands as Proved
use Rattle.values.specs.Mt515.{mt515}
use Rattle.values.proofs.Laid.{layout}
use Rattle.message.specs.Messages.{message_of}
use Rattle.message.specs.Writing.{write_number, write_length}
use Rattle.message.specs.Cases.{broadest, writes}
use Rattle.message.proofs.Cases.{answered}
use Rattle.demands.specs.Demands.{Demands}
use Rattle.demands.proofs.Laws.{laws}

pub any : Every.Demands mt515
any = Proved.demands mt515 layout laws

-- ---- an MDFC with every field at its widest

broadest-takes : write_number broadest 822 ≡ 0
unfolding writes
broadest-takes = ap (λ (ns : List ℕ). get_or ns 0 1) answered.1

broadest-long : length (message_of broadest) ≡ 822
unfolding writes AnyType.write_length
broadest-long =
    let e : write_length broadest 822 ≡ 822 = ap (λ (ns : List ℕ). get_or ns 0 0) answered.2 in
    rw broadest-takes at e

-- ---- the demands

pub demands : Demands
unfolding AnyType.writable broadest
demands =
    record {
      accepts-lawful = any.accepts-lawful;
      reads-fields = any.reads-fields;
      reads-back = any.reads-back;
      writes-plain = any.writes-plain;
      writes = any.writes;
      plain-again = any.plain-again;
      same-record = any.same-record;
      written_apart = any.written_apart;
      no-beginning = any.no-beginning;
      cuts-apart = any.cuts-apart;
      no_longer = any.no_longer;
      as_long = (broadest, refl, eq-eqb (write_number broadest 822) 0 broadest-takes, broadest-long);
      only-room = any.only-room;
    }
