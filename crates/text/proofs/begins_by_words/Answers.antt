use Prim.Native.Nat.{◌-◌}
use lib.ListN.{length}
use native.Mathlib.Omega.{arith}
use Rattle.text.proofs.Words.{words-stop, words_more, words_last}
use Rattle.text.proofs.begins_by_words.Goals as goal

pub returns-then-word : goal.returns-then-word
returns-then-word c =
    words-stop
    c.args.key.now
    c.args.part.now
    c.requires.0
    c.type_inv.key
    c.type_inv.part
    c.loop-i.i
    8
    (omega arith)
    c.word.ensures
    c.word-in-loop-i.ensures
    c.if-word.true

pub loop-i-preserved : goal.loop-i-preserved
loop-i-preserved c = (
  omega arith,
  words_more
      c.args.key.now
      c.args.part.now
      c.requires.0
      c.type_inv.key
      c.type_inv.part
      c.loop-i.i
      8
      (omega arith)
      c.word.ensures
      c.word-in-loop-i.ensures
      c.loop-i.invariant.1
      c.if-word.false,
)

pub returns : goal.returns
returns c =
    words_last
    c.args.key.now
    c.args.part.now
    c.requires.0
    c.type_inv.key
    c.type_inv.part
    (length c.args.key.now - 8)
    8
    (omega arith)
    c.word-2.ensures
    c.word-3.ensures
    c.loop-i.i
    (omega arith)
    (omega arith)
    (omega arith)
    c.loop-i.invariant.1
