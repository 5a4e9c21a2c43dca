-- `lines::ending` meets its contract. Assumes nothing.
use mathlib.Core.Path.{◌∙◌, sym}
use Rattle.text.specs.Bytes.{bytes}
use Rattle.lines.proofs.Scans.{ending-none, ending-lf, ending-crlf, ending-other}
use Rattle.lines.proofs.ending.Goals as goal

pub returns-then-part-eq0 : goal.returns-then-part-eq0
returns-then-part-eq0 c = ending-none c.args.part.now c.if-part-eq0.true

pub returns-then-part-eq10 : goal.returns-then-part-eq10
returns-then-part-eq10 c = ending-lf c.args.part.now c.if-part-eq0.false c.if-part-eq10.true

pub returns-then-begins_with : goal.returns-then-begins_with
unfolding bytes
returns-then-begins_with c = ending-crlf c.args.part.now c.if-part-eq0.false c.if-part-eq10.false (sym c.begins_with.ensures ∙ c.if-begins_with.true)

pub returns : goal.returns
unfolding bytes
returns c = ending-other c.args.part.now c.if-part-eq0.false c.if-part-eq10.false (sym c.begins_with.ensures ∙ c.if-begins_with.false)
