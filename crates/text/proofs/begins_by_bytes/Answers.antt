-- `text::begins_by_bytes` meets its contract. Assumes nothing.
use Rattle.std.proofs.Common.{rules, eqb, ℕ, ◌∙◌}
use borrow.Author.Tests.{tests}
use Rattle.std.proofs.lemmas.Iterator.{YieldsList-from_slice, YieldsList-from_zip}
use Rattle.std.proofs.lemmas.Iterator.Search.{all_from_yields_List}
use Rattle.text.proofs.Scans.{begins_zip}
use Rattle.text.proofs.begins_by_bytes.Goals as goal

pub returns : goal.returns
returns c =
    all_from_yields_List
    (λ (p : ℕ × ℕ). eqb p.0 p.1)
    c.all.new.self
    _
    c.all.result
    c.all.ensures.ran
    (YieldsList-from_zip (YieldsList-from_slice c.args.part.now cc) (YieldsList-from_slice c.args.key.now cc))
    (λ x b q k. search (rules, tests))
    ∙ begins_zip c.args.key.now c.args.part.now c.requires
