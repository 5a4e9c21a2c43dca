-- `answer_listing::compose` meets its contract: part behind part. Assumes nothing.
use Rattle.text.specs.Bytes.{bytes}
use Rattle.fill.proofs.Runs.{one, then}
use Rattle.answer_listing.specs.Composed.{parts_of}
use Rattle.answer_listing.proofs.Laws.{Short, row-short}
use borrow.Author.Rules.{rules}
use Rattle.answer_listing.proofs.compose.Goals as goal

pub returns : goal.returns
unfolding bytes parts_of
returns c =
    let short : Short c.args.row =
    record {
      message = search rules;
      number = search rules;
      line = search rules;
      status = search rules;
      mast = search rules;
      list = search rules;
      rela = search rules;
    }
    in
    let e = c.put_reasons-end.ensures in
    let run = then _ _ _ _ c.put_numbers-told.ensures
    (then _ _ _ _ c.put_told-reasons.ensures
    (then _ _ _ _ (e.0, e.1) (one _ _ _ c.put.ensures)))
    in (run.0, run.1, row-short _ _ short e.2)
