-- `listing::compose` meets its contract: part behind part. Assumes nothing.
use mathlib.Core.List.{[], ◌∷◌}
use Rattle.text.specs.Bytes.{bytes}
use Rattle.fill.proofs.Runs.{one, then}
use Rattle.listing.specs.Composed.{parts_of}
use Rattle.listing.proofs.Laws.{Short, row-short}
use borrow.Author.Rules.{rules}
use Rattle.listing.proofs.compose.Goals as goal

pub returns : goal.returns
unfolding bytes parts_of
returns c =
    let short : Short c.args.row =
    record {
      message = search rules;
      number = search rules;
      line = search rules;
      kind = search rules;
      mast = search rules;
      buyer = search rules;
      seller = search rules;
    }
    in
    let run = then _ _ _ _ c.put_numbers-kind.ensures
    (then _ _ _ _ c.put_field-mast.ensures
    (then _ _ _ _ c.put_field-buyer.ensures
    (then _ _ _ _ c.put_field-seller.ensures
    (then _ _ (_ ∷ []) (_ ∷ []) (one _ _ _ c.put_text-end.ensures) (one _ _ _ c.put.ensures)))))
    in (run.0, run.1, row-short _ short)
