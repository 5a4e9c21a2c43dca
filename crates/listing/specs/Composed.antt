-- A row as the code holds and composes it. It serves the private steps only, and need not be believed: proofs/Laws says that these
-- parts, one behind the other, are the row.
use Rattle.std.specs.Prelude.{ℕ, List, [], ◌∷◌, ◌++◌}
use Rattle.text.specs.Bytes.{bytes}
use Rattle.text.specs.Texts.{contents}
use Rattle.listing.specs.Rows.{parted}
use Rattle.listing.specs.declared.Row.{Row}

-- the fields as they are held
unfoldable pub fields_in : Row → List (List ℕ)
fields_in row =
    contents row.message ∷ contents row.number ∷ contents row.line
    ∷ contents row.kind ∷ contents row.mast ∷ contents row.buyer ∷ contents row.seller ∷ []

-- all of them, one behind the other
unfoldable pub parts_of : Row → List (List ℕ)
parts_of row =
    parted (contents row.message) ++ (parted (contents row.number) ++ (parted (contents row.line)
    ++ (parted (contents row.kind) ++ (parted (contents row.mast) ++ (parted (contents row.buyer)
    ++ (contents row.seller ∷ bytes "\n" ∷ []))))))
