-- A row as the code holds and composes it. It serves the private steps only, and need not be believed: proofs/Laws says that these
-- parts, one behind the other, are the row.
use Rattle.std.specs.Prelude.{ℕ, cond, List, [], ◌∷◌, ◌++◌, eqb}
use Rattle.text.specs.Bytes.{bytes}
use Rattle.text.specs.Texts.{contents}
use Rattle.status.specs.Statuses.{status_text}
use Rattle.answer.specs.declared.Answer.{Answer}
use Rattle.format.specs.declared.Reading.{Reading}
use Rattle.listing.specs.Rows.{decimal, shown, parted}
use Rattle.answer_listing.specs.Rows.{without_issuer, codes_of}
use Rattle.answer_listing.specs.declared.Row.{Row}

-- ---- in front of the reasons

-- the fields as they are held
unfoldable pub fields_in : Row → List (List ℕ)
fields_in row =
    contents row.message ∷ contents row.number ∷ contents row.line
    ∷ contents row.status ∷ contents row.mast ∷ contents row.list ∷ contents row.rela ∷ []

-- and as they are
unfoldable pub linked : Answer → List (List ℕ)
linked a = without_issuer (status_text a.status) ∷ shown (contents a.mast) ∷ shown (contents a.list) ∷ shown (contents a.rela) ∷ []

unfoldable pub unlinked : List (List ℕ)
unlinked = bytes "-" ∷ bytes "-" ∷ bytes "-" ∷ bytes "-" ∷ []

unfoldable pub front_of : ℕ → Reading Answer → List (List ℕ)
front_of message r = decimal message ∷ decimal r.number ∷ decimal r.line ∷ cond (eqb r.number 0) (linked r.held) unlinked

-- ---- the reasons

-- the codes that stand, each behind a byte that parts it from what stands in front: the first by this one, the others by a comma
unfoldable pub code_parts : ℕ → List (List ℕ) → List (List ℕ)
code_parts between [] = []
code_parts between ([] ∷ cs) = []
code_parts between ((b ∷ s) ∷ cs) = (between ∷ []) ∷ (b ∷ s) ∷ code_parts 44 cs

-- none of them
unfoldable pub or_none : List (List ℕ) → List (List ℕ)
or_none [] = bytes " -" ∷ []
or_none (s ∷ ss) = s ∷ ss

unfoldable pub reason_parts : Reading Answer → List (List ℕ)
reason_parts r = cond (eqb r.number 0) (or_none (code_parts 32 (codes_of r.held))) (bytes " -" ∷ [])

-- ---- all of them, one behind the other

unfoldable pub number_parts : Row → List (List ℕ)
number_parts row = parted (contents row.message) ++ (parted (contents row.number) ++ parted (contents row.line))

unfoldable pub told_parts : Row → List (List ℕ)
told_parts row =
    parted (contents row.status) ++ (parted (contents row.mast) ++ (parted (contents row.list) ++ (contents row.rela ∷ [])))

unfoldable pub parts_of : Row → Reading Answer → List (List ℕ)
parts_of row r = number_parts row ++ (told_parts row ++ (reason_parts r ++ (bytes "\n" ∷ [])))
