-- The desk's list of answers: a heading, and then a line for each piece of the batch. Fields: message, number, line, status, MAST, LIST,
-- RELA, reasons; `-` for what is absent or refused. Each printed line ends in LF. Rows, numbers and `-` are those of listing's specs/Rows.
use Rattle.std.specs.Prelude.{ℕ, ◌-◌, cond, List, [], ◌∷◌, ◌++◌, map, eqb, ltb, length, take, drop}
use Rattle.text.specs.Bytes.{bytes}
use Rattle.text.specs.Texts.{contents}
use Rattle.status.specs.Statuses.{status_text}
use Rattle.answer.specs.declared.Answer.{Answer}
use Rattle.format.specs.declared.Reading.{Reading}
use Rattle.listing.specs.Rows.{spaced, decimal, shown}

unfoldable pub heading : List ℕ
heading =
    spaced (bytes "MSG" ∷ bytes "CODE" ∷ bytes "LINE" ∷ bytes "STATUS" ∷ bytes "MAST" ∷ bytes "LIST" ∷ bytes "RELA" ∷ bytes "REASONS" ∷ [])

-- a value of 25D without its issuer: its first four bytes, which are the qualifier, `/`, and its last four; a number that is no status has
-- no value
unfoldable pub without_issuer : List ℕ → List ℕ
without_issuer v = cond (ltb (length v) 4) (bytes "-") (take 4 v ++ (bytes "/" ++ drop (length v - 4) v))

-- the codes of the ten reasons
unfoldable pub codes_of : Answer → List (List ℕ)
codes_of a = map (λ r. contents r.code) a.reasons

-- those that stand: behind one that is absent there is none
unfoldable pub standing : List (List ℕ) → List (List ℕ)
standing [] = []
standing ([] ∷ cs) = []
standing ((b ∷ s) ∷ cs) = (b ∷ s) ∷ standing cs

-- with a comma between two
unfoldable pub joined : List (List ℕ) → List ℕ
joined [] = []
joined (c ∷ []) = c
joined (c ∷ d ∷ cs) = c ++ (bytes "," ++ joined (d ∷ cs))

-- status, MAST, LIST, RELA and reasons of a record
unfoldable pub told : Answer → List (List ℕ)
told a =
    without_issuer (status_text a.status) ∷ shown (contents a.mast) ∷ shown (contents a.list) ∷ shown (contents a.rela)
    ∷ shown (joined (standing (codes_of a))) ∷ []

-- and of what is refused
unfoldable pub untold : List (List ℕ)
untold = bytes "-" ∷ bytes "-" ∷ bytes "-" ∷ bytes "-" ∷ bytes "-" ∷ []

-- the fields of a message: its place in the batch, counted from 1, and how it is read
unfoldable pub fields_of : ℕ → Reading Answer → List (List ℕ)
fields_of message r = decimal message ∷ decimal r.number ∷ decimal r.line ∷ cond (eqb r.number 0) (told r.held) untold

unfoldable pub printed_row : ℕ → Reading Answer → List ℕ
printed_row message r = spaced (fields_of message r)
