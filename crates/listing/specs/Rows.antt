-- Document 01, "What the desk program prints": a heading, and then a line for each piece of the batch. Fields: message, number, line,
-- kind, MAST, buyer, seller; `-` for what is absent or refused. Each printed line ends in LF.
use Rattle.std.specs.Prelude.{ℕ, cond, List, [], ◌∷◌, ◌++◌, eqb}
use Rattle.text.specs.Bytes.{bytes}
use Rattle.text.specs.Texts.{contents, text_of}
use Rattle.text.specs.Texts.{Text}
use Rattle.digits.specs.Numerals.{digits}
use Rattle.amount.specs.Amounts.{trimmed}
use Rattle.trade.specs.declared.Trade.{Trade}
use Rattle.values.specs.Values.{kind_word}
use Rattle.format.specs.declared.Reading.{Reading}

-- fields with a blank between two, and LF behind the last
unfoldable pub spaced : List (List ℕ) → List ℕ
spaced [] = bytes "\n"
spaced (f ∷ []) = f ++ bytes "\n"
spaced (f ∷ g ∷ fs) = f ++ (bytes " " ++ spaced (g ∷ fs))

-- a field as it is put into a row before another: itself and the blank behind it
abbrev pub parted : List ℕ → List (List ℕ)
parted f = f ∷ bytes " " ∷ []

unfoldable pub heading : List ℕ
heading = spaced (bytes "MSG" ∷ bytes "CODE" ∷ bytes "LINE" ∷ bytes "KIND" ∷ bytes "MAST" ∷ bytes "BUYR" ∷ bytes "SELL" ∷ [])

-- a number: its digits without needless noughts in front; twenty of them are enough for 64 bits
unfoldable pub decimal : ℕ → List ℕ
decimal n = trimmed (digits 20 n)

-- `-` for what is absent
unfoldable pub shown : List ℕ → List ℕ
shown [] = bytes "-"
shown (b ∷ s) = b ∷ s

-- and of a text
unfoldable pub shown_text : Text → Text
shown_text t = cond (eqb t.len 0) (text_of (bytes "-")) t

-- kind, MAST, buyer and seller of a record
unfoldable pub told : Trade → List (List ℕ)
told t = kind_word t.kind ∷ shown (contents t.mast) ∷ shown (contents t.buyer.code) ∷ shown (contents t.seller.code) ∷ []

-- and of what is refused
unfoldable pub untold : List (List ℕ)
untold = bytes "-" ∷ bytes "-" ∷ bytes "-" ∷ bytes "-" ∷ []

-- the fields of a message: its place in the batch, counted from 1, and how it is read
unfoldable pub fields_of : ℕ → Reading Trade → List (List ℕ)
fields_of message r = decimal message ∷ decimal r.number ∷ decimal r.line ∷ cond (eqb r.number 0) (told r.held) untold

unfoldable pub printed_row : ℕ → Reading Trade → List ℕ
printed_row message r = spaced (fields_of message r)
