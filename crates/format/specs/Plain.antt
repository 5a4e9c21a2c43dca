-- Document 01, "Plain form, and the record", of any message type: the plain form of an accepted message is had from its text. Every
-- line ends in CR LF; blocks that may stand in any order stand in one; in an amount, needless noughts go. Nothing else changes.
use Rattle.std.specs.Prelude.{ℕ, cond, List, [], ◌∷◌, ◌++◌, map, length, drop}
use Rattle.text.specs.Bytes.{begins}
use Rattle.lines.specs.Lines.{lines_of, joined}
use Rattle.amount.specs.Amounts.{tidy}
use Rattle.forms.specs.Forms.{Form, nothing, codes, characters, words, amount, date, moment, narrative, pool_narrative, other}
use Rattle.sheets.specs.Filled.{some}
use Rattle.sheets.specs.Plain.{in_order}
use Rattle.format.specs.Format.{Format}

-- of a value by its form: an amount that is there is tidied, and nothing else changes
unfoldable pub tidied : Form → List ℕ → List ℕ
tidied nothing v = v
tidied (codes least most) v = v
tidied (characters class least most) v = v
tidied (words ws) v = v
tidied amount v = cond (some v) (tidy v) []
tidied date v = v
tidied moment v = v
tidied narrative v = v
tidied pool_narrative v = v
tidied other v = v

-- in an amount that stands behind a text needless noughts go
unfoldable pub tidy_behind : List ℕ → List ℕ → List ℕ
tidy_behind front l = cond (begins front l) (front ++ tidy (drop (length front) l)) l

unfoldable pub tidy_line : List (List ℕ) → List ℕ → List ℕ
tidy_line [] l = l
tidy_line (f ∷ fs) l = tidy_behind f (tidy_line fs l)

module _ (F : Format) where
  unfoldable pub plain_lines : List (List ℕ) → List (List ℕ)
  plain_lines ls = map (tidy_line F.fronts) (in_order F.groups ls)

  -- every line ends in CR LF
  unfoldable pub plain_of : List ℕ → List ℕ
  plain_of m = joined (plain_lines (lines_of m))
