-- Document 01, the numbers 10, 11 and 12: the value of a line, by its slot's fixed text and form.
--   10  the fixed text is wrong; in values other than 11's and 12's, width, characters or code word
--   11  an amount is wrong in any way
--   12  a date or time is wrong in any way
use Rattle.std.specs.Prelude.{ℕ, Bool, cond, List, eqb, length, drop}
use Rattle.text.specs.Bytes.{begins}
use Rattle.amount.specs.Amounts.{amount_read, amount_number}
use Rattle.calendar.specs.Dates.{date_read, date_number, moment_read, moment_number}
use Rattle.forms.specs.Narrative.{is_narrative}
use Rattle.forms.specs.Pool.{pool_number}
unfoldable pub use Rattle.forms.specs.Words.{word_at, is_word}
use Rattle.text.specs.Classes.{is_all, is_code}
use Rattle.text.specs.declared.Class.{Class}

--   nothing         no more than the fixed text
--   codes           from a least to a most number of c
--   characters      from a least to a most number of bytes of a class
--   words           one of some words
--   narrative       a service, and perhaps a period and a reason
--   pool_narrative   POOL, and perhaps the word CDRY, a date and a reason
--   other           any text
pub data Form : Type 0 where
  nothing : Form
  codes : ℕ → ℕ → Form
  characters : Class → ℕ → ℕ → Form
  words : List (List ℕ) → Form
  amount : Form
  date : Form
  moment : Form
  narrative : Form
  pool_narrative : Form
  other : Form

pub record Slot : Type 0 where
  pub fixed : List ℕ
  pub form : Form

unfoldable pub unless : Bool → ℕ
unless b = cond b 0 10

-- what follows the fixed text
unfoldable pub form_number : Form → List ℕ → ℕ
form_number nothing v = unless (eqb (length v) 0)
form_number (codes least most) v = unless (is_code least most v)
form_number (characters class least most) v = unless (is_all class least most v)
form_number (words ws) v = unless (is_word ws v)
form_number amount v = amount_number (amount_read v)
form_number date v = date_number (date_read v)
form_number moment v = moment_number (moment_read v)
form_number narrative v = unless (is_narrative v)
form_number pool_narrative v = pool_number v
form_number other v = 0

-- all that follows a slot's qualifier
unfoldable pub value_number : Slot → List ℕ → ℕ
value_number slot v = cond (begins slot.fixed v) (form_number slot.form (drop (length slot.fixed) v)) 10
