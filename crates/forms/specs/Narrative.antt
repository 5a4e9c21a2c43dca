-- Document 01, the value of 70E behind `//GSCC`: `/TDSV` and SBOD, TFTD or STIP; then optionally `/GUPP` and one digit; then
-- optionally `/DKRS` and 4 c.
use Rattle.std.specs.Prelude.{ℕ, Bool, ◌&&◌, ◌||◌, not, cond, List, [], ◌∷◌, take, drop, get_or}
use Rattle.text.specs.Bytes.{bytes, begins}
use Rattle.text.specs.Classes.{is_digit}
use Rattle.reason.specs.Reason.{good_reason}
use Rattle.forms.specs.Words.{is_word}

abbrev pub services : List (List ℕ)
services = bytes "SBOD" ∷ bytes "TFTD" ∷ bytes "STIP" ∷ []

-- the word behind `/TDSV`
unfoldable pub service_in : List ℕ → List ℕ
service_in v = take 4 (drop 5 v)

-- a period stands behind the word, or not; and what is left behind it
unfoldable pub has_period : List ℕ → Bool
has_period v = begins (bytes "/GUPP") (drop 9 v)

unfoldable pub period_in : List ℕ → ℕ
period_in v = get_or (drop 9 v) 5 0

unfoldable pub behind_period : List ℕ → List ℕ
behind_period v = cond (has_period v) (drop 15 v) (drop 9 v)

-- a period, where there is one, is one digit
unfoldable pub good_period : List ℕ → Bool
good_period v = not (has_period v) || is_digit (period_in v)

unfoldable pub is_narrative : List ℕ → Bool
is_narrative v = begins (bytes "/TDSV") v && (is_word services (service_in v) && (good_period v && good_reason (behind_period v)))
