-- Document 01, "Lines and blocks", its second part: every line between header and `-` is a colon, two digits, one upper-case
-- letter, a colon, and at least one character. `:16R:name` opens a block and `:16S:name` closes the innermost one, which must
-- have that name (1 to 16 c). Nesting is judged for every name, down to depth 8. The numbers 5, 6 and 7.
use Rattle.std.specs.Prelude.{ℕ, suc, Bool, ◌&&◌, cond, List, [], ◌∷◌, leb, ltb, eqb, length, drop, get_or}
use Rattle.text.specs.Bytes.{bytes, begins, same}
use Rattle.text.specs.Classes.{is_digit, is_upper, is_code}
use Rattle.lines.specs.Verdicts.{refused, pass}
use Rattle.lines.specs.Lines.{lines_of}
use Rattle.lines.specs.declared.Verdict.{Verdict}
use Rattle.blocks.specs.declared.Role.{Role}
use Rattle.blocks.specs.declared.Role.TheVariants.{End, Opens, Closes, Field, Wrong}

-- ---- one line

unfoldable pub is_tagged : List ℕ → Bool
is_tagged l =
    leb 6 (length l)
    && (eqb (get_or l 0 0) 58 && (is_digit (get_or l 1 0) && (is_digit (get_or l 2 0) && (is_upper (get_or l 3 0) && eqb (get_or l 4 0) 58))))

-- the name that a line opens or closes a block by
unfoldable pub name_of : List ℕ → List ℕ
name_of l = drop 5 l

-- a line with a bad name is wrong, whatever it would do: a name is 1 to 16 c
unfoldable pub named : Role → List ℕ → Role
named role name = cond (is_code 1 16 name) role Wrong

unfoldable pub role_of : List ℕ → Role
role_of l =
    cond (same (bytes "-") l) End
    (cond (is_tagged l)
    (cond (begins (bytes ":16R:") l) (named Opens (name_of l)) (cond (begins (bytes ":16S:") l) (named Closes (name_of l)) Field))
    Wrong)

-- ---- what one line does to the blocks that are open, innermost first

pub data Turn : Type 0 where
  goes : List (List ℕ) → Turn
  stops : ℕ → Turn
  over : Turn

-- the `-` line: no block may be open
unfoldable pub ending : List (List ℕ) → Turn
ending [] = over
ending (b ∷ blocks) = stops 6

-- a block opens: the ninth level is refused
unfoldable pub opening : List (List ℕ) → List ℕ → Turn
opening blocks name = cond (ltb (length blocks) 8) (goes (name ∷ blocks)) (stops 7)

-- a block closes: it must be the innermost one
unfoldable pub closing : List (List ℕ) → List ℕ → Turn
closing [] name = stops 6
closing (b ∷ blocks) name = cond (same b name) (goes blocks) (stops 6)

unfoldable pub turn : Role → List (List ℕ) → List ℕ → Turn
turn End blocks name = ending blocks
turn Opens blocks name = opening blocks name
turn Closes blocks name = closing blocks name
turn Field blocks name = goes blocks
turn Wrong blocks name = stops 5

-- ---- all lines, counted from n: the first faulty one decides

unfoldable pub follow : ℕ → Turn → (List (List ℕ) → Verdict) → Verdict
follow n (goes blocks) rest = rest blocks
follow n (stops number) rest = refused number n
follow n over rest = pass

unfoldable pub nest : ℕ → List (List ℕ) → List (List ℕ) → Verdict
nest n blocks [] = pass
nest n blocks (l ∷ ls) = follow n (turn (role_of l) blocks (name_of l)) (λ next. nest (suc n) next ls)

-- the lines behind the four of the header
unfoldable pub nest_pass : List ℕ → Verdict
nest_pass m = nest 5 [] (drop 4 (lines_of m))
