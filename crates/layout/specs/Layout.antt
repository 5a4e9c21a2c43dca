-- How the code walks rows: each line of a message is held against the rows still ahead of it. This is a step of the code. What 8 and 9
-- are is said over the tree of a message type, in sheets' specs/Taking, and for the table of a tree the two come to the same (sheets,
-- proofs/Rows). `Taken` and `Run`, what lines come to, are the words of both.
use Rattle.std.specs.Prelude.{ℕ, suc, ◌+◌, ◌-◌, Bool, true, false, ◌&&◌, ◌||◌, not, cond, List, [], ◌∷◌, eqb, length, drop, get_or, set, replicate}
use Rattle.text.specs.Bytes.{begins, same}
use Rattle.stretches.specs.Stretches.{slot_count}
use Rattle.layout.specs.Rows.{Row, field, opens, closes, many, mark, back, ends, bar, next_key}
use Rattle.bars.specs.Bars.{stops, bar_number}
use Rattle.layout.specs.declared.Place.{Place}
use Rattle.layout.specs.declared.Step.{Step}
use Rattle.layout.specs.declared.Look.{Look}
use Rattle.layout.specs.declared.Look.TheVariants.{Decided, Further}

-- ---- what a line does at a place: the next row, and the row to come back to behind one of many blocks

-- it is refused
abbrev pub wrong : Place → ℕ → Step
wrong here number = record { number = number; slot = 0; width = 0; place = here }

-- it opens or closes a block, and the table goes on at a row
abbrev pub moves : Place → ℕ → Step
moves here row = record { number = 0; slot = 0; width = 0; place = record { row = row; back = here.back } }

-- it opens one of many blocks, whose row it is
abbrev pub enters : ℕ → Step
enters row = record { number = 0; slot = 0; width = 0; place = record { row = row + 1; back = row } }

-- it is taken for a slot, whose text has so many bytes
abbrev pub takes : Place → ℕ → ℕ → ℕ → Step
takes here row slot width = record { number = 0; slot = slot; width = width; place = record { row = row + 1; back = here.back } }

-- it fits: with a mandatory row passed over that is 9
unfoldable pub fits_or9 : Place → Bool → Step → Step
fits_or9 here passed step = cond passed (wrong here 9) step

-- ---- a line against one row: it is decided, or goes further with
--   deep       the blocks that are being passed over
--   unmarked   the line stands first in one of many blocks, and a mark was passed over
--   passed     a mandatory row was passed over

-- a slot was seen: a byte for each slot says so
unfoldable pub is_seen : List ℕ → ℕ → Bool
is_seen seen slot = eqb (get_or seen slot 0) 1

-- one of the marks ahead, up to the end of the many blocks, was not seen yet
unfoldable pub lacks : List ℕ → List Row → Bool
lacks seen [] = false
lacks seen (field m s k ∷ rows) = lacks seen rows
lacks seen (opens m o ∷ rows) = lacks seen rows
lacks seen (closes c ∷ rows) = lacks seen rows
lacks seen (many n a o ∷ rows) = lacks seen rows
lacks seen (mark s k ∷ rows) = not (is_seen seen s) || lacks seen rows
lacks seen (back c ∷ rows) = lacks seen rows
lacks seen (ends ∷ rows) = false
lacks seen (bar b ∷ rows) = lacks seen rows

-- a row inside a block that is being passed over. A line that stands first in one of many blocks and is a later one of its
-- fields, or its last line, has passed over the first field, which is mandatory
unfoldable pub beneath : Place → List ℕ → ℕ → Bool → Bool → Row → Look
beneath here line deep unmarked passed (field m s k) =
    cond (unmarked && (eqb deep 1 && begins k line)) (Decided (wrong here 9)) (Further deep unmarked passed)
beneath here line deep unmarked passed (opens m o) = Further (deep + 1) unmarked passed
beneath here line deep unmarked passed (closes c) = Further (deep - 1) unmarked passed
beneath here line deep unmarked passed (many n a o) = Further (deep + 1) unmarked passed
beneath here line deep unmarked passed (mark s k) = Further (deep + 1) unmarked passed
beneath here line deep unmarked passed (back c) =
    cond (unmarked && (eqb deep 1 && same c line)) (Decided (wrong here 9)) (Further (deep - 1) unmarked passed)
beneath here line deep unmarked passed ends = Further (deep - 1) unmarked passed
beneath here line deep unmarked passed (bar b) = Further deep unmarked passed

-- a row of the block that the line stands in: `row` is its place in the table, `rows` are those behind it
unfoldable pub against : Place → List ℕ → List ℕ → ℕ → List Row → Bool → Bool → Row → Look
against here seen line row rows unmarked passed (field m s k) =
    cond (begins k line) (Decided (fits_or9 here passed (takes here row s (length k)))) (Further 0 unmarked (passed || m))
against here seen line row rows unmarked passed (opens m o) =
    cond (same o line) (Decided (fits_or9 here passed (moves here (row + 1)))) (Further 1 unmarked (passed || m))
against here seen line row rows unmarked passed (closes c) =
    Decided (cond (same c line) (fits_or9 here passed (moves here (row + 1))) (wrong here 8))
against here seen line row rows unmarked passed (many n a o) =
    cond (same o line && (a || lacks seen rows)) (Decided (fits_or9 here passed (enters row)))
    (Further 1 unmarked (passed || (n && lacks seen rows)))
against here seen line row rows unmarked passed (mark s k) =
    cond (begins k line) (Decided (cond (is_seen seen s) (wrong here 8) (fits_or9 here passed (takes here row s (length k)))))
    (Further 1 true passed)
against here seen line row rows unmarked passed (back c) =
    Decided (cond (same c line) (fits_or9 here passed (moves here here.back)) (wrong here 8))
against here seen line row rows unmarked passed ends = Decided (wrong here 8)
against here seen line row rows unmarked passed (bar b) =
    cond (stops b (next_key rows) line) (Decided (wrong here (bar_number b))) (Further 0 unmarked passed)

unfoldable pub look : Place → List ℕ → List ℕ → ℕ → List Row → ℕ → Bool → Bool → Row → Look
look here seen line row rows deep unmarked passed r =
    cond (eqb deep 0) (against here seen line row rows unmarked passed r) (beneath here line deep unmarked passed r)

-- ---- a line against the rows ahead

unfoldable pub onward : Look → (ℕ → Bool → Bool → Step) → Step
onward (Decided step) rest = step
onward (Further deep unmarked passed) rest = rest deep unmarked passed

unfoldable pub scan : Place → List ℕ → List ℕ → ℕ → List Row → ℕ → Bool → Bool → Step
scan here seen line row [] deep unmarked passed = wrong here 8
scan here seen line row (r ∷ rows) deep unmarked passed =
    onward (look here seen line row rows deep unmarked passed r)
    (λ deep' unmarked' passed'. scan here seen line (row + 1) rows deep' unmarked' passed')

unfoldable pub step_of : List Row → Place → List ℕ → List ℕ → Step
step_of table here seen line = scan here seen line here.row (drop here.row table) 0 false false

-- ---- a message's lines, one after the other

-- a line that was taken for a slot: the slot, the number of the line, and all that follows the slot's text
pub record Taken : Type 0 where
  pub slot : ℕ
  pub line : ℕ
  pub value : List ℕ

-- what the lines come to: the first that is refused, its number and line; or all that were taken
pub data Run : Type 0 where
  refused_at : ℕ → ℕ → Run
  taken : List Taken → Run

unfoldable pub with_taken : Taken → Run → Run
with_taken t (refused_at number line) = refused_at number line
with_taken t (taken ts) = taken (t ∷ ts)

-- the slot of a step is seen from then on
unfoldable pub marked : List ℕ → Step → List ℕ
marked seen step = set seen step.slot 1

-- a step that is refused stops the run; one with a slot is taken
unfoldable pub behind : ℕ → List ℕ → Step → Run → Run
behind n l step rest =
    cond (eqb step.number 0)
    (cond (eqb step.slot 0) rest (with_taken (record { slot = step.slot; line = n; value = drop step.width l }) rest))
    (refused_at step.number n)

unfoldable pub run_of : List Row → Place → List ℕ → ℕ → List (List ℕ) → Run
run_of table here seen n [] = taken []
run_of table here seen n (l ∷ ls) =
    let step = step_of table here seen l in
    let rest = run_of table step.place (marked seen step) (suc n) ls in
    behind n l step rest

-- from the first row on, with no slot seen, lines counted from n
unfoldable pub layout_of : List Row → ℕ → List (List ℕ) → Run
layout_of table n ls = run_of table (record { row = 0; back = 0 }) (replicate {A = ℕ} slot_count 0) n ls
