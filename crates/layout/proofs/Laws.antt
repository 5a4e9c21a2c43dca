-- What callers cite: the rows of a table's bytes one by one, a run one line further or behind lines that were taken, and that a line is
-- at least as long as the text of the slot that it is taken for.
-- Assumes nothing.
use Prim.Native.Nat.{ℕ, zero, suc, ◌+◌, ◌*◌, ◌/◌, ◌%◌, ◌≤◌, ◌<◌}
use mathlib.Core.Path.{◌≡◌, refl, ap, ◌∙◌}
use mathlib.Core.Bool.{Bool, true, false, ◌&&◌, ◌||◌}
use mathlib.Core.List.{List, [], ◌∷◌, ◌++◌, map}
use native.Mathlib.Nat.{add-zero}
use native.Mathlib.Omega.{arith}
use lib.Dec.{eqb}
use lib.ListN.{length, take, drop, get_or, length-append, drop_of_length-le}
use lib.Seq.{get_or-drop, get_or-take, take-take}
use borrow.Author.Tests.{lt-ltb, le-ltb}
use Rattle.text.specs.Bytes.{begins, same, parts}
use Rattle.text.proofs.Bools.{of-both}
use Rattle.text.proofs.Laws.{begins-is, parts_from, length-parts}
use Rattle.bars.specs.Bars.{stops}
use Rattle.layout.specs.Rows.{Row, field, opens, closes, many, mark, back, ends, bar, next_key, row_of, key_of, text_at, first_row, rows_of}
use Rattle.layout.specs.Layout.{fits_or9, lacks, is_seen, against, beneath, look, onward, scan, step_of, Taken, Run, refused_at, taken, with_taken, marked, behind, run_of}
use Rattle.layout.specs.declared.Place.{Place}
use Rattle.layout.specs.declared.Step.{Step}
use Rattle.layout.specs.declared.Look.{Look}
use Rattle.layout.specs.declared.Look.TheVariants.{Decided, Further}

-- ---- the rows of a table's bytes

drop-rows : (i : ℕ) (ps : List (List ℕ)) → drop i (map first_row ps) ≡ map first_row (drop i ps)
drop-rows zero ps = refl
drop-rows (suc i) [] = refl
drop-rows (suc i) (p ∷ ps) = drop-rows i ps

-- a row is told by its sixteen bytes
behind-three : (t : List ℕ) → drop 3 (take 16 t) ≡ take 13 (drop 3 t)
behind-three [] = refl
behind-three (a ∷ []) = refl
behind-three (a ∷ b ∷ []) = refl
behind-three (a ∷ b ∷ c ∷ t) = refl

first-is : (t : List ℕ) → first_row (take 16 t) ≡ first_row t
unfolding first_row key_of
first-is t =
    rw (get_or-take 16 t 0 0 (omega arith), get_or-take 16 t 1 0 (omega arith), get_or-take 16 t 2 0 (omega arith), behind-three t, take-take (get_or t 2 0 % 14) 13 (drop 3 t) (omega arith))

pub row_next : (t : List ℕ) (i : ℕ) → i < length t / 16 → drop i (rows_of t) ≡ first_row (drop (i * 16) t) ∷ drop (i + 1) (rows_of t)
unfolding rows_of
row_next t i h = drop-rows i _ ∙ ap (map first_row) (parts_from 16 (length t / 16) i t h) ∙ rw (first-is (drop (i * 16) t), drop-rows)

pub row-none : (t : List ℕ) (i : ℕ) → length t / 16 ≤ i → drop i (rows_of t) ≡ []
unfolding rows_of
row-none t i h = drop-rows i _ ∙ ap (map first_row) (drop_of_length-le (parts 16 (length t / 16) t) {i = i} (rw length-parts h))

-- the row whose bytes begin at a place
pub row_at : (t : List ℕ) (at : ℕ) → first_row (drop at t) ≡ row_of (get_or t at 0) (get_or t (at + 1) 0) (key_of (drop at t))
unfolding first_row
row_at t at = rw (get_or-drop at t 0 0, get_or-drop at t 1 0, add-zero at)

-- the text of a row, and of no row
pub text_at_lem : (t : List ℕ) (row : ℕ) → row < length t / 16 → text_at t row ≡ key_of (drop (row * 16) t)
unfolding text_at
text_at_lem t row h = rw (lt-ltb row (length t / 16) h)

pub text-none : (t : List ℕ) (row : ℕ) → length t / 16 ≤ row → text_at t row ≡ []
unfolding text_at
text-none t row h = rw (le-ltb row (length t / 16) h)

-- ---- a run, one line further

pub run-next : (table : List Row) (here : Place) (seen : List ℕ) (n : ℕ) (l : List ℕ) (ls : List (List ℕ))
    → run_of table here seen n (l ∷ ls)
    ≡ behind n l (step_of table here seen l)
    (run_of table (step_of table here seen l).place (marked seen (step_of table here seen l)) (suc n) ls)
unfolding run_of
run-next table here seen n l ls = refl

-- ---- some lines that were taken, and then a run

unfoldable pub with_all : List Taken → Run → Run
with_all [] run = run
with_all (t ∷ ts) run = with_taken t (with_all ts run)

pub all-refused : (ts : List Taken) (number line : ℕ) → with_all ts (refused_at number line) ≡ refused_at number line
unfolding with_all with_taken
all-refused [] number line = refl
all-refused (t ∷ ts) number line = ap (with_taken t) (all-refused ts number line)

pub all_none : (ts : List Taken) → with_all ts (taken []) ≡ taken ts
unfolding with_all with_taken
all_none [] = refl
all_none (t ∷ ts) = ap (with_taken t) (all_none ts)

pub all_append : (ts us : List Taken) (run : Run) → with_all (ts ++ us) run ≡ with_all ts (with_all us run)
unfolding with_all
all_append [] us run = refl
all_append (t ∷ ts) us run = ap (with_taken t) (all_append ts us run)

pub all_more : (ts : List Taken) (t : Taken) (run : Run) → with_all (ts ++ t ∷ []) run ≡ with_all ts (with_taken t run)
unfolding with_all
all_more ts t run = all_append ts (t ∷ []) run

-- ---- a line is at least as long as the text of the slot that it is taken for

-- what a look takes of a line is in the line, and it goes at most so deep
Bound : ℕ → ℕ → Look → Type 0
Bound long deepest (Decided step) = step.width ≤ long
Bound long deepest (Further deep unmarked passed) = deep ≤ deepest

module _ (here : Place) (seen line : List ℕ) (deep : ℕ) (unmarked passed : Bool) where
  abbrev Within : Step → Type 0
  Within step = step.width ≤ length line

  abbrev Good : Look → Type 0
  Good = Bound (length line) (deep + 1)

  key-within : (key : List ℕ) → begins key line ≡ true → length key ≤ length line
  key-within key e = let l = ap length (begins-is key line e) in omega (arith, length-append key (drop (length key) line))

  fits-within : (step : Step) → Within step → Within (fits_or9 here passed step)
  unfolding fits_or9
  fits-within step h = of-both Within passed (λ e. omega arith) (λ e. h)

  against-bound : (row : ℕ) (rows : List Row) (r : Row) → Good (against here seen line row rows unmarked passed r)
  unfolding Bound against
  against-bound row rows (field m s k) = of-both Good (begins k line) (λ e. fits-within _ (key-within k e)) (λ e. omega arith)
  against-bound row rows (opens m o) = of-both Good (same o line) (λ e. fits-within _ (omega arith)) (λ e. omega arith)
  against-bound row rows (closes c) = of-both Within (same c line) (λ e. fits-within _ (omega arith)) (λ e. omega arith)
  against-bound row rows (many n a o) =
      of-both Good (same o line && (a || lacks seen rows)) (λ e. fits-within _ (omega arith)) (λ e. omega arith)
  against-bound row rows (mark s k) =
      of-both Good (begins k line)
      (λ e. of-both Within (is_seen seen s) (λ f. omega arith) (λ f. fits-within _ (key-within k e)))
      (λ e. omega arith)
  against-bound row rows (back c) = of-both Within (same c line) (λ e. fits-within _ (omega arith)) (λ e. omega arith)
  against-bound row rows ends = omega arith
  against-bound row rows (bar b) = of-both Good (stops b (next_key rows) line) (λ e. omega arith) (λ e. omega arith)

  beneath-bound : (r : Row) → Good (beneath here line deep unmarked passed r)
  unfolding Bound beneath
  beneath-bound (field m s k) = of-both Good (unmarked && (eqb deep 1 && begins k line)) (λ e. omega arith) (λ e. omega arith)
  beneath-bound (opens m o) = omega arith
  beneath-bound (closes c) = omega arith
  beneath-bound (many n a o) = omega arith
  beneath-bound (mark s k) = omega arith
  beneath-bound (back c) = of-both Good (unmarked && (eqb deep 1 && same c line)) (λ e. omega arith) (λ e. omega arith)
  beneath-bound ends = omega arith
  beneath-bound (bar b) = omega arith

  look-bound : (row : ℕ) (rows : List Row) (r : Row) → Good (look here seen line row rows deep unmarked passed r)
  unfolding look
  look-bound row rows r = of-both Good (eqb deep 0) (λ e. against-bound row rows r) (λ e. beneath-bound r)

  pub look-deeper : (row : ℕ) (rows : List Row) (r : Row) (d : ℕ) (u p : Bool) → look here seen line row rows deep unmarked passed r ≡ Further d u p → d ≤ deep + 1
  unfolding Bound
  look-deeper row rows r d u p e = rw e at (look-bound row rows r)

onward-within : (n d : ℕ) (v : Look) (rest : ℕ → Bool → Bool → Step) → Bound n d v
    → ((deep : ℕ) (unmarked passed : Bool) → (rest deep unmarked passed).width ≤ n) → (onward v rest).width ≤ n
unfolding Bound onward
onward-within n d (Decided step) rest b h = b
onward-within n d (Further deep unmarked passed) rest b h = h deep unmarked passed

scan-within : (here : Place) (seen line : List ℕ) (rows : List Row) (row deep : ℕ) (unmarked passed : Bool)
    → (scan here seen line row rows deep unmarked passed).width ≤ length line
unfolding scan
scan-within here seen line [] row deep unmarked passed = omega arith
scan-within here seen line (r ∷ rows) row deep unmarked passed =
    onward-within (length line) (deep + 1) _ _ (look-bound here seen line deep unmarked passed row rows r)
    (λ d u p. scan-within here seen line rows (row + 1) d u p)

pub takes-within : (table : List Row) (here : Place) (seen line : List ℕ) → (step_of table here seen line).width ≤ length line
unfolding step_of
takes-within table here seen line = scan-within here seen line (drop here.row table) here.row 0 false false
