-- Document 01, the numbers 8 and 9: the lines of a message are held, one after the other, against the tree of its message type. The
-- code walks the rows of a tree (layout's specs/Layout); proofs/Rows shows that it comes to the same.
--   8  the line fits no slot from here on in its block, or a qualifier of blocks in any order comes twice
--   9  the line fits a later slot, but a mandatory one was passed over
-- and the number of a block that comes once more than it may, where its tree has one.
use Rattle.std.specs.Prelude.{ℕ, suc, Bool, false, ◌&&◌, ◌||◌, cond, List, [], ◌∷◌, eqb, length, drop}
use Rattle.text.specs.Bytes.{begins, same}
use Rattle.bars.specs.Bars.{stops, bar_number}
use Rattle.layout.specs.Layout.{Run, refused_at, taken, with_taken}
use Rattle.sheets.specs.Trees.{Field, Member, Tree, last, line, block, group, barred, chain, lead_key}
use Rattle.sheets.specs.Sheets.{has, lacking}

-- ---- where a line stands, and what it does there

--   within   in what is left of a block
--   first    first in one of many blocks, which are those of a group
--   over     behind the last line of all
pub data Spot : Type 0 where
  within : Tree → Spot
  first : Bool → Bool → List ℕ → List ℕ → List Member → Tree → Spot
  over : Spot

--   no   it is refused with a number
--   go   it is taken for a slot, 0 for the first and last lines of blocks, behind a text so long; and where the next line stands, with
--        what is left of the blocks around it, the innermost in front
pub data Move : Type 0 where
  no : ℕ → Move
  go : ℕ → ℕ → Spot → List Tree → Move

-- ---- a line in a block: `slots` are those that have come, `passed` says that something mandatory was passed over, `around` is what is
-- left of the blocks around it

-- it fits: where something mandatory was passed over that is 9
unfoldable pub fit : Bool → Move → Move
fit passed move = cond passed (no 9) move

-- behind the last line of a block the one around it goes on
unfoldable pub next : List Tree → Move
next [] = go 0 0 over []
next (t ∷ around) = go 0 0 (within t) around

-- it is held against what is left of its block, one thing after the other; a block that it does not open is passed over whole. Of many
-- blocks one opens where one has not come, or where one may when all have. A bar stops it, or lets it pass as if there were none
unfoldable pub seek : List ℕ → List ℕ → Bool → List Tree → Tree → Move
seek slots l passed around (last c) = cond (same c l) (fit passed (next around)) (no 8)
seek slots l passed around (line f t) =
    cond (begins f.key l) (fit passed (go f.slot (length f.key) (within t) around))
    (seek slots l (passed || f.must) around t)
seek slots l passed around (block m o t u) =
    cond (same o l) (fit passed (go 0 0 (within t) (u ∷ around)))
    (seek slots l (passed || m) around u)
seek slots l passed around (group n a o c ms t) =
    cond (same o l && (a || lacking slots ms)) (fit passed (go 0 0 (first n a o c ms t) around))
    (seek slots l (passed || (n && lacking slots ms)) around t)
seek slots l passed around (barred b t) = cond (stops b (lead_key t) l) (no (bar_number b)) (seek slots l passed around t)

-- ---- a line that stands first in one of many blocks: `c` is their last line, `g` what is left behind this one, the group again

-- it is one of some fields
unfoldable pub later_field : List Field → List ℕ → Bool
later_field [] l = false
later_field (f ∷ fs) l = begins f.key l || later_field fs l

-- it tells which of them this is; 8 where that one has come. A later field of one of them, or their last line, has passed over the first
-- field, which is mandatory
unfoldable pub tell : List ℕ → List ℕ → List ℕ → Tree → List Tree → List Member → Move
tell slots l c g around [] = no 8
tell slots l c g around (m ∷ ms) =
    cond (begins m.key l)
    (cond (has slots m.slot) (no 8) (go m.slot (length m.key) (within (chain m.inside c)) (g ∷ around)))
    (cond (later_field m.inside l || same c l) (no 9) (tell slots l c g around ms))

-- ---- a line wherever it stands; behind the last line of all there is no slot

unfoldable pub move_of : List ℕ → List ℕ → Spot → List Tree → Move
move_of slots l (within t) around = seek slots l false around t
move_of slots l (first n a o c ms t) around = tell slots l c (group n a o c ms t) around ms
move_of slots l over around = no 8

-- ---- line after line: the first that is refused stops it; the number of a line is n

-- a line that was taken for a slot is kept, with all that follows the slot's text, and its slot has come
unfoldable pub following : ℕ → List ℕ → List ℕ → Move → (List ℕ → Spot → List Tree → Run) → Run
following n l slots (no k) rest = refused_at k n
following n l slots (go s w spot around) rest =
    cond (eqb s 0) (rest slots spot around)
    (with_taken (record { slot = s; line = n; value = drop w l }) (rest (s ∷ slots) spot around))

unfoldable pub walk : List ℕ → ℕ → Spot → List Tree → List (List ℕ) → Run
walk slots n spot around [] = taken []
walk slots n spot around (l ∷ ls) =
    following n l slots (move_of slots l spot around) (λ slots' spot' around'. walk slots' (suc n) spot' around' ls)

-- the lines of a message, counted from n, as a tree takes them
unfoldable pub taken_by : Tree → ℕ → List (List ℕ) → Run
taken_by t n ls = walk [] n (within t) [] ls
