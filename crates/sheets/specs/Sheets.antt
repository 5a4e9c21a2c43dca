-- Document 01, "The slots, in order", told from the other end: not which line is refused, but which lines a table lays out. A
-- sheet is a filled-in form, the lines of a message with the slot that each stands for.
use Rattle.std.specs.Prelude.{ℕ, ◌≡◌, Bool, true, false, ◌||◌, not, List, [], ◌∷◌, ◌++◌, map, eqb}
use Rattle.text.specs.Bytes.{same}
use Rattle.bars.specs.Bars.{Bar, stops}
use Rattle.sheets.specs.Trees.{Field, Member, Tree, last, line, block, group, barred, chain, lead_key}

-- a line of a sheet: the first or last line of a block; or a field's, with its slot, the text that it begins with, and its value
pub data Entry : Type 0 where
  edge : List ℕ → Entry
  item : ℕ → List ℕ → List ℕ → Entry

unfoldable pub line_of : Entry → List ℕ
line_of (edge o) = o
line_of (item s k v) = k ++ v

-- the lines of a sheet
unfoldable pub lines_in : List Entry → List (List ℕ)
lines_in es = map line_of es

-- the first of them
unfoldable pub foremost : List Entry → List ℕ
foremost [] = []
foremost (e ∷ es) = line_of e

-- ---- which sheets a tree lays out

-- the slots that have come, the last in front, behind those of a sheet
unfoldable pub come : List ℕ → List Entry → List ℕ
come slots [] = slots
come slots (edge o ∷ es) = come slots es
come slots (item s k v ∷ es) = come (s ∷ slots) es

unfoldable pub has : List ℕ → ℕ → Bool
has [] s = false
has (x ∷ slots) s = eqb x s || has slots s

-- one of the blocks has not come
unfoldable pub lacking : List ℕ → List Member → Bool
lacking slots [] = false
lacking slots (m ∷ ms) = not (has slots m.slot) || lacking slots ms

-- one of the members of a group
pub data Among : Member → List Member → Type 0 where
  front : {m : Member} {ms : List Member} → Among m (m ∷ ms)
  later : {m k : Member} {ms : List Member} → Among m ms → Among m (k ∷ ms)

-- behind the slots that have come
--   shut     a block ends with its last line
--   given    a field stands with any value
--   absent   a field that is not mandatory does not stand
--   opened   a block stands: its first line, what it holds, what is left behind it
--   passed   a block that is not mandatory does not stand, and no line follows that would open it: so of blocks that are alike and
--            stand one behind the other none stands where the one before it does not
--   member   one of many blocks that has not come stands: its first line, its first field, what it holds; and then as before
--   done     of many blocks no other stands: where each must come, none lacks
--   unstopped   the line that follows is not stopped
pub data Laid : List ℕ → Tree → List Entry → Type 0 where
  shut : {slots : List ℕ} {c : List ℕ} → Laid slots (last c) (edge c ∷ [])
  given : {slots : List ℕ} {f : Field} {t : Tree} {es : List Entry} (v : List ℕ)
      → Laid (f.slot ∷ slots) t es
      → Laid slots (line f t) (item f.slot f.key v ∷ es)
  absent : {slots : List ℕ} {f : Field} {t : Tree} {es : List Entry}
      → f.must ≡ false → Laid slots t es
      → Laid slots (line f t) es
  opened : {slots : List ℕ} {m : Bool} {o : List ℕ} {t u : Tree} {es ds : List Entry}
      → Laid slots t es → Laid (come slots es) u ds
      → Laid slots (block m o t u) (edge o ∷ (es ++ ds))
  passed : {slots : List ℕ} {m : Bool} {o : List ℕ} {t u : Tree} {ds : List Entry}
      → m ≡ false → same o (foremost ds) ≡ false → Laid slots u ds
      → Laid slots (block m o t u) ds
  member : {slots : List ℕ} {n a : Bool} {o c : List ℕ} {ms : List Member} {t : Tree} {m : Member} {es ds : List Entry} (v : List ℕ)
      → Among m ms → has slots m.slot ≡ false
      → Laid (m.slot ∷ slots) (chain m.inside c) es → Laid (come (m.slot ∷ slots) es) (group n a o c ms t) ds
      → Laid slots (group n a o c ms t) (edge o ∷ item m.slot m.key v ∷ (es ++ ds))
  done : {slots : List ℕ} {n a : Bool} {o c : List ℕ} {ms : List Member} {t : Tree} {es : List Entry}
      → (n ≡ true → lacking slots ms ≡ false) → Laid slots t es
      → Laid slots (group n a o c ms t) es
  unstopped : {slots : List ℕ} {b : Bar} {t : Tree} {es : List Entry}
      → stops b (lead_key t) (foremost es) ≡ false → Laid slots t es
      → Laid slots (barred b t) es

-- the sheets of a table
abbrev pub Sheet : Tree → List Entry → Type 0
Sheet t es = Laid [] t es
