-- A message of any type with the values of its slots, from the writer's side: the parts that its lines are put as.
use Rattle.std.specs.Prelude.{ℕ, ◌&&◌, cond, List, [], ◌∷◌, ◌++◌, eqb, length}
use Rattle.text.specs.Bytes.{bytes}
use Rattle.forms.specs.Forms.{Slot}
use Rattle.forms.specs.Slots.{slot_at}
use Rattle.sheets.specs.Trees.{table_of}
use Rattle.format.specs.Format.{Format, optional}
use Rattle.format.specs.Writing.{behind_in}
use Rattle.fill.specs.Filling.{Lent, value_at, walk, filling}

-- ---- by the bytes that are lent

-- each line of the header has a slot: the slot's fixed text and its value are put, and CR LF behind them
unfoldable pub head_parts : (ℕ → Slot) → (ℕ → List ℕ) → List ℕ → List (List ℕ)
head_parts slot_of value [] = []
head_parts slot_of value (h ∷ hs) = (slot_of h).fixed ∷ value h ∷ bytes "\r\n" ∷ head_parts slot_of value hs

-- and then the rows of the table
unfoldable pub message_parts : Lent → List ℕ → List ℕ → List (List ℕ)
message_parts l header rows = head_parts (slot_at l.slots) (value_at l) header ++ filling l rows

-- ---- by the header, the slots and the tree of a message type

module _ (F : Format) (value : ℕ → List ℕ) where
  -- the fixed text of a slot; none where an optional one is absent
  unfoldable pub fixed_for : ℕ → List ℕ
  fixed_for s = cond (optional F s && eqb (length (value s)) 0) [] (F.slot_of s).fixed

  unfoldable pub parts_for : List (List ℕ)
  parts_for = head_parts F.slot_of value F.header ++ walk (behind_in F value) (λ s. fixed_for s ∷ value s ∷ []) [] 0 (table_of F.tree)
