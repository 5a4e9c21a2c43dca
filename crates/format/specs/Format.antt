-- A message type as data: what its messages look like, what is held of them, and what ties the two. All that is said here of a
-- message type is said of any of them.
use Rattle.std.specs.Prelude.{ℕ, Bool, true, ◌&&◌, not, List, [], ◌∷◌}
use Rattle.lines.specs.declared.Verdict.{Verdict}
use Rattle.forms.specs.Forms.{Slot}
use Rattle.sheets.specs.Trees.{Tree}
use Rattle.sheets.specs.Slots.{slots_of, must_slots}
use Rattle.sheets.specs.Sheets.{has}
use Rattle.sheets.specs.Plain.{Group}

-- a test of each
unfoldable pub every : {A : Type 0} → (A → Bool) → List A → Bool
every p [] = true
every p (x ∷ xs) = p x && every p xs

-- a slot of a layout that a message may be without
abbrev pub may_lack : Tree → ℕ → Bool
may_lack t s = has (slots_of t) s && not (has (must_slots t) s)

pub record Format : Type 1 where
  -- what a message looks like: the slots of the four lines of its header, the layout of the lines behind them, and what stands in
  -- each slot
  pub header : List ℕ
  pub tree : Tree
  pub slot_of : ℕ → Slot
  -- what is held of it: a record, from the values of the slots, and the values of a record; and whether a record keeps the forms
  -- of its values (where it does not, 18)
  pub Held : Type 0
  pub blank : Held
  pub record_of : (ℕ → List ℕ) → Held
  pub value_of : Held → ℕ → List ℕ
  pub in_form : Held → Bool
  -- the rules of line 0: of values and their record when a message is read, of a record alone when it is written
  pub read_rules : (ℕ → List ℕ) → Held → Verdict
  pub write_rules : Held → Verdict
  -- the plain form: the blocks that are put in order, and the texts behind which an amount stands
  pub groups : List Group
  pub fronts : List (List ℕ)
  -- the most bytes of a written message
  pub longest : ℕ
  -- a caller may ask for the fields 1 to this; and how many bytes of a slot's value are not its field's
  pub fields : ℕ
  pub beyond : ℕ → ℕ

module _ (F : Format) where
  -- a slot that a message of this type may be without
  unfoldable pub optional : ℕ → Bool
  optional s = may_lack F.tree s
