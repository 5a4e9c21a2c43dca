-- What is asked of a message type: of its layout that tests compute to true, and of its record that it and the values of its slots tell
-- each other. From these the demands follow, for every message type.
-- Assumes nothing.
use Prim.Native.Nat.{ℕ, ◌≤◌}
use mathlib.Core.Path.{◌≡◌}
use mathlib.Core.Bool.{true, ◌||◌, not}
use mathlib.Core.List.{List, [], ◌∷◌, ◌++◌}
use mathlib.Core.Logic.{◌⊎◌}
use lib.Dec.{ltb, eqb}
use lib.ListN.{length}
use Rattle.text.specs.Bytes.{bytes}
use Rattle.stretches.specs.Stretches.{slot_count}
use Rattle.forms.specs.Forms.{value_number}
use Rattle.sheets.specs.Sheets.{has}
use Rattle.sheets.specs.Slots.{slots_of}
use Rattle.sheets.specs.Plain.{Group}
use Rattle.sheets.proofs.Checks.{good_tree, apart, free, with_tree, once, disjoint, distinct, sole, groups_of, tellable, complete, solid}
use Rattle.format.proofs.Worded.{words_agree}
use Rattle.sheets.proofs.Ends.{last_line}
use Rattle.format.specs.Format.{Format, optional}
use Rattle.format.specs.Reading.{rules_of}
use Rattle.format.specs.Writing.{behind_in, message_of, judge_of}
use Rattle.format.proofs.Nests.{nestable}
use Rattle.format.proofs.Prints.{texts, printable}
use Rattle.format.proofs.Tests.{every, foreign, is_amount_form, tidied, tidy_tree}

-- the lines of a header are none of these: `-`, the first and last lines of the blocks that are put in order, and what an amount stands
-- behind
unfoldable pub edges : List Group → List (List ℕ)
edges [] = []
edges (g ∷ gs) = g.opening ∷ g.closing ∷ edges gs

unfoldable pub strangers : Format → List (List ℕ)
strangers F = bytes "-" ∷ (edges F.groups ++ F.fronts)

-- all slots of a message
module _ (F : Format) where
  unfoldable pub every_slot : List ℕ
  every_slot = F.header ++ slots_of F.tree

  -- each has its place
  abbrev pub Placed : Type 0
  Placed = every (λ s. ltb s slot_count) every_slot ≡ true

-- ---- the layout

pub record Layout (F : Format) : Type 0 where
  -- its rows: every slot has its place, no line has to choose between two rows, the line `-` is the last of all and no other, blocks
  -- in any order are told apart, every row has a slot of its own, the lines nest, and their texts are of 20 to 7E hex
  pub good : good_tree F.tree ≡ true
  pub is-apart : apart F.tree ≡ true
  pub ends_at : free (bytes "-") true F.tree ≡ true
  pub last-is : last_line F.tree ≡ bytes "-"
  pub is-once : once [] F.tree ≡ true
  pub is-sole : sole F.tree ≡ true
  pub is-tellable : tellable F.tree ≡ true
  pub are-with : every (has (with_tree [] F.tree)) (slots_of F.tree) ≡ true
  pub nests : nestable 0 (bytes "-") F.tree ≡ true
  pub texts-are : texts F.tree ≡ true
  -- its slots: none is good with nothing behind the row's text, none that is optional is good with the fixed text alone, what is good
  -- behind a bar goes on with one of the bar's words, and what is good is of 20 to 7E hex
  pub none_bare : every (λ s. not (eqb (value_number (F.slot_of s) []) 0)) (slots_of F.tree) ≡ true
  pub none-fixed : every (λ s. not (optional F s) || not (eqb (value_number (F.slot_of s) ((F.slot_of s).fixed ++ [])) 0)) (slots_of F.tree) ≡ true
  pub words-agree : words_agree F.slot_of F.tree ≡ true
  pub printing : every (λ s. printable (F.slot_of s)) (every_slot F) ≡ true
  -- its plain form
  pub groups-are : groups_of F.tree ≡ F.groups
  pub is-tidy : tidy_tree F.fronts F.slot_of F.tree ≡ true
  -- its header: four lines with slots of their own, which are no amounts and no strangers
  pub four : length F.header ≡ 4
  pub heads-distinct : distinct F.header ≡ true
  pub heads-apart : disjoint F.header (slots_of F.tree) ≡ true
  pub heads-plain : every (λ s. not (is_amount_form (F.slot_of s).form)) F.header ≡ true
  pub heads-foreign : every (λ z. every (λ s. foreign (F.slot_of s) z) F.header) (strangers F) ≡ true
  -- 4,096 bytes are read
  pub short : F.longest ≤ 4096

-- ---- the record

module _ (F : Format) where
  -- a value gets 0 in its slot, or there is none, and the slot is optional
  abbrev pub Filled : ℕ → List ℕ → Type 0
  Filled s v = ((v ≡ []) × (optional F s ≡ true)) ⊎ (value_number (F.slot_of s) ((F.slot_of s).fixed ++ v) ≡ 0)

  -- the values of a message: each slot is filled, and what must stand together does
  pub record Held (value : ℕ → List ℕ) : Type 0 where
    pub each : (s : ℕ) → has (every_slot F) s ≡ true → Filled s (value s)
    pub whole : complete (behind_in F value) F.tree ≡ true
    pub firm : solid (behind_in F value) F.tree ≡ true

  -- the record of values, and the rules of reading, are the same for values that are the same at every slot
  abbrev pub Rests : Type 0
  Rests =
      (f g : ℕ → List ℕ) → ((s : ℕ) → has (every_slot F) s ≡ true → f s ≡ g s)
      → (F.record_of f ≡ F.record_of g) × ((r : F.Held) → F.read_rules f r ≡ F.read_rules g r)

  pub record Laws : Type 0 where
    -- a record in form is the record of its values, and these are a message's
    pub record-back : (r : F.Held) → F.in_form r ≡ true → F.record_of (F.value_of r) ≡ r
    pub values-held : (r : F.Held) → F.in_form r ≡ true → Held (F.value_of r)
    -- the record of a message's values is in form, and has these values, tidied
    pub values-back : (value : ℕ → List ℕ) → Held value → (rules_of F value).number ≡ 0
        → (F.in_form (F.record_of value) ≡ true)
        × ((s : ℕ) → has (every_slot F) s ≡ true → F.value_of (F.record_of value) s ≡ tidied (F.slot_of s).form (value s))
    -- it rests on the values of the slots alone
    pub rests : Rests
    -- the rules of reading and of writing are kept together
    pub rules-back : (r : F.Held) → F.in_form r ≡ true → (F.write_rules r).number ≡ 0 → (F.read_rules (F.value_of r) r).number ≡ 0
    pub rules-on : (value : ℕ → List ℕ) → Held value → (rules_of F value).number ≡ 0 → (F.write_rules (F.record_of value)).number ≡ 0
    pub rules-line : (value : ℕ → List ℕ) (r : F.Held) → (F.read_rules value r).line ≡ 0
    -- 19 is the room's number
    pub never-19 : (r : F.Held) → (F.write_rules r).number ≡ 19 → ⊥
    -- no message of a record that may be written is longer
    pub most : (r : F.Held) → judge_of F r ≡ 0 → length (message_of F r) ≤ F.longest
