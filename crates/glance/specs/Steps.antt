-- What the steps of a glance tell each other: a step of the code. `s` is the text from where a step looks at it.
use Rattle.std.specs.Prelude.{ℕ, ◌-◌, ◌≤◌, ◌<◌, ◌≡◌, true, List, [], ◌∷◌, ◌++◌, length, take, drop, Option, Some, None}
use Rattle.text.specs.Bytes.{bytes}
use Rattle.text.specs.Classes.{printed}
use Rattle.stretches.specs.Stretches.{slot_count}
use Rattle.lines.specs.Verdicts.{pass}
use Rattle.lines.specs.Lines.{lines_of, ended, ending_width, start_behind}
use Rattle.forms.specs.Forms.{Slot, value_number}
use Rattle.layout.specs.Rows.{Row}
use Rattle.layout.specs.Layout.{step_of}
use Rattle.layout.specs.declared.Place.{Place}
use Rattle.layout.specs.declared.Step.{Step}
use Rattle.walk.specs.Walk.{walk_of}
use Rattle.reader.specs.Header.{head_pass, starts_from, ends_from}
use Rattle.measure.specs.Measure.{clean_slot}
use Rattle.fitting.specs.Fitting.{clean_rows, ends_line}
use Rattle.glance.specs.declared.Taken.{Taken}

-- ---- one line

-- behind a text that ends at a place stands a line ending, and behind that the next line begins
pub record Ended (s : List ℕ) (end next : ℕ) : Type 0 where
  pub grows : end < next
  pub within : next ≤ length s
  pub ends : ends_line (drop end s) ≡ true
  pub is : ending_width (drop end s) ≡ Some (next - end)

unfoldable pub Ends : List ℕ → ℕ → Option ℕ → Type 0
Ends s end (Some next) = Ended s end next
Ends s end None = Unit

-- a line behind the header is taken by the table, and its value gets 0
pub record Tells (table : List Row) (slot_of : ℕ → Slot) (here : Place) (seen s : List ℕ) (t : Taken) : Type 0 where
  pub text : printed (take t.end s) ≡ true
  pub good : t.step.number ≡ 0
  pub takes : t.step ≡ step_of table here seen (take t.end s)
  pub valued : (t.step.slot ≡ 0 → ⊥)
      → (t.value ≡ t.step.width) × (value_number (slot_of t.step.slot) (drop t.step.width (take t.end s)) ≡ 0)

unfoldable pub Sees : List Row → (ℕ → Slot) → Place → List ℕ → List ℕ → Taken → Type 0
Sees table slot_of here seen s t =
    t.told ≡ true
    → (t.value ≤ t.end) × Ended s t.end t.next
    × (clean_rows table ≡ true → ((i : ℕ) → clean_slot (slot_of i) ≡ true) → Tells table slot_of here seen s t)

-- such a line, from what is known of its text
unfoldable pub Told : List ℕ → Step → ℕ → ℕ → Taken → Type 0
Told s step value end t = t.told ≡ true → (t.step ≡ step) × (t.value ≡ value) × (t.end ≡ end) × Ended s end t.next

-- and one whose value gets 0, behind the text of its row
unfoldable pub FieldSeen : Slot → List ℕ → Step → ℕ → Taken → Type 0
FieldSeen slot s step width t =
    t.told ≡ true
    → (t.step ≡ step) × (t.value ≡ width) × (width ≤ t.end) × Ended s t.end t.next
    × (value_number slot (drop width (take t.end s)) ≡ 0)
    × (clean_slot slot ≡ true → printed (drop width (take t.end s)) ≡ true)

-- ---- the header, and the lines behind it

-- whatever follows them, the first bytes of a text are a header with nothing wrong, and the places of its values are these
pub record HeadTold (slot_of : ℕ → Slot) (header s starts₀ ends₀ starts ends : List ℕ) (n : ℕ) (y : List ℕ) : Type 0 where
  pub head : head_pass slot_of header (take n s ++ y) ≡ pass
  pub begun : starts_from slot_of (take n s ++ y) 0 starts₀ header ≡ starts
  pub over : ends_from (take n s ++ y) 0 ends₀ header ≡ ends
  pub placed : n ≡ start_behind (take n s ++ y) (length header)
  pub starts-long : length starts ≡ slot_count
  pub ends-long : length ends ≡ slot_count

unfoldable pub HeadSays : (ℕ → Slot) → List ℕ → List ℕ → List ℕ → List ℕ → List ℕ → List ℕ → Option ℕ → Type 0
HeadSays slot_of header s starts₀ ends₀ starts ends (Some n) =
    (n ≤ length s)
    × (((i : ℕ) → clean_slot (slot_of i) ≡ true) → length starts₀ ≡ slot_count → length ends₀ ≡ slot_count
    → (y : List ℕ) → HeadTold slot_of header s starts₀ ends₀ starts ends n y)
HeadSays slot_of header s starts₀ ends₀ starts ends None = Unit

-- the line that was taken last is `-`, and the message is not too long
unfoldable pub Closes : List ℕ → ℕ → ℕ → ℕ → Option ℕ → Type 0
Closes s last stop at (Some n) = (n ≡ at) × (n ≤ 4096) × (take (stop - last) (drop last s) ≡ bytes "-")
Closes s last stop at None = Unit

-- the lines behind a header are taken with nothing wrong, up to the first n bytes of a text
pub record BodyTold (table : List Row) (slot_of : ℕ → Slot) (s starts₀ ends₀ starts ends : List ℕ) (n : ℕ) : Type 0 where
  pub short : n ≤ 4096
  pub closed : ended (take n s) ≡ true
  pub early : List (List ℕ)
  pub last : drop 4 (lines_of (take n s)) ≡ early ++ bytes "-" ∷ []
  pub body : walk_of table slot_of (take n s) starts₀ ends₀ ≡ record { verdict = pass; starts = starts; ends = ends }

unfoldable pub BodySays : List Row → (ℕ → Slot) → List ℕ → ℕ → List ℕ → List ℕ → List ℕ → List ℕ → Option ℕ → Type 0
BodySays table slot_of s from starts₀ ends₀ starts ends (Some n) =
    (from ≤ n) × (n ≤ length s)
    × (clean_rows table ≡ true → ((i : ℕ) → clean_slot (slot_of i) ≡ true) → length starts₀ ≡ slot_count → length ends₀ ≡ slot_count
    → ((y : List ℕ) → from ≡ start_behind (take from s ++ y) 4) → BodyTold table slot_of s starts₀ ends₀ starts ends n)
BodySays table slot_of s from starts₀ ends₀ starts ends None = Unit
