-- B's fields are those of the table, by computation: B is accepted, so that its lines alone say them.
-- Assumes nothing.
use Prim.Native.Nat.{ℕ, ◌-◌}
use Prim.Native.String.{String}
use mathlib.Core.Path.{◌≡◌, refl, ap, ◌∙◌}
use mathlib.Core.Bool.{cond}
use mathlib.Core.List.{List, [], ◌∷◌, map, head-eq_of_cons-eq, tail-eq_of_cons-eq}
use lib.ListN.{length, drop}
use Rattle.text.specs.Bytes.{bytes, begins, same, before}
use Rattle.text.specs.Classes.{is_between}
use Rattle.lines.specs.Lines.{in_front, cut_behind, bare, without_ending, lines_of, line_at, start_behind, end_of}
use Rattle.layout.specs.Layout.{Taken, with_taken}
use Rattle.sheets.specs.Trees.{chain}
use Rattle.sheets.specs.Sheets.{has, lacking}
use Rattle.sheets.specs.Taking.{fit, next, seek, later_field, tell, move_of, following, walk, taken_by}
use Rattle.format.specs.Field as AnyType
use Rattle.format.specs.Reading.{body_of}
use Rattle.table.specs.Table.{slots, slot_of}
use Rattle.table.specs.Tree.{general, pool, details, tree}
use Rattle.values.specs.Mt515.{mt515}
use Rattle.search.specs.Search.{no_line, taken_for, span_from}
use Rattle.walk.specs.Walk.{taken_in}
use Rattle.format.specs.Changes.{ended}
use Rattle.mt515.specs.Cases.{b}
use Rattle.demands.specs.Demands.{read_of}
use Rattle.field.specs.Field as Place
use Rattle.trade.specs.declared.Trade.{Trade}
use Rattle.format.specs.declared.Reading.{Reading}
use Rattle.mt515.proofs.Cases.{answered as read-b}
use Rattle.mt515.specs.FieldCases.{fields, offsets, Answered}
use Rattle.mt515.specs.Field.{front_of, field_of, place_of}

-- of an accepted message: the line of a slot, its value, and where that begins
line_in : List ℕ → ℕ → Taken
line_in m slot = cond (is_between 1 21 slot) (taken_for slot (taken_in (body_of mt515 m))) no_line

field_in : List ℕ → ℕ → List ℕ
field_in m slot = drop (front_of slot) (line_in m slot).value

offset_in : List ℕ → ℕ → ℕ
offset_in m slot = end_of m (line_in m slot).line - length (field_in m slot)

module _ (m : List ℕ) (z : (read_of m).number ≡ 0) where
  field_in_lem : (slot : ℕ) → field_of m slot ≡ field_in m slot
  unfolding AnyType.field_of AnyType.line_for AnyType.asked line_in field_in
  field_in_lem slot = rw z

  offset-in : (slot : ℕ) → (place_of m slot).offset ≡ offset_in m slot
  unfolding Place.place_of AnyType.span_in span_from AnyType.line_for AnyType.asked line_in field_in offset_in
  offset-in slot = rw z

  fields_in_lem : (rows : List (ℕ × String)) → map (λ (row : ℕ × String). field_of m row.0) rows ≡ map (λ (row : ℕ × String). field_in m row.0) rows
  fields_in_lem [] = refl
  fields_in_lem (row ∷ rows) = rw (field_in_lem row.0, fields_in_lem rows)

accepted : ((read_of (ended "\n" b)).number ≡ 0) × ((read_of (ended "\r\n" b)).number ≡ 0)
accepted =
    let e = read-b.1 in
    (ap (λ (r : Reading Trade). r.number) (head-eq_of_cons-eq e), ap (λ (r : Reading Trade). r.number) (head-eq_of_cons-eq (tail-eq_of_cons-eq e)))

values : map (λ (row : ℕ × String). field_in (ended "\n" b) row.0) fields ≡ map (λ (row : ℕ × String). bytes row.1) fields
unfolding bytes begins same before is_between in_front cut_behind bare without_ending lines_of line_at with_taken fit next seek later_field tell move_of following walk taken_by chain has lacking general pool details tree slots slot_of body_of taken_in b ended fields no_line taken_for AnyType.front_of start_behind end_of line_in field_in
values = refl

places : (offset_in (ended "\n" b) 4 ≡ 108) × (offset_in (ended "\r\n" b) 4 ≡ 117) × (offset_in (ended "\n" b) 15 ≡ 306) × (offset_in (ended "\r\n" b) 21 ≡ 470)
unfolding bytes begins same before is_between in_front cut_behind bare without_ending lines_of line_at with_taken fit next seek later_field tell move_of following walk taken_by chain has lacking general pool details tree slots slot_of body_of taken_in b ended fields no_line taken_for AnyType.front_of start_behind end_of line_in field_in offset_in
places = (refl, refl, refl, refl)

pub answered : Answered
unfolding offsets
answered =
    let lf = ended "\n" b in
    let crlf = ended "\r\n" b in
    let (one, two, three, four) = places in (
      fields_in_lem lf accepted.0 fields ∙ values,
      rw (
        offset-in lf accepted.0 4 ∙ one,
        offset-in crlf accepted.1 4 ∙ two,
        offset-in lf accepted.0 15 ∙ three,
        offset-in crlf accepted.1 21 ∙ four,
      ),
    )
