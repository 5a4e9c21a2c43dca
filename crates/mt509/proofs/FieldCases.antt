-- R's fields are those of the table, by computation: R is accepted, so that its lines alone say them.
-- Assumes nothing.
use Prim.Native.Nat.{ℕ}
use Prim.Native.String.{String}
use mathlib.Core.Path.{◌≡◌, refl, ap, ◌∙◌}
use mathlib.Core.Bool.{cond}
use mathlib.Core.List.{List, [], ◌∷◌, map, head-eq_of_cons-eq, tail-eq_of_cons-eq}
use lib.ListN.{drop}
use Rattle.text.specs.Bytes.{bytes, begins, same, before, parts}
use Rattle.text.specs.Classes.{is_between}
use Rattle.lines.specs.Lines.{in_front, cut_behind, bare, without_ending, lines_of, line_at, start_behind, end_of}
use Rattle.layout.specs.Layout.{Taken, with_taken}
use Rattle.bars.specs.Bars.{any_front, goes_on, strays, stops, bar_number}
use Rattle.sheets.specs.Trees.{chain, lead_key}
use Rattle.sheets.specs.Notation.{repeated}
use Rattle.sheets.specs.Sheets.{has, lacking}
use Rattle.sheets.specs.Taking.{fit, next, seek, later_field, tell, move_of, following, walk, taken_by}
use Rattle.search.specs.Search.{no_line, taken_for, span_from}
use Rattle.walk.specs.Walk.{taken_in}
use Rattle.format.specs.Changes.{ended}
use Rattle.format.specs.Field as AnyType
use Rattle.format.specs.Reading.{body_of}
use Rattle.status.specs.Statuses.{statuses}
use Rattle.answer_table.specs.Table.{slots, slot_of, last_field}
use Rattle.answer_table.specs.Tree.{reasons, status, general, tree}
use Rattle.answer_values.specs.Mt509.{mt509}
use Rattle.mt509.specs.Cases.{r}
use Rattle.format.specs.Reading.{read_of}
use Rattle.answer.specs.declared.Answer.{Answer}
use Rattle.format.specs.declared.Reading.{Reading}
use Rattle.mt509.proofs.Cases.{answered as read-r}
use Rattle.mt509.specs.FieldCases.{fields, places, Answered}
use Rattle.field.specs.Field.{place_of}
use Rattle.field.specs.declared.Stretch.{Stretch}
use Rattle.field.proofs.Steps.{stretch}

-- of an accepted message: the line of a slot, its value, and where that stands
line_in : List ℕ → ℕ → Taken
line_in m slot = cond (is_between 1 last_field slot) (taken_for slot (taken_in (body_of mt509 m))) no_line

field_in : List ℕ → ℕ → List ℕ
field_in m slot = drop (AnyType.front_of mt509 slot) (line_in m slot).value

place_in : List ℕ → ℕ → Stretch
place_in m slot = stretch 0 (span_from m (AnyType.front_of mt509 slot) (line_in m slot))

module _ (m : List ℕ) (z : (read_of mt509 m).number ≡ 0) where
  field_in_lem : (slot : ℕ) → AnyType.field_of mt509 m slot ≡ field_in m slot
  unfolding AnyType.field_of AnyType.line_for AnyType.asked line_in field_in
  field_in_lem slot = rw z

  place-in : (slot : ℕ) → place_of mt509 m slot ≡ place_in m slot
  unfolding place_of AnyType.span_in AnyType.line_for AnyType.asked line_in place_in
  place-in slot = rw z

  fields_in_lem : (rows : List (ℕ × String)) → map (λ (row : ℕ × String). AnyType.field_of mt509 m row.0) rows ≡ map (λ (row : ℕ × String). field_in m row.0) rows
  fields_in_lem [] = refl
  fields_in_lem (row ∷ rows) = rw (field_in_lem row.0, fields_in_lem rows)

  places-in : (rows : List (ℕ × ℕ × ℕ)) → map (λ (row : ℕ × ℕ × ℕ). place_of mt509 m row.0) rows ≡ map (λ (row : ℕ × ℕ × ℕ). place_in m row.0) rows
  places-in [] = refl
  places-in (row ∷ rows) = rw (place-in row.0, places-in rows)

accepted : ((read_of mt509 (ended "\n" r)).number ≡ 0) × ((read_of mt509 (ended "\r\n" r)).number ≡ 0)
accepted =
    let e = read-r.endings in
    (ap (λ (x : Reading Answer). x.number) (head-eq_of_cons-eq e), ap (λ (x : Reading Answer). x.number) (head-eq_of_cons-eq (tail-eq_of_cons-eq e)))

values : map (λ (row : ℕ × String). field_in (ended "\n" r) row.0) fields ≡ map (λ (row : ℕ × String). bytes row.1) fields
unfolding bytes begins same before parts is_between in_front cut_behind bare without_ending lines_of line_at with_taken fit next seek later_field tell move_of following walk taken_by chain lead_key repeated any_front goes_on strays stops bar_number has lacking reasons status general tree statuses slots slot_of body_of taken_in r ended fields no_line taken_for AnyType.front_of start_behind end_of line_in field_in
values = refl

stand : map (λ (row : ℕ × ℕ × ℕ). place_in (ended "\r\n" r) row.0) places ≡ map (λ (row : ℕ × ℕ × ℕ). stretch 0 (record { offset = row.1; count = row.2 })) places
unfolding bytes begins same before parts is_between in_front cut_behind bare without_ending lines_of line_at with_taken fit next seek later_field tell move_of following walk taken_by chain lead_key repeated any_front goes_on strays stops bar_number has lacking reasons status general tree statuses slots slot_of body_of taken_in r ended places no_line taken_for span_from AnyType.front_of start_behind end_of line_in place_in
stand = refl

pub answered : Answered
answered = (
  fields_in_lem (ended "\n" r) accepted.0 fields ∙ values,
  places-in (ended "\r\n" r) accepted.1 places ∙ stand,
)
