-- All fields of a message of any type in one answer. The fields 1 to the type's last are those of specs/Field, and a field stands here
-- where it stands there: it begins at its offset and ends behind its last byte. Two lines of the header follow, which have no fixed
-- text: the first, which is the password, and line k, counted from 0. What the message does not have begins and ends at 0; so does all
-- beside a refusal, and so does field 0. The first line begins at 0, so a blank password does too.
use Rattle.std.specs.Prelude.{ℕ, zero, suc, ◌+◌, ◌≡◌, true, cond, List, [], ◌∷◌, map, eqb, ltb, get_or}
use Rattle.text.specs.Classes.{is_between}
use Rattle.lines.specs.Lines.{start_behind, end_of}
use Rattle.stretches.specs.Stretches.{between}
use Rattle.format.specs.Format.{Format}
use Rattle.format.specs.Reading.{read_of}
use Rattle.format.specs.Lawful.{said_in, Lawful}
use Rattle.format.specs.Field.{field_of, span_in}

-- n numbers, from f on
unfoldable pub numbers : ℕ → ℕ → List ℕ
numbers f zero = []
numbers f (suc n) = f ∷ numbers (suc f) n

module _ (F : Format) where
  abbrev pub password_field : ℕ
  password_field = F.fields + 1

  abbrev pub line_field : ℕ
  line_field = F.fields + 2

  -- all of them, from 0 on
  abbrev pub all_fields : List ℕ
  all_fields = numbers 0 (F.fields + 3)

  -- the slot of a line of the header
  abbrev pub head_slot : ℕ → ℕ
  head_slot k = get_or F.header k 0

  -- a line of an accepted message, behind k others
  unfoldable pub line_start : List ℕ → ℕ → ℕ
  line_start m k = cond (eqb (read_of F m).number 0) (start_behind m k) 0

  unfoldable pub line_end : List ℕ → ℕ → ℕ
  line_end m k = cond (eqb (read_of F m).number 0) (end_of m (suc k)) 0

  module _ (k : ℕ) where
    -- where a field begins and where it ends
    unfoldable pub start_in : List ℕ → ℕ → ℕ
    start_in m f = cond (eqb f password_field) (line_start m 0) (cond (eqb f line_field) (line_start m k) (span_in F m f).offset)

    unfoldable pub end_in : List ℕ → ℕ → ℕ
    end_in m f = cond (eqb f password_field) (line_end m 0) (cond (eqb f line_field) (line_end m k) ((span_in F m f).offset + (span_in F m f).count))

    unfoldable pub starts_in : List ℕ → List ℕ
    starts_in m = map (start_in m) all_fields

    unfoldable pub ends_in : List ℕ → List ℕ
    ends_in m = map (end_in m) all_fields

    -- ---- what stands in a message between the places of a field

    abbrev pub standing : List ℕ → ℕ → List ℕ
    standing m f = between m (start_in m f) (end_in m f)

    pub record Standing : Type 0 where
      -- of a field from 1 to the last it is the field
      pub is_field : (m : List ℕ) (f : ℕ) → is_between 1 F.fields f ≡ true → standing m f ≡ field_of F m f
      -- and of an accepted message the header's two lines are what its record was read from
      pub is-password : (m : List ℕ) (w : Lawful F m) → standing m password_field ≡ said_in F m w.sheet (head_slot 0)
      pub is-line : (m : List ℕ) (w : Lawful F m) → standing m line_field ≡ said_in F m w.sheet (head_slot k)

-- ---- a step of the code: where the fields stand, by the places that a reading keeps for the slots

module _ (F : Format) where
  -- of a value that is there the first bytes may not be the field's
  unfoldable pub begun_at : ℕ → ℕ → ℕ → ℕ
  begun_at f from to = cond (ltb from to) (from + F.beyond f) from

  module _ (k : ℕ) where
    unfoldable pub slot_for : ℕ → ℕ
    slot_for f = cond (eqb f (password_field F)) (head_slot F 0) (cond (eqb f (line_field F)) (head_slot F k) f)

    abbrev pub start_kept : List ℕ → List ℕ → ℕ → ℕ
    start_kept starts ends f = begun_at f (get_or starts (slot_for f) 0) (get_or ends (slot_for f) 0)

    abbrev pub end_kept : List ℕ → ℕ → ℕ
    end_kept ends f = get_or ends (slot_for f) 0

    unfoldable pub starts_kept : List ℕ → List ℕ → List ℕ
    starts_kept starts ends = map (start_kept starts ends) (all_fields F)

    unfoldable pub ends_kept : List ℕ → List ℕ
    ends_kept ends = map (end_kept ends) (all_fields F)
