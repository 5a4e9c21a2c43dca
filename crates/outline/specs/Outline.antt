-- All fields of a message of any type in one answer: what format's specs/Outline says. The fields from 1 to the type's last are those of
-- field's specs/Field, and a field stands here where it stands there: it begins at its offset and ends behind its last byte. Behind them
-- follow the password, which is the header's first line, and the header's line k, which have no fixed text. What the message does not
-- have begins and ends at 0; so does all beside a refusal, and so do field 0 and every number behind.
use Rattle.std.specs.Prelude.{ℕ, ◌+◌, cond, List, map, ltb, get_or}
use Rattle.format.specs.Format.{Format}
use Rattle.format.specs.Reading.{read_of}
use Rattle.format.specs.Outline as AnyType
use Rattle.format.specs.Outline.{numbers, start_in, end_in, slot_for, begun_at}
use Rattle.outline.specs.declared.Outline.{Outline}

module _ (F : Format) (k : ℕ) where
  -- of the fields below n, from 0 on, where each begins and where each ends
  unfoldable pub outline_of : (n : ℕ) → List ℕ → Outline n
  outline_of n m =
      record {
        number = (read_of F m).number;
        line = (read_of F m).line;
        starts = map (start_in F k m) (numbers 0 n);
        ends = map (end_in F k m) (numbers 0 n);
      }

  -- what stands in a message between the places of a field: the field, and the password and the line. Proved in proofs/Standing
  abbrev pub Standing : Type 0
  Standing = AnyType.Standing F k

  -- ---- a step of the code: where a field stands, by the places that a reading keeps for the slots

  -- a number behind the header's two lines has slot 0, which has no value
  unfoldable pub slot_at : ℕ → ℕ
  slot_at f = cond (ltb f (F.fields + 3)) (slot_for F k f) 0

  unfoldable pub start_at : List ℕ → List ℕ → ℕ → ℕ
  start_at starts ends f = begun_at F f (get_or starts (slot_at f) 0) (get_or ends (slot_at f) 0)

  unfoldable pub end_at : List ℕ → ℕ → ℕ
  end_at ends f = get_or ends (slot_at f) 0
