-- A message type, and the same with another form at one slot and another test of records: a message whose value for the slot gets the
-- same number from both forms gets the same answers from both types, and so does a record that both tests answer alike. Proved in
-- proofs/OtherForm of every format with the tests of proofs/Laws, for a slot that is none of its header's.
use Rattle.std.specs.Prelude.{ℕ, ◌≡◌, Bool, cond, List, eqb}
use Rattle.forms.specs.Forms.{Form, form_number}
use Rattle.walk.specs.Walk.{taken_in}
use Rattle.format.specs.Format.{Format}
use Rattle.format.specs.Reading.{body_of, value_on, verdict_of, read_of}
use Rattle.format.specs.Writing.{write_number, write_length, written_over}
use Rattle.format.specs.Plain.{plain_of}
use Rattle.format.specs.Asking.{ask_verdict, ask_length, asked_over}
use Rattle.format.specs.Field.{field_of, span_in}
use Rattle.format.specs.Outline.{starts_in, ends_in}

-- the form of one slot is another, and so is the test of records; the slot's fixed text and all else stay
abbrev pub with_form : (F : Format) → ℕ → Form → (F.Held → Bool) → Format
with_form F slot form in_form =
    record {
      header = F.header;
      tree = F.tree;
      slot_of = λ s. record { fixed = (F.slot_of s).fixed; form = cond (eqb s slot) form (F.slot_of s).form };
      Held = F.Held;
      blank = F.blank;
      record_of = F.record_of;
      value_of = F.value_of;
      in_form = in_form;
      read_rules = F.read_rules;
      write_rules = F.write_rules;
      groups = F.groups;
      fronts = F.fronts;
      longest = F.longest;
      fields = F.fields;
      beyond = F.beyond;
    }

-- the value that a message has for a slot; nothing where it has none, or where the layout refuses a line of it
unfoldable pub value_for : Format → ℕ → List ℕ → List ℕ
value_for F slot m = value_on F m (taken_in (body_of F m)) slot

module _ (F : Format) (slot : ℕ) (form : Form) (in_form : F.Held → Bool) where
  abbrev G : Format
  G = with_form F slot form in_form

  -- ---- reading

  -- every answer to a message: its read (a message of a batch is a read of its piece); its plain form, and what asking for it comes to in
  -- every room and over every buffer; each field and where it stands; and where all of them stand, beside any line of the header
  pub record SameAnswers (m : List ℕ) : Type 0 where
    pub verdict : verdict_of F m ≡ verdict_of G m
    pub read : read_of F m ≡ read_of G m
    pub plain : plain_of F m ≡ plain_of G m
    pub plain-verdict : (room : ℕ) → ask_verdict F m room ≡ ask_verdict G m room
    pub plain-length : (room : ℕ) → ask_length F m room ≡ ask_length G m room
    pub plain-buffer : (buf : List ℕ) → asked_over F m buf ≡ asked_over G m buf
    pub field : (s : ℕ) → field_of F m s ≡ field_of G m s
    pub span : (s : ℕ) → span_in F m s ≡ span_in G m s
    pub starts : (k : ℕ) → starts_in F k m ≡ starts_in G k m
    pub ends : (k : ℕ) → ends_in F k m ≡ ends_in G k m

  -- a message whose value gets the same number from both forms
  abbrev pub AsWith : Type 0
  AsWith = (m : List ℕ) → form_number (F.slot_of slot).form (value_for F slot m) ≡ form_number form (value_for F slot m) → SameAnswers m

  -- ---- writing

  -- every answer to a record: the number, the length and the buffer of a write
  pub record SameWrites (r : F.Held) : Type 0 where
    pub number : (room : ℕ) → write_number F r room ≡ write_number G r room
    pub count : (room : ℕ) → write_length F r room ≡ write_length G r room
    pub buffer : (buf : List ℕ) → written_over F r buf ≡ written_over G r buf

  -- a record that both tests answer alike
  abbrev pub WrittenAsWith : Type 0
  WrittenAsWith = (r : F.Held) → F.in_form r ≡ in_form r → SameWrites r
