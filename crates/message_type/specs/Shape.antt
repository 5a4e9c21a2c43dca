-- A message type as data, format's specs/Format, with what is held of a message as a parameter: a trait that has the type of the record and
-- the message type as its members can tell that the one is of the other.
use Rattle.std.specs.Prelude.{ℕ, Bool, List}
use Rattle.lines.specs.declared.Verdict.{Verdict}
use Rattle.forms.specs.Forms.{Slot}
use Rattle.sheets.specs.Trees.{Tree}
use Rattle.sheets.specs.Plain.{Group}
use Rattle.format.specs.Format.{Format}

pub record Shape (Held : Type 0) : Type 0 where
  pub header : List ℕ
  pub tree : Tree
  pub slot_of : ℕ → Slot
  pub blank : Held
  pub record_of : (ℕ → List ℕ) → Held
  pub value_of : Held → ℕ → List ℕ
  pub in_form : Held → Bool
  pub read_rules : (ℕ → List ℕ) → Held → Verdict
  pub write_rules : Held → Verdict
  pub groups : List Group
  pub fronts : List (List ℕ)
  pub longest : ℕ
  pub fields : ℕ
  pub beyond : ℕ → ℕ

-- the message type of a shape
abbrev pub of : {Held : Type 0} → Shape Held → Format
of {Held} s =
    record {
      header = s.header;
      tree = s.tree;
      slot_of = s.slot_of;
      Held = Held;
      blank = s.blank;
      record_of = s.record_of;
      value_of = s.value_of;
      in_form = s.in_form;
      read_rules = s.read_rules;
      write_rules = s.write_rules;
      groups = s.groups;
      fronts = s.fronts;
      longest = s.longest;
      fields = s.fields;
      beyond = s.beyond;
    }

-- the shape of a message type, which is the message type of it
abbrev pub shape_of : (F : Format) → Shape F.Held
shape_of F =
    record {
      header = F.header;
      tree = F.tree;
      slot_of = F.slot_of;
      blank = F.blank;
      record_of = F.record_of;
      value_of = F.value_of;
      in_form = F.in_form;
      read_rules = F.read_rules;
      write_rules = F.write_rules;
      groups = F.groups;
      fronts = F.fronts;
      longest = F.longest;
      fields = F.fields;
      beyond = F.beyond;
    }
