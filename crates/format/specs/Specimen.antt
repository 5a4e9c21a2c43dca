-- A small message type, to show how one is written. What a message may be without is told by a value, and needs no notion of its own:
--   a line that is fixed and need not stand is a slot with one word, which is its value where it stands (CATB; SETR in its block)
--   an optional amount has no value where it is absent, and `0,` where it is zero (SETT)
--   a block that need not stand does where one of its slots has a value, and then all that is mandatory in it has one
use Rattle.std.specs.Prelude.{ℕ, Bool, true, false, ◌&&◌, ◌||◌, not, cond, List, [], ◌∷◌, ◌++◌, map, eqb, length, get_or}
use Rattle.text.specs.Bytes.{bytes, same}
use Rattle.lines.specs.Verdicts.{pass}
use Rattle.forms.specs.Forms.{Slot, nothing, codes, amount, other, value_number}
use Rattle.forms.specs.Notation.{slot, one_of}
use Rattle.sheets.specs.Trees.{Tree, last, line, block, group}
use Rattle.sheets.specs.Notation.{must, may, field, link}
use Rattle.sheets.specs.Filled.{some}
use Rattle.sheets.specs.Plain.{Group}
use Rattle.format.specs.Format.{Format, every, may_lack}
use Rattle.format.specs.Plain.{tidied}

-- ---- what stands in each slot

unfoldable pub slots : List Slot
slots =
    slot "" nothing  -- 0
    ∷ slot "" (codes 0 12)  -- 1, the password
    ∷ slot "" (codes 1 8)  -- 2, the sender
    ∷ slot "599/000/GSCC" nothing  -- 3
    ∷ slot "MBSCTRRS" nothing  -- 4
    ∷ slot "//" (codes 1 16)  -- 5, SEME
    ∷ slot "//" (one_of ("PERU" ∷ []))  -- 6, CATB
    ∷ slot "//USD" amount  -- 7, SETT
    ∷ slot "//" (codes 1 16)  -- 8, MAST
    ∷ slot "//" (codes 1 16)  -- 9, PREV
    ∷ slot "//" (one_of ("RPTO" ∷ []))  -- 10, SETR
    ∷ slot "//USD" amount  -- 11, LOCO
    ∷ slot "//" (one_of ("Y" ∷ "NO" ∷ "NONE" ∷ "PARTIAL" ∷ "RECOMPARED" ∷ "UNCOMPARED TRADE" ∷ []))  -- 12, MTCH
    ∷ slot "//" (codes 4 4)  -- 13, REAS
    ∷ []

unfoldable pub slot_of : ℕ → Slot
slot_of s = get_or slots s (slot "" other)

-- ---- which line stands where

unfoldable pub header : List ℕ
header = 1 ∷ 2 ∷ 3 ∷ 4 ∷ []

unfoldable pub general : Tree
general =
    line (field must 5 ":20C::SEME")
    (line (field may 6 ":22F::CATB")
    (line (field may 7 ":19A::SETT")
    (group false true (bytes ":16R:LINK") (bytes ":16S:LINK") (link 8 ":20C::MAST" ∷ link 9 ":20C::PREV" ∷ [])
    (last (bytes ":16S:GENL")))))

unfoldable pub commission : Tree
commission = line (field must 11 ":19A::LOCO") (last (bytes ":16S:AMT"))

unfoldable pub settlement : Tree
settlement = line (field must 10 ":22F::SETR") (block must (bytes ":16R:AMT") commission (last (bytes ":16S:SETDET")))

unfoldable pub status : Tree
status = line (field must 12 ":25D::MTCH") (line (field must 13 ":70D::REAS") (last (bytes ":16S:STAT")))

unfoldable pub tree : Tree
tree =
    block must (bytes ":16R:GENL") general
    (block may (bytes ":16R:SETDET") settlement
    (block may (bytes ":16R:STAT") status
    (last (bytes "-"))))

-- ---- the plain form: LINK blocks stand as MAST, PREV; in the two amounts needless noughts go

unfoldable pub links : Group
links = record { opening = bytes ":16R:LINK"; closing = bytes ":16S:LINK"; keys = bytes ":20C::MAST" ∷ bytes ":20C::PREV" ∷ [] }

unfoldable pub fronts : List (List ℕ)
fronts = bytes ":19A::SETT//USD" ∷ bytes ":19A::LOCO//USD" ∷ []

-- ---- the record: the values of the slots 1 to 13 in this order, an amount without needless noughts

unfoldable pub named : List ℕ
named = 1 ∷ 2 ∷ 3 ∷ 4 ∷ 5 ∷ 6 ∷ 7 ∷ 8 ∷ 9 ∷ 10 ∷ 11 ∷ 12 ∷ 13 ∷ []

unfoldable pub record_of : (ℕ → List ℕ) → List (List ℕ)
record_of value = map (λ s. tidied (slot_of s).form (value s)) named

-- the value that stands beside a slot
unfoldable pub beside : List ℕ → List (List ℕ) → ℕ → List ℕ
beside [] vs s = []
beside (i ∷ is) [] s = []
beside (i ∷ is) (v ∷ vs) s = cond (eqb i s) v (beside is vs s)

unfoldable pub value_of : List (List ℕ) → ℕ → List ℕ
value_of r s = beside named r s

-- ---- a record in form: it is the record of its values, each slot has a value of its form or is without one where it may be, and
-- SETR and LOCO stand together, and MTCH and REAS

unfoldable pub alike : List (List ℕ) → List (List ℕ) → Bool
alike [] [] = true
alike [] (w ∷ ws) = false
alike (v ∷ vs) [] = false
alike (v ∷ vs) (w ∷ ws) = same v w && alike vs ws

unfoldable pub is_filled : ℕ → List ℕ → Bool
is_filled s v = (may_lack tree s && eqb (length v) 0) || eqb (value_number (slot_of s) ((slot_of s).fixed ++ v)) 0

unfoldable pub together : List ℕ → List ℕ → Bool
together v w = cond (some v) (some w) (not (some w))

unfoldable pub in_form : List (List ℕ) → Bool
in_form r =
    let value = value_of r in
    alike (record_of value) r && (every (λ s. is_filled s (value s)) named && (together (value 10) (value 11) && together (value 12) (value 13)))

-- ---- the message type: it has no rules of line 0

abbrev pub specimen : Format
specimen =
    record {
      header = header;
      tree = tree;
      slot_of = slot_of;
      Held = List (List ℕ);
      blank = [];
      record_of = record_of;
      value_of = value_of;
      in_form = in_form;
      read_rules = λ value r. pass;
      write_rules = λ r. pass;
      groups = links ∷ [];
      fronts = fronts;
      longest = 423;
      fields = 13;
      beyond = λ s. 0;
    }
