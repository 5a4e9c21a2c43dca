-- Request A1: the pool profile as a message type, what is its own and no more. What is said of a message type in format's specs/ is said of
-- this one.
use Rattle.std.specs.Prelude.{ℕ, ◌+◌, cond, List, [], ◌∷◌, ltb, eqb, length}
use Rattle.text.specs.Bytes.{bytes}
use Rattle.lines.specs.Verdicts.{then, when}
use Rattle.sheets.specs.Plain.{Group}
use Rattle.format.specs.Format.{Format}
use Rattle.pool_trade.specs.Records.{trade_of, blank_trade, narrative_slot}
use Rattle.pool_trade.specs.declared.PoolTrade.{PoolTrade}
use Rattle.pool_kinds.specs.Kinds.{record_pass, kinds_pass}
use Rattle.pool_table.specs.Table.{header, slot_of, last_field}
use Rattle.pool_table.specs.Tree.{tree}
use Rattle.pool_values.specs.Values.{value_of}
use Rattle.pool_values.specs.Writable.{in_form}

-- ---- the plain form: LINK blocks stand as MAST, PREV, LIST; the buyer's block stands before the seller's; in an amount needless
-- noughts go, which are the price, the money and the par

unfoldable pub links : Group
links = record { opening = bytes ":16R:LINK"; closing = bytes ":16S:LINK"; keys = bytes ":20C::MAST" ∷ bytes ":20C::PREV" ∷ bytes ":20C::LIST" ∷ [] }

unfoldable pub parties : Group
parties = record { opening = bytes ":16R:CONFPRTY"; closing = bytes ":16S:CONFPRTY"; keys = bytes ":95R::BUYR" ∷ bytes ":95R::SELL" ∷ [] }

unfoldable pub fronts : List (List ℕ)
fronts = bytes ":90A::DEAL//PRCT/" ∷ bytes ":19A::SETT//USD" ∷ bytes ":36B::CONF//FAMT/" ∷ []

-- ---- the message type

-- 13 to 17 are the rules of reading, with 23G's value; 14 to 17 and 20 those of writing. 20 can not come up: a narrative in form has at
-- most 40 characters with `DTCY`, and over 35 only with CDRY, DDTE and DKRS together, which no kind may have. It keeps its place in the
-- order. Of 70E's value the first byte is not the field's, since that is what follows `DTCY/`
abbrev pub pool : Format
pool =
    record {
      header = header;
      tree = tree;
      slot_of = slot_of;
      Held = PoolTrade;
      blank = blank_trade;
      record_of = trade_of;
      value_of = value_of;
      in_form = in_form;
      read_rules = λ value t. kinds_pass (value 2) t;
      write_rules = λ t. then (record_pass t) (when (ltb 35 (4 + length (value_of t narrative_slot))) 20);
      groups = links ∷ parties ∷ [];
      fronts = fronts;
      longest = 752;
      fields = last_field;
      beyond = λ slot. cond (eqb slot narrative_slot) 1 0;
    }
