-- Document 01, "Kinds", and the numbers 13 to 17, which come after all others and have line 0.
--   13  23G against kind
--   14  a field that the kind must have is absent
--   15  a field that the kind may not have
--   16  par zero
--   17  settles before the trade date
use Rattle.std.specs.Prelude.{ℕ, Bool, ◌||◌, not, List, ltb, eqb, Option, is_some}
use Rattle.text.specs.Bytes.{bytes, same}
use Rattle.text.specs.Texts.{Text}
use Rattle.calendar.specs.Dates.{earlier}
use Rattle.lines.specs.Verdicts.{then, when}
use Rattle.lines.specs.declared.Verdict.{Verdict}
use Rattle.trade.specs.declared.Kind.{Kind}
use Rattle.typed.specs.declared.Side.{Side}
use Rattle.trade.specs.declared.Party.{Party}
use Rattle.trade.specs.declared.Trade.{Trade}

-- a field of a record is there
abbrev pub present : Text → Bool
present t = ltb 0 t.len

abbrev pub has_days : Option ℕ → Bool
has_days period = is_some period

-- the party of the other side is the seller where the sender buys
unfoldable pub other : Trade → Side → Party
other t Side.Buyi = t.seller
other t Side.Sell = t.buyer

unfoldable pub own : Trade → Side → Party
own t Side.Buyi = t.buyer
own t Side.Sell = t.seller

-- a contra reference in the block of the other side, and in that of the sender's own
unfoldable pub contra : Trade → Bool
contra t = present (other t t.side).reference

unfoldable pub stray : Trade → Bool
stray t = present (own t t.side).reference

-- 23G is CANC for CANC and NEWM for the others
unfoldable pub function_of : Kind → List ℕ
function_of Kind.Inst = bytes "NEWM"
function_of Kind.Canc = bytes "CANC"
function_of Kind.Mdfc = bytes "NEWM"
function_of Kind.Tddk = bytes "NEWM"

-- MAST: must for INST, CANC, MDFC. Contra reference and DKRS: TDDK must
unfoldable pub lacks_field : Kind → Trade → Bool
lacks_field Kind.Inst t = not (present t.mast)
lacks_field Kind.Canc t = not (present t.mast)
lacks_field Kind.Mdfc t = not (present t.mast)
lacks_field Kind.Tddk t = not (contra t) || not (present t.reason)

-- what none but a TDDK may have: a contra reference, in either block, and DKRS
unfoldable pub tddk_only : Trade → Bool
tddk_only t = contra t || (stray t || present t.reason)

-- what a TDDK may not have: MAST, PREV, LIST, a contra reference in the block of its own side, and GUPP
unfoldable pub tddk_never : Trade → Bool
tddk_never t = present t.mast || (present t.prev || (present t.list || (stray t || has_days t.period)))

-- PREV: MDFC may. LIST: CANC and MDFC may
unfoldable pub has_forbidden : Kind → Trade → Bool
has_forbidden Kind.Inst t = present t.prev || (present t.list || tddk_only t)
has_forbidden Kind.Canc t = present t.prev || tddk_only t
has_forbidden Kind.Mdfc t = tddk_only t
has_forbidden Kind.Tddk t = tddk_never t

-- 14 to 17, which a record shows by itself
unfoldable pub record_pass : Trade → Verdict
record_pass t =
    then (when (lacks_field t.kind t) 14)
    (then (when (has_forbidden t.kind t) 15)
    (then (when (eqb t.par.0.number 0) 16)
    (when (earlier t.sett t.trad.date) 17)))

-- 13, and then those
unfoldable pub kinds_pass : List ℕ → Trade → Verdict
kinds_pass function t = then (when (not (same (function_of t.kind) function)) 13) (record_pass t)
