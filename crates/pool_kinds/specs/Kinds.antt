-- Request A1, "Kinds", and the numbers 13 to 17, which come after all others and have line 0.
--   13  23G against kind
--   14  a field that the kind must have is absent
--   15  a field that the kind may not have
--   16  par zero
--   17  settles before the trade date
use Rattle.std.specs.Prelude.{ℕ, Bool, true, false, ◌&&◌, ◌||◌, not, cond, List, [], ◌∷◌, ltb, eqb}
use Rattle.text.specs.Bytes.{bytes, same}
use Rattle.text.specs.Texts.{Text}
use Rattle.calendar.specs.Dates.{earlier}
use Rattle.lines.specs.Verdicts.{then, when}
use Rattle.lines.specs.declared.Verdict.{Verdict}
use Rattle.typed.specs.declared.Side.{Side}
use Rattle.pool_trade.specs.declared.Kind.{Kind}
use Rattle.pool_trade.specs.declared.Party.{Party}
use Rattle.pool_trade.specs.declared.PoolTrade.{PoolTrade}

-- a field of a record is there
abbrev pub present : Text → Bool
present t = ltb 0 t.len

-- the party of the other side is the seller where the sender buys
unfoldable pub other : PoolTrade → Side → Party
other t Side.Buyi = t.seller
other t Side.Sell = t.buyer

unfoldable pub own : PoolTrade → Side → Party
own t Side.Buyi = t.buyer
own t Side.Sell = t.seller

-- a contra reference in the block of the other side, and in that of the sender's own
unfoldable pub contra : PoolTrade → Bool
contra t = present (other t t.side).reference

unfoldable pub stray : PoolTrade → Bool
stray t = present (own t t.side).reference

-- 23G is CANC for CANC and NEWM for the other five
unfoldable pub function_of : Kind → List ℕ
function_of Kind.Inst = bytes "NEWM"
function_of Kind.Canc = bytes "CANC"
function_of Kind.Mdfc = bytes "NEWM"
function_of Kind.Tddk = bytes "NEWM"
function_of Kind.Cdrq = bytes "NEWM"
function_of Kind.Cdrl = bytes "NEWM"

-- the letters `M` and `-` of what follows, as bytes
abbrev pub mandatory : ℕ
mandatory = 77

abbrev pub forbidden : ℕ
forbidden = 45

-- what a kind must have (M), may have (O) and may not have (-), in this order: MAST, PREV, LIST, a contra reference in the other side's
-- block and in its own side's, CDRY, DKRS. DDTE, 19A and FIA may stand in every kind
unfoldable pub needs : Kind → List ℕ
needs Kind.Inst = bytes "M----O-"
needs Kind.Canc = bytes "MOO--O-"
needs Kind.Mdfc = bytes "MOO--O-"
needs Kind.Tddk = bytes "O--M--M"
needs Kind.Cdrq = bytes "M-O--O-"
needs Kind.Cdrl = bytes "M-O--O-"

-- which of these a record has
unfoldable pub there : PoolTrade → List Bool
there t =
    present t.mast ∷ present t.prev ∷ present t.list ∷ contra t ∷ stray t ∷ t.cdr ∷ present t.reason ∷ []

-- some field with this letter is there, or is not
unfoldable pub some_of : ℕ → Bool → List ℕ → List Bool → Bool
some_of letter is [] hs = false
some_of letter is (n ∷ ns) [] = false
some_of letter is (n ∷ ns) (h ∷ hs) = (eqb n letter && cond is h (not h)) || some_of letter is ns hs

unfoldable pub lacks_field : PoolTrade → Bool
lacks_field t = some_of mandatory false (needs t.kind) (there t)

unfoldable pub has_forbidden : PoolTrade → Bool
has_forbidden t = some_of forbidden true (needs t.kind) (there t)

-- 14 to 17, which a record shows by itself
unfoldable pub record_pass : PoolTrade → Verdict
record_pass t =
    then (when (lacks_field t) 14)
    (then (when (has_forbidden t) 15)
    (then (when (eqb t.par.0.number 0) 16)
    (when (earlier t.sett t.trad.date) 17)))

-- 13, and then those
unfoldable pub kinds_pass : List ℕ → PoolTrade → Verdict
kinds_pass function t = then (when (not (same (function_of t.kind) function)) 13) (record_pass t)
