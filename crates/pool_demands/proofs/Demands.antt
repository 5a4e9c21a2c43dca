-- The demands of the pool profile: those of any message type, a CANC and an MDFC of the longest length, and that no message is accepted
-- by both profiles.
-- Assumes nothing.
use Prim.Native.Nat.{ℕ}
use mathlib.Core.Path.{◌≡◌, refl, ap}
use mathlib.Core.Bool.{true}
use mathlib.Core.List.{List, [], ◌∷◌, map}
use lib.ListN.{length, get_or}
use Rattle.text.specs.Bytes.{bytes, begins}
use Rattle.forms.specs.Forms.{codes, unless, form_number, value_number}
use Rattle.forms.specs.Notation.{slot}
use Rattle.format.specs.Writing.{message_of, judge_of, write_number, writable}
use Rattle.format.proofs.Demands as Every
use Rattle.format.proofs.Profiles.{turns-away}
use Rattle.table.specs.Table as Own
use Rattle.values.specs.Mt515.{mt515}
use Rattle.pool_trade.specs.declared.Kind.{Kind}
use Rattle.pool_trade.specs.declared.PoolTrade.{PoolTrade}
use Rattle.pool_table.specs.Table.{slots, header, slot_of}
use Rattle.pool_values.specs.Pool.{pool}
use Rattle.pool_values.proofs.Laid.{layout}
use Rattle.pool_message.specs.Cases.{broad, broadest, widest}
use Rattle.pool_message.proofs.Cases.{answered}
use Rattle.pool_demands.specs.Demands.{Holds, AsLong, OnlyPool, OnlyOwn, Demands}
use Rattle.pool_demands.proofs.Laws.{laws}

pub holds : Holds
holds = Every.demands pool layout laws

-- ---- a CANC and an MDFC with every field at its widest, the second and the third of the cases

takes : (t : PoolTrade) → judge_of pool t ≡ 0 → length (message_of pool t) ≡ 752 → writable pool t ≡ true
unfolding writable write_number
takes t judged long = rw (judged, long)

judged-at : (place : ℕ) → get_or (map (λ row. judge_of pool row.0) widest) place 0 ≡ get_or (map (λ row. 0) widest) place 0
judged-at place = ap (λ (ns : List ℕ). get_or ns place 0) answered.judged

long-at : (place : ℕ) → get_or (map (λ row. length (message_of pool row.0)) widest) place 0 ≡ get_or (map (λ row. row.1) widest) place 0
long-at place = ap (λ (ns : List ℕ). get_or ns place 0) answered.lengths

as-long-canc : AsLong Kind.Canc
unfolding broad widest
as-long-canc = (_, refl, takes _ (judged-at 1) (long-at 1), long-at 1)

as-long-mdfc : AsLong Kind.Mdfc
unfolding broad broadest widest
as-long-mdfc = (_, refl, takes _ (judged-at 2) (long-at 2), long-at 2)

-- ---- the headers begin with the password and the sender, and then with a line of which the other knows nothing

only-pool : OnlyPool
unfolding header slot_of slots Own.header Own.slot_of Own.slots value_number form_number unless bytes begins
only-pool =
    turns-away pool mt515 (slot "" (codes 0 12)) (slot "" (codes 1 8)) (bytes "515/000/DTCY") 20 21 24 (25 ∷ []) 28 29 32 (33 ∷ [])
    refl refl refl refl refl refl refl refl

only-own : OnlyOwn
unfolding header slot_of slots Own.header Own.slot_of Own.slots value_number form_number unless bytes begins
only-own =
    turns-away mt515 pool (slot "" (codes 0 12)) (slot "" (codes 1 8)) (bytes "515/000/GSCC") 28 29 32 (33 ∷ []) 20 21 24 (25 ∷ [])
    refl refl refl refl refl refl refl refl

-- ---- the demands

pub demands : Demands
demands = record { holds = holds; as-long-canc = as-long-canc; as-long-mdfc = as-long-mdfc; only-pool = only-pool; only-own = only-own }
