-- The demands of the MT509: those of any message type, and a reject of either qualifier of the longest length.
-- Assumes nothing.
use Prim.Native.Nat.{ℕ}
use mathlib.Core.Path.{◌≡◌, refl, ap}
use mathlib.Core.Bool.{true}
use mathlib.Core.List.{List, map}
use lib.ListN.{length, get_or}
use Rattle.format.specs.Writing.{message_of, judge_of, write_number, writable}
use Rattle.format.proofs.Demands as Every
use Rattle.answer.specs.declared.Answer.{Answer}
use Rattle.answer_values.specs.Mt509.{mt509}
use Rattle.answer_values.proofs.Laid.{layout}
use Rattle.answer_demands.specs.Widest.{broad, widest}
use Rattle.answer_demands.specs.Demands.{Holds, AsLong, Demands}
use Rattle.answer_demands.proofs.Laws.{laws}
use Rattle.answer_demands.proofs.Widest.{measured}

pub holds : Holds
holds = Every.demands mt509 layout laws

-- ---- the first and the second of the widest

takes : (a : Answer) → judge_of mt509 a ≡ 0 → length (message_of mt509 a) ≡ 1476 → writable mt509 a ≡ true
unfolding writable write_number
takes a judged long = rw (judged, long)

judged-at : (place : ℕ) → get_or (map (λ row. judge_of mt509 row.0) widest) place 0 ≡ get_or (map (λ row. 0) widest) place 0
judged-at place = ap (λ (ns : List ℕ). get_or ns place 0) measured.0

long-at : (place : ℕ) → get_or (map (λ row. length (message_of mt509 row.0)) widest) place 0 ≡ get_or (map (λ row. row.1) widest) place 0
long-at place = ap (λ (ns : List ℕ). get_or ns place 0) measured.1

as-long-iprc : AsLong 1
unfolding broad widest
as-long-iprc = (_, refl, takes _ (judged-at 0) (long-at 0), long-at 0)

as-long-cprc : AsLong 15
unfolding broad widest
as-long-cprc = (_, refl, takes _ (judged-at 1) (long-at 1), long-at 1)

-- ---- the demands

pub demands : Demands
demands = record { holds = holds; as-long-iprc = as-long-iprc; as-long-cprc = as-long-cprc }
