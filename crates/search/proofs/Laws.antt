-- What callers cite: where a table takes all lines, the line that is found is the first that was taken for the slot; and what is
-- found stands in the message where the span says.
-- Assumes nothing.
use Prim.Native.Nat.{ℕ, zero, suc, ◌+◌, ◌-◌, ◌≤◌}
use mathlib.Core.Path.{◌≡◌, refl, sym, ap, ◌∙◌}
use mathlib.Core.Bool.{Bool, true, false, cond}
use mathlib.Core.List.{List, [], ◌∷◌}
use mathlib.Core.Logic.{◌⊎◌, inl, inr}
use native.Mathlib.Omega.{arith}
use lib.Dec.{eqb}
use lib.ListN.{length, take, drop, replicate, length-take, length-drop}
use lib.Seq.{drop-nil, drop-drop}
use Rattle.lines.specs.Lines.{lines_of, start_behind, end_of}
use Rattle.lines.proofs.Laws.{begins, drop-front, Stands, first, stands}
use Rattle.stretches.specs.Stretches.{slot_count}
use Rattle.layout.specs.Rows.{Row}
use Rattle.layout.specs.Layout.{Taken, Run, refused_at, taken, step_of, run_of, behind, with_taken, marked, layout_of}
use Rattle.layout.specs.declared.Place.{Place}
use Rattle.layout.specs.declared.Step.{Step}
use Rattle.text.proofs.Bools.{of-both}
use Rattle.layout.proofs.Laws.{takes-within}
use Rattle.search.specs.Search.{no_line, taken_for, found_at, found_in, found_of, span_from, span_of}
use Rattle.search.specs.declared.Span.{Span}

-- ---- where all lines are taken

module _ (wanted n : ℕ) (l : List ℕ) (step : Step) (rest : Run) (found : Taken) (ts : List Taken)
    (later : (us : List Taken) → rest ≡ taken us → found ≡ taken_for wanted us) where
  abbrev this : Taken
  this = record { slot = step.slot; line = n; value = drop step.width l }

  with-taken : (run : Run) → rest ≡ run → with_taken this run ≡ taken ts → cond (eqb step.slot wanted) this found ≡ taken_for wanted ts
  unfolding with_taken taken_for
  with-taken (refused_at number line) r e = let z : ◌≡◌ {A = ℕ} 0 1 = cc in absurd (omega arith)
  with-taken (taken us) r e = let p : ts ≡ this ∷ us = cc in rw (p, later us r)

  line_taken : behind n l step rest ≡ taken ts → found_at wanted n l step found ≡ taken_for wanted ts
  unfolding behind found_at
  line_taken h = go (eqb step.number 0) (eqb step.slot 0) h
    where
      go : (a b : Bool) → cond a (cond b rest (with_taken this rest)) (refused_at step.number n) ≡ taken ts
          → cond a (cond b found (cond (eqb step.slot wanted) this found)) no_line ≡ taken_for wanted ts
      go false b e = let z : ◌≡◌ {A = ℕ} 0 1 = cc in absurd (omega arith)
      go true true e = later ts e
      go true false e = with-taken rest refl e

pub found-taken : (rows : List Row) (here : Place) (seen : List ℕ) (wanted n : ℕ) (ls : List (List ℕ)) (ts : List Taken)
    → run_of rows here seen n ls ≡ taken ts → found_in rows here seen wanted n ls ≡ taken_for wanted ts
unfolding run_of found_in taken_for
found-taken rows here seen wanted n [] ts e = let p : ts ≡ [] = cc in rw p
found-taken rows here seen wanted n (l ∷ ls) ts e =
    let step = step_of rows here seen l in
    line_taken wanted n l step _ _ ts (λ us. found-taken rows step.place (marked seen step) wanted (suc n) ls us) e

-- the same of a message
pub found-laid : (rows : List Row) (m : List ℕ) (wanted : ℕ) (ts : List Taken) → layout_of rows 5 (drop 4 (lines_of m)) ≡ taken ts → found_of rows m wanted ≡ taken_for wanted ts
unfolding layout_of found_of
found-laid rows m wanted ts e = found-taken rows _ _ wanted 5 (drop 4 (lines_of m)) ts e

-- ---- what is found stands in the message

-- no line, or one whose text the value ends
abbrev pub Stood : List ℕ → Taken → Type 0
Stood m t = (t ≡ no_line) ⊎ Stands m t.line t.value

stood-in : (rows : List Row) (m : List ℕ) (wanted : ℕ) (ls : List (List ℕ)) (here : Place) (seen : List ℕ) (k : ℕ)
    → ls ≡ lines_of (drop (start_behind m k) m) → Stood m (found_in rows here seen wanted (suc k) ls)
unfolding found_in found_at
stood-in rows m wanted [] here seen k e = inl refl
stood-in rows m wanted (l ∷ ls) here seen k e =
    let step = step_of rows here seen l in
    let f = first m k l ls e in
    let ih = stood-in rows m wanted ls step.place (marked seen step) (suc k) f.rest in
    of-both (Stood m) (eqb step.number 0)
    (λ a. of-both (Stood m) (eqb step.slot 0) (λ b. ih)
    (λ b. of-both (Stood m) (eqb step.slot wanted) (λ d. inr (stands m k step.width l ls f (takes-within rows here seen l))) (λ d. ih)))
    (λ a. inl refl)

pub found-stood : (rows : List Row) (m : List ℕ) (wanted : ℕ) → Stood m (found_of rows m wanted)
unfolding found_of
found-stood rows m wanted = stood-in rows m wanted (drop 4 (lines_of m)) (record { row = 0; back = 0 }) (replicate {A = ℕ} slot_count 0) 4 (sym (begins m 4).rest)

-- of no line: the empty part at the message's start
pub span_none : (m : List ℕ) (front : ℕ) → record { offset = 0; count = 0 } ≡ span_from m front no_line
unfolding span_from no_line end_of
span_none m front = let n : length (drop {A = ℕ} front []) ≡ 0 = rw (drop-nil {A = ℕ} front) in rw n

-- a part of a message, and what stands there
abbrev pub IsPart : List ℕ → List ℕ → Span → Type 0
IsPart m v s = (s.offset + s.count ≤ length m) × (take s.count (drop s.offset m) ≡ v)

-- what is left of a list is its end
tail : (i : ℕ) (y : List ℕ) → drop (length y - length (drop i y)) y ≡ drop i y
tail zero y = let n : length y - length y ≡ 0 = omega arith in rw n
tail (suc i) [] = refl
tail (suc i) (b ∷ y) =
    let l = length-drop i y in
    let n : suc (length y) - length (drop i y) ≡ suc (length y - length (drop i y)) = omega arith in
    rw n (tail i y)

none-part : (m : List ℕ) (front : ℕ) → IsPart m (drop front no_line.value) (span_from m front no_line)
unfolding no_line
none-part m front = rw (← span_none m front) (omega arith, sym (drop-nil front))

stands-part : (m : List ℕ) (front : ℕ) (t : Taken) → Stands m t.line t.value → IsPart m (drop front t.value) (span_from m front t)
unfolding span_from
stands-part m front t d =
    let end : ℕ = end_of m t.line in
    let y : List ℕ = take end m in
    let i : ℕ = end - length t.value + front in
    let v : List ℕ = drop front t.value in
    let a = d.within in
    let b = d.long in
    let short = length-drop front t.value in
    let size : length y ≡ end = rw length-take (omega arith) in
    let is : drop i y ≡ v = sym (drop-drop front (end - length t.value) y) ∙ ap (drop front) d.here in
    let same = ap length is in
    let from : length y - length (drop i y) ≡ end - length v = omega arith in
    let last : drop (end - length v) y ≡ v = ap (λ (k : ℕ). drop k y) (sym from) ∙ tail i y ∙ is in
    let n : end - (end - length v) ≡ length v = omega arith in
    (omega arith, ap (λ (k : ℕ). take k (drop (end - length v) m)) (sym n) ∙ sym (drop-front (end - length v) end m) ∙ last)

pub span-part : (m : List ℕ) (front : ℕ) (t : Taken) → Stood m t → IsPart m (drop front t.value) (span_from m front t)
span-part m front t (inr d) = stands-part m front t d
span-part m front t (inl e) = rw e (none-part m front)

-- the same of a message
pub found_part : (rows : List Row) (m : List ℕ) (wanted front : ℕ) → IsPart m (drop front (found_of rows m wanted).value) (span_of rows m wanted front)
unfolding span_of
found_part rows m wanted front = span-part m front (found_of rows m wanted) (found-stood rows m wanted)
