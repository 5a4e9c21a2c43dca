-- The mathematics of the search, over plain lists: what is kept at each line says, with the lines still ahead, which line is found.
-- Assumes nothing.
use Prim.Native.Nat.{ℕ, suc, ◌+◌, ◌-◌, ◌≤◌, ◌<◌}
use mathlib.Core.Path.{◌≡◌, refl, sym, ap, ◌∙◌}
use mathlib.Core.Bool.{Bool, true, false, cond}
use mathlib.Core.List.{List}
use native.Mathlib.Omega.{arith}
use lib.Dec.{eqb}
use lib.ListN.{length, take, drop, set, replicate, length-drop, length-set}
use borrow.Author.Tests.{eq-eqb, ne_eqb, eqb-true, eqb-false}
use Rattle.stretches.specs.Stretches.{slot_count}
use Rattle.lines.specs.Lines.{lines_of, line_at, start_behind}
use Rattle.lines.specs.declared.Line.{Line}
use Rattle.lines.proofs.Laws.{Located, located, lines-behind, begins, end_is, next-is, text-long}
use Rattle.layout.specs.Rows.{Row}
use Rattle.layout.specs.Layout.{Taken, step_of, marked}
use Rattle.layout.specs.declared.Place.{Place}
use Rattle.layout.specs.declared.Step.{Step}
use Rattle.layout.proofs.Laws.{takes-within}
use Rattle.search.specs.Search.{no_line, found_at, found_in, found_of, span_from, span_of}
use Rattle.search.specs.declared.Span.{Span}
use Rattle.search.proofs.Laws.{span_none}

-- ---- a value without some of its first bytes

module _ (from end front : ℕ) where
  pub rest-none : end - from ≤ front → ◌≡◌ {A = Span} (record { offset = end; count = 0 }) (record { offset = end - (end - from - front); count = end - from - front })
  rest-none h =
      let n : end - from - front ≡ 0 = omega arith in
      let e : end - (end - from - front) ≡ end = omega arith in
      rw (e, n)

  pub rest_some : from ≤ end → front < end - from → ◌≡◌ {A = Span} (record { offset = from + front; count = end - (from + front) }) (record { offset = end - (end - from - front); count = end - from - front })
  rest_some h g =
      let n : end - from - front ≡ end - (from + front) = omega arith in
      let e : end - (end - from - front) ≡ from + front = omega arith in
      rw (e, n)

-- ---- what is kept at a line

module _ (rows : List Row) (m : List ℕ) (wanted : ℕ) where
  pub record Kept (seen : List ℕ) (here : Place) (at : ℕ) : Type 0 where
    pub long : length seen ≡ slot_count
    pub lines : ℕ
    pub begun : at ≡ start_behind m lines
    pub found : found_in rows here seen wanted (suc lines) (lines_of (drop at m)) ≡ found_of rows m wanted

  pub begin : (at : ℕ) → at ≡ start_behind m 4 → Kept (replicate {A = ℕ} slot_count 0) (record { row = 0; back = 0 }) at
  unfolding found_of
  begin at e =
      record {
        long = refl;
        lines = 4;
        begun = e;
        found = rw e (ap (found_in rows (record { row = 0; back = 0 }) (replicate {A = ℕ} slot_count 0) wanted 5) (begins m 4).rest);
      }

  -- no line is the slot's
  none_is : (front : ℕ) → found_of rows m wanted ≡ no_line → record { offset = 0; count = 0 } ≡ span_of rows m wanted front
  unfolding span_of
  none_is front e = rw e (span_none m front)

  module _ (seen : List ℕ) (here : Place) (at : ℕ) (k : Kept seen here at) where
    -- behind the last line
    pub over : (front : ℕ) → length m ≤ at → record { offset = 0; count = 0 } ≡ span_of rows m wanted front
    unfolding found_in
    over front h = none_is front (sym k.found ∙ ap (found_in rows here seen wanted (suc k.lines)) (lines-behind m at h))

    -- one line more
    module _ (line : Line) (stands : line ≡ line_at m at) (more : at < length m) (step : Step) (is : step ≡ step_of rows here seen (take (line.end - at) (drop at m))) where
      spot : Located m at line.end line.next
      spot = located m at line stands more

      text : List ℕ
      text = take (line.end - at) (drop at m)

      long : length text ≡ line.end - at
      unfolding text
      long = text-long m at line.end line.next spot

      pub width-in : at + step.width ≤ line.end
      unfolding text
      width-in =
          let w : step.width ≤ length text = rw is (takes-within rows here seen text) in
          let l = long in
          let a = spot.starts in
          omega arith

      rest : Taken
      rest = found_in rows step.place (marked seen step) wanted (suc (suc k.lines)) (lines_of (drop line.next m))

      found_here : found_at wanted (suc k.lines) text step rest ≡ found_of rows m wanted
      unfolding text rest found_in
      found_here =
          let n : ℕ = suc k.lines in
          let ls : List (List ℕ) = lines_of (drop line.next m) in
          sym (ap (found_in rows here seen wanted n) spot.go_on
          ∙ ap (λ (x : Step). found_at wanted n text x (found_in rows x.place (marked seen x) wanted (suc n) ls)) (sym is))
          ∙ k.found

      -- it is refused
      pub refusal : (front : ℕ) → (step.number ≡ 0 → ⊥) → record { offset = 0; count = 0 } ≡ span_of rows m wanted front
      unfolding found_at
      refusal front h = none_is front (sym found_here ∙ rw (ne_eqb step.number 0 h))

      module _ (good : step.number ≡ 0) where
        -- it is the line of the slot
        module _ (front : ℕ) (some : step.slot ≡ 0 → ⊥) (same : step.slot ≡ wanted) where
          this : found_of rows m wanted ≡ record { slot = step.slot; line = suc k.lines; value = drop step.width text }
          unfolding found_at
          this = sym found_here ∙ rw (eq-eqb step.number 0 good, ne_eqb step.slot 0 some, eq-eqb step.slot wanted same)

          rest-long : length (drop front (drop step.width text)) ≡ line.end - (at + step.width) - front
          rest-long =
              let l = long in
              let a = length-drop step.width text in
              let b = length-drop front (drop step.width text) in
              omega arith

          pub found-is : (r : Span) → r ≡ record { offset = line.end - (line.end - (at + step.width) - front); count = line.end - (at + step.width) - front } → r ≡ span_of rows m wanted front
          unfolding span_of span_from
          found-is r q = q ∙ rw (this, end_is m k.lines at line k.begun stands, rest-long)

        -- it is another line, or opens or closes a block
        pub again : ((step.slot ≡ 0 → ⊥) → step.slot ≡ wanted → ⊥) → (seen' : List ℕ) → seen' ≡ set seen step.slot 1 → Kept seen' step.place line.next
        unfolding rest marked
        again other seen' s =
            record {
              long = ap length s ∙ length-set seen step.slot 1 ∙ k.long;
              lines = suc k.lines;
              begun = next-is m k.lines at line k.begun stands;
              found = rw s (passed-by ∙ found_here);
            }
          where
            go : (a b : Bool) → eqb step.slot 0 ≡ a → eqb step.slot wanted ≡ b → rest ≡ cond a rest (cond b (record { slot = step.slot; line = suc k.lines; value = drop step.width text }) rest)
            go true b p q = refl
            go false false p q = refl
            go false true p q = absurd (other (eqb-false step.slot 0 p) (eqb-true step.slot wanted q))

            passed-by : rest ≡ found_at wanted (suc k.lines) text step rest
            passed-by = unfold found_at in rw (eq-eqb step.number 0 good) (go (eqb step.slot 0) (eqb step.slot wanted) refl refl)
