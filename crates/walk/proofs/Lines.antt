-- The mathematics of the walk, over plain lists: the lines taken so far and those still ahead are all that the walk comes to.
-- Assumes nothing.
use Prim.Native.Nat.{ℕ, suc, ◌+◌, ◌-◌, ◌≤◌, ◌<◌}
use mathlib.Core.Path.{◌≡◌, refl, sym, ap, ◌∙◌}
use mathlib.Core.Bool.{Bool, true, false, cond}
use mathlib.Core.List.{List, [], ◌∷◌, ◌++◌}
use native.Mathlib.Numerals.{add-one}
use native.Mathlib.Omega.{arith}
use lib.Dec.{eqb}
use lib.ListN.{length, take, drop, set, replicate, length-drop, length-set}
use borrow.Author.Tests.{eq-eqb, ne_eqb}
use Rattle.lines.specs.Verdicts.{refused, pass, then}
use Rattle.lines.specs.Lines.{lines_of, line_at, start_behind, end_of}
use Rattle.lines.specs.declared.Verdict.{Verdict}
use Rattle.lines.specs.declared.Line.{Line}
use Rattle.lines.proofs.Laws.{pass-then, then-then, Located, located, lines-behind, begins, end_is, next-is, drop-take, text-long}
use Rattle.forms.specs.Forms.{Slot, value_number}
use Rattle.layout.specs.Rows.{Row}
use Rattle.layout.specs.Layout.{Taken, Run, refused_at, taken, step_of, run_of, behind, with_taken, marked, layout_of}
use Rattle.layout.specs.declared.Place.{Place}
use Rattle.layout.specs.declared.Step.{Step}
use Rattle.layout.proofs.Laws.{run-next, with_all, all-refused, all_none, all_more, takes-within}
use Rattle.stretches.specs.Stretches.{slot_count}
use Rattle.walk.specs.Walk.{value_verdict, values_pass, body_pass, taken_in, starts_of, ends_of, walk_of}

-- ---- one line more behind those that were taken

-- a verdict that is none is the pass
plain : (slot_of : ℕ → Slot) (t : Taken) → then (value_verdict slot_of t) pass ≡ value_verdict slot_of t
unfolding value_verdict
plain slot_of t = go (value_number (slot_of t.slot) t.value) (eqb (value_number (slot_of t.slot) t.value) 0) refl
  where
    go : (n : ℕ) (b : Bool) → eqb n 0 ≡ b → then (cond b pass (refused n t.line)) pass ≡ cond b pass (refused n t.line)
    go n true e = pass-then pass
    go n false e = unfold then refused in rw e

module _ (slot_of : ℕ → Slot) (t : Taken) where
  verdict-more : (ts : List Taken) → values_pass slot_of (ts ++ t ∷ []) ≡ then (values_pass slot_of ts) (value_verdict slot_of t)
  unfolding values_pass
  verdict-more [] = plain slot_of t ∙ sym (pass-then (value_verdict slot_of t))
  verdict-more (u ∷ ts) = ap (then (value_verdict slot_of u)) (verdict-more ts) ∙ sym (then-then (value_verdict slot_of u) (values_pass slot_of ts) (value_verdict slot_of t))

  starts_more : (m starts : List ℕ) (ts : List Taken)
      → starts_of slot_of m starts (ts ++ t ∷ []) ≡ set (starts_of slot_of m starts ts) t.slot (end_of m t.line - length t.value + length (slot_of t.slot).fixed)
  unfolding starts_of
  starts_more m starts [] = refl
  starts_more m starts (u ∷ ts) = starts_more m (set starts u.slot (end_of m u.line - length u.value + length (slot_of u.slot).fixed)) ts

  ends_more : (m ends : List ℕ) (ts : List Taken) → ends_of m ends (ts ++ t ∷ []) ≡ set (ends_of m ends ts) t.slot (end_of m t.line)
  unfolding ends_of
  ends_more m ends [] = refl
  ends_more m ends (u ∷ ts) = ends_more m (set ends u.slot (end_of m u.line)) ts

-- ---- what is known at a line

module _ (table : List Row) (slot_of : ℕ → Slot) (m starts₀ ends₀ : List ℕ) where
  run : Run
  run = layout_of table 5 (drop 4 (lines_of m))

  abbrev ahead : List ℕ → Place → ℕ → ℕ → Run
  ahead seen here at n = run_of table here seen n (lines_of (drop at m))

  -- `front` are the lines taken so far
  pub record Kept (starts ends seen : List ℕ) (here : Place) (fault : Verdict) (at n : ℕ) : Type 0 where
    pub lines : ℕ
    pub count : n ≡ suc lines
    pub placed : at ≡ start_behind m lines
    pub few : lines ≤ at + 4
    pub starts-long : length starts ≡ slot_count
    pub ends-long : length ends ≡ slot_count
    pub seen-long : length seen ≡ slot_count
    pub front : List Taken
    pub whole : with_all front (run_of table here seen n (lines_of (drop at m))) ≡ layout_of table 5 (drop 4 (lines_of m))
    pub first : fault ≡ values_pass slot_of front
    pub begun : starts ≡ starts_of slot_of m starts₀ front
    pub ended : ends ≡ ends_of m ends₀ front

  pub begin : (at : ℕ) → at ≡ start_behind m 4 → length starts₀ ≡ slot_count → length ends₀ ≡ slot_count
      → Kept starts₀ ends₀ (replicate {A = ℕ} slot_count 0) (record { row = 0; back = 0 }) pass at 5
  unfolding with_all layout_of values_pass starts_of ends_of
  begin at e starts-long ends-long =
      record {
        lines = 4;
        count = refl;
        placed = e;
        few = omega arith;
        starts-long = starts-long;
        ends-long = ends-long;
        seen-long = refl;
        front = [];
        whole = rw e (ap (run_of table (record { row = 0; back = 0 }) (replicate {A = ℕ} slot_count 0) 5) (begins m 4).rest);
        first = refl;
        begun = refl;
        ended = refl;
      }

  -- the answer, by the lines that were taken in all
  refused-is : (number line : ℕ) → run ≡ refused_at number line → record { verdict = refused number line; starts = starts₀; ends = ends₀ } ≡ walk_of table slot_of m starts₀ ends₀
  unfolding walk_of body_pass taken_in starts_of ends_of run
  refused-is number line e = rw e

  taken_is : (ts : List Taken) → run ≡ taken ts
      → record { verdict = values_pass slot_of ts; starts = starts_of slot_of m starts₀ ts; ends = ends_of m ends₀ ts } ≡ walk_of table slot_of m starts₀ ends₀
  unfolding walk_of body_pass taken_in run
  taken_is ts e = rw e

  module _ (starts ends seen : List ℕ) (here : Place) (fault : Verdict) (at n : ℕ) (k : Kept starts ends seen here fault at n) where
    -- ---- behind the last line
    pub over : length m ≤ at → record { verdict = fault; starts = starts; ends = ends } ≡ walk_of table slot_of m starts₀ ends₀
    unfolding run_of run
    over h =
        let none : ahead seen here at n ≡ taken [] = ap (run_of table here seen n) (lines-behind m at h) in
        let all : run ≡ taken k.front = sym k.whole ∙ ap (with_all k.front) none ∙ all_none k.front in
        rw (k.first, k.begun, k.ended) (taken_is k.front all)

    -- ---- one line more
    module _ (line : Line) (stands : line ≡ line_at m at) (more : at < length m) (step : Step) (is : step ≡ step_of table here seen (take (line.end - at) (drop at m))) where
      spot : Located m at line.end line.next
      spot = located m at line stands more

      starts-in : at ≤ line.end
      starts-in = spot.starts

      grows : at < line.next
      grows = spot.grows

      text : List ℕ
      text = take (line.end - at) (drop at m)

      long : length text ≡ line.end - at
      unfolding text
      long = text-long m at line.end line.next spot

      -- the text of the row stands within the line, and the code's part of the value runs from behind it to the line's end
      pub width-in : at + step.width ≤ line.end
      unfolding text
      width-in =
          let w = takes-within table here seen (take (line.end - at) (drop at m)) in
          let e : step.width ≡ (step_of table here seen (take (line.end - at) (drop at m))).width = ap (λ (x : Step). x.width) is in
          let l = long in
          let s = starts-in in
          omega arith

      value-part : take (line.end - (at + step.width)) (drop (at + step.width) m) ≡ drop step.width (take (line.end - at) (drop at m))
      value-part = sym (drop-take m at line.end step.width)

      rest : Run
      rest = run_of table step.place (marked seen step) (suc n) (lines_of (drop line.next m))

      ahead-is : ahead seen here at n ≡ behind n text step rest
      unfolding text rest
      ahead-is = ap (run_of table here seen n) spot.go_on ∙ run-next table here seen n text (lines_of (drop line.next m))
          ∙ ap (λ (x : Step). behind n text x (run_of table x.place (marked seen x) (suc n) (lines_of (drop line.next m)))) (sym is)

      -- the line is refused
      pub refusal : (step.number ≡ 0 → ⊥) → record { verdict = refused step.number n; starts = starts₀; ends = ends₀ } ≡ walk_of table slot_of m starts₀ ends₀
      unfolding behind run
      refusal h =
          let no : ahead seen here at n ≡ refused_at step.number n = ahead-is ∙ rw (ne_eqb step.number 0 h) in
          refused-is step.number n (sym k.whole ∙ ap (with_all k.front) no ∙ all-refused k.front step.number n)

      -- the line is taken, or opens or closes a block
      t : Taken
      t = record { slot = step.slot; line = n; value = drop step.width text }

      ends-here : end_of m n ≡ line.end
      ends-here = ap (end_of m) k.count ∙ end_is m k.lines at line k.placed stands

      -- the value begins where the row's text ends
      value-at : end_of m n - length (drop step.width text) ≡ at + step.width
      value-at =
          let e = ends-here in
          let l = length-drop step.width text in
          let x = long in
          let w = width-in in
          omega arith

      module _ (good : step.number ≡ 0) (starts' ends' seen' : List ℕ) (fault' : Verdict)
          (s : starts' ≡ cond (eqb step.slot 0) starts (set starts step.slot (at + step.width + length (slot_of step.slot).fixed)))
          (e : ends' ≡ cond (eqb step.slot 0) ends (set ends step.slot line.end)) (d : seen' ≡ set seen step.slot 1)
          (f : fault' ≡ cond (eqb step.slot 0) fault (then fault (value_verdict slot_of (record { slot = step.slot; line = n; value = take (line.end - (at + step.width)) (drop (at + step.width) m) })))) where
        ahead-good : ahead seen here at n ≡ cond (eqb step.slot 0) rest (with_taken t rest)
        unfolding behind t
        ahead-good = ahead-is ∙ rw (eq-eqb step.number 0 good)

        rest-is : run_of table step.place seen' (n + 1) (lines_of (drop line.next m)) ≡ rest
        unfolding rest marked
        rest-is = rw (d, add-one n)

        pub again : Kept starts' ends' seen' step.place fault' line.next (n + 1)
        unfolding run t text
        again = go (eqb step.slot 0) refl s e (rw value-part at f) ahead-good
          where
            go : (b : Bool) → eqb step.slot 0 ≡ b
                → starts' ≡ cond b starts (set starts step.slot (at + step.width + length (slot_of step.slot).fixed))
                → ends' ≡ cond b ends (set ends step.slot line.end)
                → fault' ≡ cond b fault (then fault (value_verdict slot_of t))
                → ahead seen here at n ≡ cond b rest (with_taken t rest)
                → Kept starts' ends' seen' step.place fault' line.next (n + 1)
            go true z s e f a =
                record {
                  lines = suc k.lines;
                  count = rw (add-one n, k.count);
                  placed = next-is m k.lines at line k.placed stands;
                  few = let i = k.few in let j = grows in omega arith;
                  starts-long = ap length s ∙ k.starts-long;
                  ends-long = ap length e ∙ k.ends-long;
                  seen-long = ap length d ∙ length-set seen step.slot 1 ∙ k.seen-long;
                  front = k.front;
                  whole = ap (with_all k.front) (rest-is ∙ sym a) ∙ k.whole;
                  first = f ∙ k.first;
                  begun = s ∙ k.begun;
                  ended = e ∙ k.ended;
                }
            go false z s e f a =
                record {
                  lines = suc k.lines;
                  count = rw (add-one n, k.count);
                  placed = next-is m k.lines at line k.placed stands;
                  few = let i = k.few in let j = grows in omega arith;
                  starts-long = ap length s ∙ length-set starts step.slot _ ∙ k.starts-long;
                  ends-long = ap length e ∙ length-set ends step.slot _ ∙ k.ends-long;
                  seen-long = ap length d ∙ length-set seen step.slot 1 ∙ k.seen-long;
                  front = k.front ++ t ∷ [];
                  whole = all_more k.front t _ ∙ ap (λ (r : Run). with_all k.front (with_taken t r)) rest-is ∙ ap (with_all k.front) (sym a) ∙ k.whole;
                  first = f ∙ ap (λ (v : Verdict). then v (value_verdict slot_of t)) k.first ∙ sym (verdict-more slot_of t k.front);
                  begun = s ∙ rw (← value-at, k.begun) (sym (starts_more slot_of t m starts₀ k.front));
                  ended = e ∙ ap (set ends step.slot) (sym ends-here) ∙ ap (λ (x : List ℕ). set x step.slot (end_of m n)) k.ended ∙ sym (ends_more slot_of t m ends₀ k.front);
                }
