-- What callers cite: what stands at the places that a walk has kept is the value of each slot.
-- Assumes nothing.
use Prim.Native.Nat.{ℕ, suc, ◌+◌, ◌-◌, ◌≤◌, ◌<◌}
use mathlib.Core.Path.{◌≡◌, refl, sym, ap, ◌∙◌}
use mathlib.Core.Bool.{Bool, true, false, ◌&&◌, cond}
use mathlib.Core.List.{List, [], ◌∷◌}
use native.Mathlib.Omega.{arith}
use lib.Dec.{leb, eqb}
use lib.ListN.{length, take, drop, get_or, set, replicate, length-take, length-set, drop_of_length-le}
use lib.Seq.{drop-drop, get_or-set_same, get_or-set_other}
use borrow.Author.Tests.{le-leb, leb-false, eqb-true, eqb-false}
use Rattle.text.proofs.Bools.{of-both}
use Rattle.lines.specs.Lines.{lines_of, start_behind, end_of}
use Rattle.lines.proofs.Laws.{begins, drop-front, Stands, first, stands}
use Rattle.stretches.specs.Stretches.{between, stretch_of}
use Rattle.forms.specs.Forms.{Slot}
use Rattle.layout.specs.Rows.{Row}
use Rattle.layout.specs.Layout.{Taken, Run, refused_at, taken, step_of, run_of, behind, with_taken, marked, layout_of}
use Rattle.layout.specs.declared.Place.{Place}
use Rattle.layout.proofs.Laws.{takes-within}
use Rattle.stretches.specs.Stretches.{slot_count}
use Rattle.walk.specs.Walk.{taken_in, value_from, starts_of, ends_of, walk_of}
use Rattle.walk.specs.declared.Body.{Body}

-- ---- parts of a message

pub between_is : (m : List ℕ) (from to : ℕ) → to ≤ length m → between m from to ≡ drop from (take to m)
unfolding between
between_is m from to h = go (leb from to) refl
  where
    go : (t : Bool) → leb from to ≡ t → cond (t && leb to (length m)) (take (to - from) (drop from m)) [] ≡ drop from (take to m)
    go true e = rw (le-leb to (length m) h) (sym (drop-front from to m))
    go false e =
        let f : to < from = leb-false from to e in
        let l : length (take to m) ≤ from = rw length-take (omega arith) in
        sym (drop_of_length-le (take to m) l)

-- ---- the value of each line that was taken is the end of that line's text

unfoldable pub Standing : List ℕ → List Taken → Type 0
Standing m [] = Unit
Standing m (t ∷ ts) = Stands m t.line t.value × Standing m ts

with-standing : (m : List ℕ) (t : Taken) (r : Run) → Stands m t.line t.value → Standing m (taken_in r) → Standing m (taken_in (with_taken t r))
unfolding with_taken taken_in Standing
with-standing m t (refused_at number line) h s = tt
with-standing m t (taken ts) h s = (h, s)

module _ (m : List ℕ) (table : List Row) where
  stand-in : (ls : List (List ℕ)) (here : Place) (seen : List ℕ) (k : ℕ) → ls ≡ lines_of (drop (start_behind m k) m) → Standing m (taken_in (run_of table here seen (suc k) ls))
  unfolding run_of behind taken_in Standing
  stand-in [] here seen k e = tt
  stand-in (l ∷ ls) here seen k e =
      let step = step_of table here seen l in
      let f = first m k l ls e in
      let ih = stand-in ls step.place (marked seen step) (suc k) f.rest in
      let P : Run → Type 0 = λ (r : Run). Standing m (taken_in r) in
      of-both P (eqb step.number 0)
      (λ a. of-both P (eqb step.slot 0) (λ b. ih) (λ b. with-standing m _ _ (stands m k step.width l ls f (takes-within table here seen l)) ih))
      (λ a. tt)

  pub standing : Standing m (taken_in (layout_of table 5 (drop 4 (lines_of m))))
  unfolding layout_of
  standing = stand-in (drop 4 (lines_of m)) (record { row = 0; back = 0 }) (replicate {A = ℕ} slot_count 0) 4 (sym (begins m 4).rest)

-- ---- the places that a walk has kept

-- a place kept for one slot
pub kept_at : (m starts ends : List ℕ) (slot x e s : ℕ) → s < length starts → s < length ends
    → stretch_of m (set starts slot x) (set ends slot e) s ≡ cond (eqb slot s) (between m x e) (stretch_of m starts ends s)
unfolding stretch_of
kept_at m starts ends slot x e s l k = go (eqb slot s) refl
  where
    go : (t : Bool) → eqb slot s ≡ t → between m (get_or (set starts slot x) s 0) (get_or (set ends slot e) s 0) ≡ cond t (between m x e) (between m (get_or starts s 0) (get_or ends s 0))
    go true q =
        let i : slot ≡ s = eqb-true slot s q in
        rw (i, get_or-set_same starts s x 0 l, get_or-set_same ends s e 0 k)
    go false q =
        let o : s ≡ slot → ⊥ = λ j. eqb-false slot s q (sym j) in
        rw (get_or-set_other starts slot s x 0 o, get_or-set_other ends slot s e 0 o)

module _ (slot_of : ℕ → Slot) (m : List ℕ) (s : ℕ) where
  kept_here : (t : Taken) (starts ends : List ℕ) → Stands m t.line t.value → s < length starts → s < length ends
      → stretch_of m (set starts t.slot (end_of m t.line - length t.value + length (slot_of t.slot).fixed)) (set ends t.slot (end_of m t.line)) s
      ≡ cond (eqb t.slot s) (drop (length (slot_of s).fixed) t.value) (stretch_of m starts ends s)
  kept_here t starts ends h l k = kept_at m starts ends t.slot _ (end_of m t.line) s l k ∙ go (eqb t.slot s) refl
    where
      go : (b : Bool) → eqb t.slot s ≡ b
          → cond b (between m (end_of m t.line - length t.value + length (slot_of t.slot).fixed) (end_of m t.line)) (stretch_of m starts ends s)
          ≡ cond b (drop (length (slot_of s).fixed) t.value) (stretch_of m starts ends s)
      go true e =
          let j : ℕ = length (slot_of t.slot).fixed in
          between_is m _ (end_of m t.line) h.within ∙ sym (drop-drop j (end_of m t.line - length t.value) (take (end_of m t.line) m))
          ∙ ap (drop j) h.here ∙ ap (λ (i : ℕ). drop (length (slot_of i).fixed) t.value) (eqb-true t.slot s e)
      go false e = refl

  stretches-are : (ts : List Taken) (starts ends : List ℕ) → Standing m ts → s < length starts → s < length ends
      → stretch_of m (starts_of slot_of m starts ts) (ends_of m ends ts) s ≡ value_from slot_of (stretch_of m starts ends s) s ts
  unfolding starts_of ends_of value_from Standing
  stretches-are [] starts ends h l k = refl
  stretches-are (t ∷ ts) starts ends h l k =
      stretches-are ts _ _ h.1 (rw length-set l) (rw length-set k) ∙ ap (λ (v : List ℕ). value_from slot_of v s ts) (kept_here t starts ends h.0 l k)

-- where nothing was taken for a slot the places that were kept already stand for it
pub stretch-is : (table : List Row) (slot_of : ℕ → Slot) (m starts ends : List ℕ) (s : ℕ) → s < length starts → s < length ends → (r : Body) → r ≡ walk_of table slot_of m starts ends
    → stretch_of m r.starts r.ends s ≡ value_from slot_of (stretch_of m starts ends s) s (taken_in (layout_of table 5 (drop 4 (lines_of m))))
unfolding walk_of
stretch-is table slot_of m starts ends s l k r e = rw e (stretches-are slot_of m s (taken_in (layout_of table 5 (drop 4 (lines_of m)))) starts ends (standing m table) l k)
