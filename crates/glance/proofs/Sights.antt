-- One line: what the row that it fits and the form of its slot tell of it, together.
-- Assumes nothing.
use Prim.Native.Nat.{ℕ, ◌+◌, ◌-◌, ◌≤◌}
use mathlib.Core.Path.{◌≡◌, sym, ap, ◌∙◌}
use mathlib.Core.Bool.{true}
use mathlib.Core.List.{List, ◌++◌}
use native.Mathlib.Omega.{arith}
use lib.ListN.{length, take, drop, take-append-drop}
use lib.Seq.{take-take}
use Rattle.std.proofs.Common.{Some}
use Rattle.text.specs.Classes.{printed}
use Rattle.text.proofs.Printed.{printed-append}
use Rattle.lines.proofs.Laws.{drop-front}
use Rattle.forms.specs.Forms.{Slot, value_number}
use Rattle.layout.specs.Rows.{Row}
use Rattle.layout.specs.Layout.{step_of}
use Rattle.layout.specs.declared.Place.{Place}
use Rattle.layout.specs.declared.Step.{Step}
use Rattle.measure.specs.Measure.{clean_slot, Measured}
use Rattle.fitting.specs.Fitting.{clean_rows, Fits, Fitted}
use Rattle.fitting.specs.declared.Fit.{Fit}
use Rattle.glance.specs.Steps.{Ended, Tells, Sees, Told, FieldSeen}
use Rattle.glance.specs.declared.Taken.{Taken}
use Rattle.glance.proofs.Lines.{told-first}

-- a value behind the text of its row, as so many bytes behind it
pub field-seen : (slot : Slot) (s : List ℕ) (step : Step) (width n : ℕ) (t : Taken) → width ≤ length s → Measured slot (drop width s) (Some n) → Told s step width (width + n) t
    → FieldSeen slot s step width t
unfolding Measured Told FieldSeen
field-seen slot s step width n t h m k is =
    let (a, b, c, e) = k is in
    let w : width + n - width ≡ n = omega arith in
    let v : drop width (take t.end s) ≡ take n (drop width s) = ap (λ (x : ℕ). drop width (take x s)) c ∙ drop-front width (width + n) s ∙ ap (λ (x : ℕ). take x (drop width s)) w in
    (a, b, rw c (omega arith), rw c e, ap (value_number slot) v ∙ m.1, λ x. ap printed v ∙ m.2 x)

module _ (table : List Row) (slot_of : ℕ → Slot) (here : Place) (seen s : List ℕ) where
  -- the text of the line is taken as its row says
  takes-so : (step : Step) (width end next : ℕ) → Fits table here seen s step width → Ended s end next → printed (take end s) ≡ true → step ≡ step_of table here seen (take end s)
  takes-so step width end next f e p =
      let t = told-first s end next e p in
      f.takes t.1 ∙ ap (step_of table here seen) t.0

  -- the first or the last line of a block
  pub edge-sees : (step : Step) (width : ℕ) (t : Taken) → Fitted table here seen s (Some (Fit.Edge step width)) → Told s step 0 width t → Sees table slot_of here seen s t
  unfolding Fitted Told Sees
  edge-sees step width t f k is = let (a, b, c, e) = k is in (rw b (omega arith), rw c e, tells a c e)
    where
      tells : t.step ≡ step → t.end ≡ width → Ended s width t.next → clean_rows table ≡ true → ((i : ℕ) → clean_slot (slot_of i) ≡ true) → Tells table slot_of here seen s t
      tells a c e k slots =
          let (fits, none, ends) = f k in
          let p : printed (take t.end s) ≡ true = rw c fits.text in
          record {
            text = p;
            good = rw a fits.good;
            takes = a ∙ takes-so step width t.end t.next fits (rw c e) p;
            valued = λ n. absurd (n (rw a none));
          }

  -- a field's line
  pub field-sees : (step : Step) (width : ℕ) (t : Taken) → Fitted table here seen s (Some (Fit.Field step width)) → FieldSeen (slot_of step.slot) s step width t → Sees table slot_of here seen s t
  unfolding Fitted FieldSeen Sees
  field-sees step width t f k is = let (a, b, c, e, v, q) = k is in (rw b c, e, tells a b c e v q)
    where
      split : width ≤ t.end → take t.end s ≡ take width s ++ drop width (take t.end s)
      split c = sym (take-append-drop width (take t.end s)) ∙ ap (λ (x : List ℕ). x ++ drop width (take t.end s)) (take-take width t.end s c)

      tells : t.step ≡ step → t.value ≡ width → width ≤ t.end → Ended s t.end t.next → value_number (slot_of step.slot) (drop width (take t.end s)) ≡ 0
          → (clean_slot (slot_of step.slot) ≡ true → printed (drop width (take t.end s)) ≡ true)
          → clean_rows table ≡ true → ((i : ℕ) → clean_slot (slot_of i) ≡ true) → Tells table slot_of here seen s t
      tells a b c e v q k slots =
          let (fits, wide) = f k in
          let p : printed (take t.end s) ≡ true = ap printed (split c) ∙ printed-append (take width s) (drop width (take t.end s)) fits.text (q (slots step.slot)) in
          record {
            text = p;
            good = rw a fits.good;
            takes = a ∙ takes-so step width t.end t.next fits e p;
            valued = λ n. (b ∙ sym (ap (λ (x : Step). x.width) a ∙ wide), rw (a, wide) v);
          }
