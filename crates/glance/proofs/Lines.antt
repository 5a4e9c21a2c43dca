-- A line whose text is of 20 to 7E hex, with its ending, at the front of any bytes: it is the first line of them, and its places are
-- those that were told.
-- Assumes nothing.
use Prim.Native.Nat.{ℕ, ◌+◌, ◌-◌, ◌≤◌, ◌<◌, min}
use mathlib.Core.Path.{◌≡◌, refl, sym, ap, ◌∙◌}
use mathlib.Core.Bool.{Bool, true, false, cond, true≢false}
use mathlib.Core.List.{List, [], ◌∷◌, ◌++◌, append_assoc}
use mathlib.Core.Logic.{◌⊎◌, inl, inr}
use native.Mathlib.Omega.{arith}
use lib.Dec.{eqb-suc-zero}
use lib.ListN.{length, take, drop, length-append, length-drop, take-append-drop}
use lib.Seq.{length-take-le, take-append_seam, drop_at, drop-drop}
use borrow.Author.Tests.{leb-true, le-leb}
use Rattle.std.specs.Prelude.{Option, Some, None}
use Rattle.std.specs.Option.{option_map_or}
use Rattle.std.proofs.lemmas.Option.{none-some}
use Rattle.text.specs.Bytes.{bytes, begins, before}
use Rattle.text.specs.Classes.{is_between, printed}
use Rattle.text.proofs.Laws.{and_left, and_right, and_both, begins-is, rest_of}
use Rattle.lines.specs.Lines.{bare, without_ending, line_at, ending_width}
use Rattle.lines.proofs.Laws.{print-lf, bare-print}
use Rattle.lines.proofs.Scans.{some-eq}
use Rattle.fitting.specs.Fitting.{ends_line}
use Rattle.glance.specs.Steps.{Ended}

-- ---- the two endings

abbrev pub IsEnding : List ℕ → Type 0
IsEnding over = (over ≡ 10 ∷ []) ⊎ (over ≡ 13 ∷ 10 ∷ [])

-- an ending, as a text begins with it
pub record Begun (t : List ℕ) : Type 0 where
  pub over : List ℕ
  pub rest : List ℕ
  pub is : IsEnding over
  pub split : t ≡ over ++ rest
  pub wide : ending_width t ≡ Some (length over)

ending-in : (t : List ℕ) (w : ℕ) → ending_width t ≡ Some w → 0 < w → Begun t
unfolding bytes
ending-in [] w h k = let z = some-eq 0 w h in let n : ⊥ = omega arith in absurd n
ending-in (b ∷ t) w h k = on (begins (bytes "\n") (b ∷ t)) refl (begins (bytes "\r\n") (b ∷ t)) refl
  where
    is : ending_width (b ∷ t) ≡ cond (begins (bytes "\n") (b ∷ t)) (Some 1) (cond (begins (bytes "\r\n") (b ∷ t)) (Some 2) None)
    is = rw (eqb-suc-zero (length t))

    on : (x : Bool) → begins (bytes "\n") (b ∷ t) ≡ x → (z : Bool) → begins (bytes "\r\n") (b ∷ t) ≡ z → Begun (b ∷ t)
    on true e z f = record { over = 10 ∷ []; rest = drop 1 (b ∷ t); is = inl refl; split = begins-is (bytes "\n") (b ∷ t) e; wide = is ∙ rw e }
    on false e true f = record { over = 13 ∷ 10 ∷ []; rest = drop 2 (b ∷ t); is = inr refl; split = begins-is (bytes "\r\n") (b ∷ t) f; wide = is ∙ rw (e, f) }
    on false e false f = absurd (none-some w (sym (is ∙ rw (e, f)) ∙ h))

ending-wide : (over : List ℕ) → IsEnding over → (1 ≤ length over) × (length over ≤ 2)
ending-wide over (inl e) = rw e (omega arith, omega arith)
ending-wide over (inr e) = rw e (omega arith, omega arith)

-- what the code tells of it
pub ended_is : (s : List ℕ) (end : ℕ) → end ≤ length s → (o : Option ℕ) → o ≡ ending_width (take (length s - end) (drop end s))
    → (over : ℕ) → o ≡ Some over → 0 < over → Ended s end (end + over)
unfolding ends_line is_between
ended_is s end h x f over g some =
    let e : ending_width (drop end s) ≡ Some over = ap ending_width (sym (rest_of end (length s) s refl)) ∙ sym f ∙ g in
    let b = ending-in (drop end s) over e some in
    let w = ending-wide b.over b.is in
    let o : over ≡ length b.over = some-eq over _ (sym e ∙ b.wide) in
    let l : length (drop end s) ≡ length b.over + length b.rest = ap length b.split ∙ length-append b.over b.rest in
    let d = length-drop end s in
    let n : end + over - end ≡ over = omega arith in
    record {
      grows = omega (arith, o, w.0);
      within = omega (arith, o, l, d, h);
      ends = rw e (and_both (le-leb 1 over (omega (arith, o, w.0))) (le-leb over 2 (omega (arith, o, w.1))));
      is = rw n e;
    }

-- the same, counted from where the line begins
pub ended-from : (s : List ℕ) (at end next : ℕ) → Ended s (at + end) next → Ended (drop at s) end (next - at) × (at + (next - at) ≡ next)
ended-from s at end next e =
    let d = drop-drop end at s in
    let l = length-drop at s in
    let g = e.grows in
    let w = e.within in
    let n : next - at - end ≡ next - (at + end) = omega arith in (
      record { grows = omega arith; within = omega arith; ends = rw d e.ends; is = rw (d, n) e.is },
      omega arith,
    )

ending_of : (t : List ℕ) → ends_line t ≡ true → Begun t
unfolding ends_line is_between
ending_of t h = on (ending_width t) refl h
  where
    on : (o : Option ℕ) → ending_width t ≡ o → option_map_or (is_between 1 2) o false ≡ true → Begun t
    on (Some w) e h = ending-in t w e (leb-true 1 w (and_left _ _ h))
    on None e h = absurd (true≢false (sym h))

-- the text of a line, its ending, and what stands behind
pub record Shape (s : List ℕ) (end next : ℕ) : Type 0 where
  pub over : List ℕ
  pub rest : List ℕ
  pub is : IsEnding over
  pub split : s ≡ take end s ++ (over ++ rest)
  pub long : length (take end s) ≡ end
  pub wide : next ≡ end + length over

pub shape : (s : List ℕ) (end next : ℕ) → Ended s end next → Shape s end next
shape s end next e =
    let o = ending_of (drop end s) e.ends in
    let a = e.grows in
    let b = e.within in
    record {
      over = o.over;
      rest = o.rest;
      is = o.is;
      split = sym (take-append-drop end s) ∙ ap (λ (x : List ℕ). take end s ++ x) o.split;
      long = length-take-le end s (omega arith);
      wide = let w = some-eq (next - end) (length o.over) (sym e.is ∙ o.wide) in omega arith;
    }

-- other bytes behind it
pub shape-front : (s : List ℕ) (end next : ℕ) (h : Shape s end next) (y : List ℕ) → take next s ++ y ≡ take end s ++ (h.over ++ y)
shape-front s end next h y =
    ap (λ (x : List ℕ). x ++ y) front ∙ append_assoc (take end s) h.over y
  where
    whole : s ≡ (take end s ++ h.over) ++ h.rest
    whole = h.split ∙ sym (append_assoc (take end s) h.over h.rest)

    n : next ≡ length (take end s ++ h.over)
    n = h.wide ∙ ap (λ (x : ℕ). x + length h.over) (sym h.long) ∙ sym (length-append (take end s) h.over)

    front : take next s ≡ take end s ++ h.over
    front = ap (λ (x : ℕ). take x s) n ∙ ap (take (length (take end s ++ h.over))) whole ∙ take-append_seam (take end s ++ h.over) h.rest

-- ---- what stands before the first LF

before-lf : (l y : List ℕ) → printed l ≡ true → before 10 (l ++ (10 ∷ y)) ≡ l
unfolding printed before
before-lf [] y h = refl
before-lf (b ∷ l) y h = rw (print-lf b (and_left _ _ h)) (ap (λ (x : List ℕ). b ∷ x) (before-lf l y (and_right (is_between 32 126 b) _ h)))

before-cr : (l y : List ℕ) → printed l ≡ true → before 10 (l ++ (13 ∷ 10 ∷ y)) ≡ l ++ 13 ∷ []
unfolding printed before
before-cr [] y h = refl
before-cr (b ∷ l) y h = rw (print-lf b (and_left _ _ h)) (ap (λ (x : List ℕ). b ∷ x) (before-cr l y (and_right (is_between 32 126 b) _ h)))

bare-lf : (l : List ℕ) → printed l ≡ true → bare l ≡ l
unfolding printed bare
bare-lf [] h = refl
bare-lf (b ∷ l) h = bare-print b (and_left _ _ h) l ∙ ap (λ (x : List ℕ). b ∷ x) (bare-lf l (and_right (is_between 32 126 b) _ h))

bare-cr : (l : List ℕ) → printed l ≡ true → bare (l ++ 13 ∷ []) ≡ l
unfolding printed bare
bare-cr [] h = refl
bare-cr (b ∷ l) h = bare-print b (and_left _ _ h) (l ++ 13 ∷ []) ∙ ap (λ (x : List ℕ). b ∷ x) (bare-cr l (and_right (is_between 32 126 b) _ h))

-- ---- the first line

module _ (l over y : List ℕ) (h : printed l ≡ true) (is : IsEnding over) where
  pub first-text : bare (before 10 (l ++ (over ++ y))) ≡ l
  first-text = on is
    where
      on : IsEnding over → bare (before 10 (l ++ (over ++ y))) ≡ l
      on (inl e) = rw e (ap bare (before-lf l y h) ∙ bare-lf l h)
      on (inr e) = rw e (ap bare (before-cr l y h) ∙ bare-cr l h)

  first-raw : length (before 10 (l ++ (over ++ y))) + 1 ≡ length l + length over
  first-raw = on is
    where
      on : IsEnding over → length (before 10 (l ++ (over ++ y))) + 1 ≡ length l + length over
      on (inl e) = rw (e, before-lf l y h)
      on (inr e) = rw (e, before-cr l y h, length-append l (13 ∷ [])) (omega arith)

  -- where it stands behind other bytes
  pub line-is : (p : List ℕ) (at : ℕ) → length p ≡ at
      → record { end = at + length l; next = at + (length l + length over) } ≡ line_at (p ++ (l ++ (over ++ y))) at
  unfolding line_at
  line-is p at e =
      let d : drop at (p ++ (l ++ (over ++ y))) ≡ l ++ (over ++ y) = drop_at p (l ++ (over ++ y)) at e in
      let long : length (l ++ (over ++ y)) ≡ length l + (length over + length y) = length-append l (over ++ y) ∙ ap (λ (x : ℕ). length l + x) (length-append over y) in
      let m : min (length l + length over) (length (l ++ (over ++ y))) ≡ length l + length over = omega arith in
      rw (d, first-text, first-raw, m)

-- a line's text and ending that were told are the first line of the text
pub told-first : (s : List ℕ) (end next : ℕ) → Ended s end next → printed (take end s) ≡ true
    → (without_ending s ≡ take end s) × (length (before 10 s) < length s)
unfolding without_ending
told-first s end next e h =
    let f = shape s end next e in
    let t = first-text (take end s) f.over f.rest h f.is in
    let r = first-raw (take end s) f.over f.rest h f.is in
    let n : length (before 10 s) + 1 ≡ next = ap (λ (x : List ℕ). length (before 10 x) + 1) f.split ∙ r ∙ ap (λ (x : ℕ). x + length f.over) f.long ∙ sym f.wide in
    let w = e.within in
    (ap (λ (x : List ℕ). bare (before 10 x)) f.split ∙ t, omega arith)
