-- What the layout takes to its end has nothing wrong in 1, 2 and 3 nor in 5, 6 and 7.
-- Assumes nothing.
use Prim.Native.Nat.{ℕ, ◌≤◌}
use mathlib.Core.Path.{◌≡◌, refl, ap, ◌∙◌}
use mathlib.Core.Bool.{true}
use mathlib.Core.List.{List, [], ◌∷◌, ◌++◌, map}
use native.Mathlib.Omega.{arith}
use lib.ListN.{length, drop, length-append, length-drop}
use borrow.Author.Tests.{le-leb}
use Rattle.text.specs.Bytes.{bytes}
use Rattle.lines.specs.Verdicts.{pass, refused, then}
use Rattle.lines.specs.Lines.{lines_of, ended, size_pass, end_pass, lines_pass}
use Rattle.lines.specs.declared.Verdict.{Verdict}
use Rattle.lines.proofs.Joins.{Whole, end-closed, some_bytes}
use Rattle.lines.proofs.Standing.{bytes-stand}
use Rattle.sheets.specs.Sheets.{lines_in}
use Rattle.reader.specs.Header.{head_pass, head_value}
use Rattle.format.specs.Format.{Format}
use Rattle.format.specs.Passing.{TakenPasses}
use Rattle.format.specs.Writing.{head_line}
use Rattle.format.proofs.Laws.{Layout}
use Rattle.format.proofs.Heads.{Heads, heads-from, heads-are, head-good}
use Rattle.format.proofs.Accepting.{Told, told, sheet-nests}
use Rattle.format.proofs.Round.{whole-lines}

-- a message of whole lines that has its last ending passes 1, 2 and 3
pub whole-passes : (m : List ℕ) → Whole (lines_of m) → length m ≤ 4096 → ended m ≡ true → lines_pass m ≡ pass
unfolding lines_pass size_pass then pass refused
whole-passes m w h e =
    let last : end_pass true 1 (lines_of m) ≡ pass = ap (end_pass true 1) w.closed.split ∙ end-closed 1 w.closed.body w.closed.early in
    rw (le-leb 1 (length m) (some_bytes m e), le-leb (length m) 4096 h, bytes-stand 1 m e w.printing, e, last)

module _ (F : Format) (L : Layout F) where
  pub taken-passes : TakenPasses F
  unfolding head_pass head_line pass refused
  taken-passes m early n e d h b = (ap (λ (v : Verdict). v.number) (whole-passes m lines-whole n e), sheet-nests F L m t.sheet t.laid t.lines t.valued)
    where
      long : length F.header ≤ length (lines_of m)
      long =
          let f = L.four in
          let k = ap length d ∙ length-append early (bytes "-" ∷ []) in
          let j = length-drop 4 (lines_of m) in
          omega arith

      t : Told F L m
      t = told F L m (record { early = early; body = d; long = long }) b

      heads : Heads F.slot_of F.header (lines_of m)
      heads = heads-from F.slot_of 1 F.header (lines_of m) h

      value : ℕ → List ℕ
      value = head_value F.slot_of [] F.header (lines_of m)

      lines_are : lines_of m ≡ map (head_line F value) F.header ++ lines_in t.sheet
      lines_are =
          heads-are F.slot_of value F.header (lines_of m) long L.heads-distinct heads (λ s i. refl)
          ∙ ap (λ (y : List (List ℕ)). map (head_line F value) F.header ++ y) (ap (λ (k : ℕ). drop k (lines_of m)) L.four ∙ t.lines)

      lines-whole : Whole (lines_of m)
      lines-whole =
          rw lines_are (whole-lines F L value t.sheet (λ s i. head-good F.slot_of [] F.header (lines_of m) s L.heads-distinct heads i) t.laid t.valued)
