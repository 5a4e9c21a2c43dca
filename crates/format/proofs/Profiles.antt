-- Two message types whose headers begin with the same two slots, and whose third lines are fixed and not the same: a message that one of
-- them accepts gets 4 at line 3 from the other.
-- Assumes nothing.
use Prim.Native.Nat.{ℕ}
use mathlib.Core.Path.{◌≡◌, refl, ap, ◌∙◌}
use mathlib.Core.Bool.{false}
use mathlib.Core.List.{List, [], ◌∷◌, ◌++◌, append-nil}
use lib.Dec.{eqb}
use lib.ListN.{length, drop, get_or}
use borrow.Author.Tests.{eqb-true}
use Rattle.lines.specs.Verdicts.{refused, then}
use Rattle.lines.specs.Lines.{lines_of, lines_pass}
use Rattle.lines.proofs.Laws.{then-zero}
use Rattle.forms.specs.Forms.{Slot, nothing, unless, form_number, value_number}
use Rattle.forms.proofs.Laws.{unless-good, value-behind}
use Rattle.reader.specs.Header.{head_verdict, head_pass}
use Rattle.format.specs.Format.{Format}
use Rattle.format.specs.Reading.{reading, verdict_of, read_of}
use Rattle.format.specs.Demands.{Accepted}
use Rattle.format.specs.Profiles.{TurnsAway}
use Rattle.format.proofs.Tests.{no_length}
use Rattle.format.proofs.Heads.{Heads, heads-from}

-- the line of a slot that takes its fixed text and nothing more
fixed-only : (fixed v : List ℕ) → value_number (record { fixed = fixed; form = nothing }) v ≡ 0 → v ≡ fixed
unfolding form_number
fixed-only fixed v h =
    let b = value-behind (record { fixed = fixed; form = nothing }) v h in
    let n = no_length (drop (length fixed) v) (unless-good _ b.1) in
    b.0 ∙ ap (λ (l : List ℕ). fixed ++ l) n ∙ append-nil fixed

-- the third of three lines is wrong
third-wrong : (slot_of : ℕ → Slot) (a b c : ℕ) (hs : List ℕ) (ls : List (List ℕ))
    → value_number (slot_of a) (get_or ls 0 []) ≡ 0 → value_number (slot_of b) (get_or (drop 1 ls) 0 []) ≡ 0 → eqb (value_number (slot_of c) (get_or (drop 1 (drop 1 ls)) 0 [])) 0 ≡ false
    → head_verdict slot_of 1 (a ∷ b ∷ c ∷ hs) ls ≡ refused 4 3
unfolding head_verdict
third-wrong slot_of a b c hs ls p q r = rw (p, q, r)

module _ (F G : Format) (password sender : Slot) (fixed : List ℕ) (a b c : ℕ) (hs : List ℕ) (i j k : ℕ) (gs : List ℕ)
    (heads : F.header ≡ a ∷ b ∷ c ∷ hs) (first : F.slot_of a ≡ password) (second : F.slot_of b ≡ sender) (third : F.slot_of c ≡ record { fixed = fixed; form = nothing })
    (others : G.header ≡ i ∷ j ∷ k ∷ gs) (first-too : G.slot_of i ≡ password) (second-too : G.slot_of j ≡ sender) (strange : eqb (value_number (G.slot_of k) fixed) 0 ≡ false) where
  turned : (m : List ℕ) → Heads F.slot_of (a ∷ b ∷ c ∷ hs) (lines_of m) → head_pass G.slot_of G.header m ≡ refused 4 3
  unfolding Heads head_pass
  turned m h =
      let p : value_number (G.slot_of i) (get_or (lines_of m) 0 []) ≡ 0 = rw (first-too, ← first) h.0 in
      let q : value_number (G.slot_of j) (get_or (drop 1 (lines_of m)) 0 []) ≡ 0 = rw (second-too, ← second) h.1.0 in
      let t : get_or (drop 1 (drop 1 (lines_of m))) 0 [] ≡ fixed = fixed-only fixed _ (rw third at h.1.1.0) in
      rw others (third-wrong G.slot_of i j k gs (lines_of m) p q (rw t strange))

  pub turns-away : TurnsAway F G
  unfolding verdict_of read_of reading head_pass then refused
  turns-away m z =
      let (lines, rest) = then-zero (lines_pass m) _ z in
      let (head, behind) = then-zero (head_pass F.slot_of F.header m) _ rest in
      rw (lines, turned m (heads-from F.slot_of 1 (a ∷ b ∷ c ∷ hs) (lines_of m) (rw heads at head)))
