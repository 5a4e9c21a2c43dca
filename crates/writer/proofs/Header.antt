-- The mathematics of the crate's functions, over plain lists: the lines of the header put one after the other.
-- Assumes nothing.
use Prim.Native.Nat.{ℕ, ◌+◌, ◌≤◌, ◌<◌}
use mathlib.Core.Path.{◌≡◌, refl, sym, ap, ◌∙◌}
use mathlib.Core.List.{List, [], ◌∷◌, ◌++◌}
use native.Mathlib.Numerals.{add-one}
use lib.ListN.{length, drop, get_or, drop_of_length-le}
use lib.Seq.{drop-cons}
use Rattle.text.specs.Bytes.{bytes}
use Rattle.forms.specs.Forms.{Slot}
use Rattle.forms.specs.Slots.{slot_at}
use Rattle.fill.specs.Runs.{over_run, behind_run}
use Rattle.fill.specs.Filling.{Lent, value_at, filling}
use Rattle.fill.proofs.Runs.{Put, Run, one, then, over-append, behind-append, length_run}
use Rattle.writer.specs.Parts.{head_parts, message_parts}

module _ (slot_of : ℕ → Slot) (value : ℕ → List ℕ) (header buf₀ : List ℕ) where
  -- what is put, with the lines still ahead, is the whole header
  pub record Same (buf : List ℕ) (at i : ℕ) : Type 0 where
    pub over : over_run buf at (head_parts slot_of value (drop i header)) ≡ over_run buf₀ 0 (head_parts slot_of value header)
    pub behind : behind_run buf at (head_parts slot_of value (drop i header)) ≡ behind_run buf₀ 0 (head_parts slot_of value header)
    pub long : length buf ≡ length buf₀

  pub begin : Same buf₀ 0 0
  begin = record { over = refl; behind = refl; long = refl }

  module _ (buf : List ℕ) (at i : ℕ) (k : Same buf at i) where
    pub again : i < length header → {at' : ℕ} {buf' : List ℕ} → Run buf at (head_parts slot_of value (get_or header i 0 ∷ [])) at' buf' → Same buf' at' (i + 1)
    unfolding head_parts
    again more run =
        let ps : List (List ℕ) = head_parts slot_of value (get_or header i 0 ∷ []) in
        let rest : List (List ℕ) = head_parts slot_of value (drop (i + 1) header) in
        let e : head_parts slot_of value (drop i header) ≡ ps ++ rest = rw (drop-cons header i 0 more, add-one i) in
        record {
          over = rw (run.0, run.1) (sym (over-append ps rest buf at) ∙ rw (← e) k.over);
          behind = rw (run.0, run.1) (sym (behind-append ps rest buf at) ∙ rw (← e) k.behind);
          long = ap length run.1 ∙ length_run ps buf at ∙ k.long;
        }

    pub done : length header ≤ i → Run buf₀ 0 (head_parts slot_of value header) at buf
    unfolding head_parts over_run behind_run
    done h = let none : drop i header ≡ [] = drop_of_length-le header h in (rw none at k.behind, rw none at k.over)

-- the line of one slot, put as three parts
pub line-put : (slot_of : ℕ → Slot) (value : ℕ → List ℕ) (slot : ℕ) (fixed v buf : List ℕ) (at : ℕ) → fixed ≡ (slot_of slot).fixed → v ≡ value slot
    → {r₁ r₂ r₃ : ℕ} {b₁ b₂ b₃ : List ℕ} → Put buf at fixed r₁ b₁ → Put b₁ r₁ v r₂ b₂ → Put b₂ r₂ (bytes "\r\n") r₃ b₃
    → Run buf at (head_parts slot_of value (slot ∷ [])) r₃ b₃
unfolding head_parts
line-put slot_of value slot fixed v buf at f w p q e = rw (← f, ← w) (then _ _ (_ ∷ []) _ (one _ _ _ p) (then _ _ (_ ∷ []) (_ ∷ []) (one _ _ _ q) (one _ _ _ e)))

-- the header and the rows, one behind the other
pub both : (l : Lent) (header rows buf : List ℕ) {r₁ r₂ : ℕ} {b₁ b₂ : List ℕ}
    → Run buf 0 (head_parts (slot_at l.slots) (value_at l) header) r₁ b₁ → Run b₁ r₁ (filling l rows) r₂ b₂ → Run buf 0 (message_parts l header rows) r₂ b₂
unfolding message_parts
both l header rows buf p q = then buf 0 (head_parts (slot_at l.slots) (value_at l) header) (filling l rows) p q
