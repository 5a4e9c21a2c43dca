-- Parts put one behind the other into a buffer: a part, a run of parts, and the run as their join where all have room.
-- Assumes nothing.
use Prim.Native.Nat.{ℕ, ◌+◌, ◌≤◌}
use mathlib.Core.Path.{◌≡◌, refl, sym, ◌∙◌}
use mathlib.Core.Bool.{true}
use mathlib.Core.List.{List, [], ◌∷◌, ◌++◌, append_assoc, flatten}
use native.Mathlib.Omega.{arith}
use lib.ListN.{length, take, drop, length-append}
use lib.Seq.{take_at}
use borrow.Author.Tests.{le-leb}
use Rattle.text.specs.Copy.{over, fits, placed, after}
use Rattle.text.proofs.Laws.{put-none, length-placed, run-placed, run-after}
use Rattle.fill.specs.Runs.{over_run, behind_run}

-- ---- a part

-- a part was put into a buffer at a place: the place behind it, and what the buffer holds then
abbrev pub Put : List ℕ → ℕ → List ℕ → ℕ → List ℕ → Type 0
Put buf at s r now = (r ≡ after buf at s) × (now ≡ placed buf at s)

module _ (buf : List ℕ) (at : ℕ) where
  -- it has room
  room : (s : List ℕ) → at + length s ≤ length buf → fits buf at s ≡ true
  unfolding fits
  room s h = le-leb (at + length s) (length buf) h

  -- two parts, one behind the other, are their join, where there is room for both
  pub two : (s t : List ℕ) {r₁ r₂ : ℕ} {b₁ b₂ : List ℕ} → Put buf at s r₁ b₁ → Put b₁ r₁ t r₂ b₂ → at + (length s + length t) ≤ length buf
      → Put buf at (s ++ t) r₂ b₂
  two s t p q h =
      let f : fits buf at (s ++ t) ≡ true = room (s ++ t) (rw length-append h) in
      (q.0 ∙ rw (p.1, p.0) (run-after buf at s t f), q.1 ∙ rw (p.1, p.0) (run-placed buf at s t f))

  -- the place behind a part that has room
  pub end_of : (s : List ℕ) {r : ℕ} → r ≡ after buf at s → at + length s ≤ length buf → r ≡ at + length s
  unfolding after
  end_of s e h = e ∙ rw (room s h)

-- from the start it is the part's length
pub measured : (buf s : List ℕ) {r : ℕ} → r ≡ after buf 0 s → length s ≤ length buf → r ≡ length s
measured buf s e h = let p = end_of buf 0 s e (omega arith) in omega arith

-- what was put at the start of a buffer that has room stands in front
pub in-front : (buf s : List ℕ) {r : ℕ} {now : List ℕ} → Put buf 0 s r now → length s ≤ length buf → take r now ≡ s
unfolding placed over
in-front buf s {r} p h =
    let f : fits buf 0 s ≡ true = room buf 0 s (omega arith) in
    let e : length s ≡ r = sym (measured buf s p.0 h) in
    rw (p.1, f) (take_at s (drop (0 + length s) buf) r e)

-- ---- a run of parts

-- they were put from a place on: the place behind them, and what the buffer holds then
abbrev pub Run : List ℕ → ℕ → List (List ℕ) → ℕ → List ℕ → Type 0
Run buf at ss r now = (r ≡ behind_run buf at ss) × (now ≡ over_run buf at ss)

pub one : (buf : List ℕ) (at : ℕ) (s : List ℕ) {r : ℕ} {now : List ℕ} → Put buf at s r now → Run buf at (s ∷ []) r now
unfolding behind_run over_run
one buf at s p = p

pub over-append : (ss ts : List (List ℕ)) (buf : List ℕ) (at : ℕ) → over_run buf at (ss ++ ts) ≡ over_run (over_run buf at ss) (behind_run buf at ss) ts
unfolding behind_run over_run
over-append [] ts buf at = refl
over-append (s ∷ ss) ts buf at = over-append ss ts (placed buf at s) (after buf at s)

pub behind-append : (ss ts : List (List ℕ)) (buf : List ℕ) (at : ℕ) → behind_run buf at (ss ++ ts) ≡ behind_run (over_run buf at ss) (behind_run buf at ss) ts
unfolding behind_run over_run
behind-append [] ts buf at = refl
behind-append (s ∷ ss) ts buf at = behind-append ss ts (placed buf at s) (after buf at s)

pub then : (buf : List ℕ) (at : ℕ) (ss ts : List (List ℕ)) {r₁ r₂ : ℕ} {b₁ b₂ : List ℕ} → Run buf at ss r₁ b₁ → Run b₁ r₁ ts r₂ b₂ → Run buf at (ss ++ ts) r₂ b₂
then buf at ss ts p q = (q.0 ∙ rw (p.0, p.1) (sym (behind-append ss ts buf at)), q.1 ∙ rw (p.0, p.1) (sym (over-append ss ts buf at)))

pub length_run : (ss : List (List ℕ)) (buf : List ℕ) (at : ℕ) → length (over_run buf at ss) ≡ length buf
unfolding over_run
length_run [] buf at = refl
length_run (s ∷ ss) buf at = length_run ss (placed buf at s) (after buf at s) ∙ length-placed buf at s

-- none
pub none-run : (buf : List ℕ) (at : ℕ) → Run buf at [] at buf
unfolding behind_run over_run
none-run buf at = (refl, refl)

-- ---- where all have room

pub flat_append : (ss ts : List (List ℕ)) → flatten (ss ++ ts) ≡ flatten ss ++ flatten ts
unfolding flatten
flat_append [] ts = refl
flat_append (s ∷ ss) ts = rw (flat_append ss ts) (sym (append_assoc s (flatten ss) (flatten ts)))

run-whole : (ss : List (List ℕ)) (buf : List ℕ) (at : ℕ) → at + length (flatten ss) ≤ length buf
    → (behind_run buf at ss ≡ after buf at (flatten ss)) × (over_run buf at ss ≡ placed buf at (flatten ss))
unfolding flatten behind_run over_run after fits placed
run-whole [] buf at h = put-none buf at
run-whole (s ∷ ss) buf at h =
    let l = length-append s (flatten ss) in
    let f : fits buf at (s ++ flatten ss) ≡ true = le-leb (at + length (s ++ flatten ss)) (length buf) h in
    let e = end_of buf at s {r = after buf at s} refl (omega arith) in
    let n = length-placed buf at s in
    let ih = run-whole ss (placed buf at s) (after buf at s) (omega arith) in
    (ih.0 ∙ run-after buf at s (flatten ss) f, ih.1 ∙ run-placed buf at s (flatten ss) f)

pub whole : (ss : List (List ℕ)) (buf : List ℕ) (at : ℕ) {r : ℕ} {now : List ℕ} → Run buf at ss r now → at + length (flatten ss) ≤ length buf → Put buf at (flatten ss) r now
whole ss buf at p h = let w = run-whole ss buf at h in (p.0 ∙ w.0, p.1 ∙ w.1)
