-- What callers cite: the verdict that a message is taken with, and what stands at the places that were kept for each slot.
-- Assumes nothing.
use Prim.Native.Nat.{ℕ, suc, ◌+◌, ◌<◌}
use mathlib.Core.Path.{◌≡◌, refl, sym, ap, ◌∙◌}
use mathlib.Core.Bool.{Bool, true, false, cond}
use mathlib.Core.List.{List, [], ◌∷◌}
use native.Mathlib.Numerals.{add-one}
use native.Mathlib.Omega.{arith}
use lib.Dec.{eqb}
use lib.ListN.{length, take, drop, get_or, set, replicate, length-set, get_or-replicate}
use lib.Seq.{drop-drop}
use borrow.Author.Tests.{le-leb, eq-eqb}
use Rattle.lines.specs.Verdicts.{then}
use Rattle.lines.specs.Lines.{lines_of, lines_pass, line_at, start_behind, end_of}
use Rattle.lines.specs.declared.Verdict.{Verdict}
use Rattle.lines.proofs.Laws.{then-zero, then-then, begins, drop-front}
use Rattle.lines.proofs.Lined.{first-behind, lined}
use Rattle.blocks.specs.Blocks.{nest_pass}
use Rattle.stretches.specs.Stretches.{slot_count, between, stretch_of}
use Rattle.forms.specs.Forms.{Slot}
use Rattle.layout.specs.Rows.{Row}
use Rattle.layout.specs.Layout.{layout_of}
use Rattle.walk.specs.Walk.{body_pass, taken_in, value_from, walk_of}
use Rattle.walk.specs.declared.Body.{Body}
use Rattle.walk.proofs.Laws.{between_is, kept_at, stretch-is}
use Rattle.reader.specs.Header.{head_pass, head_value, starts_from, ends_from, head_starts, head_ends}
use Rattle.reader.specs.Take.{placeless, take_of}

-- ---- a line as a stretch

pub nothing : (m : List ℕ) → between m 0 0 ≡ []
unfolding between
nothing m = rw (le-leb 0 (length m) (omega arith))

-- what stands behind its first j bytes
pub line-between : (m : List ℕ) (k j : ℕ) → between m (start_behind m k + j) (end_of m (suc k)) ≡ drop j (get_or (lines_of m) k [])
unfolding end_of
line-between m k j =
    let b = begins m k in
    let at : ℕ = start_behind m k in
    let stop : ℕ = (line_at m at).end in
    let l = lined m k at (line_at m at) refl b.within b.rest in
    between_is m (at + j) stop l.stops ∙ sym (drop-drop j at (take stop m)) ∙ ap (drop j) (drop-front at stop m ∙ l.here)

-- ---- the places that the header keeps

pub starts-many : (slot_of : ℕ → Slot) (m : List ℕ) (hs : List ℕ) (k : ℕ) (starts : List ℕ) → length (starts_from slot_of m k starts hs) ≡ length starts
unfolding starts_from
starts-many slot_of m [] k starts = refl
starts-many slot_of m (h ∷ hs) k starts = starts-many slot_of m hs (suc k) _ ∙ length-set starts h _

pub ends-many : (m : List ℕ) (hs : List ℕ) (k : ℕ) (ends : List ℕ) → length (ends_from m k ends hs) ≡ length ends
unfolding ends_from
ends-many m [] k ends = refl
ends-many m (h ∷ hs) k ends = ends-many m hs (suc k) _ ∙ length-set ends h _

module _ (slot_of : ℕ → Slot) (m : List ℕ) (s : ℕ) where
  kept_from : (hs : List ℕ) (k : ℕ) (starts ends : List ℕ) → s < length starts → s < length ends
      → stretch_of m (starts_from slot_of m k starts hs) (ends_from m k ends hs) s ≡ head_value slot_of (stretch_of m starts ends s) hs (drop k (lines_of m)) s
  unfolding starts_from ends_from head_value
  kept_from [] k starts ends l e = refl
  kept_from (h ∷ hs) k starts ends l e =
      let j : ℕ = length (slot_of h).fixed in
      let next : drop 1 (drop k (lines_of m)) ≡ drop (suc k) (lines_of m) = drop-drop 1 k (lines_of m) ∙ rw (add-one k) in
      kept_from hs (suc k) (set starts h (start_behind m k + j)) (set ends h (end_of m (suc k))) (rw length-set l) (rw length-set e)
      ∙ rw (kept_at m starts ends h (start_behind m k + j) (end_of m (suc k)) s l e, line-between m k j, first-behind (lines_of m) k, next)

  pub header-kept : (header : List ℕ) → s < slot_count → stretch_of m (head_starts slot_of header m) (head_ends header m) s ≡ head_value slot_of [] header (lines_of m) s
  unfolding head_starts head_ends stretch_of
  header-kept header h =
      kept_from header 0 (replicate {A = ℕ} slot_count 0) (replicate {A = ℕ} slot_count 0) h h
      ∙ ap (λ (v : List ℕ). head_value slot_of v header (lines_of m) s) none
    where
      none : stretch_of m (replicate {A = ℕ} slot_count 0) (replicate {A = ℕ} slot_count 0) s ≡ []
      none = rw (get_or-replicate {A = ℕ} slot_count s 0 0 h) (nothing m)

-- ---- a message that was taken

-- the verdict of 1 to 12, with the rows of a table
unfoldable pub pass_of : List Row → (ℕ → Slot) → List ℕ → List ℕ → Verdict
pass_of table slot_of header m =
    then (lines_pass m) (then (head_pass slot_of header m) (then (nest_pass m) (body_pass slot_of (layout_of table 5 (drop 4 (lines_of m))))))

module _ (table : List Row) (slot_of : ℕ → Slot) (header m : List ℕ) where
  -- 1 to 7, and 8 to 12
  abbrev first : Verdict
  first = then (lines_pass m) (then (head_pass slot_of header m) (nest_pass m))

  abbrev last : Verdict
  last = body_pass slot_of (layout_of table 5 (drop 4 (lines_of m)))

  in_two : pass_of table slot_of header m ≡ then first last
  unfolding pass_of
  in_two = sym (then-then (lines_pass m) (then (head_pass slot_of header m) (nest_pass m)) last ∙ rw (then-then (head_pass slot_of header m) (nest_pass m) last))

  abbrev walked : Body
  walked = walk_of table slot_of m (head_starts slot_of header m) (head_ends header m)

  -- nothing wrong up to the blocks: the walk decides
  pub taken_is : first.number ≡ 0 → walked ≡ take_of table slot_of header m
  unfolding take_of
  taken_is z = rw (eq-eqb first.number 0 z)

  module _ (r : Body) (e : r ≡ take_of table slot_of header m) where
    pub take-verdict : r.verdict ≡ pass_of table slot_of header m
    unfolding take_of then walk_of placeless
    take-verdict = ap (λ (x : Body). x.verdict) e ∙ on (eqb first.number 0) ∙ sym (in_two ∙ then_is)
      where
        then_is : then first last ≡ cond (eqb first.number 0) last first
        then_is = refl

        on : (b : Bool) → (cond b walked (placeless first)).verdict ≡ cond b last first
        on true = refl
        on false = refl

    -- where nothing was found wrong, what stands at a slot's places is its value
    pub take-values : (pass_of table slot_of header m).number ≡ 0 → (s : ℕ) → s < slot_count
        → stretch_of m r.starts r.ends s ≡ value_from slot_of (head_value slot_of [] header (lines_of m) s) s (taken_in (layout_of table 5 (drop 4 (lines_of m))))
    unfolding head_starts head_ends
    take-values good s h =
        let z = (then-zero first last (ap (λ (v : Verdict). v.number) (sym in_two) ∙ good)).0 in
        let zeros : List ℕ = replicate {A = ℕ} slot_count 0 in
        stretch-is table slot_of m (head_starts slot_of header m) (head_ends header m) s (rw (starts-many slot_of m header 0 zeros) h) (rw (ends-many m header 0 zeros) h) r (e ∙ sym (taken_is z))
        ∙ ap (λ (v : List ℕ). value_from slot_of v s (taken_in (layout_of table 5 (drop 4 (lines_of m))))) (header-kept slot_of m s header h)
