-- A sheet ends in the last line of its table; and where no other row takes that line, no line before it is that line.
-- Assumes nothing.
use Prim.Native.Nat.{ℕ}
use mathlib.Core.Path.{◌≡◌, refl, sym, ap, ◌∙◌}
use mathlib.Core.Bool.{true, false, not}
use mathlib.Core.List.{List, [], ◌∷◌, ◌++◌}
use Rattle.text.specs.Bytes.{begins, same}
use Rattle.text.proofs.Bools.{or-none, or_left, or_right}
use Rattle.text.proofs.Laws.{and_left, and_right}
use Rattle.sheets.specs.Trees.{Tree, last, line, block, group, barred}
use Rattle.sheets.specs.Sheets.{Entry, edge, item, line_of, lines_in, Laid, shut, given, absent, opened, passed, member, done, unstopped}
use Rattle.sheets.specs.Plain.{any_line}
use Rattle.sheets.proofs.Checks.{free_members, free}
use Rattle.sheets.proofs.Picking.{key-misses, line-misses, laid-misses, among-free, chain-free}

unfoldable pub last_line : Tree → List ℕ
last_line (last c) = c
last_line (line f t) = last_line t
last_line (block m o t u) = last_line u
last_line (group n a o c ms t) = last_line t
last_line (barred b t) = last_line t

-- lines none of which is z, and then z
abbrev pub EndsIn : List ℕ → List Entry → Type 0
EndsIn z es = (ls : List (List ℕ)) × (lines_in es ≡ ls ++ z ∷ []) × (any_line z ls ≡ false)

module _ (z : List ℕ) where
  -- one line in front, and many
  one_more : (e : Entry) (es : List Entry) → same z (line_of e) ≡ false → EndsIn z es → EndsIn z (e ∷ es)
  unfolding lines_in any_line
  one_more e es h (ls, q, k) = (line_of e ∷ ls, ap (λ (y : List (List ℕ)). line_of e ∷ y) q, or-none (same z (line_of e)) _ h k)

  all_more : (es ds : List Entry) → any_line z (lines_in es) ≡ false → EndsIn z ds → EndsIn z (es ++ ds)
  unfolding lines_in any_line
  all_more [] ds h r = r
  all_more (e ∷ es) ds h r =
      one_more e (es ++ ds) (or_left (same z (line_of e)) _ h) (all_more es ds (or_right (same z (line_of e)) _ h) r)

  pub laid-ends : {slots : List ℕ} {t : Tree} {es : List Entry} → Laid slots t es → free z true t ≡ true → last_line t ≡ z → EndsIn z es
  unfolding free last_line lines_in line_of any_line
  laid-ends shut h e = ([], ap (λ (y : List ℕ). y ∷ []) e, refl)
  laid-ends (given {f = f} {es = es} v l) h e =
      one_more (item f.slot f.key v) es (key-misses z f.key v (and_left _ _ h)) (laid-ends l (and_right (not (begins f.key z)) _ h) e)
  laid-ends (absent {f = f} m l) h e = laid-ends l (and_right (not (begins f.key z)) _ h) e
  laid-ends (opened {o = o} {t = t} {es = es} {ds = ds} l r) h e =
      let k = and_right (not (same o z)) _ h in
      one_more (edge o) (es ++ ds) (line-misses z o (and_left _ _ h))
      (all_more es ds (laid-misses z l (and_left _ _ k)) (laid-ends r (and_right (free z false t) _ k) e))
  laid-ends (passed {o = o} {t = t} m g r) h e = laid-ends r (and_right (free z false t) _ (and_right (not (same o z)) _ h)) e
  laid-ends (member {o = o} {c = c} {ms = ms} {m = m} {es = es} {ds = ds} v i w l r) h e =
      let g = among-free z c i (and_left (free_members z c ms) _ (and_right (not (same o z)) _ h)) in
      one_more (edge o) (item m.slot m.key v ∷ (es ++ ds)) (line-misses z o (and_left _ _ h))
      (one_more (item m.slot m.key v) (es ++ ds) (key-misses z m.key v g.0)
      (all_more es ds (laid-misses z l (sym (chain-free z m.inside c) ∙ g.1)) (laid-ends r h e)))
  laid-ends (done {o = o} {c = c} {ms = ms} w l) h e = laid-ends l (and_right (free_members z c ms) _ (and_right (not (same o z)) _ h)) e
  laid-ends (unstopped w l) h e = laid-ends l h e
