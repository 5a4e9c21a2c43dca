-- What was taken of a message of any type, by a glance or by the passes: a glance takes what the passes take, so that both read the
-- piece at the front of a text alike; and the places that are kept of a message, by how it is read.
-- Assumes nothing.
use Prim.Native.Nat.{ℕ, ◌+◌, ◌≤◌}
use mathlib.Core.Path.{◌≡◌, refl, sym, ap, ◌∙◌}
use mathlib.Core.Bool.{Bool, true, false}
use mathlib.Core.List.{List}
use native.Mathlib.Nat.{sub-zero}
use native.Mathlib.Omega.{arith}
use lib.Dec.{eqb}
use lib.ListN.{length, take, drop, replicate}
use lib.Seq.{length-take-le, take_all}
use borrow.Author.Tests.{eq-eqb, ne_eqb, eqb-true, eqb-false}
use Rattle.std.proofs.Common.{Option, Some}
use Rattle.lines.specs.Verdicts.{pass, refused}
use Rattle.lines.specs.declared.Verdict.{Verdict}
use Rattle.lines.proofs.Laws.{then-zero}
use Rattle.stretches.specs.Stretches.{slot_count, stretch_of}
use Rattle.pieces.specs.Pieces.{piece_of}
use Rattle.pieces.proofs.Laws.{piece-within, stretch-is}
use Rattle.sheets.specs.Trees.{table_of}
use Rattle.sheets.proofs.Checks.{good_tree}
use Rattle.walk.specs.Walk.{taken_in}
use Rattle.walk.specs.declared.Body.{Body}
use Rattle.reader.specs.Take.{placeless}
use Rattle.reader.proofs.Laws.{pass_of, take-verdict}
use Rattle.glance.specs.Glance.{Says}
use Rattle.format.specs.Format.{Format}
use Rattle.format.specs.Reading.{reading, body_of, value_on, rules_of, verdict_of, read_of}
use Rattle.format.specs.declared.Reading.{Reading}
use Rattle.format.specs.Kept.{taken, kept_of}
use Rattle.format.specs.Glancing.{GlancedIn}
use Rattle.format.specs.Demands.{Accepted}
use Rattle.format.proofs.Rows.{rows-verdict}
use Rattle.format.proofs.Glancing.{tables-clean, glance-takes}
use Rattle.format.proofs.Chain.{Readable, judged, judged-is}

-- what a glance says, from places that are all 0
abbrev pub Told : Format → List ℕ → List ℕ → List ℕ → Option ℕ → Type 0
Told F s starts ends w = Says (table_of F.tree) F.slot_of F.header s (replicate {A = ℕ} slot_count 0) (replicate {A = ℕ} slot_count 0) starts ends w

-- so the piece at the front of a text is read, and so many bytes it has
abbrev pub Front : (F : Format) → List ℕ → Reading F.Held → ℕ → Type 0
Front F s r n = (r ≡ read_of F (piece_of s)) × (n ≡ length (piece_of s))

-- ---- by a glance

module _ (F : Format) (R : Readable F) (s starts ends : List ℕ) (w : Option ℕ) (n : ℕ) (is : w ≡ Some n) (t : Told F s starts ends w) where
  glanced : GlancedIn F s starts ends n
  unfolding Says
  glanced = let k : Told F s starts ends (Some n) = rw is at t in k (tables-clean F R.layout R.clean)

  pub glanced-within : n ≤ length s
  glanced-within = glanced.within

  -- a message that is taken whole
  pub glanced-body : n ≡ length s → record { verdict = pass; starts = starts; ends = ends } ≡ taken F s
  glanced-body e =
      let l : length s ≤ n = omega arith in
      sym (rw (take_all n s l) at (glance-takes F R.layout s starts ends n glanced).0)

  -- the piece at the front
  pub glanced-front : Front F s (judged F (stretch_of (take n s) starts ends)) n
  unfolding pass refused
  glanced-front =
      let g = glance-takes F R.layout s starts ends n glanced in
      rw g.1 (judged-is F R (take n s) (record { verdict = pass; starts = starts; ends = ends }) (sym g.0) refl, sym (length-take-le n s glanced-within))

-- ---- by the passes

module _ (s : List ℕ) (end : ℕ) (is : end ≡ 0 + length (piece_of (drop 0 s))) where
  pub front-within : end ≤ length s
  front-within = (piece-within s 0 end is (omega arith)).1

  pub front-passes : (F : Format) → Front F s (read_of F (take end s)) end
  front-passes F = (ap (read_of F) (rw sub-zero at (stretch-is s 0 end is)), omega (arith, is))

-- ---- the places that are kept

module _ (F : Format) (m : List ℕ) where
  -- what has 0 is accepted
  pub accepted : (verdict_of F m).number ≡ 0 → Accepted F m
  unfolding read_of reading
  accepted z = z

  -- by the verdict
  module _ (v : Verdict) (is : v ≡ verdict_of F m) where
    pub kept-taken : v.number ≡ 0 → taken F m ≡ kept_of F m
    unfolding kept_of
    kept-taken z = rw (← is, eq-eqb v.number 0 z)

    pub kept-none : (v.number ≡ 0 → ⊥) → placeless v ≡ kept_of F m
    unfolding kept_of
    kept-none h = rw (← is, ne_eqb v.number 0 h)

  -- an accepted message is taken with 0
  taken-zero : good_tree F.tree ≡ true → (verdict_of F m).number ≡ 0 → (taken F m).verdict.number ≡ 0
  taken-zero good z =
      let number : Verdict → ℕ = λ v. v.number in
      let table = table_of F.tree in
      ap number (take-verdict table F.slot_of F.header m (taken F m) refl)
      ∙ (then-zero (pass_of table F.slot_of F.header m) (rules_of F (value_on F m (taken_in (body_of F m)))) (ap number (rows-verdict F good m) ∙ z)).0

  -- and the verdict by them
  module _ (r : Body) (is : r ≡ kept_of F m) where
    pub kept-refused : good_tree F.tree ≡ true → (r.verdict.number ≡ 0 → ⊥) → r.verdict ≡ verdict_of F m
    unfolding placeless
    kept-refused good h =
        let n : (verdict_of F m).number ≡ 0 → ⊥ = λ z. h (ap (λ (x : Body). x.verdict.number) (is ∙ sym (kept-taken (verdict_of F m) refl z)) ∙ taken-zero good z) in
        ap (λ (x : Body). x.verdict) (is ∙ sym (kept-none (verdict_of F m) refl n))

    pub kept-accepted : r.verdict.number ≡ 0 → (verdict_of F m).number ≡ 0
    unfolding placeless
    kept-accepted z = on (eqb (verdict_of F m).number 0) refl
      where
        on : (b : Bool) → eqb (verdict_of F m).number 0 ≡ b → (verdict_of F m).number ≡ 0
        on true e = eqb-true (verdict_of F m).number 0 e
        on false e = ap (λ (x : Body). x.verdict.number) (kept-none (verdict_of F m) refl (eqb-false (verdict_of F m).number 0 e) ∙ sym is) ∙ z
