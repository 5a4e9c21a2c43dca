-- Where the fields stand, by the places that a reading keeps: what format's proofs/Outline says, and all numbers behind begin and end at 0.
-- Assumes nothing.
use Prim.Native.Nat.{ℕ, ◌+◌, ◌≤◌, ◌<◌}
use mathlib.Core.Path.{◌≡◌, refl, ◌∙◌}
use mathlib.Core.Bool.{Bool, true, false}
use mathlib.Core.List.{List, map}
use native.Mathlib.Omega.{arith}
use lib.Dec.{ltb}
use lib.ListN.{get_or}
use borrow.Author.Tests.{ne_eqb, le-ltb, ltb-true, ltb-false}
use Rattle.text.specs.Classes.{is_between}
use Rattle.walk.specs.declared.Body.{Body}
use Rattle.format.specs.Format.{Format}
use Rattle.format.specs.Kept.{kept_of}
use Rattle.format.specs.Outline.{numbers, password_field, line_field, start_in, end_in, begun_at}
use Rattle.format.proofs.Laws.{Layout, Laws}
use Rattle.format.proofs.Field.{Fields, unnamed-none, no_span}
use Rattle.format.proofs.Finding.{below-named, above-named}
use Rattle.format.proofs.Outline.{Outlined, Handed, handed}
use Rattle.outline.specs.Outline.{start_at, end_at, outline_of}
use Rattle.outline.proofs.Slots.{own-slot, same-slot, no-slot}

module _ (F : Format) (k : ℕ) (L : Layout F) (W : Laws F) (N : Fields F) (T : Outlined F k) (m : List ℕ) (b : Body) (is : b ≡ kept_of F m) where
  abbrev kept : Handed F k m b
  kept = handed F k L W N T m b is

  abbrev Both : ℕ → Type 0
  Both f = (start_at F k b.starts b.ends f ≡ start_in F k m f) × (end_at F k b.ends f ≡ end_in F k m f)

  below : (f : ℕ) → f < F.fields + 3 → Both f
  unfolding start_at end_at
  below f h = rw (← (same-slot F k f h)) (kept.each f h)

  -- a number that names no field begins and ends at 0
  unnamed : (f : ℕ) → is_between 1 F.fields f ≡ false → (f ≡ password_field F → ⊥) → (f ≡ line_field F → ⊥) → (start_in F k m f ≡ 0) × (end_in F k m f ≡ 0)
  unfolding start_in end_in
  unnamed f n p q =
      let s = no_span F m f (unnamed-none F m f n) in
      rw (ne_eqb f (password_field F) p, ne_eqb f (line_field F) q, s) (refl, refl)

  -- so slot 0, which is that of field 0, has no place
  nought : (get_or b.starts 0 0 ≡ 0) × (get_or b.ends 0 0 ≡ 0)
  unfolding start_at end_at begun_at
  nought =
      let s = own-slot F k 0 (omega arith) in
      let u = unnamed 0 (below-named F.fields 0 (omega arith)) (λ e. omega arith) (λ e. omega arith) in
      let o = below 0 (omega arith) in
      let to : get_or b.ends 0 0 ≡ 0 = rw (← s) at o.1 ∙ u.1 in
      (rw (← s, to, le-ltb (get_or b.starts 0 0) 0 (omega arith)) at o.0 ∙ u.0, to)

  behind : (f : ℕ) → F.fields + 3 ≤ f → Both f
  unfolding start_at end_at begun_at
  behind f h =
      let s = no-slot F k f h in
      let u = unnamed f (above-named F.fields f (omega arith)) (λ e. omega arith) (λ e. omega arith) in
      rw (← s, nought.0, nought.1, u.0, u.1) (refl, refl)

  pub each : (f : ℕ) → Both f
  each f = go (ltb f (F.fields + 3)) refl
    where
      go : (x : Bool) → ltb f (F.fields + 3) ≡ x → Both f
      go true e = below f (ltb-true f (F.fields + 3) e)
      go false e = behind f (ltb-false f (F.fields + 3) e)

  pub whole : (n : ℕ) (starts ends : List ℕ) → starts ≡ map (start_in F k m) (numbers 0 n) → ends ≡ map (end_in F k m) (numbers 0 n)
      → record { number = b.verdict.number; line = b.verdict.line; starts = starts; ends = ends } ≡ outline_of F k n m
  unfolding outline_of
  whole n starts ends s e = rw (kept.number, kept.line, s, e)
