-- The slot of a field, by where its number stands from the type's last field.
-- Assumes nothing.
use Prim.Native.Nat.{ℕ, ◌+◌, ◌-◌, ◌≤◌, ◌<◌}
use mathlib.Core.Path.{◌≡◌}
use native.Mathlib.Omega.{arith}
use borrow.Author.Tests.{eq-eqb, ne_eqb, lt-ltb, le-ltb}
use Rattle.format.specs.Format.{Format}
use Rattle.format.specs.Outline.{password_field, line_field, head_slot, slot_for}
use Rattle.outline.specs.Outline.{slot_at}

module _ (F : Format) (k f : ℕ) where
  pub own-slot : f ≤ F.fields → f ≡ slot_at F k f
  unfolding slot_at slot_for
  own-slot h =
      let a : f < F.fields + 3 = omega arith in
      let p : f ≡ password_field F → ⊥ = λ e. omega arith in
      let q : f ≡ line_field F → ⊥ = λ e. omega arith in
      rw (lt-ltb f (F.fields + 3) a, ne_eqb f (password_field F) p, ne_eqb f (line_field F) q)

  pub password-slot : f - F.fields ≡ 1 → head_slot F 0 ≡ slot_at F k f
  unfolding slot_at slot_for
  password-slot h =
      let a : f < F.fields + 3 = omega arith in
      let p : f ≡ password_field F = omega arith in
      rw (lt-ltb f (F.fields + 3) a, eq-eqb f (password_field F) p)

  pub line-slot : f - F.fields ≡ 2 → head_slot F k ≡ slot_at F k f
  unfolding slot_at slot_for
  line-slot h =
      let a : f < F.fields + 3 = omega arith in
      let p : f ≡ password_field F → ⊥ = λ e. omega arith in
      let q : f ≡ line_field F = omega arith in
      rw (lt-ltb f (F.fields + 3) a, ne_eqb f (password_field F) p, eq-eqb f (line_field F) q)

  pub same-slot : f < F.fields + 3 → slot_for F k f ≡ slot_at F k f
  unfolding slot_at
  same-slot h = rw (lt-ltb f (F.fields + 3) h)

  pub no-slot : F.fields + 3 ≤ f → 0 ≡ slot_at F k f
  unfolding slot_at
  no-slot h = rw (le-ltb f (F.fields + 3) h)
