-- All fields of a message, and what stands in it between the places of each: what format's specs/Outline and proofs/Outline say.
-- Assumes nothing.
use Prim.Native.Nat.{ℕ, ◌+◌}
use mathlib.Core.Path.{◌≡◌, refl}
use mathlib.Core.List.{List}
use Rattle.format.specs.Format.{Format}
use Rattle.format.specs.Outline.{starts_in, ends_in}
use Rattle.format.proofs.Laws.{Layout, Laws}
use Rattle.format.proofs.Field.{Fields}
use Rattle.format.proofs.Outline.{Outlined, stands-in}
use Rattle.outline.specs.Outline.{outline_of, Standing}

pub stands : (F : Format) (k : ℕ) → Layout F → Laws F → Fields F → Outlined F k → Standing F k
stands = stands-in

-- as many as the type has, from 0 on, with the header's two lines, are all of them
pub all-fields : (F : Format) (k : ℕ) (m : List ℕ) → let o = outline_of F k (F.fields + 3) m in (o.starts ≡ starts_in F k m) × (o.ends ≡ ends_in F k m)
unfolding outline_of starts_in ends_in
all-fields F k m = (refl, refl)
