-- An answer of the crate's function, put together: it is what format's proofs/Finding says.
-- Assumes nothing.
use Prim.Native.Nat.{ℕ}
use mathlib.Core.Path.{◌≡◌}
use mathlib.Core.List.{List}
use Rattle.search.specs.declared.Span.{Span}
use Rattle.format.specs.Format.{Format}
use Rattle.format.proofs.Finding.{Found}
use Rattle.field.specs.Field.{place_of}
use Rattle.field.specs.declared.Stretch.{Stretch}

-- a stretch of the number and the place
abbrev pub stretch : ℕ → Span → Stretch
stretch number s = record { number = number; offset = s.offset; count = s.count }

pub whole : (F : Format) (m : List ℕ) (slot : ℕ) {number : ℕ} {s : Span} → Found F m slot number s → stretch number s ≡ place_of F m slot
unfolding place_of
whole F m slot f = rw (f.is_number, f.is-span)
