-- What a place and a field of a message are to each other, to the message and to its record: what format's proofs/Field and proofs/Finding
-- say.
-- Assumes nothing.
use Prim.Native.Nat.{ℕ, ◌+◌, ◌-◌, ◌≤◌}
use mathlib.Core.Path.{◌≡◌, refl, ap}
use mathlib.Core.List.{List}
use lib.ListN.{length, take, drop}
use Rattle.search.specs.declared.Span.{Span}
use Rattle.format.specs.Format.{Format}
use Rattle.format.specs.Field.{field_of}
use Rattle.format.specs.Demands.{Demands}
use Rattle.format.proofs.Laws.{Layout, Laws}
use Rattle.format.proofs.Field as Proved
use Rattle.format.proofs.Finding as Found
use Rattle.format.proofs.Finding.{part_in, part-is}
use Rattle.field.specs.Field.{place_of}
use Rattle.field.specs.Finding.{Finding}
use Rattle.field.specs.declared.Stretch.{Stretch}
use Rattle.field.proofs.Steps.{stretch}

module _ (F : Format) (L : Layout F) (W : Laws F) (N : Proved.Fields F) where
  -- the code's answer
  module _ (m : List ℕ) (slot : ℕ) (r : Stretch) (is : r ≡ place_of F m slot) where
    pub stretch-in : r.offset + r.count ≤ length m
    unfolding place_of
    stretch-in = part_in F (Proved.finding F L W N) m slot r.offset r.count (ap (λ (s : Stretch). s.offset) is) (ap (λ (s : Stretch). s.count) is)

    pub stretch-is : take (r.offset + r.count - r.offset) (drop r.offset m) ≡ field_of F m slot
    unfolding place_of
    stretch-is = part-is F (Proved.finding F L W N) m slot r.offset r.count (ap (λ (s : Stretch). s.offset) is) (ap (λ (s : Stretch). s.count) is)

  pub finding : Demands F → Finding F
  unfolding place_of
  finding D =
      let any = Proved.finding F L W N in
      let span : Stretch → Span = λ s. record { offset = s.offset; count = s.count } in
      record {
        is-part = any.is-part;
        any = any;
        none-refused = Found.none-refused F D any stretch span (λ n s. refl);
        none-unnamed = Found.none-unnamed F D any stretch span (λ n s. refl);
        none-absent = Found.none-absent F D any stretch span (λ n s. refl);
      }
