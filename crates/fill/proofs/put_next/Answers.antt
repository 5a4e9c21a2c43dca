-- `fill::put_next` meets its contract. Assumes nothing.
use mathlib.Core.Path.{◌≡◌, refl}
use mathlib.Core.Bool.{true, false}
use mathlib.Core.Logic.{inl, inr}
use Rattle.fill.specs.Filling.{Lent, lent, behind_at, parts_at}
use Rattle.fill.specs.Steps.{number, is_held, is_edge}
use Rattle.fill.proofs.Rows.{next-off, next-none}
use Rattle.fill.proofs.put_next.Goals as goal

pub returns-then-here-ne0 : goal.returns-then-here-ne0
returns-then-here-ne0 c =
    let a = c.args in
    let l : Lent = lent a.slots.now a.optional.now a.text.now a.starts.now a.ends.now in
    next-off (behind_at l) (parts_at l) a.rows.now a.row a.here.off a.here.many _ a.buf.now a.here.at c.requires.0
    c.if-here-ne0.true (rw (← c.of-kind.ensures) c.last_many.ensures) _ (rw (← c.of-kind.ensures) c.deeper.ensures)

pub put_held-requires : goal.put_held-requires
put_held-requires c =
    let k : is_held (number c.of-kind.result) ≡ true = elim c.in-Field.is [ inl e ↦ rw e | inr (inl e) ↦ rw e | inr (inr e) ↦ rw e ] in
    (c.requires.0, rw (← c.of-kind.ensures) k)

pub returns-in-Field : goal.returns-in-Field
returns-in-Field c = rw c.if-here-ne0.false c.put_held.ensures

pub put_block-requires : goal.put_block-requires
put_block-requires c =
    let k : (is_held (number c.of-kind.result) ≡ false) × (is_edge (number c.of-kind.result) ≡ true) =
    elim c.in-Opens.is [ inl e ↦ rw e (refl, refl) | inr (inl e) ↦ rw e (refl, refl) | inr (inr (inl e)) ↦ rw e (refl, refl) | inr (inr (inr e)) ↦ rw e (refl, refl) ]
    in
    (c.requires.0, rw (← c.of-kind.ensures) k.0, rw (← c.of-kind.ensures) k.1)

pub returns-in-Opens : goal.returns-in-Opens
returns-in-Opens c = rw c.if-here-ne0.false c.put_block.ensures

pub returns-in-Many : goal.returns-in-Many
returns-in-Many c =
    let a = c.args in
    let l : Lent = lent a.slots.now a.optional.now a.text.now a.starts.now a.ends.now in
    let k : (is_held (number c.of-kind.result) ≡ false) × (is_edge (number c.of-kind.result) ≡ false) =
    elim c.in-Many.is [
      | inl e ↦ rw e (refl, refl)
      | inr (inl e) ↦ rw e (refl, refl)
      | inr (inr (inl e)) ↦ rw e (refl, refl)
      | inr (inr (inr (inl e))) ↦ rw e (refl, refl)
      | inr (inr (inr (inr e))) ↦ rw e (refl, refl)
    ]
    in
    rw c.if-here-ne0.false
    (next-none (behind_at l) (parts_at l) a.rows.now a.row a.here.many a.buf.now a.here.at c.requires.0
    (rw (← c.of-kind.ensures) k.0) (rw (← c.of-kind.ensures) k.1) _ (rw (← c.of-kind.ensures) c.last_many-in-Many.ensures))
