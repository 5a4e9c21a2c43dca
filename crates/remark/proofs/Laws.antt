-- What callers cite: a remark in form and its contents tell each other, and a part that can be printed and the remark that holds it.
-- Assumes nothing.
use Prim.Native.Nat.{ℕ, ◌≤◌}
use mathlib.Core.Path.{◌≡◌, ◌∙◌}
use mathlib.Core.Bool.{true}
use mathlib.Core.List.{List}
use native.Mathlib.Omega.{arith}
use lib.Dec.{leb}
use lib.ListN.{length, drop, length-take}
use borrow.Author.Tests.{le-leb, leb-true}
use Rattle.text.specs.Classes.{all_in, is_all}
use Rattle.text.specs.declared.Class.TheVariants.{Printed, Zero}
use Rattle.text.proofs.Laws.{and_left, and_right, padded-contents, padded-form, form-facts, form-length, form-back}
use Rattle.remark.specs.Remarks.{contents, remark_of, in_form}
use Rattle.remark.specs.Remarks.{Remark}

module _ (s : List ℕ) (short : length s ≤ 35) where
  pub contents-of : contents (remark_of s) ≡ s
  contents-of = padded-contents 35 s short

  -- a part is a remark in form exactly when it has the width and can be printed
  pub in-form-of : (least most : ℕ) → in_form least most (remark_of s) ≡ is_all Printed least most s
  in-form-of = padded-form 35 s short Printed

module _ (least most : ℕ) (r : Remark) (good : in_form least most r ≡ true) where
  pub in-form-facts : (length r.bytes ≡ 35) × (r.len ≤ 35) × (least ≤ r.len) × (r.len ≤ most) × (all_in Printed (contents r) ≡ true) × (all_in Zero (drop r.len r.bytes) ≡ true)
  in-form-facts = form-facts Printed least most r good

  pub length-contents : length (contents r) ≡ r.len
  length-contents = form-length Printed least most r good

  -- a remark in form is the remark of its contents
  pub remark-back : remark_of (contents r) ≡ r
  remark-back = form-back Printed least most r good

  -- and these have the width and can be printed
  pub remark-printed : is_all Printed least most (contents r) ≡ true
  remark-printed = let f = in-form-facts in rw (length-contents, le-leb _ _ f.2, le-leb _ _ f.3, f.4)

-- a part that has the width and can be printed is held as a remark in form, and that is written as the part
pub remark-held : (least most : ℕ) (v : List ℕ) → most ≤ 35 → is_all Printed least most v ≡ true
    → (in_form least most (remark_of v) ≡ true) × (contents (remark_of v) ≡ v)
remark-held least most v h e =
    let n : length v ≤ most = leb-true (length v) most (and_left _ _ (and_right (leb least (length v)) _ e)) in
    let short : length v ≤ 35 = omega arith in
    (in-form-of v short least most ∙ e, contents-of v short)

-- a remark has no more bytes than its room
pub contents-short : (r : Remark) → length r.bytes ≡ 35 → length (contents r) ≤ 35
unfolding contents
contents-short r e = let l = length-take r.len r.bytes in omega arith
