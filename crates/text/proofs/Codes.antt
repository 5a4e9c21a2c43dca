-- What callers cite of values of so many bytes of a class, of which codes are so many c: what they are, and that a code and the text
-- that holds it tell each other.
-- Assumes nothing.
use Prim.Native.Nat.{ℕ, ◌≤◌}
use mathlib.Core.Path.{◌≡◌, ◌∙◌}
use mathlib.Core.Bool.{true}
use mathlib.Core.List.{List}
use native.Mathlib.Omega.{arith}
use lib.Dec.{leb}
use lib.ListN.{length, length-take}
use borrow.Author.Tests.{leb-true, le-leb}
use Rattle.text.specs.Classes.{all_in, is_all, is_code}
use Rattle.text.specs.Texts.{contents, text_of, in_form}
use Rattle.text.specs.declared.Class.{Class}
use Rattle.text.specs.declared.Class.TheVariants.{C}
use Rattle.text.specs.Texts.{Text}
use Rattle.text.proofs.Laws.{and_left, and_right, contents-of, in-form-of, in-form-facts, length-contents}

module _ (k : Class) (least most : ℕ) (v : List ℕ) (e : is_all k least most v ≡ true) where
  pub all_most : length v ≤ most
  all_most = leb-true (length v) most (and_left _ _ (and_right (leb least (length v)) _ e))

  pub all-class : all_in k v ≡ true
  all-class = and_right (leb (length v) most) _ (and_right (leb least (length v)) _ e)

pub code-most : (least most : ℕ) (v : List ℕ) → is_code least most v ≡ true → length v ≤ most
unfolding is_code
code-most = all_most C

pub code-all : (least most : ℕ) (v : List ℕ) → is_code least most v ≡ true → all_in C v ≡ true
unfolding is_code
code-all = all-class C

-- a code is held as a text in form, and that text is written as the code
pub code-text : (least most : ℕ) (v : List ℕ) → most ≤ 20 → is_code least most v ≡ true → (in_form least most (text_of v) ≡ true) × (contents (text_of v) ≡ v)
unfolding is_code
code-text least most v h e =
    let n : length v ≤ most = code-most least most v e in
    let short : length v ≤ 20 = omega arith in
    (in-form-of v short least most ∙ e, contents-of v short)

pub text-code : (least most : ℕ) (t : Text) → in_form least most t ≡ true → is_code least most (contents t) ≡ true
unfolding is_code
text-code least most t e =
    let f = in-form-facts least most t e in
    rw (length-contents least most t e, le-leb _ _ f.2, le-leb _ _ f.3, f.4)

-- a text has no more bytes than its room
pub contents-short : (t : Text) → length t.bytes ≡ 20 → length (contents t) ≤ 20
unfolding contents
contents-short t e = let l = length-take t.len t.bytes in omega arith
