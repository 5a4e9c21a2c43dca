-- What callers cite of bytes that can be printed: a text of bytes from 20 to 7E hex holds no line ending, and the bytes of every class but
-- the zero byte's are such bytes.
-- Assumes nothing.
use Prim.Native.Nat.{ℕ, ◌≤◌}
use mathlib.Core.Path.{◌≡◌, refl, sym}
use mathlib.Core.Bool.{Bool, true, ◌&&◌, true≢false}
use mathlib.Core.List.{List, [], ◌∷◌, ◌++◌}
use native.Mathlib.Omega.{arith}
use lib.Dec.{leb}
use borrow.Author.Tests.{leb-true, le-leb, eqb-true}
use Rattle.text.specs.Classes.{is_between, is_digit, is_upper, is_c, is_hyphened, is_printed, in_class, all_in, printed_class}
unfoldable pub use Rattle.text.specs.Classes.{printed, all_printed}
use Rattle.text.specs.declared.Class.{Class}
use Rattle.text.specs.declared.Class.TheVariants.{C, Digit, Upper, Hyphened, Printed, Zero}
use Rattle.text.proofs.Bools.{or_case}
use Rattle.text.proofs.Laws.{and_left, and_right, and_both}

pub printed-append : (s t : List ℕ) → printed s ≡ true → printed t ≡ true → printed (s ++ t) ≡ true
unfolding printed
printed-append [] t p q = q
printed-append (b ∷ s) t p q = and_both (and_left (is_printed b) (printed s) p) (printed-append s t (and_right (is_printed b) _ p) q)

pub between : (low high b : ℕ) → 32 ≤ low → high ≤ 126 → is_between low high b ≡ true → is_printed b ≡ true
unfolding is_between
between low high b l h e =
    let p : low ≤ b = leb-true low b (and_left _ _ e) in
    let q : b ≤ high = leb-true b high (and_right (leb low b) _ e) in
    and_both (le-leb 32 b (omega arith)) (le-leb b 126 (omega arith))

-- c and the hyphen are such bytes
pub byte-printed : (b : ℕ) → is_c b ≡ true → is_printed b ≡ true
unfolding is_c is_upper is_digit
byte-printed b e = or_case (is_between 65 90 b) _ e (between 65 90 b (omega arith) (omega arith)) (between 48 57 b (omega arith) (omega arith))

hyphened-printed : (b : ℕ) → is_hyphened b ≡ true → is_printed b ≡ true
unfolding is_hyphened is_between
hyphened-printed b e = or_case (is_c b) _ e (byte-printed b) (λ h. rw (eqb-true b 45 h))

class-printed : (k : Class) (b : ℕ) → printed_class k ≡ true → in_class k b ≡ true → is_printed b ≡ true
unfolding printed_class in_class is_digit is_upper
class-printed C b p e = byte-printed b e
class-printed Digit b p e = between 48 57 b (omega arith) (omega arith) e
class-printed Upper b p e = between 65 90 b (omega arith) (omega arith) e
class-printed Hyphened b p e = hyphened-printed b e
class-printed Printed b p e = e
class-printed Zero b p e = absurd (true≢false (sym p))

pub all-printed : (k : Class) (s : List ℕ) → printed_class k ≡ true → all_in k s ≡ true → printed s ≡ true
unfolding printed all_in
all-printed k [] p e = refl
all-printed k (b ∷ s) p e = and_both (class-printed k b p (and_left _ _ e)) (all-printed k s p (and_right (in_class k b) _ e))

pub digits-printed : (s : List ℕ) → all_in Digit s ≡ true → printed s ≡ true
unfolding printed_class
digits-printed s = all-printed Digit s refl

pub codes-printed : (s : List ℕ) → all_in C s ≡ true → printed s ≡ true
unfolding printed_class
codes-printed s = all-printed C s refl

-- a text of such bytes is one of the class of that name
pub printed-is : (s : List ℕ) → printed s ≡ all_in Printed s
unfolding printed all_in in_class
printed-is [] = refl
printed-is (b ∷ s) = rw (printed-is s)
