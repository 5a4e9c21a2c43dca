-- What a layout has to be for the demands, as tests that compute; and the rule that each of them gives.
-- Assumes nothing.
use Prim.Native.Nat.{ℕ, zero, suc, ◌<◌}
use mathlib.Core.Path.{◌≡◌, refl, sym, ap, ◌∙◌}
use mathlib.Core.Bool.{Bool, true, false, ◌&&◌, ◌||◌, not, cond, true≢false}
use mathlib.Core.List.{List, [], ◌∷◌, ◌++◌, append_assoc, append-nil}
use native.Mathlib.Nat.{not-suc-le-zero}
use native.Mathlib.Omega.{arith}
use lib.Dec.{eqb, leb}
use lib.ListN.{length}
use lib.Seq.{drop-append_seam}
use borrow.Author.Tests.{eqb-true, eqb-false, ne_eqb, not-true}
use Rattle.text.specs.Bytes.{begins, same, before}
use Rattle.text.specs.Classes.{is_c, in_class, all_in, is_code}
use Rattle.text.specs.declared.Class.TheVariants.{C}
use Rattle.text.proofs.Laws.{and_left, and_right, and_both, same-eq, begins-append}
use Rattle.amount.specs.Amounts.{whole, decimals, trimmed, shortened, tidy, is_amount, amount_read, amount_number}
use Rattle.forms.specs.Forms.{Form, nothing, codes, characters, words, amount, date, moment, narrative, pool_narrative, other, Slot, unless, form_number, value_number}
use Rattle.forms.proofs.Laws.{value-begins}
use Rattle.sheets.specs.Trees.{Field, Member, Tree, last, line, block, group, barred}
use Rattle.sheets.specs.Sheets.{has}
use Rattle.sheets.specs.Filled.{some}
use Rattle.text.proofs.Bools.{is_false, of-both, or_case, or-two}
use Rattle.sheets.proofs.Checks.{starts, fits_line, clash}
use Rattle.sheets.proofs.Accepts.{clash-apart}
use Rattle.sheets.proofs.Emits.{has-front}
use Rattle.format.specs.Plain.{tidy_behind, tidy_line}
unfoldable pub use Rattle.format.specs.Format.{every}
unfoldable pub use Rattle.format.specs.Plain.{tidied}

-- ---- a test of each of some slots, and of each of some texts

pub every-at : (p : ℕ → Bool) (ss : List ℕ) (s : ℕ) → every p ss ≡ true → has ss s ≡ true → p s ≡ true
unfolding every has
every-at p [] s h e = absurd (true≢false (sym e))
every-at p (x ∷ ss) s h e = or_case (eqb x s) (has ss s) e (λ q. rw (← (eqb-true x s q)) (and_left (p x) _ h)) (λ q. every-at p ss s (and_right (p x) _ h) q)

pub every_of : (p : ℕ → Bool) (ss : List ℕ) → ((s : ℕ) → has ss s ≡ true → p s ≡ true) → every p ss ≡ true
unfolding every has
every_of p [] h = refl
every_of p (x ∷ ss) h = and_both (h x (has-front x ss)) (every_of p ss (λ s i. h s (or-two (eqb x s) _ i)))

-- a test of all numbers below one
unfoldable pub all_below : ℕ → (ℕ → Bool) → Bool
all_below zero p = true
all_below (suc n) p = p n && all_below n p

pub all-at : (n : ℕ) (p : ℕ → Bool) → all_below n p ≡ true → (i : ℕ) → i < n → p i ≡ true
unfolding all_below
all-at zero p h i l = absurd (not-suc-le-zero l)
all-at (suc n) p h i l =
    of-both (λ (x : Bool). p i ≡ true) (eqb i n) {x = true} {y = true}
    (λ e. rw (eqb-true i n e) (and_left (p n) _ h))
    (λ e. all-at n p (and_right (p n) _ h) i (let d = eqb-false i n e in omega arith))

-- ---- the number of a value

pub number-form : (slot : Slot) (v : List ℕ) → value_number slot (slot.fixed ++ v) ≡ form_number slot.form v
unfolding value_number
number-form slot v = rw (begins-append slot.fixed v, drop-append_seam slot.fixed v)

-- ---- a text that no value of a slot begins with, whatever it is

unfoldable pub is_codes : Form → Bool
is_codes nothing = false
is_codes (codes least most) = true
is_codes (characters class least most) = false
is_codes (words ws) = false
is_codes amount = false
is_codes date = false
is_codes moment = false
is_codes narrative = false
is_codes pool_narrative = false
is_codes other = false

unfoldable pub no_code : List ℕ → Bool
no_code [] = false
no_code (b ∷ z) = not (is_c b)

-- the slot's fixed text and the other part, or the slot has codes alone and the text begins with no c
unfoldable pub foreign : Slot → List ℕ → Bool
foreign slot z =
    not (clash (starts z) (starts slot.fixed))
    || (eqb (length slot.fixed) 0 && (is_codes slot.form && no_code z))

-- a code does not begin with a byte of no code
code-begins : (x : ℕ) (k v : List ℕ) → is_c x ≡ false → all_in C v ≡ true → begins (x ∷ k) v ≡ false
unfolding begins all_in in_class
code-begins x k [] n h = refl
code-begins x k (b ∷ v) n h = on (eqb b x) refl
  where
    on : (y : Bool) → eqb b x ≡ y → (y && begins k v) ≡ false
    on true e = absurd (true≢false (sym (rw (eqb-true b x e) at (and_left (is_c b) _ h)) ∙ n))
    on false e = refl

pub no_length : (v : List ℕ) → eqb (length v) 0 ≡ true → v ≡ []
no_length [] e = refl
no_length (b ∷ v) e = let z = eqb-true (length (b ∷ v)) 0 e in let w : ⊥ = omega arith in absurd w

codes-begin : (form : Form) (z v : List ℕ) → is_codes form ≡ true → no_code z ≡ true → form_number form v ≡ 0 → begins z v ≡ false
unfolding is_codes no_code form_number is_code unless
codes-begin (codes least most) (b ∷ z) v c n h = on (leb least (length v) && (leb (length v) most && all_in C v)) refl h
  where
    on : (t : Bool) → (leb least (length v) && (leb (length v) most && all_in C v)) ≡ t → ◌≡◌ {A = ℕ} (cond t 0 10) 0 → begins (b ∷ z) v ≡ false
    on true e q = code-begins b z v (not-true (is_c b) n) (and_right (leb (length v) most) _ (and_right (leb least (length v)) _ e))
    on false e q = let w : ⊥ = omega arith in absurd w
codes-begin (codes least most) [] v c n h = absurd (true≢false (sym n))
codes-begin nothing z v c n h = absurd (true≢false (sym c))
codes-begin (characters class least most) z v c n h = absurd (true≢false (sym c))
codes-begin (words ws) z v c n h = absurd (true≢false (sym c))
codes-begin amount z v c n h = absurd (true≢false (sym c))
codes-begin date z v c n h = absurd (true≢false (sym c))
codes-begin moment z v c n h = absurd (true≢false (sym c))
codes-begin narrative z v c n h = absurd (true≢false (sym c))
codes-begin pool_narrative z v c n h = absurd (true≢false (sym c))
codes-begin other z v c n h = absurd (true≢false (sym c))

pub never-begins : (slot : Slot) (z l : List ℕ) → foreign slot z ≡ true → value_number slot l ≡ 0 → begins z l ≡ false
unfolding foreign fits_line
never-begins slot z l h e =
    or_case (not (clash (starts z) (starts slot.fixed))) _ h
    (λ c. clash-apart (starts z) (starts slot.fixed) l (not-true _ c) (value-begins slot l e))
    (λ c. let f : slot.fixed ≡ [] = no_length slot.fixed (and_left _ _ c) in
    let k = and_right (eqb (length slot.fixed) 0) _ c in
    codes-begin slot.form z l (and_left _ _ k) (and_right (is_codes slot.form) _ k) (bare-number slot l f e))
  where
    bare-number : (slot : Slot) (l : List ℕ) → slot.fixed ≡ [] → value_number slot l ≡ 0 → form_number slot.form l ≡ 0
    bare-number slot l f e = sym (number-form slot l) ∙ ap (λ (x : List ℕ). value_number slot (x ++ l)) f ∙ e

-- what is a text begins with it
pub same-begins : (z l : List ℕ) → begins z l ≡ false → same z l ≡ false
same-begins z l h = is_false (same z l) (λ e. true≢false (sym (rw (append-nil z) at (begins-append z [])) ∙ ap (begins z) (same-eq z l e) ∙ h))

-- ---- the plain form of a value

unfoldable pub is_amount_form : Form → Bool
is_amount_form nothing = false
is_amount_form (codes least most) = false
is_amount_form (characters class least most) = false
is_amount_form (words ws) = false
is_amount_form amount = true
is_amount_form date = false
is_amount_form moment = false
is_amount_form narrative = false
is_amount_form pool_narrative = false
is_amount_form other = false

-- what is no amount stays as it is
pub tidied-same : (form : Form) (v : List ℕ) → is_amount_form form ≡ false → tidied form v ≡ v
unfolding tidied is_amount_form
tidied-same nothing v h = refl
tidied-same (codes least most) v h = refl
tidied-same (characters class least most) v h = refl
tidied-same (words ws) v h = refl
tidied-same amount v h = absurd (true≢false h)
tidied-same date v h = refl
tidied-same moment v h = refl
tidied-same narrative v h = refl
tidied-same pool_narrative v h = refl
tidied-same other v h = refl

-- a tidied text has its comma
some-behind : (a : List ℕ) (b : ℕ) (v : List ℕ) → some (a ++ b ∷ v) ≡ true
unfolding some
some-behind [] b v = refl
some-behind (x ∷ a) b v = refl

tidy-some : (v : List ℕ) → some (tidy v) ≡ true
unfolding tidy
tidy-some v = some-behind (trimmed (whole v)) 44 (shortened (decimals v))

-- a value stands tidied where it stood
pub tidied-some : (form : Form) (f v : List ℕ) → some (f ++ v) ≡ some (f ++ tidied form v)
unfolding tidied some
tidied-some form (b ∷ f) v = refl
tidied-some nothing [] v = refl
tidied-some (codes least most) [] v = refl
tidied-some (characters class least most) [] v = refl
tidied-some (words ws) [] v = refl
tidied-some amount [] [] = refl
tidied-some amount [] (b ∷ v) = sym (tidy-some (b ∷ v))
tidied-some date [] v = refl
tidied-some moment [] v = refl
tidied-some narrative [] v = refl
tidied-some pool_narrative [] v = refl
tidied-some other [] v = refl

-- what is absent stays so
pub tidied-none : (form : Form) → tidied form [] ≡ []
unfolding tidied some
tidied-none nothing = refl
tidied-none (codes least most) = refl
tidied-none (characters class least most) = refl
tidied-none (words ws) = refl
tidied-none amount = refl
tidied-none date = refl
tidied-none moment = refl
tidied-none narrative = refl
tidied-none pool_narrative = refl
tidied-none other = refl

-- ---- the lines of a layout, tidied: each front is that of one amount, and no other line begins with it

unfoldable pub apart_text : List ℕ → List ℕ → Bool
apart_text t f = not (clash (starts f) (starts t))

-- the line of an amount has one of the fronts, once; any other line has none of them
unfoldable pub once_front : List (List ℕ) → List ℕ → Bool
once_front [] t = false
once_front (f ∷ fs) t = (same f t && every (apart_text t) fs) || (apart_text t f && once_front fs t)

unfoldable pub untouched : List (List ℕ) → List ℕ → Bool
untouched fs l = every (λ f. not (begins f l)) fs

unfoldable pub tidy_row : List (List ℕ) → Slot → List ℕ → Bool
tidy_row fronts slot k =
    untouched fronts k
    && cond (is_amount_form slot.form) (once_front fronts (k ++ slot.fixed)) (every (apart_text (k ++ slot.fixed)) fronts)

module _ (fronts : List (List ℕ)) (slot_of : ℕ → Slot) where
  unfoldable pub tidy_fields : List Field → Bool
  tidy_fields [] = true
  tidy_fields (f ∷ fs) = tidy_row fronts (slot_of f.slot) f.key && tidy_fields fs

  unfoldable pub tidy_members : List Member → Bool
  tidy_members [] = true
  tidy_members (m ∷ ms) = tidy_row fronts (slot_of m.slot) m.key && (tidy_fields m.inside && tidy_members ms)

  unfoldable pub tidy_tree : Tree → Bool
  tidy_tree (last c) = untouched fronts c
  tidy_tree (line f t) = tidy_row fronts (slot_of f.slot) f.key && tidy_tree t
  tidy_tree (block m o t u) = untouched fronts o && (tidy_tree t && tidy_tree u)
  tidy_tree (group n a o c ms t) = untouched fronts o && (untouched fronts c && (tidy_members ms && tidy_tree t))
  tidy_tree (barred b t) = tidy_tree t

-- a line that begins with none of the fronts
pub untouched-line : (fs : List (List ℕ)) (l : List ℕ) → untouched fs l ≡ true → tidy_line fs l ≡ l
unfolding untouched every tidy_line tidy_behind
untouched-line [] l h = refl
untouched-line (f ∷ fs) l h =
    rw (untouched-line fs l (and_right (not (begins f l)) _ h), not-true (begins f l) (and_left (not (begins f l)) (untouched fs l) h))

apart-front : (t f x : List ℕ) → apart_text t f ≡ true → begins f (t ++ x) ≡ false
unfolding apart_text fits_line
apart-front t f x h = clash-apart (starts f) (starts t) (t ++ x) (not-true _ h) (begins-append t x)

none-front : (fs : List (List ℕ)) (t x : List ℕ) → every (apart_text t) fs ≡ true → tidy_line fs (t ++ x) ≡ t ++ x
unfolding every tidy_line tidy_behind
none-front [] t x h = refl
none-front (f ∷ fs) t x h = rw (none-front fs t x (and_right (apart_text t f) _ h), apart-front t f x (and_left _ _ h))

one-front : (fs : List (List ℕ)) (t x : List ℕ) → once_front fs t ≡ true → tidy_line fs (t ++ x) ≡ t ++ tidy x
unfolding once_front tidy_line tidy_behind
one-front [] t x h = absurd (true≢false (sym h))
one-front (f ∷ fs) t x h =
    or_case (same f t && every (apart_text t) fs) _ h
    (λ e. let q : f ≡ t = same-eq f t (and_left _ _ e) in
    rw (none-front fs t x (and_right (same f t) _ e), q, begins-append t x, drop-append_seam t x))
    (λ e. rw (one-front fs t x (and_right (apart_text t f) _ e), apart-front t f (tidy x) (and_left _ _ e)))

-- an amount that gets 0 is not empty
pub amount-some : (v : List ℕ) → amount_number (amount_read v) ≡ 0 → tidy v ≡ tidied amount v
unfolding amount_read is_amount whole before tidied some
amount-some [] h = let z : ⊥ = omega arith in absurd z
amount-some (b ∷ v) h = refl

-- an amount that need not be there is tidied where it is
pub amount-may : (v : List ℕ) → cond (eqb (length v) 0) [] (tidy v) ≡ tidied amount v
unfolding tidied some
amount-may [] = refl
amount-may (b ∷ v) = rw (ne_eqb (length (b ∷ v)) 0 (λ h. let z : ⊥ = omega arith in z))

-- a line of a slot whose value gets 0
pub row-tidied : (fronts : List (List ℕ)) (slot : Slot) (k x : List ℕ) → tidy_row fronts slot k ≡ true → value_number slot (slot.fixed ++ x) ≡ 0
    → tidy_line fronts (k ++ (slot.fixed ++ x)) ≡ k ++ (slot.fixed ++ tidied slot.form x)
unfolding tidy_row is_amount_form tidied form_number
row-tidied fronts slot k x h e = on slot.form (and_right (untouched fronts k) _ h) (sym (number-form slot x) ∙ e)
  where
    t : List ℕ
    t = k ++ slot.fixed

    as_is : every (apart_text t) fronts ≡ true → tidy_line fronts (k ++ (slot.fixed ++ x)) ≡ k ++ (slot.fixed ++ x)
    as_is q = rw (← (append_assoc k slot.fixed x)) (none-front fronts t x q)

    on : (form : Form) → cond (is_amount_form form) (once_front fronts t) (every (apart_text t) fronts) ≡ true → form_number form x ≡ 0
        → tidy_line fronts (k ++ (slot.fixed ++ x)) ≡ k ++ (slot.fixed ++ tidied form x)
    on nothing q n = as_is q
    on (codes least most) q n = as_is q
    on (characters class least most) q n = as_is q
    on (words ws) q n = as_is q
    on amount q n =
        ap (tidy_line fronts) (sym (append_assoc k slot.fixed x)) ∙ one-front fronts t x q
        ∙ append_assoc k slot.fixed (tidy x) ∙ ap (λ (y : List ℕ). k ++ (slot.fixed ++ y)) (amount-some x n)
    on date q n = as_is q
    on moment q n = as_is q
    on narrative q n = as_is q
    on pool_narrative q n = as_is q
    on other q n = as_is q

pub row-bare : (fronts : List (List ℕ)) (slot : Slot) (k : List ℕ) → tidy_row fronts slot k ≡ true → tidy_line fronts (k ++ []) ≡ k ++ []
unfolding tidy_row
row-bare fronts slot k h = rw (append-nil k) (untouched-line fronts k (and_left _ _ h))
