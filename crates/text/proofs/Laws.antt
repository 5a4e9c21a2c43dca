-- What callers cite: a run of parts put one behind the other is their join put once; a text in form and its contents tell
-- each other; equality of bytes is equality.
-- Assumes nothing.
use Prim.Native.Nat.{ℕ, zero, suc, ◌+◌, ◌-◌, ◌*◌, ◌≤◌, ◌<◌}
use mathlib.Core.Path.{◌≡◌, refl, sym, ap, ◌∙◌}
use mathlib.Core.Bool.{Bool, true, false, ◌&&◌, cond, and_assoc, and-true, true≢false}
use mathlib.Core.List.{List, [], ◌∷◌, ◌++◌, append_assoc, append-nil}
use native.Mathlib.Nat.{zero-mul, suc-mul, add_comm, add-zero, add_assoc, add-suc, zero-add, sub-zero, zero-sub, suc-sub-suc, not-suc-le-zero, le_of_suc-le-suc}
use native.Mathlib.Numerals.{add-one}
use native.Mathlib.Omega.{arith}
use lib.Dec.{leb, eqb}
use lib.ListN.{length, take, drop, set, replicate, length-append, length-take, length-drop, length-replicate, take-append-drop}
use lib.Seq.{take_at, drop_at, drop-drop, length-take-le, take_all, drop-length, take-set-le, set_split}
use borrow.Author.Tests.{le-leb, leb-true, eq-eqb, ne_eqb, eqb-true}
use Rattle.text.specs.Bytes.{begins, same, before, parts}
use Rattle.text.specs.Classes.{in_class, all_in}
use Rattle.text.specs.Copy.{over, fits, placed, after}
use Rattle.text.specs.Texts.{padded, fills, contents, text_of, in_form_of, in_form}
use Rattle.text.specs.declared.Class.{Class}
use Rattle.text.specs.declared.Class.TheVariants.{C, Zero}
use Rattle.text.specs.Texts.{Text, padded_of}
use Rattle.text.specs.declared.Padded.{Padded}

-- ---- tests that are joined

pub and_left : (a b : Bool) → (a && b) ≡ true → a ≡ true
and_left true b e = refl
and_left false b e = e

pub and_right : (a b : Bool) → (a && b) ≡ true → b ≡ true
and_right true b e = e
and_right false b e = let z : ◌≡◌ {A = ℕ} 0 1 = cc in absurd (omega arith)

pub and_both : {a b : Bool} → a ≡ true → b ≡ true → (a && b) ≡ true
and_both p q = rw (p, q)

-- ---- parts

pub no_bytes : (s : List ℕ) → length s ≡ 0 → s ≡ []
no_bytes [] e = refl
no_bytes (b ∷ s) e = let z : ⊥ = omega arith in absurd z

-- a part that runs to the end of n bytes is what is left of them
pub rest_of : (k n : ℕ) (l : List ℕ) → length l ≡ n → take (n - k) (drop k l) ≡ drop k l
rest_of k n l e = take_all (n - k) (drop k l) (rw (length-drop, e) (omega arith))

pub drop-replicate : (k n a : ℕ) → drop k (replicate {A = ℕ} n a) ≡ replicate {A = ℕ} (n - k) a
drop-replicate zero n a = rw sub-zero
drop-replicate (suc k) zero a = rw zero-sub
drop-replicate (suc k) (suc n) a = drop-replicate k n a ∙ rw suc-sub-suc

-- the parts from the i-th on: that part, and those behind it
pub parts_from : (width n i : ℕ) (s : List ℕ) → i < n → drop i (parts width n s) ≡ take width (drop (i * width) s) ∷ drop (i + 1) (parts width n s)
unfolding parts
parts_from width zero i s h = absurd (not-suc-le-zero h)
parts_from width (suc n) zero s h = rw zero-mul
parts_from width (suc n) (suc i) s h =
    parts_from width n i (drop width s) (le_of_suc-le-suc h)
    ∙ rw (drop-drop (i * width) width s, suc-mul i width, add_comm (i * width) width, add-one, add-one)

pub length-parts : (width n : ℕ) (s : List ℕ) → length (parts width n s) ≡ n
unfolding parts
length-parts width zero s = refl
length-parts width (suc n) s = ap suc (length-parts width n (drop width s))

-- ---- equality of bytes

pub same_refl : (s : List ℕ) → same s s ≡ true
unfolding same
same_refl [] = refl
same_refl (b ∷ s) = and_both (eq-eqb b b refl) (same_refl s)

pub same-eq : (key part : List ℕ) → same key part ≡ true → key ≡ part
unfolding same
same-eq [] [] e = refl
same-eq [] (b ∷ part) e = let z : ◌≡◌ {A = ℕ} 0 1 = cc in absurd (omega arith)
same-eq (k ∷ key) [] e = let z : ◌≡◌ {A = ℕ} 0 1 = cc in absurd (omega arith)
same-eq (k ∷ key) (b ∷ part) e =
    let h : b ≡ k = eqb-true b k (and_left _ _ e) in
    let t : key ≡ part = same-eq key part (and_right (eqb b k) _ e) in
    rw (h, t)

-- a part that begins with a key is the key and the rest
pub begins-is : (key part : List ℕ) → begins key part ≡ true → part ≡ key ++ drop (length key) part
unfolding begins
begins-is [] part e = refl
begins-is (k ∷ key) [] e = let z : ◌≡◌ {A = ℕ} 0 1 = cc in absurd (omega arith)
begins-is (k ∷ key) (b ∷ part) e =
    let h : b ≡ k = eqb-true b k (and_left _ _ e) in
    let t : part ≡ key ++ drop (length key) part = begins-is key part (and_right (eqb b k) _ e) in
    rw h (ap (λ (l : List ℕ). k ∷ l) t)

pub begins-length : (key part : List ℕ) → begins key part ≡ true → length key ≤ length part
begins-length key part e = let l = ap length (begins-is key part e) ∙ length-append key _ in omega arith

pub begins-append : (key rest : List ℕ) → begins key (key ++ rest) ≡ true
unfolding begins
begins-append [] rest = refl
begins-append (k ∷ key) rest = and_both (eq-eqb k k refl) (begins-append key rest)

-- ---- what stands before the first byte of a kind

-- it is what the part begins with
pub before-front : (b : ℕ) (s : List ℕ) → take (length (before b s)) s ≡ before b s
unfolding before
before-front b [] = refl
before-front b (x ∷ s) = go (before-front b s) (eqb x b)
  where
    go : take (length (before b s)) s ≡ before b s → (t : Bool) → take (length (cond t [] (x ∷ before b s))) (x ∷ s) ≡ cond t [] (x ∷ before b s)
    go ih true = refl
    go ih false = ap (λ (l : List ℕ). x ∷ l) ih

pub before-rest : (b : ℕ) (s : List ℕ) → s ≡ before b s ++ drop (length (before b s)) s
before-rest b s = sym (take-append-drop (length (before b s)) s) ∙ rw before-front

-- where it is not all of the part, that byte and the rest stand behind it
pub before_split : (b : ℕ) (s : List ℕ) → length (before b s) < length s → s ≡ before b s ++ b ∷ drop (suc (length (before b s))) s
unfolding before
before_split b [] h = absurd (not-suc-le-zero h)
before_split b (x ∷ s) h = go (before_split b s) (eqb x b) refl h
  where
    go : (length (before b s) < length s → s ≡ before b s ++ b ∷ drop (suc (length (before b s))) s) → (t : Bool) → eqb x b ≡ t
        → length (cond t [] (x ∷ before b s)) < suc (length s)
        → x ∷ s ≡ cond t [] (x ∷ before b s) ++ b ∷ drop (length (cond t [] (x ∷ before b s))) s
    go ih true e h = rw (eqb-true x b e)
    go ih false e h = ap (λ (l : List ℕ). x ∷ l) (ih (le_of_suc-le-suc h))

-- a part that does not hold the byte is all that stands before it, alone or with the byte behind it
pub before-all : (k : Class) (b : ℕ) → (in_class k b ≡ false) → (s : List ℕ) → all_in k s ≡ true → before b s ≡ s
unfolding before all_in
before-all k b n [] e = refl
before-all k b n (x ∷ s) e =
    let other : x ≡ b → ⊥ = λ h. true≢false (sym (and_left _ _ e) ∙ ap (in_class k) h ∙ n) in
    rw (ne_eqb x b other, before-all k b n s (and_right (in_class k x) _ e))

pub before_of : (k : Class) (b : ℕ) → (in_class k b ≡ false) → (s t : List ℕ) → all_in k s ≡ true → before b (s ++ b ∷ t) ≡ s
unfolding before all_in
before_of k b n [] t e = rw (eq-eqb b b refl)
before_of k b n (x ∷ s) t e =
    let other : x ≡ b → ⊥ = λ h. true≢false (sym (and_left _ _ e) ∙ ap (in_class k) h ∙ n) in
    rw (ne_eqb x b other, before_of k b n s t (and_right (in_class k x) _ e))

pub before-length : (b : ℕ) (s : List ℕ) → length (before b s) ≤ length s
before-length b s = let e = ap length (before-front b s) in let l = length-take (length (before b s)) s in omega arith

-- ---- bytes of a class

pub all_append : (k : Class) (s t : List ℕ) → all_in k (s ++ t) ≡ (all_in k s && all_in k t)
unfolding all_in
all_append k [] t = refl
all_append k (b ∷ s) t = rw (all_append k s t) (sym (and_assoc (in_class k b) (all_in k s) (all_in k t)))

-- ---- a run of parts put one behind the other

module _ (buf : List ℕ) (at : ℕ) (s : List ℕ) where
  pub length_over : at + length s ≤ length buf → length (over buf at s) ≡ length buf
  unfolding over
  length_over h = simp (length-append, length-take, length-drop) (omega arith)

  pub over-over : (t : List ℕ) → at + length (s ++ t) ≤ length buf → over (over buf at s) (at + length s) t ≡ over buf at (s ++ t)
  unfolding over
  over-over t h =
      let n : ℕ = at + length s in
      let p : List ℕ = take at buf ++ s in
      let q : List ℕ = drop n buf in
      let room : at + (length s + length t) ≤ length buf = rw length-append at h in
      let lp : length p ≡ n = simp (length-append, length-take) (omega arith) in
      let whole : take at buf ++ (s ++ q) ≡ p ++ q = sym (append_assoc (take at buf) s q) in
      let rest : drop (n + length t) (p ++ q) ≡ drop (n + length t) buf =
      sym (drop-drop (length t) n (p ++ q)) ∙ ap (drop (length t)) (drop_at p q n lp) ∙ drop-drop (length t) n buf
      in rw (whole, take_at p q n lp, rest) (simp (append_assoc, length-append, add_assoc))

pub over-nil : (buf : List ℕ) (at : ℕ) → over buf at [] ≡ buf
unfolding over
over-nil buf at = rw (add-zero, take-append-drop)

-- putting no bytes changes neither buffer nor place
pub put-none : (buf : List ℕ) (at : ℕ) → (at ≡ after buf at []) × (buf ≡ placed buf at [])
unfolding after placed
put-none buf at = on (fits buf at [])
  where
    on : (b : Bool) → (at ≡ cond b (at + 0) at) × (buf ≡ cond b (over buf at []) buf)
    on true = (sym (add-zero at), sym (over-nil buf at))
    on false = (refl, refl)

-- one byte more behind what is put
pub over-set : (buf : List ℕ) (at : ℕ) (s : List ℕ) (x : ℕ) → at + length s < length buf → over (set buf (at + length s) x) at s ≡ over buf at (s ++ (x ∷ []))
unfolding over
over-set buf at s x h =
    let i : ℕ = at + length s in
    let e : take at (set buf i x) ≡ take at buf = take-set-le at buf i x (omega arith) in
    let f : drop i (set buf i x) ≡ x ∷ drop (suc i) buf = rw (set_split buf i x h) (drop_at (take i buf) (x ∷ drop (suc i) buf) i (length-take-le i buf (omega arith))) in
    rw (e, f) (simp (append_assoc, length-append, add-one, add-suc))

-- what is put in two steps is put in one, where there is room for both
module _ (buf : List ℕ) (at : ℕ) (s t : List ℕ) (room : fits buf at (s ++ t) ≡ true) where
  room-is : at + (length s + length t) ≤ length buf
  unfolding fits
  room-is = let r : at + length (s ++ t) ≤ length buf = leb-true _ _ room in rw length-append at r

  first_fits : fits buf at s ≡ true
  unfolding fits
  first_fits = let r = room-is in le-leb (at + length s) (length buf) (omega arith)

  second_fits : fits (over buf at s) (at + length s) t ≡ true
  unfolding fits
  second_fits = let r = room-is in rw (length_over buf at s (omega arith)) (le-leb (at + length s + length t) (length buf) (omega arith))

  pub run-placed : placed (placed buf at s) (after buf at s) t ≡ placed buf at (s ++ t)
  unfolding placed after
  run-placed = let r = room-is in rw (first_fits, second_fits, room) (over-over buf at s t (rw length-append (omega arith)))

  pub run-after : after (placed buf at s) (after buf at s) t ≡ after buf at (s ++ t)
  unfolding placed after
  run-after = rw (first_fits, second_fits, room, length-append) (add_assoc at (length s) (length t))

pub length-placed : (buf : List ℕ) (at : ℕ) (s : List ℕ) → length (placed buf at s) ≡ length buf
unfolding placed fits
length-placed buf at s = go (fits buf at s) refl
  where
    go : (b : Bool) → fits buf at s ≡ b → length (cond b (over buf at s) buf) ≡ length buf
    go true e = length_over buf at s (leb-true _ _ e)
    go false e = refl

-- from a place within the buffer, the place behind what is put lies within it too
pub after-within : (buf : List ℕ) (at : ℕ) (s : List ℕ) → at ≤ length buf → after buf at s ≤ length buf
unfolding after fits
after-within buf at s h = go (fits buf at s) refl
  where
    go : (b : Bool) → fits buf at s ≡ b → cond b (at + length s) at ≤ length buf
    go true e = leb-true _ _ e
    go false e = h

-- a part as long as the buffer takes its place
pub placed-all : (buf s : List ℕ) → length s ≡ length buf → placed buf 0 s ≡ s
unfolding placed fits over
placed-all buf s e = rw (zero-add, le-leb (length s) (length buf) (omega arith), e, drop-length buf) (append-nil s)

-- ---- a part in a room of so many bytes, with zero bytes behind it

-- zero bytes are told by their number
zeros : (s : List ℕ) → all_in Zero s ≡ true → s ≡ replicate {A = ℕ} (length s) 0
unfolding all_in in_class
zeros [] e = refl
zeros (b ∷ s) e = rw (eqb-true b 0 (and_left _ _ e)) (ap (λ (l : List ℕ). 0 ∷ l) (zeros s (and_right (eqb b 0) _ e)))

all-zeros : (n : ℕ) → all_in Zero (replicate {A = ℕ} n 0) ≡ true
unfolding all_in in_class
all-zeros zero = refl
all-zeros (suc n) = all-zeros n

module _ (room : ℕ) (s : List ℕ) (short : length s ≤ room) where
  pub length-padded : length (padded room s) ≡ room
  length-padded = simp (length-append, length-replicate) (omega arith)

  -- it fills the room exactly when it has the width and is good
  pub fills_of : (good : Bool) (least most : ℕ) → fills good room least most (padded room s) (length s) ≡ (leb least (length s) && (leb (length s) most && good))
  fills_of good least most =
      rw (
        eq-eqb _ _ length-padded,
        le-leb (length s) room short,
        drop_at s (replicate {A = ℕ} (room - length s) 0) (length s) refl,
        all-zeros (room - length s),
        and-true good,
      )

module _ (good : Bool) (room least most : ℕ) (bytes : List ℕ) (len : ℕ) (full : fills good room least most bytes len ≡ true) where
  pub fills-facts : (length bytes ≡ room) × (len ≤ room) × (least ≤ len) × (len ≤ most) × (good ≡ true) × (all_in Zero (drop len bytes) ≡ true)
  fills-facts =
      let r1 = and_right (eqb (length bytes) room) _ full in
      let r2 = and_right (leb len room) _ r1 in
      let r3 = and_right (leb least len) _ r2 in
      let r4 = and_right (leb len most) _ r3 in
      (eqb-true _ _ (and_left _ _ full), leb-true _ _ (and_left _ _ r1), leb-true _ _ (and_left _ _ r2), leb-true _ _ (and_left _ _ r3), and_left _ _ r4, and_right good _ r4)

  pub length_front : length (take len bytes) ≡ len
  length_front = let f = fills-facts in length-take-le _ _ (omega arith)

  -- what fills the room is its front in that room
  pub padded-back : padded room (take len bytes) ≡ bytes
  padded-back =
      let f = fills-facts in
      let zs : drop len bytes ≡ replicate {A = ℕ} (room - len) 0 =
      zeros _ f.5 ∙ ap (λ (n : ℕ). replicate {A = ℕ} n 0) (length-drop len bytes ∙ ap (λ (n : ℕ). n - len) f.0)
      in rw (length_front, ← zs, take-append-drop len bytes)

-- ---- a part in its room, and what it stands for

module _ (room : ℕ) (s : List ℕ) (short : length s ≤ room) where
  padded-is : padded_of room s ≡ record { bytes = padded room s; len = length s }
  unfolding padded_of
  padded-is = rw (le-leb (length s) room short)

  pub padded-contents : contents (padded_of room s) ≡ s
  unfolding contents
  padded-contents = rw padded-is (take_at s _ (length s) refl)

  -- it is in form exactly when it has the width and is of the class
  pub padded-form : (class : Class) (least most : ℕ) → in_form_of class least most (padded_of room s) ≡ (leb least (length s) && (leb (length s) most && all_in class s))
  unfolding in_form_of
  padded-form class least most = rw (padded-contents, padded-is) (fills_of room s short (all_in class s) least most)

module _ {room : ℕ} (class : Class) (least most : ℕ) (t : Padded room) (good : in_form_of class least most t ≡ true) where
  pub form-facts : (length t.bytes ≡ room) × (t.len ≤ room) × (least ≤ t.len) × (t.len ≤ most) × (all_in class (contents t) ≡ true) × (all_in Zero (drop t.len t.bytes) ≡ true)
  unfolding in_form_of
  form-facts = fills-facts (all_in class (contents t)) room least most t.bytes t.len good

  pub form-length : length (contents t) ≡ t.len
  unfolding in_form_of contents
  form-length = length_front (all_in class (contents t)) room least most t.bytes t.len good

  -- one in form is what its contents are in that room
  pub form-back : padded_of room (contents t) ≡ t
  unfolding in_form_of contents
  form-back =
      let f = form-facts in
      let n = form-length in
      padded-is room (contents t) (omega arith) ∙ rw (padded-back (all_in class (contents t)) room least most t.bytes t.len good, n)

-- ---- texts and their contents

module _ (s : List ℕ) (short : length s ≤ 20) where
  pub text-is : text_of s ≡ record { bytes = padded 20 s; len = length s }
  text-is = padded-is 20 s short

  pub contents-of : contents (text_of s) ≡ s
  contents-of = padded-contents 20 s short

  -- a part is a text in form exactly when it has the width and is of the class
  pub form_of : (class : Class) (least most : ℕ) → in_form_of class least most (text_of s) ≡ (leb least (length s) && (leb (length s) most && all_in class s))
  form_of = padded-form 20 s short

  pub in-form-of : (least most : ℕ) → in_form least most (text_of s) ≡ (leb least (length s) && (leb (length s) most && all_in C s))
  unfolding in_form in_form_of
  in-form-of least most = form_of C least most

-- of c
module _ (least most : ℕ) (t : Text) (good : in_form least most t ≡ true) where
  form-of-c : in_form_of C least most t ≡ true
  unfolding in_form in_form_of
  form-of-c = good

  pub in-form-facts : (length t.bytes ≡ 20) × (t.len ≤ 20) × (least ≤ t.len) × (t.len ≤ most) × (all_in C (contents t) ≡ true) × (all_in Zero (drop t.len t.bytes) ≡ true)
  in-form-facts = form-facts C least most t form-of-c

  pub length-contents : length (contents t) ≡ t.len
  length-contents = form-length C least most t form-of-c

  pub text-back : text_of (contents t) ≡ t
  text-back = form-back C least most t form-of-c
