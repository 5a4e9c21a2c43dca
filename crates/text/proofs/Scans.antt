-- The mathematics of the crate's functions, over plain lists and numbers: what each turn of a scan says of the test of the
-- whole part, and what a run of stores leaves in a buffer.
-- Assumes nothing.
use Prim.Native.Nat.{ℕ, suc, ◌+◌, ◌≤◌, ◌<◌}
use mathlib.Core.Path.{◌≡◌, refl, sym, ap, ◌∙◌}
use mathlib.Core.Bool.{Bool, cond, true, false, ◌&&◌, and-false, and-true, and_assoc}
use mathlib.Core.List.{List, [], ◌∷◌, append_assoc}
use native.Mathlib.Numerals.{add-one}
use native.Mathlib.Nat.{zero-add, not-suc-le-zero, le_of_suc-le-suc}
use native.Mathlib.Omega.{arith}
use lib.Dec.{eqb}
use lib.ListN.{length, drop, get_or, set, replicate, length-replicate, drop_of_length-le}
use lib.Seq.{drop-cons, paste, paste-suc, take-length}
use Rattle.std.specs.List.{position_or_len, position, list_all, zip}
use Rattle.std.specs.Prelude.{Option, Some, None, nat_lt}
use Rattle.std.specs.Option.{unwrap_or}
use Rattle.std.proofs.lemmas.List.Recursion.{is_position_or_len}
use Rattle.std.proofs.lemmas.List.Sums.{prefix_len-le-length}
use Rattle.std.proofs.lemmas.Bool.Decides.{nat_tests}
use borrow.Author.Tests.{le-leb, lt-leb}
use Rattle.text.proofs.Laws.{drop-replicate}
use Rattle.text.specs.Bytes.{begins, same, before}
use Rattle.text.specs.Classes.{in_class, all_in}
use Rattle.text.specs.Copy.{over, fits, placed, after}
use Rattle.text.specs.Texts.{padded, none, padded_of}
use Rattle.text.specs.declared.Padded.{Padded}
use Rattle.text.specs.declared.Class.{Class}

-- ---- every byte of a class: what was seen up to a place, and what is left

module _ (k : Class) (s : List ℕ) (g : Bool) (i : ℕ) (inv : (g && all_in k (drop i s)) ≡ all_in k s) where
  pub all_more : i < length s → (g && in_class k (get_or s i 0) && all_in k (drop (i + 1) s)) ≡ all_in k s
  unfolding all_in
  all_more h = and_assoc g (in_class k (get_or s i 0)) (all_in k (drop (i + 1) s)) ∙ sym (sym inv ∙ rw (add-one, drop-cons s i 0 h))

  pub all_done : length s ≤ i → g ≡ all_in k s
  unfolding all_in
  all_done h = sym (sym inv ∙ rw (drop_of_length-le s h, and-true g))

-- ---- a part against a key, from a place on

pub begins_short : (key part : List ℕ) → length part < length key → false ≡ begins key part
unfolding begins
begins_short [] part h = absurd (not-suc-le-zero h)
begins_short (k ∷ key) [] h = refl
begins_short (k ∷ key) (b ∷ part) h = sym (rw (← begins_short key part (le_of_suc-le-suc h)) (and-false (eqb b k)))

pub same_long : (key part : List ℕ) → length part ≡ length key → begins key part ≡ same key part
unfolding begins same
same_long [] [] e = refl
same_long [] (b ∷ part) e = let z : ⊥ = omega arith in absurd z
same_long (k ∷ key) [] e = refl
same_long (k ∷ key) (b ∷ part) e = ap (λ (t : Bool). eqb b k && t) (same_long key part (omega arith))

pub same_short : (key part : List ℕ) → (length part ≡ length key → ⊥) → false ≡ same key part
unfolding same
same_short [] [] e = absurd (e refl)
same_short [] (b ∷ part) e = refl
same_short (k ∷ key) [] e = refl
same_short (k ∷ key) (b ∷ part) e = sym (rw (← same_short key part (λ h. e (ap suc h))) (and-false (eqb b k)))

-- a key's bytes beside those of a part that is as long at least
pub begins_zip : (key part : List ℕ) → length key ≤ length part → list_all (λ p. eqb p.0 p.1) (zip part key) ≡ begins key part
unfolding begins
begins_zip [] [] h = refl
begins_zip [] (b ∷ part) h = refl
begins_zip (k ∷ key) [] h = absurd (not-suc-le-zero h)
begins_zip (k ∷ key) (b ∷ part) h = ap (λ (t : Bool). eqb b k && t) (begins_zip key part (le_of_suc-le-suc h))

-- ---- the first byte of a kind

-- its place, or the end where there is none
pub place-is : (test : ℕ → Bool) (s : List ℕ) (p : Option ℕ) (r : ℕ) → p ≡ position test s → r ≡ unwrap_or p (length s) → r ≡ position_or_len test s
place-is test s p r e f = f ∙ rw e (go (position_or_len test s) (length s) (prefix_len-le-length _ s))
  where
    go : (n m : ℕ) → n ≤ m → unwrap_or (cond (nat_lt n m) (Some n) None) m ≡ n
    go n m h = grind (arith, nat_tests)

before-position : (byte : ℕ) (s : List ℕ) → length (before byte s) ≡ position_or_len (λ x. eqb x byte) s
unfolding before
before-position byte = is_position_or_len (λ s. length (before byte s)) (λ x. eqb x byte) refl (λ x s. one x (eqb x byte) s)
  where
    one : (x : ℕ) (b : Bool) (s : List ℕ) → length (cond b [] (x ∷ before byte s)) ≡ cond b 0 (1 + length (before byte s))
    one x true s = refl
    one x false s = omega arith

pub find-is : (byte : ℕ) (s : List ℕ) (p : Option ℕ) (r : ℕ) → p ≡ position (λ x. eqb x byte) s → r ≡ unwrap_or p (length s) → r ≡ length (before byte s)
find-is byte s p r e f = place-is (λ x. eqb x byte) s p r e f ∙ sym (before-position byte s)

-- ---- what is put into a buffer

module _ (buf : List ℕ) (at : ℕ) (s : List ℕ) where
  pub put_none : length buf < at + length s → (at ≡ after buf at s) × (buf ≡ placed buf at s)
  unfolding after placed fits
  put_none h = (rw (lt-leb (at + length s) (length buf) h), rw (lt-leb (at + length s) (length buf) h))

  pub put-more : (now : List ℕ) (i : ℕ) → now ≡ paste buf at s i → at + i < length buf → i < length s → set now (at + i) (get_or s i 0) ≡ paste buf at s (i + 1)
  put-more now i e h g = rw (e, add-one) (paste-suc buf at s i 0 h g)

  pub put-done : (now : List ℕ) (i : ℕ) → now ≡ paste buf at s i → at + length s ≤ length buf → i ≡ length s → (at + length s ≡ after buf at s) × (now ≡ placed buf at s)
  unfolding after placed fits over
  put-done now i e h g =
      (rw (le-leb (at + length s) (length buf) h), rw (le-leb (at + length s) (length buf) h, e, g, take-length s, append_assoc))

-- ---- texts

-- a part that is put at the start of so many zero bytes
pub padded-of : (room : ℕ) (s bytes : List ℕ) (len : ℕ) → length s ≤ room → len ≡ after (replicate {A = ℕ} room 0) 0 s → bytes ≡ placed (replicate {A = ℕ} room 0) 0 s
    → (bytes ≡ padded room s) × (len ≡ length s)
unfolding after placed fits over
padded-of room s bytes len h e f =
    let g : 0 + length s ≤ length (replicate {A = ℕ} room 0) = rw (length-replicate {A = ℕ} room 0) (omega arith) in
    let r = le-leb (0 + length s) (length (replicate {A = ℕ} room 0)) g in
    (f ∙ rw (r, zero-add, drop-replicate (length s) room 0), e ∙ rw (r, zero-add))

pub room_of : (room : ℕ) (s bytes : List ℕ) (len : ℕ) → length s ≤ room → len ≡ after (replicate {A = ℕ} room 0) 0 s → bytes ≡ placed (replicate {A = ℕ} room 0) 0 s
    → ◌≡◌ {A = Padded room} (record { bytes = bytes; len = len }) (padded_of room s)
unfolding padded_of
room_of room s bytes len h e f = let p = padded-of room s bytes len h e f in rw (le-leb (length s) room h, p.0, p.1)

pub no_room : (room : ℕ) (s : List ℕ) → room < length s → none room ≡ padded_of room s
unfolding padded_of
no_room room s h = rw (lt-leb (length s) room h)
