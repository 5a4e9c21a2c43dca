-- What callers cite: the reason that is left of a narrative, the reason of a record, and that the two tell each other.
-- Assumes nothing.
use Prim.Native.Nat.{ℕ, ◌≤◌}
use mathlib.Core.Path.{◌≡◌, refl, sym, ap, ◌∙◌}
use mathlib.Core.Bool.{Bool, true, false, ◌||◌, cond, or-true}
use mathlib.Core.List.{List, [], ◌++◌, append-nil}
use native.Mathlib.Omega.{arith}
use lib.Dec.{eqb, ltb}
use lib.ListN.{length, drop}
use borrow.Author.Tests.{ltb-true, ltb-false, lt-ltb, eqb-true}
use Rattle.text.specs.Bytes.{bytes, begins, before}
use Rattle.text.specs.Classes.{is_between, in_class, all_in, is_code, printed}
use Rattle.text.specs.Texts.{contents, text_of, in_form, padded_of}
use Rattle.text.specs.declared.Class.{Class}
use Rattle.text.specs.Texts.{Text}
use Rattle.text.proofs.Codes.{code-most, code-all, code-text, text-code, contents-short}
use Rattle.text.proofs.Laws.{no_bytes, begins-is, before-all, before_of, in-form-facts, length-contents, text-back}
use Rattle.text.proofs.Printed.{codes-printed}
use Rattle.reason.specs.Reason.{has_reason, reason_in, good_reason, reason_text, reason_form}

-- ---- what is left of a narrative

-- a reason as it stands, and nothing where there is none
abbrev pub reason_part : List ℕ → List ℕ
reason_part rest = cond (has_reason rest) (bytes "/DKRS" ++ reason_in rest) []

module _ (rest : List ℕ) (good : good_reason rest ≡ true) where
  pub reason-code : has_reason rest ≡ true → is_code 4 4 (reason_in rest) ≡ true
  unfolding good_reason
  reason-code h = rw h at good

  pub reason-is : rest ≡ reason_part rest
  unfolding good_reason has_reason reason_in bytes
  reason-is = go (has_reason rest) refl good
    where
      go : (b : Bool) → has_reason rest ≡ b → cond b (is_code 4 4 (cond b (drop 5 rest) [])) (eqb (length rest) 0) ≡ true
          → rest ≡ cond b (bytes "/DKRS" ++ cond b (drop 5 rest) []) []
      go true h c = begins-is (bytes "/DKRS") rest h
      go false h c = no_bytes rest (eqb-true _ _ c)

  -- at most 9 bytes, all of them printable
  pub reason-width : length (reason_part rest) ≤ 9
  unfolding bytes
  reason-width = go (has_reason rest) refl
    where
      go : (b : Bool) → has_reason rest ≡ b → length (cond b (bytes "/DKRS" ++ reason_in rest) []) ≤ 9
      go true h = let l = code-most 4 4 (reason_in rest) (reason-code h) in omega arith
      go false h = omega arith

  pub reason-printed : printed (reason_part rest) ≡ true
  unfolding printed is_between bytes
  reason-printed = go (has_reason rest) refl
    where
      go : (b : Bool) → has_reason rest ≡ b → printed (cond b (bytes "/DKRS" ++ reason_in rest) []) ≡ true
      go true h = codes-printed (reason_in rest) (code-all 4 4 (reason_in rest) (reason-code h))
      go false h = refl

  -- it begins with no other key
  pub no_other : (key : List ℕ) → begins key [] ≡ false → ((s : List ℕ) → begins key (bytes "/DKRS" ++ s) ≡ false) → begins key rest ≡ false
  no_other key none other = ap (begins key) reason-is ∙ go (has_reason rest)
    where
      go : (b : Bool) → begins key (cond b (bytes "/DKRS" ++ reason_in rest) []) ≡ false
      go true = other (reason_in rest)
      go false = none

  -- and where its slash, or its end, is the first behind a part, that part is all that stands before a slash
  pub before-reason : (k : Class) → in_class k 47 ≡ false → (s : List ℕ) → all_in k s ≡ true → before 47 (s ++ rest) ≡ s
  unfolding bytes
  before-reason k n s e = ap (λ (l : List ℕ). before 47 (s ++ l)) reason-is ∙ go (has_reason rest)
    where
      go : (b : Bool) → before 47 (s ++ cond b (bytes "/DKRS" ++ reason_in rest) []) ≡ s
      go true = before_of k 47 n s _ e
      go false = rw (append-nil s) (before-all k 47 n s e)

-- ---- the reason of a record

-- in form it is absent, and its text is nothing; or it is 4 c behind `/DKRS`
pub record Reason (reason : Text) : Type 0 where
  pub back : text_of (contents reason) ≡ reason
  pub four : ltb 0 reason.len ≡ true → is_code 4 4 (contents reason) ≡ true
  pub none : ltb 0 reason.len ≡ false → contents reason ≡ []

pub reason-formed : (reason : Text) → reason_form reason ≡ true → Reason reason
unfolding reason_form
reason-formed reason e = go (in_form 0 0 reason) refl e
  where
    go : (b : Bool) → in_form 0 0 reason ≡ b → (b || in_form 4 4 reason) ≡ true → Reason reason
    go true t h =
        let f = in-form-facts 0 0 reason t in
        record {
          back = text-back 0 0 reason t;
          four = λ p. let z : ⊥ = omega (arith, ltb-true 0 reason.len p, f.3) in absurd z;
          none = λ p. no_bytes (contents reason) (length-contents 0 0 reason t ∙ let u = f.3 in omega arith);
        }
    go false t h =
        let f = in-form-facts 4 4 reason h in
        record {
          back = text-back 4 4 reason h;
          four = λ p. text-code 4 4 reason h;
          none = λ p. let z : ⊥ = omega (arith, ltb-false 0 reason.len p, f.2) in absurd z;
        }

pub reason-short : (reason : Text) → reason_form reason ≡ true → length (reason_text reason) ≤ 9
unfolding reason_text bytes
reason-short reason f = go (ltb 0 reason.len) refl
  where
    go : (b : Bool) → ltb 0 reason.len ≡ b → length (cond b (bytes "/DKRS" ++ contents reason) []) ≤ 9
    go true p = let h = code-most 4 4 (contents reason) ((reason-formed reason f).four p) in omega arith
    go false p = omega arith

-- in form or not
pub reason-room : (reason : Text) → length reason.bytes ≡ 20 → length (reason_text reason) ≤ 25
unfolding reason_text bytes
reason-room reason e = go (ltb 0 reason.len)
  where
    go : (b : Bool) → length (cond b (bytes "/DKRS" ++ contents reason) []) ≤ 25
    go true = let h = contents-short reason e in omega arith
    go false = omega arith

pub no-reason : (reason : Text) → ltb 0 reason.len ≡ false → reason_text reason ≡ []
unfolding reason_text
no-reason reason e = rw e

-- ---- the two tell each other

-- what is written of a reason in form is a reason that means it
pub reason-part : (reason : Text) (rest : List ℕ) → reason_form reason ≡ true → rest ≡ reason_text reason
    → (text_of (reason_in rest) ≡ reason) × (good_reason rest ≡ true)
unfolding good_reason reason_in has_reason reason_text bytes begins
reason-part reason rest f e = go (ltb 0 reason.len) refl
  where
    r : Reason reason
    r = reason-formed reason f

    go : (b : Bool) → ltb 0 reason.len ≡ b → (text_of (reason_in rest) ≡ reason) × (good_reason rest ≡ true)
    go true p = rw (e, p) (r.back, r.four p)
    go false p = rw (e, p) (sym (ap text_of (r.none p)) ∙ r.back, refl)

-- and what a reason means is in form, and is written as that reason
module _ (rest : List ℕ) (good : good_reason rest ≡ true) where
  some : has_reason rest ≡ true → (bytes "/DKRS" ++ reason_in rest ≡ reason_text (text_of (reason_in rest))) × (reason_form (text_of (reason_in rest)) ≡ true)
  unfolding reason_text reason_form
  some h =
      let t = code-text 4 4 (reason_in rest) (omega arith) (reason-code rest good h) in
      let f = in-form-facts 4 4 _ t.0 in
      let p : ltb 0 (text_of (reason_in rest)).len ≡ true = lt-ltb 0 (text_of (reason_in rest)).len (omega (arith, f.2)) in
      (rw (p, t.1), rw t.0 (or-true (in_form 0 0 (text_of (reason_in rest)))))

  none_in : has_reason rest ≡ false → reason_in rest ≡ []
  unfolding reason_in
  none_in h = rw h

  absent : ([] ≡ reason_text (text_of [])) × (reason_form (text_of []) ≡ true)
  unfolding reason_text reason_form padded_of in_form contents all_in in_class
  absent = (refl, refl)

  pub reason-told : (reason_part rest ≡ reason_text (text_of (reason_in rest))) × (reason_form (text_of (reason_in rest)) ≡ true)
  reason-told = go (has_reason rest) refl
    where
      go : (b : Bool) → has_reason rest ≡ b
          → (cond b (bytes "/DKRS" ++ reason_in rest) [] ≡ reason_text (text_of (reason_in rest))) × (reason_form (text_of (reason_in rest)) ≡ true)
      go true h = some h
      go false h = rw (none_in h) absent
