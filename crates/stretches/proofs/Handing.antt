-- The mathematics of handing out the places of fields, over plain lists; and, for callers, that places as many as the fields hold just
-- these (`starts-all`, `ends-all`).
-- Assumes nothing.
use Prim.Native.Nat.{ℕ, suc, ◌+◌, ◌≤◌, ◌<◌}
use mathlib.Core.Path.{◌≡◌, refl, sym, ap, ◌∙◌}
use mathlib.Core.List.{List, [], ◌∷◌, ◌++◌, append-nil}
use native.Mathlib.Numerals.{add-one}
use native.Mathlib.Omega.{arith}
use lib.ListN.{length, drop, get_or, set, drop_of_length-le}
use lib.Seq.{sets, sets-eq, drop-cons, drop-length}
use Rattle.stretches.specs.Fields.{begun_for, starts_for, ends_for, starts_handed, ends_handed}

-- ---- field by field: what is written, with what is still ahead, is all

module _ (narrative : ℕ) (begun ended slots starts₀ ends₀ : List ℕ) where
  pub record Same (starts ends : List ℕ) (field : ℕ) : Type 0 where
    pub starts-are : sets starts field (starts_for narrative begun ended field (drop field slots)) ≡ starts_handed narrative begun ended slots starts₀
    pub ends-are : sets ends field (ends_for ended (drop field slots)) ≡ ends_handed ended slots ends₀

  pub begin : Same starts₀ ends₀ 0
  unfolding starts_handed ends_handed
  begin = record { starts-are = refl; ends-are = refl }

  module _ {starts ends : List ℕ} {field : ℕ} (s : Same starts ends field) where
    pub more : field < length slots → {slot at from to : ℕ} → slot ≡ get_or slots field 0 → to ≡ get_or ended slot 0 → at ≡ get_or begun slot 0
        → from ≡ begun_for narrative field at to → {starts' ends' : List ℕ} → starts' ≡ set starts field from → ends' ≡ set ends field to
        → Same starts' ends' (field + 1)
    unfolding starts_for ends_for
    more h {slot} {at} {from} {to} is e a b {starts'} {ends'} f g =
        let d = drop-cons slots field 0 h in
        record {
          starts-are = rw (f, b, a, e, is, add-one field) (rw d at s.starts-are);
          ends-are = rw (g, e, is, add-one field) (rw d at s.ends-are);
        }

    pub done : length slots ≤ field → (starts ≡ starts_handed narrative begun ended slots starts₀) × (ends ≡ ends_handed ended slots ends₀)
    unfolding starts_for ends_for
    done h = let d = drop_of_length-le slots h in (rw d at s.starts-are, rw d at s.ends-are)

-- ---- as many places as there are fields

pub sets-all : (es ps : List ℕ) → length ps ≡ length es → sets ps 0 es ≡ es
sets-all es ps h =
    let e : 0 + length es ≡ length ps = omega arith in
    sets-eq es ps 0 (omega arith) ∙ ap (λ (l : List ℕ). es ++ l) (rw e (drop-length ps)) ∙ append-nil es

starts-long : (narrative : ℕ) (begun ended : List ℕ) (slots : List ℕ) (field : ℕ) → length (starts_for narrative begun ended field slots) ≡ length slots
unfolding starts_for
starts-long narrative begun ended [] field = refl
starts-long narrative begun ended (s ∷ ss) field = ap suc (starts-long narrative begun ended ss (suc field))

ends-long : (ended slots : List ℕ) → length (ends_for ended slots) ≡ length slots
unfolding ends_for
ends-long ended [] = refl
ends-long ended (s ∷ ss) = ap suc (ends-long ended ss)

pub starts-all : (narrative : ℕ) (begun ended slots starts : List ℕ) → length starts ≡ length slots
    → starts_handed narrative begun ended slots starts ≡ starts_for narrative begun ended 0 slots
unfolding starts_handed
starts-all narrative begun ended slots starts h = sets-all _ starts (h ∙ sym (starts-long narrative begun ended slots 0))

pub ends-all : (ended slots ends : List ℕ) → length ends ≡ length slots → ends_handed ended slots ends ≡ ends_for ended slots
unfolding ends_handed
ends-all ended slots ends h = sets-all _ ends (h ∙ sym (ends-long ended slots))
