-- The mathematics of the crate's functions, over plain lists: places kept one behind the other.
-- Assumes nothing.
use Prim.Native.Nat.{ℕ, suc, ◌+◌, ◌≤◌, ◌<◌}
use mathlib.Core.Path.{◌≡◌, refl, sym, ap, ◌∙◌}
use mathlib.Core.List.{List, [], ◌∷◌}
use native.Mathlib.Numerals.{add-one}
use native.Mathlib.Omega.{arith}
use lib.ListN.{length, drop, get_or, set, length-set, drop_of_length-le}
use lib.Seq.{sets, set_out, drop-cons}

-- behind the last place there is none
sets-out : (es ps : List ℕ) (k : ℕ) → length ps ≤ k → sets ps k es ≡ ps
sets-out [] ps k h = refl
sets-out (e ∷ es) ps k h = rw (set_out ps k e h) (sets-out es ps (suc k) (omega arith))

-- what is kept, with what is still ahead, is all
pub record Same (ps es : List ℕ) (k : ℕ) (qs : List ℕ) (place i : ℕ) : Type 0 where
  pub is : sets qs place (drop i es) ≡ sets ps k es
  pub long : length qs ≡ length ps

pub begin : (ps es : List ℕ) (k : ℕ) → Same ps es k ps k 0
begin ps es k = record { is = refl; long = refl }

module _ {ps es : List ℕ} {k : ℕ} {qs : List ℕ} {place i : ℕ} (s : Same ps es k qs place i) where
  pub more : i < length es → Same ps es k (set qs place (get_or es i 0)) (place + 1) (i + 1)
  more h =
      record {
        is = rw (add-one place, add-one i) (ap (λ (l : List ℕ). sets qs place l) (sym (drop-cons es i 0 h)) ∙ s.is);
        long = length-set qs place (get_or es i 0) ∙ s.long;
      }

  pub done : length es ≤ i → qs ≡ sets ps k es
  done h = rw (drop_of_length-le es h) at s.is

  pub out : length qs ≤ place → qs ≡ sets ps k es
  out h = sym (sets-out (drop i es) qs place h) ∙ s.is
