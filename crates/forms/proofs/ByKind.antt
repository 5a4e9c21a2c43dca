-- The form of a slot, by the number of its kind, and by its kind.
-- Assumes nothing.
use Prim.Native.Nat.{ℕ, zero, suc, ◌≤◌}
use mathlib.Core.Path.{◌≡◌, ◌∙◌}
use mathlib.Core.List.{List}
use native.Mathlib.Omega.{arith}
use lib.ListN.{get_or-eq_default, get_or-map}
use Rattle.text.specs.declared.Class.TheVariants.{Hyphened, Printed}
use Rattle.forms.specs.declared.Kind.{Kind}
use Rattle.forms.specs.Forms.{Form, nothing, codes, characters, words, amount, date, moment, narrative, pool_narrative, other}
use Rattle.forms.specs.Slots.{words_in, kinds, kind_of, form_of}

-- the form of a kind, with its least and its most
unfoldable pub form_as : List ℕ → Kind → ℕ → ℕ → Form
form_as t Kind.Nothing least most = nothing
form_as t Kind.Codes least most = codes least most
form_as t Kind.Words least most = words (words_in t least most)
form_as t Kind.Amount least most = amount
form_as t Kind.Date least most = date
form_as t Kind.Moment least most = moment
form_as t Kind.Narrative least most = narrative
form_as t Kind.PoolNarrative least most = pool_narrative
form_as t Kind.Hyphened least most = characters Hyphened least most
form_as t Kind.Printed least most = characters Printed least most
form_as t Kind.Other least most = other

form_is : (t : List ℕ) (n least most : ℕ) → form_of t n least most ≡ form_as t (kind_of n) least most
unfolding form_as form_of kind_of
form_is t n least most = get_or-map (λ k. form_as t k least most) kinds n Kind.Other

-- the form that a number says, by its kind
pub of_kind : (t : List ℕ) (n least most : ℕ) (kind : Kind) → kind ≡ kind_of n → (k : Kind) → kind ≡ k → form_of t n least most ≡ form_as t k least most
of_kind t n least most kind e k f = form_is t n least most ∙ rw (← e, f)

-- a number is none of those below another
unfoldable pub NoneBelow : ℕ → ℕ → Type 0
NoneBelow zero k = Unit
NoneBelow (suc n) k = NoneBelow n k × (k ≡ n → ⊥)

none-below : (n k : ℕ) → NoneBelow n k → n ≤ k
unfolding NoneBelow
none-below zero k h = omega arith
none-below (suc n) k h = let l = none-below n k h.0 in let o = h.1 in omega arith

-- a number that is none of those below 10 is a form that takes any text
pub other_is : (n : ℕ) → NoneBelow 10 n → Kind.Other ≡ kind_of n
unfolding kind_of
other_is n h = rw (get_or-eq_default _ Kind.Other (none-below 10 n h))
