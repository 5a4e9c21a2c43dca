-- The mathematics of the crate's functions, over plain lists and numbers: the kinds by the places of their words.
-- Assumes nothing.
use Prim.Native.Nat.{ℕ}
use mathlib.Core.Path.{◌≡◌, refl, ◌∙◌}
use mathlib.Core.List.{List, [], ◌∷◌}
use native.Mathlib.Omega.{arith}
use lib.ListN.{get_or}
use Rattle.text.specs.Bytes.{bytes, parts}
use Rattle.forms.specs.Forms.{word_at}
use Rattle.forms.specs.Slots.{words_of}
use Rattle.typed.proofs.Laws.{first_else}
use Rattle.pool_trade.specs.Records.{kind_in}
use Rattle.pool_trade.specs.declared.Kind.{Kind}

abbrev others : List Kind
others = Kind.Canc ∷ Kind.Mdfc ∷ Kind.Tddk ∷ Kind.Cdrq ∷ Kind.Cdrl ∷ []

module _ (v : List ℕ) (k : ℕ) (e : k ≡ word_at (words_of (bytes "INSTCANCMDFCTDDKCDRQCDRL")) v) where
  pub kind-is : (n : ℕ) → k ≡ n → get_or (Kind.Inst ∷ others) n Kind.Inst ≡ kind_in v
  unfolding kind_in bytes words_of parts
  kind-is n h = rw (← h, e)

  pub kind-else : (k ≡ 1 → ⊥) → (k ≡ 2 → ⊥) → (k ≡ 3 → ⊥) → (k ≡ 4 → ⊥) → (k ≡ 5 → ⊥) → Kind.Inst ≡ kind_in v
  kind-else f g h i j = first_else Kind.Inst others k (λ p. omega arith) ∙ kind-is k refl
