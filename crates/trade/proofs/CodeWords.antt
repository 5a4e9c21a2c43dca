-- The mathematics of the crate's functions, over plain lists and numbers: code words by their places.
-- Assumes nothing.
use Prim.Native.Nat.{ℕ}
use mathlib.Core.Path.{◌≡◌, refl, ◌∙◌}
use mathlib.Core.List.{List, [], ◌∷◌}
use native.Mathlib.Omega.{arith}
use lib.ListN.{get_or}
use Rattle.text.specs.Bytes.{bytes, parts}
use Rattle.forms.specs.Forms.{word_at}
use Rattle.forms.specs.Narrative.{services, service_in}
use Rattle.forms.specs.Slots.{words_of}
use Rattle.typed.proofs.Laws.{first_else}
use Rattle.trade.specs.Narrative.{service_of}
use Rattle.trade.specs.Records.{kind_in}
use Rattle.trade.specs.declared.Kind.{Kind}
use Rattle.trade.specs.declared.Service.{Service}

-- ---- code words by their places

module _ (v : List ℕ) (k : ℕ) (e : k ≡ word_at (words_of (bytes "INSTCANCMDFCTDDK")) v) where
  pub kind-is : (n : ℕ) → k ≡ n → get_or (Kind.Inst ∷ Kind.Canc ∷ Kind.Mdfc ∷ Kind.Tddk ∷ []) n Kind.Inst ≡ kind_in v
  unfolding kind_in bytes words_of parts
  kind-is n h = rw (← h, e)

  pub kind-else : (k ≡ 1 → ⊥) → (k ≡ 2 → ⊥) → (k ≡ 3 → ⊥) → Kind.Inst ≡ kind_in v
  kind-else f g h = first_else Kind.Inst (Kind.Canc ∷ Kind.Mdfc ∷ Kind.Tddk ∷ []) k (λ p. omega arith) ∙ kind-is k refl

module _ (v : List ℕ) (k : ℕ) (e : k ≡ word_at services (service_in v)) where
  pub service-is : (n : ℕ) → k ≡ n → get_or (Service.Sbod ∷ Service.Tftd ∷ Service.Stip ∷ []) n Service.Sbod ≡ service_of v
  unfolding service_of
  service-is n h = rw (← h, e)

  pub service-else : (k ≡ 1 → ⊥) → (k ≡ 2 → ⊥) → Service.Sbod ≡ service_of v
  service-else f g = first_else Service.Sbod (Service.Tftd ∷ Service.Stip ∷ []) k (λ p. omega arith) ∙ service-is k refl
