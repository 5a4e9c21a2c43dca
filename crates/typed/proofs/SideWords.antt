-- What callers cite: the side of a trade and its word tell each other (`side-back`, `side-word`, `side-held`). And the words by their
-- places, for the functions.
-- Assumes nothing.
use Prim.Native.Nat.{ℕ, zero, suc, ◌<◌}
use mathlib.Core.Path.{◌≡◌, refl, ◌∙◌}
use mathlib.Core.Bool.{true}
use mathlib.Core.List.{List, [], ◌∷◌}
use native.Mathlib.Omega.{arith}
use lib.ListN.{get_or}
use borrow.Author.Tests.{ltb-true}
use Rattle.text.specs.Bytes.{bytes, same, parts}
use Rattle.forms.specs.Forms.{word_at, is_word}
use Rattle.forms.specs.Slots.{words_of}
use Rattle.forms.proofs.Laws.{word-at}
use Rattle.typed.specs.Sides.{sides, side_in, side_word}
use Rattle.typed.specs.declared.Side.{Side}
use Rattle.typed.proofs.Laws.{first_else}

pub side-back : (s : Side) → side_in (side_word s) ≡ s
unfolding side_in side_word bytes word_at same
side-back Side.Buyi = refl
side-back Side.Sell = refl

pub side-word : (s : Side) → is_word sides (side_word s) ≡ true
unfolding side_word bytes is_word word_at same
side-word Side.Buyi = refl
side-word Side.Sell = refl

-- a word that is one of the two is written as it was read
pub side-held : (v : List ℕ) → is_word sides v ≡ true → side_word (side_in v) ≡ v
unfolding side_in side_word is_word
side-held v e = go (word_at sides v) (ltb-true _ _ e) ∙ word-at sides v e
  where
    go : (n : ℕ) → n < 2 → side_word (get_or (Side.Buyi ∷ Side.Sell ∷ []) n Side.Buyi) ≡ get_or sides n []
    go zero h = refl
    go (suc zero) h = refl
    go (suc (suc n)) h = let z : ⊥ = omega arith in absurd z

-- ---- by their places

module _ (v : List ℕ) (k : ℕ) (e : k ≡ word_at (words_of (bytes "BUYISELL")) v) where
  pub side-is : (n : ℕ) → k ≡ n → get_or (Side.Buyi ∷ Side.Sell ∷ []) n Side.Buyi ≡ side_in v
  unfolding side_in bytes words_of parts
  side-is n h = rw (← h, e)

  pub side-else : (k ≡ 1 → ⊥) → Side.Buyi ≡ side_in v
  side-else f = first_else Side.Buyi (Side.Sell ∷ []) k (λ p. omega arith) ∙ side-is k refl
