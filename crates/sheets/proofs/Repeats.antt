-- A block that may repeat, filled in: its values stand together where each block that has one has its mandatory ones, and none has one
-- where the block before it has none.
-- Assumes nothing.
use Prim.Native.Nat.{ℕ}
use mathlib.Core.Path.{◌≡◌, refl, sym, ap, ◌∙◌}
use mathlib.Core.Bool.{Bool, true, false, ◌&&◌, ◌||◌, not, cond, and_assoc}
use mathlib.Core.List.{List, [], ◌∷◌, ◌++◌}
use Rattle.text.proofs.Laws.{same_refl}
use Rattle.sheets.specs.Trees.{Field, Tree, chain}
use Rattle.sheets.specs.Notation.{repeated}
use Rattle.sheets.specs.Sheets.{edge}
use Rattle.sheets.specs.Filled.{some, any_field, any_in, filled}
use Rattle.sheets.proofs.Checks.{begun, complete, solid_fields, solid}

module _ (v : ℕ → List ℕ) where
  -- one of the blocks has a value
  unfoldable pub any_block : List (List Field) → Bool
  any_block [] = false
  any_block (fs ∷ fss) = any_field v fs || any_block fss

  -- none has one where the one before it has none
  unfoldable pub gapless : List (List Field) → Bool
  gapless [] = true
  gapless (fs ∷ fss) = (any_field v fs || not (any_block fss)) && gapless fss

  -- one that has a value has its mandatory ones
  unfoldable pub firm : List (List Field) → Bool
  firm [] = true
  firm (fs ∷ fss) = (not (any_field v fs) || solid_fields v fs) && firm fss

  -- ---- one block

  chain-any : (fs : List Field) (c : List ℕ) → any_in v (chain fs c) ≡ any_field v fs
  unfolding any_in any_field chain
  chain-any [] c = refl
  chain-any (f ∷ fs) c = ap (λ (b : Bool). some (v f.slot) || b) (chain-any fs c)

  chain-complete : (fs : List Field) (c : List ℕ) → complete v (chain fs c) ≡ true
  unfolding complete chain
  chain-complete [] c = refl
  chain-complete (f ∷ fs) c = chain-complete fs c

  chain-solid : (fs : List Field) (c : List ℕ) → solid v (chain fs c) ≡ solid_fields v fs
  unfolding solid solid_fields chain
  chain-solid [] c = refl
  chain-solid (f ∷ fs) c = ap (λ (b : Bool). (not f.must || some (v f.slot)) && b) (chain-solid fs c)

  -- ---- all of them, where what is left behind them does not begin as they do

  module _ (n : ℕ) (o c : List ℕ) (t : Tree) where
    begun-is : (fss : List (List Field)) → begun o (filled v t) ≡ false → begun o (filled v (repeated n o c fss t)) ≡ any_block fss
    unfolding repeated filled begun any_block
    begun-is [] h = h
    begun-is (fs ∷ fss) h = rw (chain-any fs c) (go (begun-is fss h) (any_field v fs))
      where
        go : begun o (filled v (repeated n o c fss t)) ≡ any_block fss → (b : Bool) → begun o (cond b (edge o ∷ (filled v (chain fs c) ++ filled v (repeated n o c fss t))) (filled v (repeated n o c fss t))) ≡ (b || any_block fss)
        go ih true = same_refl o
        go ih false = ih

    pub complete-is : (fss : List (List Field)) → begun o (filled v t) ≡ false → complete v (repeated n o c fss t) ≡ (gapless fss && complete v t)
    unfolding repeated complete gapless
    complete-is [] h = refl
    complete-is (fs ∷ fss) h =
        rw (chain-any fs c, chain-complete fs c, begun-is fss h, complete-is fss h) (go (any_field v fs) (any_block fss) (gapless fss) (complete v t))
      where
        go : (a b g k : Bool) → ((not a || true) && ((a || not b) && (g && k))) ≡ (((a || not b) && g) && k)
        go true b g k = refl
        go false true g k = refl
        go false false g k = refl

    pub solid-is : (fss : List (List Field)) → solid v (repeated n o c fss t) ≡ (firm fss && solid v t)
    unfolding repeated solid firm
    solid-is [] = refl
    solid-is (fs ∷ fss) = rw (chain-any fs c, chain-solid fs c, solid-is fss) (sym (and_assoc (not (any_field v fs) || solid_fields v fs) (firm fss) (solid v t)))
