-- The REAS blocks of any number, filled in: none stands where the one before it does not, and none has a text without its code, exactly
-- where the layout's tests of a block that may repeat say so.
-- Assumes nothing.
use Prim.Native.Nat.{ℕ, suc}
use mathlib.Core.Path.{◌≡◌, refl, sym, ap, ◌∙◌}
use mathlib.Core.Bool.{Bool, true, false, ◌&&◌, ◌||◌, not, true≢false}
use mathlib.Core.List.{List, [], ◌∷◌}
use Rattle.text.proofs.Bools.{is_false, or_case, or-one, or-two}
use Rattle.text.proofs.Laws.{and_left, and_right, and_both}
use Rattle.sheets.specs.Trees.{Field}
use Rattle.sheets.specs.Filled.{some, any_field}
use Rattle.sheets.proofs.Checks.{solid_fields}
use Rattle.sheets.proofs.Repeats.{any_block, gapless, firm}
use Rattle.answer_table.specs.Tree.{reason}

-- the blocks, by the slots of their codes
unfoldable pub blocks : List ℕ → List (List Field)
blocks [] = []
blocks (c ∷ cs) = reason c ∷ blocks cs

module _ (v : ℕ → List ℕ) where
  -- behind one that stands or not
  unfoldable pub Tied : Bool → List ℕ → Type 0
  Tied before [] = Unit
  Tied before (c ∷ cs) = (some (v c) ≡ true → before ≡ true) × (some (v (suc c)) ≡ true → some (v c) ≡ true) × Tied (some (v c)) cs

  -- a block without its code has no value
  no_text : (c : ℕ) → (some (v (suc c)) ≡ true → some (v c) ≡ true) → some (v c) ≡ false → some (v (suc c)) ≡ false
  no_text c t e = is_false (some (v (suc c))) (λ h. true≢false (sym (t h) ∙ e))

  -- behind one that does not stand none does
  none-behind : (cs : List ℕ) → Tied false cs → any_block v (blocks cs) ≡ false
  unfolding Tied any_block any_field blocks
  none-behind [] t = refl
  none-behind (c ∷ cs) t =
      let x : some (v c) ≡ false = is_false (some (v c)) (λ e. true≢false (sym (t.0 e))) in
      rw (x, no_text c t.1 x) (none-behind cs (rw x at t.2))

  pub tied-gapless : (before : Bool) (cs : List ℕ) → Tied before cs → gapless v (blocks cs) ≡ true
  unfolding Tied gapless any_field blocks
  tied-gapless before [] t = refl
  tied-gapless before (c ∷ cs) t = and_both (go (some (v c)) refl) (tied-gapless (some (v c)) cs t.2)
    where
      go : (x : Bool) → some (v c) ≡ x → ((x || (some (v (suc c)) || false)) || not (any_block v (blocks cs))) ≡ true
      go true e = refl
      go false e = or-two (some (v (suc c)) || false) _ (ap not (none-behind cs (rw e at t.2)))

  pub tied-firm : (before : Bool) (cs : List ℕ) → Tied before cs → firm v (blocks cs) ≡ true
  unfolding Tied firm any_field solid_fields blocks
  tied-firm before [] t = refl
  tied-firm before (c ∷ cs) t = and_both (go (some (v c)) refl) (tied-firm (some (v c)) cs t.2)
    where
      go : (x : Bool) → some (v c) ≡ x → (not (x || (some (v (suc c)) || false)) || (x && true)) ≡ true
      go true e = refl
      go false e = rw (no_text c t.1 e)

  -- ---- and the other way round

  -- a block that has a value has its code
  has_code : (c : ℕ) → (not (any_field v (reason c)) || solid_fields v (reason c)) ≡ true → any_field v (reason c) ≡ true → some (v c) ≡ true
  unfolding any_field solid_fields
  has_code c f e = and_left (some (v c)) _ (rw e at f)

  code_any : (c : ℕ) → some (v c) ≡ true → any_field v (reason c) ≡ true
  unfolding any_field
  code_any c e = or-one (some (v c)) _ e

  text-any : (c : ℕ) → some (v (suc c)) ≡ true → any_field v (reason c) ≡ true
  unfolding any_field
  text-any c e = or-two (some (v c)) _ (or-one (some (v (suc c))) _ e)

  pub tied_back : (before : Bool) (cs : List ℕ) → gapless v (blocks cs) ≡ true → firm v (blocks cs) ≡ true → (any_block v (blocks cs) ≡ true → before ≡ true) → Tied before cs
  unfolding Tied gapless firm any_block blocks
  tied_back before [] g f b = tt
  tied_back before (c ∷ cs) g f b =
      let own = not (any_field v (reason c)) || solid_fields v (reason c) in
      let gap = any_field v (reason c) || not (any_block v (blocks cs)) in
      let code = has_code c (and_left own _ f) in (
        λ e. b (or-one (any_field v (reason c)) _ (code_any c e)),
        λ e. code (text-any c e),
        tied_back (some (v c)) cs (and_right gap _ g) (and_right own _ f) (λ e. code (later e (and_left gap _ g))),
      )
    where
      later : any_block v (blocks cs) ≡ true → (any_field v (reason c) || not (any_block v (blocks cs))) ≡ true → any_field v (reason c) ≡ true
      later e h = or_case (any_field v (reason c)) _ h (λ x. x) (λ x. absurd (true≢false (sym x ∙ ap not e)))
