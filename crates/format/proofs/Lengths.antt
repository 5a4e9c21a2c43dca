-- The longest message of any message type: where no value of a record has more bytes than some, its message has no more bytes than
-- one whose values have so many. A value that gets 0 has no more bytes than its form takes; where the values of some slots have fewer,
-- as a kind of record has it, the message has no more bytes than one filled in so (`capped-most`), which is computed.
-- Assumes nothing.
use Prim.Native.Nat.{ℕ, ◌+◌, ◌≤◌}
use mathlib.Core.Path.{◌≡◌, refl, sym, ap, ◌∙◌}
use mathlib.Core.Bool.{Bool, true, false, ◌&&◌, cond}
use mathlib.Core.List.{List, [], ◌∷◌, ◌++◌, map}
use mathlib.Core.Logic.{inl, inr}
use native.Mathlib.Omega.{arith}
use lib.Dec.{ltb, eqb}
use lib.ListN.{length, replicate, length-append, length-replicate}
use borrow.Author.Tests.{ltb-false, eqb-true, eqb-false}
use Rattle.text.specs.Texts.{contents}
use Rattle.text.specs.Texts.{Text}
use Rattle.lines.specs.Lines.{joined}
use Rattle.forms.proofs.Widths.{form_width, bounded, form-width}
use Rattle.sheets.specs.Sheets.{lines_in, has}
use Rattle.sheets.specs.Filled.{filled}
use Rattle.format.specs.Format.{Format, optional}
use Rattle.format.specs.Writing.{behind_in, head_line, lines_for, message_of}
use Rattle.format.proofs.Tests.{every, every-at, number-form}
use Rattle.format.proofs.Laws.{every_slot, Filled, Held}
use Rattle.format.proofs.Grows.{joined-next, grows}
use Rattle.format.proofs.BySlot.{no-contents}

module _ (F : Format) where
  -- ---- a value of a message is no wider than its form

  pub value-width : (value : ℕ → List ℕ) → Held F value → every (λ s. bounded (F.slot_of s).form) (every_slot F) ≡ true
      → (s : ℕ) → has (every_slot F) s ≡ true → length (value s) ≤ form_width (F.slot_of s).form
  value-width value h b s i = on (h.each s i)
    where
      on : Filled F s (value s) → length (value s) ≤ form_width (F.slot_of s).form
      on (inl (e, o)) = let z = ap length e in omega arith
      on (inr z) = form-width (F.slot_of s).form (value s) (every-at (λ x. bounded (F.slot_of x).form) (every_slot F) s b i) (sym (number-form (F.slot_of s) (value s)) ∙ z)

  -- ---- a message whose values are no wider is no longer

  -- so many bytes for a value
  unfoldable pub wide : (ℕ → ℕ) → ℕ → List ℕ
  wide most s = replicate {A = ℕ} (most s) 0

  -- the bytes of a message whose values are so wide
  abbrev pub bytes_of : (ℕ → ℕ) → ℕ
  bytes_of most = length (joined (map (head_line F (wide most)) F.header ++ lines_in (filled (behind_in F (wide most)) F.tree)))

  module _ (value : ℕ → List ℕ) (most : ℕ → ℕ) (h : (s : ℕ) → length (value s) ≤ most s) where
    fixed-most : (s : ℕ) → length ((F.slot_of s).fixed ++ value s) ≤ length ((F.slot_of s).fixed ++ wide most s)
    unfolding wide
    fixed-most s =
        let m = h s in
        let a = length-append (F.slot_of s).fixed (value s) in
        let b = length-append (F.slot_of s).fixed (replicate {A = ℕ} (most s) 0) in
        let c = length-replicate {A = ℕ} (most s) 0 in
        omega arith

    behind-most : (s : ℕ) → length (behind_in F value s) ≤ length (behind_in F (wide most) s)
    unfolding behind_in wide
    behind-most s = rw (length-replicate {A = ℕ} (most s) 0) (go (optional F s) (eqb (length (value s)) 0) refl (eqb (most s) 0) refl)
      where
        go : (o a : Bool) → eqb (length (value s)) 0 ≡ a → (b : Bool) → eqb (most s) 0 ≡ b
            → length (cond (o && a) [] ((F.slot_of s).fixed ++ value s)) ≤ length (cond (o && b) [] ((F.slot_of s).fixed ++ replicate {A = ℕ} (most s) 0))
        go false a e b f = fixed-most s
        go true true e b f = omega arith
        go true false e false f = fixed-most s
        go true false e true f =
            let m = h s in
            let z : ⊥ = omega (arith, eqb-false (length (value s)) 0 e, eqb-true (most s) 0 f) in
            absurd z

    head-most : (hs : List ℕ) (ls ks : List (List ℕ)) → length (joined ls) ≤ length (joined ks)
        → length (joined (map (head_line F value) hs ++ ls)) ≤ length (joined (map (head_line F (wide most)) hs ++ ks))
    unfolding head_line
    head-most [] ls ks g = g
    head-most (s ∷ hs) ls ks g =
        let a = joined-next (head_line F value s) (map (head_line F value) hs ++ ls) in
        let b = joined-next (head_line F (wide most) s) (map (head_line F (wide most)) hs ++ ks) in
        let c = fixed-most s in
        let d = head-most hs ls ks g in
        omega arith

  pub message-most : (r : F.Held) (most : ℕ → ℕ) → ((s : ℕ) → length (F.value_of r s) ≤ most s) → length (message_of F r) ≤ bytes_of most
  unfolding message_of lines_for
  message-most r most h =
      head-most (F.value_of r) most h F.header (lines_in (filled (behind_in F (F.value_of r)) F.tree)) (lines_in (filled (behind_in F (wide most)) F.tree))
      (grows (behind_in F (F.value_of r)) (behind_in F (wide most)) (behind-most (F.value_of r) most h) F.tree)

  -- a bound of the slots of a message serves: a message has no others
  unfoldable pub within : F.Held → (ℕ → ℕ) → ℕ → ℕ
  within r most s = cond (has (every_slot F) s) (most s) (length (F.value_of r s))

  pub within-most : (r : F.Held) (most : ℕ → ℕ) → ((s : ℕ) → has (every_slot F) s ≡ true → length (F.value_of r s) ≤ most s)
      → (s : ℕ) → length (F.value_of r s) ≤ within r most s
  unfolding within
  within-most r most h s = go (has (every_slot F) s) refl
    where
      go : (b : Bool) → has (every_slot F) s ≡ b → length (F.value_of r s) ≤ cond b (most s) (length (F.value_of r s))
      go true e = h s e
      go false e = omega arith

  -- ---- by the widths of the forms, and by a list of slots whose values have fewer bytes

  unfoldable pub capped : List (ℕ × ℕ) → ℕ → ℕ
  capped [] s = form_width (F.slot_of s).form
  capped (c ∷ cs) s = cond (eqb s c.0) c.1 (capped cs s)

  module _ (r : F.Held) where
    abbrev pub Capped : List (ℕ × ℕ) → Type 0
    Capped [] = Unit
    Capped (c ∷ cs) = (length (F.value_of r c.0) ≤ c.1) × Capped cs

    module _ (h : Held F (F.value_of r)) (b : every (λ s. bounded (F.slot_of s).form) (every_slot F) ≡ true) where
      capped_at : (cs : List (ℕ × ℕ)) → Capped cs → (s : ℕ) → has (every_slot F) s ≡ true → length (F.value_of r s) ≤ capped cs s
      unfolding capped
      capped_at [] all s i = value-width (F.value_of r) h b s i
      capped_at (c ∷ cs) all s i = go (capped_at cs all.1 s i) (eqb s c.0) refl
        where
          go : length (F.value_of r s) ≤ capped cs s → (x : Bool) → eqb s c.0 ≡ x → length (F.value_of r s) ≤ cond x c.1 (capped cs s)
          go ih true e = rw (eqb-true s c.0 e) all.0
          go ih false e = ih

      pub capped-most : (cs : List (ℕ × ℕ)) → Capped cs → length (message_of F r) ≤ bytes_of (within r (capped cs))
      capped-most cs all = message-most r (within r (capped cs)) (within-most r (capped cs) (capped_at cs all))

-- a text that is not there has no bytes
pub no_text : (x : Text) → ltb 0 x.len ≡ false → length (contents x) ≤ 0
no_text x e = let n = ltb-false 0 x.len e in let z = ap length (no-contents x (omega arith)) in omega arith
