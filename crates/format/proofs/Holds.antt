-- A lawful message has a value for each slot that a record needs, each of its form, and what must stand together does.
-- Assumes nothing.
use Prim.Native.Nat.{ℕ}
use mathlib.Core.Path.{◌≡◌, refl, sym, ap, ◌∙◌}
use mathlib.Core.Bool.{Bool, true, false, ◌&&◌, ◌||◌, not, cond, true≢false}
use mathlib.Core.List.{List, [], ◌∷◌, ◌++◌}
use mathlib.Core.Logic.{◌⊎◌, inl, inr}
use lib.Dec.{eqb}
use lib.ListN.{length, drop}
use lib.Seq.{drop-nil}
use borrow.Author.Tests.{eqb-false, not-true}
use Rattle.text.proofs.Laws.{and_left, and_right, and_both, begins-is}
use Rattle.lines.specs.Lines.{lines_of}
use Rattle.forms.specs.Forms.{value_number}
use Rattle.forms.proofs.Laws.{value-begins}
use Rattle.sheets.specs.Slots.{slots_of, must_slots}
use Rattle.sheets.specs.Sheets.{Entry, has, Sheet}
use Rattle.sheets.specs.Filled.{some, value_in}
use Rattle.text.proofs.Bools.{is_false, or_case}
use Rattle.sheets.proofs.Once.{has-append, apart-lists, slots_held, inside}
use Rattle.sheets.proofs.Plain.{value-absent}
use Rattle.sheets.proofs.Musts.{musts}
use Rattle.sheets.proofs.Settled.{sheet-settles}
use Rattle.reader.specs.Header.{head_pass, head_value}
use Rattle.format.specs.Format.{Format, optional}
use Rattle.format.specs.Lawful.{Valued, said_in}
use Rattle.format.specs.Writing.{behind_in}
use Rattle.format.proofs.Tests.{every-at, no_length}
use Rattle.format.proofs.Laws.{every_slot, Layout, Filled, Held}
use Rattle.format.proofs.Heads.{Heads, heads-from, head-good}
use Rattle.format.proofs.Said.{valued-at}

-- a text behind something stands
some-append : (f v : List ℕ) → some v ≡ true → some (f ++ v) ≡ true
unfolding some
some-append [] v h = h
some-append (b ∷ f) v h = refl

module _ (F : Format) (L : Layout F) where
  -- a slot of the header is none of the layout, and the other way round
  pub not-header : (s : ℕ) → has (slots_of F.tree) s ≡ true → has F.header s ≡ false
  not-header s e = is_false (has F.header s) (λ h. true≢false (sym e ∙ apart-lists F.header (slots_of F.tree) s L.heads-apart h))

  pub every-slot : (s : ℕ) → has (every_slot F) s ≡ true → (has F.header s || has (slots_of F.tree) s) ≡ true
  unfolding every_slot
  every-slot s e = sym (has-append F.header (slots_of F.tree) s) ∙ e

  -- an optional value that has its form is not empty
  pub optional-some : (s : ℕ) (v : List ℕ) → optional F s ≡ true → value_number (F.slot_of s) ((F.slot_of s).fixed ++ v) ≡ 0 → v ≡ [] → ⊥
  unfolding optional
  optional-some s v o z e =
      let i = and_left (has (slots_of F.tree) s) _ o in
      let t = every-at (λ x. not (optional F x) || not (eqb (value_number (F.slot_of x) ((F.slot_of x).fixed ++ [])) 0)) (slots_of F.tree) s L.none-fixed i in
      let q : not (eqb (value_number (F.slot_of s) ((F.slot_of s).fixed ++ [])) 0) ≡ true = rw o at t in
      eqb-false (value_number (F.slot_of s) ((F.slot_of s).fixed ++ [])) 0 (not-true _ q)
      (ap (λ (x : List ℕ). value_number (F.slot_of s) ((F.slot_of s).fixed ++ x)) (sym e) ∙ z)

  -- what follows the text of a slot that is filled: nothing, or what gets 0
  pub behind-filled : (value : ℕ → List ℕ) (s : ℕ) → Filled F s (value s)
      → ((behind_in F value s ≡ []) × (value s ≡ []) × (optional F s ≡ true))
      ⊎ ((behind_in F value s ≡ (F.slot_of s).fixed ++ value s) × (value_number (F.slot_of s) ((F.slot_of s).fixed ++ value s) ≡ 0))
  unfolding behind_in
  behind-filled value s (inl (e, o)) = inl (rw (e, o), e, o)
  behind-filled value s (inr z) = inr (on (optional F s && eqb (length (value s)) 0) refl, z)
    where
      on : (b : Bool) → (optional F s && eqb (length (value s)) 0) ≡ b → cond b [] ((F.slot_of s).fixed ++ value s) ≡ (F.slot_of s).fixed ++ value s
      on true q = absurd (optional-some s (value s) (and_left (optional F s) _ q) z (no_length (value s) (and_right (optional F s) _ q)))
      on false q = refl

  -- it stands where it gets 0
  pub behind-some : (s : ℕ) (v : List ℕ) → has (slots_of F.tree) s ≡ true → value_number (F.slot_of s) v ≡ 0 → some v ≡ true
  unfolding some
  behind-some s [] i z =
      absurd (eqb-false (value_number (F.slot_of s) []) 0 (not-true _ (every-at (λ x. not (eqb (value_number (F.slot_of x) []) 0)) (slots_of F.tree) s L.none_bare i)) z)
  behind-some s (b ∷ v) i z = refl

  module _ (m : List ℕ) (es : List Entry) (l : Sheet F.tree es) (h : Valued F es) where
    -- a slot of the layout
    said-slot : (s : ℕ) → has (slots_of F.tree) s ≡ true → said_in F m es s ≡ drop (length (F.slot_of s).fixed) (value_in es s)
    unfolding said_in
    said-slot s i = rw (not-header s i)

    -- a slot of the header
    pub said-head : (s : ℕ) → has F.header s ≡ true → said_in F m es s ≡ head_value F.slot_of [] F.header (lines_of m) s
    unfolding said_in
    said-head s e = rw e

    -- it stands, with its fixed text; or it does not, and is optional
    pub stands : (s : ℕ) → has (slots_held es) s ≡ true → value_in es s ≡ (F.slot_of s).fixed ++ said_in F m es s
    stands s e =
        rw (said-slot s (inside s l e)) (begins-is (F.slot_of s).fixed (value_in es s) (value-begins (F.slot_of s) (value_in es s) (valued-at F es s h e)))

    pub lacks : (s : ℕ) → has (slots_of F.tree) s ≡ true → has (slots_held es) s ≡ false → (said_in F m es s ≡ []) × (optional F s ≡ true)
    unfolding optional
    lacks s i e = (
      said-slot s i ∙ ap (λ (x : List ℕ). drop (length (F.slot_of s).fixed) x) (value-absent es s e) ∙ drop-nil (length (F.slot_of s).fixed),
      and_both i (rw (is_false (has (must_slots F.tree) s) (λ q. true≢false (sym (musts F.tree es s l q) ∙ e)))),
    )

    slot-filled : (s : ℕ) → has (slots_of F.tree) s ≡ true → Filled F s (said_in F m es s)
    slot-filled s i = on (has (slots_held es) s) refl
      where
        on : (x : Bool) → has (slots_held es) s ≡ x → Filled F s (said_in F m es s)
        on true e = inr (rw (stands s e) at (valued-at F es s h e))
        on false e = inl (lacks s i e)

    -- what stands behind a slot's text is what the sheet has there
    pub said-behind : (s : ℕ) → has (slots_of F.tree) s ≡ true → behind_in F (said_in F m es) s ≡ value_in es s
    said-behind s i = on (has (slots_held es) s) refl (behind-filled (said_in F m es) s (slot-filled s i))
      where
        on : (x : Bool) → has (slots_held es) s ≡ x
            → ((behind_in F (said_in F m es) s ≡ []) × (said_in F m es s ≡ []) × (optional F s ≡ true))
            ⊎ ((behind_in F (said_in F m es) s ≡ (F.slot_of s).fixed ++ said_in F m es s) × (value_number (F.slot_of s) ((F.slot_of s).fixed ++ said_in F m es s) ≡ 0))
            → behind_in F (said_in F m es) s ≡ value_in es s
        on true e (inl (a, b, o)) = absurd (optional-some s (said_in F m es s) o (rw (stands s e) at (valued-at F es s h e)) b)
        on true e (inr (a, z)) = a ∙ sym (stands s e)
        on false e (inl (a, b, o)) = a ∙ sym (value-absent es s e)
        on false e (inr (a, z)) = let (b, o) = lacks s i e in absurd (optional-some s (said_in F m es s) o z b)

    said-tells : (s : ℕ) → has (slots_of F.tree) s ≡ true → some (behind_in F (said_in F m es) s) ≡ has (slots_held es) s
    unfolding some
    said-tells s i = ap some (said-behind s i) ∙ on (has (slots_held es) s) refl
      where
        on : (x : Bool) → has (slots_held es) s ≡ x → some (value_in es s) ≡ x
        on true e = behind-some s (value_in es s) i (valued-at F es s h e)
        on false e = ap some (value-absent es s e)

    -- ---- all of it

    pub holds : (head_pass F.slot_of F.header m).number ≡ 0 → Held F (said_in F m es)
    unfolding head_pass
    holds p =
        let (firm, whole) = sheet-settles F.tree es (behind_in F (said_in F m es)) l L.is-tellable L.is-sole said-tells in
        record { each = each; whole = whole; firm = firm }
      where
        heads : Heads F.slot_of F.header (lines_of m)
        heads = heads-from F.slot_of 1 F.header (lines_of m) p

        head-filled : (s : ℕ) → has F.header s ≡ true → Filled F s (said_in F m es s)
        head-filled s e = inr (rw (said-head s e) (head-good F.slot_of [] F.header (lines_of m) s L.heads-distinct heads e))

        each : (s : ℕ) → has (every_slot F) s ≡ true → Filled F s (said_in F m es s)
        each s e = or_case (has F.header s) (has (slots_of F.tree) s) (every-slot s e) (head-filled s) (slot-filled s)
