-- What callers cite: where the bytes that are lent are a message type's, the parts that are put are its own.
-- Assumes nothing.
use Prim.Native.Nat.{ℕ}
use mathlib.Core.Path.{◌≡◌, refl, sym, ap, fun_ext, ◌∙◌}
use mathlib.Core.Bool.{Bool, true, false, ◌||◌, not, cond}
use mathlib.Core.List.{List, [], ◌∷◌, ◌++◌}
use Rattle.text.proofs.Bools.{or_left, or_right, eqb-turn}
use Rattle.forms.specs.Forms.{Slot}
use Rattle.forms.specs.Slots.{slot_at}
use Rattle.layout.specs.Rows.{Row, rows_of}
use Rattle.sheets.specs.Trees.{table_of}
use Rattle.sheets.specs.Sheets.{has}
use Rattle.sheets.specs.Slots.{slots_of}
use Rattle.sheets.proofs.Once.{has-append}
use Rattle.format.specs.Format.{Format, optional}
use Rattle.format.specs.Writing.{behind_in}
use Rattle.format.proofs.Tests.{every, every-at}
use Rattle.fill.specs.Filling.{Lent, is_any, fixed_in, value_at, front_at, behind_at, parts_at, walk, filling}
use Rattle.writer.specs.Parts.{head_parts, message_parts, fixed_for, parts_for}
use Rattle.writer.proofs.Laws.{left_out}

-- ---- the slots that are optional, as a list: a test of each number that the list or the layout has tells of all numbers

any-has : (ns : List ℕ) (s : ℕ) → is_any ns s ≡ has ns s
unfolding has
any-has [] s = refl
any-has (n ∷ ns) s = rw (eqb-turn s n, any-has ns s)

module _ (F : Format) where
  unfoldable pub optional_in : List ℕ → ℕ → Bool
  optional_in may s = cond (optional F s) (has may s) (not (has may s))

  pub optional-are : (may : List ℕ) → every (optional_in may) (may ++ slots_of F.tree) ≡ true → (s : ℕ) → is_any may s ≡ optional F s
  unfolding optional_in optional
  optional-are may h s = any-has may s ∙ on (has (may ++ slots_of F.tree) s) refl
    where
      both : (a b : Bool) → cond b a (not a) ≡ true → a ≡ b
      both a true e = e
      both true false e = sym e
      both false false e = refl

      neither : (has may s || has (slots_of F.tree) s) ≡ false → has may s ≡ optional F s
      neither e = rw (or_left (has may s) _ e, or_right (has may s) _ e)

      on : (b : Bool) → has (may ++ slots_of F.tree) s ≡ b → has may s ≡ optional F s
      on true e = both (has may s) (optional F s) (every-at (optional_in may) (may ++ slots_of F.tree) s h e)
      on false e = neither (sym (has-append may (slots_of F.tree) s) ∙ e)

-- ---- the bytes of the table, of its slots and of those that are optional

module _ (F : Format) (l : Lent) (rows : List ℕ) (rows_are : rows_of rows ≡ table_of F.tree)
    (slots-are : (s : ℕ) → slot_at l.slots s ≡ F.slot_of s) (may-are : (s : ℕ) → is_any l.optional s ≡ optional F s) where
  front-is : (s : ℕ) → front_at l s ≡ fixed_for F (value_at l) s
  unfolding fixed_in fixed_for
  front-is s = rw (may-are s, slots-are s)

  behind-is : (s : ℕ) → behind_at l s ≡ behind_in F (value_at l) s
  unfolding fixed_in behind_in
  behind-is s = rw (may-are s, slots-are s) (left_out (optional F s) (F.slot_of s).fixed (value_at l s))

  pub parts_are : message_parts l F.header rows ≡ parts_for F (value_at l)
  unfolding message_parts filling parts_for
  parts_are =
      let head = head_parts F.slot_of (value_at l) F.header in
      ap (λ (slots : ℕ → Slot). head_parts slots (value_at l) F.header ++ walk (behind_at l) (parts_at l) [] 0 (rows_of rows)) (fun_ext slots-are)
      ∙ ap (λ (table : List Row). head ++ walk (behind_at l) (parts_at l) [] 0 table) rows_are
      ∙ ap (λ (behind : ℕ → List ℕ). head ++ walk behind (parts_at l) [] 0 (table_of F.tree)) (fun_ext behind-is)
      ∙ ap (λ (front : ℕ → List ℕ). head ++ walk (behind_in F (value_at l)) (λ s. front s ∷ value_at l s ∷ []) [] 0 (table_of F.tree)) (fun_ext front-is)

-- the same of the header too, and of slots and optional ones as functions, as a message type tells of what it lends
pub parts-lent : (F : Format) (l : Lent) (rows : List ℕ) {heads : List ℕ} → heads ≡ F.header → rows_of rows ≡ table_of F.tree
    → slot_at l.slots ≡ F.slot_of → is_any l.optional ≡ optional F → message_parts l heads rows ≡ parts_for F (value_at l)
parts-lent F l rows heads-are rows_are slots-are may-are =
    rw heads-are (parts_are F l rows rows_are (λ s. ap (λ (of : ℕ → Slot). of s) slots-are) (λ s. ap (λ (may : ℕ → Bool). may s) may-are))
