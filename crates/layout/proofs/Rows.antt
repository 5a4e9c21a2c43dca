-- The mathematics of the crate's functions, over plain lists and numbers: the row of a kind in a table's bytes, and what each row
-- that is passed says of the marks ahead and of the line.
-- Assumes nothing.
use Prim.Native.Nat.{ℕ, ◌+◌, ◌*◌, ◌-◌, ◌/◌, ◌%◌, ◌≤◌, ◌<◌}
use mathlib.Core.Path.{◌≡◌, refl, sym, ◌∙◌}
use mathlib.Core.Bool.{Bool, true, false, ◌||◌, not}
use mathlib.Core.List.{List, [], ◌∷◌}
use mathlib.Core.Logic.{◌⊎◌, inl, inr}
use native.Mathlib.Omega.{arith}
use lib.ListN.{length, take, drop, get_or, get_or-eq_default}
use lib.Seq.{drop-drop, get_or-drop}
use Rattle.layout.specs.Rows.{Row, next_key, kind_of, key_of, first_row, rows_of}
use Rattle.layout.specs.Layout.{is_seen, lacks, look, onward, scan, step_of, wrong}
use Rattle.layout.specs.declared.Place.{Place}
use Rattle.layout.specs.declared.Step.{Step}
use Rattle.layout.specs.declared.Look.{Look}
use Rattle.layout.specs.declared.Look.TheVariants.{Decided, Further}
use Rattle.layout.specs.declared.Kind.{Kind}
use Rattle.layout.proofs.ByKind.{row_as, of_kind}
use Rattle.layout.proofs.Laws.{row_next, row-none, look-deeper}

-- ---- the bytes of a row

pub key-at : (t : List ℕ) (at : ℕ) → take (at + 3 + get_or t (at + 2) 0 % 14 - (at + 3)) (drop (at + 3) t) ≡ key_of (drop at t)
unfolding key_of
key-at t at =
    let n : ℕ = get_or t (at + 2) 0 % 14 in
    let e : at + 3 + n - (at + 3) ≡ n = omega arith in
    rw (e, get_or-drop at t 2 0, drop-drop 3 at t)

pub unseen : (seen : List ℕ) (slot : ℕ) → length seen ≤ slot → false ≡ is_seen seen slot
unfolding is_seen
unseen seen slot h = rw (get_or-eq_default seen 0 h)

-- ---- the kinds of rows

-- a row that is no mark and no end says nothing of the marks
lacks-plain : (seen : List ℕ) (rows : List Row) (slot : ℕ) (key : List ℕ) (k : Kind) → (k ≡ Kind.Mark → ⊥) → (k ≡ Kind.End → ⊥)
    → lacks seen (row_as k slot key ∷ rows) ≡ lacks seen rows
unfolding lacks row_as
lacks-plain seen rows slot key Kind.End m e = absurd (e refl)
lacks-plain seen rows slot key Kind.Field m e = refl
lacks-plain seen rows slot key Kind.MayField m e = refl
lacks-plain seen rows slot key Kind.Opens m e = refl
lacks-plain seen rows slot key Kind.MayOpen m e = refl
lacks-plain seen rows slot key Kind.Closes m e = refl
lacks-plain seen rows slot key Kind.Many m e = refl
lacks-plain seen rows slot key Kind.OneMore m e = refl
lacks-plain seen rows slot key Kind.Mark m e = absurd (m refl)
lacks-plain seen rows slot key Kind.ManyClose m e = refl
lacks-plain seen rows slot key Kind.Surplus m e = refl
lacks-plain seen rows slot key Kind.Only m e = refl

-- one that is no field's has no text for a bar
no_key : (slot : ℕ) (key : List ℕ) (rows : List Row) (k : Kind) → (k ≡ Kind.Field → ⊥) → (k ≡ Kind.MayField → ⊥) → next_key (row_as k slot key ∷ rows) ≡ []
unfolding next_key row_as
no_key slot key rows Kind.End f m = refl
no_key slot key rows Kind.Field f m = absurd (f refl)
no_key slot key rows Kind.MayField f m = absurd (m refl)
no_key slot key rows Kind.Opens f m = refl
no_key slot key rows Kind.MayOpen f m = refl
no_key slot key rows Kind.Closes f m = refl
no_key slot key rows Kind.Many f m = refl
no_key slot key rows Kind.OneMore f m = refl
no_key slot key rows Kind.Mark f m = refl
no_key slot key rows Kind.ManyClose f m = refl
no_key slot key rows Kind.Surplus f m = refl
no_key slot key rows Kind.Only f m = refl

-- ---- the text of a field's row

module _ (t : List ℕ) (row : ℕ) where
  pub no-next : length t / 16 ≤ row → [] ≡ next_key (drop row (rows_of t))
  unfolding next_key
  no-next h = rw (row-none t row h)

  module _ (h : row < length t / 16) where
    module _ (kind : Kind) (e : kind ≡ kind_of (get_or t (row * 16) 0)) where
      next_here : (k : Kind) → kind ≡ k → (key : List ℕ) → key ≡ key_of (drop (row * 16) t)
          → next_key (drop row (rows_of t)) ≡ next_key (row_as k (get_or t (row * 16 + 1) 0) key ∷ drop (row + 1) (rows_of t))
      next_here k f key g = rw (row_next t row h, of_kind t (row * 16) kind e k f key g)

      pub next_field : (kind ≡ Kind.Field) ⊎ (kind ≡ Kind.MayField) → (key : List ℕ) → key ≡ key_of (drop (row * 16) t) → key ≡ next_key (drop row (rows_of t))
      unfolding next_key row_as
      next_field (inl f) key g = sym (next_here Kind.Field f key g)
      next_field (inr f) key g = sym (next_here Kind.MayField f key g)

      pub next-other : (kind ≡ Kind.Field → ⊥) → (kind ≡ Kind.MayField → ⊥) → [] ≡ next_key (drop row (rows_of t))
      next-other f m = sym (next_here kind refl _ refl ∙ no_key _ _ _ kind f m)

-- ---- the marks ahead, from a row on

module _ (seen t : List ℕ) (row i : ℕ) (inv : lacks seen (drop i (rows_of t)) ≡ lacks seen (drop row (rows_of t))) where
  pub lacks-none : length t / 16 ≤ i → false ≡ lacks seen (drop row (rows_of t))
  unfolding lacks
  lacks-none h = sym (sym inv ∙ rw (row-none t i h))

  module _ (h : i < length t / 16) where
    module _ (kind : Kind) (e : kind ≡ kind_of (get_or t (i * 16) 0)) where
      lacks-here : (k : Kind) → kind ≡ k
          → lacks seen (drop row (rows_of t)) ≡ lacks seen (row_as k (get_or t (i * 16 + 1) 0) (key_of (drop (i * 16) t)) ∷ drop (i + 1) (rows_of t))
      lacks-here k f = sym inv ∙ rw (row_next t i h, of_kind t (i * 16) kind e k f _ refl)

      module _ (m : kind ≡ Kind.Mark) (b : Bool) (f : b ≡ is_seen seen (get_or t (i * 16 + 1) 0)) where
        mark-here : lacks seen (drop row (rows_of t)) ≡ (not b || lacks seen (drop (i + 1) (rows_of t)))
        unfolding lacks row_as
        mark-here = lacks-here Kind.Mark m ∙ rw (← f)

        pub mark-unseen : not b ≡ true → true ≡ lacks seen (drop row (rows_of t))
        mark-unseen n = sym (mark-here ∙ rw n)

        pub mark-seen : not b ≡ false → lacks seen (drop (i + 1) (rows_of t)) ≡ lacks seen (drop row (rows_of t))
        mark-seen n = sym (mark-here ∙ rw n)

      pub lacks-end : kind ≡ Kind.End → false ≡ lacks seen (drop row (rows_of t))
      unfolding lacks row_as
      lacks-end m = sym (lacks-here Kind.End m)

      pub lacks-more : (kind ≡ Kind.Mark → ⊥) → (kind ≡ Kind.End → ⊥) → lacks seen (drop (i + 1) (rows_of t)) ≡ lacks seen (drop row (rows_of t))
      lacks-more m n = sym (lacks-here kind refl ∙ lacks-plain _ _ _ _ kind m n)

-- ---- a line against the rows ahead

module _ (here : Place) (seen line t : List ℕ) (row deep : ℕ) (unmarked passed : Bool)
    (inv : scan here seen line row (drop row (rows_of t)) deep unmarked passed ≡ step_of (rows_of t) here seen line) where
  pub scan-none : length t / 16 ≤ row → wrong here 8 ≡ step_of (rows_of t) here seen line
  unfolding scan
  scan-none h = sym (sym inv ∙ rw (row-none t row h))

  module _ (h : row < length t / 16) (v : Look)
      (e : v ≡ look here seen line row (drop (row + 1) (rows_of t)) deep unmarked passed (first_row (drop (row * 16) t))) where
    scan-here : step_of (rows_of t) here seen line ≡ onward v (λ d u p. scan here seen line (row + 1) (drop (row + 1) (rows_of t)) d u p)
    unfolding scan
    scan-here = sym inv ∙ rw (row_next t row h, ← e)

    pub scan-stop : (step : Step) → v ≡ Decided step → step ≡ step_of (rows_of t) here seen line
    unfolding onward
    scan-stop step d = sym (scan-here ∙ rw d)

    pub scan-more : (d : ℕ) (u p : Bool) → v ≡ Further d u p
        → (d ≤ deep + 1) × (scan here seen line (row + 1) (drop (row + 1) (rows_of t)) d u p ≡ step_of (rows_of t) here seen line)
    unfolding onward
    scan-more d u p f = (look-deeper here seen line deep unmarked passed _ _ _ d u p (sym e ∙ f), sym (scan-here ∙ rw f))
