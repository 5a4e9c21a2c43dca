-- What a glimpse of a row says of layout's look at it with the first line of the text, row by row and then over the rows of a table: a
-- line that fits is decided so there, and one that goes further goes further there, with nothing mandatory passed over.
-- Assumes nothing.
use Prim.Native.Nat.{ℕ, zero, suc, ◌+◌, ◌*◌, ◌/◌, ◌≤◌, ◌<◌}
use mathlib.Core.Path.{◌≡◌, refl, ◌∙◌}
use mathlib.Core.Bool.{Bool, true, false, ◌&&◌, ◌||◌, cond, and_assoc}
use mathlib.Core.List.{List, [], ◌∷◌}
use native.Mathlib.Omega.{arith}
use lib.Dec.{eqb}
use lib.ListN.{length, take, drop, get_or}
use Rattle.std.proofs.Common.{Some}
use Rattle.text.specs.Bytes.{begins, before}
use Rattle.text.specs.Classes.{printed}
use Rattle.text.proofs.Bools.{of-both}
use Rattle.text.proofs.Laws.{and_left, and_right, begins-length}
use Rattle.lines.specs.Lines.{without_ending}
use Rattle.bars.specs.Bars.{Bar, surplus, only, stops}
use Rattle.layout.specs.Rows.{Row, field, opens, closes, many, mark, back, ends, bar, next_key, kind_of, text_at, first_row, rows_of}
use Rattle.layout.specs.Layout.{fits_or9, lacks, is_seen, against, beneath, look, scan, step_of}
use Rattle.layout.specs.declared.Place.{Place}
use Rattle.layout.specs.declared.Step.{Step}
use Rattle.layout.specs.declared.Look.{Look}
use Rattle.layout.proofs.Laws.{row_next, text_at_lem}
use Rattle.layout.specs.declared.Kind.{Kind}
use Rattle.layout.proofs.ByKind.{row_as, of_kind}
use Rattle.layout.proofs.Rows.{scan-stop, scan-more}
use Rattle.fitting.specs.Fitting.{bar_text, row_text, clean_rows, ends_line, Fits, Fitted, is_edge, may_stop, glimpse, glimpse_beneath, glimpse_at}
use Rattle.fitting.specs.declared.Fit.{Fit}
use Rattle.fitting.specs.declared.Glimpse.{Glimpse}
use Rattle.fitting.proofs.Fronts.{begins-line, edge-line, strays-line, same-begins, key-front}

-- ---- a row of a kind, with its text

pub row-kind : (t : List ℕ) (row : ℕ) (kind : Kind) → kind ≡ kind_of (get_or t (row * 16) 0) → (k : Kind) → kind ≡ k
    → (key : List ℕ) → row < length t / 16 → key ≡ text_at t row → first_row (drop (row * 16) t) ≡ row_as k (get_or t (row * 16 + 1) 0) key
row-kind t row kind e k f key h g = of_kind t (row * 16) kind e k f key (g ∙ text_at_lem t row h)

-- ---- a glimpse beside a look

-- the text has an LF
abbrev pub HasEnd : List ℕ → Type 0
HasEnd s = length (before 10 s) < length s

-- a step that was told, with the text of its row at the front, is what the look decides
record Kept (s : List ℕ) (v : Look) (step : Step) (width : ℕ) : Type 0 where
  within : width ≤ length s
  text : printed (take width s) ≡ true
  good : step.number ≡ 0
  takes : HasEnd s → v ≡ Look.Decided step

-- what is told at a row with a text, beside the look at it; it goes at most so deep
unfoldable Told : List ℕ → List ℕ → ℕ → Look → Glimpse → Type 0
Told key s deepest v (Glimpse.Edge step width) = printed key ≡ true → Kept s v step width × (step.slot ≡ 0) × (ends_line (drop width s) ≡ true)
Told key s deepest v (Glimpse.Field step width) = printed key ≡ true → Kept s v step width × (step.width ≡ width)
Told key s deepest v (Glimpse.Further deep unmarked) = (deep ≤ deepest) × (printed key ≡ true → HasEnd s → v ≡ Look.Further deep unmarked false)
Told key s deepest v Glimpse.Not = Unit

kept : (key s : List ℕ) (v : Look) (step : Step) → begins key s ≡ true → printed key ≡ true → step.number ≡ 0 → (HasEnd s → v ≡ Look.Decided step)
    → Kept s v step (length key)
kept key s v step e p z f = record { within = begins-length key s e; text = rw (key-front key s e) p; good = z; takes = f }

module _ (here : Place) (seen s : List ℕ) (row : ℕ) (rows : List Row) (deep : ℕ) (unmarked : Bool) where
  abbrev Held : Row → Glimpse → Type 0
  Held r = Told (row_text r) s (deep + 1) (against here seen (without_ending s) row rows unmarked false r)

  abbrev HeldBeneath : Row → Glimpse → Type 0
  HeldBeneath r = Told (row_text r) s (deep + 1) (beneath here (without_ending s) deep unmarked false r)

  -- a line that is the text of a row
  edge : (o : List ℕ) (v : Look) (step : Step) → is_edge s o ≡ true → step.number ≡ 0 → step.slot ≡ 0
      → (printed o ≡ true → HasEnd s → v ≡ Look.Decided step) → Told o s (deep + 1) v (Glimpse.Edge step (length o))
  unfolding Told is_edge
  edge o v step e z n f = λ p. (kept o s v step (and_left _ _ e) p z (f p), n, and_right (begins o s) _ e)

  glimpse-told : (r : Row) → Held r (glimpse here seen s row rows unmarked r)
  unfolding Told glimpse against row_text bar_text fits_or9 may_stop stops
  glimpse-told (field m sl k) =
      of-both (Held (field m sl k)) (begins k s)
      (λ e p. (kept k s _ _ e p refl (λ h. rw (← begins-line k s p, e)), refl))
      (λ e. of-both (Held (field m sl k)) m (λ f. tt) (λ f. (omega arith, λ p h. rw (← begins-line k s p, e, f))))
  glimpse-told (opens m o) =
      of-both (Held (opens m o)) (is_edge s o)
      (λ e. edge o _ _ e refl refl (λ p h. rw (← edge-line o s p h, e)))
      (λ e. of-both (Held (opens m o)) m (λ f. tt) (λ f. (omega arith, λ p h. rw (← edge-line o s p h, e, f))))
  glimpse-told (closes c) = of-both (Held (closes c)) (is_edge s c) (λ e. edge c _ _ e refl refl (λ p h. rw (← edge-line c s p h, e))) (λ e. tt)
  glimpse-told (many n a o) =
      of-both (Held (many n a o)) (is_edge s o && (a || lacks seen rows))
      (λ e. edge o _ _ (and_left _ _ e) refl refl (λ p h. rw (← edge-line o s p h, e)))
      (λ e. of-both (Held (many n a o)) (n && lacks seen rows) (λ f. tt) (λ f. (omega arith, λ p h. rw (← edge-line o s p h, e, f))))
  glimpse-told (mark sl k) =
      of-both (Held (mark sl k)) (begins k s)
      (λ e. of-both (Held (mark sl k)) (is_seen seen sl) (λ f. tt) (λ f p. (kept k s _ _ e p refl (λ h. rw (← begins-line k s p, e, f)), refl)))
      (λ e. (omega arith, λ p h. rw (← begins-line k s p, e)))
  glimpse-told (back c) = of-both (Held (back c)) (is_edge s c) (λ e. edge c _ _ e refl refl (λ p h. rw (← edge-line c s p h, e))) (λ e. tt)
  glimpse-told ends = tt
  glimpse-told (bar b) =
      of-both (Held (bar b)) (may_stop b (next_key rows) s) (λ e. tt) (λ e. (omega arith, λ p h. rw (passes b (next_key rows) e p)))
    where
      passes : (b : Bar) (key : List ℕ) → may_stop b key s ≡ false → printed (bar_text b) ≡ true → stops b key (without_ending s) ≡ false
      passes (surplus n o) key e p = same-begins o (without_ending s) (rw (← begins-line o s p) e)
      passes (only ws) key e p = strays-line key ws s p e

  beneath-told : (r : Row) → HeldBeneath r (glimpse_beneath s deep unmarked r)
  unfolding Told glimpse_beneath beneath row_text is_edge
  beneath-told (field m sl k) =
      of-both (HeldBeneath (field m sl k)) (unmarked && (eqb deep 1 && begins k s))
      (λ e. tt) (λ e. (omega arith, λ p h. rw (← begins-line k s p, e)))
  beneath-told (opens m o) = (omega arith, λ p h. refl)
  beneath-told (closes c) = (omega arith, λ p h. refl)
  beneath-told (many n a o) = (omega arith, λ p h. refl)
  beneath-told (mark sl k) = (omega arith, λ p h. refl)
  beneath-told (back c) =
      of-both (HeldBeneath (back c)) (unmarked && (eqb deep 1 && begins c s))
      (λ e. tt) (λ e. (omega arith, λ p h. rw (← edge-line c s p h, ← and_assoc (eqb deep 1), ← and_assoc unmarked, e)))
  beneath-told ends = (omega arith, λ p h. refl)
  beneath-told (bar b) = (omega arith, λ p h. refl)

  look-told : (r : Row) → Told (row_text r) s (deep + 1) (look here seen (without_ending s) row rows deep unmarked false r) (glimpse_at here seen s row rows deep unmarked r)
  unfolding look glimpse_at
  look-told r = at (eqb deep 0)
    where
      at : (t : Bool)
          → Told (row_text r) s (deep + 1)
          (cond t (against here seen (without_ending s) row rows unmarked false r) (beneath here (without_ending s) deep unmarked false r))
          (cond t (glimpse here seen s row rows unmarked r) (glimpse_beneath s deep unmarked r))
      at true = glimpse-told r
      at false = beneath-told r

-- ---- the rows of a table

clean_drop : (i : ℕ) (rows : List Row) → clean_rows rows ≡ true → clean_rows (drop i rows) ≡ true
unfolding clean_rows
clean_drop zero rows c = c
clean_drop (suc i) [] c = refl
clean_drop (suc i) (r ∷ rows) c = clean_drop i rows (and_right (printed (row_text r)) _ c)

clean_at : (t : List ℕ) (i : ℕ) → i < length t / 16 → clean_rows (rows_of t) ≡ true → printed (row_text (first_row (drop (i * 16) t))) ≡ true
unfolding clean_rows
clean_at t i h c = and_left _ _ (rw (row_next t i h) at (clean_drop i (rows_of t) c))

-- the rows from one on say of the first line what those from its place on say
abbrev pub Onward : List ℕ → Place → List ℕ → List ℕ → ℕ → ℕ → Bool → Type 0
Onward t here seen s row deep unmarked =
    clean_rows (rows_of t) ≡ true → HasEnd s
    → scan here seen (without_ending s) row (drop row (rows_of t)) deep unmarked false ≡ step_of (rows_of t) here seen (without_ending s)

pub onward-here : (t : List ℕ) (here : Place) (seen s : List ℕ) → Onward t here seen s here.row 0 false
unfolding step_of
onward-here t here seen s c l = refl

module _ (t : List ℕ) (here : Place) (seen s : List ℕ) (row deep : ℕ) (unmarked : Bool) (inv : Onward t here seen s row deep unmarked)
    (h : row < length t / 16) (g : Glimpse)
    (e : g ≡ glimpse_at here seen s row (drop (row + 1) (rows_of t)) deep unmarked (first_row (drop (row * 16) t))) where
  abbrev seen_at : Look
  seen_at = look here seen (without_ending s) row (drop (row + 1) (rows_of t)) deep unmarked false (first_row (drop (row * 16) t))

  told : Told (row_text (first_row (drop (row * 16) t))) s (deep + 1) seen_at g
  told = rw e (look-told here seen s row (drop (row + 1) (rows_of t)) deep unmarked (first_row (drop (row * 16) t)))

  fits : (step : Step) (width : ℕ) → clean_rows (rows_of t) ≡ true → Kept s seen_at step width → Fits (rows_of t) here seen s step width
  fits step width c k =
      record {
        within = k.within;
        text = k.text;
        good = k.good;
        takes = λ l. scan-stop here seen (without_ending s) t row deep unmarked false (inv c l) h seen_at refl step (k.takes l);
      }

  pub edge-fits : (step : Step) (width : ℕ) → g ≡ Glimpse.Edge step width → Fitted (rows_of t) here seen s (Some (Fit.Edge step width))
  unfolding Told Fitted
  edge-fits step width f c = let k = (rw f at told) (clean_at t row h c) in (fits step width c k.0, k.1, k.2)

  pub field_fits : (step : Step) (width : ℕ) → g ≡ Glimpse.Field step width → Fitted (rows_of t) here seen s (Some (Fit.Field step width))
  unfolding Told Fitted
  field_fits step width f c = let k = (rw f at told) (clean_at t row h c) in (fits step width c k.0, k.1)

  pub onward-more : (d : ℕ) (u : Bool) → g ≡ Glimpse.Further d u → (d ≤ deep + 1) × Onward t here seen s (row + 1) d u
  unfolding Told
  onward-more d u f =
      let k = rw f at told in (
        k.0,
        λ c l. (scan-more here seen (without_ending s) t row deep unmarked false (inv c l) h seen_at refl d u false (k.1 (clean_at t row h c) l)).1,
      )
