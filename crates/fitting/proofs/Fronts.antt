-- A text and its first line, held against a key of 20 to 7E hex: the one begins with the key where the other does; and where the text
-- holds an LF, its first line is the key where the text begins with the key and a line ending.
-- Assumes nothing.
use Prim.Native.Nat.{ℕ, zero, suc, ◌-◌, ◌/◌, ◌≤◌, ◌<◌}
use mathlib.Core.Path.{◌≡◌, refl, sym, ap, ◌∙◌}
use mathlib.Core.Bool.{Bool, true, false, ◌&&◌, not, cond, and-false, true≢false}
use mathlib.Core.List.{List, [], ◌∷◌, append-nil}
use native.Mathlib.Nat.{not-suc-le-zero, le_of_suc-le-suc}
use native.Mathlib.Omega.{arith}
use lib.Dec.{leb, eqb, eqb-suc-zero}
use lib.ListN.{length, take, drop}
use lib.Seq.{take_at}
use borrow.Author.Tests.{eqb-true, le-leb, lt-leb}
use Rattle.std.specs.Prelude.{Option, Some, None}
use Rattle.std.specs.Option.{option_map_or}
use Rattle.text.specs.Bytes.{bytes, begins, same, before, parts}
use Rattle.text.specs.Classes.{is_between, printed}
use Rattle.text.proofs.Laws.{and_left, and_right, and_both, same-eq, begins-append, begins-is, begins-length, rest_of}
use Rattle.text.proofs.Bools.{is_false}
use Rattle.bars.specs.Bars.{any_front, goes_on, strays}
use Rattle.lines.specs.Lines.{bare, without_ending, ending_width}
use Rattle.lines.proofs.Laws.{print-lf, bare-print}
use Rattle.fitting.specs.Fitting.{ends_line, is_edge}

-- ---- the first byte of a line

-- one of 20 to 7E hex stands in its line
line-more : (b : ℕ) (s : List ℕ) → is_between 32 126 b ≡ true → without_ending (b ∷ s) ≡ b ∷ without_ending s
unfolding without_ending before
line-more b s p = rw (print-lf b p) (bare-print b p (before 10 s))

-- a key that has another byte there is neither at the front of the line nor the line
other-bare : (k b : ℕ) (key s : List ℕ) → eqb b k ≡ false → (begins (k ∷ key) (bare (b ∷ s)) ≡ false) × (same (k ∷ key) (bare (b ∷ s)) ≡ false)
unfolding bare begins same
other-bare k b key [] e = at (eqb b 13)
  where
    at : (t : Bool) → (begins (k ∷ key) (cond t [] (b ∷ [])) ≡ false) × (same (k ∷ key) (cond t [] (b ∷ [])) ≡ false)
    at true = (refl, refl)
    at false = (rw e, rw e)
other-bare k b key (c ∷ s) e = (rw e, rw e)

other-line : (k b : ℕ) (key s : List ℕ) → eqb b k ≡ false
    → (begins (k ∷ key) (without_ending (b ∷ s)) ≡ false) × (same (k ∷ key) (without_ending (b ∷ s)) ≡ false)
unfolding without_ending before bare begins same
other-line k b key s e = at (eqb b 10)
  where
    at : (t : Bool) → (begins (k ∷ key) (bare (cond t [] (b ∷ before 10 s))) ≡ false) × (same (k ∷ key) (bare (cond t [] (b ∷ before 10 s))) ≡ false)
    at true = (refl, refl)
    at false = other-bare k b key (before 10 s) e

-- ---- a text begins with a key where its first line does

pub begins-line : (key s : List ℕ) → printed key ≡ true → begins key s ≡ begins key (without_ending s)
unfolding begins printed without_ending before bare
begins-line [] s p = refl
begins-line (k ∷ key) [] p = refl
begins-line (k ∷ key) (b ∷ s) p = at (begins-line key s (and_right (is_between 32 126 k) _ p)) (eqb b k) refl
  where
    at : begins key s ≡ begins key (without_ending s) → (t : Bool) → eqb b k ≡ t → begins (k ∷ key) (b ∷ s) ≡ begins (k ∷ key) (without_ending (b ∷ s))
    at ih true e = rw (line-more b s (rw (eqb-true b k e) (and_left _ _ p)), e) ih
    at ih false e = rw ((other-line k b key s e).0, e)

-- a line that does not begin with a key is not the key
pub same-begins : (key l : List ℕ) → begins key l ≡ false → same key l ≡ false
same-begins key l h = is_false (same key l) (λ e. true≢false (sym (begins-self key) ∙ (rw (← same-eq key l e) at h)))
  where
    begins-self : (k : List ℕ) → begins k k ≡ true
    begins-self k = rw (append-nil k) at (begins-append k [])

-- ---- a text strays where its first line does

-- the first byte of a line that is not empty
line_first : (k b : ℕ) (key s : List ℕ) → begins (k ∷ key) (without_ending (b ∷ s)) ≡ true → without_ending (b ∷ s) ≡ b ∷ without_ending s
unfolding without_ending before bare begins
line_first k b key s h = at (eqb b 10) h
  where
    alone : (t : Bool) → begins (k ∷ key) (cond t [] (b ∷ [])) ≡ true → cond t [] (b ∷ []) ≡ b ∷ []
    alone true e = absurd (true≢false (sym e))
    alone false e = refl

    more : (t : List ℕ) → begins (k ∷ key) (bare (b ∷ t)) ≡ true → bare (b ∷ t) ≡ b ∷ bare t
    more [] e = alone (eqb b 13) e
    more (c ∷ t) e = refl

    at : (t : Bool) → begins (k ∷ key) (bare (cond t [] (b ∷ before 10 s))) ≡ true → bare (cond t [] (b ∷ before 10 s)) ≡ b ∷ bare (before 10 s)
    at true e = absurd (true≢false (sym e))
    at false e = more (before 10 s) e

-- behind a key that a line begins with a word stands in the line where it stands in the text
word_line : (key w s : List ℕ) → printed w ≡ true → begins key (without_ending s) ≡ true
    → begins w (drop (length key) s) ≡ begins w (drop (length key) (without_ending s))
unfolding without_ending before bare begins
word_line [] w s p h = begins-line w s p
word_line (k ∷ key) w [] p h = refl
word_line (k ∷ key) w (b ∷ s) p h =
    let e = line_first k b key s h in
    rw e (word_line key w s p (and_right (eqb b k) _ (rw e at h)))

-- the parts of a text that can be printed
printed-take : (n : ℕ) (s : List ℕ) → printed s ≡ true → printed (take n s) ≡ true
unfolding printed
printed-take zero s p = refl
printed-take (suc n) [] p = refl
printed-take (suc n) (b ∷ s) p = and_both {a = is_between 32 126 b} (and_left (is_between 32 126 b) _ p) (printed-take n s (and_right (is_between 32 126 b) _ p))

printed-drop : (n : ℕ) (s : List ℕ) → printed s ≡ true → printed (drop n s) ≡ true
unfolding printed
printed-drop zero s p = p
printed-drop (suc n) [] p = refl
printed-drop (suc n) (b ∷ s) p = printed-drop n s (and_right (is_between 32 126 b) _ p)

any-line : (n : ℕ) (ws key s : List ℕ) → printed ws ≡ true → begins key (without_ending s) ≡ true
    → any_front (parts 4 n ws) (drop (length key) s) ≡ any_front (parts 4 n ws) (drop (length key) (without_ending s))
unfolding any_front parts
any-line zero ws key s p h = refl
any-line (suc n) ws key s p h = rw (word_line key (take 4 ws) s (printed-take 4 ws p) h, any-line n (drop 4 ws) key s (printed-drop 4 ws p) h)

-- a line is the first bytes of its text
begins-text : (key s : List ℕ) → begins key (without_ending s) ≡ true → begins key s ≡ true
unfolding without_ending before bare begins
begins-text [] s h = refl
begins-text (k ∷ key) [] h = h
begins-text (k ∷ key) (b ∷ s) h =
    let e = line_first k b key s h in
    let g : (eqb b k && begins key (without_ending s)) ≡ true = rw e at h in
    and_both (and_left (eqb b k) _ g) (begins-text key s (and_right (eqb b k) _ g))

pub strays-line : (key ws s : List ℕ) → printed ws ≡ true → strays key ws s ≡ false → strays key ws (without_ending s) ≡ false
unfolding strays goes_on
strays-line key ws s p h = at (begins key (without_ending s)) refl
  where
    at : (t : Bool) → begins key (without_ending s) ≡ t → (t && not (any_front (parts 4 (length ws / 4) ws) (drop (length key) (without_ending s)))) ≡ false
    at true e = rw (begins-text key s e, any-line (length ws / 4) ws key s p e) at h
    at false e = refl

-- ---- its first line is a key where a line ending follows that

-- an ending stands in front where the first line is empty
ends-empty : (s : List ℕ) → length (before 10 s) < length s → ends_line s ≡ same [] (without_ending s)
unfolding ends_line is_between without_ending before bare begins bytes same
ends-empty [] h = absurd (not-suc-le-zero h)
ends-empty (b ∷ s) h = rw (eqb-suc-zero (length s)) (at (eqb b 10) h)
  where
    -- a CR or not, in front of an LF or not
    two : (c : ℕ) (t : List ℕ) (r l : Bool) → eqb b 13 ≡ r → option_map_or (is_between 1 2) (cond (r && (l && true)) (Some 2) None) false ≡ same [] (bare (b ∷ cond l [] (c ∷ before 10 t)))
    two c t true true e = rw e
    two c t true false e = refl
    two c t false true e = rw e
    two c t false false e = refl

    more : (t : List ℕ) → suc (length (before 10 t)) < suc (length t)
        → option_map_or (is_between 1 2) (cond (eqb b 13 && begins (10 ∷ []) t) (Some 2) None) false ≡ same [] (bare (b ∷ before 10 t))
    more [] h = let z : ⊥ = omega arith in absurd z
    more (c ∷ t) h = two c t (eqb b 13) (eqb c 10) refl

    at : (t : Bool) → length (cond t [] (b ∷ before 10 s)) < suc (length s)
        → option_map_or (is_between 1 2) (cond (t && true) (Some 1) (cond (eqb b 13 && begins (10 ∷ []) s) (Some 2) None)) false ≡ same [] (bare (cond t [] (b ∷ before 10 s)))
    at true h = refl
    at false h = more s h

pub edge-line : (key s : List ℕ) → printed key ≡ true → length (before 10 s) < length s → is_edge s key ≡ same key (without_ending s)
unfolding is_edge begins printed before same
edge-line [] s p h = ends-empty s h
edge-line (k ∷ key) [] p h = absurd (not-suc-le-zero h)
edge-line (k ∷ key) (b ∷ s) p h = at (edge-line key s (and_right (is_between 32 126 k) _ p)) (eqb b k) refl
  where
    at : (length (before 10 s) < length s → is_edge s key ≡ same key (without_ending s)) → (t : Bool) → eqb b k ≡ t
        → is_edge (b ∷ s) (k ∷ key) ≡ same (k ∷ key) (without_ending (b ∷ s))
    at ih true e =
        let print : is_between 32 126 b ≡ true = rw (eqb-true b k e) (and_left _ _ p) in
        rw (line-more b s print, e) (ih (le_of_suc-le-suc (rw (print-lf b print) at h)))
    at ih false e = rw ((other-line k b key s e).1, e)

-- ---- a text that begins with a key

pub key-front : (key s : List ℕ) → begins key s ≡ true → take (length key) s ≡ key
key-front key s e = ap (take (length key)) (begins-is key s e) ∙ take_at key _ (length key) refl

-- the ending is looked at where the text begins with the key
module _ (key s : List ℕ) (b : Bool) (is : b ≡ begins key s) where
  module _ (e : b ≡ true) where
    pub front_within : length key ≤ length s
    front_within = begins-length key s (sym is ∙ e)

    module _ (o : Option ℕ) (f : o ≡ ending_width (take (length s - length key) (drop (length key) s))) where
      edge-ends : is_edge s key ≡ option_map_or (is_between 1 2) o false
      unfolding is_edge ends_line
      edge-ends = rw (f, rest_of (length key) (length s) s refl, ← is, e)

      pub edge_open : o ≡ None → false ≡ is_edge s key
      edge_open g = sym (edge-ends ∙ rw g)

      module _ (w : ℕ) (g : o ≡ Some w) where
        pub edge_told : (1 ≤ w) × (w ≤ 2) → true ≡ is_edge s key
        unfolding is_between
        edge_told h = sym (edge-ends ∙ rw (g, le-leb 1 w h.0, le-leb w 2 h.1))

        pub edge_zero : w < 1 → false ≡ is_edge s key
        unfolding is_between
        edge_zero l = sym (edge-ends ∙ rw (g, lt-leb 1 w l))

        pub edge_wide : 2 < w → false ≡ is_edge s key
        unfolding is_between
        edge_wide l = sym (edge-ends ∙ rw (g, lt-leb w 2 l, and-false (leb 1 w)))

  pub edge_none : b ≡ false → false ≡ is_edge s key
  unfolding is_edge
  edge_none e = rw (← is, e)
