-- A line that has to go on with one of some words does so, where its value is one of its slot's words that each begin with one of them.
-- Assumes nothing.
use Prim.Native.Nat.{ℕ, zero, suc, ◌<◌}
use mathlib.Core.Path.{◌≡◌, refl, sym, subst, ◌∙◌}
use mathlib.Core.Bool.{Bool, true, false, ◌&&◌, ◌||◌, not, true≢false}
use mathlib.Core.List.{List, [], ◌∷◌, ◌++◌}
use lib.Dec.{eqb}
use lib.ListN.{length, drop, get_or}
use native.Mathlib.Nat.{not-suc-le-zero, le_of_suc-le-suc}
use borrow.Author.Tests.{ltb-true}
use Rattle.text.proofs.Bools.{or-one, or-two}
use Rattle.text.proofs.Laws.{and_left, and_right, and_both}
use Rattle.bars.specs.Bars.{Bar, surplus, only, goes_on}
use Rattle.forms.specs.Forms.{Form, nothing, codes, characters, words, amount, date, moment, narrative, pool_narrative, other, Slot, word_at, is_word, form_number, value_number}
use Rattle.forms.proofs.Laws.{unless-good, value-behind, word-at}
use Rattle.sheets.specs.Trees.{Field, Tree, last, line, block, group, barred}
use Rattle.sheets.specs.Sheets.{has}
use Rattle.sheets.specs.Slots.{slots_of, member_slots}
use Rattle.sheets.specs.Filled.{some, any_in}
use Rattle.sheets.proofs.Checks.{solid, solid_members, worded_bar, worded}
use Rattle.sheets.proofs.Emits.{has-front}
use Rattle.sheets.proofs.Once.{has-append}

-- ---- the test

unfoldable pub all_go_on : List ℕ → List ℕ → List (List ℕ) → Bool
all_go_on ws fixed [] = true
all_go_on ws fixed (w ∷ vs) = goes_on ws (fixed ++ w) && all_go_on ws fixed vs

-- every value that is good in a slot goes on with one of some words
unfoldable pub slot_agrees : List ℕ → List ℕ → Form → Bool
slot_agrees ws fixed nothing = false
slot_agrees ws fixed (codes least most) = false
slot_agrees ws fixed (characters class least most) = false
slot_agrees ws fixed (words vs) = all_go_on ws fixed vs
slot_agrees ws fixed amount = false
slot_agrees ws fixed date = false
slot_agrees ws fixed moment = false
slot_agrees ws fixed narrative = false
slot_agrees ws fixed pool_narrative = false
slot_agrees ws fixed other = false

unfoldable pub bar_agrees : (ℕ → Slot) → Bar → Tree → Bool
bar_agrees slot_of (surplus n o) t = true
bar_agrees slot_of (only ws) (last c) = true
bar_agrees slot_of (only ws) (line f t) = slot_agrees ws (slot_of f.slot).fixed (slot_of f.slot).form
bar_agrees slot_of (only ws) (block m o t u) = true
bar_agrees slot_of (only ws) (group n a o c ms t) = true
bar_agrees slot_of (only ws) (barred b t) = true

unfoldable pub words_agree : (ℕ → Slot) → Tree → Bool
words_agree slot_of (last c) = true
words_agree slot_of (line f t) = words_agree slot_of t
words_agree slot_of (block m o t u) = words_agree slot_of t && words_agree slot_of u
words_agree slot_of (group n a o c ms t) = words_agree slot_of t
words_agree slot_of (barred b t) = bar_agrees slot_of b t && words_agree slot_of t

-- ---- the rule that it gives

go-on-at : (ws fixed : List ℕ) (vs : List (List ℕ)) (i : ℕ) → all_go_on ws fixed vs ≡ true → i < length vs → goes_on ws (fixed ++ get_or vs i []) ≡ true
unfolding all_go_on
go-on-at ws fixed [] i h l = absurd (not-suc-le-zero l)
go-on-at ws fixed (w ∷ vs) zero h l = and_left (goes_on ws (fixed ++ w)) _ h
go-on-at ws fixed (w ∷ vs) (suc i) h l = go-on-at ws fixed vs i (and_right (goes_on ws (fixed ++ w)) _ h) (le_of_suc-le-suc l)

word-goes-on : (ws fixed : List ℕ) (vs : List (List ℕ)) (v : List ℕ) → all_go_on ws fixed vs ≡ true → is_word vs v ≡ true → goes_on ws (fixed ++ v) ≡ true
unfolding is_word
word-goes-on ws fixed vs v h e = subst (λ (x : List ℕ). goes_on ws (fixed ++ x) ≡ true) (word-at vs v e) (go-on-at ws fixed vs (word_at vs v) h (ltb-true _ _ e))

form-goes-on : (ws fixed : List ℕ) (form : Form) (v : List ℕ) → slot_agrees ws fixed form ≡ true → form_number form v ≡ 0 → goes_on ws (fixed ++ v) ≡ true
unfolding slot_agrees form_number
form-goes-on ws fixed nothing v h z = absurd (true≢false (sym h))
form-goes-on ws fixed (codes least most) v h z = absurd (true≢false (sym h))
form-goes-on ws fixed (characters class least most) v h z = absurd (true≢false (sym h))
form-goes-on ws fixed (words vs) v h z = word-goes-on ws fixed vs v h (unless-good (is_word vs v) z)
form-goes-on ws fixed amount v h z = absurd (true≢false (sym h))
form-goes-on ws fixed date v h z = absurd (true≢false (sym h))
form-goes-on ws fixed moment v h z = absurd (true≢false (sym h))
form-goes-on ws fixed narrative v h z = absurd (true≢false (sym h))
form-goes-on ws fixed pool_narrative v h z = absurd (true≢false (sym h))
form-goes-on ws fixed other v h z = absurd (true≢false (sym h))

good-agrees : (ws : List ℕ) (slot : Slot) (v : List ℕ) → slot_agrees ws slot.fixed slot.form ≡ true → value_number slot v ≡ 0 → goes_on ws v ≡ true
good-agrees ws slot v h z =
    let (e, q) = value-behind slot v z in
    subst (λ (x : List ℕ). goes_on ws x ≡ true) (sym e) (form-goes-on ws slot.fixed slot.form (drop (length slot.fixed) v) h q)

module _ (slot_of : ℕ → Slot) (value : ℕ → List ℕ) where
  -- a value that stands is good in its slot
  abbrev Good : List ℕ → Type 0
  Good ss = (s : ℕ) → has ss s ≡ true → some (value s) ≡ true → value_number (slot_of s) (value s) ≡ 0

  bar-worded : (b : Bar) (t : Tree) → bar_agrees slot_of b t ≡ true → Good (slots_of t) → solid value t ≡ true → worded_bar value b t ≡ true
  unfolding bar_agrees worded_bar slots_of solid
  bar-worded (surplus n o) t h g k = refl
  bar-worded (only ws) (last c) h g k = refl
  bar-worded (only ws) (line f t) h g k = go f.must (some (value f.slot)) refl (and_left (not f.must || some (value f.slot)) _ k)
    where
      go : (m b : Bool) → some (value f.slot) ≡ b → (not m || b) ≡ true → (not (m || b) || goes_on ws (value f.slot)) ≡ true
      go m true e q = or-two (not (m || true)) _ (good-agrees ws (slot_of f.slot) (value f.slot) h (g f.slot (has-front f.slot (slots_of t)) e))
      go true false e q = absurd (true≢false (sym q))
      go false false e q = refl
  bar-worded (only ws) (block m o t u) h g k = refl
  bar-worded (only ws) (group n a o c ms t) h g k = refl
  bar-worded (only ws) (barred b t) h g k = refl

  where-it-stands : (b : Bool) {x y : Bool} → (x ≡ true → y ≡ true) → (not b || x) ≡ true → (not b || y) ≡ true
  where-it-stands true f q = f q
  where-it-stands false f q = refl

  pub agree-worded : (t : Tree) → words_agree slot_of t ≡ true → Good (slots_of t) → solid value t ≡ true → worded value t ≡ true
  unfolding words_agree worded slots_of solid has
  agree-worded (last c) h g k = refl
  agree-worded (line f t) h g k = agree-worded t h (λ s e. g s (or-two (eqb f.slot s) _ e)) (and_right (not f.must || some (value f.slot)) _ k)
  agree-worded (block m o t u) h g k =
      let x = not (m || any_in value t) || solid value t in
      and_both
      (where-it-stands (m || any_in value t)
      (λ q. agree-worded t (and_left (words_agree slot_of t) _ h) (λ s e. g s (has-append (slots_of t) (slots_of u) s ∙ or-one (has (slots_of t) s) _ e)) q) (and_left x _ k))
      (agree-worded u (and_right (words_agree slot_of t) _ h) (λ s e. g s (has-append (slots_of t) (slots_of u) s ∙ or-two (has (slots_of t) s) _ e)) (and_right x _ k))
  agree-worded (group n a o c ms t) h g k =
      agree-worded t h (λ s e. g s (has-append (member_slots ms) (slots_of t) s ∙ or-two (has (member_slots ms) s) _ e)) (and_right (solid_members value ms) _ k)
  agree-worded (barred b t) h g k = and_both (bar-worded b t (and_left (bar_agrees slot_of b t) _ h) g k) (agree-worded t (and_right (bar_agrees slot_of b t) _ h) g k)
