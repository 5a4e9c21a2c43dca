-- What a move can be: a line is refused with 8, 9 or the number of a bar, or it is taken for a slot that has its place, and such slots are left behind it.
-- Assumes nothing.
use Prim.Native.Nat.{ℕ, suc}
use mathlib.Core.Path.{◌≡◌, refl}
use mathlib.Core.Bool.{Bool, true, false, ◌&&◌, ◌||◌, cond, true≢false}
use mathlib.Core.List.{List, [], ◌∷◌}
use lib.Dec.{eqb, leb}
use Rattle.text.specs.Bytes.{begins, same}
use Rattle.bars.specs.Bars.{stops, bar_number}
use Rattle.text.proofs.Bools.{of-both}
use Rattle.text.proofs.Laws.{and_left, and_right, and_both}
use Rattle.layout.specs.Layout.{Taken, Run, refused_at, taken, with_taken}
use Rattle.sheets.specs.Trees.{Field, Member, Tree, last, line, block, group, barred, chain, lead_key}
use Rattle.sheets.specs.Sheets.{has, lacking}
use Rattle.sheets.specs.Taking.{Spot, within, first, over, Move, no, go, fit, next, seek, later_field, tell, move_of, following, walk, taken_by}
use Rattle.sheets.proofs.Checks.{good_slot, good_fields, good_members, good_tree}

-- ---- good slots

-- every slot of what is left has its place
unfoldable pub good_spot : Spot → Bool
good_spot (within t) = good_tree t
good_spot (first n a o c ms t) = good_tree (group n a o c ms t)
good_spot over = true

unfoldable pub good_trees : List Tree → Bool
good_trees [] = true
good_trees (t ∷ ts) = good_tree t && good_trees ts

-- a slot that is taken has its place, and so have those that are left
unfoldable pub GoodMove : Move → Type 0
GoodMove (no k) = Unit
GoodMove (go s w spot ts) = (eqb s 0 ≡ false → good_slot s ≡ true) × (good_spot spot ≡ true) × (good_trees ts ≡ true)

good-cond : (b : Bool) (x y : Move) → GoodMove x → GoodMove y → GoodMove (cond b x y)
good-cond true x y h k = h
good-cond false x y h k = k

good-fit : (p : Bool) (x : Move) → GoodMove x → GoodMove (fit p x)
unfolding fit GoodMove
good-fit p x h = good-cond p (no 9) x tt h

good-next : (ts : List Tree) → good_trees ts ≡ true → GoodMove (next ts)
unfolding next GoodMove good_trees good_spot
good-next [] g = (λ e. absurd (true≢false e), refl, refl)
good-next (t ∷ ts) g = (λ e. absurd (true≢false e), and_left _ _ g, and_right (good_tree t) _ g)

pub good-chain : (fs : List Field) (c : List ℕ) → good_fields fs ≡ true → good_tree (chain fs c) ≡ true
unfolding good_fields good_tree chain
good-chain [] c g = refl
good-chain (f ∷ fs) c g = and_both {a = good_slot f.slot} (and_left _ (good_fields fs) g) (good-chain fs c (and_right (good_slot f.slot) _ g))

module _ (slots l : List ℕ) where
  good-seek : (t : Tree) (ts : List Tree) (p : Bool) → good_tree t ≡ true → good_trees ts ≡ true → GoodMove (seek slots l p ts t)
  unfolding seek good_tree GoodMove good_trees good_spot
  good-seek (last c) ts p g h = good-cond (same c l) _ _ (good-fit p _ (good-next ts h)) tt
  good-seek (line f t) ts p g h =
      let k = and_right (good_slot f.slot) _ g in
      good-cond (begins f.key l) _ _ (good-fit p _ (λ e. and_left _ _ g, k, h)) (good-seek t ts (p || f.must) k h)
  good-seek (block m o t u) ts p g h =
      let k = and_right (good_tree t) _ g in
      good-cond (same o l) _ _ (good-fit p _ (λ e. absurd (true≢false e), and_left _ _ g, and_both k h)) (good-seek u ts (p || m) k h)
  good-seek (group n a o c ms t) ts p g h =
      good-cond (same o l && (a || lacking slots ms)) _ _ (good-fit p _ (λ e. absurd (true≢false e), g, h))
      (good-seek t ts (p || (n && lacking slots ms)) (and_right (good_members ms) _ g) h)
  good-seek (barred b t) ts p g h = good-cond (stops b (lead_key t) l) _ _ tt (good-seek t ts p (and_right (leb 1 (bar_number b)) _ g) h)

  good-tell : (ms : List Member) (c : List ℕ) (t : Tree) (ts : List Tree) → good_members ms ≡ true → good_tree t ≡ true → good_trees ts ≡ true
      → GoodMove (tell slots l c t ts ms)
  unfolding tell good_members GoodMove good_trees good_spot
  good-tell [] c t ts g k h = tt
  good-tell (m ∷ ms) c t ts g k h =
      let r = and_right (good_slot m.slot) _ g in
      good-cond (begins m.key l) _ _
      (good-cond (has slots m.slot) _ _ tt (λ e. and_left _ _ g, good-chain m.inside c (and_left _ _ r), and_both k h))
      (good-cond (later_field m.inside l || same c l) _ _ tt (good-tell ms c t ts (and_right (good_fields m.inside) _ r) k h))

  pub good-move : (spot : Spot) (ts : List Tree) → good_spot spot ≡ true → good_trees ts ≡ true → GoodMove (move_of slots l spot ts)
  unfolding move_of good_spot good_tree GoodMove
  good-move (within t) ts g h = good-seek t ts false g h
  good-move (first n a o c ms t) ts g h = good-tell ms c (group n a o c ms t) ts (and_left _ _ g) g h
  good-move over ts g h = tt

-- ---- numbers

-- the numbers of a tree's bars pass a test
unfoldable pub bars_pass : (ℕ → Bool) → Tree → Bool
bars_pass test (last c) = true
bars_pass test (line f t) = bars_pass test t
bars_pass test (block m o t u) = bars_pass test t && bars_pass test u
bars_pass test (group n a o c ms t) = bars_pass test t
bars_pass test (barred b t) = test (bar_number b) && bars_pass test t

unfoldable spot_passes : (ℕ → Bool) → Spot → Bool
spot_passes test (within t) = bars_pass test t
spot_passes test (first n a o c ms t) = bars_pass test t
spot_passes test over = true

unfoldable trees_pass : (ℕ → Bool) → List Tree → Bool
trees_pass test [] = true
trees_pass test (t ∷ ts) = bars_pass test t && trees_pass test ts

chain-passes : (test : ℕ → Bool) (fs : List Field) (c : List ℕ) → bars_pass test (chain fs c) ≡ true
unfolding bars_pass chain
chain-passes test [] c = refl
chain-passes test (f ∷ fs) c = chain-passes test fs c

-- none is the 0 of a line that is taken
pub good-bars : (t : Tree) → good_tree t ≡ true → bars_pass (leb 1) t ≡ true
unfolding good_tree bars_pass
good-bars (last c) g = refl
good-bars (line f t) g = good-bars t (and_right (good_slot f.slot) _ g)
good-bars (block m o t u) g = and_both (good-bars t (and_left _ _ g)) (good-bars u (and_right (good_tree t) _ g))
good-bars (group n a o c ms t) g = good-bars t (and_right (good_members ms) _ g)
good-bars (barred b t) g = and_both {a = leb 1 (bar_number b)} (and_left _ _ g) (good-bars t (and_right (leb 1 (bar_number b)) _ g))

-- the number of a refusal passes it too
abbrev pub NumberedRun : (ℕ → Bool) → Run → Type 0
NumberedRun test (refused_at k n) = test k ≡ true
NumberedRun test (taken ts) = Unit

module _ (test : ℕ → Bool) (eight : test 8 ≡ true) (nine : test 9 ≡ true) where
  -- where it is refused the number is 8, 9 or a bar's, and the bars that are left have no other
  unfoldable Numbered : Move → Type 0
  Numbered (no k) = test k ≡ true
  Numbered (go s w spot ts) = (spot_passes test spot ≡ true) × (trees_pass test ts ≡ true)

  is-8 : Numbered (no 8)
  unfolding Numbered
  is-8 = eight

  is-9 : Numbered (no 9)
  unfolding Numbered
  is-9 = nine

  numbered-cond : (b : Bool) (x y : Move) → Numbered x → Numbered y → Numbered (cond b x y)
  numbered-cond true x y h k = h
  numbered-cond false x y h k = k

  numbered_next : (ts : List Tree) → trees_pass test ts ≡ true → Numbered (next ts)
  unfolding next Numbered spot_passes trees_pass
  numbered_next [] h = (refl, refl)
  numbered_next (t ∷ ts) h = (and_left _ _ h, and_right (bars_pass test t) _ h)

  module _ (slots l : List ℕ) where
    numbered-seek : (t : Tree) (ts : List Tree) (p : Bool) → bars_pass test t ≡ true → trees_pass test ts ≡ true → Numbered (seek slots l p ts t)
    unfolding seek fit Numbered bars_pass spot_passes trees_pass
    numbered-seek (last c) ts p h k = numbered-cond (same c l) _ _ (numbered-cond p _ _ is-9 (numbered_next ts k)) is-8
    numbered-seek (line f t) ts p h k = numbered-cond (begins f.key l) _ _ (numbered-cond p _ _ is-9 (h, k)) (numbered-seek t ts (p || f.must) h k)
    numbered-seek (block m o t u) ts p h k =
        let r = and_right (bars_pass test t) _ h in
        numbered-cond (same o l) _ _ (numbered-cond p _ _ is-9 (and_left _ _ h, and_both r k)) (numbered-seek u ts (p || m) r k)
    numbered-seek (group n a o c ms t) ts p h k =
        numbered-cond (same o l && (a || lacking slots ms)) _ _ (numbered-cond p _ _ is-9 (h, k)) (numbered-seek t ts (p || (n && lacking slots ms)) h k)
    numbered-seek (barred b t) ts p h k =
        numbered-cond (stops b (lead_key t) l) _ _ (and_left (test (bar_number b)) _ h) (numbered-seek t ts p (and_right (test (bar_number b)) _ h) k)

    numbered-tell : (ms : List Member) (c : List ℕ) (t : Tree) (ts : List Tree) → bars_pass test t ≡ true → trees_pass test ts ≡ true → Numbered (tell slots l c t ts ms)
    unfolding tell Numbered spot_passes trees_pass
    numbered-tell [] c t ts h k = is-8
    numbered-tell (m ∷ ms) c t ts h k =
        numbered-cond (begins m.key l) _ _ (numbered-cond (has slots m.slot) _ _ is-8 (chain-passes test m.inside c, and_both h k))
        (numbered-cond (later_field m.inside l || same c l) _ _ is-9 (numbered-tell ms c t ts h k))

    numbered-move : (spot : Spot) (ts : List Tree) → spot_passes test spot ≡ true → trees_pass test ts ≡ true → Numbered (move_of slots l spot ts)
    unfolding move_of spot_passes bars_pass
    numbered-move (within t) ts h k = numbered-seek t ts false h k
    numbered-move (first n a o c ms t) ts h k = numbered-tell ms c (group n a o c ms t) ts h k
    numbered-move over ts h k = is-8

  -- and so of lines
  numbered-with : (t : Taken) (run : Run) → NumberedRun test run → NumberedRun test (with_taken t run)
  unfolding with_taken
  numbered-with t (refused_at k n) h = h
  numbered-with t (taken ts) h = tt

  numbered-following : (n : ℕ) (l slots : List ℕ) (move : Move) (rest : List ℕ → Spot → List Tree → Run) → Numbered move
      → ((slots' : List ℕ) (spot : Spot) (ts : List Tree) → spot_passes test spot ≡ true → trees_pass test ts ≡ true → NumberedRun test (rest slots' spot ts))
      → NumberedRun test (following n l slots move rest)
  unfolding following Numbered
  numbered-following n l slots (no k) rest h r = h
  numbered-following n l slots (go s w spot ts) rest h r =
      of-both (NumberedRun test) (eqb s 0) (λ e. r slots spot ts h.0 h.1) (λ e. numbered-with _ _ (r (s ∷ slots) spot ts h.0 h.1))

  numbered-walk : (ls : List (List ℕ)) (slots : List ℕ) (n : ℕ) (spot : Spot) (ts : List Tree) → spot_passes test spot ≡ true → trees_pass test ts ≡ true
      → NumberedRun test (walk slots n spot ts ls)
  unfolding walk
  numbered-walk [] slots n spot ts h k = tt
  numbered-walk (l ∷ ls) slots n spot ts h k =
      numbered-following n l slots (move_of slots l spot ts) _ (numbered-move slots l spot ts h k)
      (λ slots' spot' ts' h' k'. numbered-walk ls slots' (suc n) spot' ts' h' k')

  pub numbered : (t : Tree) (n : ℕ) (ls : List (List ℕ)) → bars_pass test t ≡ true → NumberedRun test (taken_by t n ls)
  unfolding taken_by spot_passes trees_pass
  numbered t n ls h = numbered-walk ls [] n (within t) [] h refl
