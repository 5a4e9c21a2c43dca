-- The places of an accepted message's values, of any message type, with the amounts of some slots moved in to their shortest text, one
-- slot after the other: with all amounts so, what stands there is the values of the record.
-- Assumes nothing.
use Prim.Native.Nat.{ℕ, ◌+◌, ◌-◌, ◌≤◌, ◌<◌}
use mathlib.Core.Path.{◌≡◌, refl, sym, ap, ◌∙◌}
use mathlib.Core.Bool.{Bool, true, false, ◌&&◌, ◌||◌, not, cond}
use mathlib.Core.List.{List, [], ◌∷◌}
use native.Mathlib.Omega.{arith}
use lib.Dec.{leb, ltb, eqb}
use lib.ListN.{length, take, drop, get_or, set, length-set, length-take, length-drop, get_or-eq_default}
use borrow.Author.Tests.{leb-true, ltb-true, ltb-false, not-true}
use Rattle.text.proofs.Laws.{and_left, and_right}
use Rattle.stretches.specs.Stretches.{slot_count, between, stretch_of}
use Rattle.amount.specs.Amounts.{shortest_of}
use Rattle.amount.proofs.Shortening.{lies_within}
use Rattle.sheets.specs.Sheets.{has}
use Rattle.walk.specs.declared.Body.{Body}
use Rattle.format.specs.Format.{Format}
use Rattle.format.specs.Reading.{reading, verdict_of, read_of}
use Rattle.format.specs.Kept.{kept_of}
use Rattle.format.specs.Demands.{Accepted, held_in}
use Rattle.format.proofs.Tests.{all_below, all-at, no_length}
use Rattle.format.proofs.Laws.{every_slot, Layout, Laws}
use Rattle.format.proofs.Taken.{kept-taken}
use Rattle.format.proofs.Lent.{Amounts, Short, shortest-start, shortest-end, moved_at, behind-none, none-short, one_more, lent, taken-said}

-- ---- a moved place is still one

stretch-end : (m : List ℕ) (a b top : ℕ) → a ≤ top → length m ≤ top → a + length (between m a b) ≤ top
unfolding between
stretch-end m a b top h k = go (leb a b && leb b (length m)) refl
  where
    go : (x : Bool) → (leb a b && leb b (length m)) ≡ x → a + length (cond x (take (b - a) (drop a m)) []) ≤ top
    go true e =
        let i = leb-true a b (and_left _ _ e) in
        let j = leb-true b (length m) (and_right (leb a b) _ e) in
        let x = length-take (b - a) (drop a m) in
        let y = length-drop a m in
        omega arith
    go false e = omega arith

pub moved-fits : (m : List ℕ) (a b top : ℕ) → a ≤ top → length m ≤ top
    → (a + (shortest_of (between m a b)).from ≤ top) × (a + (shortest_of (between m a b)).to ≤ top)
moved-fits m a b top h l =
    let e = stretch-end m a b top h l in
    let w = lies_within (between m a b) in
    let c = w.0 in
    let d = w.1 in
    (omega arith, omega arith)

-- ---- values in a list: one test over its numbers tells that it has nothing for a number that names no slot

pub none-else : (F : Format) (vs : List (List ℕ)) → all_below (length vs) (λ s. has (every_slot F) s || eqb (length (get_or vs s [])) 0) ≡ true
    → (s : ℕ) → has (every_slot F) s ≡ false → get_or vs s [] ≡ []
none-else F vs h s e = on (ltb s (length vs)) refl
  where
    on : (b : Bool) → ltb s (length vs) ≡ b → get_or vs s [] ≡ []
    on true q = no_length _ (rw e at (all-at (length vs) (λ n. has (every_slot F) n || eqb (length (get_or vs n [])) 0) h s (ltb-true s (length vs) q)))
    on false q = get_or-eq_default vs [] (ltb-false s (length vs) q)

-- ---- an accepted message

module _ (F : Format) (L : Layout F) (W : Laws F) (m : List ℕ) (z : Accepted F m) where
  -- places with the amounts of some slots moved in
  pub record Places (ks starts ends : List ℕ) : Type 0 where
    pub starts-many : length starts ≡ slot_count
    pub ends-many : length ends ≡ slot_count
    pub short : Short F L W m z ks (stretch_of m starts ends)

  -- those that were kept
  pub none-moved : (r : Body) → r ≡ kept_of F m → length r.starts ≡ slot_count → length r.ends ≡ slot_count → Places [] r.starts r.ends
  unfolding read_of reading
  none-moved r is l e =
      let said = taken-said F L W m z r (is ∙ sym (kept-taken F m (verdict_of F m) refl z)) in
      record { starts-many = l; ends-many = e; short = none-short F L W m z (stretch_of m r.starts r.ends) said }

  -- one slot more
  pub one-moved : {ks starts ends : List ℕ} → Places ks starts ends → (k : ℕ) → k < slot_count → has ks k ≡ false → {starts' ends' : List ℕ}
      → starts' ≡ set starts k (shortest-start m starts ends k) → ends' ≡ set ends k (shortest-end m starts ends k) → Places (k ∷ ks) starts' ends'
  one-moved {ks} {starts} {ends} p k l o {starts'} {ends'} a b =
      record {
        starts-many = ap length a ∙ length-set starts k _ ∙ p.starts-many;
        ends-many = ap length b ∙ length-set ends k _ ∙ p.ends-many;
        short =
            one_more F L W m z ks (stretch_of m starts ends) (stretch_of m starts' ends') k l o p.short
            (λ s h. rw (a, b) (moved_at m starts ends k s (rw p.starts-many h) (rw p.ends-many h)));
      }

  -- with all amounts moved in they are the record's
  pub all_moved : (ks : List ℕ) → Amounts F ks → {starts ends : List ℕ} → Places ks starts ends → (s : ℕ) → stretch_of m starts ends s ≡ F.value_of (held_in F m) s
  all_moved ks A {starts} {ends} p =
      lent F L W m z ks A (stretch_of m starts ends) p.short (λ s h. behind-none m starts ends s (rw p.starts-many h) (rw p.ends-many h))

-- ---- the amounts of a list of slots moved in, one after the other

-- the places before and after
pub data Moves (m : List ℕ) : List ℕ → List ℕ → List ℕ → List ℕ → List ℕ → Type 0 where
  stay : {starts ends : List ℕ} → Moves m [] starts ends starts ends
  move : {k : ℕ} {ks starts ends starts' ends' starts'' ends'' : List ℕ}
      → (starts' ≡ set starts k (shortest-start m starts ends k)) × (ends' ≡ set ends k (shortest-end m starts ends k))
      → Moves m ks starts' ends' starts'' ends'' → Moves m (k ∷ ks) starts ends starts'' ends''

-- the slots that were moved, the last first, and that each has a place and is moved once
unfoldable pub onto : List ℕ → List ℕ → List ℕ
onto [] js = js
onto (k ∷ ks) js = onto ks (k ∷ js)

unfoldable pub movable : List ℕ → List ℕ → Bool
movable [] js = true
movable (k ∷ ks) js = (ltb k slot_count && not (has js k)) && movable ks (k ∷ js)

module _ (F : Format) (L : Layout F) (W : Laws F) (m : List ℕ) (z : Accepted F m) where
  pub some-moved : {ks js starts ends starts' ends' : List ℕ} → Moves m ks starts ends starts' ends' → movable ks js ≡ true
      → Places F L W m z js starts ends → Places F L W m z (onto ks js) starts' ends'
  unfolding onto movable
  some-moved stay t p = p
  some-moved {js = js} (move {k = k} e rest) t p =
      let h = and_left (ltb k slot_count && not (has js k)) _ t in
      some-moved rest (and_right (ltb k slot_count && not (has js k)) _ t)
      (one-moved F L W m z p k (ltb-true k slot_count (and_left _ _ h)) (not-true _ (and_right (ltb k slot_count) _ h)) e.0 e.1)
