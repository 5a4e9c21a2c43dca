-- The values of an accepted message, lent for writing as the stretches that its reading kept. The record's values are these, with the
-- amounts tidied; and an amount's stretch, moved in to its shortest text, is its tidied value.
-- Assumes nothing.
use Prim.Native.Nat.{ℕ, ◌+◌, ◌-◌, ◌≤◌, ◌<◌}
use mathlib.Core.Path.{◌≡◌, refl, sym, ap, ◌∙◌}
use mathlib.Core.Bool.{Bool, true, false, ◌&&◌, ◌||◌, not, cond, true≢false}
use mathlib.Core.List.{List, [], ◌∷◌}
use mathlib.Core.Logic.{inl, inr}
use native.Mathlib.Omega.{arith}
use lib.Dec.{leb, ltb, eqb}
use lib.ListN.{length, take, drop, get_or, set, length-take, length-drop, get_or-eq_default}
use lib.Seq.{take-take, drop-drop, drop-nil}
use borrow.Author.Tests.{le-leb, leb-true, ltb-true, ltb-false, eqb-true, not-true}
use Rattle.std.proofs.Common.{Some, None}
use Rattle.text.proofs.Laws.{and_left, and_right}
use Rattle.text.proofs.Bools.{is_false, or_left, or_right}
use Rattle.lines.specs.declared.Verdict.{Verdict}
use Rattle.lines.proofs.Laws.{drop-front, then-zero}
use Rattle.stretches.specs.Stretches.{slot_count, between, stretch_of}
use Rattle.amount.specs.Amounts.{is_amount, meaning, amount_read, amount_number, shortest_of}
use Rattle.amount.proofs.Shortening.{lies_within, shortest_in, shortest-tidy, shortest-none}
use Rattle.forms.specs.Forms.{Form, nothing, codes, characters, words, amount, date, moment, narrative, pool_narrative, other, form_number}
use Rattle.sheets.specs.Trees.{table_of}
use Rattle.sheets.specs.Slots.{slots_of}
use Rattle.sheets.specs.Sheets.{has}
use Rattle.sheets.proofs.Once.{has-append, outside}
use Rattle.sheets.proofs.Plain.{value-absent}
use Rattle.walk.specs.Walk.{taken_in}
use Rattle.walk.specs.declared.Body.{Body}
use Rattle.walk.proofs.Laws.{kept_at}
use Rattle.reader.specs.Take.{take_of}
use Rattle.reader.proofs.Laws.{nothing as no-stretch, pass_of, take-values}
use Rattle.format.specs.Format.{Format}
use Rattle.format.specs.Reading.{reading, body_of, value_on, rules_of, verdict_of, read_of}
use Rattle.format.specs.declared.Reading.{Reading}
use Rattle.format.specs.Lawful.{said_in, Lawful}
use Rattle.format.specs.Demands.{Accepted, held_in}
use Rattle.format.proofs.Tests.{every, every-at, number-form, is_amount_form, tidied, tidied-same, tidied-none, amount-some}
use Rattle.format.proofs.Laws.{every_slot, Layout, Placed, Laws, Filled}
use Rattle.format.proofs.Said.{said-is}
use Rattle.format.proofs.Rows.{rows-body, rows-verdict}
use Rattle.format.proofs.Accepting.{body-taken}
use Rattle.format.proofs.Plainly.{lawful-held}
use Rattle.format.proofs.Demands.{demands}

-- ---- a stretch moved in

-- a part of a stretch is a stretch
part-between : (m : List ℕ) (a b from to : ℕ) → from ≤ to → to ≤ length (between m a b)
    → between m (a + from) (a + to) ≡ take (to - from) (drop from (between m a b))
unfolding between
part-between m a b from to h = go (leb a b && leb b (length m)) refl
  where
    nothing-of : (x : Bool) (n : ℕ) (y : List ℕ) → n ≡ 0 → cond x (take n y) [] ≡ []
    nothing-of true n y e = rw e
    nothing-of false n y e = refl

    go : (x : Bool) → (leb a b && leb b (length m)) ≡ x → to ≤ length (cond x (take (b - a) (drop a m)) [])
        → cond (leb (a + from) (a + to) && leb (a + to) (length m)) (take (a + to - (a + from)) (drop (a + from) m)) []
        ≡ take (to - from) (drop from (cond x (take (b - a) (drop a m)) []))
    go true e l =
        let i : a ≤ b = leb-true a b (and_left _ _ e) in
        let j : b ≤ length m = leb-true b (length m) (and_right (leb a b) _ e) in
        let k : to ≤ b - a = let x = length-take (b - a) (drop a m) in let y = length-drop a m in omega arith in
        let n : a + to - (a + from) ≡ to - from = omega arith in
        rw (le-leb (a + from) (a + to) (omega arith), le-leb (a + to) (length m) (omega arith), n, drop-front from (b - a) (drop a m))
        (sym (take-take (to - from) (b - a - from) (drop from (drop a m)) (omega arith) ∙ ap (take (to - from)) (drop-drop from a m)))
    go false e l =
        let t : to - from ≡ 0 = omega arith in
        nothing-of (leb (a + from) (a + to) && leb (a + to) (length m)) (a + to - (a + from)) (drop (a + from) m) (omega arith) ∙ sym (rw t)

-- the places of a slot moved to its shortest text
module _ (m starts ends : List ℕ) (k : ℕ) where
  abbrev pub shortest-start : ℕ
  shortest-start = get_or starts k 0 + (shortest_of (stretch_of m starts ends k)).from

  abbrev pub shortest-end : ℕ
  shortest-end = get_or starts k 0 + (shortest_of (stretch_of m starts ends k)).to

  pub moved_at : (s : ℕ) → s < length starts → s < length ends
      → stretch_of m (set starts k shortest-start) (set ends k shortest-end) s ≡ cond (eqb k s) (shortest_in (stretch_of m starts ends k)) (stretch_of m starts ends s)
  unfolding stretch_of
  moved_at s l e =
      let v = stretch_of m starts ends k in
      kept_at m starts ends k shortest-start shortest-end s l e
      ∙ ap (λ (x : List ℕ). cond (eqb k s) x (stretch_of m starts ends s))
      (part-between m (get_or starts k 0) (get_or ends k 0) (shortest_of v).from (shortest_of v).to (lies_within v).0 (lies_within v).1)

-- a number behind the places has no stretch
pub behind-none : (m starts ends : List ℕ) (s : ℕ) → length starts ≤ s → length ends ≤ s → stretch_of m starts ends s ≡ []
unfolding stretch_of
behind-none m starts ends s h k = rw (get_or-eq_default starts 0 h, get_or-eq_default ends 0 k) (no-stretch m)

-- ---- the amounts of a message type

amount-is : (v : List ℕ) → amount_number (amount_read v) ≡ 0 → is_amount v ≡ true
unfolding amount_read
amount-is v e = go (is_amount v) refl e
  where
    go : (b : Bool) → is_amount v ≡ b → amount_number (cond b (Some (meaning v)) None) ≡ 0 → b ≡ true
    go true t h = refl
    go false t h = let z : ⊥ = omega arith in absurd z

short-form : (form : Form) (v : List ℕ) → is_amount_form form ≡ true → form_number form v ≡ 0 → shortest_in v ≡ tidied form v
unfolding is_amount_form form_number
short-form amount v h e = shortest-tidy v (amount-is v e) ∙ amount-some v e
short-form nothing v h e = absurd (true≢false (sym h))
short-form (codes least most) v h e = absurd (true≢false (sym h))
short-form (characters class least most) v h e = absurd (true≢false (sym h))
short-form (words ws) v h e = absurd (true≢false (sym h))
short-form date v h e = absurd (true≢false (sym h))
short-form moment v h e = absurd (true≢false (sym h))
short-form narrative v h e = absurd (true≢false (sym h))
short-form pool_narrative v h e = absurd (true≢false (sym h))
short-form other v h e = absurd (true≢false (sym h))

-- what is asked of a message type: every slot has its place, these slots and no others have amounts, and a record has nothing for a
-- number that names no slot
pub record Amounts (F : Format) (ks : List ℕ) : Type 0 where
  pub placed : Placed F
  pub slots : every (λ k. has (every_slot F) k) ks ≡ true
  pub forms : every (λ s. cond (has ks s) (is_amount_form (F.slot_of s).form) (not (is_amount_form (F.slot_of s).form))) (every_slot F) ≡ true
  pub none : (r : F.Held) (s : ℕ) → has (every_slot F) s ≡ false → F.value_of r s ≡ []

-- ---- an accepted message

module _ (F : Format) (L : Layout F) (W : Laws F) (m : List ℕ) (z : Accepted F m) where
  abbrev law : Lawful F m
  law = ((demands F L W).accepts-lawful m).0 z

  -- what it says of each slot
  abbrev pub said : ℕ → List ℕ
  said = said_in F m law.sheet

  said-none : (s : ℕ) → has (every_slot F) s ≡ false → said s ≡ []
  unfolding said_in every_slot
  said-none s e =
      let both = sym (has-append F.header (slots_of F.tree) s) ∙ e in
      let absent = value-absent law.sheet s (outside s law.laid (or_right (has F.header s) _ both)) in
      rw (or_left (has F.header s) _ both, absent) (drop-nil (length (F.slot_of s).fixed))

  -- its record has that, tidied
  held-value : (s : ℕ) → has (every_slot F) s ≡ true → F.value_of (held_in F m) s ≡ tidied (F.slot_of s).form (said s)
  held-value s i =
      ap (λ (x : Reading F.Held). F.value_of x.held s) ((demands F L W).reads-fields m law)
      ∙ (W.values-back said (lawful-held F L W m law) law.rules).1 s i

  -- an amount's shortest text is its tidied value
  short-value : (s : ℕ) → has (every_slot F) s ≡ true → is_amount_form (F.slot_of s).form ≡ true → shortest_in (said s) ≡ tidied (F.slot_of s).form (said s)
  short-value s i a = on ((lawful-held F L W m law).each s i)
    where
      on : Filled F s (said s) → shortest_in (said s) ≡ tidied (F.slot_of s).form (said s)
      on (inl (e, o)) = rw e (shortest-none ∙ sym (tidied-none (F.slot_of s).form))
      on (inr n) = short-form (F.slot_of s).form (said s) a (sym (number-form (F.slot_of s) (said s)) ∙ n)

  -- ---- the places that were kept

  verdict-is : (verdict_of F m).number ≡ 0
  unfolding read_of reading
  verdict-is = z

  -- what stands at a slot's places is what the message says of it
  pub taken-said : (r : Body) → r ≡ take_of (table_of F.tree) F.slot_of F.header m → (s : ℕ) → s < slot_count → stretch_of m r.starts r.ends s ≡ said s
  unfolding value_on taken_in
  taken-said r e s l =
      let rules = rules_of F (value_on F m (taken_in (body_of F m))) in
      let number : Verdict → ℕ = λ v. v.number in
      let pass = (then-zero (pass_of (table_of F.tree) F.slot_of F.header m) rules (ap number (rows-verdict F L.good m) ∙ verdict-is)).0 in
      let body = rows-body F L.good m ∙ body-taken F L m law.sheet law.laid law.lines in
      (rw body at (take-values (table_of F.tree) F.slot_of F.header m r e pass s l)) ∙ said-is F L m law.sheet 5 s law.laid

  -- values with the amounts of some slots in their shortest text
  pub record Short (ks : List ℕ) (h : ℕ → List ℕ) : Type 0 where
    pub is : (s : ℕ) → s < slot_count → h s ≡ cond (has ks s) (shortest_in (said s)) (said s)

  pub none-short : (h : ℕ → List ℕ) → ((s : ℕ) → s < slot_count → h s ≡ said s) → Short [] h
  unfolding has
  none-short h e = record { is = e }

  pub one_more : (ks : List ℕ) (h g : ℕ → List ℕ) (k : ℕ) → k < slot_count → has ks k ≡ false → Short ks h
      → ((s : ℕ) → s < slot_count → g s ≡ cond (eqb k s) (shortest_in (h k)) (h s)) → Short (k ∷ ks) g
  unfolding has
  one_more ks h g k l o w e = record { is = λ s i. e s i ∙ on s i (eqb k s) refl }
    where
      there : h k ≡ said k
      there = w.is k l ∙ rw o

      on : (s : ℕ) → s < slot_count → (b : Bool) → eqb k s ≡ b → cond b (shortest_in (h k)) (h s) ≡ cond (b || has ks s) (shortest_in (said s)) (said s)
      on s i true q = rw (there, eqb-true k s q)
      on s i false q = w.is s i

  -- with all amounts so, they are the record's
  pub lent : (ks : List ℕ) → Amounts F ks → (h : ℕ → List ℕ) → Short ks h → ((s : ℕ) → slot_count ≤ s → h s ≡ []) → (s : ℕ) → h s ≡ F.value_of (held_in F m) s
  lent ks A h w beyond s = at (has (every_slot F) s) refl
    where
      form : (b : Bool) → has ks s ≡ b → has (every_slot F) s ≡ true → cond b (shortest_in (said s)) (said s) ≡ tidied (F.slot_of s).form (said s)
      form true q i =
          short-value s i
          (rw q at (every-at (λ x. cond (has ks x) (is_amount_form (F.slot_of x).form) (not (is_amount_form (F.slot_of x).form))) (every_slot F) s A.forms i))
      form false q i =
          sym (tidied-same (F.slot_of s).form (said s)
          (not-true _ (rw q at (every-at (λ x. cond (has ks x) (is_amount_form (F.slot_of x).form) (not (is_amount_form (F.slot_of x).form))) (every_slot F) s A.forms i))))

      other-number : has (every_slot F) s ≡ false → has ks s ≡ false
      other-number e = is_false (has ks s) (λ q. true≢false (sym (every-at (λ k. has (every_slot F) k) ks s A.slots q) ∙ e))

      no_value : has (every_slot F) s ≡ false → (b : Bool) → ltb s slot_count ≡ b → h s ≡ []
      no_value e true q = w.is s (ltb-true s slot_count q) ∙ rw (other-number e) (said-none s e)
      no_value e false q = beyond s (ltb-false s slot_count q)

      at : (b : Bool) → has (every_slot F) s ≡ b → h s ≡ F.value_of (held_in F m) s
      at true i = w.is s (ltb-true s slot_count (every-at (λ x. ltb x slot_count) (every_slot F) s A.placed i)) ∙ form (has ks s) refl i ∙ sym (held-value s i)
      at false e = no_value e (ltb s slot_count) refl ∙ sym (A.none (held_in F m) s e)
