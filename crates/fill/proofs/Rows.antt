-- The mathematics of the crate's functions, over plain lists and numbers: the rows of a table by the numbers of their kinds, and
-- the walk over them.
-- Assumes nothing.
use Prim.Native.Nat.{ℕ, zero, suc, ◌+◌, ◌-◌, ◌*◌, ◌/◌, ◌≤◌, ◌<◌}
use mathlib.Core.Path.{◌≡◌, refl, sym, ap, ◌∙◌}
use mathlib.Core.Bool.{Bool, true, false, ◌&&◌, ◌||◌, not, cond}
use mathlib.Core.List.{List, [], ◌∷◌, ◌++◌}
use native.Mathlib.Omega.{arith}
use lib.Dec.{leb, ltb, eqb}
use lib.ListN.{length, drop, get_or, length-append, get_or-eq_default}
use borrow.Author.Tests.{leb-true, ne_eqb, lt-ltb, le-ltb, ltb-true, ltb-false}
use Rattle.text.specs.Bytes.{before}
use Rattle.text.proofs.Laws.{and_left, and_right}
use Rattle.text.proofs.Bools.{eqb-turn}
use Rattle.layout.specs.Rows.{Row, field, opens, closes, many, mark, back, ends, bar, row_of, kind_of, text_at, first_row, rows_of}
use Rattle.layout.proofs.ByKind.{by_kind}
use Rattle.layout.proofs.Laws.{row_next, row-none, row_at, text_at_lem, text-none}
use Rattle.sheets.specs.Filled.{some}
use Rattle.fill.specs.Runs.{over_run, behind_run}
use Rattle.fill.specs.Filling.{is_any, with_ending, held_parts, lower, deeper, has_value, any_rows, stands, opener, puts, walk}
use Rattle.layout.specs.declared.Kind.{Kind}
use Rattle.fill.specs.Steps.{number, number_at, is_held, is_edge, line_parts, is_on, next_parts, next_off}
use Rattle.fill.proofs.Runs.{Run, then, none-run, over-append, behind-append, length_run}
use Rattle.fill.proofs.Trees.{any_none}

-- ---- numbers in a list

ltb_next : (a b : ℕ) → ltb (suc a) (suc b) ≡ ltb a b
ltb_next a b = go (ltb a b) refl
  where
    go : (t : Bool) → ltb a b ≡ t → ltb (suc a) (suc b) ≡ t
    go true e = let h = ltb-true a b e in lt-ltb (suc a) (suc b) (omega arith)
    go false e = let h = ltb-false a b e in le-ltb (suc a) (suc b) (omega arith)

-- a number is found among others exactly when it is one of them
pub found : (ns : List ℕ) (s : ℕ) → ltb (length (before s ns)) (length ns) ≡ is_any ns s
unfolding before
found [] s = refl
found (n ∷ ns) s = rw (eqb-turn s n) (go (found ns s) (eqb n s))
  where
    go : ltb (length (before s ns)) (length ns) ≡ is_any ns s → (t : Bool) → ltb (length (cond t [] (n ∷ before s ns))) (suc (length ns)) ≡ (t || is_any ns s)
    go ih true = lt-ltb 0 (suc (length ns)) (omega arith)
    go ih false = ltb_next (length (before s ns)) (length ns) ∙ ih

-- ---- what stands behind the text of a slot

some-long : (v : List ℕ) → some v ≡ not (eqb (length v) 0)
unfolding some
some-long [] = refl
some-long (b ∷ v) = rw (ne_eqb (suc (length v)) 0 (λ h. let z : ⊥ = omega arith in z))

module _ (front v : List ℕ) where
  pub value_there : (length v ≡ 0 → ⊥) → true ≡ some (front ++ v)
  value_there z =
      let l = length-append front v in
      rw (some-long (front ++ v), ne_eqb (length (front ++ v)) 0 (λ h. z (omega arith)))

  pub front-there : length v ≡ 0 → not (eqb (length front) 0) ≡ some (front ++ v)
  front-there z =
      let l : length (front ++ v) ≡ length front = length-append front v ∙ omega arith in
      rw (some-long (front ++ v), l)

-- ---- rows by the numbers of their kinds

pub lower-is : (n : ℕ) → (n ≡ 0 → ⊥) → n - 1 ≡ lower n
unfolding lower
lower-is zero h = absurd (h refl)
lower-is (suc n) h = omega arith

-- a number above all kinds is none of them
abbrev kinds : List ℕ → Bool
kinds [] = true
kinds (n ∷ ns) = leb n 11 && kinds ns

none_above : (ns : List ℕ) (m : ℕ) → kinds ns ≡ true → 11 < m → is_any ns m ≡ false
none_above [] m e h = refl
none_above (n ∷ ns) m e h =
    let l = leb-true n 11 (and_left _ _ e) in
    rw (ne_eqb m n (λ z. let w : ⊥ = omega arith in w)) (none_above ns m (and_right (leb n 11) _ e) h)

-- ---- what the code does, by the number of the kind

module _ (s : ℕ) (k : List ℕ) where
  pub deeper-by : (n d : ℕ) → deeper (row_of n s k) d ≡ cond (is_any (3 ∷ 4 ∷ 8 ∷ []) n) (suc d) (cond (is_any (5 ∷ 9 ∷ []) n) (lower d) d)
  unfolding deeper
  deeper-by n d =
      by_kind (λ m r. deeper r d ≡ cond (is_any (3 ∷ 4 ∷ 8 ∷ []) m) (suc d) (cond (is_any (5 ∷ 9 ∷ []) m) (lower d) d)) s k
      refl refl refl refl refl refl refl refl refl refl refl refl
      (λ m h. rw (none_above (3 ∷ 4 ∷ 8 ∷ []) m refl h, none_above (5 ∷ 9 ∷ []) m refl h)) n

  pub has-by : (value : ℕ → List ℕ) (n : ℕ) → has_value value (row_of n s k) ≡ cond (is_any (1 ∷ 2 ∷ []) n) (some (value s)) (cond (eqb n 8) (some (value s)) false)
  unfolding has_value
  has-by value n =
      by_kind (λ m r. has_value value r ≡ cond (is_any (1 ∷ 2 ∷ []) m) (some (value s)) (cond (eqb m 8) (some (value s)) false)) s k
      refl refl refl refl refl refl refl refl refl refl refl refl
      (λ m h. rw (none_above (1 ∷ 2 ∷ []) m refl h, ne_eqb m 8 (λ z. let w : ⊥ = omega arith in w))) n

  pub stands_by : (value : ℕ → List ℕ) (rows : List Row) (n : ℕ)
      → stands value rows (row_of n s k) ≡ cond (is_held n) (eqb n 1 || some (value s)) (cond (is_edge n) (cond (eqb n 4) (any_rows value 1 rows) true) true)
  unfolding stands
  stands_by value rows n =
      by_kind (λ m r. stands value rows r ≡ cond (is_held m) (eqb m 1 || some (value s)) (cond (is_edge m) (cond (eqb m 4) (any_rows value 1 rows) true) true)) s k
      refl refl refl refl refl refl refl refl refl refl refl refl
      (λ m h. rw (none_above (1 ∷ 2 ∷ 8 ∷ []) m refl h, none_above (3 ∷ 4 ∷ 5 ∷ 9 ∷ []) m refl h)) n

  pub puts-by : (parts : ℕ → List (List ℕ)) (first : List ℕ) (n : ℕ)
      → puts parts first (row_of n s k) ≡ cond (is_held n) (cond (eqb n 8) (with_ending first) [] ++ held_parts parts s k) (cond (is_edge n) (with_ending k) [])
  unfolding puts
  puts-by parts first n =
      by_kind (λ m r. puts parts first r ≡ cond (is_held m) (cond (eqb m 8) (with_ending first) [] ++ held_parts parts s k) (cond (is_edge m) (with_ending k) [])) s k
      refl refl refl refl refl refl refl refl refl refl refl refl
      (λ m h. rw (none_above (1 ∷ 2 ∷ 8 ∷ []) m refl h, none_above (3 ∷ 4 ∷ 5 ∷ 9 ∷ []) m refl h)) n

  -- the last many blocks
  pub opener-is : (first : List ℕ) (n : ℕ) → opener first (row_of n s k) ≡ cond (is_any (6 ∷ 7 ∷ []) n) k first
  unfolding opener
  opener-is first n =
      by_kind (λ m r. opener first r ≡ cond (is_any (6 ∷ 7 ∷ []) m) k first) s k refl refl refl refl refl refl refl refl refl refl refl refl
      (λ m h. rw (none_above (6 ∷ 7 ∷ []) m refl h)) n

-- no other row opens many blocks
many_by : (n : ℕ) → is_any (6 ∷ 7 ∷ []) n ≡ cond (is_held n) false (cond (is_edge n) false (is_any (6 ∷ 7 ∷ []) n))
many_by n =
    by_kind (λ m r. is_any (6 ∷ 7 ∷ []) m ≡ cond (is_held m) false (cond (is_edge m) false (is_any (6 ∷ 7 ∷ []) m))) 0 [] refl refl refl refl refl refl refl refl refl refl refl refl
    (λ m h. rw (none_above (6 ∷ 7 ∷ []) m refl h, none_above (1 ∷ 2 ∷ 8 ∷ []) m refl h, none_above (3 ∷ 4 ∷ 5 ∷ 9 ∷ []) m refl h)) n

-- ---- a row further

-- a number above all kinds is that of the end
same_row : (n slot : ℕ) (key : List ℕ) → row_of n slot key ≡ row_of (number (kind_of n)) slot key
unfolding row_of kind_of
same_row n slot key =
    by_kind (λ n r. r ≡ row_of (number (kind_of n)) slot key) slot key refl refl refl refl refl refl refl refl refl refl refl refl
    (λ n h. rw (get_or-eq_default _ Kind.End h)) n

-- a row of a table's bytes, by the number of its kind, its slot and its text
row_is : (t : List ℕ) (row : ℕ) → row < length t / 16 → first_row (drop (row * 16) t) ≡ row_of (number_at t row) (get_or t (row * 16 + 1) 0) (text_at t row)
row_is t row h = row_at t (row * 16) ∙ same_row _ _ _ ∙ rw (text_at_lem t row h)

-- kinds are told apart by their numbers
numbered : (k : Kind) → kind_of (number k) ≡ k
unfolding kind_of
numbered Kind.End = refl
numbered Kind.Field = refl
numbered Kind.MayField = refl
numbered Kind.Opens = refl
numbered Kind.MayOpen = refl
numbered Kind.Closes = refl
numbered Kind.Many = refl
numbered Kind.OneMore = refl
numbered Kind.Mark = refl
numbered Kind.ManyClose = refl
numbered Kind.Surplus = refl
numbered Kind.Only = refl

pub apart : (k j : Kind) → (k ≡ j → ⊥) → number k ≡ number j → ⊥
apart k j h e = h (sym (numbered k) ∙ ap kind_of e ∙ numbered j)

deeper-most : (r : Row) (d : ℕ) → deeper r d ≤ d + 1
unfolding deeper lower
deeper-most (field m s k) d = omega arith
deeper-most (opens m o) d = omega arith
deeper-most (closes c) zero = omega arith
deeper-most (closes c) (suc d) = omega arith
deeper-most (many n a o) d = omega arith
deeper-most (mark s k) d = omega arith
deeper-most (back c) zero = omega arith
deeper-most (back c) (suc d) = omega arith
deeper-most ends d = omega arith
deeper-most (bar b) d = omega arith

module _ (value : ℕ → List ℕ) where
  any_step : (d : ℕ) (r : Row) (rows : List Row) → (d ≡ 0 → ⊥) → any_rows value d (r ∷ rows) ≡ (has_value value r || any_rows value (deeper r d) rows)
  unfolding any_rows
  any_step zero r rows h = absurd (h refl)
  any_step (suc d) r rows h = refl

  -- from a row on; the value that is looked for is that of the first row
  module _ (t : List ℕ) (row i d : ℕ) (inv : any_rows value d (drop i (rows_of t)) ≡ any_rows value 1 (drop row (rows_of t))) where
    pub any-shut : d ≡ 0 → false ≡ any_rows value 1 (drop row (rows_of t))
    any-shut e = sym (any_none value (drop i (rows_of t))) ∙ (rw e at inv)

    pub any-end : length t / 16 ≤ i → false ≡ any_rows value 1 (drop row (rows_of t))
    unfolding any_rows
    any-end h = rw (row-none t i h) at inv

    module _ (h : i < length t / 16) (n : d ≡ 0 → ⊥) (b : Bool) (e : b ≡ has_value value (row_of (number_at t i) (get_or t (i * 16 + 1) 0) [])) where
      step : (has_value value (row_of (number_at t i) (get_or t (i * 16 + 1) 0) []) || any_rows value (deeper (row_of (number_at t i) 0 []) d) (drop (i + 1) (rows_of t)))
          ≡ any_rows value 1 (drop row (rows_of t))
      step =
          let k = number_at t i in
          let s = get_or t (i * 16 + 1) 0 in
          sym (rw (row_next t i h, row_is t i h) (any_step d (row_of k s (text_at t i)) (drop (i + 1) (rows_of t)) n ∙ rw (has-by s (text_at t i) value k, ← has-by s [] value k, deeper-by s (text_at t i) k d, ← deeper-by 0 [] k d))) ∙ inv

      pub any_found : b ≡ true → true ≡ any_rows value 1 (drop row (rows_of t))
      any_found f = rw (← e, f) at step

      pub any-more : b ≡ false → (d' : ℕ) → d' ≡ deeper (row_of (number_at t i) 0 []) d → any_rows value d' (drop (i + 1) (rows_of t)) ≡ any_rows value 1 (drop row (rows_of t))
      any-more f d' g = rw g (rw (← e, f) at step)

  pub deep_more : (k d d' i : ℕ) → d ≤ i + 1 → d' ≡ deeper (row_of k 0 []) d → d' ≤ i + 1 + 1
  deep_more k d d' i h e = let m = deeper-most (row_of k 0 []) d in omega arith

-- ---- the walk, a row further

module _ (value : ℕ → List ℕ) (parts : ℕ → List (List ℕ)) where
  pub walk-next : (first : List ℕ) (off : ℕ) (r : Row) (rows : List Row)
      → walk value parts first off (r ∷ rows) ≡ next_parts value parts first off rows r ++ walk value parts (opener first r) (next_off value off rows r) rows
  unfolding walk is_on next_parts next_off
  walk-next first zero r rows = go (stands value rows r)
    where
      go : (b : Bool) → cond b (puts parts first r ++ walk value parts (opener first r) zero rows) (walk value parts (opener first r) (deeper r zero) rows)
          ≡ cond b (puts parts first r) [] ++ walk value parts (opener first r) (cond b 0 (deeper r zero)) rows
      go true = refl
      go false = refl
  walk-next first (suc off) r rows = rw (ne_eqb (suc off) 0 (λ h. let z : ⊥ = omega arith in z))

  pub walk_none : (first : List ℕ) (off : ℕ) → walk value parts first off [] ≡ []
  unfolding walk
  walk_none first zero = refl
  walk_none first (suc off) = refl

  -- what one row of a table does to the walk
  abbrev pub Next : List ℕ → ℕ → ℕ → ℕ → List ℕ → ℕ → List ℕ → ℕ → ℕ → ℕ → Type 0
  Next t row off place buf at buf' at' off' place' =
      (buf' ≡ over_run buf at (next_parts value parts (text_at t place) off (drop (row + 1) (rows_of t)) (first_row (drop (row * 16) t))))
      × (at' ≡ behind_run buf at (next_parts value parts (text_at t place) off (drop (row + 1) (rows_of t)) (first_row (drop (row * 16) t))))
      × (off' ≡ next_off value off (drop (row + 1) (rows_of t)) (first_row (drop (row * 16) t)))
      × (text_at t place' ≡ opener (text_at t place) (first_row (drop (row * 16) t)))

  module _ (t : List ℕ) (row off place place' : ℕ) (buf : List ℕ) (at : ℕ) (h : row < length t / 16) where
    abbrev pub kind : ℕ
    kind = number_at t row

    abbrev pub slot : ℕ
    slot = get_or t (row * 16 + 1) 0

    abbrev pub behind : List Row
    behind = drop (row + 1) (rows_of t)

    opened : place' ≡ cond (is_any (6 ∷ 7 ∷ []) kind) row place → text_at t place' ≡ opener (text_at t place) (row_of kind slot (text_at t row))
    opened e = rw e (sym (opener-is slot (text_at t row) (text_at t place) kind ∙ choice (is_any (6 ∷ 7 ∷ []) kind)))
      where
        choice : (b : Bool) → cond b (text_at t row) (text_at t place) ≡ text_at t (cond b row place)
        choice true = refl
        choice false = refl

    on-is : is_on value off behind (row_of kind slot (text_at t row)) ≡ is_on value off behind (row_of kind slot [])
    unfolding is_on
    on-is = rw (stands_by slot (text_at t row) value behind kind, ← stands_by slot [] value behind kind)

    pub next-on : (b : Bool) → b ≡ is_on value off behind (row_of kind slot []) → b ≡ true → place' ≡ cond (is_any (6 ∷ 7 ∷ []) kind) row place
        → (key first : List ℕ) → key ≡ text_at t row → first ≡ text_at t place → (at' : ℕ) (buf' : List ℕ) → Run buf at (puts parts first (row_of kind slot key)) at' buf'
        → Next t row off place buf at buf' at' 0 place'
    unfolding next_parts next_off
    next-on b e g o key first k l at' buf' q =
        let p : Run buf at (puts parts (text_at t place) (row_of kind slot (text_at t row))) at' buf' = rw (← k, ← l) q in
        let f : is_on value off behind (row_of kind slot (text_at t row)) ≡ true = on-is ∙ sym e ∙ g in
        rw (row_is t row h, f) (p.1, p.0, refl, opened o)

    pub next_past : (b : Bool) → b ≡ is_on value off behind (row_of kind slot []) → b ≡ false → place' ≡ cond (is_any (6 ∷ 7 ∷ []) kind) row place
        → (off' : ℕ) → off' ≡ deeper (row_of kind 0 []) off
        → Next t row off place buf at buf at off' place'
    unfolding next_parts next_off over_run behind_run
    next_past b e g o off' d =
        let f : is_on value off behind (row_of kind slot (text_at t row)) ≡ false = on-is ∙ sym e ∙ g in
        rw (row_is t row h, f) (refl, refl, d ∙ deeper-by 0 [] kind off ∙ sym (deeper-by slot (text_at t row) kind off), opened o)

    -- in a block that does not stand
    pub next-off : (off ≡ 0 → ⊥) → place' ≡ cond (is_any (6 ∷ 7 ∷ []) kind) row place → (off' : ℕ) → off' ≡ deeper (row_of kind 0 []) off
        → Next t row off place buf at buf at off' place'
    unfolding is_on
    next-off z o off' d = next_past false (rw (ne_eqb off 0 z)) refl o off' d

  -- where all blocks around it stand, by the kind of the row
  module _ (t : List ℕ) (row place : ℕ) (buf : List ℕ) (at : ℕ) (h : row < length t / 16) where
    -- with a slot
    module _ (is : is_held (number_at t row) ≡ true) (front v : List ℕ) (ve : value (get_or t (row * 16 + 1) 0) ≡ front ++ v) (b : Bool)
        (e : b ≡ (eqb (number_at t row) 1 || some (front ++ v))) where
      held-stands : b ≡ is_on value 0 (drop (row + 1) (rows_of t)) (row_of (number_at t row) (get_or t (row * 16 + 1) 0) [])
      unfolding is_on
      held-stands = e ∙ rw (stands_by (get_or t (row * 16 + 1) 0) [] value (drop (row + 1) (rows_of t)) (number_at t row), is, ve)

      held-many : place ≡ cond (is_any (6 ∷ 7 ∷ []) (number_at t row)) row place
      held-many = rw (many_by (number_at t row), is)

      pub held_on : b ≡ true → parts (get_or t (row * 16 + 1) 0) ≡ front ∷ v ∷ [] → (from : ℕ) (between : List ℕ)
          → Run buf at (cond (eqb (number_at t row) 8) (with_ending (text_at t place)) []) from between
          → (key : List ℕ) → key ≡ text_at t row → (at' : ℕ) (buf' : List ℕ) → Run between from (line_parts key front v) at' buf'
          → Next t row 0 place buf at buf' at' 0 place
      held_on g pe from between p key ke at' buf' q =
          next-on t row 0 place place buf at h b held-stands g held-many key (text_at t place) ke refl at' buf'
          (rw (puts-by (get_or t (row * 16 + 1) 0) key parts (text_at t place) (number_at t row), is, pe)
          (then buf at (cond (eqb (number_at t row) 8) (with_ending (text_at t place)) []) (line_parts key front v) p q))

      pub held-past : b ≡ false → (off' : ℕ) → off' ≡ deeper (row_of (number_at t row) 0 []) 0 → Next t row 0 place buf at buf at off' place
      held-past g off' d = next_past t row 0 place place buf at h b held-stands g held-many off' d

    -- without one
    module _ (no : is_held (number_at t row) ≡ false) where
      -- the first or last line of a block
      module _ (is : is_edge (number_at t row) ≡ true) (b : Bool) (e : b ≡ cond (eqb (number_at t row) 4) (any_rows value 1 (drop (row + 1) (rows_of t))) true) where
        edge-stands : b ≡ is_on value 0 (drop (row + 1) (rows_of t)) (row_of (number_at t row) (get_or t (row * 16 + 1) 0) [])
        unfolding is_on
        edge-stands = e ∙ rw (stands_by (get_or t (row * 16 + 1) 0) [] value (drop (row + 1) (rows_of t)) (number_at t row), no, is)

        edge-many : place ≡ cond (is_any (6 ∷ 7 ∷ []) (number_at t row)) row place
        edge-many = rw (many_by (number_at t row), no, is)

        pub edge_on : b ≡ true → (key : List ℕ) → key ≡ text_at t row → (at' : ℕ) (buf' : List ℕ) → Run buf at (with_ending key) at' buf' → Next t row 0 place buf at buf' at' 0 place
        edge_on g key ke at' buf' q =
            next-on t row 0 place place buf at h b edge-stands g edge-many key (text_at t place) ke refl at' buf'
            (rw (puts-by (get_or t (row * 16 + 1) 0) key parts (text_at t place) (number_at t row), no, is) q)

        pub edge-past : b ≡ false → (off' : ℕ) → off' ≡ deeper (row_of (number_at t row) 0 []) 0 → Next t row 0 place buf at buf at off' place
        edge-past g off' d = next_past t row 0 place place buf at h b edge-stands g edge-many off' d

      -- no line
      pub next-none : is_edge (number_at t row) ≡ false → (place' : ℕ) → place' ≡ cond (is_any (6 ∷ 7 ∷ []) (number_at t row)) row place → Next t row 0 place buf at buf at 0 place'
      unfolding is_on
      next-none nor place' o =
          next-on t row 0 place place' buf at h true (rw (stands_by (get_or t (row * 16 + 1) 0) [] value (drop (row + 1) (rows_of t)) (number_at t row), no, nor)) refl o (text_at t row) (text_at t place) refl refl at buf
          (rw (puts-by (get_or t (row * 16 + 1) 0) (text_at t row) parts (text_at t place) (number_at t row), no, nor) (none-run buf at))

  -- all rows: what is put from a row on is what is put from the first on
  abbrev pub Same : List ℕ → List ℕ → ℕ → ℕ → ℕ → ℕ → List ℕ → ℕ → Type 0
  Same t buf₀ at₀ row off place buf at =
      (over_run buf at (walk value parts (text_at t place) off (drop row (rows_of t))) ≡ over_run buf₀ at₀ (walk value parts [] 0 (rows_of t)))
      × (behind_run buf at (walk value parts (text_at t place) off (drop row (rows_of t))) ≡ behind_run buf₀ at₀ (walk value parts [] 0 (rows_of t)))
      × (off ≤ row)
      × (length buf ≡ length buf₀)

  pub rows-begun : (t buf : List ℕ) (at : ℕ) → Same t buf at 0 0 (length t / 16) buf at
  rows-begun t buf at = let none = text-none t (length t / 16) (omega arith) in (rw none, rw none, omega arith, refl)

  module _ (t buf₀ : List ℕ) (at₀ row off place : ℕ) (buf : List ℕ) (at : ℕ) (inv : Same t buf₀ at₀ row off place buf at) where
    pub rows_more : row < length t / 16 → (buf' : List ℕ) (at' off' place' : ℕ) → Next t row off place buf at buf' at' off' place'
        → Same t buf₀ at₀ (row + 1) off' place' buf' at'
    unfolding next_off
    rows_more h buf' at' off' place' x =
        let r = first_row (drop (row * 16) t) in
        let rows = drop (row + 1) (rows_of t) in
        let ps = next_parts value parts (text_at t place) off rows r in
        let ws = walk value parts (opener (text_at t place) r) (next_off value off rows r) rows in
        let e : walk value parts (text_at t place) off (drop row (rows_of t)) ≡ ps ++ ws = rw (row_next t row h) (walk-next (text_at t place) off r rows) in (
          rw (x.0, x.1, x.2, x.3) (sym (over-append ps ws buf at) ∙ rw (← e) inv.0),
          rw (x.0, x.1, x.2, x.3) (sym (behind-append ps ws buf at) ∙ rw (← e) inv.1),
          rw x.2 (go (is_on value off rows r)),
          ap length x.0 ∙ length_run ps buf at ∙ inv.3,
        )
      where
        go : (b : Bool) → cond b 0 (deeper (first_row (drop (row * 16) t)) off) ≤ row + 1
        go true = omega arith
        go false = let m = deeper-most (first_row (drop (row * 16) t)) off in let i = inv.2 in omega arith

    pub rows-done : length t / 16 ≤ row → Run buf₀ at₀ (walk value parts [] 0 (rows_of t)) at buf
    unfolding over_run behind_run
    rows-done h =
        let e : walk value parts (text_at t place) off (drop row (rows_of t)) ≡ [] = rw (row-none t row h) (walk_none (text_at t place) off) in
        (rw e at inv.1, rw e at inv.0)
