-- A table filled in with values that are no longer takes no more bytes: each line is no longer, and a line or a block that
-- stands for the shorter values stands for the longer ones. For any table.
-- Assumes nothing.
use Prim.Native.Nat.{ℕ, ◌+◌, ◌≤◌}
use mathlib.Core.Path.{◌≡◌, refl, sym, ap, ◌∙◌}
use mathlib.Core.Bool.{Bool, true, false, ◌||◌, cond, true≢false}
use mathlib.Core.List.{List, [], ◌∷◌, ◌++◌}
use native.Mathlib.Omega.{arith}
use lib.ListN.{length, length-append}
use Rattle.text.specs.Bytes.{bytes}
use Rattle.lines.specs.Lines.{joined}
use Rattle.sheets.specs.Trees.{Field, Member, Tree, last, line, block, group, barred}
use Rattle.sheets.specs.Sheets.{Entry, edge, item, line_of, lines_in}
use Rattle.sheets.specs.Filled.{some, any_field, any_member, any_in, filled_fields, filled_members, filled}

-- the bytes of a sheet
abbrev pub size : List Entry → ℕ
size es = length (joined (lines_in es))

crlf : length (bytes "\r\n") ≡ 2
unfolding bytes
crlf = refl

-- a line has its ending
pub joined-next : (l : List ℕ) (ls : List (List ℕ)) → length (joined (l ∷ ls)) ≡ length l + (2 + length (joined ls))
unfolding joined
joined-next l ls = length-append l _ ∙ ap (λ (n : ℕ). length l + n) (length-append (bytes "\r\n") _ ∙ ap (λ (n : ℕ). n + length (joined ls)) crlf)

size-next : (e : Entry) (es : List Entry) → size (e ∷ es) ≡ length (line_of e) + (2 + size es)
unfolding lines_in
size-next e es = joined-next (line_of e) (lines_in es)

size-append : (es ds : List Entry) → size (es ++ ds) ≡ size es + size ds
unfolding joined lines_in
size-append [] ds = omega arith
size-append (e ∷ es) ds = let p = size-next e (es ++ ds) in let q = size-next e es in let r = size-append es ds in omega arith

-- what stands for the shorter values stands for the longer ones
implies-or : (a b c d : Bool) → (a ≡ true → c ≡ true) → (b ≡ true → d ≡ true) → (a || b) ≡ true → (c || d) ≡ true
implies-or true b c d f g h = rw (f refl)
implies-or false b true d f g h = refl
implies-or false b false d f g h = g h

-- a choice of a longer sheet or a shorter one, the longer one where a test holds
chosen : (b c : Bool) (es ds fs gs : List Entry) → (b ≡ true → c ≡ true)
    → size es ≤ size fs → size ds ≤ size gs → size gs ≤ size fs → size (cond b es ds) ≤ size (cond c fs gs)
chosen true c es ds fs gs i p q r = rw (i refl) p
chosen false true es ds fs gs i p q r = omega arith
chosen false false es ds fs gs i p q r = q

some-long : (v w : List ℕ) → length v ≤ length w → some v ≡ true → some w ≡ true
unfolding some
some-long [] w h e = absurd (true≢false (sym e))
some-long (b ∷ v) [] h e = let z : ⊥ = omega arith in absurd z
some-long (b ∷ v) (c ∷ w) h e = refl

module _ (value wide : ℕ → List ℕ) (most : (s : ℕ) → length (value s) ≤ length (wide s)) where
  some-most : (s : ℕ) → some (value s) ≡ true → some (wide s) ≡ true
  some-most s = some-long (value s) (wide s) (most s)

  any_field_lem : (fs : List Field) → any_field value fs ≡ true → any_field wide fs ≡ true
  unfolding any_field
  any_field_lem [] e = e
  any_field_lem (f ∷ fs) e = implies-or _ _ _ _ (some-most f.slot) (any_field_lem fs) e

  any-member : (ms : List Member) → any_member value ms ≡ true → any_member wide ms ≡ true
  unfolding any_member
  any-member [] e = e
  any-member (m ∷ ms) e =
      implies-or _ _ _ _ (some-most m.slot) (λ h. implies-or _ _ _ _ (any_field_lem m.inside) (any-member ms) h) e

  any-in : (t : Tree) → any_in value t ≡ true → any_in wide t ≡ true
  unfolding any_in
  any-in (last c) e = e
  any-in (line f t) e = implies-or _ _ _ _ (some-most f.slot) (any-in t) e
  any-in (block m o t u) e = implies-or _ _ _ _ (any-in t) (any-in u) e
  any-in (group n a o c ms t) e = implies-or _ _ _ _ (any-member ms) (any-in t) e
  any-in (barred b t) e = any-in t e

  -- a line in front
  held-grows : (s : ℕ) (k : List ℕ) (es ds : List Entry) → size es ≤ size ds → size (item s k (value s) ∷ es) ≤ size (item s k (wide s) ∷ ds)
  unfolding line_of
  held-grows s k es ds h =
      let p = size-next (item s k (value s)) es in
      let q = size-next (item s k (wide s)) ds in
      let x = length-append k (value s) in
      let y = length-append k (wide s) in
      let m = most s in
      omega arith

  edge-grows : (o : List ℕ) (es ds : List Entry) → size es ≤ size ds → size (edge o ∷ es) ≤ size (edge o ∷ ds)
  edge-grows o es ds h = let p = size-next (edge o) es in let q = size-next (edge o) ds in omega arith

  longer : (e : Entry) (es : List Entry) → size es ≤ size (e ∷ es)
  longer e es = let p = size-next e es in omega arith

  append-grows : (es fs ds gs : List Entry) → size es ≤ size fs → size ds ≤ size gs → size (es ++ ds) ≤ size (fs ++ gs)
  append-grows es fs ds gs p q = let x = size-append es ds in let y = size-append fs gs in omega arith

  behind : (es ds : List Entry) → size ds ≤ size (es ++ ds)
  behind es ds = let x = size-append es ds in omega arith

  -- a field's line, and what is left
  line-grows : (f : Field) (es ds : List Entry) → size es ≤ size ds
      → size (cond (f.must || some (value f.slot)) (item f.slot f.key (value f.slot) ∷ es) es)
      ≤ size (cond (f.must || some (wide f.slot)) (item f.slot f.key (wide f.slot) ∷ ds) ds)
  line-grows f es ds h =
      chosen _ _ _ _ _ _ (implies-or f.must _ f.must _ (λ e. e) (some-most f.slot)) (held-grows f.slot f.key es ds h) h (longer _ ds)

  fields-grow : (fs : List Field) (c : List ℕ) → size (filled_fields value fs c) ≤ size (filled_fields wide fs c)
  unfolding filled_fields
  fields-grow [] c = omega arith
  fields-grow (f ∷ fs) c = line-grows f (filled_fields value fs c) (filled_fields wide fs c) (fields-grow fs c)

  members-grow : (o c : List ℕ) (ms : List Member) → size (filled_members value o c ms) ≤ size (filled_members wide o c ms)
  unfolding filled_members
  members-grow o c [] = omega arith
  members-grow o c (m ∷ ms) =
      let rest = members-grow o c ms in
      chosen _ _ _ _ _ _ (some-most m.slot)
      (edge-grows o _ _ (held-grows m.slot m.key _ _ (append-grows _ _ _ _ (fields-grow m.inside c) rest)))
      rest
      (let x = longer (edge o) (item m.slot m.key (wide m.slot) ∷ (filled_fields wide m.inside c ++ filled_members wide o c ms)) in
      let y = longer (item m.slot m.key (wide m.slot)) (filled_fields wide m.inside c ++ filled_members wide o c ms) in
      let z = behind (filled_fields wide m.inside c) (filled_members wide o c ms) in
      omega arith)

  pub grows : (t : Tree) → size (filled value t) ≤ size (filled wide t)
  unfolding filled
  grows (last c) = omega arith
  grows (line f t) = line-grows f (filled value t) (filled wide t) (grows t)
  grows (block m o t u) =
      let rest = grows u in
      chosen _ _ _ _ _ _ (implies-or m _ m _ (λ e. e) (any-in t))
      (edge-grows o _ _ (append-grows _ _ _ _ (grows t) rest))
      rest
      (let x = longer (edge o) (filled wide t ++ filled wide u) in let z = behind (filled wide t) (filled wide u) in omega arith)
  grows (group n a o c ms t) = append-grows _ _ _ _ (members-grow o c ms) (grows t)
  grows (barred b t) = grows t
