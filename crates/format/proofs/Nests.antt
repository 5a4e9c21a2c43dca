-- The lines of every sheet of a table nest: its fields have the tag shape, and each block is closed by the name that opened it.
-- Assumes nothing.
use Prim.Native.Nat.{ℕ, suc, ◌+◌, ◌≤◌}
use mathlib.Core.Path.{◌≡◌, refl, sym, ap, ◌∙◌}
use mathlib.Core.Bool.{Bool, true, ◌&&◌, not, and-false, true≢false}
use mathlib.Core.List.{List, [], ◌∷◌, ◌++◌, append-nil}
use native.Mathlib.Nat.{add_assoc}
use native.Mathlib.Omega.{arith}
use lib.Dec.{leb, ltb, eqb}
use lib.ListN.{length, drop, length-append}
use borrow.Author.Tests.{leb-true, le-leb, not-true}
use Rattle.text.specs.Bytes.{bytes, begins, same}
use Rattle.text.specs.Classes.{is_between, is_digit, is_upper, is_code}
use Rattle.text.proofs.Laws.{and_left, and_right, and_both, same_refl, same-eq, begins-is}
use Rattle.lines.specs.Verdicts.{pass}
use Rattle.lines.specs.declared.Verdict.{Verdict}
use Rattle.blocks.specs.Blocks.{is_tagged, name_of, named, role_of, goes, ending, opening, closing, turn, follow, nest}
use Rattle.sheets.specs.Trees.{Field, Member, Tree, last, line, block, group, barred, chain}
use Rattle.sheets.specs.Sheets.{Entry, edge, item, line_of, lines_in, Among, front, later, Laid, shut, given, absent, opened, passed, member, done, unstopped}
use Rattle.sheets.specs.Filled.{some}
use Rattle.sheets.proofs.Checks.{full}
use Rattle.sheets.proofs.Accepts.{lines-append}

-- ---- what a table has to be, as a test that computes

-- a text that makes a field's line with any value that is not empty: of the tag shape, and neither `:16R:` nor `:16S:`
unfoldable pub field_key : List ℕ → Bool
field_key k = is_tagged (k ++ bytes "-") && (not (begins (bytes ":16R:") k) && not (begins (bytes ":16S:") k))

-- a line that opens a block where d blocks are open, and the line that closes it
unfoldable pub opens_at : ℕ → List ℕ → Bool
opens_at d o = ltb d 8 && (begins (bytes ":16R:") o && is_code 1 16 (name_of o))

unfoldable pub closer : List ℕ → List ℕ
closer o = bytes ":16S:" ++ name_of o

unfoldable pub field_keys : List Field → Bool
field_keys [] = true
field_keys (f ∷ fs) = field_key f.key && field_keys fs

unfoldable pub member_keys : List Member → Bool
member_keys [] = true
member_keys (m ∷ ms) = field_key m.key && (field_keys m.inside && member_keys ms)

-- what is left of a block that has d blocks open with it and whose last line is z
unfoldable pub nestable : ℕ → List ℕ → Tree → Bool
nestable d z (last c) = same z c
nestable d z (line f t) = field_key f.key && nestable d z t
nestable d z (block m o t u) = opens_at d o && (nestable (suc d) (closer o) t && nestable d z u)
nestable d z (group n a o c ms t) = opens_at d o && (same (closer o) c && (member_keys ms && nestable d z t))
nestable d z (barred b t) = nestable d z t

-- ---- what each line does

turn-field : (k v : List ℕ) (blocks : List (List ℕ)) → field_key k ≡ true → some v ≡ true → turn (role_of (k ++ v)) blocks (name_of (k ++ v)) ≡ goes blocks
unfolding field_key role_of is_tagged some begins same bytes turn
turn-field k [] blocks h f = absurd (true≢false (sym f))
turn-field [] (x ∷ v) blocks h f = absurd (true≢false (sym h))
turn-field (a ∷ []) (x ∷ v) blocks h f = absurd (true≢false (sym h))
turn-field (a ∷ b ∷ []) (x ∷ v) blocks h f = absurd (true≢false (sym h))
turn-field (a ∷ b ∷ c ∷ []) (x ∷ v) blocks h f = absurd (true≢false (sym h))
turn-field (a ∷ b ∷ c ∷ d ∷ []) (x ∷ v) blocks h f = absurd (true≢false (sym h))
turn-field (a ∷ b ∷ c ∷ d ∷ e ∷ k) (x ∷ v) blocks h f =
    let l : List ℕ = a ∷ b ∷ c ∷ d ∷ e ∷ k in
    let long : 6 ≤ length (l ++ x ∷ v) = rw (length-append k (x ∷ v)) (omega arith) in
    let shape = and_right (leb 6 (length (l ++ bytes "-"))) _ (and_left (is_tagged (l ++ bytes "-")) _ h) in
    let tests = and_right (is_tagged (l ++ bytes "-")) _ h in
    rw (
      and-false (eqb a 45),
      le-leb 6 (length (l ++ x ∷ v)) long,
      shape,
      not-true (begins (bytes ":16R:") l) (and_left _ (not (begins (bytes ":16S:") l)) tests),
      not-true (begins (bytes ":16S:") l) (and_right (not (begins (bytes ":16R:") l)) _ tests),
    )

-- the lines of a name: of the tag shape, as `:16R:` and `:16S:` and a character are
module _ (name : List ℕ) (good : is_code 1 16 name ≡ true) where
  tagged : (letter : ℕ) → is_upper letter ≡ true → is_tagged (58 ∷ 49 ∷ 54 ∷ letter ∷ 58 ∷ name) ≡ true
  unfolding is_tagged is_code is_digit is_between
  tagged letter u =
      let some : 1 ≤ length name = leb-true 1 (length name) (and_left _ _ good) in
      rw (le-leb 6 (suc (suc (suc (suc (suc (length name)))))) (omega arith), u)

  turn-opens : (blocks : List (List ℕ)) → ltb (length blocks) 8 ≡ true → turn (role_of (bytes ":16R:" ++ name)) blocks name ≡ goes (name ∷ blocks)
  unfolding role_of same begins bytes name_of named turn opening is_upper is_between
  turn-opens blocks h = rw (tagged 82 refl, good, h)

  turn-closes : (blocks : List (List ℕ)) → turn (role_of (bytes ":16S:" ++ name)) (name ∷ blocks) name ≡ goes blocks
  unfolding role_of same begins bytes name_of named turn closing is_upper is_between
  turn-closes blocks = rw (tagged 83 refl, good, same_refl name)

-- ---- the lines of a sheet in front of further lines

-- they nest, and the verdict is what follows them
Nests : ℕ → List (List ℕ) → List Entry → (ℕ → List (List ℕ) → Verdict) → Type 0
Nests n blocks es after = (more : List (List ℕ)) → nest n blocks (lines_in es ++ more) ≡ after (n + length es) more

nests-line : (n : ℕ) (blocks next : List (List ℕ)) (e : Entry) (es : List Entry) (after : ℕ → List (List ℕ) → Verdict)
    → turn (role_of (line_of e)) blocks (name_of (line_of e)) ≡ goes next → Nests (suc n) next es after → Nests n blocks (e ∷ es) after
unfolding Nests nest follow lines_in
nests-line n blocks next e es after h k more =
    let c : n + suc (length es) ≡ suc n + length es = omega arith in
    rw (h, c) (k more)

nests-both : (n : ℕ) (blocks outer : List (List ℕ)) (es ds : List Entry) (after : ℕ → List (List ℕ) → Verdict)
    → Nests n blocks es (λ k. nest k outer) → Nests (n + length es) outer ds after → Nests n blocks (es ++ ds) after
unfolding Nests
nests-both n blocks outer es ds after h k more =
    rw (lines-append es ds more, length-append es ds, ← (add_assoc n (length es) (length ds))) (h (lines_in ds ++ more) ∙ k more)

-- a field, and then what stands behind it
nests-held : (n : ℕ) (blocks : List (List ℕ)) (s : ℕ) (k v : List ℕ) (es : List Entry) (after : ℕ → List (List ℕ) → Verdict)
    → field_key k ≡ true → full (item s k v ∷ es) ≡ true → (full es ≡ true → Nests (suc n) blocks es after) → Nests n blocks (item s k v ∷ es) after
unfolding line_of full
nests-held n blocks s k v es after h f rest =
    nests-line n blocks blocks (item s k v) es after (turn-field k v blocks h (and_left _ _ f)) (rest (and_right (some v) _ f))

-- the first line of a block, and then what it holds
nests-opens : (n d : ℕ) (blocks : List (List ℕ)) (o : List ℕ) (es : List Entry) (after : ℕ → List (List ℕ) → Verdict)
    → opens_at d o ≡ true → length blocks ≡ d → Nests (suc n) (name_of o ∷ blocks) es after → Nests n blocks (edge o ∷ es) after
unfolding opens_at line_of name_of bytes
nests-opens n d blocks o es after h e k =
    let r = and_right (ltb d 8) _ h in
    let is : o ≡ bytes ":16R:" ++ drop 5 o = begins-is (bytes ":16R:") o (and_left _ (is_code 1 16 (name_of o)) r) in
    let room : ltb (length blocks) 8 ≡ true = rw e (and_left (ltb d 8) _ h) in
    let t = turn-opens (drop 5 o) (and_right (begins (bytes ":16R:") o) _ r) blocks room in
    nests-line n blocks (name_of o ∷ blocks) (edge o) es after (ap (λ x. turn (role_of x) blocks (name_of o)) is ∙ t) k

-- a block ends with its last line
Ends : List ℕ → List (List ℕ) → (ℕ → List (List ℕ) → Verdict) → Type 0
Ends z blocks after = (n : ℕ) (more : List (List ℕ)) → nest n blocks (z ∷ more) ≡ after (suc n) more

nests-last : (n : ℕ) (z c : List ℕ) (blocks : List (List ℕ)) (after : ℕ → List (List ℕ) → Verdict)
    → same z c ≡ true → Ends z blocks after → Nests n blocks (edge c ∷ []) after
unfolding Nests Ends lines_in line_of
nests-last n z c blocks after h k more =
    let one : n + 1 ≡ suc n = omega arith in
    rw (← (same-eq z c h), one) (k n more)

ends-block : (d : ℕ) (blocks : List (List ℕ)) (o : List ℕ) → opens_at d o ≡ true → Ends (closer o) (name_of o ∷ blocks) (λ k. nest k blocks)
unfolding Ends opens_at closer nest follow name_of bytes
ends-block d blocks o h n more =
    let good = and_right (begins (bytes ":16R:") o) _ (and_right (ltb d 8) _ h) in
    rw (turn-closes (name_of o) good blocks)

-- ---- every sheet

-- a sheet of two has no empty value where neither has one
full-left : (es ds : List Entry) → full (es ++ ds) ≡ true → full es ≡ true
unfolding full
full-left [] ds h = refl
full-left (edge o ∷ es) ds h = full-left es ds h
full-left (item s k v ∷ es) ds h = and_both (and_left (some v) _ h) (full-left es ds (and_right (some v) _ h))

full-right : (es ds : List Entry) → full (es ++ ds) ≡ true → full ds ≡ true
unfolding full
full-right [] ds h = h
full-right (edge o ∷ es) ds h = full-right es ds h
full-right (item s k v ∷ es) ds h = full-right es ds (and_right (some v) _ h)

-- the tests of one of many blocks, from those of all
among-keys : {m : Member} {ms : List Member} → Among m ms → member_keys ms ≡ true → (field_key m.key ≡ true) × (field_keys m.inside ≡ true)
unfolding member_keys
among-keys (front {m = m} {ms = ms}) h = (and_left _ _ h, and_left _ (member_keys ms) (and_right (field_key m.key) _ h))
among-keys (later {k = k} i) h = among-keys i (and_right (field_keys k.inside) _ (and_right (field_key k.key) _ h))

nestable-chain : (d : ℕ) (z c : List ℕ) (fs : List Field) → same z c ≡ true → field_keys fs ≡ true → nestable d z (chain fs c) ≡ true
unfolding nestable chain field_keys
nestable-chain d z c [] h k = h
nestable-chain d z c (f ∷ fs) h k = and_both {a = field_key f.key} (and_left _ (field_keys fs) k) (nestable-chain d z c fs h (and_right (field_key f.key) _ k))

-- by what laid it out: its last line, z, decides what follows
nests : {slots : List ℕ} {t : Tree} {es : List Entry} → Laid slots t es → (d : ℕ) (z : List ℕ) (blocks : List (List ℕ)) (after : ℕ → List (List ℕ) → Verdict)
    → nestable d z t ≡ true → length blocks ≡ d → full es ≡ true → Ends z blocks after → (n : ℕ) → Nests n blocks es after
unfolding nestable full
nests (shut {c = c}) d z blocks after h e f k n = nests-last n z c blocks after h k
nests (given {f = g} {es = es} v l) d z blocks after h e f k n =
    nests-held n blocks g.slot g.key v es after (and_left _ _ h) f
    (λ x. nests l d z blocks after (and_right (field_key g.key) _ h) e x k (suc n))
nests (absent {f = g} m l) d z blocks after h e f k n = nests l d z blocks after (and_right (field_key g.key) _ h) e f k n
nests (opened {o = o} {t = t} {es = es} {ds = ds} l r) d z blocks after h e f k n =
    let a = and_left (opens_at d o) _ h in
    let b = and_right (opens_at d o) _ h in
    nests-opens n d blocks o (es ++ ds) after a e
    (nests-both (suc n) (name_of o ∷ blocks) blocks es ds after
    (nests l (suc d) (closer o) (name_of o ∷ blocks) (λ j. nest j blocks) (and_left _ _ b) (ap suc e) (full-left es ds f) (ends-block d blocks o a) (suc n))
    (nests r d z blocks after (and_right (nestable (suc d) (closer o) t) _ b) e (full-right es ds f) k (suc n + length es)))
nests (passed {o = o} {t = t} m g r) d z blocks after h e f k n =
    nests r d z blocks after (and_right (nestable (suc d) (closer o) t) _ (and_right (opens_at d o) _ h)) e f k n
nests (member {o = o} {c = c} {ms = ms} {t = t} {m = m} {es = es} {ds = ds} v i w l r) d z blocks after h e f k n =
    let a = and_left (opens_at d o) _ h in
    let b = and_right (opens_at d o) _ h in
    let keys = among-keys i (and_left (member_keys ms) (nestable d z t) (and_right (same (closer o) c) _ b)) in
    let inner = nestable-chain (suc d) (closer o) c m.inside (and_left _ _ b) keys.1 in
    nests-opens n d blocks o (item m.slot m.key v ∷ (es ++ ds)) after a e
    (nests-held (suc n) (name_of o ∷ blocks) m.slot m.key v (es ++ ds) after keys.0 f
    (λ x. nests-both (suc (suc n)) (name_of o ∷ blocks) blocks es ds after
    (nests l (suc d) (closer o) (name_of o ∷ blocks) (λ j. nest j blocks) inner (ap suc e) (full-left es ds x) (ends-block d blocks o a) (suc (suc n)))
    (nests r d z blocks after h e (full-right es ds x) k (suc (suc n) + length es))))
nests (done {o = o} {c = c} {ms = ms} w l) d z blocks after h e f k n =
    nests l d z blocks after (and_right (member_keys ms) _ (and_right (same (closer o) c) _ (and_right (opens_at d o) _ h))) e f k n
nests (unstopped w l) d z blocks after h e f k n = nests l d z blocks after h e f k n

-- a block: from behind its first line, up to and with its last, it leaves the blocks around it
pub nests-block : {slots : List ℕ} {t : Tree} {es : List Entry} → Laid slots t es → (o : List ℕ) (blocks : List (List ℕ))
    → opens_at (length blocks) o ≡ true → nestable (suc (length blocks)) (closer o) t ≡ true → full es ≡ true
    → (n : ℕ) (more : List (List ℕ)) → nest n (name_of o ∷ blocks) (lines_in es ++ more) ≡ nest (n + length es) blocks more
unfolding Nests
nests-block l o blocks a h f n more =
    nests l (suc (length blocks)) (closer o) (name_of o ∷ blocks) (λ k. nest k blocks) h refl f (ends-block (length blocks) blocks o a) n more

-- all lines, up to the `-` at their end
pub nests-all : {slots : List ℕ} {t : Tree} {es : List Entry} → Laid slots t es → nestable 0 (bytes "-") t ≡ true → full es ≡ true → (n : ℕ) → nest n [] (lines_in es) ≡ pass
unfolding Nests Ends nest follow turn role_of same bytes ending
nests-all {es = es} l h f n = ap (nest n []) (sym (append-nil (lines_in es))) ∙ nests l 0 (bytes "-") [] (λ k more. pass) h refl f (λ k more. refl) n []
