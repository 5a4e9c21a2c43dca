-- The lines of every sheet of a table are taken, each for its slot and with its value.
-- Assumes nothing.
use Prim.Native.Nat.{ℕ, suc}
use mathlib.Core.Path.{◌≡◌, refl, sym, ap, ◌∙◌}
use mathlib.Core.Bool.{Bool, true, false, ◌&&◌, ◌||◌, not, or-true, true≢false}
use mathlib.Core.List.{List, [], ◌∷◌, ◌++◌, append-nil}
use lib.Dec.{eqb, leb}
use lib.ListN.{length}
use lib.Seq.{drop-append_seam}
use borrow.Author.Tests.{eqb-true, eq-eqb, ne_eqb, leb-true, not-true}
use native.Mathlib.Nat.{not-suc-le-zero}
use Rattle.text.specs.Bytes.{begins, same}
use Rattle.text.proofs.Bools.{is_false, or-none}
use Rattle.text.proofs.Laws.{and_left, and_right, and_both, same_refl, same-eq, begins-append}
use Rattle.bars.specs.Bars.{Bar, stops, bar_number}
use Rattle.layout.specs.Layout.{Taken, Run, taken, with_taken}
use Rattle.layout.proofs.Laws.{with_all, all_none, all_append}
use Rattle.sheets.specs.Trees.{Field, Member, Tree, last, line, block, group, barred, chain, lead_key}
use Rattle.sheets.specs.Sheets.{Entry, edge, item, line_of, lines_in, foremost, come, has, lacking, Among, front, later, Laid, shut, given, absent, opened, passed, member, done, unstopped, Sheet}
use Rattle.sheets.specs.Taking.{Spot, within, first, over, go, fit, next, seek, later_field, tell, move_of, following, walk, taken_by}
use Rattle.sheets.proofs.Checks.{good_slot, good_fields, good_members, good_tree, Fit, starts, whole, fits_line, clash, avoids, none_of, apart_fields, later_apart, apart_members, unlike, apart_bar, apart}
use Rattle.sheets.proofs.Moves.{good-chain}

-- ---- texts that do not clash

-- of two texts that a line begins with, one begins with the other
both-begin : (k j l : List ℕ) → begins k l ≡ true → begins j l ≡ true → (begins k j || begins j k) ≡ true
unfolding begins
both-begin [] j l e f = refl
both-begin (x ∷ k) [] l e f = or-true (begins (x ∷ k) [])
both-begin (x ∷ k) (y ∷ j) [] e f = absurd (true≢false (sym e))
both-begin (x ∷ k) (y ∷ j) (z ∷ l) e f =
    let p = eqb-true z x (and_left _ (begins k l) e) in
    let q = eqb-true z y (and_left _ (begins j l) f) in
    rw (← p, ← q, eq-eqb z z refl) (both-begin k j l (and_right (eqb z x) _ e) (and_right (eqb z y) _ f))

pub clash-apart : (a b : Fit) (l : List ℕ) → clash a b ≡ false → fits_line b l ≡ true → fits_line a l ≡ false
unfolding clash fits_line
clash-apart (starts k) (starts j) l e f = is_false (begins k l) (λ h. true≢false (sym (both-begin k j l h f) ∙ e))
clash-apart (starts k) (whole o) l e f = rw (← (same-eq o l f)) e
clash-apart (whole o) (starts k) l e f = is_false (same o l) (λ h. true≢false (sym f ∙ (rw (same-eq o l h) at e)))
clash-apart (whole o) (whole q) l e f = rw (← (same-eq q l f)) e

-- ---- the first line of a sheet fits its own row, and none that this avoids

-- a field's line, and the line of a block
pub clear-key : (a : Fit) (k v : List ℕ) → not (clash a (starts k)) ≡ true → fits_line a (k ++ v) ≡ false
unfolding fits_line
clear-key a k v h = clash-apart a (starts k) (k ++ v) (not-true _ h) (begins-append k v)

pub clear-line : (a : Fit) (o : List ℕ) → not (clash a (whole o)) ≡ true → fits_line a o ≡ false
unfolding fits_line
clear-line a o h = clash-apart a (whole o) o (not-true _ h) (same_refl o)

clear : (a : Fit) {slots : List ℕ} {t : Tree} {es : List Entry} → Laid slots t es → avoids a t ≡ true → fits_line a (foremost es) ≡ false
unfolding avoids foremost line_of
clear a (shut {c = c}) h = clear-line a c h
clear a (given {f = f} v l) h = clear-key a f.key v (and_left _ _ h)
clear a (absent {f = f} e l) h = clear a l (and_right (not (clash a (starts f.key))) _ h)
clear a (opened {o = o} l r) h = clear-line a o (and_left _ _ h)
clear a (passed {o = o} e g r) h = clear a r (and_right (not (clash a (whole o))) _ h)
clear a (member {o = o} v i e l r) h = clear-line a o (and_left _ _ h)
clear a (done {o = o} e l) h = clear a l (and_right (not (clash a (whole o))) _ h)
clear a (unstopped e l) h = clear a l h

-- there is such a line
unfoldable pub Some : List Entry → Type 0
Some [] = ⊥
Some (e ∷ es) = Unit

pub some-line : {slots : List ℕ} {t : Tree} {es : List Entry} → Laid slots t es → Some es
unfolding Some
some-line shut = tt
some-line (given v l) = tt
some-line (absent e l) = some-line l
some-line (opened l r) = tt
some-line (passed e g r) = some-line r
some-line (member v i e l r) = tt
some-line (done e l) = some-line l
some-line (unstopped e l) = some-line l

-- ---- a sheet in front of further lines

-- the slots of a sheet and their values, with the lines that they stand on, counted from n
unfoldable pub taken_on : ℕ → List Entry → List Taken
taken_on n [] = []
taken_on n (edge o ∷ es) = taken_on (suc n) es
taken_on n (item s k v ∷ es) = record { slot = s; line = n; value = v } ∷ taken_on (suc n) es

-- the number of the line behind a sheet
unfoldable pub line_behind : ℕ → List Entry → ℕ
line_behind n [] = n
line_behind n (e ∷ es) = line_behind (suc n) es

-- behind the last line of a block
unfoldable pub resume : List ℕ → ℕ → List Tree → List (List ℕ) → Run
resume slots n [] ls = walk slots n over [] ls
resume slots n (t ∷ ts) ls = walk slots n (within t) ts ls

taken-append : (n : ℕ) (es ds : List Entry) → taken_on n (es ++ ds) ≡ taken_on n es ++ taken_on (line_behind n es) ds
unfolding taken_on line_behind
taken-append n [] ds = refl
taken-append n (edge o ∷ es) ds = taken-append (suc n) es ds
taken-append n (item s k v ∷ es) ds = ap (λ (l : List Taken). record { slot = s; line = n; value = v } ∷ l) (taken-append (suc n) es ds)

pub come-append : (slots : List ℕ) (es ds : List Entry) → come slots (es ++ ds) ≡ come (come slots es) ds
unfolding come
come-append slots [] ds = refl
come-append slots (edge o ∷ es) ds = come-append slots es ds
come-append slots (item s k v ∷ es) ds = come-append (s ∷ slots) es ds

behind-append : (n : ℕ) (es ds : List Entry) → line_behind n (es ++ ds) ≡ line_behind (line_behind n es) ds
unfolding line_behind
behind-append n [] ds = refl
behind-append n (e ∷ es) ds = behind-append (suc n) es ds

pub lines-append : (es ds : List Entry) (more : List (List ℕ)) → lines_in (es ++ ds) ++ more ≡ lines_in es ++ (lines_in ds ++ more)
unfolding lines_in
lines-append [] ds more = refl
lines-append (e ∷ es) ds more = ap (λ (l : List (List ℕ)). line_of e ∷ l) (lines-append es ds more)

-- a sheet is taken, and the run goes on behind it
Takes : List ℕ → ℕ → Spot → List Tree → List Tree → List Entry → Type 0
Takes slots n spot ts us es =
    (more : List (List ℕ)) → walk slots n spot ts (lines_in es ++ more) ≡ with_all (taken_on n es) (resume (come slots es) (line_behind n es) us more)

-- two sheets, one behind the other
takes-both : (slots : List ℕ) (n : ℕ) (spot : Spot) (ts us : List Tree) (t : Tree) (es ds : List Entry)
    → Takes slots n spot ts (t ∷ us) es → Takes (come slots es) (line_behind n es) (within t) us us ds
    → Takes slots n spot ts us (es ++ ds)
unfolding Takes resume
takes-both slots n spot ts us t es ds h k more =
    rw (
      lines-append es ds more,
      taken-append n es ds,
      come-append slots es ds,
      behind-append n es ds,
      all_append (taken_on n es) (taken_on (line_behind n es) ds) (resume (come (come slots es) ds) (line_behind (line_behind n es) ds) us more),
    )
    (h (lines_in ds ++ more) ∙ ap (with_all (taken_on n es)) (k more))

-- the first line of a block moves on
takes-edge : (slots : List ℕ) (n : ℕ) (spot to : Spot) (ts us vs : List Tree) (o : List ℕ) (es : List Entry)
    → move_of slots o spot ts ≡ go 0 0 to us → Takes slots (suc n) to us vs es → Takes slots n spot ts vs (edge o ∷ es)
unfolding Takes lines_in line_of walk taken_on come line_behind following
takes-edge slots n spot to ts us vs o es e h more = rw e (h more)

-- a slot with a place is not the 0 of the first and last lines of blocks
pub not-zero : (s : ℕ) → good_slot s ≡ true → eqb s 0 ≡ false
unfolding good_slot
not-zero s g = ne_eqb s 0 (λ z. not-suc-le-zero (rw z at (leb-true 1 s (and_left (leb 1 s) _ g))))

-- a field's line is taken
takes-held : (slots : List ℕ) (n : ℕ) (spot to : Spot) (ts us vs : List Tree) (s : ℕ) (k v : List ℕ) (es : List Entry)
    → good_slot s ≡ true → move_of slots (k ++ v) spot ts ≡ go s (length k) to us → Takes (s ∷ slots) (suc n) to us vs es
    → Takes slots n spot ts vs (item s k v ∷ es)
unfolding Takes lines_in line_of walk taken_on come line_behind following with_all
takes-held slots n spot to ts us vs s k v es g e h more =
    rw (e, not-zero s g, drop-append_seam k v) (ap (with_taken (record { slot = s; line = n; value = v })) (h more))

-- from a spot where the first line does the same
takes_same : (test : List ℕ → Bool) (slots : List ℕ) (n : ℕ) (spot to : Spot) (ts us : List Tree) (es : List Entry)
    → Some es → test (foremost es) ≡ false → ((l : List ℕ) → test l ≡ false → move_of slots l spot ts ≡ move_of slots l to ts)
    → Takes slots n to ts us es → Takes slots n spot ts us es
unfolding Takes Some foremost lines_in walk
takes_same test slots n spot to ts us [] s c e h more = absurd s
takes_same test slots n spot to ts us (x ∷ es) s c e h more = rw (e (line_of x) c) (h more)

-- ---- one of many blocks

lacking-among : (slots : List ℕ) {m : Member} {ms : List Member} → Among m ms → has slots m.slot ≡ false → lacking slots ms ≡ true
unfolding lacking
lacking-among slots front e = rw e
lacking-among slots (later {k = k} i) e = rw (lacking-among slots i e) (or-true (not (has slots k.slot)))

pub none-among : (k v : List ℕ) {m : Member} {ms : List Member} → Among m ms → none_of k ms ≡ true → begins k (m.key ++ v) ≡ false
unfolding none_of fits_line
none-among k v (front {m = m}) h = clear-key (starts k) m.key v (and_left _ _ h)
none-among k v (later {k = j} i) h = none-among k v i (and_right (not (clash (starts k) (starts j.key))) _ h)

none-later : (fs : List Field) (v : List ℕ) {m : Member} {ms : List Member} → Among m ms → later_apart fs ms ≡ true → later_field fs (m.key ++ v) ≡ false
unfolding later_apart later_field
none-later [] v i h = refl
none-later (f ∷ fs) v {m = m} {ms = ms} i h =
    or-none (begins f.key (m.key ++ v)) _ (none-among f.key v i (and_left (none_of f.key ms) _ h)) (none-later fs v i (and_right (none_of f.key ms) _ h))

-- the checks of a member, from those of all
module _ (c : List ℕ) where
  abbrev Checked : Member → Type 0
  Checked m = (not (clash (whole c) (starts m.key)) ≡ true) × (apart_fields m.inside c ≡ true)

  checked : {m : Member} {ms : List Member} → Among m ms → apart_members c ms ≡ true → Checked m
  unfolding apart_members
  checked (front {m = m} {ms = ms}) h =
      let r = and_right (not (clash (whole c) (starts m.key))) _ h in
      (and_left _ _ h, and_left (apart_fields m.inside c) _ (and_right (none_of m.key ms) _ r))
  checked (later {k = k} {ms = ms} i) h =
      let r = and_right (not (clash (whole c) (starts k.key))) _ h in
      checked i (and_right (later_apart k.inside ms) _ (and_right (apart_fields k.inside c) _ (and_right (none_of k.key ms) _ r)))

  -- its first field tells it from the others
  tell-among : (slots v : List ℕ) (g : Tree) (ts : List Tree) {m : Member} {ms : List Member} → Among m ms → apart_members c ms ≡ true → has slots m.slot ≡ false
      → tell slots (m.key ++ v) c g ts ms ≡ go m.slot (length m.key) (within (chain m.inside c)) (g ∷ ts)
  unfolding tell apart_members fits_line
  tell-among slots v g ts (front {m = m}) h e = rw (begins-append m.key v, e)
  tell-among slots v g ts (later {m = m} {k = k} {ms = ms} i) h e =
      let r = and_right (not (clash (whole c) (starts k.key))) _ h in
      let s = and_right (none_of k.key ms) _ r in
      let q = and_right (apart_fields k.inside c) _ s in
      let a = and_right (later_apart k.inside ms) _ q in
      rw (none-among k.key v i (and_left _ _ r), none-later k.inside v i (and_left _ _ q), clear-key (whole c) m.key v (checked i a).0) (tell-among slots v g ts i a e)

apart-chain : (fs : List Field) (c : List ℕ) → apart_fields fs c ≡ true → apart (chain fs c) ≡ true
unfolding apart_fields apart chain
apart-chain [] c h = refl
apart-chain (f ∷ fs) c h = and_both {a = avoids (starts f.key) (chain fs c)} (and_left _ (apart_fields fs c) h) (apart-chain fs c (and_right (avoids (starts f.key) (chain fs c)) _ h))

good-among : {m : Member} {ms : List Member} → Among m ms → good_members ms ≡ true → (good_slot m.slot ≡ true) × (good_fields m.inside ≡ true)
unfolding good_members
good-among (front {m = m} {ms = ms}) h = (and_left _ _ h, and_left _ (good_members ms) (and_right (good_slot m.slot) _ h))
good-among (later {k = k} i) h = good-among i (and_right (good_fields k.inside) _ (and_right (good_slot k.slot) _ h))

-- ---- a sheet is taken

-- with no mandatory row passed over
not-lacking : (n b : Bool) → (n ≡ true → b ≡ false) → (n && b) ≡ false
not-lacking true b h = h refl
not-lacking false b h = refl

takes-last : (slots : List ℕ) (n : ℕ) (c : List ℕ) (ts : List Tree) → Takes slots n (within (last c)) ts ts (edge c ∷ [])
unfolding Takes lines_in line_of walk move_of seek fit following next taken_on come line_behind with_all resume
takes-last slots n c [] more = rw (same_refl c)
takes-last slots n c (t ∷ ts) more = rw (same_refl c)

takes-sheet : {slots : List ℕ} {t : Tree} {es : List Entry} → Laid slots t es → apart t ≡ true → good_tree t ≡ true → (n : ℕ) (ts : List Tree)
    → Takes slots n (within t) ts ts es
unfolding apart good_tree move_of seek fit fits_line
takes-sheet {slots = slots} (shut {c = c}) h g n ts = takes-last slots n c ts
takes-sheet {slots = slots} (given {f = f} {t = t} {es = es} v l) h g n ts =
    takes-held slots n (within (line f t)) (within t) ts ts ts f.slot f.key v es (and_left _ _ g) (rw (begins-append f.key v))
    (takes-sheet l (and_right (avoids (starts f.key) t) _ h) (and_right (good_slot f.slot) _ g) (suc n) ts)
takes-sheet {slots = slots} {es = es} (absent {f = f} {t = t} m l) h g n ts =
    takes_same (begins f.key) slots n (within (line f t)) (within t) ts ts es (some-line l) (clear (starts f.key) l (and_left _ _ h)) (λ x e. rw (e, m))
    (takes-sheet l (and_right (avoids (starts f.key) t) _ h) (and_right (good_slot f.slot) _ g) n ts)
takes-sheet {slots = slots} (opened {m = m} {o = o} {t = t} {u = u} {es = es} {ds = ds} l r) h g n ts =
    let k = and_right (unlike o u) _ h in
    takes-edge slots n (within (block m o t u)) (within t) ts (u ∷ ts) ts o (es ++ ds) (rw (same_refl o))
    (takes-both slots (suc n) (within t) (u ∷ ts) ts u es ds
    (takes-sheet l (and_left _ _ k) (and_left _ _ g) (suc n) (u ∷ ts))
    (takes-sheet r (and_right (apart t) _ k) (and_right (good_tree t) _ g) (line_behind (suc n) es) ts))
takes-sheet {slots = slots} {es = es} (passed {m = m} {o = o} {t = t} {u = u} z q r) h g n ts =
    takes_same (same o) slots n (within (block m o t u)) (within u) ts ts es (some-line r) q (λ x e. rw (e, z))
    (takes-sheet r (and_right (apart t) _ (and_right (unlike o u) _ h)) (and_right (good_tree t) _ g) n ts)
takes-sheet {slots = slots} (member {n = n} {a = a} {o = o} {c = c} {ms = ms} {t = t} {m = m} {es = es} {ds = ds} v i z l r) h g k ts =
    let q = group n a o c ms t in
    let p = and_left (apart_members c ms) (apart t) (and_right (avoids (whole o) t) _ h) in
    let w = good-among i (and_left (good_members ms) (good_tree t) g) in
    takes-edge slots k (within q) (first n a o c ms t) ts ts ts o (item m.slot m.key v ∷ (es ++ ds))
    (rw (same_refl o, lacking-among slots i z, or-true a))
    (takes-held slots (suc k) (first n a o c ms t) (within (chain m.inside c)) ts (q ∷ ts) ts m.slot m.key v (es ++ ds) w.0
    (tell-among c slots v q ts i p z)
    (takes-both (m.slot ∷ slots) (suc (suc k)) (within (chain m.inside c)) (q ∷ ts) ts q es ds
    (takes-sheet l (apart-chain m.inside c (checked c i p).1) (good-chain m.inside c w.1) (suc (suc k)) (q ∷ ts))
    (takes-sheet r h g (line_behind (suc (suc k)) es) ts)))
takes-sheet {slots = slots} {es = es} (done {n = n} {a = a} {o = o} {c = c} {ms = ms} {t = t} z l) h g k ts =
    takes_same (same o) slots k (within (group n a o c ms t)) (within t) ts ts es (some-line l) (clear (whole o) l (and_left _ _ h))
    (λ x e. rw (e, not-lacking n (lacking slots ms) z))
    (takes-sheet l (and_right (apart_members c ms) _ (and_right (avoids (whole o) t) _ h)) (and_right (good_members ms) _ g) k ts)
takes-sheet {slots = slots} {es = es} (unstopped {b = b} {t = t} z l) h g n ts =
    takes_same (stops b (lead_key t)) slots n (within (barred b t)) (within t) ts ts es (some-line l) z (λ x e. rw e)
    (takes-sheet l (and_right (apart_bar b t) _ h) (and_right (leb 1 (bar_number b)) _ g) n ts)

-- ---- and a message with it

-- the lines of a sheet are taken for its slots
pub reads : (t : Tree) (es : List Entry) (n : ℕ) → good_tree t ≡ true → apart t ≡ true → Sheet t es → taken_by t n (lines_in es) ≡ taken (taken_on n es)
unfolding Takes resume walk taken_by
reads t es n g h l = (rw (append-nil (lines_in es)) at (takes-sheet l h g n [] [])) ∙ all_none (taken_on n es)
