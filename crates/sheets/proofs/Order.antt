-- Blocks in any order: those that came, picked out in the tree's order, are the blocks that are filled in with their values.
-- Assumes nothing.
use Prim.Native.Nat.{ℕ}
use mathlib.Core.Path.{◌≡◌, refl, sym, ap, subst, ◌∙◌}
use mathlib.Core.Bool.{Bool, true, false, ◌||◌, not, cond, true≢false}
use mathlib.Core.List.{List, [], ◌∷◌, ◌++◌, append_assoc, append-nil}
use mathlib.Core.Logic.{◌⊎◌, inl, inr, ⊎_elim}
use lib.Dec.{eqb}
use borrow.Author.Tests.{eqb-true, not-true}
use Rattle.text.specs.Bytes.{begins, same}
use Rattle.text.proofs.Bools.{is_false, or_case, or-one, or-two, or-none, or_left, or_right}
use Rattle.text.proofs.Laws.{and_left, and_right, same_refl, begins-append}
use Rattle.sheets.specs.Trees.{Field, Member, Tree, group, chain}
use Rattle.sheets.specs.Sheets.{Entry, edge, item, line_of, lines_in, come, has, Among, front, later, Laid, shut, given, absent, member, done}
use Rattle.sheets.specs.Filled.{some, filled_fields, filled_members}
use Rattle.sheets.specs.Plain.{ahead, through, first_begins, block_with, blocks_with, any_line, past, arranged}
use Rattle.sheets.proofs.Checks.{keys_of, clash, starts, whole, fits_line, none_of, apart_fields, later_apart, apart_members, free_members, free, field_slots, own_slots, member_slots, slots_of, disjoint, distinct, sole_members, closed_members}
use Rattle.sheets.proofs.Accepts.{clash-apart, none-among, come-append}
use Rattle.sheets.proofs.Once.{slots_held, has-held, among-slots, chain-slots, outside, Disjoint, one-or-apart, own_held, own-distinct, not-again}
use Rattle.sheets.proofs.Emits.{has-front, come-more}
use Rattle.sheets.proofs.Picking.{none_both, ahead_of, ahead-all, ahead-at, block-past, block_none, through-to, past-at, past-none, blocks-none, key-misses, line-misses, any-lines, chain-free, among-free, laid-misses}

-- ---- values that are a sheet's

module _ (value : ℕ → List ℕ) where
  -- every line has its slot's value, and none is empty
  unfoldable pub Right : List Entry → Type 0
  Right [] = Unit
  Right (edge o ∷ es) = Right es
  Right (item i k v ∷ es) = (v ≡ value i) × (some v ≡ true) × Right es

  pub right-left : (es ds : List Entry) → Right (es ++ ds) → Right es
  unfolding Right
  right-left [] ds h = tt
  right-left (edge o ∷ es) ds h = right-left es ds h
  right-left (item i k v ∷ es) ds h = (h.0, h.1, right-left es ds h.2)

  pub right-right : (es ds : List Entry) → Right (es ++ ds) → Right ds
  unfolding Right
  right-right [] ds h = h
  right-right (edge o ∷ es) ds h = right-right es ds h
  right-right (item i k v ∷ es) ds h = right-right es ds h.2

  -- a slot that does not come has none
  unfoldable pub Bare : List ℕ → List Entry → Type 0
  Bare slots es = (s : ℕ) → has slots s ≡ true → has (slots_held es) s ≡ false → value s ≡ []

  pub no-some : (v : List ℕ) → v ≡ [] → some v ≡ false
  unfolding some
  no-some v e = rw e

  -- fields in their order
  chain-filled : (fs : List Field) (c : List ℕ) {slots : List ℕ} {es : List Entry} → Laid slots (chain fs c) es
      → distinct (field_slots fs) ≡ true → Right es → Bare (field_slots fs) es → es ≡ filled_fields value fs c
  unfolding chain filled_fields Right Bare field_slots slots_held has distinct
  chain-filled [] c shut d r b = refl
  chain-filled (f ∷ fs) c (given {es = es} v l) d r b =
      let q = not (has (field_slots fs) f.slot) in
      let bare : Bare (field_slots fs) es =
      λ s i h. b s (or-two (eqb f.slot s) _ i)
      (or-none (eqb f.slot s) _ (other f.slot s (not-true _ (and_left q _ d)) i) h) in
      rw (or-two f.must (some (value f.slot)) (rw r.0 at r.1), ← r.0, ← (chain-filled fs c l (and_right q _ d) r.2 bare))
    where
      other : (x s : ℕ) → has (field_slots fs) x ≡ false → has (field_slots fs) s ≡ true → eqb x s ≡ false
      other x s h i = is_false (eqb x s) (λ e. true≢false (sym i ∙ (rw (eqb-true x s e) at h)))
  chain-filled (f ∷ fs) c (absent {es = es} z l) d r b =
      let q = not (has (field_slots fs) f.slot) in
      let none = b f.slot (has-front f.slot (field_slots fs))
      (outside f.slot l (rw (chain-slots fs c) (not-true (has (field_slots fs) f.slot) (and_left q _ d)))) in
      rw (z, no-some (value f.slot) none) (chain-filled fs c l (and_right q _ d) r (λ s i h. b s (or-two (eqb f.slot s) _ i) h))

-- ---- many blocks: those that came, one behind the other

pub data Units (o c : List ℕ) (ms : List Member) : List Entry → Type 0 where
  none : Units o c ms []
  unit : {slots : List ℕ} {m : Member} {es us : List Entry} (v : List ℕ) → Among m ms → Laid slots (chain m.inside c) es
      → ((s : ℕ) → has (own_slots m) s ≡ true → has (slots_held us) s ≡ false) → Units o c ms us
      → Units o c ms (edge o ∷ item m.slot m.key v ∷ (es ++ us))

pub lines-both : (es ds : List Entry) → lines_in (es ++ ds) ≡ lines_in es ++ lines_in ds
unfolding lines_in
lines-both [] ds = refl
lines-both (e ∷ es) ds = ap (λ (l : List (List ℕ)). line_of e ∷ l) (lines-both es ds)

pub split : {slots : List ℕ} {n a : Bool} {o c : List ℕ} {ms : List Member} {t : Tree} {es : List Entry}
    → sole_members ms ≡ true → disjoint (member_slots ms) (slots_of t) ≡ true → Laid slots (group n a o c ms t) es
    → (us : List Entry) × (ds : List Entry) × (es ≡ us ++ ds) × Units o c ms us × Laid (come slots us) t ds
unfolding come
split {slots = slots} {t = t} h d (member {o = o} {m = m} {es = es} {ds = ds} v i z l r) =
    let (us, rest, e, u, k) = split h d r in
    let fresh : (s : ℕ) → has (own_slots m) s ≡ true → has (slots_held us) s ≡ false
    = λ s w. or_left (has (slots_held us) s) (has (slots_held rest) s)
    (sym (has-held us rest s) ∙ ap (λ (y : List Entry). has (slots_held y) s) (sym e)
    ∙ not-again m s h d i (come-more es (m.slot ∷ slots) m.slot (has-front m.slot slots)) w r) in
    let x = item m.slot m.key v in (
      edge o ∷ x ∷ (es ++ us),
      rest,
      ap (λ (y : List Entry). edge o ∷ x ∷ y) (ap (λ (y : List Entry). es ++ y) e ∙ sym (append_assoc es us rest)),
      unit v i l fresh u,
      subst (λ (y : List ℕ). Laid y t rest) (sym (come-append (m.slot ∷ slots) es us)) k,
    )
split h d (done {es = es} z l) = ([], es, refl, none, l)

-- the last line of one of them
chain-end : (fs : List Field) (c : List ℕ) {slots : List ℕ} {es : List Entry} → Laid slots (chain fs c) es → free c true (chain fs c) ≡ true
    → (ls : List (List ℕ)) × (lines_in es ≡ ls ++ c ∷ []) × (any_line c ls ≡ false)
unfolding chain free lines_in line_of any_line
chain-end [] c shut h = ([], refl, refl)
chain-end (f ∷ fs) c (given v l) h =
    let (ls, e, k) = chain-end fs c l (and_right (not (begins f.key c)) _ h) in
    ((f.key ++ v) ∷ ls, ap (λ (y : List (List ℕ)). (f.key ++ v) ∷ y) e, or-none (same c (f.key ++ v)) _ (key-misses c f.key v (and_left _ _ h)) k)
chain-end (f ∷ fs) c (absent z l) h = chain-end fs c l (and_right (not (begins f.key c)) _ h)

among-closed : (c : List ℕ) {m : Member} {ms : List Member} → Among m ms → closed_members c ms ≡ true
    → (not (begins m.key c) ≡ true) × (free c true (chain m.inside c) ≡ true)
unfolding closed_members
among-closed c (front {m = m}) h = (and_left _ _ h, and_left (free c true (chain m.inside c)) _ (and_right (not (begins m.key c)) _ h))
among-closed c (later {k = k} i) h = among-closed c i (and_right (free c true (chain k.inside c)) _ (and_right (not (begins k.key c)) _ h))

-- from the first line of the first to the last line of the last
Ended : List ℕ → List ℕ → List Entry → Type 0
Ended o c us = (ls : List (List ℕ)) × (lines_in us ≡ ls ++ c ∷ []) × (ks : List (List ℕ)) × (lines_in us ≡ o ∷ ks)

units-end : {o c : List ℕ} {ms : List Member} {us : List Entry} → closed_members c ms ≡ true → Units o c ms us → (us ≡ []) ⊎ Ended o c us
unfolding Ended lines_in line_of
units-end h none = inl refl
units-end {o = o} {c = c} h (unit {m = m} {es = es} {us = us} v i l f u) =
    let (ls, e, k) = chain-end m.inside c l (among-closed c i h).1 in
    let front : List (List ℕ) → List (List ℕ) = λ y. o ∷ (m.key ++ v) ∷ y in
    inr (⊎_elim
    (λ z. (front ls, ap front (lines-both es us ∙ ap (λ (y : List Entry). lines_in es ++ lines_in y) z ∙ append-nil (lines_in es) ∙ e), _, refl))
    (λ z. (front (lines_in es ++ z.0), ap front (lines-both es us ∙ ap (λ (y : List (List ℕ)). lines_in es ++ y) z.1 ∙ sym (append_assoc (lines_in es) z.0 (c ∷ []))), _, refl))
    (units-end h u))

pub units-slots : {o c : List ℕ} {ms : List Member} {us : List Entry} (s : ℕ) → Units o c ms us → has (slots_held us) s ≡ true → has (member_slots ms) s ≡ true
unfolding slots_held has own_slots
units-slots s none h = absurd (true≢false (sym h))
units-slots {c = c} s (unit {m = m} {es = es} {us = us} v i l f u) h =
    or_case (eqb m.slot s) (has (slots_held (es ++ us)) s) h
    (λ e. among-slots s i (or-one (eqb m.slot s) _ e))
    (λ e. or_case (has (slots_held es) s) (has (slots_held us) s) (sym (has-held es us s) ∙ e)
    (λ q. among-slots s i (own_held m c s l q))
    (λ q. units-slots s u q))

pub units-misses : (x : List ℕ) {o c : List ℕ} {ms : List Member} {us : List Entry} → Units o c ms us → not (same o x) ≡ true → free_members x c ms ≡ true
    → any_line x (lines_in us) ≡ false
unfolding lines_in line_of any_line
units-misses x none h f = refl
units-misses x {o = o} {c = c} (unit {m = m} {es = es} {us = us} v i l q u) h f =
    let g = among-free x c i f in
    or-none (same x o) _ (line-misses x o h)
    (or-none (same x (m.key ++ v)) _ (key-misses x m.key v g.0)
    (any-lines x es us (laid-misses x l (sym (chain-free x m.inside c) ∙ g.1)) (units-misses x u h f)))

-- two of many blocks are one, or are told apart by their first fields
none-clash : (k : List ℕ) {m : Member} {ms : List Member} → Among m ms → none_of k ms ≡ true → clash (starts m.key) (starts k) ≡ false
unfolding none_of clash
none-clash k (front {m = m}) h =
    let e = not-true (begins k m.key || begins m.key k) (and_left _ _ h) in
    or-none (begins m.key k) _ (or_right (begins k m.key) _ e) (or_left (begins k m.key) _ e)
none-clash k (later {k = j} i) h = none-clash k i (and_right (not (clash (starts k) (starts j.key))) _ h)

keys-apart : (c : List ℕ) {m k : Member} {ms : List Member} → apart_members c ms ≡ true → Among m ms → Among k ms
    → (m ≡ k) ⊎ ((v : List ℕ) → begins m.key (k.key ++ v) ≡ false)
unfolding apart_members fits_line
keys-apart c h front front = inl refl
keys-apart c h (front {m = m} {ms = ms}) (later {m = k} j) =
    inr (λ v. none-among m.key v j (and_left (none_of m.key ms) _ (and_right (not (clash (whole c) (starts m.key))) _ h)))
keys-apart c h (later {m = m} i) (front {m = k} {ms = ms}) =
    let e = none-clash k.key i (and_left (none_of k.key ms) _ (and_right (not (clash (whole c) (starts k.key))) _ h)) in
    inr (λ v. clash-apart (starts m.key) (starts k.key) (k.key ++ v) e (begins-append k.key v))
keys-apart c h (later {k = x} {ms = ms} i) (later j) =
    let r = and_right (none_of x.key ms) _ (and_right (not (clash (whole c) (starts x.key))) _ h) in
    keys-apart c (and_right (later_apart x.inside ms) _ (and_right (apart_fields x.inside c) _ r)) i j

through-lines : (c : List ℕ) (ls rest : List (List ℕ)) (es us : List Entry) → lines_in es ≡ ls ++ c ∷ [] → any_line c ls ≡ false
    → through c (lines_in (es ++ us) ++ rest) ≡ lines_in es
through-lines c ls rest es us e k =
    ap (through c)
    (ap (λ (y : List (List ℕ)). y ++ rest) (lines-both es us)
    ∙ append_assoc (lines_in es) (lines_in us) rest
    ∙ ap (λ (y : List (List ℕ)). y ++ (lines_in us ++ rest)) e
    ∙ append_assoc ls (c ∷ []) (lines_in us ++ rest))
    ∙ through-to c ls (lines_in us ++ rest) k
    ∙ sym e

module _ (value : ℕ → List ℕ) (o c : List ℕ) (ms : List Member) (rest : List (List ℕ))
    (sm : sole_members ms ≡ true) (ap' : apart_members c ms ≡ true) (cl : closed_members c ms ≡ true) (fr : free_members o c ms ≡ true)
    (gone : any_line o rest ≡ false) where
  -- one of them, as it is filled in
  one_of : Member → List Entry
  one_of m = cond (some (value m.slot)) (edge o ∷ item m.slot m.key (value m.slot) ∷ filled_fields value m.inside c) []

  -- the block that came is the block that is filled in
  same_block : {slots : List ℕ} {es : List Entry} (us : List Entry) (m : Member) (v : List ℕ) → Among m ms → Laid slots (chain m.inside c) es
      → ((s : ℕ) → has (own_slots m) s ≡ true → has (slots_held us) s ≡ false)
      → Right value (edge o ∷ item m.slot m.key v ∷ (es ++ us)) → Bare value (own_slots m) (edge o ∷ item m.slot m.key v ∷ (es ++ us))
      → block_with o c m.key (lines_in (edge o ∷ item m.slot m.key v ∷ (es ++ us)) ++ rest) ≡ lines_in (one_of m)
  unfolding Right Bare slots_held has own_slots distinct lines_in line_of block_with first_begins through one_of
  same_block {es = es} us m v i l f r b =
      let (ls, e, k) = chain-end m.inside c l (among-closed c i cl).1 in
      let own = own-distinct i sm in
      let ne = not (has (field_slots m.inside) m.slot) in
      let bare : Bare value (field_slots m.inside) es =
      λ s w h. b s (or-two (eqb m.slot s) _ w)
      (or-none (eqb m.slot s) _ (other s w (not-true _ (and_left ne _ own)))
      (rw (has-held es us s) (or-none (has (slots_held es) s) _ h (f s (or-two (eqb m.slot s) _ w))))) in
      let q = chain-filled value m.inside c l (and_right ne _ own) (right-left value es us r.2) bare in
      let sv : some (value m.slot) ≡ true = rw r.0 at r.1 in
      rw (same_refl o, begins-append m.key v, key-misses c m.key v (among-closed c i cl).0, sv, ← q, ← r.0)
      (ap (λ (y : List (List ℕ)). o ∷ (m.key ++ v) ∷ y) (through-lines c ls rest es us e k))
    where
      other : (s : ℕ) → has (field_slots m.inside) s ≡ true → has (field_slots m.inside) m.slot ≡ false → eqb m.slot s ≡ false
      other s w h = is_false (eqb m.slot s) (λ e. true≢false (sym w ∙ (rw (eqb-true m.slot s e) at h)))

  -- and a block before it is passed over
  other_block : {slots : List ℕ} {es : List Entry} (us : List Entry) (m k : Member) (v : List ℕ) → Among k ms → Laid slots (chain k.inside c) es
      → begins m.key (k.key ++ v) ≡ false
      → block_with o c m.key (lines_in (edge o ∷ item k.slot k.key v ∷ (es ++ us)) ++ rest) ≡ block_with o c m.key (lines_in us ++ rest)
  unfolding lines_in line_of block_with first_begins
  other_block {es = es} us m k v i l h =
      let f = among-free o c i fr in
      rw (same_refl o, h, key-misses o k.key v f.0)
      (ap (λ (y : List (List ℕ)). block_with o c m.key (y ++ rest)) (lines-both es us)
      ∙ ap (block_with o c m.key) (append_assoc (lines_in es) (lines_in us) rest)
      ∙ block-past o c m.key (lines_in es) (lines_in us ++ rest) (laid-misses o l (sym (chain-free o k.inside c) ∙ f.1)))

  pick : (us : List Entry) (m : Member) → Units o c ms us → Among m ms → Right value us → Bare value (own_slots m) us
      → block_with o c m.key (lines_in us ++ rest) ≡ lines_in (one_of m)
  unfolding Right Bare slots_held one_of lines_in has own_slots
  pick _ m none i r b =
      rw (no-some value (value m.slot) (b m.slot (has-front m.slot (field_slots m.inside)) refl))
      (block_none o c m.key rest gone)
  pick _ m (unit {m = k} {es = es} {us = us} v j l f u) i r b =
      ⊎_elim same-one (λ q. ⊎_elim same-one (λ d. other_block us m k v j l (q v) ∙ pick us m u i (right-right value es us r.2) (bare d)) (one-or-apart sm i j))
      (keys-apart c ap' i j)
    where
      all : List Entry
      all = edge o ∷ item k.slot k.key v ∷ (es ++ us)

      same-one : m ≡ k → block_with o c m.key (lines_in all ++ rest) ≡ lines_in (one_of m)
      same-one e =
          let b' : Bare value (own_slots k) all = rw e at b in
          rw e (same_block us k v j l f r b')

      bare : Disjoint m k → Bare value (own_slots m) us
      bare d s w h =
          let x = d s w in
          b s w (or-none (eqb k.slot s) _ (or_left (eqb k.slot s) _ x)
          (rw (has-held es us s) (or-none (has (slots_held es) s) _ (is_false (has (slots_held es) s) (λ e. true≢false (sym (own_held k c s l e) ∙ x))) h)))

  -- all of them, behind other lines
  picks : (us : List Entry) (pre : List (List ℕ)) (ks : List Member) → ((m : Member) → Among m ks → Among m ms)
      → Units o c ms us → Right value us → Bare value (member_slots ms) us → any_line o pre ≡ false
      → blocks_with o c (keys_of ks) (pre ++ (lines_in us ++ rest)) ≡ lines_in (filled_members value o c ks)
  unfolding blocks_with keys_of filled_members Bare one_of lines_in
  picks us pre [] f u r b h = refl
  picks us pre (m ∷ ks) f u r b h =
      let i = f m front in
      rw (
        block-past o c m.key pre (lines_in us ++ rest) h,
        pick us m u i r (λ s w. b s (among-slots s i w)),
        picks us pre ks (λ x j. f x (later j)) u r b h,
      )
      (on (some (value m.slot)))
    where
      fields : List Entry
      fields = edge o ∷ item m.slot m.key (value m.slot) ∷ filled_fields value m.inside c

      on : (t : Bool) → lines_in (cond t fields []) ++ lines_in (filled_members value o c ks) ≡ lines_in (cond t (fields ++ filled_members value o c ks) (filled_members value o c ks))
      on true = sym (lines-both fields (filled_members value o c ks))
      on false = refl

  pub units-arranged : (us : List Entry) (pre : List (List ℕ)) → Units o c ms us → Right value us → Bare value (member_slots ms) us
      → any_line o pre ≡ false → any_line c pre ≡ false → any_line c rest ≡ false
      → arranged (record { opening = o; closing = c; keys = keys_of ms }) (pre ++ (lines_in us ++ rest)) ≡ pre ++ (lines_in (filled_members value o c ms) ++ rest)
  unfolding arranged lines_in Ended
  units-arranged us pre u r b h k g =
      rw (picks us pre ms (λ m i. i) u r b h) (⊎_elim some-none some-come (units-end cl u))
    where
      mid : List (List ℕ)
      mid = lines_in (filled_members value o c ms)

      Goal : Type 0
      Goal = ahead o (pre ++ (lines_in us ++ rest)) ++ (mid ++ past c (pre ++ (lines_in us ++ rest))) ≡ pre ++ (mid ++ rest)

      some-none : us ≡ [] → Goal
      some-none e =
          let w : pre ++ (lines_in us ++ rest) ≡ pre ++ rest = ap (λ (y : List Entry). pre ++ (lines_in y ++ rest)) e in
          let no = none_both o pre rest h gone in
          let z : mid ≡ [] = sym (picks us pre ms (λ m i. i) u r b h) ∙ ap (blocks_with o c (keys_of ms)) w ∙ blocks-none o c (keys_of ms) (pre ++ rest) no in
          rw (w, z, past-none c (pre ++ rest) (none_both c pre rest k g), append-nil (ahead o (pre ++ rest))) (ahead-all o (pre ++ rest) no)

      some-come : Ended o c us → Goal
      some-come e =
          let (ls, q, ks, p) = e in
          let w : pre ++ (lines_in us ++ rest) ≡ (pre ++ ls) ++ c ∷ rest
          = ap (λ (y : List (List ℕ)). pre ++ (y ++ rest)) q ∙ ap (λ (y : List (List ℕ)). pre ++ y) (append_assoc ls (c ∷ []) rest) ∙ sym (append_assoc pre ls (c ∷ rest)) in
          let x : ahead o (pre ++ (lines_in us ++ rest)) ≡ pre
          = ahead_of o pre (lines_in us ++ rest) h ∙ ap (λ (y : List (List ℕ)). pre ++ ahead o (y ++ rest)) p ∙ ap (λ (y : List (List ℕ)). pre ++ y) (ahead-at o (ks ++ rest)) ∙ append-nil pre in
          rw (x, w, past-at c (pre ++ ls) rest g)
