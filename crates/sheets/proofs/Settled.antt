-- What stands in a sheet stands together: where one line of a block stands, so do its mandatory lines; and one of many blocks has no
-- line without its first. So the values of a sheet are complete and solid, as those are that a table is filled in with.
-- Assumes nothing.
use Prim.Native.Nat.{ℕ}
use mathlib.Core.Path.{◌≡◌, refl, sym, ap, subst, ◌∙◌}
use mathlib.Core.Bool.{Bool, true, false, ◌&&◌, ◌||◌, not, true≢false}
use mathlib.Core.List.{List, [], ◌∷◌, ◌++◌}
use mathlib.Core.Logic.{⊎_elim}
use lib.Dec.{eqb}
use borrow.Author.Tests.{eqb-true, not-true}
use Rattle.text.specs.Bytes.{begins, same}
use Rattle.text.proofs.Laws.{and_left, and_right, and_both}
use Rattle.sheets.specs.Trees.{Field, Member, Tree, last, line, block, group, barred, chain}
use Rattle.sheets.specs.Slots.{field_slots, own_slots, member_slots, slots_of, first_slots, must_slots}
use Rattle.sheets.specs.Sheets.{Entry, item, come, has, Among, front, later, Laid, shut, given, absent, opened, passed, member, done, unstopped, Sheet}
use Rattle.sheets.specs.Filled.{some, any_field, any_member, any_in, filled_members, filled}
use Rattle.text.proofs.Bools.{is_false, or_case, or-one, or-two, or-none, or_left, or_right, of-both}
use Rattle.sheets.proofs.Checks.{disjoint, distinct, sole_members, sole, heavy, all_free, groups_of, free_members, free, closed_members, apart_members, tellable, all_members, whole_members, begun, complete, solid_fields, solid_members, solid}
use Rattle.sheets.proofs.Emits.{begun-line, has-front, no_value}
use Rattle.sheets.proofs.Once.{has-append, apart-lists, slots_held, has-held, among-slots, inside, outside, Disjoint, one-or-apart, own_held, own-distinct}
use Rattle.sheets.proofs.Order.{Units, none, unit, split, units-slots}
use Rattle.sheets.proofs.Plain.{none-fields, none-members, none_in}
use Rattle.sheets.proofs.Musts.{come-held, musts-come}

right-false : (b : Bool) → (b || false) ≡ b
right-false true = refl
right-false false = refl

module _ (value : ℕ → List ℕ) where
  -- of some slots, just those of a sheet have a value
  unfoldable pub Tells : List ℕ → List Entry → Type 0
  Tells slots es = (s : ℕ) → has slots s ≡ true → some (value s) ≡ has (slots_held es) s

  -- ---- the slots of a part of a sheet

  tells-behind : (slots : List ℕ) (i : ℕ) (k v : List ℕ) (es : List Entry) → has slots i ≡ false → Tells (i ∷ slots) (item i k v ∷ es) → Tells slots es
  unfolding Tells slots_held has
  tells-behind slots i k v es n h s e =
      let other : eqb i s ≡ false = is_false (eqb i s) (λ q. true≢false (sym e ∙ rw (← (eqb-true i s q)) n)) in
      h s (or-two (eqb i s) _ e) ∙ rw other

  tells_first : (slots : List ℕ) (i : ℕ) (k v : List ℕ) (es : List Entry) → Tells (i ∷ slots) (item i k v ∷ es) → some (value i) ≡ true
  unfolding Tells slots_held
  tells_first slots i k v es h = h i (has-front i slots) ∙ has-front i (slots_held es)

  tells-left : (xs ys : List ℕ) (es ds : List Entry) → ((s : ℕ) → has xs s ≡ true → has (slots_held ds) s ≡ false) → Tells (xs ++ ys) (es ++ ds) → Tells xs es
  unfolding Tells
  tells-left xs ys es ds n h s e =
      h s (rw (has-append xs ys s) (or-one _ _ e)) ∙ has-held es ds s ∙ rw (n s e) (right-false (has (slots_held es) s))

  tells-right : (xs ys : List ℕ) (es ds : List Entry) → ((s : ℕ) → has ys s ≡ true → has (slots_held es) s ≡ false) → Tells (xs ++ ys) (es ++ ds) → Tells ys ds
  unfolding Tells
  tells-right xs ys es ds n h s e = h s (rw (has-append xs ys s) (or-two (has xs s) _ e)) ∙ has-held es ds s ∙ rw (n s e)

  tells_more : (i : ℕ) (slots : List ℕ) (es : List Entry) → Tells (i ∷ slots) es → Tells slots es
  unfolding Tells has
  tells_more i slots es h s e = h s (or-two (eqb i s) _ e)

  tells-alone : (xs : List ℕ) (es us : List Entry) → ((s : ℕ) → has xs s ≡ true → has (slots_held us) s ≡ false) → Tells xs (es ++ us) → Tells xs es
  unfolding Tells
  tells-alone xs es us n h s e = h s e ∙ has-held es us s ∙ rw (n s e) (right-false (has (slots_held es) s))

  tells-past : (m k : Member) (v : List ℕ) (es us : List Entry) (c : List ℕ) {slots : List ℕ} → Laid slots (chain k.inside c) es → Disjoint m k
      → Tells (own_slots m) (item k.slot k.key v ∷ (es ++ us)) → Tells (own_slots m) us
  unfolding Tells slots_held has own_slots
  tells-past m k v es us c l d h s e =
      let x = d s e in
      h s e ∙ rw (or_left (eqb k.slot s) _ x, has-held es us s, is_false (has (slots_held es) s) (λ q. true≢false (sym (own_held k c s l q) ∙ x)))

  -- a slot that is not in the sheet has no value
  empty : (slots : List ℕ) (es : List Entry) (s : ℕ) → Tells slots es → has slots s ≡ true → has (slots_held es) s ≡ false → value s ≡ []
  unfolding Tells
  empty slots es s h e n = no_value value (value s) (h s e ∙ n)

  -- ---- one of many blocks

  fields-settle : (fs : List Field) (c : List ℕ) {slots : List ℕ} {es : List Entry} → Laid slots (chain fs c) es → distinct (field_slots fs) ≡ true → Tells (field_slots fs) es
      → solid_fields value fs ≡ true
  unfolding chain distinct field_slots solid_fields
  fields-settle [] c l d h = refl
  fields-settle (f ∷ fs) c (given {es = es} v l) d h =
      let k = not (has (field_slots fs) f.slot) in
      and_both (or-two (not f.must) _ (tells_first (field_slots fs) f.slot f.key v es h))
      (fields-settle fs c l (and_right k _ d) (tells-behind (field_slots fs) f.slot f.key v es (not-true _ (and_left k _ d)) h))
  fields-settle (f ∷ fs) c (absent {es = es} z l) d h =
      and_both (or-one (not f.must) _ (rw z)) (fields-settle fs c l (and_right (not (has (field_slots fs) f.slot)) _ d) (tells_more f.slot (field_slots fs) es h))

  abbrev Settled : Member → Type 0
  Settled m =
      ((not (some (value m.slot)) || solid_fields value m.inside) ≡ true)
      × ((some (value m.slot) || not (any_field value m.inside)) ≡ true)

  -- one that did not come
  settled-none : (m : Member) (us : List Entry) → ((s : ℕ) → has (own_slots m) s ≡ true → has (slots_held us) s ≡ false) → Tells (own_slots m) us → Settled m
  unfolding own_slots has Tells
  settled-none m us n h =
      let i = has-front m.slot (field_slots m.inside) in
      let a : some (value m.slot) ≡ false = h m.slot i ∙ n m.slot i in
      let b : any_field value m.inside ≡ false = none-fields value m.inside (λ s e. let q = or-two (eqb m.slot s) _ e in empty (own_slots m) us s h q (n s q)) in
      (rw a, rw (a, b))

  -- one that came
  settled_here : {slots : List ℕ} {es : List Entry} (m : Member) (c v : List ℕ) (us : List Entry) → distinct (own_slots m) ≡ true → Laid slots (chain m.inside c) es
      → ((s : ℕ) → has (own_slots m) s ≡ true → has (slots_held us) s ≡ false) → Tells (own_slots m) (item m.slot m.key v ∷ (es ++ us)) → Settled m
  unfolding own_slots distinct has
  settled_here {es = es} m c v us q l f h =
      let d = not (has (field_slots m.inside) m.slot) in
      let first : some (value m.slot) ≡ true = tells_first (field_slots m.inside) m.slot m.key v (es ++ us) h in
      let rest = tells-behind (field_slots m.inside) m.slot m.key v (es ++ us) (not-true _ (and_left d _ q)) h in
      let own = tells-alone (field_slots m.inside) es us (λ s x. f s (or-two (eqb m.slot s) _ x)) rest in
      (or-two (not (some (value m.slot))) _ (fields-settle m.inside c l (and_right d _ q) own), or-one (some (value m.slot)) _ first)

  member-settles : {o c : List ℕ} {ms : List Member} {us : List Entry} (m : Member) → sole_members ms ≡ true → Among m ms → Units o c ms us → Tells (own_slots m) us → Settled m
  unfolding slots_held has Tells
  member-settles m q i none h = settled-none m [] (λ s e. refl) h
  member-settles {c = c} m q i (unit {m = k} {es = es} {us = us} v j l f u) h =
      ⊎_elim
      (λ e. subst Settled (sym e) (settled_here k c v us (own-distinct j q) l f (subst (λ (x : Member). Tells (own_slots x) (item k.slot k.key v ∷ (es ++ us))) e h)))
      (λ d. member-settles m q i u (tells-past m k v es us c l d h))
      (one-or-apart q i j)

  all-settle : (every ms : List Member) → ((m : Member) → Among m ms → Among m every) → ((m : Member) → Among m every → Settled m)
      → (solid_members value ms ≡ true) × (whole_members value ms ≡ true)
  unfolding solid_members whole_members
  all-settle every [] g h = (refl, refl)
  all-settle every (m ∷ ms) g h =
      let (a, b) = h m (g m front) in
      let (c, d) = all-settle every ms (λ k i. g k (later i)) h in
      (and_both a c, and_both b d)

  -- ---- a sheet

  abbrev Whole : Tree → Type 0
  Whole t = (solid value t ≡ true) × (complete value t ≡ true)

  -- the slots that came before it are none of its own
  unfoldable pub Fresh : List ℕ → List ℕ → Type 0
  Fresh slots xs = (s : ℕ) → has xs s ≡ true → has slots s ≡ false

  fresh-come : (slots : List ℕ) (es : List Entry) (xs : List ℕ) → Fresh slots xs → Fresh (slots_held es) xs → Fresh (come slots es) xs
  unfolding Fresh
  fresh-come slots es xs f g s e =
      is_false (has (come slots es) s) (λ q. or_case (has slots s) (has (slots_held es) s) (come-held es slots s q) (λ x. true≢false (sym x ∙ f s e)) (λ x. true≢false (sym x ∙ g s e)))

  all_come : (ms : List Member) (es : List Entry) → ((s : ℕ) → has (first_slots ms) s ≡ true → has (slots_held es) s ≡ true) → Tells (member_slots ms) es → all_members value ms ≡ true
  unfolding first_slots member_slots all_members Tells has own_slots
  all_come [] es f h = refl
  all_come (m ∷ ms) es f h =
      let i = has-front m.slot (field_slots m.inside) in
      and_both
      (h m.slot (rw (has-append (own_slots m) (member_slots ms) m.slot) (or-one (has (own_slots m) m.slot) _ i)) ∙ f m.slot (has-front m.slot (first_slots ms)))
      (all_come ms es (λ s e. f s (or-two (eqb m.slot s) _ e)) (λ s e. h s (rw (has-append (own_slots m) (member_slots ms) s) (or-two (has (own_slots m) s) _ e))))

  first_member : (ms : List Member) (s : ℕ) → has (first_slots ms) s ≡ true → has (member_slots ms) s ≡ true
  unfolding first_slots member_slots has own_slots
  first_member [] s h = h
  first_member (m ∷ ms) s h =
      rw (has-append (own_slots m) (member_slots ms) s)
      (or_case (eqb m.slot s) (has (first_slots ms) s) h (λ e. or-one (has (own_slots m) s) _ (or-one (eqb m.slot s) _ e)) (λ e. or-two (has (own_slots m) s) _ (first_member ms s e)))

  -- where each of them must come, each has
  must-come : {slots : List ℕ} {n a : Bool} {o c : List ℕ} {ms : List Member} {t : Tree} {es : List Entry} (us ds : List Entry)
      → Laid slots (group n a o c ms t) es → es ≡ us ++ ds → Fresh slots (member_slots ms) → Fresh (slots_held ds) (member_slots ms) → Tells (member_slots ms) us
      → (not n || all_members value ms) ≡ true
  unfolding must_slots Fresh
  must-come {slots = slots} {n = false} us ds l e f g h = refl
  must-come {slots = slots} {n = true} {ms = ms} {t = t} {es = es} us ds l e f g h = all_come ms us came h
    where
      came : (s : ℕ) → has (first_slots ms) s ≡ true → has (slots_held us) s ≡ true
      came s x =
          let i = first_member ms s x in
          or_case (has slots s) (has (slots_held es) s) (come-held es slots s (musts-come s l (rw (has-append (first_slots ms) (must_slots t) s) (or-one (has (first_slots ms) s) _ x))))
          (λ y. absurd (true≢false (sym y ∙ f s i)))
          (λ y. or_case (has (slots_held us) s) (has (slots_held ds) s) (sym (has-held us ds s) ∙ ap (λ (z : List Entry). has (slots_held z) s) (sym e) ∙ y) (λ w. w) (λ w. absurd (true≢false (sym w ∙ g s i))))

  among-tells : {m : Member} {ms : List Member} (es : List Entry) → Among m ms → Tells (member_slots ms) es → Tells (own_slots m) es
  unfolding Tells
  among-tells es i h s e = h s (among-slots s i e)

  -- ---- a block that does not stand is like none that follows

  -- what stands has a value
  HasValues : List Entry → Type 0
  HasValues es = (s : ℕ) → has (slots_held es) s ≡ true → some (value s) ≡ true

  values-right : (es ds : List Entry) → HasValues (es ++ ds) → HasValues ds
  unfolding HasValues
  values-right es ds h s e = h s (has-held es ds s ∙ or-two (has (slots_held es) s) _ e)

  -- so a block that stands and has a mandatory field has one
  stands-value : {slots : List ℕ} {t : Tree} {es : List Entry} → Laid slots t es → heavy t ≡ true → HasValues es → any_in value t ≡ true
  unfolding heavy any_in HasValues slots_held has
  stands-value shut h r = absurd (true≢false (sym h))
  stands-value (given {f = f} {es = es} v l) h r = or-one (some (value f.slot)) _ (r f.slot (has-front f.slot (slots_held es)))
  stands-value (absent {f = f} z l) h r = or-two (some (value f.slot)) _ (stands-value l (rw z at h) r)
  stands-value (opened {t = t} {es = es} {ds = ds} l k) h r = or-two (any_in value t) _ (stands-value k h (values-right es ds r))
  stands-value (passed {t = t} z g k) h r = or-two (any_in value t) _ (stands-value k h r)
  stands-value (member {m = m} {es = es} {ds = ds} v i z l k) h r = stands-value k h (values-right es ds (λ s e. r s (or-two (eqb m.slot s) _ e)))
  stands-value (done {ms = ms} z l) h r = or-two (any_member value ms) _ (stands-value l h r)
  stands-value (unstopped z l) h r = stands-value l h r

  -- of many blocks with values the first begins what is filled in
  members-begun : (o p c : List ℕ) (rest : List Entry) {m : Member} {ms : List Member} → Among m ms → some (value m.slot) ≡ true
      → begun o (filled_members value p c ms ++ rest) ≡ same o p
  unfolding filled_members begun
  members-begun o p c rest front e = rw e
  members-begun o p c rest (later {k = k} {ms = ms} i) e =
      of-both (λ (es : List Entry). begun o (es ++ rest) ≡ same o p) (some (value k.slot)) (λ w. refl) (λ w. members-begun o p c rest i e)

  -- and without values there are none
  members-none : (p c : List ℕ) (ms : List Member) → any_member value ms ≡ false → filled_members value p c ms ≡ []
  unfolding filled_members any_member
  members-none p c [] h = refl
  members-none p c (m ∷ ms) h =
      rw (or_left (some (value m.slot)) _ h) (members-none p c ms (or_right (any_field value m.inside) _ (or_right (some (value m.slot)) _ h)))

  tells-values : (t : Tree) {slots : List ℕ} {es : List Entry} → Laid slots t es → Tells (slots_of t) es → HasValues es
  unfolding HasValues Tells
  tells-values t l h s e = h s (inside s l e) ∙ e

  -- what is filled in with the values of a sheet begins as the sheet does
  begins-as : (o : List ℕ) (t : Tree) {slots : List ℕ} {es : List Entry} → Laid slots t es → tellable t ≡ true → sole t ≡ true → Tells (slots_of t) es
      → begun o (filled value t) ≡ begun o es
  unfolding tellable sole slots_of filled begun Tells slots_held has own_slots
  begins-as o (last c) shut w q h = refl
  begins-as o (line f t) (given {es = es} v l) w q h = rw (or-two f.must _ (tells_first (slots_of t) f.slot f.key v es h))
  begins-as o (line f t) (absent {es = es} z l) w q h =
      let k = not (has (slots_of t) f.slot) in
      let none : some (value f.slot) ≡ false
      = h f.slot (has-front f.slot (slots_of t)) ∙ outside f.slot l (not-true (has (slots_of t) f.slot) (and_left k _ q)) in
      rw (z, none) (begins-as o t l (and_right (all_free (groups_of t) (λ x. not (begins f.key x))) _ w) (and_right k _ q) (tells_more f.slot (slots_of t) es h))
  begins-as o (block m p t u) (opened {es = es} {ds = ds} l k) w q h =
      let dj = and_left (disjoint (slots_of t) (slots_of u)) _ q in
      let own = tells-left (slots_of t) (slots_of u) es ds (λ s e. outside s k (apart-lists (slots_of t) (slots_of u) s dj e)) h in
      rw (or_case m (heavy t) (and_left (m || heavy t) _ w) (or-one m (any_in value t)) (λ e. or-two m (any_in value t) (stands-value l e (tells-values t l own))))
  begins-as o (block m p t u) (passed {ds = ds} z g k) w q h =
      let dj = and_left (disjoint (slots_of t) (slots_of u)) _ q in
      let B = all_free (groups_of t) (λ x. not (same p x) && free x false u) in
      let C = all_free (groups_of u) (λ x. not (same p x) && free x false t) in
      let none : any_in value t ≡ false
      = none_in value t (λ s e. empty (slots_of t ++ slots_of u) ds s h (rw (has-append (slots_of t) (slots_of u) s) (or-one (has (slots_of t) s) _ e)) (outside s k (apart-lists (slots_of t) (slots_of u) s dj e))) in
      rw (z, none)
      (begins-as o u k (and_right (tellable t) _ (and_right C _ (and_right B _ (and_right (m || heavy t) _ w)))) (and_right (sole t) _ (and_right (disjoint (slots_of t) (slots_of u)) _ q))
      (tells-right (slots_of t) (slots_of u) [] ds (λ s e. refl) h))
  begins-as o (group n a p c ms t) (member {m = m} {es = es} {ds = ds} v i z l k) w q h =
      members-begun o p c (filled value t) i
      (h m.slot (rw (has-append (member_slots ms) (slots_of t) m.slot) (or-one (has (member_slots ms) m.slot) _ (among-slots m.slot i (has-front m.slot (field_slots m.inside)))))
      ∙ has-front m.slot (slots_held (es ++ ds)))
  begins-as o (group n a p c ms t) (done {es = es} z l) w q h =
      let q' = and_right (sole_members ms) _ q in
      let dj = and_left (disjoint (member_slots ms) (slots_of t)) _ q' in
      let none : any_member value ms ≡ false
      = none-members value ms (λ s e. empty (member_slots ms ++ slots_of t) es s h (rw (has-append (member_slots ms) (slots_of t) s) (or-one (has (member_slots ms) s) _ e)) (outside s l (apart-lists (member_slots ms) (slots_of t) s dj e))) in
      let A = free p false t && free c false t in
      let D = free_members p c ms && (closed_members c ms && (not (same c p) && apart_members c ms)) in
      let E = all_free (groups_of t) (λ x. not (same p x) && free_members x c ms) in
      rw (members-none p c ms none)
      (begins-as o t l (and_right E _ (and_right D _ (and_right A _ w))) (and_right (disjoint (member_slots ms) (slots_of t)) _ q')
      (tells-right (member_slots ms) (slots_of t) [] es (λ s e. refl) h))
  begins-as o (barred b t) (unstopped z l) w q h = begins-as o t l w q h

  -- ---- and so it settles

  pub settles : (t : Tree) {slots : List ℕ} {es : List Entry} → Laid slots t es → tellable t ≡ true → sole t ≡ true → Fresh slots (slots_of t) → Tells (slots_of t) es → Whole t
  unfolding solid complete tellable sole slots_of has Fresh Tells slots_held
  settles (last c) l w q f h = (refl, refl)
  settles (line g t) (given {es = es} v l) w q f h =
      let k = not (has (slots_of t) g.slot) in
      let n = not-true (has (slots_of t) g.slot) (and_left k _ q) in
      let r = settles t l (and_right (all_free (groups_of t) (λ x. not (begins g.key x))) _ w) (and_right k _ q)
      (λ s e. or-none (eqb g.slot s) _ (is_false (eqb g.slot s) (λ x. true≢false (sym e ∙ rw (← (eqb-true g.slot s x)) n))) (f s (or-two (eqb g.slot s) _ e)))
      (tells-behind (slots_of t) g.slot g.key v es n h) in
      (and_both (or-two (not g.must) _ (tells_first (slots_of t) g.slot g.key v es h)) r.0, r.1)
  settles (line g t) (absent {es = es} z l) w q f h =
      let r = settles t l (and_right (all_free (groups_of t) (λ x. not (begins g.key x))) _ w) (and_right (not (has (slots_of t) g.slot)) _ q) (λ s e. f s (or-two (eqb g.slot s) _ e)) (tells_more g.slot (slots_of t) es h) in
      (and_both (or-one (not g.must) _ (rw z)) r.0, r.1)
  settles (block m o t u) {slots = slots} (opened {es = es} {ds = ds} l k) w q f h =
      let B = all_free (groups_of t) (λ x. not (same o x) && free x false u) in
      let C = all_free (groups_of u) (λ x. not (same o x) && free x false t) in
      let wd = and_right C _ (and_right B _ (and_right (m || heavy t) _ w)) in
      let dj = and_left (disjoint (slots_of t) (slots_of u)) _ q in
      let qt = and_right (disjoint (slots_of t) (slots_of u)) _ q in
      let ft : Fresh slots (slots_of t) = λ s e. f s (rw (has-append (slots_of t) (slots_of u) s) (or-one (has (slots_of t) s) _ e)) in
      let fu : Fresh slots (slots_of u) = λ s e. f s (rw (has-append (slots_of t) (slots_of u) s) (or-two (has (slots_of t) s) _ e)) in
      let gu : Fresh (slots_held es) (slots_of u) = λ s e. is_false (has (slots_held es) s) (λ x. true≢false (sym e ∙ apart-lists (slots_of t) (slots_of u) s dj (inside s l x))) in
      let own = tells-left (slots_of t) (slots_of u) es ds (λ s e. outside s k (apart-lists (slots_of t) (slots_of u) s dj e)) h in
      let a = settles t l (and_left (tellable t) _ wd) (and_left (sole t) _ qt) ft own in
      let b = settles u k (and_right (tellable t) _ wd) (and_right (sole t) _ qt) (fresh-come slots es (slots_of u) fu gu) (tells-right (slots_of t) (slots_of u) es ds gu h) in
      let on : (m || any_in value t) ≡ true
      = or_case m (heavy t) (and_left (m || heavy t) _ w) (or-one m (any_in value t)) (λ e. or-two m (any_in value t) (stands-value l e (tells-values t l own))) in (
        and_both (or-two (not (m || any_in value t)) _ a.0) b.0,
        and_both (or-two (not (m || any_in value t)) _ a.1) (and_both (or-one (m || any_in value t) _ on) b.1),
      )
  settles (block m o t u) {slots = slots} (passed {ds = ds} z g k) w q f h =
      let B = all_free (groups_of t) (λ x. not (same o x) && free x false u) in
      let C = all_free (groups_of u) (λ x. not (same o x) && free x false t) in
      let wu = and_right (tellable t) _ (and_right C _ (and_right B _ (and_right (m || heavy t) _ w))) in
      let dj = and_left (disjoint (slots_of t) (slots_of u)) _ q in
      let qt = and_right (disjoint (slots_of t) (slots_of u)) _ q in
      let none : any_in value t ≡ false
      = none_in value t (λ s e. empty (slots_of t ++ slots_of u) ds s h (rw (has-append (slots_of t) (slots_of u) s) (or-one (has (slots_of t) s) _ e)) (outside s k (apart-lists (slots_of t) (slots_of u) s dj e))) in
      let own = tells-right (slots_of t) (slots_of u) [] ds (λ s e. refl) h in
      let b = settles u k wu (and_right (sole t) _ qt) (λ s e. f s (rw (has-append (slots_of t) (slots_of u) s) (or-two (has (slots_of t) s) _ e))) own in
      let gap : begun o (filled value u) ≡ false = begins-as o u k wu (and_right (sole t) _ qt) own ∙ begun-line o ds g in (
        and_both (or-one (not (m || any_in value t)) _ (rw (z, none))) b.0,
        and_both (or-one (not (m || any_in value t)) _ (rw (z, none))) (and_both (or-two (m || any_in value t) _ (ap not gap)) b.1),
      )
  settles (group n a o c ms t) {slots = slots} {es = es} l w q f h =
      let A = free o false t && free c false t in
      let D = free_members o c ms && (closed_members c ms && (not (same c o) && apart_members c ms)) in
      let E = all_free (groups_of t) (λ x. not (same o x) && free_members x c ms) in
      let sm = and_left (sole_members ms) _ q in
      let q' = and_right (sole_members ms) _ q in
      let dj = and_left (disjoint (member_slots ms) (slots_of t)) _ q' in
      let (us, ds, e, u, k) = split sm dj l in
      let fm : Fresh slots (member_slots ms) = λ s x. f s (rw (has-append (member_slots ms) (slots_of t) s) (or-one (has (member_slots ms) s) _ x)) in
      let ft : Fresh slots (slots_of t) = λ s x. f s (rw (has-append (member_slots ms) (slots_of t) s) (or-two (has (member_slots ms) s) _ x)) in
      let gm : Fresh (slots_held ds) (member_slots ms) = λ s x. outside s k (apart-lists (member_slots ms) (slots_of t) s dj x) in
      let gt : Fresh (slots_held us) (slots_of t)
      = λ s x. is_false (has (slots_held us) s) (λ y. true≢false (sym x ∙ apart-lists (member_slots ms) (slots_of t) s dj (units-slots s u y))) in
      let h' : Tells (member_slots ms ++ slots_of t) (us ++ ds) = subst (Tells (member_slots ms ++ slots_of t)) e h in
      let hm = tells-left (member_slots ms) (slots_of t) us ds gm h' in
      let (so, wh) = all-settle ms ms (λ m i. i) (λ m i. member-settles m sm i u (among-tells us i hm)) in
      let r = settles t k (and_right E _ (and_right D _ (and_right A _ w))) (and_right (disjoint (member_slots ms) (slots_of t)) _ q') (fresh-come slots us (slots_of t) ft gt) (tells-right (member_slots ms) (slots_of t) us ds gt h') in
      (and_both so r.0, and_both (must-come us ds l e fm gm hm) (and_both wh r.1))
  settles (barred b t) (unstopped z l) w q f h = settles t l w q f h

-- the values of a sheet that has no empty one
pub sheet-settles : (t : Tree) (es : List Entry) (value : ℕ → List ℕ) → Sheet t es → tellable t ≡ true → sole t ≡ true → ((s : ℕ) → has (slots_of t) s ≡ true → some (value s) ≡ has (slots_held es) s)
    → (solid value t ≡ true) × (complete value t ≡ true)
unfolding Fresh Tells has
sheet-settles t es value l w q h = settles value t l w q (λ s e. refl) h
