-- The lines of a sheet whose values get 0 are of 20 to 7E hex, where the texts of its table are; and its last line is its only `-`.
-- Assumes nothing.
use Prim.Native.Nat.{ℕ}
use mathlib.Core.Path.{◌≡◌, refl}
use mathlib.Core.Bool.{Bool, true, ◌&&◌}
use mathlib.Core.List.{List, [], ◌∷◌, ◌++◌}
use Rattle.text.proofs.Laws.{and_left, and_right, and_both}
use Rattle.text.proofs.Printed.{printed, printed-append, all_printed}
use Rattle.lines.proofs.Joins.{printable-append}
use Rattle.forms.specs.Forms.{Slot, value_number}
use Rattle.forms.proofs.Printing.{printed_form, value-printed}
use Rattle.fitting.specs.Fitting.{bar_text}
use Rattle.sheets.specs.Trees.{Field, Member, Tree, last, line, block, group, barred, chain}
use Rattle.sheets.specs.Sheets.{Entry, edge, item, line_of, lines_in, Among, front, later, Laid, shut, given, absent, opened, passed, member, done, unstopped}
use Rattle.sheets.proofs.Order.{lines-both}

-- ---- the texts of a table

unfoldable pub field_texts : List Field → Bool
field_texts [] = true
field_texts (f ∷ fs) = printed f.key && field_texts fs

unfoldable pub member_texts : List Member → Bool
member_texts [] = true
member_texts (m ∷ ms) = printed m.key && (field_texts m.inside && member_texts ms)

unfoldable pub texts : Tree → Bool
texts (last c) = printed c
texts (line f t) = printed f.key && texts t
texts (block m o t u) = printed o && (texts t && texts u)
texts (group n a o c ms t) = printed o && (printed c && (member_texts ms && texts t))
texts (barred b t) = printed (bar_text b) && texts t

chain-texts : (fs : List Field) (c : List ℕ) → field_texts fs ≡ true → printed c ≡ true → texts (chain fs c) ≡ true
unfolding chain field_texts texts
chain-texts [] c h e = e
chain-texts (f ∷ fs) c h e = and_both {a = printed f.key} (and_left _ (field_texts fs) h) (chain-texts fs c (and_right (printed f.key) _ h) e)

among-texts : {m : Member} {ms : List Member} → Among m ms → member_texts ms ≡ true → (printed m.key ≡ true) × (field_texts m.inside ≡ true)
unfolding member_texts
among-texts (front {m = m}) h = (and_left _ _ h, and_left (field_texts m.inside) _ (and_right (printed m.key) _ h))
among-texts (later {k = k} i) h = among-texts i (and_right (field_texts k.inside) _ (and_right (printed k.key) _ h))

-- ---- every value of a sheet is printed

unfoldable pub Printed : List Entry → Type 0
Printed [] = Unit
Printed (edge o ∷ es) = Printed es
Printed (item s k v ∷ es) = (printed v ≡ true) × Printed es

left-printed : (es ds : List Entry) → Printed (es ++ ds) → Printed es
unfolding Printed
left-printed [] ds h = tt
left-printed (edge o ∷ es) ds h = left-printed es ds h
left-printed (item s k v ∷ es) ds h = (h.0, left-printed es ds h.1)

right-printed : (es ds : List Entry) → Printed (es ++ ds) → Printed ds
unfolding Printed
right-printed [] ds h = h
right-printed (edge o ∷ es) ds h = right-printed es ds h
right-printed (item s k v ∷ es) ds h = right-printed es ds h.1

abbrev Lined : List Entry → Type 0
Lined es = all_printed (lines_in es) ≡ true

edge_more : (o : List ℕ) (es : List Entry) → printed o ≡ true → Lined es → Lined (edge o ∷ es)
unfolding lines_in line_of all_printed
edge_more o es h r = and_both h r

held_more : (s : ℕ) (k v : List ℕ) (es : List Entry) → printed k ≡ true → printed v ≡ true → Lined es → Lined (item s k v ∷ es)
unfolding lines_in line_of all_printed
held_more s k v es h e r = and_both (printed-append k v h e) r

both-more : (es ds : List Entry) → Lined es → Lined ds → Lined (es ++ ds)
both-more es ds p q = rw (lines-both es ds) (printable-append (lines_in es) (lines_in ds) p q)

pub laid-printed : {slots : List ℕ} {t : Tree} {es : List Entry} → Laid slots t es → texts t ≡ true → Printed es → all_printed (lines_in es) ≡ true
unfolding texts Printed lines_in all_printed
laid-printed (shut {c = c}) h p = edge_more c [] h refl
laid-printed (given {f = f} {es = es} v l) h p = held_more f.slot f.key v es (and_left _ _ h) p.0 (laid-printed l (and_right (printed f.key) _ h) p.1)
laid-printed (absent {f = f} z l) h p = laid-printed l (and_right (printed f.key) _ h) p
laid-printed (opened {o = o} {t = t} {es = es} {ds = ds} l r) h p =
    let k = and_right (printed o) _ h in
    edge_more o (es ++ ds) (and_left _ _ h)
    (both-more es ds (laid-printed l (and_left _ _ k) (left-printed es ds p)) (laid-printed r (and_right (texts t) _ k) (right-printed es ds p)))
laid-printed (passed {o = o} {t = t} z g r) h p = laid-printed r (and_right (texts t) _ (and_right (printed o) _ h)) p
laid-printed (member {o = o} {c = c} {ms = ms} {m = m} {es = es} {ds = ds} v i z l r) h p =
    let k = and_right (printed o) _ h in
    let g = among-texts i (and_left (member_texts ms) _ (and_right (printed c) _ k)) in
    edge_more o (item m.slot m.key v ∷ (es ++ ds)) (and_left _ _ h)
    (held_more m.slot m.key v (es ++ ds) g.0 p.0
    (both-more es ds (laid-printed l (chain-texts m.inside c g.1 (and_left _ _ k)) (left-printed es ds p.1)) (laid-printed r h (right-printed es ds p.1))))
laid-printed (done {o = o} {c = c} {ms = ms} z l) h p = laid-printed l (and_right (member_texts ms) _ (and_right (printed c) _ (and_right (printed o) _ h))) p
laid-printed (unstopped {b = b} z l) h p = laid-printed l (and_right (printed (bar_text b)) _ h) p

-- ---- a slot whose values are, where they get 0

unfoldable pub printable : Slot → Bool
printable slot = printed_form slot.form && printed slot.fixed

pub good-printed : (slot : Slot) (v : List ℕ) → printable slot ≡ true → value_number slot v ≡ 0 → printed v ≡ true
unfolding printable
good-printed slot v h z = value-printed slot v (and_left _ _ h) (and_right (printed_form slot.form) _ h) z
