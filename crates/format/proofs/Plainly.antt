-- Demand 2, the plain form: writing the record of an accepted message gives the message's plain form.
-- Assumes nothing.
use Prim.Native.Nat.{ℕ}
use mathlib.Core.Path.{◌≡◌, refl, sym, ap, ◌∙◌}
use mathlib.Core.Bool.{Bool, true, false, ◌&&◌, not, cond, true≢false}
use mathlib.Core.List.{List, [], ◌∷◌, ◌++◌, map}
use mathlib.Core.Logic.{◌⊎◌, inl, inr}
use lib.Dec.{eqb}
use lib.ListN.{length}
use borrow.Author.Tests.{not-true}
use Rattle.text.specs.Bytes.{bytes}
use Rattle.text.proofs.Laws.{and_left, and_right}
use Rattle.lines.specs.Lines.{lines_of, joined}
use Rattle.forms.specs.Forms.{value_number}
use Rattle.sheets.specs.Trees.{Field, Member, Tree, last, line, block, group, barred}
use Rattle.sheets.specs.Slots.{field_slots, own_slots, member_slots, slots_of}
use Rattle.sheets.specs.Sheets.{Entry, has, lines_in, Sheet}
use Rattle.sheets.specs.Filled.{some, value_in, filled}
use Rattle.sheets.specs.Plain.{in_order}
use Rattle.text.proofs.Bools.{or-one, or-two}
use Rattle.sheets.proofs.Emits.{has-front}
use Rattle.sheets.proofs.Once.{has-append}
use Rattle.sheets.proofs.Plain.{plain-behind}
use Rattle.sheets.proofs.Musts.{Turned, TurnedFields, TurnedMembers, TurnedTree, turned}
use Rattle.reader.specs.Header.{head_pass}
use Rattle.format.specs.Format.{Format, optional}
use Rattle.format.specs.Lawful.{Valued, said_in, Lawful}
use Rattle.format.specs.Writing.{behind_in, head_line, lines_for, message_of}
use Rattle.format.specs.Plain.{tidy_line, plain_lines, plain_of}
use Rattle.format.proofs.Tests.{every, every-at, foreign, no_length, is_amount_form, tidied, tidied-same, tidied-some, tidied-none, untouched, untouched-line, tidy_row, tidy_fields, tidy_members, tidy_tree, row-tidied, row-bare}
use Rattle.format.proofs.Laws.{edges, strangers, every_slot, Layout, Held, Laws}
use Rattle.format.proofs.Heads.{heads-from, heads-are, heads-missing, heads-tidy}
use Rattle.format.proofs.Said.{sheet-full}
use Rattle.format.proofs.Accepting.{cut}
use Rattle.format.proofs.Holds.{optional-some, behind-filled, said-head, said-behind, holds}
use Rattle.format.proofs.Round.{in_tree, in-header, head-lines}

-- a test of texts that holds of all holds of some of them
every-both : (p : List ℕ → Bool) (xs ys : List (List ℕ)) → every p (xs ++ ys) ≡ true → (every p xs ≡ true) × (every p ys ≡ true)
unfolding every
every-both p [] ys h = (refl, h)
every-both p (x ∷ xs) ys h = let (a, b) = every-both p xs ys (and_right (p x) _ h) in (rw (and_left (p x) _ h) a, b)

map-append : (g : List ℕ → List ℕ) (ls ks : List (List ℕ)) → map g (ls ++ ks) ≡ map g ls ++ map g ks
map-append g [] ks = refl
map-append g (l ∷ ls) ks = ap (λ (y : List (List ℕ)). g l ∷ y) (map-append g ls ks)

pub map_same : (f g : ℕ → List ℕ) (hs : List ℕ) → ((s : ℕ) → has hs s ≡ true → f s ≡ g s) → map f hs ≡ map g hs
unfolding has
map_same f g [] h = refl
map_same f g (s ∷ hs) h = rw (h s (has-front s hs)) (ap (λ (y : List (List ℕ)). g s ∷ y) (map_same f g hs (λ x e. h x (or-two (eqb s x) _ e))))

-- ---- one slot: what stands behind its text in the message, and what the record writes there

module _ (F : Format) (L : Layout F) (m : List ℕ) (es : List Entry) (l : Sheet F.tree es) (v : Valued F es) (h : Held F (said_in F m es))
    (back : ℕ → List ℕ) (same : (s : ℕ) → has (every_slot F) s ≡ true → back s ≡ tidied (F.slot_of s).form (said_in F m es s)) where
  abbrev said : ℕ → List ℕ
  said = said_in F m es

  -- a value that stands is written behind its fixed text
  stays : (s : ℕ) → has (slots_of F.tree) s ≡ true → value_number (F.slot_of s) ((F.slot_of s).fixed ++ said s) ≡ 0
      → behind_in F back s ≡ (F.slot_of s).fixed ++ tidied (F.slot_of s).form (said s)
  unfolding behind_in some
  stays s i z = on (optional F s && eqb (length (back s)) 0) refl
    where
      e : back s ≡ tidied (F.slot_of s).form (said s)
      e = same s (in_tree F L s i)

      gone : back s ≡ [] → some (said s) ≡ false
      gone q = tidied-some (F.slot_of s).form [] (said s) ∙ ap some (sym e ∙ q)

      empty : (x : List ℕ) → some x ≡ false → x ≡ []
      empty [] q = refl
      empty (b ∷ x) q = absurd (true≢false q)

      on : (b : Bool) → (optional F s && eqb (length (back s)) 0) ≡ b
          → cond b [] ((F.slot_of s).fixed ++ back s) ≡ (F.slot_of s).fixed ++ tidied (F.slot_of s).form (said s)
      on true q =
          absurd (optional-some F L s (said s) (and_left (optional F s) _ q) z (empty (said s) (gone (no_length (back s) (and_right (optional F s) _ q)))))
      on false q = ap (λ (x : List ℕ). (F.slot_of s).fixed ++ x) e

  turn : (s : ℕ) (k : List ℕ) → has (slots_of F.tree) s ≡ true → tidy_row F.fronts (F.slot_of s) k ≡ true
      → Turned (tidy_line F.fronts) (value_in es) (behind_in F back) s k
  unfolding Turned behind_in
  turn s k i t = on (behind-filled F L said s (h.each s (in_tree F L s i)))
    where
      is : behind_in F said s ≡ value_in es s
      is = said-behind F L m es l v s i

      on : ((behind_in F said s ≡ []) × (said s ≡ []) × (optional F s ≡ true))
          ⊎ ((behind_in F said s ≡ (F.slot_of s).fixed ++ said s) × (value_number (F.slot_of s) ((F.slot_of s).fixed ++ said s) ≡ 0))
          → (tidy_line F.fronts (k ++ value_in es s) ≡ k ++ behind_in F back s) × (some (value_in es s) ≡ some (behind_in F back s))
      on (inl (a, b, o)) =
          let none : back s ≡ [] = same s (in_tree F L s i) ∙ ap (tidied (F.slot_of s).form) b ∙ tidied-none (F.slot_of s).form in
          let x : value_in es s ≡ [] = sym is ∙ a in
          let y : behind_in F back s ≡ [] = rw (o, none) in
          (rw (x, y) (row-bare F.fronts (F.slot_of s) k t), rw (x, y))
      on (inr (a, z)) =
          let x : value_in es s ≡ (F.slot_of s).fixed ++ said s = sym is ∙ a in
          let y = stays s i z in
          (rw (x, y) (row-tidied F.fronts (F.slot_of s) k (said s) t z), rw (x, y) (tidied-some (F.slot_of s).form (F.slot_of s).fixed (said s)))

  -- ---- the whole layout

  abbrev Within : List ℕ → Type 0
  Within xs = (s : ℕ) → has xs s ≡ true → has (slots_of F.tree) s ≡ true

  within-left : (xs ys : List ℕ) → Within (xs ++ ys) → Within xs
  within-left xs ys w s e = w s (rw (has-append xs ys s) (or-one (has xs s) _ e))

  within-right : (xs ys : List ℕ) → Within (xs ++ ys) → Within ys
  within-right xs ys w s e = w s (rw (has-append xs ys s) (or-two (has xs s) _ e))

  turned-fields : (fs : List Field) → Within (field_slots fs) → tidy_fields F.fronts F.slot_of fs ≡ true → TurnedFields (tidy_line F.fronts) (value_in es) (behind_in F back) fs
  unfolding TurnedFields tidy_fields field_slots has
  turned-fields [] w t = tt
  turned-fields (f ∷ fs) w t = (
    turn f.slot f.key (w f.slot (has-front f.slot (field_slots fs))) (and_left _ _ t),
    turned-fields fs (λ s e. w s (or-two (eqb f.slot s) _ e)) (and_right (tidy_row F.fronts (F.slot_of f.slot) f.key) _ t),
  )

  turned-members : (ms : List Member) → Within (member_slots ms) → tidy_members F.fronts F.slot_of ms ≡ true → TurnedMembers (tidy_line F.fronts) (value_in es) (behind_in F back) ms
  unfolding TurnedMembers tidy_members member_slots own_slots has
  turned-members [] w t = tt
  turned-members (x ∷ ms) w t =
      let own = within-left (own_slots x) (member_slots ms) w in
      let k = and_right (tidy_row F.fronts (F.slot_of x.slot) x.key) _ t in (
        turn x.slot x.key (own x.slot (has-front x.slot (field_slots x.inside))) (and_left _ _ t),
        (
          turned-fields x.inside (λ s e. own s (or-two (eqb x.slot s) _ e)) (and_left _ _ k),
          turned-members ms (within-right (own_slots x) (member_slots ms) w) (and_right (tidy_fields F.fronts F.slot_of x.inside) _ k),
        ),
      )

  turned-tree : (t : Tree) → Within (slots_of t) → tidy_tree F.fronts F.slot_of t ≡ true → TurnedTree (tidy_line F.fronts) (value_in es) (behind_in F back) t
  unfolding TurnedTree tidy_tree slots_of has
  turned-tree (last c) w t = untouched-line F.fronts c t
  turned-tree (line f u) w t = (
    turn f.slot f.key (w f.slot (has-front f.slot (slots_of u))) (and_left _ _ t),
    turned-tree u (λ s e. w s (or-two (eqb f.slot s) _ e)) (and_right (tidy_row F.fronts (F.slot_of f.slot) f.key) _ t),
  )
  turned-tree (block b o u x) w t =
      let k = and_right (untouched F.fronts o) _ t in (
        untouched-line F.fronts o (and_left _ _ t),
        (
          turned-tree u (within-left (slots_of u) (slots_of x) w) (and_left _ _ k),
          turned-tree x (within-right (slots_of u) (slots_of x) w) (and_right (tidy_tree F.fronts F.slot_of u) _ k),
        ),
      )
  turned-tree (group n a o c ms u) w t =
      let k = and_right (untouched F.fronts o) _ t in
      let j = and_right (untouched F.fronts c) _ k in (
        untouched-line F.fronts o (and_left _ _ t),
        (
          untouched-line F.fronts c (and_left _ _ k),
          (
            turned-members ms (within-left (member_slots ms) (slots_of u) w) (and_left _ _ j),
            turned-tree u (within-right (member_slots ms) (slots_of u) w) (and_right (tidy_members F.fronts F.slot_of ms) _ j),
          ),
        ),
      )
  turned-tree (barred b u) w t = turned-tree u w t

-- ---- the message

module _ (F : Format) (L : Layout F) (W : Laws F) (m : List ℕ) (w : Lawful F m) where
  abbrev sheet : List Entry
  sheet = w.sheet

  abbrev value : ℕ → List ℕ
  value = said_in F m w.sheet

  pub lawful-held : Held F (said_in F m w.sheet)
  lawful-held = holds F L m sheet w.laid w.valued w.head

  abbrev kept : F.Held
  kept = F.record_of (said_in F m w.sheet)

  kept-values : (s : ℕ) → has (every_slot F) s ≡ true → F.value_of kept s ≡ tidied (F.slot_of s).form (value s)
  kept-values = (W.values-back value lawful-held w.rules).1

  abbrev head : List (List ℕ)
  head = map (head_line F value) F.header

  -- the lines of the header are those of its values
  head-is : lines_of m ≡ head ++ lines_in sheet
  unfolding head_pass head_line said_in
  head-is =
      let c = cut F L m w.text w.head in
      heads-are F.slot_of value F.header (lines_of m) c.long L.heads-distinct (heads-from F.slot_of 1 F.header (lines_of m) w.head)
      (λ s e. said-head F L m sheet w.laid w.valued s e)
      ∙ ap (λ (y : List (List ℕ)). head ++ y) (rw L.four w.lines)

  -- and stay as they are
  strange : (every (λ z. every (λ s. foreign (F.slot_of s) z) F.header) (edges F.groups) ≡ true)
      × (every (λ z. every (λ s. foreign (F.slot_of s) z) F.header) F.fronts ≡ true)
  unfolding strangers every
  strange =
      every-both (λ z. every (λ s. foreign (F.slot_of s) z) F.header) (edges F.groups) F.fronts
      (and_right (every (λ s. foreign (F.slot_of s) (bytes "-")) F.header) _ L.heads-foreign)

  -- the header's values are not tidied
  head-kept : map (head_line F (F.value_of kept)) F.header ≡ head
  unfolding head_line
  head-kept = same_map F.header (λ s e. ap (λ (x : List ℕ). (F.slot_of s).fixed ++ x) (kept-values s (in-header F L s e) ∙ tidied-same (F.slot_of s).form (value s) (plain-head s e)))
    where
      plain-head : (s : ℕ) → has F.header s ≡ true → is_amount_form (F.slot_of s).form ≡ false
      plain-head s e = not-true _ (every-at (λ x. not (is_amount_form (F.slot_of x).form)) F.header s L.heads-plain e)

      same_map : (hs : List ℕ) → ((s : ℕ) → has hs s ≡ true → head_line F (F.value_of kept) s ≡ head_line F value s) → map (head_line F (F.value_of kept)) hs ≡ map (head_line F value) hs
      same_map hs q = map_same (head_line F (F.value_of kept)) (head_line F value) hs q

  pub plain-is : plain_of F m ≡ message_of F kept
  unfolding plain_of plain_lines message_of lines_for head_line
  plain-is =
      let body = lines_in (filled (behind_in F (F.value_of kept)) F.tree) in
      let good = head-lines F L value lawful-held in
      let sorted : in_order F.groups (head ++ lines_in sheet) ≡ head ++ lines_in (filled (value_in sheet) F.tree)
      = rw L.groups-are at (plain-behind F.tree sheet head L.is-tellable L.is-sole (sheet-full F L sheet w.laid w.valued)
      (rw L.groups-are (heads-missing F.slot_of value F.groups F.header strange.0 good)) w.laid) in
      let tidy-head : map (tidy_line F.fronts) head ≡ head = heads-tidy F.slot_of value F.fronts F.header F.header (λ s e. e) strange.1 good in
      let tidy-body : map (tidy_line F.fronts) (lines_in (filled (value_in sheet) F.tree)) ≡ body
      = turned (tidy_line F.fronts) (value_in sheet) (behind_in F (F.value_of kept)) F.tree
      (turned-tree F L m sheet w.laid w.valued lawful-held (F.value_of kept) kept-values F.tree (λ s e. e) L.is-tidy) in
      ap joined
      (ap (λ (y : List (List ℕ)). map (tidy_line F.fronts) (in_order F.groups y)) head-is
      ∙ ap (map (tidy_line F.fronts)) sorted
      ∙ map-append (tidy_line F.fronts) head (lines_in (filled (value_in sheet) F.tree))
      ∙ ap (λ (y : List (List ℕ)). y ++ map (tidy_line F.fronts) (lines_in (filled (value_in sheet) F.tree))) tidy-head
      ∙ ap (λ (y : List (List ℕ)). head ++ y) tidy-body
      ∙ ap (λ (y : List (List ℕ)). y ++ body) (sym head-kept))
