-- What a table has to be for its theorems, as tests that compute: every slot has its byte among the slots seen, no line fits
-- two rows between which it has to choose, and the last line of all fits no other row.
use Prim.Native.Nat.{ℕ}
use mathlib.Core.Bool.{Bool, true, false, ◌&&◌, ◌||◌, not}
use mathlib.Core.List.{List, [], ◌∷◌, ◌++◌, map}
use lib.Dec.{leb, ltb}
use Rattle.text.specs.Bytes.{begins, same}
use Rattle.bars.specs.Bars.{Bar, surplus, only, goes_on, bar_number}
use Rattle.stretches.specs.Stretches.{slot_count}
use Rattle.sheets.specs.Trees.{Field, Member, Tree, last, line, block, group, barred, chain}
use Rattle.sheets.specs.Sheets.{Entry, edge, item, has}
use Rattle.sheets.specs.Filled.{some, any_field, any_in, filled}
use Rattle.sheets.specs.Plain.{Group}
unfoldable pub use Rattle.sheets.specs.Slots.{field_slots, own_slots, member_slots, slots_of, first_slots, must_slots}

-- ---- slots: from 1 on, as many as have a byte; and a bar's number is not the 0 of a line that is taken

unfoldable pub good_slot : ℕ → Bool
good_slot s = leb 1 s && ltb s slot_count

unfoldable pub good_fields : List Field → Bool
good_fields [] = true
good_fields (f ∷ fs) = good_slot f.slot && good_fields fs

unfoldable pub good_members : List Member → Bool
good_members [] = true
good_members (m ∷ ms) = good_slot m.slot && (good_fields m.inside && good_members ms)

unfoldable pub good_tree : Tree → Bool
good_tree (last c) = true
good_tree (line f t) = good_slot f.slot && good_tree t
good_tree (block m o t u) = good_tree t && good_tree u
good_tree (group n a o c ms t) = good_members ms && good_tree t
good_tree (barred b t) = leb 1 (bar_number b) && good_tree t

-- ---- texts: no line fits two rows between which it has to choose

-- what a line is held against: it begins with a text, or is a text
pub data Fit : Type 0 where
  starts : List ℕ → Fit
  whole : List ℕ → Fit

unfoldable pub fits_line : Fit → List ℕ → Bool
fits_line (starts k) l = begins k l
fits_line (whole o) l = same o l

-- a line could fit both
unfoldable pub clash : Fit → Fit → Bool
clash (starts k) (starts j) = begins k j || begins j k
clash (starts k) (whole o) = begins k o
clash (whole o) (starts k) = begins k o
clash (whole o) (whole q) = same o q

-- no line that fits a row of what is left of the block fits this too
unfoldable pub avoids : Fit → Tree → Bool
avoids a (last c) = not (clash a (whole c))
avoids a (line f t) = not (clash a (starts f.key)) && avoids a t
avoids a (block m o t u) = not (clash a (whole o)) && avoids a u
avoids a (group n b o c ms t) = not (clash a (whole o)) && avoids a t
avoids a (barred b t) = avoids a t

unfoldable pub none_of : List ℕ → List Member → Bool
none_of k [] = true
none_of k (m ∷ ms) = not (clash (starts k) (starts m.key)) && none_of k ms

unfoldable pub apart_fields : List Field → List ℕ → Bool
apart_fields [] c = true
apart_fields (f ∷ fs) c = avoids (starts f.key) (chain fs c) && apart_fields fs c

unfoldable pub later_apart : List Field → List Member → Bool
later_apart [] ms = true
later_apart (f ∷ fs) ms = none_of f.key ms && later_apart fs ms

-- the members are told apart by their first fields, and neither the last line nor a later field is one of these
unfoldable pub apart_members : List ℕ → List Member → Bool
apart_members c [] = true
apart_members c (m ∷ ms) =
    not (clash (whole c) (starts m.key)) && (none_of m.key ms && (apart_fields m.inside c && (later_apart m.inside ms && apart_members c ms)))

-- no field of what is left of a block has this line. The first line of a block that follows may be this one: then the two are alike, and
-- the first of them stands before the second does
unfoldable pub unlike : List ℕ → Tree → Bool
unlike o (last c) = true
unlike o (line f t) = not (begins f.key o) && unlike o t
unlike o (block m p t u) = unlike o u
unlike o (group n a p c ms t) = unlike o t
unlike o (barred b t) = unlike o t

-- a field comes next
unfoldable pub leads : Tree → Bool
leads (last c) = false
leads (line f t) = true
leads (block m o t u) = false
leads (group n a o c ms t) = false
leads (barred b t) = false

-- a block that comes once more than it may is none that follows, and words are those of the field that comes next
unfoldable pub apart_bar : Bar → Tree → Bool
apart_bar (surplus n o) t = avoids (whole o) t
apart_bar (only ws) t = leads t

unfoldable pub apart : Tree → Bool
apart (last c) = true
apart (line f t) = avoids (starts f.key) t && apart t
apart (block m o t u) = unlike o u && (apart t && apart u)
apart (group n a o c ms t) = avoids (whole o) t && (apart_members c ms && apart t)
apart (barred b t) = apart_bar b t && apart t

-- ---- the last line of all: no other row takes it

unfoldable pub free_fields : List ℕ → List Field → List ℕ → Bool
free_fields z [] c = not (same c z)
free_fields z (f ∷ fs) c = not (begins f.key z) && free_fields z fs c

unfoldable pub free_members : List ℕ → List ℕ → List Member → Bool
free_members z c [] = true
free_members z c (m ∷ ms) = not (begins m.key z) && (free_fields z m.inside c && free_members z c ms)

-- what is left of a block, its last line too unless it is the last of all
unfoldable pub free : List ℕ → Bool → Tree → Bool
free z b (last c) = b || not (same c z)
free z b (line f t) = not (begins f.key z) && free z b t
free z b (block m o t u) = not (same o z) && (free z false t && free z b u)
free z b (group n a o c ms t) = not (same o z) && (free_members z c ms && free z b t)
free z b (barred a t) = free z b t

-- ---- slots: what tells one of many blocks is no slot of a row before it

-- the slots that may have come behind rows
unfoldable pub with_fields : List ℕ → List Field → List ℕ
with_fields slots [] = slots
with_fields slots (f ∷ fs) = with_fields (f.slot ∷ slots) fs

unfoldable pub with_members : List ℕ → List Member → List ℕ
with_members slots [] = slots
with_members slots (m ∷ ms) = with_members (with_fields (m.slot ∷ slots) m.inside) ms

unfoldable pub with_tree : List ℕ → Tree → List ℕ
with_tree slots (last c) = slots
with_tree slots (line f t) = with_tree (f.slot ∷ slots) t
with_tree slots (block m o t u) = with_tree (with_tree slots t) u
with_tree slots (group n a o c ms t) = with_tree (with_members slots ms) t
with_tree slots (barred b t) = with_tree slots t

unfoldable pub once_members : List ℕ → List Member → Bool
once_members slots [] = true
once_members slots (m ∷ ms) = not (has slots m.slot) && once_members (with_fields (m.slot ∷ slots) m.inside) ms

unfoldable pub once : List ℕ → Tree → Bool
once slots (last c) = true
once slots (line f t) = once (f.slot ∷ slots) t
once slots (block m o t u) = once slots t && once (with_tree slots t) u
once slots (group n a o c ms t) = once_members slots ms && once (with_members slots ms) t
once slots (barred b t) = once slots t

-- ---- values: in what stands, where each of many blocks must come, each has its first field's, and none has a field's without it; and of
-- blocks that are alike none stands behind one that does not

unfoldable pub all_members : (ℕ → List ℕ) → List Member → Bool
all_members value [] = true
all_members value (m ∷ ms) = some (value m.slot) && all_members value ms

unfoldable pub whole_members : (ℕ → List ℕ) → List Member → Bool
whole_members value [] = true
whole_members value (m ∷ ms) = (some (value m.slot) || not (any_field value m.inside)) && whole_members value ms

-- a sheet begins with this line of a block
unfoldable pub begun : List ℕ → List Entry → Bool
begun o [] = false
begun o (edge p ∷ es) = same o p
begun o (item i k v ∷ es) = false

unfoldable pub complete : (ℕ → List ℕ) → Tree → Bool
complete value (last c) = true
complete value (line f t) = complete value t
complete value (block m o t u) =
    (not (m || any_in value t) || complete value t) && (((m || any_in value t) || not (begun o (filled value u))) && complete value u)
complete value (group n a o c ms t) = (not n || all_members value ms) && (whole_members value ms && complete value t)
complete value (barred b t) = complete value t

-- ---- values: what stands behind a bar goes on with one of its words

unfoldable pub worded_bar : (ℕ → List ℕ) → Bar → Tree → Bool
worded_bar value (surplus n o) t = true
worded_bar value (only ws) (last c) = true
worded_bar value (only ws) (line f t) = not (f.must || some (value f.slot)) || goes_on ws (value f.slot)
worded_bar value (only ws) (block m o t u) = true
worded_bar value (only ws) (group n a o c ms t) = true
worded_bar value (only ws) (barred b t) = true

unfoldable pub worded : (ℕ → List ℕ) → Tree → Bool
worded value (last c) = true
worded value (line f t) = worded value t
worded value (block m o t u) = (not (m || any_in value t) || worded value t) && worded value u
worded value (group n a o c ms t) = worded value t
worded value (barred b t) = worded_bar value b t && worded value t

-- ---- slots: each row has one of its own

unfoldable pub disjoint : List ℕ → List ℕ → Bool
disjoint [] ys = true
disjoint (x ∷ xs) ys = not (has ys x) && disjoint xs ys

unfoldable pub distinct : List ℕ → Bool
distinct [] = true
distinct (x ∷ xs) = not (has xs x) && distinct xs

unfoldable pub sole_members : List Member → Bool
sole_members [] = true
sole_members (m ∷ ms) = distinct (own_slots m) && (disjoint (own_slots m) (member_slots ms) && sole_members ms)

unfoldable pub sole : Tree → Bool
sole (last c) = true
sole (line f t) = not (has (slots_of t) f.slot) && sole t
sole (block m o t u) = disjoint (slots_of t) (slots_of u) && (sole t && sole u)
sole (group n a o c ms t) = sole_members ms && (disjoint (member_slots ms) (slots_of t) && sole t)
sole (barred b t) = sole t

-- ---- the blocks that may stand in any order, as specs/Plain puts them in order: the order is the tree's

unfoldable pub keys_of : List Member → List (List ℕ)
keys_of ms = map (λ m. m.key) ms

unfoldable pub groups_of : Tree → List Group
groups_of (last c) = []
groups_of (line f t) = groups_of t
groups_of (block m o t u) = groups_of t ++ groups_of u
groups_of (group n a o c ms t) = record { opening = o; closing = c; keys = keys_of ms } ∷ groups_of t
groups_of (barred b t) = groups_of t

-- ---- lines: the first and last line of many blocks are no other row's, and a block that need not stand is not empty

unfoldable pub all_free : List Group → (List ℕ → Bool) → Bool
all_free [] p = true
all_free (g ∷ gs) p = p g.opening && (p g.closing && all_free gs p)

-- the last line of one of them is not a line inside it
unfoldable pub closed_members : List ℕ → List Member → Bool
closed_members c [] = true
closed_members c (m ∷ ms) = not (begins m.key c) && (free c true (chain m.inside c) && closed_members c ms)

-- a block has a mandatory field, so that it is never empty
unfoldable pub heavy : Tree → Bool
heavy (last c) = false
heavy (line f t) = f.must || heavy t
heavy (block m o t u) = heavy u
heavy (group n a o c ms t) = heavy t
heavy (barred b t) = heavy t

unfoldable pub tellable : Tree → Bool
tellable (last c) = true
tellable (line f t) = all_free (groups_of t) (λ x. not (begins f.key x)) && tellable t
tellable (block m o t u) =
    (m || heavy t)
    && (all_free (groups_of t) (λ x. not (same o x) && free x false u)
    && (all_free (groups_of u) (λ x. not (same o x) && free x false t) && (tellable t && tellable u)))
tellable (group n a o c ms t) =
    (free o false t && free c false t)
    && ((free_members o c ms && (closed_members c ms && (not (same c o) && apart_members c ms)))
    && (all_free (groups_of t) (λ x. not (same o x) && free_members x c ms) && tellable t))
tellable (barred b t) = tellable t

-- ---- no value of a sheet is empty

unfoldable pub full : List Entry → Bool
full [] = true
full (edge o ∷ es) = full es
full (item i k v ∷ es) = some v && full es

-- ---- values: what stands because it must has one

unfoldable pub solid_fields : (ℕ → List ℕ) → List Field → Bool
solid_fields value [] = true
solid_fields value (f ∷ fs) = (not f.must || some (value f.slot)) && solid_fields value fs

unfoldable pub solid_members : (ℕ → List ℕ) → List Member → Bool
solid_members value [] = true
solid_members value (m ∷ ms) = (not (some (value m.slot)) || solid_fields value m.inside) && solid_members value ms

unfoldable pub solid : (ℕ → List ℕ) → Tree → Bool
solid value (last c) = true
solid value (line f t) = (not f.must || some (value f.slot)) && solid value t
solid value (block m o t u) = (not (m || any_in value t) || solid value t) && solid value u
solid value (group n a o c ms t) = solid_members value ms && solid value t
solid value (barred b t) = solid value t
