-- The slots of a table: all of them, and those that a message must have.
use Rattle.std.specs.Prelude.{ℕ, cond, List, [], ◌∷◌, ◌++◌}
use Rattle.sheets.specs.Trees.{Field, Member, Tree, last, line, block, group, barred}

-- ---- all slots

unfoldable pub field_slots : List Field → List ℕ
field_slots [] = []
field_slots (f ∷ fs) = f.slot ∷ field_slots fs

unfoldable pub own_slots : Member → List ℕ
own_slots m = m.slot ∷ field_slots m.inside

unfoldable pub member_slots : List Member → List ℕ
member_slots [] = []
member_slots (m ∷ ms) = own_slots m ++ member_slots ms

unfoldable pub slots_of : Tree → List ℕ
slots_of (last c) = []
slots_of (line f t) = f.slot ∷ slots_of t
slots_of (block m o t u) = slots_of t ++ slots_of u
slots_of (group n a o c ms t) = member_slots ms ++ slots_of t
slots_of (barred b t) = slots_of t

-- ---- the slots that every message has: a mandatory line's, and what is mandatory in a block that is; of blocks in any order that
-- must each come, their first lines'

unfoldable pub first_slots : List Member → List ℕ
first_slots [] = []
first_slots (m ∷ ms) = m.slot ∷ first_slots ms

unfoldable pub must_slots : Tree → List ℕ
must_slots (last c) = []
must_slots (line f t) = cond f.must (f.slot ∷ must_slots t) (must_slots t)
must_slots (block m o t u) = cond m (must_slots t ++ must_slots u) (must_slots u)
must_slots (group n a o c ms t) = cond n (first_slots ms ++ must_slots t) (must_slots t)
must_slots (barred b t) = must_slots t
