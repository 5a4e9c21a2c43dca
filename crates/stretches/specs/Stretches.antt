-- The values of slots as stretches of a text: of each slot where its value begins and where it ends.
use Rattle.std.specs.Prelude.{ℕ, ◌-◌, ◌&&◌, cond, List, [], leb, length, take, drop, get_or}

-- slots are numbered below this: the one place that says how many a message type may have
abbrev pub slot_count : ℕ
slot_count = 40

-- from one place to another of a text; nothing where they do not stand in it in that order
unfoldable pub between : List ℕ → ℕ → ℕ → List ℕ
between m from to = cond (leb from to && leb to (length m)) (take (to - from) (drop from m)) []

unfoldable pub stretch_of : List ℕ → List ℕ → List ℕ → ℕ → List ℕ
stretch_of m starts ends slot = between m (get_or starts slot 0) (get_or ends slot 0)
