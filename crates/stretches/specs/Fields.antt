-- Where the fields of a message stand, by the places of their slots, whichever message type they are of. A field is a slot's value; of the
-- narrative's the first byte is not the field's.
use Rattle.std.specs.Prelude.{ℕ, suc, ◌+◌, cond, List, [], ◌∷◌, map, eqb, ltb, get_or}
use Rattle.std.proofs.lemmas.List.Edits.{sets}

-- where a field begins whose slot's value stands between two places: a value that is not there has no first byte
unfoldable pub begun_for : ℕ → ℕ → ℕ → ℕ → ℕ
begun_for narrative field from to = cond (ltb from to) (from + cond (eqb field narrative) 1 0) from

-- of the fields with these slots, numbered from one on, where each begins, and where it ends; 0 for a slot that has no place
unfoldable pub starts_for : ℕ → List ℕ → List ℕ → ℕ → List ℕ → List ℕ
starts_for narrative begun ended field [] = []
starts_for narrative begun ended field (slot ∷ slots) =
    begun_for narrative field (get_or begun slot 0) (get_or ended slot 0) ∷ starts_for narrative begun ended (suc field) slots

unfoldable pub ends_for : List ℕ → List ℕ → List ℕ
ends_for ended slots = map (λ slot. get_or ended slot 0) slots

-- written over places from the first on, as many as there are places for
unfoldable pub starts_handed : ℕ → List ℕ → List ℕ → List ℕ → List ℕ → List ℕ
starts_handed narrative begun ended slots starts = sets starts 0 (starts_for narrative begun ended 0 slots)

unfoldable pub ends_handed : List ℕ → List ℕ → List ℕ → List ℕ
ends_handed ended slots ends = sets ends 0 (ends_for ended slots)
