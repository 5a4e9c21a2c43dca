-- Messages for tables of cases: lines with an ending, and small changes to the lines of a message.
use Rattle.std.specs.Prelude.{ℕ, suc, ◌-◌, List, [], ◌∷◌, ◌++◌, take, drop, get_or}
use Prim.Native.String.{String}
use Rattle.text.specs.Bytes.{bytes}

-- lines with one ending
unfoldable pub ended : String → List String → List ℕ
ended ending [] = []
ended ending (l ∷ ls) = bytes l ++ (bytes ending ++ ended ending ls)

-- a message without its line n, with another line n, with more lines behind line n, with lines n and n + 1 exchanged
unfoldable pub without : ℕ → List String → List String
without n ls = take (n - 1) ls ++ drop n ls

unfoldable pub with : ℕ → String → List String → List String
with n l ls = take (n - 1) ls ++ l ∷ drop n ls

unfoldable pub behind : ℕ → List String → List String → List String
behind n more ls = take n ls ++ (more ++ drop n ls)

unfoldable pub exchanged : ℕ → List String → List String
exchanged n ls = take (n - 1) ls ++ get_or ls n "" ∷ get_or ls (n - 1) "" ∷ drop (suc n) ls
