-- Text as document 01 prints it, as the list of its bytes, and how a part of a message is held against a key.
use Rattle.std.specs.Prelude.{ℕ, zero, suc, ◌+◌, ◌*◌, Bool, true, false, ◌&&◌, cond, List, [], ◌∷◌, eqb, take, drop}
use Prim.Native.Char.{code}
use Prim.Native.String
use Prim.Native.String.{String}

-- the bytes of a text that is written out, so that a key reads `bytes ":20C::SEME"`
unfoldable pub bytes : String → List ℕ
bytes String.[] = []
bytes (String.◌∷◌ c s) = code c ∷ bytes s

-- a part begins with a key
unfoldable pub begins : List ℕ → List ℕ → Bool
begins [] part = true
begins (k ∷ key) [] = false
begins (k ∷ key) (b ∷ part) = eqb b k && begins key part

-- a part is a key, byte for byte
unfoldable pub same : List ℕ → List ℕ → Bool
same [] [] = true
same [] (b ∷ part) = false
same (k ∷ key) [] = false
same (k ∷ key) (b ∷ part) = eqb b k && same key part

-- what stands before the first byte b of a part; all of it where there is none
unfoldable pub before : ℕ → List ℕ → List ℕ
before b [] = []
before b (x ∷ s) = cond (eqb x b) [] (x ∷ before b s)

-- the first n parts of a text that is cut into parts of one width
unfoldable pub parts : ℕ → ℕ → List ℕ → List (List ℕ)
parts width zero s = []
parts width (suc n) s = take width s ∷ parts width n (drop width s)

-- ---- a step of the code

-- bytes as one number, the first of them the lowest
unfoldable pub little : List ℕ → ℕ
little [] = 0
little (b ∷ s) = b + 256 * little s
