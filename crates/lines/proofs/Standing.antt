-- Where the lines of a text are of 20 to 7E hex and the last has its ending, every byte of it may stand where it stands.
-- Assumes nothing.
use Prim.Native.Nat.{ℕ, suc}
use mathlib.Core.Path.{◌≡◌, refl}
use mathlib.Core.Bool.{Bool, true, false, ◌&&◌, ◌||◌, cond}
use mathlib.Core.List.{List, [], ◌∷◌}
use lib.Dec.{eqb}
use borrow.Author.Tests.{eqb-true}
use Rattle.text.specs.Bytes.{bytes, begins}
use Rattle.text.specs.Classes.{is_between}
use Rattle.text.proofs.Laws.{and_left, and_right, and_both}
use Rattle.text.proofs.Printed.{printed, all_printed}
use Rattle.lines.specs.Verdicts.{pass}
use Rattle.lines.specs.Lines.{in_front, lines_of, ended, may_stand, byte_pass}
use Rattle.lines.proofs.Laws.{lines-lf, lines-cr, lines-last, lines-inside}

or_yes : (a : Bool) → (a || true) ≡ true
or_yes true = refl
or_yes false = refl

abbrev Printable : List ℕ → Type 0
Printable m = all_printed (lines_of m) ≡ true

-- the first byte, and the lines of what follows it
record Stands (b : ℕ) (s : List ℕ) : Type 0 where
  here : may_stand b s ≡ true
  rest : Printable s

-- an LF
stands-end : (b : ℕ) (s : List ℕ) → eqb b 10 ≡ true → Printable (b ∷ s) → Stands b s
unfolding all_printed may_stand is_between printed
stands-end b s e p = let q = eqb-true b 10 e in record { here = rw q; rest = rw (q, lines-lf s) at p }

-- a byte in front of an LF: a CR, or one of 20 to 7E hex
stands-last : (b c : ℕ) (s : List ℕ) → eqb b 10 ≡ false → eqb c 10 ≡ true → Printable (b ∷ c ∷ s) → Stands b (c ∷ s)
unfolding all_printed may_stand printed begins bytes
stands-last b c s e f p = rw (eqb-true c 10 f) (on (eqb b 13) refl (rw (eqb-true c 10 f) at p))
  where
    on : (r : Bool) → eqb b 13 ≡ r → Printable (b ∷ 10 ∷ s) → Stands b (10 ∷ s)
    on true h q = record { here = rw (h, e) (or_yes (is_between 32 126 b)); rest = rw (lines-lf s) (rw (eqb-true b 13 h, lines-cr s) at q) }
    on false h q =
        let k = rw (lines-last b e s h) at q in
        record {
          here = rw (and_left (is_between 32 126 b) true (and_left (is_between 32 126 b && true) _ k));
          rest = rw (lines-lf s) (and_right (is_between 32 126 b && true) _ k);
        }

-- a byte in front of another
stands-inside : (b c : ℕ) (s : List ℕ) → eqb b 10 ≡ false → eqb c 10 ≡ false → Printable (b ∷ c ∷ s) → Stands b (c ∷ s)
unfolding in_front all_printed may_stand printed
stands-inside b c s e f p = on (lines_of (c ∷ s)) refl (rw (lines-inside b e c s f) at p)
  where
    on : (ls : List (List ℕ)) → lines_of (c ∷ s) ≡ ls → all_printed (in_front b ls) ≡ true → Stands b (c ∷ s)
    on [] h q =
        let k = and_left (is_between 32 126 b && true) true q in
        record { here = rw (and_left (is_between 32 126 b) true k); rest = rw h }
    on (l ∷ ls) h q =
        let k = and_left (is_between 32 126 b && printed l) _ q in
        record {
          here = rw (and_left (is_between 32 126 b) _ k);
          rest = rw h (and_both (and_right (is_between 32 126 b) _ k) (and_right (is_between 32 126 b && printed l) _ q));
        }

stands_at : (b c : ℕ) (s : List ℕ) → Printable (b ∷ c ∷ s) → Stands b (c ∷ s)
stands_at b c s p = on (eqb b 10) refl (eqb c 10) refl
  where
    on : (x : Bool) → eqb b 10 ≡ x → (y : Bool) → eqb c 10 ≡ y → Stands b (c ∷ s)
    on true e y f = stands-end b (c ∷ s) e p
    on false e true f = stands-last b c s e f p
    on false e false f = stands-inside b c s e f p

bytes-none : (n : ℕ) → byte_pass n [] ≡ pass
unfolding byte_pass
bytes-none n = refl

-- ---- all bytes, counted by lines from n

pub bytes-stand : (n : ℕ) (m : List ℕ) → ended m ≡ true → all_printed (lines_of m) ≡ true → byte_pass n m ≡ pass
unfolding byte_pass ended
bytes-stand n [] h p = refl
bytes-stand n (b ∷ []) h p = let s = stands-end b [] h p in rw s.here (bytes-none (cond (eqb b 10) (suc n) n))
bytes-stand n (b ∷ c ∷ m) h p =
    let s = stands_at b c m p in
    rw s.here (bytes-stand (cond (eqb b 10) (suc n) n) (c ∷ m) h s.rest)
