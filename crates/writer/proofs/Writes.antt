-- What callers cite: the answers of a write of any message type, by what its program does: a record is judged, its values are put into a
-- text, its message is composed elsewhere, and put where it has room.
-- Assumes nothing.
use Prim.Native.Nat.{ℕ, ◌+◌, ◌-◌, ◌≤◌, ◌<◌}
use mathlib.Core.Path.{◌≡◌, refl, sym, ap, ◌∙◌}
use mathlib.Core.Bool.{true}
use mathlib.Core.List.{List, [], ◌∷◌, flatten}
use native.Mathlib.Omega.{arith}
use lib.Dec.{leb}
use lib.ListN.{length, take, drop, get_or}
use borrow.Author.Tests.{le-leb, ne_eqb, lt-ltb}
use Rattle.text.specs.Copy.{fits, placed}
use Rattle.text.proofs.Laws.{rest_of, length-placed}
use Rattle.stretches.specs.Stretches.{stretch_of}
use Rattle.fill.specs.Runs.{over_run}
use Rattle.fill.specs.Places.{ends}
use Rattle.fill.proofs.Places.{stretch-held}
use Rattle.fill.proofs.Runs.{Put, measured}
use Rattle.format.specs.Format.{Format}
use Rattle.format.specs.Writing.{message_of, judge_of, write_number, write_length, written_over}
use Rattle.format.proofs.Demands.{room-takes}

-- the values of a record, put into a text with their places, are lent as they are where all of them have room
pub values-lent : (vs : List (List ℕ)) (buf text places : List ℕ) → text ≡ over_run buf 0 vs → places ≡ 0 ∷ ends buf 0 vs
    → length (flatten vs) ≤ length buf → (s : ℕ) → stretch_of text places (take (length places - 1) (drop 1 places)) s ≡ get_or vs s []
values-lent vs buf text places e f h s = rw (rest_of 1 (length places) places refl, e, f) (stretch-held vs buf h s)

-- what was composed lies within its buffer
pub fits_in : (buf s : List ℕ) {r : ℕ} {now : List ℕ} → Put buf 0 s r now → length s ≤ length buf → r ≤ length now
fits_in buf s put room =
    let m = measured buf s put.0 room in
    let l = ap length put.1 ∙ length-placed buf 0 s in
    omega arith

module _ (F : Format) (t : F.Held) (buf : List ℕ) where
  -- a number and a length that are answered, and what the buffer holds then
  pub record Answer (number long : ℕ) (now : List ℕ) : Type 0 where
    pub is_number : number ≡ write_number F t (length buf)
    pub is-length : long ≡ write_length F t (length buf)
    pub is-over : now ≡ written_over F t buf

  refused : (n : ℕ) → write_number F t (length buf) ≡ n → (n ≡ 0 → ⊥) → Answer n 0 buf
  unfolding write_length written_over
  refused n e h = record { is_number = sym e; is-length = rw (e, ne_eqb n 0 h); is-over = rw (e, ne_eqb n 0 h) }

  pub judged : (n : ℕ) → n ≡ judge_of F t → (n ≡ 0 → ⊥) → Answer n 0 buf
  unfolding write_number
  judged n e h = refused n (rw (← e, ne_eqb n 0 h)) h

  module _ (good : judge_of F t ≡ 0) (r : ℕ) (e : r ≡ length (message_of F t)) where
    pub no_room : length buf < r → Answer 19 0 buf
    unfolding write_number
    no_room h = refused 19 (rw (good, ← e, lt-ltb (length buf) r h)) (λ z. let w : ⊥ = omega arith in w)

    pub written : r ≤ length buf → (now : List ℕ) → now ≡ placed buf 0 (message_of F t) → Answer 0 r now
    unfolding write_length written_over placed fits
    written h now p =
        let f : leb (0 + length (message_of F t)) (length buf) ≡ true = le-leb (0 + length (message_of F t)) (length buf) (omega arith) in
        let n : write_number F t (length buf) ≡ 0 = room-takes F t (length buf) good (omega arith) in
        record { is_number = sym n; is-length = rw (n) e; is-over = rw (n) (p ∙ rw (f)) }
