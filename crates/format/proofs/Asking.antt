-- The answers of asking for a plain form, of any message type: that of the reading where it refuses, and else that of writing the
-- record.
-- Assumes nothing.
use Prim.Native.Nat.{ℕ, ◌≤◌}
use mathlib.Core.Path.{◌≡◌, refl, ◌∙◌}
use mathlib.Core.Bool.{Bool, true, false, cond}
use mathlib.Core.List.{List}
use lib.Dec.{ltb}
use lib.ListN.{length}
use borrow.Author.Tests.{ne_eqb}
use Rattle.lines.specs.Verdicts.{refused, pass}
use Rattle.lines.specs.declared.Verdict.{Verdict}
use Rattle.lines.proofs.Laws.{stop, go}
use Rattle.format.specs.Format.{Format}
use Rattle.format.specs.Reading.{reading, verdict_of, read_of}
use Rattle.format.specs.Writing.{message_of, judge_of, write_number, write_length, written_over}
use Rattle.format.specs.Plain.{plain_of}
use Rattle.format.specs.Asking.{room_pass, ask_verdict, ask_length, asked_over}
use Rattle.format.specs.Demands.{Accepted, held_in}
use Rattle.format.proofs.Laws.{Layout, Laws}
use Rattle.format.proofs.Demands.{judged, plainly}

-- the answer of asking: its verdict and length, and what the buffer holds
abbrev pub Asked : (F : Format) → List ℕ → List ℕ → Verdict → ℕ → List ℕ → Type 0
Asked F m buf v length' now = (v ≡ ask_verdict F m (length buf)) × (length' ≡ ask_length F m (length buf)) × (now ≡ asked_over F m buf)

module _ (F : Format) (m buf : List ℕ) where
  -- the message is refused
  pub turned-away : (v : Verdict) → v ≡ verdict_of F m → (v.number ≡ 0 → ⊥) → Asked F m buf v 0 buf
  unfolding ask_verdict ask_length asked_over
  turned-away v is h =
      let e = stop v (verdict_of F m) (room_pass F m (length buf)) is h in
      (e, rw (← e, ne_eqb v.number 0 h), rw (← e, ne_eqb v.number 0 h))

  -- a record that writes the plain form gets 0, or 19 for want of room
  room-is : (r : F.Held) → judge_of F r ≡ 0 → message_of F r ≡ plain_of F m → (room : ℕ) → record { number = write_number F r room; line = 0 } ≡ room_pass F m room
  unfolding write_number room_pass refused pass
  room-is r good plain room = rw (good, plain) (at (ltb room (length (plain_of F m))))
    where
      at : (b : Bool) → ◌≡◌ {A = Verdict} (record { number = cond b 19 0; line = 0 }) (cond b (record { number = 19; line = 0 }) (record { number = 0; line = 0 }))
      at true = refl
      at false = refl

  -- it is accepted, and its record is written
  pub passed_on : Layout F → Laws F → Accepted F m
      → Asked F m buf (record { number = write_number F (held_in F m) (length buf); line = 0 }) (write_length F (held_in F m) (length buf)) (written_over F (held_in F m) buf)
  unfolding read_of reading ask_verdict ask_length asked_over write_length written_over
  passed_on L W z =
      let good = judged F L W m z in
      let plain = plainly F L W m z in
      let room = room-is (held_in F m) good plain (length buf) in
      let e = room ∙ go (verdict_of F m) (verdict_of F m) (room_pass F m (length buf)) refl z in
      (e, rw (← e, plain), rw (← e, plain))

-- the plain form of an accepted message is no longer than the longest
pub plain-most : (F : Format) → Layout F → Laws F → (m : List ℕ) → Accepted F m → length (plain_of F m) ≤ F.longest
plain-most F L W m z = rw (plainly F L W m z) at (W.most (held_in F m) (judged F L W m z))
