-- The demands, of every message type that keeps the laws of Laws, each from the theorems that it rests on.
-- Assumes nothing.
use Prim.Native.Nat.{ℕ, ◌≤◌}
use mathlib.Core.Path.{◌≡◌, refl, sym, ap, ◌∙◌}
use mathlib.Core.Bool.{Bool, true, false, not, cond}
use mathlib.Core.List.{List, [], ◌∷◌, ◌++◌, map, append-nil}
use mathlib.Core.Logic.{◌⊎◌, inl, inr, ⊎_elim}
use native.Mathlib.Omega.{arith}
use lib.Dec.{eqb, ltb}
use lib.ListN.{length, drop}
use borrow.Author.Tests.{eqb-true, eq-eqb, le-ltb}
use Rattle.text.specs.Copy.{over}
use Rattle.lines.specs.Verdicts.{refused, pass, then, when}
use Rattle.pieces.proofs.Pieces.{Message, Messages, message-joined, no-beginning, pieces_of, same-batch}
use Rattle.format.specs.Format.{Format}
use Rattle.format.specs.Reading.{reading, verdict_of, read_of}
use Rattle.format.specs.declared.Reading.{Reading}
use Rattle.format.specs.Lawful.{said_in, Lawful}
use Rattle.format.specs.Writing.{lines_for, message_of, judge_of, write_number, write_length, written_over, writable}
use Rattle.format.specs.Plain.{plain_of}
use Rattle.format.specs.Demands.{Accepted, held_in, accepts, AllWritable, Demands}
use Rattle.format.proofs.Laws.{Layout, Laws}
use Rattle.format.proofs.Accepting.{body-taken, record-said, accepted-line, accepted-lawful, lawful-accepted}
use Rattle.format.proofs.Round.{judge-good, whole, written_read}
use Rattle.format.proofs.Plainly.{lawful-held, plain-is}

-- ---- a record that may be written is judged 0

module _ (F : Format) where
  pub writable-judged : (r : F.Held) → writable F r ≡ true → judge_of F r ≡ 0
  unfolding writable write_number
  writable-judged r h = on (eqb (judge_of F r) 0) refl (eqb-true _ 0 h)
    where
      on : (b : Bool) → eqb (judge_of F r) 0 ≡ b → cond b (cond (ltb F.longest (length (message_of F r))) 19 0) (judge_of F r) ≡ 0 → judge_of F r ≡ 0
      on true e q = eqb-true (judge_of F r) 0 e
      on false e q = q

  pub room-takes : (r : F.Held) (room : ℕ) → judge_of F r ≡ 0 → length (message_of F r) ≤ room → write_number F r room ≡ 0
  unfolding write_number
  room-takes r room j h = rw (j, le-ltb room (length (message_of F r)) h)

  room-only : (r : F.Held) (room : ℕ) → judge_of F r ≡ 0 → (write_number F r room ≡ 0) ⊎ (write_number F r room ≡ 19)
  unfolding write_number
  room-only r room j = rw j (on (ltb room (length (message_of F r))))
    where
      on : (b : Bool) → let n : ℕ = cond b 19 0 in (n ≡ 0) ⊎ (n ≡ 19)
      on true = inr refl
      on false = inl refl

module _ (F : Format) (L : Layout F) (W : Laws F) where
  pub judged-writable : (r : F.Held) → judge_of F r ≡ 0 → writable F r ≡ true
  unfolding writable
  judged-writable r j = eq-eqb (write_number F r F.longest) 0 (room-takes F r F.longest j (W.most r j))

  -- a record is never judged 19, which is the room's number
  judged-not : (r : F.Held) → judge_of F r ≡ 19 → ⊥
  unfolding judge_of then when refused pass
  judged-not r e = on (F.in_form r) e
    where
      on : (b : Bool) → (then (when (not b) 18) (F.write_rules r)).number ≡ 19 → ⊥
      on true q = W.never-19 r q
      on false q = omega arith

  only-judged : (r : F.Held) → ((room : ℕ) → (write_number F r room ≡ 0) ⊎ (write_number F r room ≡ 19)) → judge_of F r ≡ 0
  unfolding write_number
  only-judged r h = on (eqb (judge_of F r) 0) refl (h 0)
    where
      on : (b : Bool) → eqb (judge_of F r) 0 ≡ b
          → (cond b (cond (ltb 0 (length (message_of F r))) 19 0) (judge_of F r) ≡ 0) ⊎ (cond b (cond (ltb 0 (length (message_of F r))) 19 0) (judge_of F r) ≡ 19)
          → judge_of F r ≡ 0
      on true e q = eqb-true (judge_of F r) 0 e
      on false e q = ⊎_elim (λ z. z) (λ z. absurd (judged-not r z)) q

  -- ---- reading a written record

  read-written : (r : F.Held) → judge_of F r ≡ 0 → read_of F (message_of F r) ≡ accepts F r
  read-written r j = written_read F L W r j

  -- a message tells its record
  one-record : (r q : F.Held) → judge_of F r ≡ 0 → judge_of F q ≡ 0 → message_of F r ≡ message_of F q → r ≡ q
  one-record r q j k e = ap (λ (x : Reading F.Held). x.held) (sym (read-written r j) ∙ ap (read_of F) e ∙ read-written q k)

  message-of : (r : F.Held) → judge_of F r ≡ 0 → Message (message_of F r)
  unfolding message_of
  message-of r j = message-joined (lines_for F r) (whole F L W r j)

  messages-of : (rs : List F.Held) → AllWritable F rs → Messages (map (message_of F) rs)
  unfolding Messages
  messages-of [] h = tt
  messages-of (r ∷ rs) h = (message-of r (writable-judged F r h.0), messages-of rs h.1)

  first_of : List (List ℕ) → List ℕ
  first_of [] = []
  first_of (m ∷ ms) = m

  one_list : (rs qs : List F.Held) → AllWritable F rs → AllWritable F qs → map (message_of F) rs ≡ map (message_of F) qs → rs ≡ qs
  unfolding first_of
  one_list [] [] h k e = refl
  one_list [] (q ∷ qs) h k e = let n = ap length e in let z : ⊥ = omega arith in absurd z
  one_list (r ∷ rs) [] h k e = let n = ap length e in let z : ⊥ = omega arith in absurd z
  one_list (r ∷ rs) (q ∷ qs) h k e =
      let first = one-record r q (writable-judged F r h.0) (writable-judged F q k.0) (ap first_of e) in
      rw (first, one_list rs qs h.1 k.1 (ap (drop 1) e))

  first_alone : (r q : F.Held) (rest : List ℕ) → judge_of F r ≡ 0 → judge_of F q ≡ 0 → message_of F q ≡ message_of F r ++ rest → (rest ≡ []) × (r ≡ q)
  first_alone r q rest j k e =
      let n = no-beginning (message_of F r) (message_of F q) rest (message-of r j) (message-of q k) e in
      (n, one-record r q j k (sym (e ∙ (rw n (append-nil (message_of F r))))))

  -- ---- an accepted message

  module _ (m : List ℕ) (z : Accepted F m) where
    accepted : (verdict_of F m).number ≡ 0
    unfolding read_of reading
    accepted = z

    abbrev law : Lawful F m
    law = accepted-lawful F L W m accepted

    held-is : held_in F m ≡ F.record_of (said_in F m law.sheet)
    held-is =
        ap (λ (x : Reading F.Held). x.held)
        (record-said F L W m law.sheet law.laid (body-taken F L m law.sheet law.laid law.lines) accepted)

    -- the record is in form and keeps the rules
    pub judged : judge_of F (held_in F m) ≡ 0
    judged =
        let w = law in
        let value = said_in F m w.sheet in
        let h = lawful-held F L W m w in
        rw held-is (judge-good F (F.record_of value) (W.values-back value h w.rules).0 (W.rules-on value h w.rules))

    -- and writing it gives the plain form
    pub plainly : message_of F (held_in F m) ≡ plain_of F m
    plainly = ap (message_of F) held-is ∙ sym (plain-is F L W m law)

    plain-read : read_of F (plain_of F m) ≡ accepts F (held_in F m)
    plain-read = ap (read_of F) (sym plainly) ∙ read-written (held_in F m) judged

    takes-plain : (buf : List ℕ) → length (plain_of F m) ≤ length buf → write_number F (held_in F m) (length buf) ≡ 0
    takes-plain buf h = room-takes F (held_in F m) (length buf) judged (rw plainly h)

  -- the record of a plain form is the message's, so its plain form is the same again
  plain-plain : (m : List ℕ) → Accepted F m → plain_of F (plain_of F m) ≡ plain_of F m
  plain-plain m z =
      let e = plain-read m z in
      let a : Accepted F (plain_of F m) = ap (λ (x : Reading F.Held). x.number) e in
      sym (plainly (plain_of F m) a) ∙ ap (λ (x : Reading F.Held). message_of F x.held) e ∙ plainly m z

  writes-number : (m buf : List ℕ) → Accepted F m → length (plain_of F m) ≤ length buf
      → (write_number F (held_in F m) (length buf) ≡ 0)
      × (write_length F (held_in F m) (length buf) ≡ length (plain_of F m))
      × (written_over F (held_in F m) buf ≡ over buf 0 (plain_of F m))
  unfolding write_length written_over
  writes-number m buf z h =
      let n = takes-plain m z buf h in
      (n, rw (n, plainly m z), rw (n, plainly m z))

  fields : (m : List ℕ) (w : Lawful F m) → read_of F m ≡ accepts F (F.record_of (said_in F m w.sheet))
  fields m w =
      let z = lawful-accepted F L W m w in
      record-said F L W m w.sheet w.laid (body-taken F L m w.sheet w.laid w.lines) z ∙ rw (accepted-line F L W m z)

  lawful-number : (m : List ℕ) → Lawful F m → Accepted F m
  lawful-number m w = ap (λ (x : Reading F.Held). x.number) (fields m w)

  -- ---- the demands

  pub demands : Demands F
  demands =
      record {
        accepts-lawful = λ m. (λ z. accepted-lawful F L W m (accepted m z), λ w. lawful-number m w);
        reads-fields = fields;
        reads-back = λ r h. read-written r (writable-judged F r h);
        writes-plain = writes-number;
        writes = λ m z. judged-writable (held_in F m) (judged m z);
        plain-again = λ m z. (plain-read m z, plain-plain m z);
        same-record = λ m k z y. (
          λ e. sym (plainly m z) ∙ ap (message_of F) e ∙ plainly k y,
          λ e. one-record (held_in F m) (held_in F k) (judged m z) (judged k y) (plainly m z ∙ e ∙ sym (plainly k y)),
        );
        written_apart = λ rs qs h k e. one_list rs qs h k (same-batch (map (message_of F) rs) (map (message_of F) qs) (messages-of rs h) (messages-of qs k) e);
        no-beginning = λ r q rest h k e. first_alone r q rest (writable-judged F r h) (writable-judged F q k) e;
        cuts-apart = λ rs h. pieces_of (map (message_of F) rs) (messages-of rs h);
        no_longer = λ r h. W.most r (writable-judged F r h);
        only-room = λ r. (λ h room. room-only F r room (writable-judged F r h), λ h. judged-writable r (only-judged r h));
      }
