-- The answers of asking for a plain form, put together: what format's proofs/Asking and proofs/Moved and writer's proofs/Plain say of any
-- message type.
-- Assumes nothing.
use Prim.Native.Nat.{ℕ, ◌≤◌, ◌<◌}
use mathlib.Core.Path.{◌≡◌, sym, ap, ◌∙◌}
use mathlib.Core.List.{List}
use native.Mathlib.Omega.{arith}
use lib.ListN.{length, take, replicate}
use Rattle.text.specs.Copy.{placed}
use Rattle.walk.specs.declared.Body.{Body}
use Rattle.fill.proofs.Runs.{Put, measured, in-front}
use Rattle.writer.proofs.Writes.{fits_in}
use Rattle.writer.proofs.Plain as Plain
use Rattle.format.specs.Format.{Format}
use Rattle.format.specs.Reading.{verdict_of}
use Rattle.format.specs.Kept.{kept_of}
use Rattle.format.specs.Plain.{plain_of}
use Rattle.format.specs.Asking.{asked_over}
use Rattle.format.proofs.Laws.{Laws}
use Rattle.format.proofs.Chain.{Readable}
use Rattle.format.proofs.Asking.{Asked, turned-away, plain-most}
use Rattle.format.proofs.Taken.{accepted, kept-refused, kept-accepted}
use Rattle.plain.specs.Asking.{asking_of}
use Rattle.plain.specs.declared.Asking.{Asking}

module _ (F : Format) (R : Readable F) (m : List ℕ) where
  -- what asking answers, and what its buffer holds then
  abbrev Answered : List ℕ → Asking → List ℕ → Type 0
  Answered buf a now = (a ≡ asking_of F m (length buf)) × (now ≡ asked_over F m buf)

  answered : (buf : List ℕ) {number line n : ℕ} {now : List ℕ} → Asked F m buf (record { number = number; line = line }) n now
      → Answered buf (record { number = number; line = line; length = n }) now
  unfolding asking_of
  answered buf (a, b, c) = (rw (← a, ← b), c)

  module _ {r : Body} (is : r ≡ kept_of F m) where
    pub refused : (buf : List ℕ) → (r.verdict.number ≡ 0 → ⊥)
        → Answered buf (record { number = r.verdict.number; line = r.verdict.line; length = 0 }) buf
    refused buf h = answered buf (turned-away F m buf r.verdict (kept-refused F m r is R.layout.good h) h)

    -- no plain form of an accepted message is longer than the longest of all
    module _ (W : Laws F) (short : F.longest ≤ 1476) (z : r.verdict.number ≡ 0) where
      pub good : (verdict_of F m).number ≡ 0
      good = kept-accepted F m r is z

      pub most : length (plain_of F m) ≤ 1476
      most = omega (arith, plain-most F R.layout W m (accepted F m good), short)

      -- so that it was composed whole
      module _ {n : ℕ} {now : List ℕ} (put : Put (replicate {A = ℕ} 1476 0) 0 (plain_of F m) n now) where
        long : n ≡ length (plain_of F m)
        long = measured _ _ put.0 most

        front : take n now ≡ plain_of F m
        front = in-front _ _ put most

        pub within : n ≤ length now
        within = fits_in _ _ put most

        pub whole : n ≡ length (take n now)
        whole = long ∙ sym (ap length front)

        module _ (buf : List ℕ) where
          pub no-room : length buf < n → Answered buf (record { number = 19; line = 0; length = 0 }) buf
          no-room h = answered buf (Plain.no_room F R.layout W m (accepted F m good) buf n long h)

          pub written : n ≤ length buf → {then : List ℕ} → then ≡ placed buf 0 (take n now)
              → Answered buf (record { number = 0; line = 0; length = n }) then
          written h e = answered buf (Plain.written F R.layout W m (accepted F m good) buf n long h _ (e ∙ rw front))
