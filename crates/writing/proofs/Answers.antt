-- The answers of writing, put together: what format's proofs/Judging and writer's proofs/Writes say of any message type.
-- Assumes nothing.
use Prim.Native.Nat.{ℕ, ◌≤◌, ◌<◌}
use mathlib.Core.Path.{◌≡◌, sym, ap, ◌∙◌}
use mathlib.Core.Bool.{true, not}
use mathlib.Core.List.{List}
use native.Mathlib.Omega.{arith}
use lib.ListN.{length, take, replicate}
use Rattle.text.specs.Copy.{placed}
use Rattle.lines.specs.declared.Verdict.{Verdict}
use Rattle.lines.proofs.Rules.{goes_on}
use Rattle.fill.proofs.Runs.{Put, measured, in-front}
use Rattle.format.specs.Format.{Format}
use Rattle.format.specs.Writing.{message_of, judge_of, written_over}
use Rattle.format.proofs.Laws.{Laws}
use Rattle.writer.proofs.Writes as Writes
use Rattle.writer.proofs.Writes.{Answer, fits_in}
use Rattle.writing.specs.Writing.{writing_of}
use Rattle.writing.specs.declared.Writing.{Writing}

module _ (F : Format) (r : F.Held) where
  -- the rules decide of a record in form
  pub by-rules : F.in_form r ≡ true → (v : Verdict) → v ≡ F.write_rules r → v.number ≡ judge_of F r
  unfolding judge_of
  by-rules form v is = ap (λ (w : Verdict). w.number) (is ∙ goes_on (not (F.in_form r)) 18 (F.write_rules r) (ap not form))

  -- what a write answers, and what its buffer holds then
  abbrev Answered : List ℕ → Writing → List ℕ → Type 0
  Answered buf w now = (w ≡ writing_of F r (length buf)) × (now ≡ written_over F r buf)

  answered : (buf : List ℕ) {n k : ℕ} {now : List ℕ} → Answer F r buf n k now → Answered buf (record { number = n; length = k }) now
  unfolding writing_of
  answered buf a = (rw (a.is_number, a.is-length), a.is-over)

  module _ {number : ℕ} (is : number ≡ judge_of F r) where
    pub refused : (buf : List ℕ) → (number ≡ 0 → ⊥) → Answered buf (record { number = number; length = 0 }) buf
    refused buf h = answered buf (Writes.judged F r buf number is h)

    -- no message of a record that may be written is longer than the longest of all
    module _ (W : Laws F) (short : F.longest ≤ 1476) (z : number ≡ 0) where
      good : judge_of F r ≡ 0
      good = sym is ∙ z

      pub most : length (message_of F r) ≤ 1476
      most = omega (arith, W.most r good, short)

      -- so that it was composed whole
      module _ {n : ℕ} {now : List ℕ} (put : Put (replicate {A = ℕ} 1476 0) 0 (message_of F r) n now) where
        long : n ≡ length (message_of F r)
        long = measured _ _ put.0 most

        front : take n now ≡ message_of F r
        front = in-front _ _ put most

        pub within : n ≤ length now
        within = fits_in _ _ put most

        pub whole : n ≡ length (take n now)
        whole = long ∙ sym (ap length front)

        module _ (buf : List ℕ) where
          pub no-room : length buf < n → Answered buf (record { number = 19; length = 0 }) buf
          no-room h = answered buf (Writes.no_room F r buf good n long h)

          pub written : n ≤ length buf → {then : List ℕ} → then ≡ placed buf 0 (take n now)
              → Answered buf (record { number = 0; length = n }) then
          written h e = answered buf (Writes.written F r buf good n long h _ (e ∙ rw front))
