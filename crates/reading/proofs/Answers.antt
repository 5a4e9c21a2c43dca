-- The answers of reading, put together: what format's proofs/Chain and proofs/Taken say of any message type.
-- Assumes nothing.
use Prim.Native.Nat.{ℕ}
use mathlib.Core.Path.{◌≡◌, ap, ◌∙◌}
use mathlib.Core.List.{List}
use Rattle.lines.specs.declared.Verdict.{Verdict}
use Rattle.format.specs.Format.{Format}
use Rattle.format.specs.Reading as AnyType
use Rattle.format.specs.declared.Reading.{Reading}
use Rattle.format.proofs.Chain.{rules-refused, rules-accepted}
use Rattle.format.proofs.Taken.{Front}
use Rattle.reading.specs.Reading.{refusal, judged, front_of}

module _ (F : Format) where
  -- ---- the rules of line 0, of a record and its values

  module _ (value : ℕ → List ℕ) (r : F.Held) (is : r ≡ F.record_of value) (v : Verdict) (e : v ≡ F.read_rules value r) where
    rules-are : v ≡ AnyType.rules_of F value
    unfolding AnyType.rules_of
    rules-are = e ∙ rw is

    pub judged-refused : (v.number ≡ 0 → ⊥) → refusal F v ≡ judged F value
    unfolding refusal judged
    judged-refused h = rules-refused F value v rules-are h

    pub judged-accepted : v.number ≡ 0 → record { number = v.number; line = v.line; held = r } ≡ judged F value
    unfolding judged
    judged-accepted h = rules-accepted F value v rules-are r is h

  -- ---- the piece at the front of a text, as it was read

  pub fronted : (s : List ℕ) {a : Reading F.Held} {n : ℕ} → Front F s a n → {r : Reading F.Held} → r ≡ a → record { reading = r; length = n } ≡ front_of F s
  unfolding front_of
  fronted s f e = rw (e, f.0, f.1)

  -- ---- the verdict of a reading

  pub verdict-is : (m : List ℕ) {r : Reading F.Held} → r ≡ AnyType.read_of F m → record { number = r.number; line = r.line } ≡ AnyType.verdict_of F m
  unfolding AnyType.read_of AnyType.reading
  verdict-is m e = ap (λ (x : Reading F.Held). record { number = x.number; line = x.line }) e
