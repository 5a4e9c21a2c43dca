-- Document 01, "How far the proofs reach": any two results allowed by one promise are shown equal. A promise here is an equation:
-- the answer is a value computed from what was passed, and so is what each lent buffer holds afterwards. Two programs that keep it
-- then give the same answer and leave the same bytes. One law says so for every promise of that form; tests/promises.sh holds
-- every public function to the form. Proved in proofs/Answers.
use Rattle.std.specs.Prelude.{◌≡◌}

-- the value that is promised, and two answers
abbrev pub OneAnswer : Type 1
OneAnswer = (A : Type 0) (promised r s : A) → r ≡ promised → s ≡ promised → r ≡ s

-- the same of an answer and a buffer together
abbrev pub OneOutcome : Type 1
OneOutcome =
    (A B : Type 0) (promised r s : A) (left b c : B) → (r ≡ promised) × (b ≡ left) → (s ≡ promised) × (c ≡ left) → (r ≡ s) × (b ≡ c)
