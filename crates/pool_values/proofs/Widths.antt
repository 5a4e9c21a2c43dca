-- The mathematics of the crate's functions, over plain lists and numbers: the parts of a narrative, and how long a word is.
-- Assumes nothing.
use Prim.Native.Nat.{ℕ, ◌≤◌}
use mathlib.Core.Path.{◌≡◌, refl, ◌∙◌}
use mathlib.Core.List.{List, ◌++◌, append_assoc}
use native.Mathlib.Omega.{arith}
use lib.ListN.{length, take, length-append}
use Rattle.text.specs.Bytes.{bytes}
use Rattle.fill.proofs.Runs.{Put, two, end_of, in-front}
use Rattle.pool_trade.specs.declared.Kind.{Kind}
use Rattle.pool_kinds.specs.Kinds.{function_of}

-- ---- the narrative: its four parts in a line of fifty-two bytes

module _ (line w c : List ℕ) (long : length line ≡ 52) (nine : length w ≡ 9) (five : length c ≤ 5) {r₁ r₂ : ℕ} {b₁ b₂ : List ℕ}
    (p₁ : Put line 0 w r₁ b₁) (p₂ : Put b₁ r₁ c r₂ b₂) where
  both : Put line 0 (w ++ c) r₂ b₂
  both = two line 0 w c p₁ p₂ (omega arith)

  pub behind-cdr : r₂ ≤ 14
  behind-cdr =
      let l = length-append w c in
      let e = end_of line 0 (w ++ c) both.0 (omega arith) in
      omega arith

  module _ (d q : List ℕ) (thirteen : length d ≤ 13) (short : length q ≤ 25) {r₃ r₄ : ℕ} {b₃ b₄ : List ℕ} (p₃ : Put b₂ r₂ d r₃ b₃) (p₄ : Put b₃ r₃ q r₄ b₄) where
    all : Put line 0 (((w ++ c) ++ d) ++ q) r₄ b₄
    all =
        let l = length-append w c in
        let m = length-append (w ++ c) d in
        two line 0 ((w ++ c) ++ d) q (two line 0 (w ++ c) d both p₃ (omega arith)) p₄ (omega arith)

    few : length (((w ++ c) ++ d) ++ q) ≤ 52
    few =
        let l = length-append w c in
        let m = length-append (w ++ c) d in
        let n = length-append ((w ++ c) ++ d) q in
        omega arith

    pub behind-reason : r₄ ≤ 52
    behind-reason = let f = few in let e = end_of line 0 (((w ++ c) ++ d) ++ q) all.0 (omega arith) in omega arith

    pub whole : take r₄ b₄ ≡ w ++ (c ++ (d ++ q))
    whole = let f = few in in-front line (((w ++ c) ++ d) ++ q) all (omega arith) ∙ simp append_assoc

-- ---- code words

pub function-four : (k : Kind) → length (function_of k) ≡ 4
unfolding function_of bytes
function-four Kind.Inst = refl
function-four Kind.Canc = refl
function-four Kind.Mdfc = refl
function-four Kind.Tddk = refl
function-four Kind.Cdrq = refl
function-four Kind.Cdrl = refl
