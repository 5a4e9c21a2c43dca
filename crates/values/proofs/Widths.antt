-- The mathematics of the crate's functions, over plain lists and numbers: the parts of a narrative, and how long a word is.
-- Assumes nothing.
use Prim.Native.Nat.{ℕ, ◌≤◌}
use mathlib.Core.Path.{◌≡◌, refl, ◌∙◌}
use mathlib.Core.Bool.{Bool, true, false, cond}
use mathlib.Core.List.{List, [], ◌++◌, append_assoc}
use native.Mathlib.Omega.{arith}
use lib.ListN.{length, take, length-append}
use Rattle.std.proofs.Common.{Option}
use Rattle.text.specs.Bytes.{bytes}
use Rattle.text.specs.Texts.{Text}
use Rattle.reason.specs.Reason.{reason_text}
use Rattle.trade.specs.declared.Kind.{Kind}
use Rattle.trade.specs.declared.Service.{Service}
use Rattle.kinds.specs.Kinds.{function_of}
use Rattle.fill.proofs.Runs.{Put, two, end_of, in-front}
use Rattle.values.specs.Values.{kind_word, service_word, period_text, narrative}
use Rattle.values.proofs.Narratives.{service-four}

-- ---- the narrative: its three parts in a line of forty bytes

pub service-long : (service : Service) → length (bytes "/TDSV" ++ service_word service) ≡ 9
unfolding bytes
service-long service = let h = service-four service in omega arith

-- a service with its key, and the other two behind it
pub narrative-is : (service : Service) (period : Option ℕ) (reason : Text) (w : List ℕ) → w ≡ bytes "/TDSV" ++ service_word service
    → w ++ (period_text period ++ reason_text reason) ≡ narrative service period reason
unfolding narrative
narrative-is service period reason w e = rw e (append_assoc (bytes "/TDSV") (service_word service) (period_text period ++ reason_text reason))

module _ (line w : List ℕ) (forty : length line ≡ 40) (nine : length w ≡ 9) {r₁ : ℕ} {b₁ : List ℕ} (a : Put line 0 w r₁ b₁) where
  pub behind-word : r₁ ≡ 9
  behind-word = let e = end_of line 0 w a.0 (omega arith) in omega arith

  module _ (p : List ℕ) (six : length p ≤ 6) {r₂ : ℕ} {b₂ : List ℕ} (b : Put b₁ r₁ p r₂ b₂) where
    both : Put line 0 (w ++ p) r₂ b₂
    both = two line 0 w p a b (omega arith)

    module _ (q : List ℕ) (short : length q ≤ 25) {r₃ : ℕ} {b₃ : List ℕ} (c : Put b₂ r₂ q r₃ b₃) where
      all : Put line 0 ((w ++ p) ++ q) r₃ b₃
      all = let l = length-append w p in two line 0 (w ++ p) q both c (omega arith)

      few : length ((w ++ p) ++ q) ≤ 40
      few = let l = length-append w p in let m = length-append (w ++ p) q in omega arith

      pub behind-reason : r₃ ≤ 40
      behind-reason = let f = few in let e = end_of line 0 ((w ++ p) ++ q) all.0 (omega arith) in omega arith

      pub whole : take r₃ b₃ ≡ w ++ (p ++ q)
      whole = let f = few in in-front line ((w ++ p) ++ q) all (omega arith) ∙ append_assoc w p q

-- ---- code words

pub function-four : (k : Kind) → length (function_of k) ≡ 4
unfolding function_of bytes
function-four Kind.Inst = refl
function-four Kind.Canc = refl
function-four Kind.Mdfc = refl
function-four Kind.Tddk = refl

pub kind-four : (k : Kind) → length (kind_word k) ≡ 4
unfolding kind_word bytes
kind-four Kind.Inst = refl
kind-four Kind.Canc = refl
kind-four Kind.Mdfc = refl
kind-four Kind.Tddk = refl
