-- `answer_rules::goes_with` meets its contract. Assumes nothing.
-- by the two cases of a status
use Prim.Native.Nat.{ℕ}
use mathlib.Core.Path.{◌≡◌, sym, ◌∙◌}
use mathlib.Core.Bool.{true, false, ◌||◌}
use mathlib.Core.List.{List}
use Rattle.text.specs.Bytes.{bytes, same}
use Rattle.status.specs.declared.Status.{Status}
use Rattle.answer_rules.specs.Rules.{of_cancel, goes_with}
use Rattle.answer_rules.proofs.goes_with.Goals as goal

module _ (function : List ℕ) (s : Status) where
  with-cancel : of_cancel s ≡ true → (same (bytes "CAST") function || same (bytes "CAST/COPY") function) ≡ goes_with function s
  unfolding goes_with
  with-cancel h = rw h

  with-other : of_cancel s ≡ false → same (bytes "INST") function ≡ goes_with function s
  unfolding goes_with
  with-other h = rw h

pub returns-then-is_of : goal.returns-then-is_of
unfolding of_cancel bytes
returns-then-is_of c =
    rw (c.equals-cast.ensures, c.equals-copy.ensures)
    (with-cancel _ _ (sym c.is_of.ensures ∙ c.if-is_of.true))

pub returns : goal.returns
unfolding of_cancel bytes
returns c = c.equals.ensures ∙ with-other _ _ (sym c.is_of.ensures ∙ c.if-is_of.false)
