-- What callers cite: a record that passes keeps each rule; 23G as the record has it refuses none that passes, and tells the copy.
-- Assumes nothing.
use Prim.Native.Nat.{ℕ}
use mathlib.Core.Path.{◌≡◌, refl, sym, ap, ◌∙◌}
use mathlib.Core.Bool.{Bool, true, false, ◌&&◌, ◌||◌, not, cond, true≢false}
use mathlib.Core.List.{List, [], ◌∷◌}
use borrow.Author.Tests.{not-false}
use Rattle.text.specs.Bytes.{bytes, begins, same}
use Rattle.text.proofs.Bools.{or_case, or_right}
use Rattle.text.proofs.Laws.{same-eq}
use Rattle.lines.proofs.Laws.{then-zero}
use Rattle.lines.proofs.Rules.{when-zero, goes_on, chained, numbered, chained-kept}
use Rattle.status.specs.Statuses.{status_text}
use Rattle.answer.specs.declared.Answer.{Answer}
use Rattle.answer_rules.specs.Rules.{of_cancel, goes_with, is_reject, has_reason, lacks_reason, has_forbidden, record_pass, answer_pass, function_of}

pub passes : (a : Answer) → (record_pass a).number ≡ 0 → (lacks_reason a ≡ false) × (has_forbidden a ≡ false)
unfolding record_pass chained numbered
passes a e = let k = chained-kept ((_, 14) ∷ (_, 15) ∷ []) refl e in (k.0, k.1.0)

pub answer-passes : (function : List ℕ) (a : Answer) → (answer_pass function a).number ≡ 0 → (goes_with function a.status ≡ true) × ((record_pass a).number ≡ 0)
unfolding answer_pass
answer-passes function a e = let p = then-zero _ _ e in (not-false _ (when-zero _ 13 refl p.0), p.1)

-- ---- 23G as the record has it

-- it tells whether the answer is a copy
pub copy-back : (a : Answer) → same (bytes "CAST/COPY") (function_of a) ≡ a.copy
unfolding function_of bytes same
copy-back a = go a.copy (of_cancel a.status)
  where
    go : (copy cancel : Bool) → same (bytes "CAST/COPY") (cond copy (bytes "CAST/COPY") (cond cancel (bytes "CAST") (bytes "INST"))) ≡ copy
    go true cancel = refl
    go false true = refl
    go false false = refl

-- a copy that passes answers a cancel
copy-cancels : (a : Answer) → has_forbidden a ≡ false → a.copy ≡ true → of_cancel a.status ≡ true
unfolding has_forbidden of_cancel bytes begins
copy-cancels a f c =
    let both : (a.copy && not (same (bytes "CPRC//CAND") (status_text a.status))) ≡ false = or_right (not (is_reject a.status) && has_reason a) _ f in
    let done = not-false _ (rw c at both) in
    rw (← same-eq (bytes "CPRC//CAND") (status_text a.status) done)

-- so that it goes with the status of a record that passes
own-goes : (a : Answer) → has_forbidden a ≡ false → goes_with (function_of a) a.status ≡ true
unfolding goes_with function_of bytes same
own-goes a f = go a.copy refl (of_cancel a.status) refl
  where
    go : (copy : Bool) → a.copy ≡ copy → (cancel : Bool) → of_cancel a.status ≡ cancel
        → cond cancel
        (same (bytes "CAST") (cond copy (bytes "CAST/COPY") (cond cancel (bytes "CAST") (bytes "INST")))
        || same (bytes "CAST/COPY") (cond copy (bytes "CAST/COPY") (cond cancel (bytes "CAST") (bytes "INST"))))
        (same (bytes "INST") (cond copy (bytes "CAST/COPY") (cond cancel (bytes "CAST") (bytes "INST"))))
        ≡ true
    go true c true e = refl
    go true c false e = absurd (true≢false (sym (copy-cancels a f c) ∙ e))
    go false c true e = refl
    go false c false e = refl

-- and leaves it to the rules of the record
pub own-function : (a : Answer) → (record_pass a).number ≡ 0 → answer_pass (function_of a) a ≡ record_pass a
unfolding answer_pass
own-function a e = sym (goes_on _ 13 (record_pass a) (ap not (own-goes a (passes a e).1)))

-- a 23G that goes with the status of a record that is a copy just where it says so is the one that the record has
pub function-back : (v : List ℕ) (a : Answer) → a.copy ≡ same (bytes "CAST/COPY") v → goes_with v a.status ≡ true → function_of a ≡ v
unfolding goes_with function_of
function-back v a c e = go (same (bytes "CAST/COPY") v) refl (of_cancel a.status) e
  where
    go : (copy : Bool) → same (bytes "CAST/COPY") v ≡ copy → (cancel : Bool)
        → cond cancel (same (bytes "CAST") v || copy) (same (bytes "INST") v) ≡ true
        → cond a.copy (bytes "CAST/COPY") (cond cancel (bytes "CAST") (bytes "INST")) ≡ v
    go true f cancel h = rw (c, f) (same-eq (bytes "CAST/COPY") v f)
    go false f true h = rw (c, f) (or_case (same (bytes "CAST") v) false h (same-eq (bytes "CAST") v) (λ x. absurd (true≢false (sym x))))
    go false f false h = rw (c, f) (same-eq (bytes "INST") v h)
