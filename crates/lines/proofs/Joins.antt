-- Lines of 20 to 7E hex that are joined, each with CR LF, are cut into the same lines again; a message of them passes 1, 2 and 3
-- where its last line is its only `-` and it is not too long. And what passes is cut into such lines.
-- Assumes nothing.
use Prim.Native.Nat.{ℕ, suc, ◌≤◌}
use mathlib.Core.Path.{◌≡◌, refl, sym, ap, ◌∙◌}
use mathlib.Core.Bool.{Bool, true, false, not, cond, true≢false}
use mathlib.Core.List.{List, [], ◌∷◌, ◌++◌, append_assoc, append-nil}
use native.Mathlib.Omega.{arith}
use lib.Dec.{eqb}
use lib.ListN.{length}
use borrow.Author.Tests.{le-leb, eqb-true, not-true}
use Rattle.text.specs.Bytes.{bytes, begins, same, before}
use Rattle.text.specs.Classes.{is_between}
use Rattle.text.proofs.Bools.{or_case}
use Rattle.text.proofs.Laws.{and_left, and_right, and_both}
use Rattle.text.proofs.Printed.{printed, all_printed}
use Rattle.lines.specs.Verdicts.{refused, pass, then}
use Rattle.lines.specs.Lines.{in_front, cut_behind, bare, without_ending, lines_of, ended, joined, size_pass, may_stand, byte_pass, end_pass, lines_pass}
use Rattle.lines.proofs.Laws.{print-lf, print-cr, lines-lf, lines-cr, lines_more, plain, Closed, passed}

-- ---- lines of 20 to 7E hex

pub printable-append : (ls ks : List (List ℕ)) → all_printed ls ≡ true → all_printed ks ≡ true → all_printed (ls ++ ks) ≡ true
unfolding all_printed
printable-append [] ks h k = k
printable-append (l ∷ ls) ks h k = and_both {a = printed l} (and_left _ (all_printed ls) h) (printable-append ls ks (and_right (printed l) _ h) k)

-- the first line, its ending, and what stands behind
joined-front : (l : List ℕ) (ls : List (List ℕ)) (rest : List ℕ) → joined (l ∷ ls) ++ rest ≡ l ++ (13 ∷ 10 ∷ (joined ls ++ rest))
unfolding joined bytes
joined-front l ls rest = append_assoc l (13 ∷ 10 ∷ joined ls) rest

-- ---- they are cut where they were joined

cut-front : (l rest : List ℕ) → printed l ≡ true → cut_behind (l ++ (13 ∷ 10 ∷ rest)) ≡ (l ++ (13 ∷ 10 ∷ [])) ∷ cut_behind rest
unfolding printed cut_behind in_front
cut-front [] rest h = refl
cut-front (b ∷ l) rest h =
    rw (print-lf b (and_left _ _ h), cut-front l rest (and_right (is_between 32 126 b) _ h))

bare-cr : (l : List ℕ) → bare (l ++ (13 ∷ [])) ≡ l
unfolding bare
bare-cr [] = refl
bare-cr (b ∷ []) = refl
bare-cr (b ∷ c ∷ l) = ap (λ (s : List ℕ). b ∷ s) (bare-cr (c ∷ l))

before-lf : (l : List ℕ) → printed l ≡ true → before 10 (l ++ (13 ∷ 10 ∷ [])) ≡ l ++ (13 ∷ [])
unfolding printed before
before-lf [] h = refl
before-lf (b ∷ l) h = rw (print-lf b (and_left _ _ h)) (ap (λ (s : List ℕ). b ∷ s) (before-lf l (and_right (is_between 32 126 b) _ h)))

ending-off : (l : List ℕ) → printed l ≡ true → without_ending (l ++ (13 ∷ 10 ∷ [])) ≡ l
unfolding without_ending
ending-off l h = ap bare (before-lf l h) ∙ bare-cr l

-- lines in front of other bytes, and lines alone
pub lines-front : (ls : List (List ℕ)) (rest : List ℕ) → all_printed ls ≡ true → lines_of (joined ls ++ rest) ≡ ls ++ lines_of rest
unfolding all_printed lines_of joined
lines-front [] rest h = refl
lines-front (l ∷ ls) rest h =
    rw (joined-front l ls rest, cut-front l (joined ls ++ rest) (and_left _ _ h), ending-off l (and_left _ _ h))
    (ap (λ (x : List (List ℕ)). l ∷ x) (lines-front ls rest (and_right (printed l) _ h)))

pub lines-joined : (ls : List (List ℕ)) → all_printed ls ≡ true → lines_of (joined ls) ≡ ls
unfolding lines_of cut_behind
lines-joined ls h = ap lines_of (sym (append-nil (joined ls))) ∙ lines-front ls [] h ∙ append-nil ls

-- ---- their bytes may stand, and the last of them has its ending

bytes-front : (n : ℕ) (l rest : List ℕ) → printed l ≡ true → byte_pass n (l ++ (13 ∷ 10 ∷ rest)) ≡ byte_pass (suc n) rest
unfolding printed byte_pass may_stand begins bytes is_between
bytes-front n [] rest h = refl
bytes-front n (b ∷ l) rest h =
    rw (and_left (is_between 32 126 b) _ h, print-lf b (and_left _ _ h)) (bytes-front n l rest (and_right (is_between 32 126 b) _ h))

pub bytes-joined : (n : ℕ) (ls : List (List ℕ)) → all_printed ls ≡ true → byte_pass n (joined ls) ≡ pass
unfolding all_printed joined bytes byte_pass
bytes-joined n [] h = refl
bytes-joined n (l ∷ ls) h = bytes-front n l (joined ls) (and_left _ _ h) ∙ bytes-joined (suc n) ls (and_right (printed l) _ h)

pub ended-behind : (s t : List ℕ) → ended t ≡ true → ended (s ++ t) ≡ true
unfolding ended
ended-behind [] t h = h
ended-behind (b ∷ []) [] h = absurd (true≢false (sym h))
ended-behind (b ∷ []) (c ∷ t) h = h
ended-behind (b ∷ c ∷ s) t h = ended-behind (c ∷ s) t h

pub ended-joined : (l : List ℕ) (ls : List (List ℕ)) → ended (joined (l ∷ ls)) ≡ true
unfolding joined bytes ended
ended-joined l [] = ended-behind l (13 ∷ 10 ∷ []) refl
ended-joined l (k ∷ ls) = ended-behind l _ (ended-behind (13 ∷ 10 ∷ []) (joined (k ∷ ls)) (ended-joined k ls))

-- ---- the lines of a whole message: the last is `-` and no other is

pub record Whole (ls : List (List ℕ)) : Type 0 where
  pub closed : Closed ls
  pub printing : all_printed ls ≡ true

-- lines none of which is `-`, and then `-`
pub end-closed : (n : ℕ) (body : List (List ℕ)) → plain body ≡ true → end_pass true n (body ++ (bytes "-" ∷ [])) ≡ pass
unfolding plain end_pass bytes same
end-closed n [] h = refl
end-closed n (l ∷ []) h = rw (not-true (same (bytes "-") l) (and_left (not (same (bytes "-") l)) true h))
end-closed n (l ∷ k ∷ body) h =
    rw (not-true (same (bytes "-") l) (and_left (not (same (bytes "-") l)) (plain (k ∷ body)) h))
    (end-closed (suc n) (k ∷ body) (and_right (not (same (bytes "-") l)) _ h))

-- the last of them has its ending, so that the message has a byte
ended-body : (body : List (List ℕ)) → ended (joined (body ++ (bytes "-" ∷ []))) ≡ true
ended-body [] = ended-joined (bytes "-") []
ended-body (l ∷ body) = ended-joined l (body ++ (bytes "-" ∷ []))

pub ended-whole : (ls : List (List ℕ)) → Whole ls → ended (joined ls) ≡ true
ended-whole ls w = ap (λ x. ended (joined x)) w.closed.split ∙ ended-body w.closed.body

pub some_bytes : (m : List ℕ) → ended m ≡ true → 1 ≤ length m
unfolding ended
some_bytes [] h = absurd (true≢false (sym h))
some_bytes (b ∷ m) h = omega arith

-- a message of such lines that is not too long has nothing wrong in 1, 2 and 3
pub passes-joined : (ls : List (List ℕ)) → Whole ls → length (joined ls) ≤ 4096 → lines_pass (joined ls) ≡ pass
unfolding lines_pass size_pass then pass refused
passes-joined ls w h =
    let end = ended-whole ls w in
    let last : end_pass true 1 ls ≡ pass = ap (end_pass true 1) w.closed.split ∙ end-closed 1 w.closed.body w.closed.early in
    rw (
      le-leb 1 (length (joined ls)) (some_bytes (joined ls) end),
      le-leb (length (joined ls)) 4096 h,
      bytes-joined 1 ls w.printing,
      end,
      lines-joined ls w.printing,
      last,
    )

-- ---- what passes is cut into such lines

-- one such byte in front of them, LF, and a CR that belongs to an ending
front-print : (b : ℕ) (ls : List (List ℕ)) → is_between 32 126 b ≡ true → all_printed ls ≡ true → all_printed (in_front b ls) ≡ true
unfolding in_front all_printed printed
front-print b [] h k = and_both (and_both h refl) refl
front-print b (l ∷ ls) h k = and_both (and_both h (and_left _ _ k)) (and_right (printed l) _ k)

ending-cr : (b : ℕ) (s : List ℕ) → eqb b 13 ≡ true → begins (bytes "\n") s ≡ true → all_printed (lines_of s) ≡ true → all_printed (lines_of (b ∷ s)) ≡ true
unfolding all_printed printed begins bytes
ending-cr b [] e f h = absurd (true≢false (sym f))
ending-cr b (c ∷ s) e f h =
    let p = eqb-true b 13 e in
    let q = eqb-true c 10 (and_left (eqb c 10) true f) in
    rw (p, q, lines-cr s) (rw (q, lines-lf s) at h)

lines-byte : (b : ℕ) (s : List ℕ) → may_stand b s ≡ true → all_printed (lines_of s) ≡ true → all_printed (lines_of (b ∷ s)) ≡ true
unfolding may_stand all_printed printed
lines-byte b s h k =
    or_case (is_between 32 126 b) _ h (λ e. rw (lines_more b (print-lf b e) s (print-cr b e)) (front-print b (lines_of s) e k))
    (λ r. or_case (eqb b 10) _ r (λ e. rw (eqb-true b 10 e, lines-lf s) k) (λ e. ending-cr b s (and_left (eqb b 13) _ e) (and_right (eqb b 13) _ e) k))

lines-printable : (n : ℕ) (m : List ℕ) → (byte_pass n m).number ≡ 0 → all_printed (lines_of m) ≡ true
unfolding byte_pass lines_of cut_behind all_printed refused
lines-printable n [] z = refl
lines-printable n (b ∷ s) z = at (lines-printable (cond (eqb b 10) (suc n) n) s) (may_stand b s) refl z
  where
    at : ((byte_pass (cond (eqb b 10) (suc n) n) s).number ≡ 0 → all_printed (lines_of s) ≡ true) → (t : Bool) → may_stand b s ≡ t
        → (cond t (byte_pass (cond (eqb b 10) (suc n) n) s) (refused 2 n)).number ≡ 0 → all_printed (lines_of (b ∷ s)) ≡ true
    at ih true h z = lines-byte b s h (ih z)
    at ih false h z = let no : ⊥ = omega arith in absurd no

-- every message that passes 1, 2 and 3 is made of the lines of a whole message
pub whole-lines : (m : List ℕ) → (lines_pass m).number ≡ 0 → Whole (lines_of m)
whole-lines m z = let p = passed m z in record { closed = p.closed; printing = lines-printable 1 m p.bytes }
