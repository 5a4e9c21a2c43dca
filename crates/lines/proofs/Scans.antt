-- The mathematics of the crate's functions, over plain lists and numbers: a line's CR, the line from a place, and what each
-- turn of a scan says of the pass over the whole message.
-- Assumes nothing.
use Prim.Native.Nat.{ℕ, zero, suc, ◌+◌, ◌-◌, ◌≤◌, ◌<◌, min}
use mathlib.Core.Path.{◌≡◌, refl, sym, ap, subst, ◌∙◌}
use mathlib.Core.Bool.{Bool, true, false, ◌&&◌, cond, and-true, and-false}
use mathlib.Core.List.{List, [], ◌∷◌, ◌++◌, append-nil}
use native.Mathlib.Nat.{not-suc-le-zero, add-zero, zero-add, suc-add}
use native.Mathlib.Numerals.{add-one}
use native.Mathlib.Omega.{arith}
use lib.Dec.{leb, eqb, eqb-suc-zero}
use lib.ListN.{length, take, drop, get_or, length-drop, drop_of_length-le}
use lib.Seq.{get_or-drop, drop-drop, length-take-le}
use Rattle.std.specs.Prelude.{Option, Some, None, not}
use Rattle.std.specs.List.{position, prefix_len}
use Rattle.std.proofs.lemmas.List.Sums.{prefix_len-le-length, prefix_len_passes, prefix_len_stops}
use Rattle.text.proofs.Scans.{place-is}
use Rattle.std.specs.Option.{unwrap_or, option_map, option_or}
use Rattle.std.proofs.lemmas.Option.{none-some}
use borrow.Author.Tests.{le-leb, lt-leb, eq-eqb, ne_eqb, eqb-true}
use Rattle.text.specs.Bytes.{bytes, begins, same, before}
use Rattle.text.specs.Classes.{is_between}
use Rattle.text.proofs.Laws.{and_left, and_right, begins-is, before-front, before-length, rest_of}
use Rattle.lines.specs.Verdicts.{refused, pass, then}
use Rattle.lines.specs.Lines.{bare, lines_of, ended, size_pass, may_stand, byte_pass, end_pass, lines_pass, line_at, ending_width}
use Rattle.lines.specs.declared.Verdict.{Verdict}
use Rattle.lines.proofs.Laws.{bare-length, print-lf, bare-print, lines_step, lines-behind}

-- ---- a line's CR

bare-cr : (b : ℕ) (s : List ℕ) → get_or (b ∷ s) (length s) 0 ≡ 13 → length s ≡ length (bare (b ∷ s))
unfolding bare
bare-cr b [] e = rw (eq-eqb _ _ e)
bare-cr b (c ∷ s) e = ap suc (bare-cr c s e)

bare-all : (b : ℕ) (s : List ℕ) → (get_or (b ∷ s) (length s) 0 ≡ 13 → ⊥) → suc (length s) ≡ length (bare (b ∷ s))
unfolding bare
bare-all b [] e = rw (ne_eqb _ _ e)
bare-all b (c ∷ s) e = ap suc (bare-all c s e)

pub cr_none : (s : List ℕ) → length s ≡ 0 → 0 ≡ length (bare s)
unfolding bare
cr_none [] e = refl
cr_none (b ∷ s) e = let z : ⊥ = omega arith in absurd z

module _ (s : List ℕ) (some : length s ≡ 0 → ⊥) where
  pub cr_last : get_or s (length s - 1) 0 ≡ 13 → length s - 1 ≡ length (bare s)
  cr_last e = at s some e
    where
      at : (s : List ℕ) → (length s ≡ 0 → ⊥) → get_or s (length s - 1) 0 ≡ 13 → length s - 1 ≡ length (bare s)
      at [] some e = absurd (some refl)
      at (b ∷ s) some e = let n : suc (length s) - 1 ≡ length s = omega arith in rw n (bare-cr b s (rw n at e))

  pub cr_other : (get_or s (length s - 1) 0 ≡ 13 → ⊥) → length s ≡ length (bare s)
  cr_other e = at s some e
    where
      at : (s : List ℕ) → (length s ≡ 0 → ⊥) → (get_or s (length s - 1) 0 ≡ 13 → ⊥) → length s ≡ length (bare s)
      at [] some e = absurd (some refl)
      at (b ∷ s) some e = let n : suc (length s) - 1 ≡ length s = omega arith in bare-all b s (rw n at e)

-- ---- the line from a place

pub line-none : (m : List ℕ) (at : ℕ) → length m ≤ at → record { end = at; next = at } ≡ line_at m at
unfolding line_at bare before
line-none m at h = rw (drop_of_length-le m h, add-zero)

pub raw-length : (n : ℕ) (s : List ℕ) → n ≡ length (before 10 s) → n ≡ length (take n s)
raw-length n s e = let b = before-length 10 s in sym (length-take-le n s (omega arith))

module _ (m : List ℕ) (at n k : ℕ) (en : n ≡ length (before 10 (take (length m - at) (drop at m)))) (ek : k ≡ length (bare (take n (take (length m - at) (drop at m))))) where
  raw-is : n ≡ length (before 10 (drop at m))
  raw-is = en ∙ rw rest_of

  end_is : k ≡ length (bare (before 10 (drop at m)))
  end_is = ek ∙ rw (rest_of, raw-is, before-front)

  pub line-short : (k ≤ n) × (n ≤ length m - at)
  line-short =
      let l = length-drop at m in
      let r = raw-is in
      let e = end_is in
      let b = before-length 10 (drop at m) in
      let c = bare-length (before 10 (drop at m)) in
      (omega arith, omega arith)

  pub line-more : n < length (take (length m - at) (drop at m)) → record { end = at + k; next = at + n + 1 } ≡ line_at m at
  unfolding line_at
  line-more h =
      let l = ap length (rest_of at (length m) m refl) in
      let z : at + n + 1 ≡ at + min (n + 1) (length (drop at m)) = omega arith in
      rw (← raw-is, ← end_is, z)

  pub line-last : length (take (length m - at) (drop at m)) ≤ n → record { end = at + k; next = at + n } ≡ line_at m at
  unfolding line_at
  line-last h =
      let l = ap length (rest_of at (length m) m refl) in
      let b = before-length 10 (drop at m) in
      let r = raw-is in
      let z : at + n ≡ at + min (n + 1) (length (drop at m)) = omega arith in
      rw (← raw-is, ← end_is, z)

-- ---- a text: bytes from 20 to 7E hex

abbrev pub Prints : List ℕ → ℕ → Type 0
Prints s n = (j : ℕ) → j < n → is_between 32 126 (get_or s j 0) ≡ true

-- a part begins with n of them and no more
abbrev pub Front : List ℕ → ℕ → Type 0
Front s n = (n ≤ length s) × Prints s n × (n < length s → is_between 32 126 (get_or s n 0) ≡ false)

pub front-is : (s : List ℕ) (p : Option ℕ) (n : ℕ) → p ≡ position (λ b. not (is_between 32 126 b)) s → n ≡ unwrap_or p (length s) → Front s n
front-is s p n e f =
    let test : ℕ → Bool = λ b. not (not (is_between 32 126 b)) in
    let is : n ≡ prefix_len test s = place-is (λ b. not (is_between 32 126 b)) s p n e f in
    rw is (prefix_len-le-length test s, λ j h. twice (prefix_len_passes test s j 0 h), λ h. twice (prefix_len_stops test s 0 h))
  where
    twice : {b t : Bool} → not (not b) ≡ t → b ≡ t
    twice {b = true} e = e
    twice {b = false} e = e

-- such a byte may stand anywhere
print-stands : (b : ℕ) → is_between 32 126 b ≡ true → (s : List ℕ) → may_stand b s ≡ true
unfolding may_stand
print-stands b e s = rw e

tail-prints : (b n : ℕ) (s : List ℕ) → Prints (b ∷ s) (suc n) → Prints s n
tail-prints b n s p j h = p (suc j) (omega arith)

-- so the bytes are judged by what stands behind the text
text-bytes : (n line : ℕ) (s : List ℕ) → Prints s n → byte_pass line s ≡ byte_pass line (drop n s)
unfolding byte_pass
text-bytes zero line s p = refl
text-bytes (suc n) line [] p = refl
text-bytes (suc n) line (b ∷ s) p =
    let e : is_between 32 126 b ≡ true = p 0 (omega arith) in
    rw (print-stands b e s, print-lf b e) (text-bytes n line s (tail-prints b n s p))

-- and the line is the text and what is left of the line there
text-line : (n : ℕ) (s : List ℕ) → n ≤ length s → Prints s n
    → (bare (before 10 s) ≡ take n s ++ bare (before 10 (drop n s))) × (length (before 10 s) ≡ n + length (before 10 (drop n s)))
unfolding before
text-line zero s h p = (refl, sym (zero-add _))
text-line (suc n) [] h p = absurd (not-suc-le-zero h)
text-line (suc n) (b ∷ s) h p =
    let e : is_between 32 126 b ≡ true = p 0 (omega arith) in
    let r = text-line n s (omega arith) (tail-prints b n s p) in
    (rw (print-lf b e, bare-print b e (before 10 s)) (ap (λ (l : List ℕ). b ∷ l) r.0), rw (print-lf b e) (ap suc r.1 ∙ sym (suc-add n _)))

-- ---- an ending

pub some-eq : (n k : ℕ) → Some n ≡ Some k → n ≡ k
some-eq n k e = ap (λ (o : Option ℕ). unwrap_or o 0) e

ending-cons : (b : ℕ) (t : List ℕ) → ending_width (b ∷ t) ≡ cond (eqb b 10) (Some 1) (cond (begins (bytes "\r\n") (b ∷ t)) (Some 2) None)
unfolding begins bytes
ending-cons b t = rw (eqb-suc-zero (length t), and-true (eqb b 10))

module _ (t : List ℕ) where
  pub ending-none : length t ≡ 0 → Some 0 ≡ ending_width t
  ending-none h = rw h

  module _ (some : length t ≡ 0 → ⊥) where
    ending-is : ending_width t ≡ cond (eqb (get_or t 0 0) 10) (Some 1) (cond (begins (bytes "\r\n") t) (Some 2) None)
    ending-is = at t some
      where
        at : (t : List ℕ) → (length t ≡ 0 → ⊥) → ending_width t ≡ cond (eqb (get_or t 0 0) 10) (Some 1) (cond (begins (bytes "\r\n") t) (Some 2) None)
        at [] h = absurd (h refl)
        at (b ∷ t) h = ending-cons b t

    pub ending-lf : get_or t 0 0 ≡ 10 → Some 1 ≡ ending_width t
    ending-lf e = sym (ending-is ∙ rw (eq-eqb _ _ e))

    module _ (lf : get_or t 0 0 ≡ 10 → ⊥) where
      pub ending-crlf : begins (bytes "\r\n") t ≡ true → Some 2 ≡ ending_width t
      ending-crlf e = sym (ending-is ∙ rw (ne_eqb _ _ lf, e))

      pub ending-other : begins (bytes "\r\n") t ≡ false → None ≡ ending_width t
      ending-other e = sym (ending-is ∙ rw (ne_eqb _ _ lf, e))

-- what stands behind a text, where it is an ending of k bytes or the end of the message
record Ends (t : List ℕ) (k : ℕ) : Type 0 where
  rest : (line : ℕ) → byte_pass line t ≡ byte_pass (suc line) (drop k t)
  bare_of : bare (before 10 t) ≡ []
  behind : drop (length (before 10 t) + 1) t ≡ drop k t
  within : k ≤ length t
  some : min 1 (length t) ≤ k

ends-lf : (t : List ℕ) → Ends (10 ∷ t) 1
unfolding byte_pass may_stand is_between before bare
ends-lf t = record { rest = λ line. refl; bare_of = refl; behind = refl; within = omega arith; some = omega arith }

ends-crlf : (t : List ℕ) → Ends (13 ∷ 10 ∷ t) 2
unfolding byte_pass may_stand is_between before bare begins bytes
ends-crlf t = record { rest = λ line. refl; bare_of = refl; behind = refl; within = omega arith; some = omega arith }

ends-here : (t : List ℕ) (k : ℕ) → ending_width t ≡ Some k → Ends t k
unfolding byte_pass before bare begins bytes
ends-here [] k h = subst (Ends []) (some-eq 0 k h) (record { rest = λ line. refl; bare_of = refl; behind = refl; within = omega arith; some = omega arith })
ends-here (b ∷ t) k h = at (eqb b 10) refl (eqb b 13 && begins (10 ∷ []) t) refl (sym (ending-cons b t) ∙ h)
  where
    at : (l : Bool) → eqb b 10 ≡ l → (c : Bool) → (eqb b 13 && begins (10 ∷ []) t) ≡ c → cond l (Some 1) (cond c (Some 2) None) ≡ Some k → Ends (b ∷ t) k
    at true e c f h = subst (Ends (b ∷ t)) (some-eq 1 k h) (subst (λ x. Ends (x ∷ t) 1) (sym (eqb-true b 10 e)) (ends-lf t))
    at false e true f h =
        let cr : b ≡ 13 = eqb-true b 13 (and_left (eqb b 13) _ f) in
        let lf : t ≡ 10 ∷ drop 1 t = begins-is (10 ∷ []) t (and_right (eqb b 13) _ f) in
        subst (Ends (b ∷ t)) (some-eq 2 k h) (subst (λ x. Ends (x ∷ t) 2) (sym cr) (subst (λ x. Ends (13 ∷ x) 2) (sym lf) (ends-crlf (drop 1 t))))
    at false e false f h = absurd (none-some k h)

-- and where it is neither
no-ending : (t : List ℕ) (line : ℕ) → ending_width t ≡ None → (0 < length t → is_between 32 126 (get_or t 0 0) ≡ false) → byte_pass line t ≡ refused 2 line
unfolding byte_pass may_stand begins bytes
no-ending [] line h p = absurd (none-some 0 (sym h))
no-ending (b ∷ t) line h p = at (eqb b 10) refl (eqb b 13 && begins (10 ∷ []) t) refl (sym (ending-cons b t) ∙ h)
  where
    at : (l : Bool) → eqb b 10 ≡ l → (c : Bool) → (eqb b 13 && begins (10 ∷ []) t) ≡ c → cond {A = Option ℕ} l (Some 1) (cond c (Some 2) None) ≡ None → byte_pass line (b ∷ t) ≡ refused 2 line
    at true e c f h = absurd (none-some 1 (sym h))
    at false e true f h = absurd (none-some 2 (sym h))
    at false e false f h = rw (p (omega arith), e, f)

-- ---- the end

-- the last byte tells whether the last line has its ending
ended_is : (b : ℕ) (s : List ℕ) → ended (b ∷ s) ≡ eqb (get_or (b ∷ s) (length s) 0) 10
unfolding ended
ended_is b [] = refl
ended_is b (c ∷ s) = ended_is c s

ended-last : (m : List ℕ) → 0 < length m → ended m ≡ eqb (get_or m (length m - 1) 0) 10
ended-last [] h = absurd (not-suc-le-zero h)
ended-last (b ∷ s) h = let n : suc (length s) - 1 ≡ length s = omega arith in rw n (ended_is b s)

-- behind the last line, whose number is `last`, where `end` is the first line that is `-`
abbrev pub closed : Bool → Option ℕ → ℕ → Verdict
closed e end last = unwrap_or (option_map (λ k. cond (eqb k last && e) pass (refused 3 k)) end) (refused 3 last)

module _ (m : List ℕ) (end last : ℕ) where
  pub closed_early : (end ≡ last → ⊥) → refused 3 end ≡ closed (ended m) (Some end) last
  closed_early h = rw (ne_eqb end last h)

  module _ (h : end ≡ last) (l : 0 < length m) where
    pub closed_open : (get_or m (length m - 1) 0 ≡ 10 → ⊥) → refused 3 end ≡ closed (ended m) (Some end) last
    closed_open n = rw (eq-eqb end last h, ended-last m l, ne_eqb _ _ n)

    pub closed_good : get_or m (length m - 1) 0 ≡ 10 → pass ≡ closed (ended m) (Some end) last
    closed_good n = rw (eq-eqb end last h, ended-last m l, eq-eqb _ _ n)

-- the first line that is `-` when one more line, `line`, is known
abbrev pub first_end : Option ℕ → ℕ → List ℕ → Option ℕ
first_end known line text = option_or known (cond (same (bytes "-") text) (Some line) None)

-- so over the lines behind line n
unfoldable pub closing : Bool → Option ℕ → ℕ → List (List ℕ) → Verdict
closing e end n [] = closed e end n
closing e end n (l ∷ ls) = closing e (first_end end (suc n) l) (suc n) ls

-- a `-` that has lines behind it is early
closing-early : (e : Bool) (end n : ℕ) (ls : List (List ℕ)) → end < n → closing e (Some end) n ls ≡ refused 3 end
unfolding closing
closing-early e end n [] h = rw (ne_eqb end n (λ x. omega (arith, h, x)))
closing-early e end n (l ∷ ls) h = closing-early e end (suc n) ls (omega arith)

closing-is : (e : Bool) (n : ℕ) (l : List ℕ) (ls : List (List ℕ)) → closing e None n (l ∷ ls) ≡ end_pass e (suc n) (l ∷ ls)
unfolding closing end_pass
closing-is e n l [] = at (same (bytes "-") l)
  where
    at : (t : Bool) → closed e (cond t (Some (suc n)) None) (suc n) ≡ cond (t && e) pass (refused 3 (suc n))
    at true = rw (eq-eqb (suc n) (suc n) refl)
    at false = refl
closing-is e n l (k ∷ ls) = at (closing-is e (suc n) k ls) (same (bytes "-") l)
  where
    at : closing e None (suc n) (k ∷ ls) ≡ end_pass e (suc (suc n)) (k ∷ ls) → (t : Bool)
        → closing e (cond t (Some (suc n)) None) (suc n) (k ∷ ls) ≡ cond t (refused 3 (suc n)) (end_pass e (suc (suc n)) (k ∷ ls))
    at ih true = closing-early e (suc n) (suc (suc n)) ls (omega arith)
    at ih false = ih

-- ---- bytes and end together, from a line on

-- the answer for what is left from a place on, behind line n
abbrev pub left : List ℕ → ℕ → Option ℕ → ℕ → Verdict
left m n end at = then (byte_pass (n + 1) (drop at m)) (closing (ended m) end n (lines_of (drop at m)))

-- a turn from there on, with k bytes of text and an ending of c bytes: it stops, or it grows and goes on behind the ending
pub record Turn (m : List ℕ) (n : ℕ) (end : Option ℕ) (at k : ℕ) (o : Option ℕ) (text : List ℕ) : Type 0 where
  pub stops : o ≡ None → refused 2 (n + 1) ≡ left m n end at
  pub grows : (c : ℕ) → o ≡ Some c → (0 < k + c) × (at + (k + c) ≤ length m)
  pub goes_on : (c : ℕ) → o ≡ Some c → (known : Option ℕ) → known ≡ first_end end (n + 1) text → left m (n + 1) known (at + (k + c)) ≡ left m n end at

pub left-all : (m : List ℕ) → 0 < length m → left m 0 None 0 ≡ then (byte_pass 1 m) (end_pass (ended m) 1 (lines_of m))
left-all m h = rw (lines_step m h, closing-is (ended m) 0)

module _ (m : List ℕ) (n : ℕ) (end : Option ℕ) (at : ℕ) where
  pub left-none : length m ≤ at → closed (ended m) end n ≡ left m n end at
  unfolding closing byte_pass then pass refused
  left-none h = rw (lines-behind m at h, drop_of_length-le m h)

  module _ (h : at < length m) (s : List ℕ) (es : s ≡ drop at m) (k : ℕ) (front : Front s k) (t : List ℕ) (et : t ≡ drop k s) (o : Option ℕ) (is : o ≡ ending_width t) where
    -- what stands behind the text is no byte of a text
    other : 0 < length t → is_between 32 126 (get_or t 0 0) ≡ false
    other l =
        let ls = length-drop k s in
        let lt = ap length et in
        rw (et, get_or-drop k s 0 0, add-zero k) (front.2 (omega arith))

    left-stop : o ≡ None → refused 2 (n + 1) ≡ left m n end at
    unfolding then refused
    left-stop e =
        let judged : byte_pass (n + 1) s ≡ refused 2 (n + 1) = text-bytes k (n + 1) s front.1 ∙ ap (byte_pass (n + 1)) (sym et) ∙ no-ending t (n + 1) (sym is ∙ e) other in
        rw (← es, judged)

    module _ (c : ℕ) (e : o ≡ Some c) where
      ends : Ends t c
      ends = ends-here t c (sym is ∙ e)

      left-grows : (0 < k + c) × (at + (k + c) ≤ length m)
      left-grows =
          let d = ends in
          let ls = length-drop k s in
          let lt = ap length et in
          let lm = length-drop at m in
          let lr = ap length es in
          let f = front.0 in
          (omega arith, omega arith)

      behind-here : drop (at + (k + c)) m ≡ drop c t
      behind-here = sym (drop-drop (k + c) at m) ∙ ap (drop (k + c)) (sym es) ∙ sym (drop-drop c k s) ∙ ap (drop c) (sym et)

      lines-here : lines_of s ≡ take k s ∷ lines_of (drop c t)
      lines-here =
          let d = ends in
          let l = text-line k s front.0 front.1 in
          let some : 0 < length s = let lm = length-drop at m in let lr = ap length es in omega arith in
          let text : bare (before 10 s) ≡ take k s = l.0 ∙ rw (← et, d.bare_of) (append-nil (take k s)) in
          let skip : length (before 10 s) + 1 ≡ k + (length (before 10 t) + 1) = rw et (let x = l.1 in omega arith) in
          let rest : drop (length (before 10 s) + 1) s ≡ drop c t = ap (λ (x : ℕ). drop x s) skip ∙ sym (drop-drop _ k s) ∙ rw (← et) d.behind in
          lines_step s some ∙ rw (text, rest)

      left-more : left m (n + 1) (first_end end (n + 1) (take k s)) (at + (k + c)) ≡ left m n end at
      unfolding closing
      left-more =
          let judged : byte_pass (n + 1) s ≡ byte_pass (suc (n + 1)) (drop c t) = text-bytes k (n + 1) s front.1 ∙ ap (byte_pass (n + 1)) (sym et) ∙ ends.rest (n + 1) in
          rw (behind-here, ← es, judged, lines-here, add-one (n + 1), add-one n)

    pub turn : Turn m n end at k o (take k s)
    turn = record { stops = left-stop; grows = left-grows; goes_on = λ c e known is. rw is (left-more c e) }

-- ---- the size

module _ (m : List ℕ) where
  pub size_none : length m ≡ 0 → refused 1 0 ≡ lines_pass m
  unfolding lines_pass size_pass then refused
  size_none h = rw h

  pub size-long : 4096 < length m → refused 1 0 ≡ lines_pass m
  unfolding lines_pass size_pass then refused
  size-long h = rw (lt-leb (length m) 4096 h, and-false (leb 1 (length m)))

  pub size-good : (length m ≡ 0 → ⊥) → length m ≤ 4096 → then (byte_pass 1 m) (end_pass (ended m) 1 (lines_of m)) ≡ lines_pass m
  unfolding lines_pass size_pass then pass refused
  size-good h g =
      let some : 1 ≤ length m = omega arith in
      rw (le-leb 1 (length m) some, le-leb (length m) 4096 g)
