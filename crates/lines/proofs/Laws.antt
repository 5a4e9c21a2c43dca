-- What callers cite: how the lines of a message go on from a place, how passes come one after the other, where the end of a line
-- stands in its message, and what is known of a message that has passed.
-- Assumes nothing.
use Prim.Native.Nat.{ℕ, zero, suc, ◌+◌, ◌-◌, ◌≤◌, ◌<◌, min}
use mathlib.Core.Path.{◌≡◌, refl, sym, ap, ◌∙◌}
use mathlib.Core.Bool.{Bool, true, false, ◌&&◌, not, cond}
use mathlib.Core.List.{List, [], ◌∷◌, ◌++◌, map, head-eq_of_cons-eq, tail-eq_of_cons-eq}
use native.Mathlib.Nat.{not-suc-le-zero, add-zero, sub-zero, zero-sub, suc-sub-suc}
use native.Mathlib.Numerals.{add-one}
use native.Mathlib.Omega.{arith}
use lib.Dec.{leb, ltb, eqb}
use lib.ListN.{length, take, drop, length-take, length-drop, drop_of_length-le}
use lib.Seq.{take-nil, take-take, drop-drop, drop-length}
use borrow.Author.Tests.{ltb-true, ltb-false, leb-true, leb-false, eq-eqb, ne_eqb, eqb-true}
use Rattle.text.specs.Bytes.{bytes, same, before}
use Rattle.text.specs.Classes.{is_between}
use Rattle.text.proofs.Laws.{and_left, and_right, before-front, before-length, same-eq}
use Rattle.lines.specs.Verdicts.{refused, pass, then}
use Rattle.lines.specs.Lines.{in_front, cut_behind, bare, without_ending, lines_of, ended, size_pass, byte_pass, end_pass, lines_pass, line_at, start_behind, end_of}
use Rattle.lines.specs.declared.Verdict.{Verdict}
use Rattle.lines.specs.declared.Line.{Line}

-- ---- passes, one after the other

-- a refusal is the answer of the whole chain; a pass leaves it to what follows
module _ (v p r : Verdict) (is : v ≡ p) where
  pub stop : (v.number ≡ 0 → ⊥) → v ≡ then p r
  unfolding then
  stop h = rw (← is, ne_eqb v.number 0 h)

  pub go : v.number ≡ 0 → r ≡ then p r
  unfolding then
  go h = rw (← is, eq-eqb v.number 0 h)

pub pass-then : (v : Verdict) → then pass v ≡ v
unfolding then pass refused
pass-then v = refl

pub then-then : (a b c : Verdict) → then (then a b) c ≡ then a (then b c)
unfolding then
then-then a b c = on (eqb a.number 0) refl
  where
    on : (t : Bool) → eqb a.number 0 ≡ t → cond (eqb (cond t b a).number 0) c (cond t b a) ≡ cond t (cond (eqb b.number 0) c b) a
    on true e = refl
    on false e = rw e

-- a chain that passes has passed at each place
pub then-zero : (v w : Verdict) → (then v w).number ≡ 0 → (v.number ≡ 0) × (w.number ≡ 0)
unfolding then
then-zero v w e = at (eqb v.number 0) refl e
  where
    at : (t : Bool) → eqb v.number 0 ≡ t → (cond t w v).number ≡ 0 → (v.number ≡ 0) × (w.number ≡ 0)
    at true h z = (eqb-true _ _ h, z)
    at false h z = let y : ◌≡◌ {A = Bool} false true = sym h ∙ eq-eqb _ _ z in let x : ◌≡◌ {A = ℕ} 0 1 = cc in absurd (omega arith)

-- ---- a line without its CR

-- it is what the line begins with
pub bare-front : (s : List ℕ) → take (length (bare s)) s ≡ bare s
unfolding bare
bare-front [] = refl
bare-front (b ∷ []) = at (eqb b 13)
  where
    at : (t : Bool) → take (length (cond t [] (b ∷ []))) (b ∷ []) ≡ cond t [] (b ∷ [])
    at true = refl
    at false = refl
bare-front (b ∷ c ∷ s) = ap (λ (l : List ℕ). b ∷ l) (bare-front (c ∷ s))

pub bare-length : (s : List ℕ) → length (bare s) ≤ length s
bare-length s = let e = ap length (bare-front s) in let l = length-take (length (bare s)) s in omega arith

-- a byte from 20 to 7E hex is part of no ending
module _ (b : ℕ) (e : is_between 32 126 b ≡ true) where
  print-low : 32 ≤ b
  unfolding is_between
  print-low = leb-true _ _ (and_left (leb 32 b) _ e)

  pub print-lf : eqb b 10 ≡ false
  print-lf = let l = print-low in ne_eqb b 10 (λ x. omega (arith, l, x))

  pub print-cr : eqb b 13 ≡ false
  print-cr = let l = print-low in ne_eqb b 13 (λ x. omega (arith, l, x))

  pub bare-print : (s : List ℕ) → bare (b ∷ s) ≡ b ∷ bare s
  unfolding bare
  bare-print [] = rw print-cr
  bare-print (c ∷ s) = refl

-- ---- the lines of a message, from the front

-- the first line with its ending, and the lines behind it
cut-first : (b : ℕ) (s : List ℕ) → let n : ℕ = suc (length (before 10 (b ∷ s))) in cut_behind (b ∷ s) ≡ take n (b ∷ s) ∷ cut_behind (drop n (b ∷ s))
unfolding cut_behind in_front before
cut-first b [] = at (eqb b 10)
  where
    at : (t : Bool) → let n : ℕ = length (cond t [] (b ∷ [])) in cond t ((b ∷ []) ∷ []) ((b ∷ []) ∷ []) ≡ (b ∷ take n []) ∷ cut_behind (drop n [])
    at true = refl
    at false = refl
cut-first b (c ∷ s) = at (cut-first c s) (eqb b 10)
  where
    k : ℕ
    k = suc (length (before 10 (c ∷ s)))

    at : cut_behind (c ∷ s) ≡ take k (c ∷ s) ∷ cut_behind (drop k (c ∷ s)) → (t : Bool)
        → let n : ℕ = length (cond t [] (b ∷ before 10 (c ∷ s))) in
        cond t ((b ∷ []) ∷ cut_behind (c ∷ s)) (in_front b (cut_behind (c ∷ s))) ≡ (b ∷ take n (c ∷ s)) ∷ cut_behind (drop n (c ∷ s))
    at ih true = refl
    at ih false = ap (in_front b) ih

pub cut_step : (s : List ℕ) → 0 < length s → let n : ℕ = suc (length (before 10 s)) in cut_behind s ≡ take n s ∷ cut_behind (drop n s)
cut_step [] h = absurd (not-suc-le-zero h)
cut_step (b ∷ s) h = cut-first b s

-- what stands before its LF stands before the first LF of all
before-line : (s : List ℕ) → before 10 (take (suc (length (before 10 s))) s) ≡ before 10 s
unfolding before
before-line [] = refl
before-line (b ∷ s) = at (before-line s) (eqb b 10)
  where
    at : before 10 (take (suc (length (before 10 s))) s) ≡ before 10 s → (t : Bool)
        → cond t [] (b ∷ before 10 (take (length (cond t [] (b ∷ before 10 s))) s)) ≡ cond t [] (b ∷ before 10 s)
    at ih true = refl
    at ih false = ap (λ (l : List ℕ). b ∷ l) ih

-- a message that is not empty is its first line and the lines behind that
pub lines_step : (s : List ℕ) → 0 < length s → lines_of s ≡ bare (before 10 s) ∷ lines_of (drop (length (before 10 s) + 1) s)
unfolding lines_of without_ending
lines_step s h = rw (add-one, cut_step s h, before-line s)

pub lines_none : lines_of [] ≡ []
unfolding lines_of cut_behind
lines_none = refl

-- ---- and from byte to byte

pub lines-lf : (s : List ℕ) → lines_of (10 ∷ s) ≡ [] ∷ lines_of s
unfolding lines_of cut_behind without_ending before bare
lines-lf s = refl

-- a CR in front of LF is no byte of a line
pub lines-cr : (s : List ℕ) → lines_of (13 ∷ 10 ∷ s) ≡ [] ∷ lines_of s
unfolding lines_of cut_behind in_front without_ending before bare
lines-cr s = refl

-- another byte stands in front of its line, and so does a CR in front of another
module _ (b : ℕ) (lf : eqb b 10 ≡ false) where
  before_more : (s : List ℕ) → before 10 (b ∷ s) ≡ b ∷ before 10 s
  unfolding before
  before_more s = rw lf

  bare-one : eqb b 13 ≡ false → bare (b ∷ []) ≡ b ∷ []
  unfolding bare
  bare-one cr = rw cr

  cut-more : (s : List ℕ) → cut_behind (b ∷ s) ≡ in_front b (cut_behind s)
  unfolding cut_behind
  cut-more s = rw lf

  pub lines-last : (s : List ℕ) → eqb b 13 ≡ false → lines_of (b ∷ 10 ∷ s) ≡ (b ∷ []) ∷ lines_of s
  unfolding lines_of cut_behind in_front without_ending before
  lines-last s cr = rw lf (ap (λ (l : List ℕ). l ∷ lines_of s) (ap bare (before_more (10 ∷ [])) ∙ bare-one cr))

  off-inside : (c : ℕ) (l : List ℕ) → eqb c 10 ≡ false → without_ending (b ∷ c ∷ l) ≡ b ∷ without_ending (c ∷ l)
  unfolding without_ending before bare
  off-inside c l f = rw (lf, f)

  pub lines-inside : (c : ℕ) (s : List ℕ) → eqb c 10 ≡ false → lines_of (b ∷ c ∷ s) ≡ in_front b (lines_of (c ∷ s))
  unfolding lines_of cut_behind in_front
  lines-inside c s f = rw (lf, f) (on (cut_behind s))
    where
      on : (ls : List (List ℕ)) → map without_ending (in_front b (in_front c ls)) ≡ in_front b (map without_ending (in_front c ls))
      on [] = ap (λ (l : List ℕ). l ∷ []) (off-inside c [] f)
      on (l ∷ ls) = ap (λ (k : List ℕ). k ∷ map without_ending ls) (off-inside c l f)

  -- a byte that is no CR either
  pub lines_more : (s : List ℕ) → eqb b 13 ≡ false → lines_of (b ∷ s) ≡ in_front b (lines_of s)
  unfolding lines_of cut_behind in_front without_ending before bare
  lines_more [] cr = rw lf (ap (λ (l : List ℕ). l ∷ []) (ap bare (before_more []) ∙ bare-one cr))
  lines_more (c ∷ s) cr = on (eqb c 10) refl
    where
      on : (t : Bool) → eqb c 10 ≡ t → lines_of (b ∷ c ∷ s) ≡ in_front b (lines_of (c ∷ s))
      on true e = rw (eqb-true c 10 e) (lines-last s cr)
      on false e = lines-inside c s e

-- ---- the same by places

drop_min : (k : ℕ) (s : List ℕ) → drop (min k (length s)) s ≡ drop k s
drop_min k s = at (leb k (length s)) refl
  where
    at : (t : Bool) → leb k (length s) ≡ t → drop (min k (length s)) s ≡ drop k s
    at true e = let h : k ≤ length s = leb-true _ _ e in let n : min k (length s) ≡ k = omega arith in rw n
    at false e =
        let h : length s < k = leb-false _ _ e in
        let n : min k (length s) ≡ length s = omega arith in
        let l : length s ≤ k = omega arith in
        rw (n, drop-length s, drop_of_length-le s l)

-- a line from a place within a message: where its text ends, where the next line begins, and how the lines go on
pub record Located (m : List ℕ) (at end next : ℕ) : Type 0 where
  pub starts : at ≤ end
  pub ends : end ≤ next
  pub grows : at < next
  pub within : next ≤ length m
  pub go_on : lines_of (drop at m) ≡ take (end - at) (drop at m) ∷ lines_of (drop next m)

pub located : (m : List ℕ) (at : ℕ) (r : Line) → r ≡ line_at m at → at < length m → Located m at r.end r.next
unfolding line_at
located m at r e h =
    let d : List ℕ = drop at m in
    let raw : List ℕ = before 10 d in
    let ld : length d ≡ length m - at = length-drop at m in
    let lr : length raw ≤ length d = before-length 10 d in
    let lb : length (bare raw) ≤ length raw = bare-length raw in
    let width : at + length (bare raw) - at ≡ length (bare raw) = omega arith in
    let text : take (length (bare raw)) d ≡ bare raw =
    sym (take-take (length (bare raw)) (length raw) d lb) ∙ ap (take (length (bare raw))) (before-front 10 d) ∙ bare-front raw
    in let behind : drop (at + min (length raw + 1) (length d)) m ≡ drop (length raw + 1) d = sym (drop-drop _ at m) ∙ drop_min (length raw + 1) d
    in rw e record {
      starts = omega arith;
      ends = omega arith;
      grows = omega arith;
      within = omega arith;
      go_on = lines_step d (omega arith) ∙ rw (width, text, behind);
    }

-- behind the end there are no lines
pub lines-behind : (m : List ℕ) (at : ℕ) → length m ≤ at → lines_of (drop at m) ≡ []
lines-behind m at h = ap lines_of (drop_of_length-le m h) ∙ lines_none

next-behind : (m : List ℕ) (at : ℕ) → length m ≤ at → (line_at m at).next ≡ at
unfolding line_at before
next-behind m at h = rw (drop_of_length-le m h, add-zero)

-- at every place, the end too, the next line's place has the lines but the first
pub lines_next : (m : List ℕ) (at : ℕ) (r : Line) → r ≡ line_at m at → at ≤ length m → (r.next ≤ length m) × (lines_of (drop r.next m) ≡ drop 1 (lines_of (drop at m)))
lines_next m at r e h = on (ltb at (length m)) refl
  where
    on : (t : Bool) → ltb at (length m) ≡ t → (r.next ≤ length m) × (lines_of (drop r.next m) ≡ drop 1 (lines_of (drop at m)))
    on true t = let l = located m at r e (ltb-true _ _ t) in (l.within, rw l.go_on)
    on false t =
        let b : length m ≤ at = ltb-false _ _ t in
        let n : r.next ≡ at = ap (λ (x : Line). x.next) e ∙ next-behind m at b in
        (rw n h, rw (n, lines-behind m at b))

-- ---- where the line behind so many begins: within the message, with the other lines behind it

pub record Begins (m : List ℕ) (n at : ℕ) : Type 0 where
  pub within : at ≤ length m
  pub rest : lines_of (drop at m) ≡ drop n (lines_of m)

pub begins : (m : List ℕ) (n : ℕ) → Begins m n (start_behind m n)
unfolding start_behind
begins m zero = record { within = omega arith; rest = refl }
begins m (suc n) =
    let b = begins m n in
    let l = lines_next m (start_behind m n) _ refl b.within in
    record { within = l.0; rest = l.1 ∙ ap (drop 1) b.rest ∙ drop-drop 1 n (lines_of m) ∙ ap (λ (k : ℕ). drop k (lines_of m)) (add-one n) }

-- the line that begins behind so many is the next by its number
module _ (m : List ℕ) (n at : ℕ) (line : Line) (begun : at ≡ start_behind m n) (is : line ≡ line_at m at) where
  pub end_is : end_of m (suc n) ≡ line.end
  unfolding end_of
  end_is = ap (λ (x : ℕ). (line_at m x).end) (sym begun) ∙ ap (λ (x : Line). x.end) (sym is)

  pub next-is : line.next ≡ start_behind m (suc n)
  unfolding start_behind
  next-is = ap (λ (x : Line). x.next) is ∙ ap (λ (x : ℕ). (line_at m x).next) begun

-- ---- parts of a message

-- what is left of the front of a list
pub drop-front : (k n : ℕ) (y : List ℕ) → drop k (take n y) ≡ take (n - k) (drop k y)
drop-front zero n y = rw sub-zero
drop-front (suc k) zero y = rw zero-sub
drop-front (suc k) (suc n) [] = sym (take-nil (suc n - suc k))
drop-front (suc k) (suc n) (b ∷ y) = drop-front k n y ∙ rw suc-sub-suc

-- what is left of a line, from one place to another, behind some of its bytes
pub drop-take : (m : List ℕ) (at stop k : ℕ) → drop k (take (stop - at) (drop at m)) ≡ take (stop - (at + k)) (drop (at + k) m)
drop-take m at stop k = let n : stop - at - k ≡ stop - (at + k) = omega arith in drop-front k (stop - at) (drop at m) ∙ rw (n, drop-drop k at m)

-- the text of a line is as long as its places say
pub text-long : (m : List ℕ) (at end next : ℕ) → Located m at end next → length (take (end - at) (drop at m)) ≡ end - at
text-long m at end next p =
    let a = p.ends in
    let b = p.within in
    let l = length-drop at m in
    length-take (end - at) (drop at m) ∙ omega arith

-- ---- a value that is the end of its line's text

pub record Stands (m : List ℕ) (line : ℕ) (value : List ℕ) : Type 0 where
  pub within : end_of m line ≤ length m
  pub long : length value ≤ end_of m line
  pub here : drop (end_of m line - length value) (take (end_of m line) m) ≡ value

-- the first line from a place on, and those behind it
pub record First (m : List ℕ) (k : ℕ) (l : List ℕ) (ls : List (List ℕ)) : Type 0 where
  pub from : start_behind m k ≤ end_of m (suc k)
  pub to : end_of m (suc k) ≤ length m
  pub text : l ≡ take (end_of m (suc k) - start_behind m k) (drop (start_behind m k) m)
  pub rest : ls ≡ lines_of (drop (start_behind m (suc k)) m)

pub first : (m : List ℕ) (k : ℕ) (l : List ℕ) (ls : List (List ℕ)) → l ∷ ls ≡ lines_of (drop (start_behind m k) m) → First m k l ls
unfolding start_behind end_of
first m k l ls e = go (ltb (start_behind m k) (length m)) refl
  where
    go : (b : Bool) → ltb (start_behind m k) (length m) ≡ b → First m k l ls
    go true t =
        let p = located m (start_behind m k) (line_at m (start_behind m k)) refl (ltb-true _ _ t) in
        let q = e ∙ p.go_on in
        record { from = p.starts; to = let a = p.ends in let b = p.within in omega arith; text = head-eq_of_cons-eq q; rest = tail-eq_of_cons-eq q }
    go false t =
        let none : l ∷ ls ≡ [] = e ∙ lines-behind m (start_behind m k) (ltb-false _ _ t) in
        let z : suc (length ls) ≡ 0 = ap length none in
        let no : ⊥ = omega arith in
        absurd no

-- what is left of it behind some bytes is such a value
pub stands : (m : List ℕ) (k w : ℕ) (l : List ℕ) (ls : List (List ℕ)) → First m k l ls → w ≤ length l → Stands m (suc k) (drop w l)
stands m k w l ls f h =
    let at : ℕ = start_behind m k in
    let stop : ℕ = end_of m (suc k) in
    let a = f.from in
    let b = f.to in
    let text : l ≡ drop at (take stop m) = f.text ∙ sym (drop-front at stop m) in
    let size : length (take stop m) ≡ stop = rw length-take (omega arith) in
    let long : length l ≡ stop - at = ap length text ∙ length-drop at (take stop m) ∙ (let d = size in omega arith) in
    let v = length-drop w l in
    let begun : stop - length (drop w l) ≡ at + w = omega arith in
    record { within = b; long = omega arith; here = rw begun (sym (drop-drop w at (take stop m)) ∙ ap (drop w) (sym text)) }

-- ---- a message that has passed

-- none of the lines is `-`
unfoldable pub plain : List (List ℕ) → Bool
plain [] = true
plain (l ∷ ls) = not (same (bytes "-") l) && plain ls

-- the last line is `-` and no other is
pub record Closed (ls : List (List ℕ)) : Type 0 where
  pub body : List (List ℕ)
  pub split : ls ≡ body ++ (bytes "-" ∷ [])
  pub early : plain body ≡ true

pub record Passed (m : List ℕ) : Type 0 where
  pub some : 1 ≤ length m
  pub short : length m ≤ 4096
  pub bytes : (byte_pass 1 m).number ≡ 0
  pub end : ended m ≡ true
  pub closed : Closed (lines_of m)

end-zero : (e : Bool) (n : ℕ) (ls : List (List ℕ)) → (end_pass e n ls).number ≡ 0 → (e ≡ true) × Closed ls
unfolding end_pass refused pass plain
end-zero e n [] z = let no : ⊥ = omega arith in absurd no
end-zero e n (l ∷ []) z = at (same (bytes "-") l && e) refl z
  where
    at : (t : Bool) → (same (bytes "-") l && e) ≡ t → (cond t pass (refused 3 n)).number ≡ 0 → (e ≡ true) × Closed (l ∷ [])
    at true h z =
        let is : bytes "-" ≡ l = same-eq _ _ (and_left _ _ h) in
        (and_right (same (bytes "-") l) e h, record { body = []; split = rw is; early = refl })
    at false h z = let no : ⊥ = omega arith in absurd no
end-zero e n (l ∷ k ∷ ls) z = at (end-zero e (suc n) (k ∷ ls)) (same (bytes "-") l) refl z
  where
    at : ((end_pass e (suc n) (k ∷ ls)).number ≡ 0 → (e ≡ true) × Closed (k ∷ ls)) → (t : Bool) → same (bytes "-") l ≡ t
        → (cond t (refused 3 n) (end_pass e (suc n) (k ∷ ls))).number ≡ 0 → (e ≡ true) × Closed (l ∷ k ∷ ls)
    at ih true h z = let no : ⊥ = omega arith in absurd no
    at ih false h z =
        let r = ih z in
        (r.0, record { body = l ∷ r.1.body; split = ap (λ (x : List (List ℕ)). l ∷ x) r.1.split; early = rw h r.1.early })

pub passed : (m : List ℕ) → (lines_pass m).number ≡ 0 → Passed m
unfolding lines_pass size_pass refused
passed m z =
    let sized = then-zero (size_pass m) _ z in
    let scanned = then-zero (byte_pass 1 m) _ sized.1 in
    let last = end-zero _ _ _ scanned.1 in
    let size : (1 ≤ length m) × (length m ≤ 4096) = at (leb 1 (length m) && leb (length m) 4096) refl sized.0 in
    record { some = size.0; short = size.1; bytes = scanned.0; end = last.0; closed = last.1 }
  where
    at : (t : Bool) → (leb 1 (length m) && leb (length m) 4096) ≡ t → (cond t pass (refused 1 0)).number ≡ 0 → (1 ≤ length m) × (length m ≤ 4096)
    at true h z = (leb-true _ _ (and_left _ _ h), leb-true _ _ (and_right (leb 1 (length m)) _ h))
    at false h z = let no : ⊥ = omega arith in absurd no
