-- The mathematics of the crate's functions, over plain lists: the lines of the header one after the other, and the passes in their
-- order.
-- Assumes nothing.
use Prim.Native.Nat.{ℕ, suc, ◌+◌, ◌-◌, ◌≤◌, ◌<◌}
use mathlib.Core.Path.{◌≡◌, refl, sym, ap, ◌∙◌}
use mathlib.Core.Bool.{Bool, true, false, cond}
use mathlib.Core.List.{List, []}
use native.Mathlib.Numerals.{add-one}
use lib.Dec.{eqb}
use lib.ListN.{length, take, drop, get_or, set, length-set, drop_of_length-le}
use lib.Seq.{drop-drop, drop-cons}
use borrow.Author.Tests.{ne_eqb}
use Rattle.lines.specs.Verdicts.{refused, pass, then}
use Rattle.lines.specs.Lines.{lines_of, lines_pass, line_at, start_behind, end_of}
use Rattle.lines.specs.declared.Verdict.{Verdict}
use Rattle.lines.specs.declared.Line.{Line}
use Rattle.lines.proofs.Laws.{stop, go, pass-then, then-then, begins}
use Rattle.lines.proofs.Lined.{first-behind, Lined, lined}
use Rattle.blocks.specs.Blocks.{nest_pass}
use Rattle.stretches.specs.Stretches.{slot_count}
use Rattle.forms.specs.Forms.{Slot, value_number}
use Rattle.layout.specs.Rows.{Row}
use Rattle.walk.specs.Walk.{walk_of}
use Rattle.walk.specs.declared.Body.{Body}
use Rattle.reader.specs.Header.{head_verdict, head_pass, starts_from, ends_from, head_starts, head_ends}
use Rattle.reader.specs.Take.{placeless, take_of}
use Rattle.reader.proofs.Laws.{taken_is}

-- ---- the header

-- what one line comes to
abbrev pub judged : ℕ → ℕ → Verdict
judged number n = cond (eqb number 0) pass (refused 4 n)

judged-then : (number n : ℕ) (v : Verdict) → then (judged number n) v ≡ cond (eqb number 0) v (refused 4 n)
judged-then number n v = on (eqb number 0)
  where
    on : (b : Bool) → then (cond b pass (refused 4 n)) v ≡ cond b v (refused 4 n)
    on true = pass-then v
    on false = unfold then refused in refl

-- what the header comes to
abbrev pub head_of : (ℕ → Slot) → List ℕ → List ℕ → Body
head_of slot_of header m = record { verdict = head_pass slot_of header m; starts = head_starts slot_of header m; ends = head_ends header m }

module _ (slot_of : ℕ → Slot) (m header starts₀ ends₀ : List ℕ) where
  -- the first fault so far, with the lines still ahead, is that of the whole header; so it is with the places, from those that were kept
  -- before
  pub record Kept (starts ends : List ℕ) (fault : Verdict) (at i : ℕ) : Type 0 where
    pub placed : at ≡ start_behind m i
    pub starts-long : length starts ≡ slot_count
    pub ends-long : length ends ≡ slot_count
    pub plain : then fault pass ≡ fault
    pub first : then fault (head_verdict slot_of (suc i) (drop i header) (drop i (lines_of m))) ≡ head_pass slot_of header m
    pub begun : starts_from slot_of m i starts (drop i header) ≡ starts_from slot_of m 0 starts₀ header
    pub ended : ends_from m i ends (drop i header) ≡ ends_from m 0 ends₀ header

  pub begin : length starts₀ ≡ slot_count → length ends₀ ≡ slot_count → Kept starts₀ ends₀ pass 0 0
  unfolding start_behind head_pass
  begin starts-long ends-long =
      record {
        placed = refl;
        starts-long = starts-long;
        ends-long = ends-long;
        plain = pass-then pass;
        first = pass-then _;
        begun = refl;
        ended = refl;
      }

  module _ (starts ends : List ℕ) (fault : Verdict) (at i : ℕ) (k : Kept starts ends fault at i) where
    pub over : length header ≤ i → (fault ≡ head_pass slot_of header m) × (starts ≡ starts_from slot_of m 0 starts₀ header) × (ends ≡ ends_from m 0 ends₀ header)
    unfolding head_verdict starts_from ends_from
    over h =
        let none : drop i header ≡ [] = drop_of_length-le header h in
        (sym k.plain ∙ (rw none at k.first), rw none at k.begun, rw none at k.ended)

    pub placed-in : at ≤ length m
    placed-in = rw k.placed (begins m i).within

    module _ (line : Line) (stands : line ≡ line_at m at) where
      pub line-in : Lined m i at line
      line-in = lined m i at line stands placed-in (rw k.placed (begins m i).rest)

      module _ (more : i < length header) (starts' ends' : List ℕ) (fault' : Verdict)
          (f : fault' ≡ then fault (judged (value_number (slot_of (get_or header i 0)) (take (line.end - at) (drop at m))) (i + 1)))
          (s : starts' ≡ set starts (get_or header i 0) (at + length (slot_of (get_or header i 0)).fixed))
          (e : ends' ≡ set ends (get_or header i 0) line.end) where
        number : ℕ
        number = value_number (slot_of (get_or header i 0)) (take (line.end - at) (drop at m))

        rest : Verdict
        rest = head_verdict slot_of (suc (suc i)) (drop (suc i) header) (drop (suc i) (lines_of m))

        ahead : head_verdict slot_of (suc i) (drop i header) (drop i (lines_of m)) ≡ cond (eqb number 0) rest (refused 4 (suc i))
        unfolding head_verdict number rest
        ahead =
            let next : drop 1 (drop i (lines_of m)) ≡ drop (suc i) (lines_of m) = drop-drop 1 i (lines_of m) ∙ rw (add-one i) in
            rw (drop-cons header i 0 more, first-behind (lines_of m) i, next, line-in.here)

        pub again : Kept starts' ends' fault' line.next (i + 1)
        unfolding start_behind end_of starts_from ends_from number rest
        again =
            let x : Verdict = judged number (suc i) in
            let f' : fault' ≡ then fault x = rw add-one at f in
            rw add-one record {
              placed = ap (λ (l : Line). l.next) stands ∙ ap (λ (p : ℕ). (line_at m p).next) k.placed;
              starts-long = ap length s ∙ length-set starts _ _ ∙ k.starts-long;
              ends-long = ap length e ∙ length-set ends _ _ ∙ k.ends-long;
              plain = rw f' (then-then fault x pass ∙ ap (then fault) (judged-then number (suc i) pass));
              first = rw f' (then-then fault x rest ∙ ap (then fault) (judged-then number (suc i) rest ∙ sym ahead) ∙ k.first);
              begun = rw (s, k.placed) (rw (drop-cons header i 0 more) at k.begun);
              ended = rw (e, stands, k.placed) (rw (drop-cons header i 0 more) at k.ended);
            }

-- ---- the passes in their order

module _ (table : List Row) (slot_of : ℕ → Slot) (header m : List ℕ) where
  decided : (v : Verdict) → (v.number ≡ 0 → ⊥) → v ≡ then (lines_pass m) (then (head_pass slot_of header m) (nest_pass m)) → placeless v ≡ take_of table slot_of header m
  unfolding take_of
  decided v h e = rw (← e, ne_eqb v.number 0 h)

  module _ (v1 : Verdict) (e1 : v1 ≡ lines_pass m) where
    pub refused-1 : (v1.number ≡ 0 → ⊥) → placeless v1 ≡ take_of table slot_of header m
    refused-1 h = decided v1 h (stop v1 (lines_pass m) _ e1 h)

    module _ (g1 : v1.number ≡ 0) (head : Body) (e2 : head ≡ head_of slot_of header m) where
      head-verdict : head.verdict ≡ head_pass slot_of header m
      head-verdict = ap (λ (x : Body). x.verdict) e2

      pub refused-2 : (head.verdict.number ≡ 0 → ⊥) → placeless head.verdict ≡ take_of table slot_of header m
      refused-2 h = decided head.verdict h (stop head.verdict (head_pass slot_of header m) _ head-verdict h ∙ go v1 (lines_pass m) _ e1 g1)

      module _ (g2 : head.verdict.number ≡ 0) (v3 : Verdict) (e3 : v3 ≡ nest_pass m) where
        chain : v3 ≡ then (lines_pass m) (then (head_pass slot_of header m) (nest_pass m))
        chain = e3 ∙ go head.verdict (head_pass slot_of header m) _ head-verdict g2 ∙ go v1 (lines_pass m) _ e1 g1

        pub refused-3 : (v3.number ≡ 0 → ⊥) → placeless v3 ≡ take_of table slot_of header m
        refused-3 h = decided v3 h chain

        pub walked-is : v3.number ≡ 0 → walk_of table slot_of m head.starts head.ends ≡ take_of table slot_of header m
        walked-is h = rw e2 (taken_is table slot_of header m (ap (λ (v : Verdict). v.number) (sym chain) ∙ h))
