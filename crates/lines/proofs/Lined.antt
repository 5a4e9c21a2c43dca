-- The lines of a message one behind the other, wherever the message ends: the line that begins at a place is the k-th where the lines
-- from there on are those behind k of them.
-- Assumes nothing.
use Prim.Native.Nat.{ℕ, ◌+◌, ◌-◌, ◌≤◌}
use mathlib.Core.Path.{◌≡◌, refl, sym, ap, ◌∙◌}
use mathlib.Core.Bool.{Bool, true, false}
use mathlib.Core.List.{List, []}
use native.Mathlib.Nat.{add-zero}
use native.Mathlib.Omega.{arith}
use lib.Dec.{ltb}
use lib.ListN.{length, take, drop, get_or, drop_of_length-le}
use lib.Seq.{take-nil, drop-drop, get_or-drop}
use borrow.Author.Tests.{ltb-true, ltb-false}
use Rattle.text.specs.Bytes.{before}
use Rattle.lines.specs.Lines.{bare, lines_of, line_at}
use Rattle.lines.specs.declared.Line.{Line}
use Rattle.lines.proofs.Laws.{located, lines_next, lines_none}

-- the first of the lines behind k of them
pub first-behind : (ls : List (List ℕ)) (k : ℕ) → get_or (drop k ls) 0 [] ≡ get_or ls k []
first-behind ls k = get_or-drop k ls 0 [] ∙ ap (λ (i : ℕ). get_or ls i []) (add-zero k)

-- the k-th line of a message, from the place where it begins
pub record Lined (m : List ℕ) (k at : ℕ) (r : Line) : Type 0 where
  pub starts : at ≤ r.end
  pub stops : r.end ≤ length m
  pub within : r.next ≤ length m
  pub here : take (r.end - at) (drop at m) ≡ get_or (lines_of m) k []
  pub rest : lines_of (drop r.next m) ≡ drop (k + 1) (lines_of m)

end-here : (m : List ℕ) (at : ℕ) → length m ≤ at → (line_at m at).end ≡ at
unfolding line_at before bare
end-here m at h = rw (drop_of_length-le m h) (add-zero at)

pub lined : (m : List ℕ) (k at : ℕ) (r : Line) → r ≡ line_at m at → at ≤ length m → lines_of (drop at m) ≡ drop k (lines_of m) → Lined m k at r
lined m k at r e h l = go (ltb at (length m)) refl
  where
    n : (r.next ≤ length m) × (lines_of (drop r.next m) ≡ drop 1 (lines_of (drop at m)))
    n = lines_next m at r e h

    rest : lines_of (drop r.next m) ≡ drop (k + 1) (lines_of m)
    rest = n.1 ∙ ap (drop 1) l ∙ drop-drop 1 k (lines_of m)

    first : get_or (lines_of (drop at m)) 0 [] ≡ get_or (lines_of m) k []
    first = ap (λ (ls : List (List ℕ)). get_or ls 0 []) l ∙ first-behind (lines_of m) k

    go : (b : Bool) → ltb at (length m) ≡ b → Lined m k at r
    go true t =
        let p = located m at r e (ltb-true at (length m) t) in
        record {
          starts = p.starts;
          stops = let a = p.ends in let b = p.within in omega arith;
          within = n.0;
          here = sym (ap (λ (ls : List (List ℕ)). get_or ls 0 []) p.go_on) ∙ first;
          rest = rest;
        }
    go false t =
        let g : length m ≤ at = ltb-false at (length m) t in
        let end : r.end ≡ at = ap (λ (x : Line). x.end) e ∙ end-here m at g in
        let none : drop at m ≡ [] = drop_of_length-le m g in
        record {
          starts = omega arith;
          stops = omega arith;
          within = n.0;
          here = ap (take (r.end - at)) none ∙ take-nil (r.end - at) ∙ sym (ap (λ (ls : List (List ℕ)). get_or ls 0 []) (ap lines_of none ∙ lines_none)) ∙ first;
          rest = rest;
        }
