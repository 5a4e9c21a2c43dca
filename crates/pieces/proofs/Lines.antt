-- The mathematics of the crate's function, over plain lists and numbers: how a piece goes on from line to line.
-- Assumes nothing.
use Prim.Native.Nat.{ℕ, suc, ◌+◌, ◌-◌, ◌≤◌, ◌<◌}
use mathlib.Core.Path.{◌≡◌, sym, ap, ◌∙◌}
use mathlib.Core.Bool.{Bool, true, false, cond}
use mathlib.Core.List.{List, [], ◌∷◌, ◌++◌, map, append-nil, head-eq_of_cons-eq}
use native.Mathlib.Nat.{add-zero}
use native.Mathlib.Numerals.{add-one}
use native.Mathlib.Omega.{arith}
use lib.ListN.{length, take, drop, take-append-drop, length-take, length-drop, length-append, drop_of_length-le}
use lib.Seq.{drop-drop, drop-append_seam}
use Rattle.text.specs.Bytes.{bytes, same, before}
use Rattle.lines.specs.Lines.{lines_of, line_at, cut_behind, without_ending}
use Rattle.lines.specs.declared.Line.{Line}
use Rattle.lines.proofs.Laws.{located, cut_step}
use Rattle.pieces.specs.Pieces.{is_dash, through_dash, piece_of}

-- ---- a piece, from line to line

-- a line, with its ending, and what is left behind it
module _ (m : List ℕ) (at : ℕ) (here : Line) (is : here ≡ line_at m at) (h : at < length m) where
  line : List ℕ
  line = take (suc (length (before 10 (drop at m)))) (drop at m)

  rest : List ℕ
  rest = drop (suc (length (before 10 (drop at m)))) (drop at m)

  cut : cut_behind (drop at m) ≡ line ∷ cut_behind rest
  unfolding line rest
  cut = let l = length-drop at m in cut_step (drop at m) (omega arith)

  next-is : here.next ≡ at + length line
  unfolding line line_at
  next-is = rw (is, add-one, length-take (suc (length (before 10 (drop at m)))) (drop at m))

  behind : drop here.next m ≡ rest
  unfolding line rest
  behind =
      ap (λ (k : ℕ). drop k m) next-is
      ∙ sym (drop-drop (length line) at m)
      ∙ ap (drop (length line)) (sym (take-append-drop (suc (length (before 10 (drop at m)))) (drop at m)))
      ∙ drop-append_seam line rest

  text-is : without_ending line ≡ take (here.end - at) (drop at m)
  unfolding lines_of
  text-is = head-eq_of_cons-eq (sym (ap (map without_ending) cut) ∙ (located m at here is h).go_on)

  -- a turn of the search: the piece ends with the line where it is `-`, and else goes on from the next line
  module _ (whole : ℕ) (inv : at + length (piece_of (drop at m)) ≡ whole) (dash : Bool) (test : dash ≡ same (bytes "-") (take (here.end - at) (drop at m))) where
    dash-is : is_dash line ≡ dash
    unfolding is_dash
    dash-is = ap (same (bytes "-")) text-is ∙ sym test

    piece_is : at + length (line ++ cond dash [] (piece_of (drop here.next m))) ≡ whole
    unfolding piece_of through_dash
    piece_is = sym (sym inv ∙ rw (cut, dash-is, behind))

    pub piece-stop : dash ≡ true → here.next ≡ whole
    piece-stop e = next-is ∙ rw (e, append-nil line) at piece_is

    pub piece-more : dash ≡ false → here.next + length (piece_of (drop here.next m)) ≡ whole
    piece-more e =
        let w : at + length (line ++ piece_of (drop here.next m)) ≡ whole = rw e at piece_is in
        let l = length-append line (piece_of (drop here.next m)) in
        let n = next-is in
        omega arith

pub piece-none : (m : List ℕ) (at whole : ℕ) → at + length (piece_of (drop at m)) ≡ whole → length m ≤ at → at ≡ whole
unfolding piece_of through_dash cut_behind
piece-none m at whole inv h = sym (sym inv ∙ rw (drop_of_length-le m h, add-zero))
