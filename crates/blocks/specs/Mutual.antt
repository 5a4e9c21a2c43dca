-- Document 01, "a block holds fields and further blocks, which hold fields and blocks in turn": what the walk over a block and
-- the walk over its items promise each other. Each answers a refusal, or the line and the place behind what it walked; the
-- verdict on the lines from the start is then the verdict on the lines from there.
use Rattle.std.specs.Prelude.{ℕ, ◌+◌, ◌≤◌, ◌≡◌, cond, List, [], ◌∷◌, eqb, length, drop, Result, Ok, Err, IfOk}
use Rattle.lines.specs.Lines.{lines_of}
use Rattle.lines.specs.declared.Verdict.{Verdict}
use Rattle.blocks.specs.Blocks.{opening, follow, nest}
use Rattle.blocks.specs.declared.Walked.{Walked}

-- the blocks that are open around the items of a block of that name; at depth 0 there is none
unfoldable pub around : ℕ → List ℕ → List (List ℕ) → List (List ℕ)
around depth name outer = cond (eqb depth 0) [] (name ∷ outer)

-- the verdict that a walk leaves, where the blocks outside it are open
abbrev pub leaves : List ℕ → Result Walked Verdict → List (List ℕ) → Verdict
leaves m (Ok w) outer = nest w.line outer (lines_of (drop w.at m))
leaves m (Err v) outer = v

-- a walk only goes forward, and a line has at least one byte
pub record Forward (m : List ℕ) (from : ℕ) (w : Walked) : Type 0 where
  pub grows : from ≤ w.at
  pub within : w.at ≤ length m
  pub counted : w.line ≤ w.at + 5

-- the items from a place on, up to the close of the block; at depth 0 there is none, and the walk goes through to the end
pub record OfItems (m : List ℕ) (from first depth : ℕ) (name : List ℕ) (r : Result Walked Verdict) : Type 0 where
  pub forward : IfOk r (Forward m from)
  pub through : depth ≡ 0 → IfOk r (λ w. w.at ≡ length m)
  pub judged : (outer : List (List ℕ)) → length (around depth name outer) ≡ depth → nest first (around depth name outer) (lines_of (drop from m)) ≡ leaves m r outer

-- a block from the place behind its opening line on, where `outer` are the blocks that are open so far
pub record OfBlock (m : List ℕ) (from line depth : ℕ) (name : List ℕ) (r : Result Walked Verdict) : Type 0 where
  pub forward : IfOk r (Forward m from)
  pub judged : (outer : List (List ℕ)) → length outer ≡ depth → follow line (opening outer name) (λ next. nest (line + 1) next (lines_of (drop from m))) ≡ leaves m r outer
