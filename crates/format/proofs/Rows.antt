-- The code walks the rows of a message type's tree, and its reading is said by the tree: what the passes over rows come to is what
-- specs/Reading says. Here rows are left behind, once for all that reads.
-- Assumes nothing.
use Prim.Native.Nat.{ℕ}
use mathlib.Core.Path.{◌≡◌, ap, ◌∙◌}
use mathlib.Core.Bool.{true}
use mathlib.Core.List.{List}
use lib.ListN.{drop}
use Rattle.lines.specs.Verdicts.{then}
use Rattle.lines.specs.Lines.{lines_of, lines_pass}
use Rattle.lines.proofs.Laws.{then-then}
use Rattle.blocks.specs.Blocks.{nest_pass}
use Rattle.layout.specs.Layout.{layout_of}
use Rattle.sheets.specs.Trees.{table_of}
use Rattle.sheets.proofs.Checks.{good_tree}
use Rattle.sheets.proofs.Rows.{rows_take}
use Rattle.walk.specs.Walk.{body_pass, taken_in}
use Rattle.reader.specs.Header.{head_pass}
use Rattle.reader.proofs.Laws.{pass_of}
use Rattle.format.specs.Format.{Format}
use Rattle.format.specs.Reading.{body_of, value_on, rules_of, verdict_of}

module _ (F : Format) (good : good_tree F.tree ≡ true) (m : List ℕ) where
  -- the lines behind the header
  pub rows-body : layout_of (table_of F.tree) 5 (drop 4 (lines_of m)) ≡ body_of F m
  unfolding body_of
  rows-body = rows_take F.tree 5 (drop 4 (lines_of m)) good

  -- 1 to 12, and then the rules
  pub rows-verdict : then (pass_of (table_of F.tree) F.slot_of F.header m) (rules_of F (value_on F m (taken_in (body_of F m)))) ≡ verdict_of F m
  unfolding pass_of verdict_of
  rows-verdict =
      let head = head_pass F.slot_of F.header m in
      let rules = rules_of F (value_on F m (taken_in (body_of F m))) in
      let body = body_pass F.slot_of (body_of F m) in
      rw rows-body
      (then-then (lines_pass m) (then head (then (nest_pass m) body)) rules
      ∙ ap (then (lines_pass m)) (then-then head (then (nest_pass m) body) rules ∙ ap (then head) (then-then (nest_pass m) body rules)))
