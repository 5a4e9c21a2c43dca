-- The mathematics of the crate's functions, over plain lists and numbers: what each test says of a line, and what each way
-- through the walk over a block and the walk over its items says of the judgement of all lines.
-- Assumes nothing.
use Prim.Native.Nat.{ℕ, ◌+◌, ◌-◌, ◌≤◌, ◌<◌}
use mathlib.Core.Path.{◌≡◌, refl, sym, ap, ◌∙◌}
use mathlib.Core.Bool.{Bool, true, false, ◌&&◌, cond}
use mathlib.Core.List.{List, [], ◌∷◌}
use native.Mathlib.Numerals.{add-one}
use native.Mathlib.Omega.{arith}
use lib.Dec.{leb}
use lib.ListN.{length, take, drop}
use borrow.Author.Tests.{leb-true, leb-false, lt-ltb, le-ltb, eq-eqb, ne_eqb}
use Rattle.text.specs.Bytes.{bytes, begins, same}
use Rattle.text.proofs.Laws.{and_left, rest_of}
use Rattle.lines.specs.Verdicts.{refused, pass}
use Rattle.lines.specs.Lines.{lines_of}
use Rattle.lines.proofs.Laws.{Located, lines-behind}
use Rattle.blocks.specs.Blocks.{is_tagged, name_of, named, role_of, goes, stops, ending, opening, closing, turn, follow, nest, nest_pass}
use Rattle.blocks.specs.Mutual.{around, leaves, OfItems, OfBlock}
use Rattle.blocks.specs.declared.Role.{Role}
use Rattle.blocks.specs.declared.Role.TheVariants.{End, Opens, Closes, Field, Wrong}
use Rattle.blocks.specs.declared.Walked.{Walked}
use Rattle.lines.specs.declared.Verdict.{Verdict}
use Rattle.std.specs.Prelude.{Result, Ok, Err}

-- ---- one line

pub tagged_long : (l : List ℕ) → is_tagged l ≡ true → 5 ≤ length l
unfolding is_tagged
tagged_long l e = let n : 6 ≤ length l = leb-true _ _ (and_left _ _ e) in omega arith

-- a line that is about a block
abbrev pub about : Role → Bool
about End = false
about Opens = true
about Closes = true
about Field = false
about Wrong = false

-- such a line has a tag in front of its name
pub about_long : (l : List ℕ) (role : Role) → role ≡ role_of l → about role ≡ true → 5 ≤ length l
unfolding role_of
about_long l role is e = on (same (bytes "-") l) (is_tagged l) refl (sym (ap about is) ∙ e)
  where
    on : (d t : Bool) → is_tagged l ≡ t
        → about (cond d End (cond t (cond (begins (bytes ":16R:") l) (named Opens (name_of l)) (cond (begins (bytes ":16S:") l) (named Closes (name_of l)) Field)) Wrong)) ≡ true → 5 ≤ length l
    on true t h z = let no : ◌≡◌ {A = ℕ} 0 1 = cc in absurd (omega arith)
    on false true h z = tagged_long l h
    on false false h z = let no : ◌≡◌ {A = ℕ} 0 1 = cc in absurd (omega arith)

-- ---- the blocks around the items

module _ (depth : ℕ) (name : List ℕ) (outer : List (List ℕ)) where
  pub around-top : depth ≡ 0 → around depth name outer ≡ []
  unfolding around
  around-top h = rw (eq-eqb depth 0 h)

  pub around-inside : (depth ≡ 0 → ⊥) → around depth name outer ≡ name ∷ outer
  unfolding around
  around-inside h = rw (ne_eqb depth 0 h)

  -- a close at that depth
  closing-is : (inner : List ℕ) → closing (around depth name outer) inner ≡ cond (leb 1 depth && same name inner) (goes outer) (stops 6)
  unfolding closing
  closing-is inner = on (leb 1 depth) refl
    where
      on : (t : Bool) → leb 1 depth ≡ t → closing (around depth name outer) inner ≡ cond (t && same name inner) (goes outer) (stops 6)
      on true e = let h : 1 ≤ depth = leb-true _ _ e in rw (around-inside (λ z. omega arith))
      on false e = let h : depth < 1 = leb-false _ _ e in rw (around-top (omega arith))

-- ---- the walk over a block

module _ (m : List ℕ) (from line depth : ℕ) (name : List ℕ) (inside : from ≤ length m) (counted : line + 1 ≤ from + 5) where
  pub block-ninth : 8 ≤ depth → OfBlock m from line depth name (Err (record { number = 7; line = line }))
  unfolding opening follow refused
  block-ninth h = record {
    forward = tt;
    judged = λ outer e. rw (e, le-ltb depth 8 h);
  }

  pub block-items : (r : Result Walked Verdict) → depth < 8 → OfItems m from (line + 1) (depth + 1) name r → OfBlock m from line depth name r
  unfolding opening follow
  block-items r h i = record {
    forward = i.forward;
    judged = λ outer e.
        let at = around-inside (depth + 1) name outer (λ z. omega arith) in
        rw (e, lt-ltb depth 8 h) (rw at at (i.judged outer (rw at (omega arith))));
  }

-- ---- the walk over the items of a block, from a place on

module _ (m : List ℕ) (from first depth : ℕ) (name : List ℕ) where
  -- the lines that are left are judged, from their number on, as those from the start were
  pub record Ahead (at line : ℕ) : Type 0 where
    pub passed : from ≤ at
    pub within : at ≤ length m
    pub counted : line ≤ at + 5
    pub judged : (outer : List (List ℕ)) → length (around depth name outer) ≡ depth
        → nest first (around depth name outer) (lines_of (drop from m)) ≡ nest line (around depth name outer) (lines_of (drop at m))

  pub ahead-all : from ≤ length m → first ≤ from + 5 → Ahead from first
  ahead-all h g = record { passed = omega arith; within = h; counted = g; judged = λ outer e. refl }

  -- a walk that ends here with a refusal
  stopped : (at line number : ℕ) → Ahead at line
      → ((outer : List (List ℕ)) → length (around depth name outer) ≡ depth → nest line (around depth name outer) (lines_of (drop at m)) ≡ refused number line)
      → OfItems m from first depth name (Err (record { number = number; line = line }))
  unfolding refused
  stopped at line number a e = record { forward = tt; through = λ d. tt; judged = λ outer f. a.judged outer f ∙ e outer f }

  -- the lines are used up
  pub all_done : (at line : ℕ) → Ahead at line → length m ≤ at → OfItems m from first depth name (Ok (record { line = line; at = at }))
  unfolding nest
  all_done at line a h =
      let w = a.within in
      record {
        forward = record { grows = a.passed; within = w; counted = a.counted };
        through = λ d. omega arith;
        judged = λ outer f. a.judged outer f ∙ rw (lines-behind m at h);
      }

  module _ (at line end next : ℕ) (a : Ahead at line) (here : Located m at end next) (role : Role) (is : role ≡ role_of (take (end - at) (drop at m))) where
    abbrev text : List ℕ
    text = take (end - at) (drop at m)

    -- what the line at this place does decides, with what follows it
    step : (blocks : List (List ℕ)) → nest line blocks (lines_of (drop at m)) ≡ follow line (turn role blocks (name_of text)) (λ b. nest (line + 1) b (lines_of (drop next m)))
    unfolding nest
    step blocks = rw (here.go_on, is, add-one line)

    pub wrong-line : role ≡ Wrong → OfItems m from first depth name (Err (record { number = 5; line = line }))
    unfolding turn follow
    wrong-line r = stopped at line 5 a (λ outer f. step (around depth name outer) ∙ rw r)

    -- at depth 0 the `-` line is the last that is judged
    pub end-top : role ≡ End → depth ≡ 0 → Ahead (length m) line
    unfolding turn ending follow nest
    end-top r d =
        let p = a.passed in
        let w = a.within in
        let c = a.counted in
        record {
          passed = omega arith;
          within = omega arith;
          counted = omega arith;
          judged = λ outer f.
              a.judged outer f
              ∙ step (around depth name outer)
              ∙ rw (r, around-top depth name outer d, lines-behind m (length m) (omega arith));
        }

    pub end-inside : role ≡ End → (depth ≡ 0 → ⊥) → OfItems m from first depth name (Err (record { number = 6; line = line }))
    unfolding turn ending follow
    end-inside r d = stopped at line 6 a (λ outer f. step (around depth name outer) ∙ rw (r, around-inside depth name outer d))

    pub field-more : role ≡ Field → Ahead next (line + 1)
    unfolding turn follow
    field-more r =
        let p = a.passed in
        let c = a.counted in
        let g = here.grows in
        record {
          passed = omega arith;
          within = here.within;
          counted = omega arith;
          judged = λ outer f. a.judged outer f ∙ step (around depth name outer) ∙ rw r;
        }

    -- the part behind the tag is the name
    abbrev inner : List ℕ
    inner = take (length text - 5) (drop 5 text)

    name-is : inner ≡ name_of text
    unfolding name_of
    name-is = rest_of 5 (length text) text refl

    module _ (r : role ≡ Closes) (fits : Bool) (test : fits ≡ (leb 1 depth && same name inner)) where
      closed : (outer : List (List ℕ)) → nest line (around depth name outer) (lines_of (drop at m))
          ≡ follow line (cond fits (goes outer) (stops 6)) (λ b. nest (line + 1) b (lines_of (drop next m)))
      unfolding turn
      closed outer = step (around depth name outer) ∙ rw (r, ← name-is, closing-is depth name outer, test)

      pub close_other : fits ≡ false → OfItems m from first depth name (Err (record { number = 6; line = line }))
      unfolding follow
      close_other e = stopped at line 6 a (λ outer f. closed outer ∙ rw e)

      pub close-same : fits ≡ true → OfItems m from first depth name (Ok (record { line = line + 1; at = next }))
      unfolding follow
      close-same e =
          let p = a.passed in
          let c = a.counted in
          let g = here.grows in
          let some : 1 ≤ depth = leb-true _ _ (and_left _ _ (sym test ∙ e)) in
          record {
            forward = record { grows = omega arith; within = here.within; counted = omega arith };
            through = λ d. let no : ⊥ = omega arith in absurd no;
            judged = λ outer f. a.judged outer f ∙ closed outer ∙ rw e;
          }

    module _ (r : role ≡ Opens) where
      opened : (w : Result Walked Verdict) → OfBlock m next line depth inner w → (outer : List (List ℕ)) → length (around depth name outer) ≡ depth
          → nest first (around depth name outer) (lines_of (drop from m)) ≡ leaves m w (around depth name outer)
      unfolding turn
      opened w block outer f = a.judged outer f ∙ step (around depth name outer) ∙ rw (r, ← name-is) (block.judged (around depth name outer) f)

      pub open-stop : (v : Verdict) → OfBlock m next line depth inner (Err v) → OfItems m from first depth name (Err v)
      open-stop v block = record { forward = tt; through = λ d. tt; judged = opened (Err v) block }

      pub open_more : (w : Walked) → OfBlock m next line depth inner (Ok w) → Ahead w.at w.line
      open_more w block =
          let p = a.passed in
          let b = block.forward.grows in
          let g = here.grows in
          record { passed = omega arith; within = block.forward.within; counted = block.forward.counted; judged = opened (Ok w) block }

-- ---- the lines behind the header

module _ (m : List ℕ) (at : ℕ) (lines : lines_of (drop at m) ≡ drop 4 (lines_of m)) where
  whole : (r : Result Walked Verdict) → OfItems m at 5 0 [] r → nest_pass m ≡ leaves m r []
  unfolding nest_pass around
  whole r items = rw (← lines) (items.judged [] refl)

  pub nest-good : (w : Walked) → OfItems m at 5 0 [] (Ok w) → pass ≡ nest_pass m
  unfolding nest
  nest-good w items = let e = items.through refl in sym (whole (Ok w) items ∙ rw (lines-behind m w.at (omega arith)))

  pub nest-wrong : (v : Verdict) → OfItems m at 5 0 [] (Err v) → v ≡ nest_pass m
  nest-wrong v items = sym (whole (Err v) items)
