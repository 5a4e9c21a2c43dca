-- Demand 2, acceptance: a message is read exactly when it is lawful, and its record is what its sheet says.
-- Assumes nothing.
use Prim.Native.Nat.{ℕ, ◌≤◌}
use mathlib.Core.Path.{◌≡◌, refl, sym, ap, ◌∙◌}
use mathlib.Core.Bool.{true}
use mathlib.Core.List.{List, [], ◌∷◌, ◌++◌}
use native.Mathlib.Omega.{arith}
use lib.ListN.{length, drop, length-append}
use lib.Seq.{drop-append-le}
use Rattle.text.specs.Bytes.{bytes}
use Rattle.text.proofs.Laws.{and_left}
use Rattle.lines.specs.Verdicts.{then, pass, refused}
use Rattle.lines.specs.Lines.{lines_of, lines_pass}
use Rattle.lines.specs.declared.Verdict.{Verdict}
use Rattle.lines.proofs.Laws.{then-zero}
use Rattle.lines.proofs.Joins.{whole-lines}
use Rattle.blocks.specs.Blocks.{nest, nest_pass}
use Rattle.layout.specs.Layout.{Run, refused_at, taken, Taken}
use Rattle.sheets.specs.Sheets.{Entry, lines_in, Sheet}
use borrow.Author.Tests.{leb-true}
use lib.Dec.{leb}
use Rattle.sheets.proofs.Moves.{good-bars, NumberedRun, numbered}
use Rattle.sheets.proofs.Accepts.{taken_on, reads}
use Rattle.sheets.proofs.Cuts.{cuts}
use Rattle.walk.specs.Walk.{values_pass, body_pass, taken_in}
use Rattle.reader.specs.Header.{head_pass}
use Rattle.format.specs.Format.{Format}
use Rattle.format.specs.Reading.{reading, body_of, value_on, rules_of, verdict_of, read_of}
use Rattle.format.specs.Lawful.{Valued, said_in, Lawful}
use Rattle.format.proofs.Tests.{every, foreign}
use Rattle.format.proofs.Laws.{strangers, Layout, Laws}
use Rattle.format.proofs.Heads.{Heads, heads-from, heads-fit}
use Rattle.format.proofs.Nests.{nests-all}
use Rattle.format.proofs.Said.{values-pass, valued, sheet-full, said-is}

-- ---- passes one after the other

then_next : (v w : Verdict) → v.number ≡ 0 → then v w ≡ w
unfolding then
then_next v w h = rw h

-- ---- a run that passes was taken, since a refusal has a number

module _ (F : Format) where
  all-taken : (run : Run) → NumberedRun (leb 1) run → (body_pass F.slot_of run).number ≡ 0 → (ts : List Taken) × (run ≡ taken ts) × ((values_pass F.slot_of ts).number ≡ 0)
  unfolding body_pass refused
  all-taken (refused_at k n) h z = let no : ⊥ = omega (arith, leb-true 1 k h) in absurd no
  all-taken (taken ts) h z = (ts, refl, z)

  -- ---- pass by pass

  pub record Passes (m : List ℕ) : Type 0 where
    pub text : (lines_pass m).number ≡ 0
    pub head : (head_pass F.slot_of F.header m).number ≡ 0
    pub nest : (nest_pass m).number ≡ 0
    pub body : (body_pass F.slot_of (body_of F m)).number ≡ 0
    pub rules : (rules_of F (value_on F m (taken_in (body_of F m)))).number ≡ 0

  pub passes-from : (m : List ℕ) → (verdict_of F m).number ≡ 0 → Passes m
  unfolding verdict_of
  passes-from m z =
      let (t, z1) = then-zero (lines_pass m) _ z in
      let (h, z2) = then-zero (head_pass F.slot_of F.header m) _ z1 in
      let (n, z3) = then-zero (nest_pass m) _ z2 in
      let (b, r) = then-zero (body_pass F.slot_of (body_of F m)) _ z3 in
      record { text = t; head = h; nest = n; body = b; rules = r }

  pub passes-to : (m : List ℕ) → Passes m → verdict_of F m ≡ rules_of F (value_on F m (taken_in (body_of F m)))
  unfolding verdict_of
  passes-to m p =
      then_next (lines_pass m) _ p.text ∙ then_next (head_pass F.slot_of F.header m) _ p.head ∙ then_next (nest_pass m) _ p.nest
      ∙ then_next (body_pass F.slot_of (body_of F m)) _ p.body

  module _ (L : Layout F) where
    -- ---- the lines behind the header

    -- `-` is no line of the header
    pub no-dash : every (λ s. foreign (F.slot_of s) (bytes "-")) F.header ≡ true
    unfolding strangers every
    no-dash = and_left _ _ L.heads-foreign

    pub record Cut (m : List ℕ) : Type 0 where
      pub early : List (List ℕ)
      pub body : drop 4 (lines_of m) ≡ early ++ bytes "-" ∷ []
      pub long : length F.header ≤ length (lines_of m)

    -- lines of which the last is `-`
    cut-lines : (m : List ℕ) (body : List (List ℕ)) → lines_of m ≡ body ++ bytes "-" ∷ [] → Heads F.slot_of F.header (lines_of m) → Cut m
    cut-lines m body e h =
        let n : length F.header ≤ length body = heads-fit F.slot_of (bytes "-") F.header body no-dash (rw e at h) in
        let f = L.four in
        let k : 4 ≤ length body = omega arith in
        let l = ap length e ∙ length-append body (bytes "-" ∷ []) in
        record { early = drop 4 body; body = ap (drop 4) e ∙ drop-append-le 4 body (bytes "-" ∷ []) k; long = omega arith }

    pub cut : (m : List ℕ) → (lines_pass m).number ≡ 0 → (head_pass F.slot_of F.header m).number ≡ 0 → Cut m
    unfolding head_pass
    cut m h k =
        let w = (whole-lines m h).closed in
        cut-lines m w.body w.split (heads-from F.slot_of 1 F.header (lines_of m) k)

    -- the lines behind the header that the layout takes, with values that get 0, are a sheet's
    pub record Told (m : List ℕ) : Type 0 where
      pub sheet : List Entry
      pub laid : Sheet F.tree sheet
      pub lines : drop 4 (lines_of m) ≡ lines_in sheet
      pub valued : Valued F sheet
      pub body : body_of F m ≡ taken (taken_on 5 sheet)

    pub told : (m : List ℕ) → Cut m → (body_pass F.slot_of (body_of F m)).number ≡ 0 → Told m
    unfolding body_of
    told m c b =
        let (ts, e, v) = all-taken (body_of F m) (numbered (leb 1) refl refl F.tree 5 (drop 4 (lines_of m)) (good-bars F.tree L.good)) b in
        let (es, q, r, l) = cuts F.tree (bytes "-") c.early 5 ts L.good L.ends_at (rw (← c.body) e) in
        record { sheet = es; laid = l; lines = c.body ∙ q; valued = valued F es 5 (rw r at v); body = rw r at e }

    -- what the reader makes of a sheet's lines
    pub body-taken : (m : List ℕ) (es : List Entry) → Sheet F.tree es → drop 4 (lines_of m) ≡ lines_in es → body_of F m ≡ taken (taken_on 5 es)
    unfolding body_of
    body-taken m es l e = rw e (reads F.tree es 5 L.good L.is-apart l)

    -- they nest
    pub sheet-nests : (m : List ℕ) (es : List Entry) → Sheet F.tree es → drop 4 (lines_of m) ≡ lines_in es → Valued F es → (nest_pass m).number ≡ 0
    unfolding nest_pass pass refused
    sheet-nests m es l e v = rw e (ap (λ (x : Verdict). x.number) (nests-all l L.nests (sheet-full F L es l v) 5))

    -- ---- acceptance

    module _ (W : Laws F) where
      -- the record of a lawful message is what its sheet says
      module _ (m : List ℕ) (es : List Entry) (l : Sheet F.tree es) where
        record_same : F.record_of (value_on F m (taken_on 5 es)) ≡ F.record_of (said_in F m es)
        record_same = (W.rests (value_on F m (taken_on 5 es)) (said_in F m es) (λ s n. said-is F L m es 5 s l)).0

        rules-same : rules_of F (value_on F m (taken_on 5 es)) ≡ rules_of F (said_in F m es)
        unfolding rules_of
        rules-same =
            ap (F.read_rules (value_on F m (taken_on 5 es))) record_same
            ∙ (W.rests (value_on F m (taken_on 5 es)) (said_in F m es) (λ s n. said-is F L m es 5 s l)).1 (F.record_of (said_in F m es))

        module _ (b : body_of F m ≡ taken (taken_on 5 es)) where
          body-rules : rules_of F (value_on F m (taken_in (body_of F m))) ≡ rules_of F (said_in F m es)
          unfolding taken_in
          body-rules = rw b rules-same

          body-values : body_pass F.slot_of (body_of F m) ≡ values_pass F.slot_of (taken_on 5 es)
          unfolding body_pass
          body-values = rw b

          pub record-said : (verdict_of F m).number ≡ 0 → read_of F m ≡ record { number = 0; line = (verdict_of F m).line; held = F.record_of (said_in F m es) }
          unfolding read_of reading taken_in
          record-said z = rw (z, b, record_same)

      -- an accepted message has line 0, since the rules never say another
      pub accepted-line : (m : List ℕ) → (verdict_of F m).number ≡ 0 → (verdict_of F m).line ≡ 0
      unfolding rules_of
      accepted-line m z = ap (λ (v : Verdict). v.line) (passes-to m (passes-from m z)) ∙ W.rules-line _ _

      -- a message is accepted exactly when it is lawful
      pub accepted-lawful : (m : List ℕ) → (verdict_of F m).number ≡ 0 → Lawful F m
      accepted-lawful m z =
          let p = passes-from m z in
          let t = told m (cut m p.text p.head) p.body in
          record {
            text = p.text;
            head = p.head;
            sheet = t.sheet;
            laid = t.laid;
            lines = t.lines;
            valued = t.valued;
            rules = ap (λ (x : Verdict). x.number) (sym (body-rules m t.sheet t.laid t.body)) ∙ p.rules;
          }

      pub lawful-accepted : (m : List ℕ) → Lawful F m → (verdict_of F m).number ≡ 0
      unfolding pass refused
      lawful-accepted m w =
          let es = w.sheet in
          let l = w.laid in
          let b = body-taken m es l w.lines in
          let number : Verdict → ℕ = λ v. v.number in
          let rules : number (rules_of F (value_on F m (taken_in (body_of F m)))) ≡ 0 = ap number (body-rules m es l b) ∙ w.rules in
          ap number
          (passes-to m
          (record {
            text = w.text;
            head = w.head;
            nest = sheet-nests m es l w.lines w.valued;
            body = ap number (body-values m es l b ∙ values-pass F es 5 w.valued);
            rules = rules;
          }))
          ∙ rules
