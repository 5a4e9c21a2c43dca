-- Two message types that differ in the form of one slot, and in the test of records: the passes before the values look at no form but those
-- of the header, a slot has one line at most, and all else rests on fixed texts, which are the same.
-- Assumes nothing.
use Prim.Native.Nat.{ℕ, suc}
use mathlib.Core.Path.{◌≡◌, refl, ap, fun_ext, ◌∙◌}
use mathlib.Core.Bool.{Bool, true, false, not, cond}
use mathlib.Core.List.{List, [], ◌∷◌}
use lib.Dec.{eqb}
use lib.ListN.{length, drop, get_or}
use borrow.Author.Tests.{eqb-true}
use Rattle.text.specs.Bytes.{bytes}
use Rattle.text.proofs.Bools.{or_left, or_right}
use Rattle.lines.specs.Verdicts.{then, when}
use Rattle.lines.specs.Lines.{lines_of, lines_pass}
use Rattle.lines.specs.declared.Verdict.{Verdict}
use Rattle.blocks.specs.Blocks.{nest_pass}
use Rattle.forms.specs.Forms.{Form, form_number, value_number}
use Rattle.layout.specs.Layout.{Run, refused_at, taken, Taken}
use Rattle.sheets.specs.Sheets.{Entry, edge, item, has}
use Rattle.sheets.specs.Filled.{value_in}
use Rattle.sheets.proofs.Accepts.{taken_on}
use Rattle.sheets.proofs.Cuts.{cuts}
use Rattle.sheets.proofs.Once.{slots_held, Once, comes-once}
use Rattle.walk.specs.Walk.{value_verdict, values_pass, body_pass, taken_in, value_from}
use Rattle.reader.specs.Header.{head_verdict, head_pass, head_value}
use Rattle.format.specs.Format.{Format, optional}
use Rattle.format.specs.Reading.{reading, body_of, value_on, rules_of, verdict_of, read_of}
use Rattle.format.specs.Lawful.{said_in}
use Rattle.format.specs.Writing.{behind_in, head_line, lines_for, message_of, judge_of, write_number, write_length, written_over}
use Rattle.format.specs.Plain.{plain_lines, plain_of}
use Rattle.format.specs.Asking.{room_pass, ask_verdict, ask_length, asked_over}
use Rattle.format.specs.Field.{asked, line_for, front_of, field_of, span_in}
use Rattle.format.specs.Outline.{line_start, line_end, start_in, end_in, starts_in, ends_in}
use Rattle.format.specs.OtherForm.{with_form, value_for, SameAnswers, AsWith, SameWrites, WrittenAsWith}
use Rattle.format.proofs.Laws.{Layout}
use Rattle.format.proofs.Said.{said-is}
use Rattle.format.proofs.Accepting.{Cut, cut}

-- what follows a pass counts only where it finds nothing wrong
then_same : (v w x : Verdict) → (v.number ≡ 0 → w ≡ x) → then v w ≡ then v x
unfolding then
then_same v w x h = on (eqb v.number 0) refl
  where
    on : (b : Bool) → eqb v.number 0 ≡ b → cond b w v ≡ cond b x v
    on true e = h (eqb-true v.number 0 e)
    on false e = refl

module _ (F : Format) (slot : ℕ) (form : Form) (in_form : F.Held → Bool) where
  abbrev G : Format
  G = with_form F slot form in_form

  -- both forms give a value the same number
  abbrev Alike : List ℕ → Type 0
  Alike v = form_number (F.slot_of slot).form v ≡ form_number form v

  -- ---- the values, which stand behind the fixed texts

  head-value : (v : List ℕ) (hs : List ℕ) (ls : List (List ℕ)) (s : ℕ) → head_value F.slot_of v hs ls s ≡ head_value G.slot_of v hs ls s
  unfolding head_value
  head-value v [] ls s = refl
  head-value v (h ∷ hs) ls s = head-value (cond (eqb h s) (drop (length (F.slot_of h).fixed) (get_or ls 0 [])) v) hs (drop 1 ls) s

  value-from : (v : List ℕ) (s : ℕ) (ts : List Taken) → value_from F.slot_of v s ts ≡ value_from G.slot_of v s ts
  unfolding value_from
  value-from v s [] = refl
  value-from v s (t ∷ ts) = value-from (cond (eqb t.slot s) (drop (length (F.slot_of s).fixed) t.value) v) s ts

  values-are : (m : List ℕ) (ts : List Taken) → value_on F m ts ≡ value_on G m ts
  unfolding value_on
  values-are m ts =
      fun_ext (λ s. ap (λ (v : List ℕ). value_from F.slot_of v s ts) (head-value [] F.header (lines_of m) s)
      ∙ value-from (head_value G.slot_of [] F.header (lines_of m) s) s ts)

  -- ---- the numbers of a line

  number-apart : (s : ℕ) (v : List ℕ) → eqb s slot ≡ false → value_number (F.slot_of s) v ≡ value_number (G.slot_of s) v
  unfolding value_number
  number-apart s v e = rw e

  number-own : (s : ℕ) (v : List ℕ) → eqb s slot ≡ true → Alike (drop (length (F.slot_of slot).fixed) v) → value_number (F.slot_of s) v ≡ value_number (G.slot_of s) v
  unfolding value_number
  number-own s v e a = rw (e, eqb-true s slot e, a)

  heads-same : (n : ℕ) (hs : List ℕ) (ls : List (List ℕ)) → has hs slot ≡ false → head_verdict F.slot_of n hs ls ≡ head_verdict G.slot_of n hs ls
  unfolding head_verdict has
  heads-same n [] ls e = refl
  heads-same n (h ∷ hs) ls e =
      rw (number-apart h (get_or ls 0 []) (or_left (eqb h slot) _ e), heads-same (suc n) hs (drop 1 ls) (or_right (eqb h slot) _ e))

  -- a line in front of others
  line_same : (s n : ℕ) (v : List ℕ) (w x : Verdict) → value_number (F.slot_of s) v ≡ value_number (G.slot_of s) v → w ≡ x
      → then (value_verdict F.slot_of (record { slot = s; line = n; value = v })) w ≡ then (value_verdict G.slot_of (record { slot = s; line = n; value = v })) x
  unfolding value_verdict
  line_same s n v w x e q = rw (e, q)

  values-apart : (es : List Entry) (n : ℕ) → has (slots_held es) slot ≡ false → values_pass F.slot_of (taken_on n es) ≡ values_pass G.slot_of (taken_on n es)
  unfolding taken_on values_pass slots_held has
  values-apart [] n e = refl
  values-apart (edge o ∷ es) n e = values-apart es (suc n) e
  values-apart (item s k v ∷ es) n e =
      line_same s n v _ _ (number-apart s v (or_left (eqb s slot) _ e)) (values-apart es (suc n) (or_right (eqb s slot) _ e))

  values_same : (es : List Entry) (n : ℕ) → Once es → Alike (drop (length (F.slot_of slot).fixed) (value_in es slot))
      → values_pass F.slot_of (taken_on n es) ≡ values_pass G.slot_of (taken_on n es)
  unfolding taken_on values_pass Once value_in
  values_same [] n h a = refl
  values_same (edge o ∷ es) n h a = values_same es (suc n) h a
  values_same (item s k v ∷ es) n h a = on (λ q. values_same es (suc n) h.1 q) (eqb s slot) refl a
    where
      on : (Alike (drop (length (F.slot_of slot).fixed) (value_in es slot)) → values_pass F.slot_of (taken_on (suc n) es) ≡ values_pass G.slot_of (taken_on (suc n) es))
          → (b : Bool) → eqb s slot ≡ b → Alike (drop (length (F.slot_of slot).fixed) (cond b v (value_in es slot)))
          → then (value_verdict F.slot_of (record { slot = s; line = n; value = v })) (values_pass F.slot_of (taken_on (suc n) es))
          ≡ then (value_verdict G.slot_of (record { slot = s; line = n; value = v })) (values_pass G.slot_of (taken_on (suc n) es))
      on ih true e q = line_same s n v _ _ (number-own s v e q) (values-apart es (suc n) (rw (eqb-true s slot e) at h.0))
      on ih false e q = line_same s n v _ _ (number-apart s v e) (ih q)

  module _ (L : Layout F) (apart : has F.header slot ≡ false) where
    -- ---- the passes in their order

    -- the lines that the layout takes are a sheet's
    run-same : (m : List ℕ) → Cut F L m → (run : Run) → body_of F m ≡ run → Alike (value_on F m (taken_in run) slot) → body_pass F.slot_of run ≡ body_pass G.slot_of run
    unfolding body_of body_pass taken_in said_in
    run-same m c (refused_at k n) e a = refl
    run-same m c (taken ts) e a =
        let (es, q, r, l) = cuts F.tree (bytes "-") c.early 5 ts L.good L.ends_at (rw (← c.body) e) in
        let said : Alike (drop (length (F.slot_of slot).fixed) (value_in es slot)) = rw (r, said-is F L m es 5 slot l, apart) at a in
        rw r (values_same es 5 (comes-once l L.is-sole) said)

    module _ (m : List ℕ) (a : Alike (value_for F slot m)) where
      head-same : head_pass F.slot_of F.header m ≡ head_pass G.slot_of F.header m
      unfolding head_pass
      head-same = heads-same 1 F.header (lines_of m) apart

      body_same : (lines_pass m).number ≡ 0 → (head_pass F.slot_of F.header m).number ≡ 0 → body_pass F.slot_of (body_of F m) ≡ body_pass G.slot_of (body_of F m)
      unfolding value_for
      body_same t h = run-same m (cut F L m t h) (body_of F m) refl a

      value_same : value_on F m (taken_in (body_of F m)) ≡ value_on G m (taken_in (body_of F m))
      value_same = values-are m (taken_in (body_of F m))

      verdict-same : verdict_of F m ≡ verdict_of G m
      unfolding verdict_of body_of rules_of
      verdict-same =
          let rules : rules_of F (value_on F m (taken_in (body_of F m))) ≡ rules_of G (value_on G m (taken_in (body_of F m))) = ap (rules_of F) value_same in
          then_same (lines_pass m) _ _
          (λ t. rw (← head-same)
          (then_same (head_pass F.slot_of F.header m) _ _
          (λ h. ap (then (nest_pass m)) (rw (← (body_same t h)) (ap (then (body_pass F.slot_of (body_of F m))) rules)))))

      read_same : read_of F m ≡ read_of G m
      unfolding read_of body_of
      read_same = rw (← verdict-same) (ap (λ (value : ℕ → List ℕ). reading F.blank (verdict_of F m) (F.record_of value)) value_same)

      -- ---- every answer

      plain-same : plain_of F m ≡ plain_of G m
      unfolding plain_of plain_lines
      plain-same = refl

      ask-same : (room : ℕ) → ask_verdict F m room ≡ ask_verdict G m room
      unfolding ask_verdict room_pass plain_of plain_lines
      ask-same room = rw verdict-same

      length-same : (room : ℕ) → ask_length F m room ≡ ask_length G m room
      unfolding ask_length plain_of plain_lines
      length-same room = rw (ask-same room)

      over-same : (buf : List ℕ) → asked_over F m buf ≡ asked_over G m buf
      unfolding asked_over plain_of plain_lines
      over-same buf = rw (ask-same (length buf))

      line-for : (s : ℕ) → line_for F m s ≡ line_for G m s
      unfolding line_for asked body_of
      line-for s = rw read_same

      field-same : (s : ℕ) → field_of F m s ≡ field_of G m s
      unfolding field_of front_of
      field-same s = rw (line-for s)

      span_same : (s : ℕ) → span_in F m s ≡ span_in G m s
      unfolding span_in front_of
      span_same s = rw (line-for s)

      start-same : (k s : ℕ) → start_in F k m s ≡ start_in G k m s
      unfolding start_in line_start
      start-same k s = rw (read_same, span_same s)

      end_same : (k s : ℕ) → end_in F k m s ≡ end_in G k m s
      unfolding end_in line_end
      end_same k s = rw (read_same, span_same s)

      starts-same : (k : ℕ) → starts_in F k m ≡ starts_in G k m
      unfolding starts_in
      starts-same k = rw (fun_ext (start-same k))

      ends_same : (k : ℕ) → ends_in F k m ≡ ends_in G k m
      unfolding ends_in
      ends_same k = rw (fun_ext (end_same k))

      same-answers : SameAnswers F slot form in_form m
      same-answers =
          record {
            verdict = verdict-same;
            read = read_same;
            plain = plain-same;
            plain-verdict = ask-same;
            plain-length = length-same;
            plain-buffer = over-same;
            field = field-same;
            span = span_same;
            starts = starts-same;
            ends = ends_same;
          }

    pub as-with : AsWith F slot form in_form
    as-with m a = same-answers m a

  -- ---- writing

  module _ (r : F.Held) (e : F.in_form r ≡ in_form r) where
    message-same : message_of F r ≡ message_of G r
    unfolding message_of lines_for head_line behind_in optional
    message-same = refl

    judge-same : judge_of F r ≡ judge_of G r
    unfolding judge_of
    judge-same = ap (λ (b : Bool). (then (when (not b) 18) (F.write_rules r)).number) e

    number_same : (room : ℕ) → write_number F r room ≡ write_number G r room
    unfolding write_number
    number_same room = rw (judge-same, message-same)

    same_writes : SameWrites F slot form in_form r
    unfolding write_length written_over
    same_writes =
        record {
          number = number_same;
          count = λ room. rw (number_same room, message-same);
          buffer = λ buf. rw (number_same (length buf), message-same);
        }

  pub written-as-with : WrittenAsWith F slot form in_form
  written-as-with r e = same_writes r e
