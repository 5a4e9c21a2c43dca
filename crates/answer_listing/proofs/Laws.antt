-- The mathematics of a row: a status without its issuer, the codes one after the other, and the fields in a line that has room for them.
-- Assumes nothing.
use Prim.Native.Nat.{ℕ, zero, suc, ◌+◌, ◌-◌, ◌≤◌, ◌<◌}
use mathlib.Core.Path.{◌≡◌, refl, sym, ap, ◌∙◌}
use mathlib.Core.Bool.{Bool, true, false, cond}
use mathlib.Core.List.{List, [], ◌∷◌, ◌++◌, map, flatten, append-nil}
use native.Mathlib.Nat.{not-suc-le-zero, le_of_suc-le-suc}
use native.Mathlib.Numerals.{add-one}
use native.Mathlib.Omega.{arith}
use lib.Dec.{eqb}
use lib.ListN.{length, take, drop, get_or, replicate, length-append, length-take, length-drop}
use borrow.Author.Tests.{eq-eqb, ne_eqb, lt-ltb, le-ltb}
use Rattle.text.specs.Bytes.{bytes}
use Rattle.text.specs.Texts.{contents, text_of}
use Rattle.text.specs.Copy.{over, fits, placed}
use Rattle.text.specs.Texts.{Text}
use Rattle.text.proofs.Codes.{contents-short}
use Rattle.text.proofs.Laws.{rest_of, contents-of, length-placed}
use Rattle.status.specs.Statuses.{status_text}
use Rattle.status.specs.declared.Status.{Status}
use Rattle.answer_values.proofs.Widths.{status-most}
use Rattle.answer.specs.Records.{no_reason, reason_at}
use Rattle.answer.specs.declared.Reason.{Reason}
use Rattle.answer.specs.declared.Answer.{Answer}
use Rattle.format.specs.declared.Reading.{Reading}
use Rattle.fill.specs.Runs.{over_run, behind_run}
use Rattle.fill.proofs.Runs.{Put, Run, one, measured, in-front, length_run, whole, over-append, behind-append, flat_append}
use Rattle.listing.specs.Rows.{spaced, decimal, shown}
use Rattle.answer_listing.specs.Rows.{without_issuer, codes_of, standing, joined, told, untold, fields_of, printed_row}
use Rattle.answer_listing.specs.Composed.{fields_in, linked, unlinked, front_of, code_parts, or_none, reason_parts, number_parts, told_parts, parts_of}
use Rattle.answer_listing.specs.declared.Row.{Row}

-- ---- a status without its issuer

pub short_none : (v : List ℕ) → length v < 4 → (t : Text) → contents t ≡ bytes "-" → contents t ≡ without_issuer v
unfolding without_issuer
short_none v h t e = rw (lt-ltb (length v) 4 h) e

-- four bytes, `/` and four bytes
nine : (a b : List ℕ) → length a ≡ 4 → length b ≡ 4 → placed (placed (replicate {A = ℕ} 9 47) 0 a) 5 b ≡ a ++ (47 ∷ b)
unfolding placed fits over
nine (a ∷ b ∷ c ∷ d ∷ []) (e ∷ f ∷ g ∷ h ∷ []) l m = refl
nine [] b l m = absurd (omega arith)
nine (a ∷ []) b l m = absurd (omega arith)
nine (a ∷ b ∷ []) d l m = absurd (omega arith)
nine (a ∷ b ∷ c ∷ []) d l m = absurd (omega arith)
nine (a ∷ b ∷ c ∷ d ∷ e ∷ f) g l m = absurd (omega arith)
nine (a ∷ b ∷ c ∷ d ∷ []) [] l m = absurd (omega arith)
nine (a ∷ b ∷ c ∷ d ∷ []) (e ∷ []) l m = absurd (omega arith)
nine (a ∷ b ∷ c ∷ d ∷ []) (e ∷ f ∷ []) l m = absurd (omega arith)
nine (a ∷ b ∷ c ∷ d ∷ []) (e ∷ f ∷ g ∷ []) l m = absurd (omega arith)
nine (a ∷ b ∷ c ∷ d ∷ []) (e ∷ f ∷ g ∷ h ∷ i ∷ j) l m = absurd (omega arith)

pub short-is : (v : List ℕ) → 4 ≤ length v → (one two : List ℕ) → one ≡ placed (replicate {A = ℕ} 9 47) 0 (take 4 v)
    → two ≡ placed one 5 (take (length v - (length v - 4)) (drop (length v - 4) v)) → (t : Text) → t ≡ text_of two → contents t ≡ without_issuer v
unfolding without_issuer bytes
short-is v h one two e f t g =
    let d : take (length v - (length v - 4)) (drop (length v - 4) v) ≡ drop (length v - 4) v = rest_of (length v - 4) (length v) v refl in
    let la : length (take 4 v) ≡ 4 = rw length-take (omega arith) in
    let lb : length (drop (length v - 4) v) ≡ 4 = rw length-drop (omega arith) in
    let s : two ≡ take 4 v ++ (47 ∷ drop (length v - 4) v) = f ∙ rw (e, d) (nine (take 4 v) (drop (length v - 4) v) la lb) in
    let n : length (take 4 v ++ (47 ∷ drop (length v - 4) v)) ≤ 20 = rw length-append (omega arith) in
    rw (le-ltb (length v) 4 h) (ap contents g ∙ ap (λ (x : List ℕ). contents (text_of x)) s ∙ contents-of (take 4 v ++ (47 ∷ drop (length v - 4) v)) n)

-- what was put into fourteen bytes stands in front of them
module _ (status : Status) {e : ℕ} {now : List ℕ} (put : Put (replicate {A = ℕ} 14 0) 0 (status_text status) e now) where
  pub value-is : take e now ≡ status_text status
  value-is = in-front (replicate {A = ℕ} 14 0) (status_text status) put (status-most status)

  pub value-within : (e ≤ 14) × (length now ≡ 14)
  value-within =
      let h = status-most status in
      let m = measured (replicate {A = ℕ} 14 0) (status_text status) put.0 h in
      (omega arith, ap length put.1 ∙ length-placed (replicate {A = ℕ} 14 0) 0 (status_text status))

-- ---- the codes, one after the other

abbrev code : Reason → List ℕ
code r = contents r.code

-- those from a number on
abbrev pub codes_from : Answer → ℕ → List (List ℕ)
codes_from a n = drop n (codes_of a)

drop-map : {A B : Type 0} (f : A → B) (l : List A) (d : A) (n : ℕ) → n < length l → drop n (map f l) ≡ f (get_or l n d) ∷ drop (suc n) (map f l)
drop-map f [] d n h = absurd (not-suc-le-zero h)
drop-map f (x ∷ l) d zero h = refl
drop-map f (x ∷ l) d (suc n) h = drop-map f l d n (le_of_suc-le-suc h)

filled : (t : Text) → length t.bytes ≡ 20 → (t.len ≡ 0 → ⊥) → 0 < length (contents t)
unfolding contents
filled t l n = let k = length-take t.len t.bytes in omega arith

drop_all : {A B : Type 0} (f : A → B) (l : List A) (n : ℕ) → length l ≤ n → drop n (map f l) ≡ []
drop_all f [] zero h = refl
drop_all f [] (suc n) h = refl
drop_all f (x ∷ l) zero h = absurd (not-suc-le-zero h)
drop_all f (x ∷ l) (suc n) h = drop_all f l n (le_of_suc-le-suc h)

module _ (a : Answer) (long : length a.reasons ≡ 10) where
  pub code_at : (n : ℕ) → n < 10 → codes_from a n ≡ contents (reason_at a n).code ∷ codes_from a (n + 1)
  unfolding codes_of reason_at
  code_at n h = rw add-one (drop-map code a.reasons no_reason n (omega arith))

  module _ (between n : ℕ) (h : n < 10) (r : Reason) (is : r ≡ reason_at a n) where
    -- behind a code that is absent there is none
    pub none_left : r.code.len ≡ 0 → code_parts between (codes_from a n) ≡ []
    unfolding code_parts contents
    none_left e = rw (code_at n h, ← is, e)

    -- one that stands is put, and then the others
    pub some_left : length r.code.bytes ≡ 20 → (r.code.len ≡ 0 → ⊥) → code_parts between (codes_from a n) ≡ (between ∷ []) ∷ contents r.code ∷ code_parts 44 (codes_from a (n + 1))
    unfolding code_parts
    some_left l e = rw (code_at n h, ← is) (go (contents r.code) (filled r.code l e))
      where
        go : (s : List ℕ) → 0 < length s → code_parts between (s ∷ codes_from a (n + 1)) ≡ (between ∷ []) ∷ s ∷ code_parts 44 (codes_from a (n + 1))
        go [] h = absurd (omega arith)
        go (b ∷ s) h = refl

  -- behind the tenth there is none
  pub all_left : (between n : ℕ) → n ≡ 10 → code_parts between (codes_from a n) ≡ []
  unfolding code_parts codes_of
  all_left between n e = rw (drop_all code a.reasons n (omega arith))

pub none-long : {left : List (List ℕ)} → left ≡ [] → length (flatten left) ≡ 0
unfolding flatten
none-long e = rw e

-- ---- parts that are put while others are left

-- to put all into the first buffer is to put what is left into this one
abbrev pub Going : List ℕ → ℕ → List (List ℕ) → List ℕ → ℕ → List (List ℕ) → Type 0
Going line₀ at all line end left = (behind_run line₀ at all ≡ behind_run line end left) × (over_run line₀ at all ≡ over_run line end left)

module _ (line₀ : List ℕ) (at : ℕ) (all : List (List ℕ)) (line : List ℕ) (end : ℕ) {left : List (List ℕ)} (g : Going line₀ at all line end left) where
  pub gone : left ≡ [] → Run line₀ at all end line
  unfolding behind_run over_run
  gone e = (sym (g.0 ∙ rw e), sym (g.1 ∙ rw e))

  pub go_on : (s t : List ℕ) (rest : List (List ℕ)) → left ≡ s ∷ t ∷ rest → {e : ℕ} {now : List ℕ} → Run line end (s ∷ t ∷ []) e now → Going line₀ at all now e rest
  go_on s t rest e p =
      (g.0 ∙ rw (e, p.0, p.1) (behind-append (s ∷ t ∷ []) rest line end), g.1 ∙ rw (e, p.0, p.1) (over-append (s ∷ t ∷ []) rest line end))

-- a code takes twenty bytes, and the one before it
pub one_more : (b : ℕ) (t : Text) (rest : List (List ℕ)) → length t.bytes ≡ 20 → {left : List (List ℕ)} → left ≡ (b ∷ []) ∷ contents t ∷ rest → length (flatten left) ≤ 21 + length (flatten rest)
unfolding flatten
one_more b t rest l e = rw e (let h = contents-short t l in let k = length-append (contents t) (flatten rest) in omega arith)

-- ---- the field of the reasons

abbrev pub reasons_field : Reading Answer → List ℕ
reasons_field r = cond (eqb r.number 0) (shown (joined (standing (codes_of r.held)))) (bytes "-")

joins : (b : ℕ) (s : List ℕ) (cs : List (List ℕ)) → joined ((b ∷ s) ∷ standing cs) ≡ (b ∷ s) ++ flatten (code_parts 44 cs)
unfolding joined standing code_parts flatten bytes
joins b s [] = sym (append-nil (b ∷ s))
joins b s ([] ∷ cs) = sym (append-nil (b ∷ s))
joins b s ((c ∷ t) ∷ cs) = rw (joins c t cs)

field_is : (accepted : Bool) (cs : List (List ℕ))
    → flatten (cond accepted (or_none (code_parts 32 cs)) (bytes " -" ∷ [])) ≡ bytes " " ++ cond accepted (shown (joined (standing cs))) (bytes "-")
unfolding joined standing code_parts or_none flatten bytes shown
field_is false cs = refl
field_is true [] = refl
field_is true ([] ∷ cs) = refl
field_is true ((b ∷ s) ∷ cs) = rw (joins b s cs)

reasons-are : (r : Reading Answer) → flatten (reason_parts r ++ (bytes "\n" ∷ [])) ≡ bytes " " ++ (reasons_field r ++ bytes "\n")
unfolding reason_parts flatten bytes
reasons-are r = flat_append (reason_parts r) (bytes "\n" ∷ []) ∙ rw (field_is (eqb r.number 0) (codes_of r.held))

module _ (r : Reading Answer) where
  pub refused-parts : (r.number ≡ 0 → ⊥) → reason_parts r ≡ bytes " -" ∷ []
  unfolding reason_parts
  refused-parts n = rw (ne_eqb r.number 0 n)

  pub none-parts : (r.number ≡ 0) → code_parts 32 (codes_of r.held) ≡ [] → reason_parts r ≡ bytes " -" ∷ []
  unfolding reason_parts or_none
  none-parts z e = rw (eq-eqb r.number 0 z, e)

  pub some-parts : (r.number ≡ 0) → {s : List ℕ} {ss : List (List ℕ)} → code_parts 32 (codes_of r.held) ≡ s ∷ ss → code_parts 32 (codes_of r.held) ≡ reason_parts r
  unfolding reason_parts or_none
  some-parts z e = rw (eq-eqb r.number 0 z, e)

  -- ` -` was put
  pub none-put : reason_parts r ≡ bytes " -" ∷ [] → (line : List ℕ) (at : ℕ) {e : ℕ} {now : List ℕ} → Put line at (bytes " -") e now
      → (e ≡ behind_run line at (reason_parts r)) × (now ≡ over_run line at (reason_parts r)) × (length (flatten (reason_parts r)) ≤ 210)
  unfolding flatten bytes
  none-put is line at p = let o = one line at (bytes " -") p in rw is (o.0, o.1, omega arith)

-- ---- the fields in a line

-- the parts of a row are its fields, spaced
pub parts_are : (row : Row) (r : Reading Answer) → flatten (parts_of row r) ≡ spaced (fields_in row ++ (reasons_field r ∷ []))
unfolding flatten number_parts told_parts parts_of fields_in spaced bytes
parts_are row r = rw (reasons-are r)

-- no text has more than twenty bytes
pub record Short (row : Row) : Type 0 where
  pub message : length row.message.bytes ≡ 20
  pub number : length row.number.bytes ≡ 20
  pub line : length row.line.bytes ≡ 20
  pub status : length row.status.bytes ≡ 20
  pub mast : length row.mast.bytes ≡ 20
  pub list : length row.list.bytes ≡ 20
  pub rela : length row.rela.bytes ≡ 20

-- so that each field takes twenty bytes, and the one behind it
pub row-short : (row : Row) (r : Reading Answer) → Short row → length (flatten (reason_parts r)) ≤ 210 → length (flatten (parts_of row r)) ≤ 357
unfolding flatten number_parts told_parts parts_of bytes
row-short row r s h =
    more row.message _ s.message
    (more row.number _ s.number
    (more row.line _ s.line
    (more row.status _ s.status
    (more row.mast _ s.mast
    (more row.list _ s.list (last row.rela s.rela))))))
  where
    last : (t : Text) → length t.bytes ≡ 20 → length (contents t ++ flatten (reason_parts r ++ (bytes "\n" ∷ []))) ≤ 231
    last t e =
        let l = contents-short t e in
        let k = ap length (flat_append (reason_parts r) (bytes "\n" ∷ [])) ∙ length-append (flatten (reason_parts r)) (flatten (bytes "\n" ∷ [])) in
        rw length-append (omega arith)

    more : (t : Text) {k : ℕ} (s : List ℕ) → length t.bytes ≡ 20 → length s ≤ k → length (contents t ++ (bytes " " ++ s)) ≤ 21 + k
    more t s e h = let l = contents-short t e in rw length-append (omega arith)

-- the fields of a reading, its reasons by themselves
fields-are : (message : ℕ) (r : Reading Answer) → front_of message r ++ (reasons_field r ∷ []) ≡ fields_of message r
unfolding front_of fields_of linked unlinked told untold
fields-are message r = rw (go (eqb r.number 0))
  where
    go : (b : Bool) → cond b (linked r.held) unlinked ++ (cond b (shown (joined (standing (codes_of r.held)))) (bytes "-") ∷ []) ≡ cond b (told r.held) untold
    go true = refl
    go false = refl

-- what was composed in a line of that length stands in front of it, and is the row
module _ (message : ℕ) (r : Reading Answer) (row : Row) (is : fields_in row ≡ front_of message r) (line : List ℕ) (long : length line ≡ 357)
    {e : ℕ} {now : List ℕ} (run : Run line 0 (parts_of row r) e now) (short : length (flatten (parts_of row r)) ≤ 357) where
  row_is : flatten (parts_of row r) ≡ printed_row message r
  unfolding printed_row
  row_is = parts_are row r ∙ ap (λ (fs : List (List ℕ)). spaced (fs ++ (reasons_field r ∷ []))) is ∙ ap spaced (fields-are message r)

  put_whole : Put line 0 (flatten (parts_of row r)) e now
  put_whole = whole (parts_of row r) line 0 run (omega arith)

  pub ends-within : e ≤ 357
  ends-within = let m = measured line (flatten (parts_of row r)) put_whole.0 (omega arith) in omega arith

  pub now-long : length now ≡ 357
  now-long = ap length run.1 ∙ length_run (parts_of row r) line 0 ∙ long

  pub stands : take e now ≡ printed_row message r
  stands = in-front line (flatten (parts_of row r)) put_whole (omega arith) ∙ row_is

  pub row-most : length (printed_row message r) ≤ 357
  row-most = let l = ap length row_is in omega arith

-- ---- the fields in front of the reasons, of a reading

module _ (message : ℕ) (r : Reading Answer) (row : Row) (one : contents row.message ≡ decimal message)
    (two : contents row.number ≡ decimal r.number) (three : contents row.line ≡ decimal r.line) where
  pub refused-is : (r.number ≡ 0 → ⊥) → contents row.status ≡ bytes "-" → contents row.mast ≡ bytes "-" → contents row.list ≡ bytes "-" → contents row.rela ≡ bytes "-"
      → fields_in row ≡ front_of message r
  unfolding fields_in front_of unlinked
  refused-is n s m l e = rw (ne_eqb r.number 0 n, one, two, three, s, m, l, e)

  pub told_is : (r.number ≡ 0) → contents row.status ≡ without_issuer (status_text r.held.status) → contents row.mast ≡ shown (contents r.held.mast)
      → contents row.list ≡ shown (contents r.held.list) → contents row.rela ≡ shown (contents r.held.rela) → fields_in row ≡ front_of message r
  unfolding fields_in front_of linked
  told_is z s m l e = rw (eq-eqb r.number 0 z, one, two, three, s, m, l, e)
