-- The mathematics of a row: a number's text, a field that is absent, and the seven fields in a line that has room for them.
-- Assumes nothing.
use Prim.Native.Nat.{ℕ, ◌+◌, ◌-◌, ◌≤◌, ◌<◌}
use mathlib.Core.Path.{◌≡◌, refl, sym, ap, ◌∙◌}
use mathlib.Core.List.{List, [], ◌∷◌, ◌++◌, flatten}
use native.Mathlib.Omega.{arith}
use lib.ListN.{length, take, drop, replicate, length-append, length-take, length-drop}
use borrow.Author.Tests.{eq-eqb, ne_eqb}
use Rattle.text.specs.Bytes.{bytes}
use Rattle.text.specs.Texts.{contents, text_of}
use Rattle.text.specs.Copy.{placed}
use Rattle.text.specs.Texts.{Text}
use Rattle.text.proofs.Codes.{contents-short}
use Rattle.text.proofs.Laws.{placed-all, rest_of, contents-of}
use Rattle.digits.specs.Numerals.{digits}
use Rattle.digits.proofs.Laws.{length_digits}
use Rattle.amount.specs.Amounts.{trimmed, noughts}
use Rattle.amount.proofs.Trims.{trimmed-drop, noughts-length}
use Rattle.trade.specs.declared.Kind.{Kind}
use Rattle.values.specs.Values.{kind_word}
use Rattle.values.proofs.Widths.{kind-four}
use Rattle.trade.specs.declared.Trade.{Trade}
use Rattle.format.specs.declared.Reading.{Reading}
use Rattle.fill.proofs.Runs.{Put, Run, two, measured, in-front, length_run, whole}
use Rattle.listing.specs.Rows.{spaced, decimal, shown, shown_text, told, untold, fields_of, printed_row}
use Rattle.listing.specs.Composed.{fields_in, parts_of}
use Rattle.listing.specs.declared.Row.{Row}

-- ---- a number

module _ (n : ℕ) (all : List ℕ) (put : all ≡ placed (replicate {A = ℕ} 20 48) 0 (digits 20 n)) where
  all-is : all ≡ digits 20 n
  all-is = put ∙ placed-all (replicate {A = ℕ} 20 48) (digits 20 n) (length_digits 20 n)

  pub all-long : length all ≡ 20
  all-long = ap length all-is ∙ length_digits 20 n

  module _ (k : ℕ) (lead : k ≡ noughts (take 19 all)) where
    pub lead-within : k ≤ 20
    lead-within =
        let h = noughts-length (take 19 all) in
        let l = length-take 19 all in
        omega arith

    pub number_is : (t : Text) → t ≡ text_of (take (20 - k) (drop k all)) → (t ≡ text_of (decimal n)) × (contents t ≡ decimal n)
    unfolding decimal
    number_is t e =
        let l = all-long in
        let d : take (20 - k) (drop k all) ≡ drop k all = rest_of k 20 all l in
        let short : length (drop k all) ≤ 20 = rw length-drop (omega arith) in
        let one : length all - 1 ≡ 19 = omega arith in
        let m : trimmed all ≡ drop k all = trimmed-drop all ∙ ap (λ (i : ℕ). drop (noughts (take i all)) all) one ∙ ap (λ (i : ℕ). drop i all) (sym lead) in
        let is : drop k all ≡ trimmed (digits 20 n) = sym m ∙ ap trimmed all-is in
        (e ∙ ap text_of (d ∙ is), ap contents e ∙ ap (λ (s : List ℕ). contents (text_of s)) d ∙ contents-of (drop k all) short ∙ is)

-- ---- what is absent

pub none_is : (t : Text) → t ≡ text_of (bytes "-") → contents t ≡ bytes "-"
unfolding bytes
none_is t e = ap contents e ∙ contents-of (bytes "-") (omega arith)

pub shown-none : (t : Text) → t.len ≡ 0 → shown (contents t) ≡ bytes "-"
unfolding shown contents
shown-none t e = rw e

pub shown-some : (t : Text) → length t.bytes ≡ 20 → (t.len ≡ 0 → ⊥) → contents t ≡ shown (contents t)
unfolding shown contents
shown-some t l n =
    let k = length-take t.len t.bytes in
    go (take t.len t.bytes) (omega arith)
  where
    go : (s : List ℕ) → 0 < length s → s ≡ shown s
    go [] h = absurd (omega arith)
    go (b ∷ s) h = refl

pub text-none : (t : Text) → t.len ≡ 0 → text_of (bytes "-") ≡ shown_text t
unfolding shown_text
text-none t e = rw (eq-eqb t.len 0 e)

pub text-some : (t : Text) → (t.len ≡ 0 → ⊥) → t ≡ shown_text t
unfolding shown_text
text-some t n = rw (ne_eqb t.len 0 n)

-- ---- the kind

pub kind-is : (k : Kind) (w : List ℕ) → w ≡ kind_word k → contents (text_of w) ≡ kind_word k
kind-is k w e = rw e (contents-of (kind_word k) (let h = kind-four k in omega arith))

-- ---- the seven fields in a line

-- the parts of a row are its fields, spaced
pub parts_are : (row : Row) → flatten (parts_of row) ≡ spaced (fields_in row)
unfolding flatten parts_of fields_in spaced bytes
parts_are row = refl

-- no text has more than twenty bytes
pub record Short (row : Row) : Type 0 where
  pub message : length row.message.bytes ≡ 20
  pub number : length row.number.bytes ≡ 20
  pub line : length row.line.bytes ≡ 20
  pub kind : length row.kind.bytes ≡ 20
  pub mast : length row.mast.bytes ≡ 20
  pub buyer : length row.buyer.bytes ≡ 20
  pub seller : length row.seller.bytes ≡ 20

-- so that each field takes twenty bytes, and the one behind it
pub row-short : (row : Row) → Short row → length (spaced (fields_in row)) ≤ 147
unfolding fields_in spaced bytes
row-short row s =
    more row.message _ s.message
    (more row.number _ s.number
    (more row.line _ s.line
    (more row.kind _ s.kind
    (more row.mast _ s.mast
    (more row.buyer _ s.buyer (last row.seller s.seller))))))
  where
    last : (t : Text) → length t.bytes ≡ 20 → length (contents t ++ bytes "\n") ≤ 21
    last t e = let h = contents-short t e in rw length-append (omega arith)

    more : (t : Text) {k : ℕ} (s : List ℕ) → length t.bytes ≡ 20 → length s ≤ k → length (contents t ++ (bytes " " ++ s)) ≤ 21 + k
    more t s e h = let l = contents-short t e in rw length-append (omega arith)

-- what was composed in a line of that length stands in front of it, and is the row
module _ (message : ℕ) (r : Reading Trade) (row : Row) (is : fields_in row ≡ fields_of message r) (line : List ℕ) (long : length line ≡ 147)
    {e : ℕ} {now : List ℕ} (run : Run line 0 (parts_of row) e now) (short : length (spaced (fields_in row)) ≤ 147) where
  row_is : spaced (fields_in row) ≡ printed_row message r
  unfolding printed_row
  row_is = ap spaced is

  put_whole : Put line 0 (spaced (fields_in row)) e now
  put_whole =
      let p = parts_are row in
      let l = ap length p in
      let w = whole (parts_of row) line 0 run (omega arith) in
      (w.0 ∙ rw p, w.1 ∙ rw p)

  pub ends-within : e ≤ 147
  ends-within = let m = measured line (spaced (fields_in row)) put_whole.0 (omega arith) in omega arith

  pub now-long : length now ≡ 147
  now-long = ap length run.1 ∙ length_run (parts_of row) line 0 ∙ long

  pub stands : take e now ≡ printed_row message r
  stands = in-front line (spaced (fields_in row)) put_whole (omega arith) ∙ row_is

  pub row-most : length (printed_row message r) ≤ 147
  row-most = let l = ap length row_is in omega arith

-- ---- the fields of a reading

module _ (message : ℕ) (r : Reading Trade) (row : Row) (one : contents row.message ≡ decimal message)
    (two : contents row.number ≡ decimal r.number) (three : contents row.line ≡ decimal r.line) where
  pub refused-is : (r.number ≡ 0 → ⊥) → contents row.kind ≡ bytes "-" → contents row.mast ≡ bytes "-" → contents row.buyer ≡ bytes "-" → contents row.seller ≡ bytes "-"
      → fields_in row ≡ fields_of message r
  unfolding fields_in fields_of untold
  refused-is n k m b s = rw (ne_eqb r.number 0 n, one, two, three, k, m, b, s)

  pub told_is : (r.number ≡ 0) → contents row.kind ≡ kind_word r.held.kind → contents row.mast ≡ shown (contents r.held.mast)
      → contents row.buyer ≡ shown (contents r.held.buyer.code) → contents row.seller ≡ shown (contents r.held.seller.code) → fields_in row ≡ fields_of message r
  unfolding fields_in fields_of told
  told_is z k m b s = rw (eq-eqb r.number 0 z, one, two, three, k, m, b, s)
