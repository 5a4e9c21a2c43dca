-- The numbers that an answer of any message type can have: each pass has its own, and the first pass that refuses decides.
-- Assumes nothing.
use Prim.Native.Nat.{ℕ, suc, ◌≤◌}
use native.Mathlib.Omega.{arith}
use mathlib.Core.Path.{◌≡◌, refl}
use mathlib.Core.Bool.{Bool, true, false, ◌&&◌, ◌||◌, not, cond}
use mathlib.Core.List.{List, [], ◌∷◌}
use lib.Dec.{leb, ltb, eqb}
use lib.ListN.{length, drop, get_or}
use borrow.Author.Tests.{leb-true}
use Rattle.std.proofs.Common.{Option, Some, None}
use Rattle.text.specs.Bytes.{bytes, begins, same}
use Rattle.lines.specs.Verdicts.{refused, pass, then, when}
use Rattle.lines.specs.Lines.{lines_of, ended, may_stand, size_pass, byte_pass, end_pass, lines_pass}
use Rattle.lines.specs.declared.Verdict.{Verdict}
use Rattle.blocks.specs.Blocks.{Turn, goes, stops, over, ending, opening, closing, turn, named, role_of, name_of, is_tagged, follow, nest, nest_pass}
use Rattle.amount.specs.Amounts.{amount_read, amount_number}
use Rattle.amount.specs.declared.Amount.{Amount}
use Rattle.calendar.specs.Dates.{date_read, date_number, moment_read, moment_number}
use Rattle.calendar.specs.declared.Date.{Date}
use Rattle.calendar.specs.declared.Moment.{Moment}
use Rattle.forms.specs.Forms.{Form, nothing, codes, characters, words, amount, date, moment, narrative, pool_narrative, other, Slot, is_word, unless, form_number, value_number}
use Rattle.text.specs.Classes.{is_all, is_code}
use Rattle.forms.specs.Narrative.{is_narrative}
use Rattle.forms.specs.Pool.{has_delivery, delivery_in, is_pool_shape, pool_number}
use Rattle.layout.specs.Layout.{Taken, Run, refused_at, taken}
use Rattle.sheets.proofs.Moves.{bars_pass, NumberedRun, numbered}
use Rattle.text.proofs.Bools.{of-both, or_case}
use Rattle.walk.specs.Walk.{value_verdict, values_pass, body_pass}
use Rattle.reader.specs.Header.{head_verdict, head_pass}
use Rattle.format.specs.Format.{Format}
use Rattle.format.specs.Reading.{body_of, rules_of, verdict_of}
use Rattle.format.specs.Writing.{message_of, judge_of, write_number}
use Rattle.format.specs.Plain.{plain_of}
use Rattle.format.specs.Asking.{room_pass, ask_verdict}

-- ---- a number up to another, and what holds of either of two

pub few : (n most : ℕ) → leb n most ≡ true → n ≤ most
few n most h = leb-true n most h

pub either : {A : Type 0} (P : A → Type 0) (b : Bool) {x y : A} → P x → P y → P (cond b x y)
either P b h k = of-both P b (λ _. h) (λ _. k)

abbrev pub Few : ℕ → Verdict → Type 0
Few most v = v.number ≤ most

pub then-few : (most : ℕ) (v w : Verdict) → Few most v → Few most w → Few most (then v w)
unfolding then
then-few most v w h k = either (Few most) (eqb v.number 0) k h

-- ---- 1 to 4

bytes-few : (n : ℕ) (s : List ℕ) → Few 12 (byte_pass n s)
unfolding byte_pass pass refused
bytes-few n [] = few _ _ refl
bytes-few n (b ∷ s) = either (Few 12) (may_stand b s) (bytes-few (cond (eqb b 10) (suc n) n) s) (few _ _ refl)

end-few : (e : Bool) (n : ℕ) (ls : List (List ℕ)) → Few 12 (end_pass e n ls)
unfolding end_pass pass refused
end-few e n [] = few _ _ refl
end-few e n (l ∷ []) = either (Few 12) (same (bytes "-") l && e) (few _ _ refl) (few _ _ refl)
end-few e n (l ∷ k ∷ ls) = either (Few 12) (same (bytes "-") l) (few _ _ refl) (end-few e (suc n) (k ∷ ls))

lines-few : (m : List ℕ) → Few 12 (lines_pass m)
unfolding lines_pass size_pass pass refused
lines-few m =
    then-few 12 (size_pass m) _ (either (Few 12) (leb 1 (length m) && leb (length m) 4096) (few _ _ refl) (few _ _ refl))
    (then-few 12 (byte_pass 1 m) _ (bytes-few 1 m) (end-few (ended m) 1 (lines_of m)))

header-few : (slot_of : ℕ → Slot) (n : ℕ) (hs : List ℕ) (ls : List (List ℕ)) → Few 12 (head_verdict slot_of n hs ls)
unfolding head_verdict pass refused
header-few slot_of n [] ls = few _ _ refl
header-few slot_of n (s ∷ hs) ls = either (Few 12) (eqb (value_number (slot_of s) (get_or ls 0 [])) 0) (header-few slot_of (suc n) hs (drop 1 ls)) (few _ _ refl)

-- ---- 5 to 7

abbrev FewTurn : Turn → Type 0
FewTurn (goes blocks) = Unit
FewTurn (stops number) = number ≤ 12
FewTurn over = Unit

ending-few : (blocks : List (List ℕ)) → FewTurn (ending blocks)
unfolding ending
ending-few [] = tt
ending-few (b ∷ blocks) = few _ _ refl

closing-few : (blocks : List (List ℕ)) (name : List ℕ) → FewTurn (closing blocks name)
unfolding closing
closing-few [] name = few _ _ refl
closing-few (b ∷ blocks) name = either FewTurn (same b name) tt (few _ _ refl)

opening-few : (blocks : List (List ℕ)) (name : List ℕ) → FewTurn (opening blocks name)
unfolding opening
opening-few blocks name = either FewTurn (ltb (length blocks) 8) tt (few _ _ refl)

turn-few : (l : List ℕ) (blocks : List (List ℕ)) → FewTurn (turn (role_of l) blocks (name_of l))
unfolding turn role_of named
turn-few l blocks =
    on (same (bytes "-") l) _ _ (ending-few blocks)
    (on (is_tagged l) _ _
    (on (begins (bytes ":16R:") l) _ _ (on (is_code 1 16 (name_of l)) _ _ (opening-few blocks (name_of l)) (few _ _ refl))
    (on (begins (bytes ":16S:") l) _ _ (on (is_code 1 16 (name_of l)) _ _ (closing-few blocks (name_of l)) (few _ _ refl)) tt))
    (few _ _ refl))
  where
    on : (b : Bool) (x y : _) → FewTurn (turn x blocks (name_of l)) → FewTurn (turn y blocks (name_of l)) → FewTurn (turn (cond b x y) blocks (name_of l))
    on true x y h k = h
    on false x y h k = k

follow-few : (n : ℕ) (t : Turn) (rest : List (List ℕ) → Verdict) → FewTurn t → ((blocks : List (List ℕ)) → Few 12 (rest blocks)) → Few 12 (follow n t rest)
unfolding follow pass refused
follow-few n (goes blocks) rest h k = k blocks
follow-few n (stops number) rest h k = h
follow-few n over rest h k = few _ _ refl

nest-few : (n : ℕ) (blocks ls : List (List ℕ)) → Few 12 (nest n blocks ls)
unfolding nest pass refused
nest-few n blocks [] = few _ _ refl
nest-few n blocks (l ∷ ls) =
    follow-few n (turn (role_of l) blocks (name_of l)) (λ next. nest (suc n) next ls) (turn-few l blocks) (λ next. nest-few (suc n) next ls)

-- ---- 10 to 12

abbrev FewOf : ℕ → Type 0
FewOf n = n ≤ 12

amount-few : (r : Option Amount) → FewOf (amount_number r)
amount-few (Some a) = few _ _ refl
amount-few None = few _ _ refl

date-few : (r : Option Date) → FewOf (date_number r)
date-few (Some d) = few _ _ refl
date-few None = few _ _ refl

moment-few : (r : Option Moment) → FewOf (moment_number r)
moment-few (Some m) = few _ _ refl
moment-few None = few _ _ refl

unless-few : (b : Bool) → FewOf (unless b)
unfolding unless
unless-few b = either FewOf b (few _ _ refl) (few _ _ refl)

pool-few : (v : List ℕ) → FewOf (pool_number v)
unfolding pool_number
pool-few v = either FewOf (is_pool_shape v) (either FewOf (has_delivery v) (date-few (date_read (delivery_in v))) (few _ _ refl)) (few _ _ refl)

form-few : (form : Form) (v : List ℕ) → FewOf (form_number form v)
unfolding form_number
form-few nothing v = unless-few (eqb (length v) 0)
form-few (codes least most) v = unless-few (is_code least most v)
form-few (characters class least most) v = unless-few (is_all class least most v)
form-few (words ws) v = unless-few (is_word ws v)
form-few amount v = amount-few (amount_read v)
form-few date v = date-few (date_read v)
form-few moment v = moment-few (moment_read v)
form-few narrative v = unless-few (is_narrative v)
form-few pool_narrative v = pool-few v
form-few other v = few _ _ refl

number-few : (slot : Slot) (v : List ℕ) → FewOf (value_number slot v)
unfolding value_number
number-few slot v = either FewOf (begins slot.fixed v) (form-few slot.form (drop (length slot.fixed) v)) (few _ _ refl)

values-few : (slot_of : ℕ → Slot) (ts : List Taken) → Few 12 (values_pass slot_of ts)
unfolding values_pass value_verdict pass refused
values-few slot_of [] = few _ _ refl
values-few slot_of (t ∷ ts) =
    then-few 12 (value_verdict slot_of t) (values_pass slot_of ts)
    (either (Few 12) (eqb (value_number (slot_of t.slot) t.value) 0) (few _ _ refl) (number-few (slot_of t.slot) t.value))
    (values-few slot_of ts)

-- ---- 8, 9 and those of the layout's bars, and then these

-- a test that numbers from 12 on may pass
unfoldable pub up_to : ℕ → ℕ → Bool
up_to most n = leb n 12 || leb n most

up-8 : (most : ℕ) → up_to most 8 ≡ true
unfolding up_to
up-8 most = refl

up-9 : (most : ℕ) → up_to most 9 ≡ true
unfolding up_to
up-9 most = refl

body-few : (most : ℕ) → 12 ≤ most → (slot_of : ℕ → Slot) (run : Run) → NumberedRun (up_to most) run → Few most (body_pass slot_of run)
unfolding body_pass refused up_to
body-few most h slot_of (refused_at number line) k =
    or_case (leb number 12) (leb number most) k (λ e. omega (arith, leb-true number 12 e)) (leb-true number most)
body-few most h slot_of (taken ts) k = let few = values-few slot_of ts in omega arith

-- ---- and all of them together

-- a rule has its number, or none
pub when-few : (b : Bool) (n most : ℕ) → n ≤ most → Few most (when b n)
unfolding when pass refused
when-few true n most h = h
when-few false n most h = omega arith

module _ (F : Format) where
  -- a read has a number of 1 to 12, or one of its layout's bars or of its rules
  pub read-few : (most : ℕ) → 12 ≤ most → bars_pass (up_to most) F.tree ≡ true → ((value : ℕ → List ℕ) (r : F.Held) → Few most (F.read_rules value r)) → (m : List ℕ) → Few most (verdict_of F m)
  unfolding verdict_of rules_of head_pass nest_pass body_of
  read-few most h b k m =
      let up : (n : ℕ) → n ≤ 12 → n ≤ most = λ n few. omega arith in
      then-few most (lines_pass m) _ (up _ (lines-few m))
      (then-few most (head_pass F.slot_of F.header m) _ (up _ (header-few F.slot_of 1 F.header (lines_of m)))
      (then-few most (nest_pass m) _ (up _ (nest-few 5 [] (drop 4 (lines_of m))))
      (then-few most (body_pass F.slot_of (body_of F m)) _ (body-few most h F.slot_of (body_of F m) (numbered (up_to most) (up-8 most) (up-9 most) F.tree 5 (drop 4 (lines_of m)) b))
      (k _ _))))

  -- a plain form 19 besides
  pub plain-few : (most : ℕ) → 19 ≤ most → (m : List ℕ) (room : ℕ) → Few most (verdict_of F m) → Few most (ask_verdict F m room)
  unfolding ask_verdict room_pass pass refused
  plain-few most h m room k =
      then-few most (verdict_of F m) (room_pass F m room) k (either (Few most) (ltb room (length (plain_of F m))) h (omega arith))

  -- and a write 18, 19, or one of its rules'
  pub write-few : (most : ℕ) → 19 ≤ most → ((r : F.Held) → Few most (F.write_rules r)) → (r : F.Held) (room : ℕ) → write_number F r room ≤ most
  unfolding write_number judge_of
  write-few most h k r room =
      either (λ n. n ≤ most) (eqb (judge_of F r) 0)
      (either (λ n. n ≤ most) (ltb room (length (message_of F r))) h (omega arith))
      (then-few most (when (not (F.in_form r)) 18) _ (when-few _ 18 most (omega arith)) (k r))
