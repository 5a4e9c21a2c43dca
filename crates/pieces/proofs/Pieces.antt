-- Cutting a batch: its pieces are all of it, and messages that were put into it are its pieces again. So no message is the
-- beginning of another, and two lists of messages that make the same batch are the same list.
-- Assumes nothing.
use Prim.Native.Nat.{ℕ, zero, suc, ◌≤◌}
use mathlib.Core.Path.{◌≡◌, refl, sym, ap, ◌∙◌}
use mathlib.Core.Bool.{Bool, true, false, not, cond, true≢false}
use mathlib.Core.List.{List, [], ◌∷◌, ◌++◌, map, append_assoc, append-nil, append_cancel_left, nil≢cons, head-eq_of_cons-eq, tail-eq_of_cons-eq, flatten}
use native.Mathlib.Nat.{not-suc-le-zero}
use native.Mathlib.Omega.{arith}
use lib.Dec.{eqb}
use lib.ListN.{length, drop, length-append, length-drop}
use lib.Seq.{drop-append_seam}
use borrow.Author.Tests.{not-true}
use Rattle.text.specs.Bytes.{bytes, same, before}
use Rattle.text.proofs.Bools.{of-both}
use Rattle.text.proofs.Laws.{and_left, and_right, same_refl}
use Rattle.lines.specs.Lines.{in_front, bare, lines_of, ended, joined, lines_pass, cut_behind, without_ending}
use Rattle.lines.proofs.Laws.{plain, Closed, passed}
use Rattle.lines.proofs.Joins.{lines-joined, Whole, ended-whole, some_bytes}
use Rattle.pieces.specs.Pieces.{is_dash, through_dash, piece_of, pieces_in, pieces, cases, Answered}

-- ---- the pieces of a batch are all of it

-- the lines are
lines-together : (m : List ℕ) → flatten (cut_behind m) ≡ m
unfolding flatten cut_behind in_front
lines-together [] = refl
lines-together (b ∷ s) = at (lines-together s) (eqb b 10)
  where
    more : (ls : List (List ℕ)) → flatten (in_front b ls) ≡ b ∷ flatten ls
    more [] = refl
    more (l ∷ ls) = refl

    at : flatten (cut_behind s) ≡ s → (t : Bool) → flatten (cond t ((b ∷ []) ∷ cut_behind s) (in_front b (cut_behind s))) ≡ b ∷ s
    at ih true = ap (λ (x : List ℕ). b ∷ x) ih
    at ih false = more (cut_behind s) ∙ ap (λ (x : List ℕ). b ∷ x) ih

-- a piece is what the lines begin with
through-front : (ls : List (List ℕ)) → (rest : List ℕ) × (flatten ls ≡ through_dash ls ++ rest)
unfolding flatten through_dash
through-front [] = ([], refl)
through-front (l ∷ ls) = at (through-front ls) (is_dash l)
  where
    at : ((rest : List ℕ) × (flatten ls ≡ through_dash ls ++ rest)) → (t : Bool)
        → (rest : List ℕ) × (l ++ flatten ls ≡ (l ++ cond t [] (through_dash ls)) ++ rest)
    at ih true = (flatten ls, rw (append-nil l))
    at ih false = (ih.0, ap (λ (x : List ℕ). l ++ x) ih.1 ∙ sym (append_assoc l (through_dash ls) ih.0))

pub piece-split : (m : List ℕ) → m ≡ piece_of m ++ drop (length (piece_of m)) m
unfolding piece_of
piece-split m =
    let (rest, e) = through-front (cut_behind m) in
    let is : m ≡ piece_of m ++ rest = sym (lines-together m) ∙ e in
    let behind : drop (length (piece_of m)) m ≡ rest = ap (drop (length (piece_of m))) is ∙ drop-append_seam (piece_of m) rest in
    is ∙ ap (λ (x : List ℕ). piece_of m ++ x) (sym behind)

-- it has at least one byte
pub piece-some : (b : ℕ) (s : List ℕ) → 1 ≤ length (piece_of (b ∷ s))
unfolding piece_of cut_behind in_front through_dash
piece-some b s = of-both (λ x. 1 ≤ length (through_dash x)) (eqb b 10) (λ e. omega arith) (λ e. more (cut_behind s))
  where
    more : (ls : List (List ℕ)) → 1 ≤ length (through_dash (in_front b ls))
    more [] = omega arith
    more (l ∷ ls) = omega arith

-- ---- the pieces, one by one, as long as there may be enough of them

pub no_pieces : pieces [] ≡ []
unfolding pieces pieces_in
no_pieces = refl

-- what is left behind a piece is shorter
rest-shorter : (b : ℕ) (s : List ℕ) → length (drop (length (piece_of (b ∷ s))) (b ∷ s)) ≤ length s
rest-shorter b s =
    let some = piece-some b s in
    let l = length-drop (length (piece_of (b ∷ s))) (b ∷ s) in
    omega arith

-- more than enough changes nothing
enough : (k j : ℕ) (m : List ℕ) → length m ≤ k → length m ≤ j → pieces_in k m ≡ pieces_in j m
unfolding pieces_in
enough zero zero m h g = refl
enough zero (suc j) [] h g = refl
enough zero (suc j) (b ∷ m) h g = absurd (not-suc-le-zero h)
enough (suc k) zero [] h g = refl
enough (suc k) zero (b ∷ m) h g = absurd (not-suc-le-zero g)
enough (suc k) (suc j) [] h g = refl
enough (suc k) (suc j) (b ∷ m) h g =
    let r = rest-shorter b m in
    ap (λ (x : List (List ℕ)). piece_of (b ∷ m) ∷ x) (enough k j (drop (length (piece_of (b ∷ m))) (b ∷ m)) (omega arith) (omega arith))

-- a piece, and then those just after it
pub pieces_step : (m : List ℕ) → 1 ≤ length m → pieces m ≡ piece_of m ∷ pieces (drop (length (piece_of m)) m)
unfolding pieces pieces_in
pieces_step [] h = absurd (not-suc-le-zero h)
pieces_step (b ∷ s) h =
    let rest : List ℕ = drop (length (piece_of (b ∷ s))) (b ∷ s) in
    ap (λ (x : List (List ℕ)). piece_of (b ∷ s) ∷ x) (enough (length s) (length rest) rest (rest-shorter b s) (omega arith))

all-together : (k : ℕ) (m : List ℕ) → length m ≤ k → flatten (pieces_in k m) ≡ m
unfolding pieces_in flatten
all-together zero [] h = refl
all-together zero (b ∷ m) h = absurd (not-suc-le-zero h)
all-together (suc k) [] h = refl
all-together (suc k) (b ∷ m) h =
    let r = rest-shorter b m in
    let p : List ℕ = piece_of (b ∷ m) in
    ap (λ (x : List ℕ). p ++ x) (all-together k (drop (length p) (b ∷ m)) (omega arith)) ∙ sym (piece-split (b ∷ m))

pub pieces-together : (m : List ℕ) → flatten (pieces m) ≡ m
unfolding pieces
pieces-together m = all-together (length m) m (omega arith)

-- ---- a message is the piece at the front of what it begins

-- its last line is an ended `-`, and no other is `-`
pub record Message (m : List ℕ) : Type 0 where
  pub end : ended m ≡ true
  pub closed : Closed (lines_of m)

cut-some : (b : ℕ) (s : List ℕ) → 1 ≤ length (cut_behind (b ∷ s))
unfolding cut_behind in_front
cut-some b s = of-both (λ (x : List (List ℕ)). 1 ≤ length x) (eqb b 10) (λ e. omega arith) (λ e. more (cut_behind s))
  where
    more : (ls : List (List ℕ)) → 1 ≤ length (in_front b ls)
    more [] = omega arith
    more (l ∷ ls) = omega arith

front-append : (b : ℕ) (ls ks : List (List ℕ)) → 1 ≤ length ls → in_front b (ls ++ ks) ≡ in_front b ls ++ ks
unfolding in_front
front-append b [] ks h = absurd (not-suc-le-zero h)
front-append b (l ∷ ls) ks h = refl

-- behind an ending, lines are cut as if alone
cut-append : (m rest : List ℕ) → ended m ≡ true → cut_behind (m ++ rest) ≡ cut_behind m ++ cut_behind rest
unfolding ended cut_behind
cut-append [] rest h = absurd (true≢false (sym h))
cut-append (b ∷ []) rest h = rw h
cut-append (b ∷ c ∷ s) rest h = at (cut-append (c ∷ s) rest h) (eqb b 10)
  where
    ls : List (List ℕ)
    ls = cut_behind (c ∷ s)

    at : cut_behind (c ∷ s ++ rest) ≡ ls ++ cut_behind rest → (t : Bool)
        → cond t ((b ∷ []) ∷ cut_behind (c ∷ s ++ rest)) (in_front b (cut_behind (c ∷ s ++ rest))) ≡ cond t ((b ∷ []) ∷ ls) (in_front b ls) ++ cut_behind rest
    at ih true = ap (λ (x : List (List ℕ)). (b ∷ []) ∷ x) ih
    at ih false = ap (in_front b) ih ∙ front-append b ls (cut_behind rest) (cut-some c s)

through-closed : (ls ks body : List (List ℕ)) → map without_ending ls ≡ body ++ (bytes "-" ∷ []) → plain body ≡ true → through_dash (ls ++ ks) ≡ flatten ls
unfolding through_dash flatten is_dash plain
through-closed [] ks [] e h = absurd (nil≢cons e)
through-closed [] ks (x ∷ body) e h = absurd (nil≢cons e)
through-closed (l ∷ []) ks [] e h = rw (head-eq_of_cons-eq e, same_refl (bytes "-"))
through-closed (l ∷ k ∷ ls) ks [] e h = absurd (nil≢cons (sym (tail-eq_of_cons-eq e)))
through-closed (l ∷ ls) ks (x ∷ body) e h =
    let other : same (bytes "-") x ≡ false = not-true _ (and_left _ (plain body) h) in
    rw (head-eq_of_cons-eq e, other)
    (ap (λ (y : List ℕ). l ++ y) (through-closed ls ks body (tail-eq_of_cons-eq e) (and_right (not (same (bytes "-") x)) _ h)))

pub piece-message : (m rest : List ℕ) → Message m → piece_of (m ++ rest) ≡ m
unfolding piece_of lines_of
piece-message m rest w =
    rw (cut-append m rest w.end)
    (through-closed (cut_behind m) (cut_behind rest) w.closed.body w.closed.split w.closed.early ∙ lines-together m)

-- what passes 1, 2 and 3 is such a message
pub message-passed : (m : List ℕ) → (lines_pass m).number ≡ 0 → Message m
message-passed m z = let p = passed m z in record { end = p.end; closed = p.closed }

-- ---- no message is the beginning of another

-- two messages that begin the same bytes are one, and what stands behind them is the same
pub same-front : (m k rest more : List ℕ) → Message m → Message k → m ++ rest ≡ k ++ more → (m ≡ k) × (rest ≡ more)
same-front m k rest more w x e =
    let front : m ≡ k = sym (piece-message m rest w) ∙ ap piece_of e ∙ piece-message k more x in
    (front, append_cancel_left m rest more (e ∙ ap (λ (y : List ℕ). y ++ more) (sym front)))

pub no-beginning : (m k rest : List ℕ) → Message m → Message k → k ≡ m ++ rest → rest ≡ []
no-beginning m k rest w x e = (same-front m k rest [] w x (sym e ∙ sym (append-nil k))).1

-- ---- messages that were put into a batch are its pieces

unfoldable pub Messages : List (List ℕ) → Type 0
Messages [] = Unit
Messages (m ∷ ms) = Message m × Messages ms

pub pieces_of : (ms : List (List ℕ)) → Messages ms → pieces (flatten ms) ≡ ms
unfolding Messages flatten
pieces_of [] w = no_pieces
pieces_of (m ∷ ms) w =
    let rest : List ℕ = flatten ms in
    let some : 1 ≤ length (m ++ rest) = rw (length-append m rest) (let s = some_bytes m w.0.end in omega arith) in
    pieces_step (m ++ rest) some
    ∙ rw (piece-message m rest w.0, drop-append_seam m rest) (ap (λ (x : List (List ℕ)). m ∷ x) (pieces_of ms w.1))

-- so lists of messages that make the same batch are the same
pub same-batch : (ms ks : List (List ℕ)) → Messages ms → Messages ks → flatten ms ≡ flatten ks → ms ≡ ks
same-batch ms ks w x e = sym (pieces_of ms w) ∙ ap pieces e ∙ pieces_of ks x

-- ---- the same of lines that are joined

pub message-joined : (ls : List (List ℕ)) → Whole ls → Message (joined ls)
message-joined ls w = record { end = ended-whole ls w; closed = rw (lines-joined ls w.printing) w.closed }

unfoldable pub AllWhole : List (List (List ℕ)) → Type 0
AllWhole [] = Unit
AllWhole (ls ∷ lss) = Whole ls × AllWhole lss

messages-joined : (lss : List (List (List ℕ))) → AllWhole lss → Messages (map joined lss)
unfolding AllWhole Messages
messages-joined [] w = tt
messages-joined (ls ∷ lss) w = (message-joined ls w.0, messages-joined lss w.1)

-- cutting finds the messages that were put in, and their lines
pub pieces-joined : (lss : List (List (List ℕ))) → AllWhole lss → pieces (flatten (map joined lss)) ≡ map joined lss
pieces-joined lss w = pieces_of (map joined lss) (messages-joined lss w)

lines-back : (lss : List (List (List ℕ))) → AllWhole lss → map lines_of (map joined lss) ≡ lss
unfolding AllWhole
lines-back [] w = refl
lines-back (ls ∷ lss) w = rw (lines-joined ls w.0.printing, lines-back lss w.1)

pub same_lines : (lss kss : List (List (List ℕ))) → AllWhole lss → AllWhole kss → flatten (map joined lss) ≡ flatten (map joined kss) → lss ≡ kss
same_lines lss kss w x e =
    let same = same-batch (map joined lss) (map joined kss) (messages-joined lss w) (messages-joined kss x) e in
    sym (lines-back lss w) ∙ ap (map lines_of) same ∙ lines-back kss x

-- ---- the batches at the edges

pub answered : Answered
unfolding cases pieces pieces_in piece_of through_dash cut_behind is_dash without_ending in_front bare before same bytes
answered = refl
