-- Lines picked out of others and put in order, as specs/Plain says it: what stays where it is, and what is found. And lines that no row
-- of a tree takes, which no sheet of it has.
-- Assumes nothing.
use Prim.Native.Nat.{ℕ}
use mathlib.Core.Path.{◌≡◌, refl, sym, ap, ◌∙◌}
use mathlib.Core.Bool.{Bool, true, false, ◌&&◌, ◌||◌, not, true≢false}
use mathlib.Core.List.{List, [], ◌∷◌, ◌++◌, append-nil}
use borrow.Author.Tests.{not-true}
use Rattle.text.specs.Bytes.{begins, same}
use Rattle.text.proofs.Bools.{is_false, or-two, or-none, or_left, or_right, of-both}
use Rattle.text.proofs.Laws.{and_left, and_right, same_refl, same-eq, begins-append}
use Rattle.sheets.specs.Trees.{Field, Member, Tree, last, line, block, group, barred, chain}
use Rattle.sheets.specs.Sheets.{Entry, line_of, lines_in, Among, front, later, Laid, shut, given, absent, opened, passed, member, done, unstopped}
use Rattle.sheets.specs.Filled.{some, any_in, filled_fields, filled_members, filled}
use Rattle.sheets.specs.Plain.{Group, ahead, through, block_with, blocks_with, any_line, past, arranged, in_order}
use Rattle.sheets.proofs.Checks.{free_fields, free_members, free, all_free}

-- ---- picking lines

any_append : (o : List ℕ) (ls ks : List (List ℕ)) → any_line o (ls ++ ks) ≡ (any_line o ls || any_line o ks)
unfolding any_line
any_append o [] ks = refl
any_append o (l ∷ ls) ks = rw (any_append o ls ks) (on (same o l))
  where
    on : (b : Bool) → (b || (any_line o ls || any_line o ks)) ≡ ((b || any_line o ls) || any_line o ks)
    on true = refl
    on false = refl

pub none_both : (o : List ℕ) (ls ks : List (List ℕ)) → any_line o ls ≡ false → any_line o ks ≡ false → any_line o (ls ++ ks) ≡ false
none_both o ls ks h k = rw (any_append o ls ks) (or-none (any_line o ls) _ h k)

pub ahead_of : (o : List ℕ) (ls ks : List (List ℕ)) → any_line o ls ≡ false → ahead o (ls ++ ks) ≡ ls ++ ahead o ks
unfolding ahead any_line
ahead_of o [] ks h = refl
ahead_of o (l ∷ ls) ks h = rw (or_left (same o l) _ h, ahead_of o ls ks (or_right (same o l) _ h))

pub ahead-all : (o : List ℕ) (ls : List (List ℕ)) → any_line o ls ≡ false → ahead o ls ≡ ls
unfolding ahead
ahead-all o ls h = rw (append-nil ls) at (ahead_of o ls [] h)

pub ahead-at : (o : List ℕ) (ks : List (List ℕ)) → ahead o (o ∷ ks) ≡ []
unfolding ahead
ahead-at o ks = rw (same_refl o)

pub block-past : (o c k : List ℕ) (ls ks : List (List ℕ)) → any_line o ls ≡ false → block_with o c k (ls ++ ks) ≡ block_with o c k ks
unfolding block_with any_line
block-past o c k [] ks h = refl
block-past o c k (l ∷ ls) ks h = rw (or_left (same o l) _ h) (block-past o c k ls ks (or_right (same o l) _ h))

pub block_none : (o c k : List ℕ) (ls : List (List ℕ)) → any_line o ls ≡ false → block_with o c k ls ≡ []
unfolding block_with
block_none o c k ls h = (rw (append-nil ls) at (block-past o c k ls [] h))

pub through-to : (c : List ℕ) (ls ks : List (List ℕ)) → any_line c ls ≡ false → through c (ls ++ c ∷ ks) ≡ ls ++ c ∷ []
unfolding through any_line
through-to c [] ks h = rw (same_refl c)
through-to c (l ∷ ls) ks h = rw (or_left (same c l) _ h, through-to c ls ks (or_right (same c l) _ h))

any_at : (c : List ℕ) (ls ks : List (List ℕ)) → any_line c (ls ++ c ∷ ks) ≡ true
unfolding any_line
any_at c ls ks = rw (any_append c ls (c ∷ ks), same_refl c) (or-two (any_line c ls) true refl)

pub past-at : (c : List ℕ) (ls ks : List (List ℕ)) → any_line c ks ≡ false → past c (ls ++ c ∷ ks) ≡ ks
unfolding past
past-at c [] ks h = rw (h, same_refl c)
past-at c (l ∷ ls) ks h = rw (any_at c ls ks) (past-at c ls ks h)

pub past-none : (c : List ℕ) (ls : List (List ℕ)) → any_line c ls ≡ false → past c ls ≡ []
unfolding past any_line
past-none c [] h = refl
past-none c (l ∷ ls) h = rw (or_right (same c l) _ h, or_left (same c l) _ h)

pub blocks-none : (o c : List ℕ) (ks ls : List (List ℕ)) → any_line o ls ≡ false → blocks_with o c ks ls ≡ []
unfolding blocks_with
blocks-none o c [] ls h = refl
blocks-none o c (k ∷ ks) ls h = rw (block_none o c k ls h) (blocks-none o c ks ls h)

-- lines among which there is no such block stay as they are
arranged-none : (g : Group) (ls : List (List ℕ)) → any_line g.opening ls ≡ false → any_line g.closing ls ≡ false → arranged g ls ≡ ls
unfolding arranged ahead
arranged-none g ls h k =
    rw (blocks-none g.opening g.closing g.keys ls h, past-none g.closing ls k, append-nil (ahead g.opening ls))
    (ahead-all g.opening ls h)

unfoldable pub Missing : List Group → List (List ℕ) → Type 0
Missing [] ls = Unit
Missing (g ∷ gs) ls = (any_line g.opening ls ≡ false) × (any_line g.closing ls ≡ false) × Missing gs ls

pub order-none : (gs : List Group) (ls : List (List ℕ)) → Missing gs ls → in_order gs ls ≡ ls
unfolding Missing in_order
order-none [] ls h = refl
order-none (g ∷ gs) ls h = rw (order-none gs ls h.2) (arranged-none g ls h.0 h.1)

pub missing-append : (gs : List Group) (ls ks : List (List ℕ)) → Missing gs ls → Missing gs ks → Missing gs (ls ++ ks)
unfolding Missing
missing-append [] ls ks h k = tt
missing-append (g ∷ gs) ls ks h k =
    (none_both g.opening ls ks h.0 k.0, none_both g.closing ls ks h.1 k.1, missing-append gs ls ks h.2 k.2)

pub missing-left : (gs hs : List Group) (ls : List (List ℕ)) → Missing (gs ++ hs) ls → Missing gs ls
unfolding Missing
missing-left [] hs ls h = tt
missing-left (g ∷ gs) hs ls h = (h.0, h.1, missing-left gs hs ls h.2)

pub missing-right : (gs hs : List Group) (ls : List (List ℕ)) → Missing (gs ++ hs) ls → Missing hs ls
unfolding Missing
missing-right [] hs ls h = h
missing-right (g ∷ gs) hs ls h = missing-right gs hs ls h.2

pub missing-all : (gs : List Group) (p : List ℕ → Bool) (ls : List (List ℕ)) → all_free gs p ≡ true → ((x : List ℕ) → p x ≡ true → any_line x ls ≡ false) → Missing gs ls
unfolding Missing all_free
missing-all [] p ls h f = tt
missing-all (g ∷ gs) p ls h f =
    let k = and_right (p g.opening) _ h in
    (f g.opening (and_left _ _ h), f g.closing (and_left _ _ k), missing-all gs p ls (and_right (p g.closing) _ k) f)

pub order-append : (gs hs : List Group) (ls : List (List ℕ)) → in_order (gs ++ hs) ls ≡ in_order gs (in_order hs ls)
unfolding in_order
order-append [] hs ls = refl
order-append (g ∷ gs) hs ls = ap (arranged g) (order-append gs hs ls)

-- ---- lines that no row of a tree takes

pub key-misses : (x k v : List ℕ) → not (begins k x) ≡ true → same x (k ++ v) ≡ false
key-misses x k v h =
    is_false (same x (k ++ v)) (λ e. true≢false (sym (rw (← (same-eq x (k ++ v) e)) at (begins-append k v)) ∙ not-true _ h))

pub line-misses : (x o : List ℕ) → not (same o x) ≡ true → same x o ≡ false
line-misses x o h =
    let z = not-true (same o x) h in
    is_false (same x o) (λ e. true≢false (sym (same_refl x) ∙ (rw (← (same-eq x o e)) at z)))

pub any-lines : (x : List ℕ) (es ds : List Entry) → any_line x (lines_in es) ≡ false → any_line x (lines_in ds) ≡ false → any_line x (lines_in (es ++ ds)) ≡ false
unfolding lines_in any_line
any-lines x [] ds h k = k
any-lines x (e ∷ es) ds h k = or-none (same x (line_of e)) _ (or_left (same x (line_of e)) _ h) (any-lines x es ds (or_right (same x (line_of e)) _ h) k)

pub chain-free : (x : List ℕ) (fs : List Field) (c : List ℕ) → free_fields x fs c ≡ free x false (chain fs c)
unfolding free_fields free chain
chain-free x [] c = refl
chain-free x (f ∷ fs) c = ap (λ (b : Bool). not (begins f.key x) && b) (chain-free x fs c)

pub among-free : (x c : List ℕ) {m : Member} {ms : List Member} → Among m ms → free_members x c ms ≡ true
    → (not (begins m.key x) ≡ true) × (free_fields x m.inside c ≡ true)
unfolding free_members
among-free x c (front {m = m}) h = (and_left _ _ h, and_left (free_fields x m.inside c) _ (and_right (not (begins m.key x)) _ h))
among-free x c (later {k = k} i) h = among-free x c i (and_right (free_fields x k.inside c) _ (and_right (not (begins k.key x)) _ h))

pub laid-misses : (x : List ℕ) {slots : List ℕ} {t : Tree} {es : List Entry} → Laid slots t es → free x false t ≡ true → any_line x (lines_in es) ≡ false
unfolding free lines_in line_of any_line
laid-misses x (shut {c = c}) h = or-none (same x c) _ (line-misses x c h) refl
laid-misses x (given {f = f} v l) h = or-none (same x (f.key ++ v)) _ (key-misses x f.key v (and_left _ _ h)) (laid-misses x l (and_right (not (begins f.key x)) _ h))
laid-misses x (absent {f = f} z l) h = laid-misses x l (and_right (not (begins f.key x)) _ h)
laid-misses x (opened {o = o} {t = t} {es = es} {ds = ds} l r) h =
    let k = and_right (not (same o x)) _ h in
    or-none (same x o) _ (line-misses x o (and_left _ _ h)) (any-lines x es ds (laid-misses x l (and_left _ _ k)) (laid-misses x r (and_right (free x false t) _ k)))
laid-misses x (passed {o = o} {t = t} z g r) h = laid-misses x r (and_right (free x false t) _ (and_right (not (same o x)) _ h))
laid-misses x (member {o = o} {c = c} {ms = ms} {m = m} {es = es} {ds = ds} v i z l r) h =
    let f = among-free x c i (and_left (free_members x c ms) _ (and_right (not (same o x)) _ h)) in
    or-none (same x o) _ (line-misses x o (and_left _ _ h))
    (or-none (same x (m.key ++ v)) _ (key-misses x m.key v f.0)
    (any-lines x es ds (laid-misses x l (sym (chain-free x m.inside c) ∙ f.1)) (laid-misses x r h)))
laid-misses x (done {o = o} {c = c} {ms = ms} z l) h = laid-misses x l (and_right (free_members x c ms) _ (and_right (not (same o x)) _ h))
laid-misses x (unstopped z l) h = laid-misses x l h

module _ (value : ℕ → List ℕ) (x : List ℕ) where
  abbrev Misses : List Entry → Type 0
  Misses es = any_line x (lines_in es) ≡ false

  fields-misses : (fs : List Field) (c : List ℕ) → free_fields x fs c ≡ true → Misses (filled_fields value fs c)
  unfolding filled_fields free_fields lines_in line_of any_line
  fields-misses [] c h = or-none (same x c) _ (line-misses x c h) refl
  fields-misses (f ∷ fs) c h =
      let r = fields-misses fs c (and_right (not (begins f.key x)) _ h) in
      of-both Misses (f.must || some (value f.slot))
      (λ e. or-none (same x (f.key ++ value f.slot)) _ (key-misses x f.key (value f.slot) (and_left _ _ h)) r) (λ e. r)

  pub members-misses : (o c : List ℕ) (ms : List Member) → not (same o x) ≡ true → free_members x c ms ≡ true → Misses (filled_members value o c ms)
  unfolding filled_members free_members lines_in line_of any_line
  members-misses o c [] q h = refl
  members-misses o c (m ∷ ms) q h =
      let k = and_right (not (begins m.key x)) _ h in
      let r = members-misses o c ms q (and_right (free_fields x m.inside c) _ k) in
      of-both Misses (some (value m.slot))
      (λ e. or-none (same x o) _ (line-misses x o q)
      (or-none (same x (m.key ++ value m.slot)) _ (key-misses x m.key (value m.slot) (and_left _ _ h))
      (any-lines x (filled_fields value m.inside c) (filled_members value o c ms) (fields-misses m.inside c (and_left _ _ k)) r)))
      (λ e. r)

  pub filled-misses : (t : Tree) → free x false t ≡ true → Misses (filled value t)
  unfolding filled free lines_in line_of any_line
  filled-misses (last c) h = or-none (same x c) _ (line-misses x c h) refl
  filled-misses (line f t) h =
      let r = filled-misses t (and_right (not (begins f.key x)) _ h) in
      of-both Misses (f.must || some (value f.slot))
      (λ e. or-none (same x (f.key ++ value f.slot)) _ (key-misses x f.key (value f.slot) (and_left _ _ h)) r) (λ e. r)
  filled-misses (block m o t u) h =
      let k = and_right (not (same o x)) _ h in
      let r = filled-misses u (and_right (free x false t) _ k) in
      of-both Misses (m || any_in value t)
      (λ e. or-none (same x o) _ (line-misses x o (and_left _ _ h)) (any-lines x (filled value t) (filled value u) (filled-misses t (and_left _ _ k)) r)) (λ e. r)
  filled-misses (group n a o c ms t) h =
      let k = and_right (not (same o x)) _ h in
      any-lines x (filled_members value o c ms) (filled value t) (members-misses o c ms (and_left _ _ h) (and_left _ _ k))
      (filled-misses t (and_right (free_members x c ms) _ k))
  filled-misses (barred b t) h = filled-misses t h
