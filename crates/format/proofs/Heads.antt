-- The header of any message type: what 4 says of its lines, their values, and the lines that a record has for it.
-- Assumes nothing.
use Prim.Native.Nat.{ℕ, suc, ◌≤◌}
use mathlib.Core.Path.{◌≡◌, refl, sym, ap, ◌∙◌}
use mathlib.Core.Bool.{Bool, true, false, not, cond, true≢false}
use mathlib.Core.List.{List, [], ◌∷◌, ◌++◌, map, append-nil}
use native.Mathlib.Omega.{arith}
use lib.Dec.{eqb}
use lib.ListN.{length, drop, get_or}
use lib.Seq.{drop-append_seam}
use borrow.Author.Tests.{eqb-true, eq-eqb, not-true}
use Rattle.text.specs.Bytes.{begins, same}
use Rattle.text.proofs.Laws.{and_left, and_right, and_both, begins-is, begins-append}
use Rattle.text.proofs.Printed.{printed, all_printed}
use Rattle.lines.specs.Verdicts.{refused, pass}
use Rattle.forms.specs.Forms.{Slot, value_number}
use Rattle.forms.proofs.Laws.{value-begins}
use Rattle.sheets.specs.Sheets.{has}
use Rattle.sheets.specs.Plain.{Group, any_line}
use Rattle.text.proofs.Bools.{is_false, or-two, or-none, or_left, or_right}
use Rattle.sheets.proofs.Checks.{distinct}
use Rattle.sheets.proofs.Emits.{has-front}
use Rattle.sheets.proofs.Picking.{Missing}
use Rattle.reader.specs.Header.{head_verdict, head_value}
use Rattle.format.specs.Plain.{tidy_line}
use Rattle.format.proofs.Tests.{every, every-at, foreign, never-begins, same-begins, untouched, untouched-line}
use Rattle.format.proofs.Laws.{edges}

begins-self : (z : List ℕ) → begins z z ≡ true
begins-self z = rw (append-nil z) at (begins-append z [])

module _ (slot_of : ℕ → Slot) where
  -- every line is of its slot
  unfoldable pub Heads : List ℕ → List (List ℕ) → Type 0
  Heads [] ls = Unit
  Heads (h ∷ hs) ls = (value_number (slot_of h) (get_or ls 0 []) ≡ 0) × Heads hs (drop 1 ls)

  pub heads-from : (n : ℕ) (hs : List ℕ) (ls : List (List ℕ)) → (head_verdict slot_of n hs ls).number ≡ 0 → Heads hs ls
  unfolding head_verdict Heads refused
  heads-from n [] ls z = tt
  heads-from n (h ∷ hs) ls z = on (λ y. heads-from (suc n) hs (drop 1 ls) y) (eqb (value_number (slot_of h) (get_or ls 0 [])) 0) refl z
    where
      on : ((head_verdict slot_of (suc n) hs (drop 1 ls)).number ≡ 0 → Heads hs (drop 1 ls)) → (b : Bool) → eqb (value_number (slot_of h) (get_or ls 0 [])) 0 ≡ b
          → (cond b (head_verdict slot_of (suc n) hs (drop 1 ls)) (refused 4 n)).number ≡ 0
          → (value_number (slot_of h) (get_or ls 0 []) ≡ 0) × Heads hs (drop 1 ls)
      on ih true e y = (eqb-true _ 0 e, ih y)
      on ih false e y = let w : ⊥ = omega arith in absurd w

  pub heads-pass : (n : ℕ) (hs : List ℕ) (ls : List (List ℕ)) → Heads hs ls → head_verdict slot_of n hs ls ≡ pass
  unfolding head_verdict Heads
  heads-pass n [] ls h = refl
  heads-pass n (s ∷ hs) ls h = rw h.0 (heads-pass (suc n) hs (drop 1 ls) h.1)

  -- ---- lines that are read

  -- a text that none of the slots takes stands behind the header
  pub heads-fit : (z : List ℕ) (hs : List ℕ) (body : List (List ℕ)) → every (λ s. foreign (slot_of s) z) hs ≡ true → Heads hs (body ++ z ∷ []) → length hs ≤ length body
  unfolding Heads every
  heads-fit z [] body f h = omega arith
  heads-fit z (s ∷ hs) [] f h =
      absurd (true≢false (sym (begins-self z) ∙ never-begins (slot_of s) z z (and_left (foreign (slot_of s) z) (every (λ x. foreign (slot_of x) z) hs) f) h.0))
  heads-fit z (s ∷ hs) (l ∷ body) f h =
      let k = heads-fit z hs body (and_right (foreign (slot_of s) z) _ f) h.1 in
      omega arith

  -- the value of a slot that is none of the header's
  pub head-none : (v : List ℕ) (hs : List ℕ) (ls : List (List ℕ)) (s : ℕ) → has hs s ≡ false → head_value slot_of v hs ls s ≡ v
  unfolding head_value has
  head-none v [] ls s n = refl
  head-none v (h ∷ hs) ls s n = rw (or_left (eqb h s) _ n) (head-none v hs (drop 1 ls) s (or_right (eqb h s) _ n))

  -- another slot than the first
  others : (h : ℕ) (hs : List ℕ) (s : ℕ) → has hs h ≡ false → has hs s ≡ true → eqb h s ≡ false
  others h hs s n e = is_false (eqb h s) (λ q. true≢false (sym e ∙ rw (← (eqb-true h s q)) n))

  -- the line of one of its slots
  pub head-good : (v : List ℕ) (hs : List ℕ) (ls : List (List ℕ)) (s : ℕ) → distinct hs ≡ true → Heads hs ls → has hs s ≡ true
      → value_number (slot_of s) ((slot_of s).fixed ++ head_value slot_of v hs ls s) ≡ 0
  unfolding Heads distinct head_value has
  head-good v [] ls s d h e = absurd (true≢false (sym e))
  head-good v (x ∷ hs) ls s d h e = on (λ q. head-good v hs (drop 1 ls) s (and_right (not (has hs x)) _ d) h.1 q) (eqb x s) refl
    where
      l : List ℕ
      l = get_or ls 0 []

      own : x ≡ s → value_number (slot_of s) ((slot_of s).fixed ++ head_value slot_of (drop (length (slot_of x).fixed) l) hs (drop 1 ls) s) ≡ 0
      own q =
          let k : has hs s ≡ false = rw q at (not-true (has hs x) (and_left (not (has hs x)) (distinct hs) d)) in
          rw (head-none (drop (length (slot_of x).fixed) l) hs (drop 1 ls) s k, ← q, ← (begins-is (slot_of x).fixed l (value-begins (slot_of x) l h.0))) h.0

      on : (has hs s ≡ true → value_number (slot_of s) ((slot_of s).fixed ++ head_value slot_of v hs (drop 1 ls) s) ≡ 0) → (b : Bool) → eqb x s ≡ b
          → value_number (slot_of s) ((slot_of s).fixed ++ head_value slot_of (cond b (drop (length (slot_of x).fixed) l) v) hs (drop 1 ls) s) ≡ 0
      on ih true q = own (eqb-true x s q)
      on ih false q = ih (rw q at e)

  module _ (value : ℕ → List ℕ) where
    abbrev line : ℕ → List ℕ
    line s = (slot_of s).fixed ++ value s

    pub heads-are : (hs : List ℕ) (ls : List (List ℕ)) → length hs ≤ length ls → distinct hs ≡ true → Heads hs ls
        → ((s : ℕ) → has hs s ≡ true → value s ≡ head_value slot_of [] hs ls s) → ls ≡ map line hs ++ drop (length hs) ls
    unfolding Heads distinct head_value has
    heads-are [] ls n d h v = refl
    heads-are (s ∷ hs) [] n d h v = let w : ⊥ = omega arith in absurd w
    heads-are (s ∷ hs) (l ∷ ls) n d h v =
        let k = not-true (has hs s) (and_left (not (has hs s)) (distinct hs) d) in
        let own : value s ≡ drop (length (slot_of s).fixed) l = v s (has-front s hs) ∙ rw (eq-eqb s s refl) (head-none (drop (length (slot_of s).fixed) l) hs ls s k) in
        let first : l ≡ line s = begins-is (slot_of s).fixed l (value-begins (slot_of s) l h.0) ∙ ap (λ (x : List ℕ). (slot_of s).fixed ++ x) (sym own) in
        let rest = heads-are hs ls (omega arith) (and_right (not (has hs s)) _ d) h.1 (λ x e. v x (or-two (eqb s x) _ e) ∙ rw (others s hs x k e)) in
        ap (λ (x : List ℕ). x ∷ ls) first ∙ ap (λ (x : List (List ℕ)). line s ∷ x) rest

    -- ---- lines that are written

    abbrev Good : List ℕ → Type 0
    Good hs = (s : ℕ) → has hs s ≡ true → value_number (slot_of s) (line s) ≡ 0

    pub heads-written : (hs : List ℕ) (rest : List (List ℕ)) → Good hs → Heads hs (map line hs ++ rest)
    unfolding Heads has
    heads-written [] rest g = tt
    heads-written (s ∷ hs) rest g = (g s (has-front s hs), heads-written hs rest (λ x e. g x (or-two (eqb s x) _ e)))

    pub value_written : (v : List ℕ) (hs : List ℕ) (rest : List (List ℕ)) (s : ℕ) → distinct hs ≡ true → has hs s ≡ true
        → head_value slot_of v hs (map line hs ++ rest) s ≡ value s
    unfolding head_value distinct has
    value_written v [] rest s d e = absurd (true≢false (sym e))
    value_written v (h ∷ hs) rest s d e = on (λ q. value_written v hs rest s (and_right (not (has hs h)) _ d) q) (eqb h s) refl
      where
        k : has hs h ≡ false
        k = not-true (has hs h) (and_left (not (has hs h)) (distinct hs) d)

        first : h ≡ s → head_value slot_of (drop (length (slot_of h).fixed) (line h)) hs (map line hs ++ rest) s ≡ value s
        first q = head-none (drop (length (slot_of h).fixed) (line h)) hs (map line hs ++ rest) s (rw (← q) k) ∙ drop-append_seam (slot_of h).fixed (value h) ∙ ap value q

        on : (has hs s ≡ true → head_value slot_of v hs (map line hs ++ rest) s ≡ value s) → (b : Bool) → eqb h s ≡ b → head_value slot_of (cond b (drop (length (slot_of h).fixed) (line h)) v) hs (map line hs ++ rest) s ≡ value s
        on ih true q = first (eqb-true h s q)
        on ih false q = ih (rw q at e)

    -- none of them is a text that none of the slots takes
    pub heads-miss : (z : List ℕ) (hs : List ℕ) → every (λ s. foreign (slot_of s) z) hs ≡ true → Good hs → any_line z (map line hs) ≡ false
    unfolding every any_line has
    heads-miss z [] f g = refl
    heads-miss z (s ∷ hs) f g =
        or-none (same z (line s)) _
        (same-begins z (line s) (never-begins (slot_of s) z (line s) (and_left (foreign (slot_of s) z) (every (λ x. foreign (slot_of x) z) hs) f) (g s (has-front s hs))))
        (heads-miss z hs (and_right (foreign (slot_of s) z) _ f) (λ x e. g x (or-two (eqb s x) _ e)))

    pub heads-missing : (gs : List Group) (hs : List ℕ) → every (λ z. every (λ s. foreign (slot_of s) z) hs) (edges gs) ≡ true → Good hs → Missing gs (map line hs)
    unfolding every edges Missing
    heads-missing [] hs f g = tt
    heads-missing (x ∷ gs) hs f g =
        let k = and_right (every (λ s. foreign (slot_of s) x.opening) hs) _ f in (
          heads-miss x.opening hs (and_left (every (λ s. foreign (slot_of s) x.opening) hs) _ f) g,
          heads-miss x.closing hs (and_left (every (λ s. foreign (slot_of s) x.closing) hs) _ k) g,
          heads-missing gs hs (and_right (every (λ s. foreign (slot_of s) x.closing) hs) _ k) g,
        )

    -- and none is tidied
    head-untouched : (fs : List (List ℕ)) (hs : List ℕ) (s : ℕ) → has hs s ≡ true → every (λ z. every (λ x. foreign (slot_of x) z) hs) fs ≡ true → Good hs → untouched fs (line s) ≡ true
    unfolding every untouched
    head-untouched [] hs s e f g = refl
    head-untouched (z ∷ fs) hs s e f g =
        and_both {a = not (begins z (line s))}
        (rw (never-begins (slot_of s) z (line s) (every-at (λ x. foreign (slot_of x) z) hs s (and_left (every (λ x. foreign (slot_of x) z) hs) _ f) e) (g s e)))
        (head-untouched fs hs s e (and_right (every (λ x. foreign (slot_of x) z) hs) _ f) g)

    pub heads-tidy : (fs : List (List ℕ)) (all hs : List ℕ) → ((s : ℕ) → has hs s ≡ true → has all s ≡ true) → every (λ z. every (λ x. foreign (slot_of x) z) all) fs ≡ true → Good all
        → map (tidy_line fs) (map line hs) ≡ map line hs
    unfolding has
    heads-tidy fs all [] i f g = refl
    heads-tidy fs all (s ∷ hs) i f g =
        rw (untouched-line fs (line s) (head-untouched fs all s (i s (has-front s hs)) f g))
        (ap (λ (x : List (List ℕ)). line s ∷ x) (heads-tidy fs all hs (λ x e. i x (or-two (eqb s x) _ e)) f g))

    pub heads-printed : (hs : List ℕ) → ((s : ℕ) → has hs s ≡ true → printed (line s) ≡ true) → all_printed (map line hs) ≡ true
    unfolding all_printed has
    heads-printed [] p = refl
    heads-printed (s ∷ hs) p = and_both (p s (has-front s hs)) (heads-printed hs (λ x e. p x (or-two (eqb s x) _ e)))
