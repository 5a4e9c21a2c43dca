-- What a sheet says: its values one by one, as the reader finds them among the lines that it took, and as a record holds them.
-- Assumes nothing.
use Prim.Native.Nat.{ℕ, suc}
use mathlib.Core.Path.{◌≡◌, refl, sym, ap, ◌∙◌}
use mathlib.Core.Bool.{Bool, true, false, ◌||◌, not, cond, true≢false}
use mathlib.Core.List.{List, [], ◌∷◌}
use lib.Dec.{eqb}
use lib.ListN.{length, drop}
use lib.Seq.{drop-nil}
use borrow.Author.Tests.{eqb-true, eqb-false, eq-eqb, not-true}
use Rattle.lines.specs.Verdicts.{refused, pass, then}
use Rattle.lines.specs.Lines.{lines_of}
use Rattle.lines.proofs.Laws.{then-zero}
use Rattle.forms.specs.Forms.{value_number}
use Rattle.sheets.specs.Slots.{slots_of}
use Rattle.sheets.specs.Sheets.{Entry, edge, item, has, Sheet}
use Rattle.sheets.specs.Filled.{some, value_in}
use Rattle.text.proofs.Bools.{or-one, or-two, of-both}
use Rattle.sheets.proofs.Accepts.{taken_on}
use Rattle.sheets.proofs.Checks.{full}
use Rattle.sheets.proofs.Once.{apart-lists, slots_held, Once, inside, outside, comes-once}
use Rattle.sheets.proofs.Plain.{value-absent}
use Rattle.walk.specs.Walk.{value_verdict, values_pass, value_from}
use Rattle.reader.specs.Header.{head_value}
use Rattle.format.specs.Format.{Format}
use Rattle.format.specs.Reading.{value_on}
use Rattle.format.specs.Lawful.{Valued, said_in}
use Rattle.format.proofs.Tests.{every-at}
use Rattle.format.proofs.Laws.{Layout}
use Rattle.format.proofs.Heads.{head-none}

module _ (F : Format) where
  -- ---- 10, 11 and 12

  pub values-pass : (es : List Entry) (n : ℕ) → Valued F es → values_pass F.slot_of (taken_on n es) ≡ pass
  unfolding Valued taken_on values_pass value_verdict then pass refused
  values-pass [] n h = refl
  values-pass (edge o ∷ es) n h = values-pass es (suc n) h
  values-pass (item s k v ∷ es) n h = rw h.0 (values-pass es (suc n) h.1)

  verdict-zero : (s n : ℕ) (v : List ℕ) → (value_verdict F.slot_of (record { slot = s; line = n; value = v })).number ≡ 0 → value_number (F.slot_of s) v ≡ 0
  unfolding value_verdict pass refused
  verdict-zero s n v h = on (eqb (value_number (F.slot_of s) v) 0) refl h
    where
      on : (b : Bool) → eqb (value_number (F.slot_of s) v) 0 ≡ b → (cond b pass (refused (value_number (F.slot_of s) v) n)).number ≡ 0 → value_number (F.slot_of s) v ≡ 0
      on true e q = eqb-true (value_number (F.slot_of s) v) 0 e
      on false e q = q

  pub valued : (es : List Entry) (n : ℕ) → (values_pass F.slot_of (taken_on n es)).number ≡ 0 → Valued F es
  unfolding Valued taken_on values_pass
  valued [] n h = tt
  valued (edge o ∷ es) n h = valued es (suc n) h
  valued (item s k v ∷ es) n h =
      let (a, b) = then-zero (value_verdict F.slot_of (record { slot = s; line = n; value = v })) (values_pass F.slot_of (taken_on (suc n) es)) h in
      (verdict-zero s n v a, valued es (suc n) b)

  -- one value
  pub valued-at : (es : List Entry) (s : ℕ) → Valued F es → has (slots_held es) s ≡ true → value_number (F.slot_of s) (value_in es s) ≡ 0
  unfolding Valued slots_held has value_in
  valued-at [] s h e = absurd (true≢false (sym e))
  valued-at (edge o ∷ es) s h e = valued-at es s h e
  valued-at (item i k v ∷ es) s h e =
      of-both (λ x. value_number (F.slot_of s) x ≡ 0) (eqb i s) (λ q. rw (← (eqb-true i s q)) h.0) (λ q. valued-at es s h.1 (rw q at e))

  -- ---- a value among the lines that were taken

  value-from : (s : ℕ) (es : List Entry) (n : ℕ) (d : List ℕ) → Once es
      → value_from F.slot_of d s (taken_on n es) ≡ cond (has (slots_held es) s) (drop (length (F.slot_of s).fixed) (value_in es s)) d
  unfolding value_from taken_on slots_held has value_in Once
  value-from s [] n d h = refl
  value-from s (edge o ∷ es) n d h = value-from s es (suc n) d h
  value-from s (item i k v ∷ es) n d h = value-from s es (suc n) (cond (eqb i s) (drop (length (F.slot_of s).fixed) v) d) h.1 ∙ on (eqb i s) refl
    where
      on : (b : Bool) → eqb i s ≡ b
          → cond (has (slots_held es) s) (drop (length (F.slot_of s).fixed) (value_in es s)) (cond b (drop (length (F.slot_of s).fixed) v) d)
          ≡ cond (b || has (slots_held es) s) (drop (length (F.slot_of s).fixed) (cond b v (value_in es s))) d
      on true e = rw (rw (eqb-true i s e) at h.0)
      on false e = refl

  module _ (L : Layout F) where
    -- no value that has its form is empty
    pub all-full : (es : List Entry) → ((s : ℕ) → has (slots_held es) s ≡ true → has (slots_of F.tree) s ≡ true) → Valued F es → full es ≡ true
    unfolding Valued full slots_held has some
    all-full [] f h = refl
    all-full (edge o ∷ es) f h = all-full es f h
    all-full (item s k [] ∷ es) f h =
        absurd (eqb-false (value_number (F.slot_of s) []) 0
        (not-true _ (every-at (λ x. not (eqb (value_number (F.slot_of x) []) 0)) (slots_of F.tree) s L.none_bare (f s (or-one (eqb s s) _ (eq-eqb s s refl))))) h.0)
    all-full (item s k (b ∷ v) ∷ es) f h = all-full es (λ x e. f x (or-two (eqb s x) _ e)) h.1

    pub sheet-full : (es : List Entry) → Sheet F.tree es → Valued F es → full es ≡ true
    sheet-full es l h = all-full es (λ s e. inside s l e) h

    -- the reader's values are the sheet's
    pub said-is : (m : List ℕ) (es : List Entry) (n : ℕ) (s : ℕ) → Sheet F.tree es → value_on F m (taken_on n es) s ≡ said_in F m es s
    unfolding value_on said_in
    said-is m es n s l = value-from s es n head (comes-once l L.is-sole) ∙ on (has F.header s) refl
      where
        head : List ℕ
        head = head_value F.slot_of [] F.header (lines_of m) s

        v : List ℕ
        v = drop (length (F.slot_of s).fixed) (value_in es s)

        here : has F.header s ≡ false → (b : Bool) → has (slots_held es) s ≡ b → cond b v head ≡ v
        here e true q = refl
        here e false q =
            head-none F.slot_of [] F.header (lines_of m) s e
            ∙ sym (ap (λ (x : List ℕ). drop (length (F.slot_of s).fixed) x) (value-absent es s q) ∙ drop-nil (length (F.slot_of s).fixed))

        on : (b : Bool) → has F.header s ≡ b → cond (has (slots_held es) s) v head ≡ cond b head v
        on true e = rw (outside s l (apart-lists F.header (slots_of F.tree) s L.heads-apart e))
        on false e = here e (has (slots_held es) s) refl
