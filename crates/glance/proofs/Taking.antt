-- The lines one after the other, whatever follows them: those of the header, and those behind it. What the passes know of a message at
-- a line (reader's and walk's `Kept`) is known of the bytes up to there in front of any others.
-- Assumes nothing.
use Prim.Native.Nat.{ℕ, ◌+◌, ◌-◌, ◌≤◌, ◌<◌}
use mathlib.Core.Path.{◌≡◌, refl, sym, ap, ◌∙◌}
use mathlib.Core.Bool.{Bool, true, false, cond}
use mathlib.Core.List.{List, [], ◌∷◌, ◌++◌, append_assoc, append-nil}
use mathlib.Core.Logic.{inl, inr}
use native.Mathlib.Omega.{arith}
use lib.Dec.{eqb}
use lib.ListN.{length, take, drop, get_or, set, replicate, length-append, length-take, take-append-drop}
use lib.Seq.{length-take-le, take-add, take-take, take-append-le, drop_at, drop-drop}
use borrow.Author.Tests.{eqb-false}
use Rattle.text.specs.Bytes.{bytes}
use Rattle.text.specs.Classes.{printed}
use Rattle.stretches.specs.Stretches.{slot_count}
use Rattle.lines.specs.Verdicts.{pass, refused, then}
use Rattle.lines.specs.Lines.{lines_of, ended, line_at, start_behind}
use Rattle.lines.proofs.Laws.{pass-then, drop-take, begins, located, lines-behind}
use Rattle.lines.proofs.Joins.{ended-behind}
use Rattle.forms.specs.Forms.{Slot, value_number}
use Rattle.layout.specs.Rows.{Row}
use Rattle.layout.specs.Layout.{step_of}
use Rattle.layout.specs.declared.Place.{Place}
use Rattle.walk.specs.Walk.{value_verdict, walk_of}
use Rattle.walk.proofs.Lines as Walk
use Rattle.reader.proofs.Passes as Reader
use Rattle.glance.specs.Steps.{Ended, Tells, HeadTold, BodyTold}
use Rattle.glance.specs.declared.Taken.{Taken}
use Rattle.glance.proofs.Lines.{IsEnding, Shape, shape, shape-front, line-is}

-- ---- a line at a place of a text, and any bytes behind it

module _ (s : List ℕ) (at end next : ℕ) (h : at ≤ length s) (e : Ended (drop at s) end next) (p : printed (take end (drop at s)) ≡ true) where
  abbrev f : Shape (drop at s) end next
  f = shape (drop at s) end next e

  -- the line, and what was chosen to follow it
  abbrev pub with : List ℕ → List ℕ
  with y = take next (drop at s) ++ y

  pub with-front : (y : List ℕ) → take at s ++ with y ≡ take (at + next) s ++ y
  with-front y = sym (append_assoc (take at s) (take next (drop at s)) y) ∙ ap (λ (x : List ℕ). x ++ y) (sym (take-add at next s))

  here : (y : List ℕ) → drop at (take at s ++ with y) ≡ with y
  here y = drop_at (take at s) (with y) at (length-take-le at s h)

  pub line-told : (y : List ℕ) → record { end = at + end; next = at + next } ≡ line_at (take at s ++ with y) at
  line-told y =
      let l = f.long in
      let w : length (take end (drop at s)) + length f.over ≡ next = rw l (sym f.wide) in
      let i = line-is (take end (drop at s)) f.over y p f.is (take at s) at (length-take-le at s h) in
      rw (shape-front (drop at s) end next f y) (rw (w, l) at i)

  long : length (take next (drop at s)) ≡ next
  long = length-take-le next (drop at s) e.within

  pub more : (y : List ℕ) → at < length (take at s ++ with y)
  more y =
      let a = length-append (take at s) (with y) in
      let b = length-append (take next (drop at s)) y in
      let c = length-take-le at s h in
      let d = long in
      let g = e.grows in
      omega arith

  -- it has its ending
  pub end-told : (y : List ℕ) → y ≡ [] → ended (take at s ++ with y) ≡ true
  unfolding ended
  end-told y q =
      ap (λ (x : List ℕ). ended (take at s ++ x)) (shape-front (drop at s) end next f y)
      ∙ ended-behind (take at s) _ (ended-behind (take end (drop at s)) (f.over ++ y) (on f.is))
    where
      on : IsEnding f.over → ended (f.over ++ y) ≡ true
      on (inl o) = rw (o, q)
      on (inr o) = rw (o, q)

  pub text-told : (y : List ℕ) → take (at + end - at) (drop at (take at s ++ with y)) ≡ take end (drop at s)
  text-told y =
      let w : at + end - at ≡ end = omega arith in
      let g = e.grows in
      let d = long in
      rw (w, here y) (take-append-le end (take next (drop at s)) y (omega arith) ∙ take-take end next (drop at s) (omega arith))

  pub value-told : (y : List ℕ) (k : ℕ) → take (at + end - (at + k)) (drop (at + k) (take at s ++ with y)) ≡ drop k (take end (drop at s))
  value-told y k = sym (drop-take (take at s ++ with y) at (at + end) k) ∙ ap (drop k) (text-told y)

-- ---- the header

module _ (slot_of : ℕ → Slot) (header s starts₀ ends₀ : List ℕ) where
  -- what is known in front of any bytes
  abbrev pub Heads : List ℕ → List ℕ → ℕ → ℕ → Type 0
  Heads starts ends at i = (y : List ℕ) → Reader.Kept slot_of (take at s ++ y) header starts₀ ends₀ starts ends pass at i

  pub heads-begin : length starts₀ ≡ slot_count → length ends₀ ≡ slot_count → Heads starts₀ ends₀ 0 0
  heads-begin a b y = Reader.begin slot_of y header starts₀ ends₀ a b

  module _ (starts ends : List ℕ) (at i : ℕ) (k : Heads starts ends at i) where
    pub heads-again : (end next : ℕ) → at ≤ length s → Ended (drop at s) end next → printed (take end (drop at s)) ≡ true
        → i < length header → value_number (slot_of (get_or header i 0)) (take end (drop at s)) ≡ 0
        → (starts' ends' : List ℕ) → starts' ≡ set starts (get_or header i 0) (at + length (slot_of (get_or header i 0)).fixed) → ends' ≡ set ends (get_or header i 0) (at + end)
        → Heads starts' ends' (at + next) (i + 1)
    unfolding pass refused
    heads-again end next h e p more' v starts' ends' a b y =
        let y' = with s at end next h e p y in
        let zero : value_number (slot_of (get_or header i 0)) (take (at + end - at) (drop at (take at s ++ y'))) ≡ 0 = rw (text-told s at end next h e p y) v in
        let fault : pass ≡ then pass (Reader.judged (value_number (slot_of (get_or header i 0)) (take (at + end - at) (drop at (take at s ++ y')))) (i + 1)) = rw zero (sym (pass-then pass)) in
        rw (with-front s at end next h e p y) at
        (Reader.again slot_of (take at s ++ y') header starts₀ ends₀ starts ends pass at i (k y') _ (line-told s at end next h e p y) more' starts' ends' pass fault a b)

    pub heads-over : length header ≤ i → i ≤ length header → (y : List ℕ) → HeadTold slot_of header s starts₀ ends₀ starts ends at y
    heads-over h g y =
        let o = Reader.over slot_of (take at s ++ y) header starts₀ ends₀ starts ends pass at i (k y) h in
        let n : i ≡ length header = omega arith in
        record {
          head = sym o.0;
          begun = sym o.1;
          over = sym o.2;
          placed = (k y).placed ∙ ap (start_behind (take at s ++ y)) n;
          starts-long = (k y).starts-long;
          ends-long = (k y).ends-long;
        }

-- ---- the lines behind the header

module _ (table : List Row) (slot_of : ℕ → Slot) (s starts₀ ends₀ : List ℕ) where
  -- what is known in front of any bytes, of a line behind the header
  abbrev At : List ℕ → List ℕ → List ℕ → Place → ℕ → List ℕ → Type 0
  At starts ends seen here at y = (n : ℕ) × (5 ≤ n) × Walk.Kept table slot_of (take at s ++ y) starts₀ ends₀ starts ends seen here pass at n

  abbrev pub Lines : List ℕ → List ℕ → List ℕ → Place → ℕ → Type 0
  Lines starts ends seen here at = (y : List ℕ) → At starts ends seen here at y

  -- and of the line that was taken last: none was yet, or it is the last of those up to here
  pub record Last (last stop at : ℕ) : Type 0 where
    pub closed : ended (take at s) ≡ true
    pub early : List (List ℕ)
    pub lines : drop 4 (lines_of (take at s)) ≡ early ++ take (stop - last) (drop last s) ∷ []

  pub lines-begin : (from : ℕ) → length starts₀ ≡ slot_count → length ends₀ ≡ slot_count → ((y : List ℕ) → from ≡ start_behind (take from s ++ y) 4)
      → Lines starts₀ ends₀ (replicate {A = ℕ} slot_count 0) (record { row = 0; back = 0 }) from
  lines-begin from a b c y = (5, omega arith, Walk.begin table slot_of (take from s ++ y) starts₀ ends₀ from (c y) a b)

  module _ (starts ends seen : List ℕ) (here : Place) (at : ℕ) (k : Lines starts ends seen here at) where
    module _ (t : Taken) (h : at ≤ length s) (e : Ended (drop at s) t.end t.next) (g : Tells table slot_of here seen (drop at s) t) where
      abbrev slot : ℕ
      slot = t.step.slot

      -- nothing is wrong with the value
      fault-none : (n : ℕ) (v : List ℕ) → v ≡ drop t.step.width (take t.end (drop at s)) → pass ≡ cond (eqb slot 0) pass (then pass (value_verdict slot_of (record { slot = slot; line = n; value = v })))
      unfolding value_verdict
      fault-none n v w = on (eqb slot 0) refl
        where
          on : (b : Bool) → eqb slot 0 ≡ b → pass ≡ cond b pass (then pass (cond (eqb (value_number (slot_of slot) v) 0) pass (refused (value_number (slot_of slot) v) n)))
          on true q = refl
          on false q = let z = (g.valued (eqb-false slot 0 q)).1 in rw (w, z) (sym (pass-then pass))

      starts-so : (starts' : List ℕ) → starts' ≡ cond (eqb slot 0) starts (set starts slot (at + t.value + length (slot_of slot).fixed))
          → starts' ≡ cond (eqb slot 0) starts (set starts slot (at + t.step.width + length (slot_of slot).fixed))
      starts-so starts' a = on (eqb slot 0) refl a
        where
          on : (b : Bool) → eqb slot 0 ≡ b → starts' ≡ cond b starts (set starts slot (at + t.value + length (slot_of slot).fixed))
              → starts' ≡ cond b starts (set starts slot (at + t.step.width + length (slot_of slot).fixed))
          on true q x = x
          on false q x = rw (← (g.valued (eqb-false slot 0 q)).0) x

      pub lines-again : (starts' ends' seen' : List ℕ) → starts' ≡ cond (eqb slot 0) starts (set starts slot (at + t.value + length (slot_of slot).fixed))
          → ends' ≡ cond (eqb slot 0) ends (set ends slot (at + t.end)) → seen' ≡ set seen slot 1
          → Lines starts' ends' seen' t.step.place (at + t.next)
      lines-again starts' ends' seen' a b c y =
          let y' = with s at t.end t.next h e g.text y in
          let m : List ℕ = take at s ++ y' in
          let (n, five, kept) = k y' in
          let step : t.step ≡ step_of table here seen (take (at + t.end - at) (drop at m)) = g.takes ∙ ap (step_of table here seen) (sym (text-told s at t.end t.next h e g.text y)) in
          let fault = fault-none n _ (value-told s at t.end t.next h e g.text y t.step.width) in
          let next = Walk.again table slot_of m starts₀ ends₀ starts ends seen here pass at n kept _ (line-told s at t.end t.next h e g.text y)
          (more s at t.end t.next h e g.text y) t.step step g.good starts' ends' seen' pass (starts-so starts' a) b c fault in
          (n + 1, omega arith, rw (with-front s at t.end t.next h e g.text y) at next)

      -- the line that was taken is the last of those up to here
      pub last-is : Last at (at + t.end) (at + t.next)
      last-is =
          let y : List ℕ = with s at t.end t.next h e g.text [] in
          let m : List ℕ = take at s ++ y in
          let (n, five, kept) = k y in
          let whole : m ≡ take (at + t.next) s = with-front s at t.end t.next h e g.text [] ∙ append-nil (take (at + t.next) s) in
          let spot = located m at _ (line-told s at t.end t.next h e g.text []) (more s at t.end t.next h e g.text []) in
          let none : lines_of (drop (at + t.next) m) ≡ [] = lines-behind m (at + t.next) (long-whole m whole) in
          let lines : drop kept.lines (lines_of m) ≡ take (at + t.end - at) (drop at s) ∷ [] =
          sym (ap (λ (x : ℕ). lines_of (drop x m)) kept.placed ∙ (begins m kept.lines).rest)
          ∙ spot.go_on ∙ rw (none, text-told s at t.end t.next h e g.text [], width) in
          let four : 4 + (kept.lines - 4) ≡ kept.lines = let c = kept.count in omega arith in
          record {
            closed = ap ended (sym whole) ∙ end-told s at t.end t.next h e g.text [] refl;
            early = take (kept.lines - 4) (drop 4 (lines_of m));
            lines = ap (λ (x : List ℕ). drop 4 (lines_of x)) (sym whole) ∙ sym (take-append-drop (kept.lines - 4) (drop 4 (lines_of m)))
                ∙ ap (λ (x : List (List ℕ)). take (kept.lines - 4) (drop 4 (lines_of m)) ++ x) (drop-drop (kept.lines - 4) 4 (lines_of m) ∙ ap (λ (x : ℕ). drop x (lines_of m)) four ∙ lines);
          }
        where
          width : take t.end (drop at s) ≡ take (at + t.end - at) (drop at s)
          width = let w : t.end ≡ at + t.end - at = omega arith in ap (λ (x : ℕ). take x (drop at s)) w

          long-whole : (m : List ℕ) → m ≡ take (at + t.next) s → length m ≤ at + t.next
          long-whole m q = rw q (let l = length-take (at + t.next) s in omega arith)

    -- ---- at the end of the table
    pub body-told : (n last stop : ℕ) → n ≡ at → n ≤ 4096 → take (stop - last) (drop last s) ≡ bytes "-" → Last last stop at → BodyTold table slot_of s starts₀ ends₀ starts ends n
    body-told n last stop i short dash l =
        let (j, five, kept) = k [] in
        let whole : take at s ++ [] ≡ take at s = append-nil (take at s) in
        let o = Walk.over table slot_of (take at s ++ []) starts₀ ends₀ starts ends seen here pass at j kept (rw whole (let x = length-take at s in omega arith)) in
        rw i record {
          short = rw (← i) short;
          closed = l.closed;
          early = l.early;
          last = l.lines ∙ ap (λ (x : List ℕ). l.early ++ x ∷ []) dash;
          body = ap (λ (x : List ℕ). walk_of table slot_of x starts₀ ends₀) (sym whole) ∙ sym o;
        }
