-- The loops over the lines of the header and over those behind it: what is known at each turn, whatever the tables are, and what is known
-- where they are clean.
-- Assumes nothing.
use Prim.Native.Nat.{ℕ, ◌+◌, ◌-◌, ◌≤◌, ◌<◌}
use mathlib.Core.Path.{◌≡◌, refl, sym, ap, ◌∙◌}
use mathlib.Core.Bool.{Bool, true, false, cond}
use mathlib.Core.List.{List, [], ◌++◌}
use mathlib.Core.Logic.{◌⊎◌, inl, inr}
use native.Mathlib.Omega.{arith}
use lib.Dec.{eqb}
use lib.ListN.{length, take, drop, get_or, set, replicate, length-set, length-drop}
use lib.Seq.{take-add}
use Rattle.std.proofs.Common.{Option, Some, None}
use Rattle.text.specs.Bytes.{bytes}
use Rattle.stretches.specs.Stretches.{slot_count}
use Rattle.lines.specs.Lines.{start_behind}
use Rattle.forms.specs.Forms.{Slot}
use Rattle.layout.specs.Rows.{Row}
use Rattle.layout.specs.declared.Place.{Place}
use Rattle.reader.specs.Header.{starts_from, ends_from}
use Rattle.measure.specs.Measure.{clean_slot, Measured}
use Rattle.fitting.specs.Fitting.{clean_rows}
use Rattle.glance.specs.Glance.{Says}
use Rattle.glance.specs.Steps.{Ended, Sees, HeadSays, Closes, BodyTold, BodySays}
use Rattle.glance.specs.declared.Taken.{Taken}
use Rattle.glance.proofs.Lines.{ended-from}
use Rattle.glance.proofs.Taking as Taking
use Rattle.glance.proofs.Taking.{Last, heads-begin, heads-again, heads-over, lines-begin, lines-again, last-is, body-told}

-- the slots are clean
abbrev CleanSlots : (ℕ → Slot) → Type 0
CleanSlots slot_of = (i : ℕ) → clean_slot (slot_of i) ≡ true

-- a line from a place on ends within the text
pub within : (s : List ℕ) (at end next : ℕ) → at ≤ length s → Ended (drop at s) end next → (at + next ≤ length s) × (end < next)
within s at end next h e =
    let l = length-drop at s in
    let w = e.within in
    (omega arith, e.grows)

-- ---- the header

module _ (slot_of : ℕ → Slot) (header s starts₀ ends₀ : List ℕ) where
  pub record Head (starts ends : List ℕ) (at i : ℕ) : Type 0 where
    pub place : at ≤ length s
    pub count : i ≤ length header
    pub starts-same : length starts ≡ length starts₀
    pub ends_same : length ends ≡ length ends₀
    pub known : CleanSlots slot_of → length starts₀ ≡ slot_count → length ends₀ ≡ slot_count → Taking.Heads slot_of header s starts₀ ends₀ starts ends at i

  pub head-begin : Head starts₀ ends₀ 0 0
  head-begin = record { place = omega arith; count = omega arith; starts-same = refl; ends_same = refl; known = λ c a b. heads-begin slot_of header s starts₀ ends₀ a b }

  module _ (starts ends : List ℕ) (at i : ℕ) (k : Head starts ends at i) where
    pub head-again : (n next : ℕ) → Measured (slot_of (get_or header i 0)) (drop at s) (Some n) → Ended s (at + n) next → i < length header
        → (starts' ends' : List ℕ) → starts' ≡ set starts (get_or header i 0) (at + length (slot_of (get_or header i 0)).fixed) → ends' ≡ set ends (get_or header i 0) (at + n)
        → Head starts' ends' next (i + 1)
    unfolding Measured
    head-again n next (h, v, p) e more starts' ends' a b =
        let (f, w) = ended-from s at n next e in
        record {
          place = e.within;
          count = omega arith;
          starts-same = ap length a ∙ length-set starts _ _ ∙ k.starts-same;
          ends_same = ap length b ∙ length-set ends _ _ ∙ k.ends_same;
          known = λ c x y. rw w at
              (heads-again slot_of header s starts₀ ends₀ starts ends at i (k.known c x y) n (next - at) k.place f (p (c (get_or header i 0))) more v starts' ends' a b);
        }

    pub head-says : length header ≤ i → HeadSays slot_of header s starts₀ ends₀ starts ends (Some at)
    unfolding HeadSays
    head-says h = (k.place, λ c a b y. heads-over slot_of header s starts₀ ends₀ starts ends at i (k.known c a b) h k.count y)

-- ---- the lines behind it

module _ (table : List Row) (slot_of : ℕ → Slot) (s : List ℕ) (from : ℕ) (starts₀ ends₀ : List ℕ) where
  -- where the header ends, whatever follows it
  abbrev Behind : Type 0
  Behind = (y : List ℕ) → from ≡ start_behind (take from s ++ y) 4

  pub record Body (starts ends seen : List ℕ) (here : Place) (last stop at : ℕ) : Type 0 where
    pub place : at ≤ length s
    pub behind : from ≤ at
    pub line : last ≤ stop
    pub text : stop ≤ length s
    pub seen-long : length seen ≡ slot_count
    pub starts-same : length starts ≡ length starts₀
    pub ends_same : length ends ≡ length ends₀
    pub known : clean_rows table ≡ true → CleanSlots slot_of → length starts₀ ≡ slot_count → length ends₀ ≡ slot_count → Behind
        → Taking.Lines table slot_of s starts₀ ends₀ starts ends seen here at × ((last ≡ stop) ⊎ Last table slot_of s starts₀ ends₀ last stop at)

  pub body-begin : from ≤ length s → Body starts₀ ends₀ (replicate {A = ℕ} slot_count 0) (record { row = 0; back = 0 }) from from from
  body-begin h =
      record {
        place = h;
        behind = omega arith;
        line = omega arith;
        text = h;
        seen-long = refl;
        starts-same = refl;
        ends_same = refl;
        known = λ r c a b z. (lines-begin table slot_of s starts₀ ends₀ from a b z, inl refl);
      }

  module _ (starts ends seen : List ℕ) (here : Place) (last stop at : ℕ) (k : Body starts ends seen here last stop at) where
    -- a place was kept for the slot of a line, or none for slot 0
    kept_same : (places₀ places places' : List ℕ) (slot x : ℕ) → places' ≡ cond (eqb slot 0) places (set places slot x) → length places ≡ length places₀ → length places' ≡ length places₀
    kept_same places₀ places places' slot x e h = ap length e ∙ on (eqb slot 0) ∙ h
      where
        on : (b : Bool) → length (cond b places (set places slot x)) ≡ length places
        on true = refl
        on false = length-set places slot x

    pub body-again : (t : Taken) → t.told ≡ true → Sees table slot_of here seen (drop at s) t
        → (starts' ends' seen' : List ℕ) → starts' ≡ cond (eqb t.step.slot 0) starts (set starts t.step.slot (at + t.value + length (slot_of t.step.slot).fixed))
        → ends' ≡ cond (eqb t.step.slot 0) ends (set ends t.step.slot (at + t.end)) → seen' ≡ set seen t.step.slot 1
        → Body starts' ends' seen' t.step.place at (at + t.end) (at + t.next)
    unfolding Sees
    body-again t is sees starts' ends' seen' a b d =
        let (v, e, g) = sees is in
        let w = within s at t.end t.next k.place e in
        let f = k.behind in
        record {
          place = w.0;
          behind = omega arith;
          line = omega arith;
          text = omega (arith, w.0, w.1);
          seen-long = ap length d ∙ length-set seen _ _ ∙ k.seen-long;
          starts-same = kept_same starts₀ starts starts' t.step.slot (at + t.value + length (slot_of t.step.slot).fixed) a k.starts-same;
          ends_same = kept_same ends₀ ends ends' t.step.slot (at + t.end) b k.ends_same;
          known = λ r c x y z.
              let tells = g r c in
              let lines = (k.known r c x y z).0 in (
                lines-again table slot_of s starts₀ ends₀ starts ends seen here at lines t k.place e tells starts' ends' seen' a b d,
                inr (last-is table slot_of s starts₀ ends₀ starts ends seen here at lines t k.place e tells),
              );
        }

    pub body-says : (r : Option ℕ) → Closes s last stop at r → BodySays table slot_of s from starts₀ ends₀ starts ends r
    unfolding Closes BodySays bytes
    body-says None d = tt
    body-says (Some n) (i, short, dash) = (rw i k.behind, rw i k.place, λ r c a b z. told (k.known r c a b z))
      where
        told : Taking.Lines table slot_of s starts₀ ends₀ starts ends seen here at × ((last ≡ stop) ⊎ Last table slot_of s starts₀ ends₀ last stop at) → BodyTold table slot_of s starts₀ ends₀ starts ends n
        told (lines, inl q) =
            let none : stop - last ≡ 0 = omega (arith, q) in
            let z : ◌≡◌ {A = ℕ} 0 1 = ap length (sym (ap (λ (x : ℕ). take x (drop last s)) none) ∙ dash) in
            absurd (omega (arith, z))
        told (lines, inr l) = body-told table slot_of s starts₀ ends₀ starts ends seen here at lines n last stop i short dash l

-- ---- both

module _ (table : List Row) (slot_of : ℕ → Slot) (header s starts₀ ends₀ starts₁ ends₁ starts ends : List ℕ) (from : ℕ)
    (long : length starts₀ ≡ slot_count) (wide : length ends₀ ≡ slot_count) (head : HeadSays slot_of header s starts₀ ends₀ starts₁ ends₁ (Some from)) where
  pub says : (r : Option ℕ) → BodySays table slot_of s from starts₁ ends₁ starts ends r → Says table slot_of header s starts₀ ends₀ starts ends r
  unfolding HeadSays BodySays Says
  says None b = tt
  says (Some n) (f, h, b) = λ clean.
      let front = head.1 clean.slots long wide in
      let y : List ℕ = take (n - from) (drop from s) in
      let w : from + (n - from) ≡ n = omega arith in
      let whole : take from s ++ y ≡ take n s = sym (take-add from (n - from) s) ∙ ap (λ (x : ℕ). take x s) w in
      let t = b clean.rows clean.slots (front []).starts-long (front []).ends-long (λ z. (front z).placed ∙ ap (start_behind (take from s ++ z)) clean.four) in
      let begun : starts_from slot_of (take n s) 0 starts₀ header ≡ starts₁ = rw whole at (front y).begun in
      let over : ends_from (take n s) 0 ends₀ header ≡ ends₁ = rw whole at (front y).over in
      record {
        within = h;
        short = t.short;
        closed = t.closed;
        early = t.early;
        last = t.last;
        head = rw whole at (front y).head;
        body = rw (begun, over) t.body;
      }
