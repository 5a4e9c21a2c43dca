-- Values put one behind the other: a value, then another, and all of them; and that where all have room, the stretch of a slot is
-- its value.
-- Assumes nothing.
use Prim.Native.Nat.{ℕ, zero, suc, ◌+◌, ◌-◌, ◌≤◌}
use mathlib.Core.Path.{◌≡◌, refl, sym, ap, ◌∙◌}
use mathlib.Core.Bool.{Bool, true, false, ◌&&◌, cond}
use mathlib.Core.List.{List, [], ◌∷◌, ◌++◌, append_assoc, flatten}
use native.Mathlib.Nat.{add-zero, add-suc, suc-add, zero-sub}
use native.Mathlib.Omega.{arith}
use lib.Dec.{leb}
use lib.ListN.{length, take, drop, get_or, set, length-append}
use lib.Seq.{sets, take_at, drop_at}
use borrow.Author.Tests.{le-leb}
use Rattle.text.specs.Copy.{over, fits, placed, after}
use Rattle.text.proofs.Laws.{put-none, length-placed}
use Rattle.stretches.specs.Stretches.{between, stretch_of}
use Rattle.stretches.proofs.Handing.{sets-all}
use Rattle.fill.specs.Runs.{over_run, behind_run}
use Rattle.fill.proofs.Runs.{then, flat_append, end_of, whole}
use Rattle.fill.specs.Places.{ends}

-- ---- values put from a place on: the place behind them, what the text holds, where each ends, and the bytes that they have at most

abbrev pub Kept : List ℕ → ℕ → List (List ℕ) → ℕ → List ℕ → List ℕ → ℕ → Type 0
Kept buf at vs r now es n = (r ≡ behind_run buf at vs) × (now ≡ over_run buf at vs) × (es ≡ ends buf at vs) × (length (flatten vs) ≤ n)

pub kept : (buf : List ℕ) (at : ℕ) (v : List ℕ) {r : ℕ} {now : List ℕ} (n : ℕ) → (r ≡ after buf at v) × (now ≡ placed buf at v) × (length v ≤ n)
    → Kept buf at (v ∷ []) r now (r ∷ []) n
unfolding behind_run over_run ends flatten
kept buf at v n p = let l = length-append v [] in let h = p.2 in (p.0, p.1, ap (λ (x : ℕ). x ∷ []) p.0, omega arith)

ends-append : (vs ws : List (List ℕ)) (buf : List ℕ) (at : ℕ) → ends buf at (vs ++ ws) ≡ ends buf at vs ++ ends (over_run buf at vs) (behind_run buf at vs) ws
unfolding behind_run over_run ends
ends-append [] ws buf at = refl
ends-append (v ∷ vs) ws buf at = ap (λ (es : List ℕ). after buf at v ∷ es) (ends-append vs ws (placed buf at v) (after buf at v))

pub behind : (buf : List ℕ) (at : ℕ) (vs ws : List (List ℕ)) {r₁ r₂ : ℕ} {b₁ b₂ : List ℕ} (es fs : List ℕ) (n m : ℕ)
    → Kept buf at vs r₁ b₁ es n → Kept b₁ r₁ ws r₂ b₂ fs m → Kept buf at (vs ++ ws) r₂ b₂ (es ++ fs) (n + m)
behind buf at vs ws es fs n m p q =
    let t = then buf at vs ws (p.0, p.1) (q.0, q.1) in
    let l = ap length (flat_append vs ws) in
    let k = length-append (flatten vs) (flatten ws) in
    let x = p.3 in
    let y = q.3 in
    (t.0, t.1, rw (p.2, q.2, p.0, p.1) (sym (ends-append vs ws buf at)), omega arith)

-- where there is no value
pub none_kept : (buf : List ℕ) (at : ℕ) → Kept buf at ([] ∷ []) at buf (at ∷ []) 0
none_kept buf at = let n = put-none buf at in kept buf at [] 0 (n.0, n.1, omega arith)

-- ---- places kept

sets-append : (es fs : List ℕ) (ps : List ℕ) (k : ℕ) → sets ps k (es ++ fs) ≡ sets (sets ps k es) (k + length es) fs
sets-append [] fs ps k = rw add-zero
sets-append (e ∷ es) fs ps k = sets-append es fs (set ps k e) (suc k) ∙ rw (suc-add, add-suc)

-- the same with the places kept from the k-th on, which is what each block says
abbrev pub Stored : List ℕ → List ℕ → ℕ → ℕ → List (List ℕ) → ℕ → List ℕ → List ℕ → ℕ → Type 0
Stored buf ps at k vs r now qs n = (r ≡ behind_run buf at vs) × (now ≡ over_run buf at vs) × (qs ≡ sets ps k (ends buf at vs)) × (length (flatten vs) ≤ n)

pub stored : (buf ps : List ℕ) (at k : ℕ) (vs : List (List ℕ)) {r : ℕ} {now qs : List ℕ} (es : List ℕ) (n : ℕ)
    → Kept buf at vs r now es n → qs ≡ sets ps k es → Stored buf ps at k vs r now qs n
stored buf ps at k vs es n p e = (p.0, p.1, e ∙ rw p.2, p.3)

length-ends : (vs : List (List ℕ)) (buf : List ℕ) (at : ℕ) → length (ends buf at vs) ≡ length vs
unfolding ends
length-ends [] buf at = refl
length-ends (v ∷ vs) buf at = ap suc (length-ends vs (placed buf at v) (after buf at v))

pub more : (buf ps : List ℕ) (at k l : ℕ) (vs ws : List (List ℕ)) {r₁ r₂ : ℕ} {b₁ b₂ p₁ p₂ : List ℕ} (n m : ℕ) → l ≡ k + length vs
    → Stored buf ps at k vs r₁ b₁ p₁ n → Stored b₁ p₁ r₁ l ws r₂ b₂ p₂ m → Stored buf ps at k (vs ++ ws) r₂ b₂ p₂ (n + m)
more buf ps at k l vs ws n m g p q =
    let t = then buf at vs ws (p.0, p.1) (q.0, q.1) in
    let x = length-append (flatten vs) (flatten ws) in
    let y = ap length (flat_append vs ws) in
    let h = p.3 in
    let i = q.3 in
    let es = ends buf at vs in (
      t.0,
      t.1,
      q.2
          ∙ rw (p.2, p.0, p.1, g, ← length-ends vs buf at) (sym (ap (λ (fs : List ℕ). sets ps k fs) (ends-append vs ws buf at) ∙ sets-append es _ ps k)),
      omega arith,
    )

-- all of them, in as many places as there are
pub all-places : (buf ps : List ℕ) (vs : List (List ℕ)) {r : ℕ} {now qs : List ℕ} (n : ℕ) → length ps ≡ suc (length vs)
    → Stored buf (set ps 0 0) 0 1 vs r now qs n → (now ≡ over_run buf 0 vs) × (qs ≡ 0 ∷ ends buf 0 vs) × (length (flatten vs) ≤ n)
all-places buf ps vs n h p = (p.1, p.2 ∙ sets-all (0 ∷ ends buf 0 vs) ps (h ∙ ap suc (sym (length-ends vs buf 0))), p.3)

-- ---- where all have room, the stretch of a slot is its value

abbrev sums : ℕ → List (List ℕ) → List ℕ
sums at [] = []
sums at (v ∷ vs) = (at + length v) ∷ sums (at + length v) vs

ends-sums : (vs : List (List ℕ)) (buf : List ℕ) (at : ℕ) → at + length (flatten vs) ≤ length buf → ends buf at vs ≡ sums at vs
unfolding flatten ends
ends-sums [] buf at h = refl
ends-sums (v ∷ vs) buf at h =
    let l = length-append v (flatten vs) in
    let e : after buf at v ≡ at + length v = end_of buf at v {r = after buf at v} refl (omega arith) in
    let n = length-placed buf at v in
    rw e (ap (λ (es : List ℕ). (at + length v) ∷ es) (ends-sums vs (placed buf at v) (at + length v) (omega arith)))

between_is : (pre v post : List ℕ) (at : ℕ) → length pre ≡ at → between (pre ++ (v ++ post)) at (at + length v) ≡ v
unfolding between
between_is pre v post at e =
    let l = length-append pre (v ++ post) in
    let k = length-append v post in
    rw (le-leb at (at + length v) (omega arith), le-leb (at + length v) (length (pre ++ (v ++ post))) (omega arith), drop_at pre (v ++ post) at e)
    (take_at v post (at + length v - at) (omega arith))

between_none : (m : List ℕ) (from : ℕ) → between m from 0 ≡ []
unfolding between
between_none m from = go (leb from 0 && leb 0 (length m))
  where
    go : (b : Bool) → cond b (take (0 - from) (drop from m)) [] ≡ []
    go true = rw (zero-sub from)
    go false = refl

stretch-is : (vs : List (List ℕ)) (pre post : List ℕ) (at : ℕ) → length pre ≡ at → (slot : ℕ)
    → stretch_of (pre ++ (flatten vs ++ post)) (at ∷ sums at vs) (sums at vs) slot ≡ get_or vs slot []
unfolding flatten stretch_of
stretch-is [] pre post at e slot = between_none (pre ++ post) (get_or (at ∷ []) slot 0)
stretch-is (v ∷ vs) pre post at e zero = rw (append_assoc v (flatten vs) post) (between_is pre v (flatten vs ++ post) at e)
stretch-is (v ∷ vs) pre post at e (suc slot) =
    let l = length-append pre v in
    rw (append_assoc v (flatten vs) post, ← append_assoc pre v (flatten vs ++ post)) (stretch-is vs (pre ++ v) post (at + length v) (omega arith) slot)

pub stretch-held : (vs : List (List ℕ)) (buf : List ℕ) → length (flatten vs) ≤ length buf → (slot : ℕ)
    → stretch_of (over_run buf 0 vs) (0 ∷ ends buf 0 vs) (ends buf 0 vs) slot ≡ get_or vs slot []
unfolding placed over fits
stretch-held vs buf h slot =
    let w = whole vs buf 0 {r = behind_run buf 0 vs} {now = over_run buf 0 vs} (refl, refl) (omega arith) in
    let f : leb (0 + length (flatten vs)) (length buf) ≡ true = le-leb (0 + length (flatten vs)) (length buf) (omega arith) in
    rw (w.1, ends-sums vs buf 0 (omega arith), f) (stretch-is vs [] (drop (0 + length (flatten vs)) buf) 0 refl slot)
