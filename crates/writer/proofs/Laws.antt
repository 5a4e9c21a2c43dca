-- What callers cite: the parts of a message type, put where all have room, are the message of the record whose values they hold.
-- Assumes nothing.
use Prim.Native.Nat.{ℕ, suc, ◌≤◌}
use mathlib.Core.Path.{◌≡◌, refl, sym, ap, fun_ext, ◌∙◌}
use mathlib.Core.Bool.{Bool, true, false, ◌&&◌, cond, and-false}
use mathlib.Core.List.{List, [], ◌∷◌, ◌++◌, map, append_assoc, append-nil, flatten}
use native.Mathlib.Omega.{arith}
use lib.Dec.{eqb}
use lib.ListN.{length}
use borrow.Author.Tests.{ne_eqb}
use Rattle.text.specs.Bytes.{bytes}
use Rattle.lines.specs.Lines.{joined}
use Rattle.forms.specs.Forms.{Slot}
use Rattle.sheets.specs.Trees.{table_of}
use Rattle.sheets.specs.Sheets.{lines_in}
use Rattle.sheets.specs.Filled.{filled}
use Rattle.fill.specs.Filling.{walk}
use Rattle.fill.proofs.Runs.{Put, Run, flat_append, whole}
use Rattle.fill.proofs.Trees.{joined-append, walk_is}
use Rattle.format.specs.Format.{Format, optional}
use Rattle.format.specs.Writing.{behind_in, head_line, lines_for, message_of}
use Rattle.writer.specs.Parts.{head_parts, fixed_for, parts_for}

-- the fixed text that is left out where nothing follows it
pub left_out : (o : Bool) (f v : List ℕ) → cond (o && eqb (length v) 0) [] f ++ v ≡ cond (o && eqb (length v) 0) [] (f ++ v)
left_out o f [] = go (o && eqb 0 0)
  where
    go : (b : Bool) → cond b [] f ++ [] ≡ cond b [] (f ++ [])
    go true = refl
    go false = refl
left_out o f (b ∷ v) = rw (ne_eqb (suc (length v)) 0 (λ h. let z : ⊥ = omega arith in z), and-false o)

header_is : (slot_of : ℕ → Slot) (value : ℕ → List ℕ) (header : List ℕ)
    → flatten (head_parts slot_of value header) ≡ joined (map (λ h. (slot_of h).fixed ++ value h) header)
unfolding flatten joined head_parts
header_is slot_of value [] = refl
header_is slot_of value (h ∷ hs) =
    rw (header_is slot_of value hs)
    (sym (append_assoc (slot_of h).fixed (value h) (bytes "\r\n" ++ joined (map (λ h. (slot_of h).fixed ++ value h) hs))))

module _ (F : Format) (r : F.Held) (value : ℕ → List ℕ) (held : (s : ℕ) → value s ≡ F.value_of r s) where
  parts-flat : (s : ℕ) → flatten (fixed_for F value s ∷ value s ∷ []) ≡ behind_in F value s
  unfolding flatten fixed_for behind_in
  parts-flat s = ap (λ (v : List ℕ). fixed_for F value s ++ v) (append-nil (value s)) ∙ left_out (optional F s) (F.slot_of s).fixed (value s)

  abbrev lines_with : (ℕ → List ℕ) → List (List ℕ)
  lines_with v = map (λ h. (F.slot_of h).fixed ++ v h) F.header ++ lines_in (filled (behind_in F v) F.tree)

  parts-joined : flatten (parts_for F value) ≡ joined (lines_with value)
  unfolding parts_for
  parts-joined =
      let head = map (λ h. (F.slot_of h).fixed ++ value h) F.header in
      flat_append (head_parts F.slot_of value F.header) (walk (behind_in F value) (λ s. fixed_for F value s ∷ value s ∷ []) [] 0 (table_of F.tree))
      ∙ rw (header_is F.slot_of value F.header, walk_is (behind_in F value) (λ s. fixed_for F value s ∷ value s ∷ []) parts-flat F.tree)
      (sym (joined-append head (lines_in (filled (behind_in F value) F.tree))))

  parts_are : flatten (parts_for F value) ≡ message_of F r
  unfolding message_of lines_for head_line
  parts_are = parts-joined ∙ ap (λ (v : ℕ → List ℕ). joined (lines_with v)) (fun_ext held)

  -- put where all have room, the parts are the message
  pub put_whole : (buf : List ℕ) {n : ℕ} {now : List ℕ} → Run buf 0 (parts_for F value) n now → length (message_of F r) ≤ length buf → Put buf 0 (message_of F r) n now
  put_whole buf p room =
      let e = ap length parts_are in
      rw (← parts_are) (whole (parts_for F value) buf 0 p (omega arith))
