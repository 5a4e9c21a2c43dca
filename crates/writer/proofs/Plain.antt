-- What callers cite: the plain form of an accepted message of any type, put from the message's own stretches with the amounts moved in,
-- and the answers of asking for it, by what the program does: it is composed elsewhere, and put where it has room.
-- Assumes nothing.
use Prim.Native.Nat.{ℕ, ◌≤◌, ◌<◌}
use mathlib.Core.Path.{◌≡◌, sym, ap, ◌∙◌}
use mathlib.Core.Bool.{true}
use mathlib.Core.List.{List, []}
use lib.ListN.{length}
use Rattle.text.specs.Copy.{placed}
use Rattle.stretches.specs.Stretches.{slot_count, stretch_of}
use Rattle.walk.specs.declared.Body.{Body}
use Rattle.fill.proofs.Runs.{Put, Run}
use Rattle.format.specs.Format.{Format}
use Rattle.format.specs.Writing.{message_of}
use Rattle.format.specs.Plain.{plain_of}
use Rattle.format.specs.Kept.{kept_of}
use Rattle.format.specs.Demands.{Accepted, held_in}
use Rattle.format.proofs.Laws.{Layout, Laws}
use Rattle.format.proofs.Demands.{judged, plainly}
use Rattle.format.proofs.Asking as Asking
use Rattle.format.proofs.Asking.{Asked}
use Rattle.format.proofs.Lent.{Amounts}
use Rattle.format.proofs.Moved.{Places, none-moved, all_moved, Moves, onto, movable, some-moved}
use Rattle.writer.specs.Parts.{parts_for}
use Rattle.writer.proofs.Laws.{put_whole}
use Rattle.writer.proofs.Writes as Writes
use Rattle.writer.proofs.Writes.{Answer}

module _ (F : Format) (L : Layout F) (W : Laws F) (m : List ℕ) (z : Accepted F m) where
  -- put where all have room, the parts are the plain form
  pub put-plain : (ks : List ℕ) → Amounts F ks → {starts ends : List ℕ} → Places F L W m z ks starts ends → (buf : List ℕ) {n : ℕ} {now : List ℕ}
      → Run buf 0 (parts_for F (stretch_of m starts ends)) n now → length (plain_of F m) ≤ length buf → Put buf 0 (plain_of F m) n now
  put-plain ks A {starts} {ends} p buf run room =
      let plain = plainly F L W m z in
      rw plain at (put_whole F (held_in F m) (stretch_of m starts ends) (all_moved F L W m z ks A p) buf run (rw plain room))

  -- from the places that were kept, with the amounts of a list of slots moved in one after the other
  pub put-moved : (ks : List ℕ) → movable ks [] ≡ true → Amounts F (onto ks []) → (r : Body) → r ≡ kept_of F m → length r.starts ≡ slot_count → length r.ends ≡ slot_count
      → {starts ends : List ℕ} → Moves m ks r.starts r.ends starts ends → (buf : List ℕ) {n : ℕ} {now : List ℕ}
      → Run buf 0 (parts_for F (stretch_of m starts ends)) n now → length (plain_of F m) ≤ length buf → Put buf 0 (plain_of F m) n now
  put-moved ks t A r is l e moves = put-plain (onto ks []) A (some-moved F L W m z moves t (none-moved F L W m z r is l e))

  -- ---- the answers

  module _ (buf : List ℕ) where
    passed_on : {n k : ℕ} {now : List ℕ} → Answer F (held_in F m) buf n k now → Asked F m buf (record { number = n; line = 0 }) k now
    passed_on a = rw (a.is_number, a.is-length, a.is-over) (Asking.passed_on F m buf L W z)

    module _ (r : ℕ) (e : r ≡ length (plain_of F m)) where
      long : r ≡ length (message_of F (held_in F m))
      long = e ∙ ap length (sym (plainly F L W m z))

      pub no_room : length buf < r → Asked F m buf (record { number = 19; line = 0 }) 0 buf
      no_room h = passed_on (Writes.no_room F (held_in F m) buf (judged F L W m z) r long h)

      pub written : r ≤ length buf → (now : List ℕ) → now ≡ placed buf 0 (plain_of F m) → Asked F m buf (record { number = 0; line = 0 }) r now
      written h now p =
          passed_on (Writes.written F (held_in F m) buf (judged F L W m z) r long h now (p ∙ ap (placed buf 0) (sym (plainly F L W m z))))
