-- The mathematics of the crate's functions, over plain lists and numbers: the key of a reason, and a reason put behind it.
-- Assumes nothing.
use Prim.Native.Nat.{ℕ, ◌+◌, ◌≤◌}
use mathlib.Core.Path.{◌≡◌, sym, ap, ◌∙◌}
use mathlib.Core.Bool.{true}
use mathlib.Core.List.{List, ◌++◌, append_assoc}
use native.Mathlib.Omega.{arith}
use lib.ListN.{length, take, drop}
use lib.Seq.{take_at}
use borrow.Author.Tests.{le-leb}
use Rattle.text.specs.Bytes.{bytes}
use Rattle.text.specs.Copy.{over, fits, placed, after}
use Rattle.text.proofs.Laws.{begins-length}
use Rattle.reason.specs.Reason.{has_reason}

pub key_within : (rest : List ℕ) → has_reason rest ≡ true → 5 ≤ length rest
unfolding has_reason bytes
key_within rest h = begins-length (bytes "/DKRS") rest h

-- a text put behind the key into a line of twenty-five bytes
module _ (line s : List ℕ) (long : length line ≡ 25) (key : take 5 line ≡ bytes "/DKRS") (short : length s ≤ 20) where
  room : fits line 5 s ≡ true
  unfolding fits
  room = le-leb (5 + length s) (length line) (omega arith)

  pub put-end : (r : ℕ) → r ≡ after line 5 s → r ≡ 5 + length s
  unfolding after
  put-end r e = e ∙ rw room

  pub put_whole : (r : ℕ) (now : List ℕ) → r ≡ after line 5 s → now ≡ placed line 5 s → take r now ≡ bytes "/DKRS" ++ s
  unfolding placed over bytes
  put_whole r now e p =
      let i = put-end r e in
      let n : length (bytes "/DKRS" ++ s) ≡ r = omega arith in
      rw (p, room, key) (ap (take r) (sym (append_assoc (bytes "/DKRS") s (drop (5 + length s) line))) ∙ take_at (bytes "/DKRS" ++ s) (drop (5 + length s) line) r n)
