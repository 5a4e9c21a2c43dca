-- What an entry hands out: each number is one byte. Assumes nothing.
use Prim.Native.Nat.{ℕ, ◌<◌}
use native.Mathlib.Omega.{arith}
use mathlib.Core.Path.{◌≡◌, sym, subst}
use mathlib.Core.List.{List}
use Rattle.trade.specs.declared.Trade.{Trade}
use Rattle.format.specs.Reading.{read_of}
use Rattle.format.specs.declared.Reading.{Reading}
use Rattle.writing.specs.Writing.{writing_of}
use Rattle.writing.specs.declared.Writing.{Writing}
use Rattle.field.specs.Field.{place_of}
use Rattle.field.specs.declared.Stretch.{Stretch}
use Rattle.outline.specs.Outline.{outline_of}
use Rattle.outline.specs.declared.Outline.{Outline}
use Rattle.plain.specs.Asking.{asking_of}
use Rattle.plain.specs.declared.Asking.{Asking}
use Rattle.batch.specs.Batch.{next_of}
use Rattle.batch.specs.declared.Found.{Found}
use Rattle.values.specs.Mt515.{mt515}
use Rattle.gateway.proofs.Numbers.{numbers}

pub read_byte : (m : List ℕ) (a : Reading Trade) → a ≡ read_of mt515 m → a.number < 256
read_byte m a e = subst (λ b. b.number < 256) (sym e) (let h = numbers.read m in omega (arith, h))

pub field-byte : (m : List ℕ) (slot : ℕ) (a : Stretch) → a ≡ place_of mt515 m slot → a.number < 256
unfolding place_of
field-byte m slot a e = subst (λ b. b.number < 256) (sym e) (let h = numbers.read m in omega (arith, h))

pub places-byte : (m : List ℕ) (a : Outline 24) → a ≡ outline_of mt515 1 24 m → a.number < 256
unfolding outline_of
places-byte m a e = subst (λ b. b.number < 256) (sym e) (let h = numbers.read m in omega (arith, h))

pub plain_byte : (m : List ℕ) (room : ℕ) (a : Asking) → a ≡ asking_of mt515 m room → a.number < 256
unfolding asking_of
plain_byte m room a e = subst (λ b. b.number < 256) (sym e) (let h = numbers.plain m room in omega (arith, h))

pub write_byte : (t : Trade) (room : ℕ) (a : Writing) → a ≡ writing_of mt515 t room → a.number < 256
unfolding writing_of
write_byte t room a e = subst (λ b. b.number < 256) (sym e) (let h = numbers.write t room in omega (arith, h))

pub next-byte : (batch : List ℕ) (position : ℕ) (a : Found Trade) → a ≡ next_of mt515 batch position → a.reading.number < 256
next-byte batch position a e = subst (λ b. b.reading.number < 256) (sym e) (let h = numbers.next batch position in omega (arith, h))
