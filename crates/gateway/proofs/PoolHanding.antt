-- What a pool entry hands out: each number is one byte. Assumes nothing.
use Prim.Native.Nat.{ℕ, ◌<◌}
use native.Mathlib.Omega.{arith}
use mathlib.Core.Path.{◌≡◌, sym, subst}
use mathlib.Core.List.{List}
use Rattle.field.specs.Field.{place_of}
use Rattle.field.specs.declared.Stretch.{Stretch}
use Rattle.outline.specs.Outline.{outline_of}
use Rattle.outline.specs.declared.Outline.{Outline}
use Rattle.plain.specs.Asking.{asking_of}
use Rattle.plain.specs.declared.Asking.{Asking}
use Rattle.batch.specs.Batch.{next_of}
use Rattle.batch.specs.declared.Found.{Found}
use Rattle.pool_values.specs.Pool.{pool}
use Rattle.pool_trade.specs.declared.PoolTrade.{PoolTrade}
use Rattle.gateway.proofs.PoolNumbers.{numbers}

pub read_byte : (m : List ℕ) (a : Outline 22) → a ≡ outline_of pool 1 22 m → a.number < 256
unfolding outline_of
read_byte m a e = subst (λ b. b.number < 256) (sym e) (let h = numbers.read m in omega (arith, h))

pub field-byte : (m : List ℕ) (slot : ℕ) (a : Stretch) → a ≡ place_of pool m slot → a.number < 256
unfolding place_of
field-byte m slot a e = subst (λ b. b.number < 256) (sym e) (let h = numbers.read m in omega (arith, h))

pub plain_byte : (m : List ℕ) (room : ℕ) (a : Asking) → a ≡ asking_of pool m room → a.number < 256
unfolding asking_of
plain_byte m room a e = subst (λ b. b.number < 256) (sym e) (let h = numbers.plain m room in omega (arith, h))

pub next-byte : (batch : List ℕ) (position : ℕ) (a : Found PoolTrade) → a ≡ next_of pool batch position → a.reading.number < 256
next-byte batch position a e = subst (λ b. b.reading.number < 256) (sym e) (let h = numbers.next batch position in omega (arith, h))
