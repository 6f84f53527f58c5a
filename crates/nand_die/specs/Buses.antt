-- Buses for tests, round another bus: one that breaks down for a while, and one that turns bits of what is put out.
use Rattle.std.specs.Prelude.{◌≡◌, ℕ, Bool, true, false, not, ◌&&◌, ◌==◌, ◌-◌, List, get_or, slice_set, Result, if◌then◌else◌}
use Rattle.std.specs.Int.RustNames.{bit_xor}
use Rattle.page_layout.specs.Counter.{counted}
use Rattle.onfi_cycles.specs.declared.nand.BusFault.{BusFault}
use Rattle.onfi_cycles.specs.declared.nand.BusFault.TheVariants.{Device}
use Rattle.onfi_cycles.specs.Cycles.{Cycle, Command, Address, DataIn, DataOut}
use Rattle.onfi_cycles.specs.Spelling.{refused}

-- how many calls are handed on yet, how many fail then, and how many have failed so far
pub record FuseState (B : Type 0) : Type 0 where
  pub bus : B
  pub passed : ℕ
  pub failing : ℕ
  pub failures : ℕ

-- whether the next call fails
abbrev pub is_blown : {B : Type 0} → FuseState B → Bool
is_blown f = (f.passed == 0) && not (f.failing == 0)

-- ONE CALL OF A FUSE. Where it is blown the call fails by the device and never comes to the bus, which stays as it was; else it is a
-- call of the bus.
pub record Fused {B : Type 0} (on_bus : B → Cycle → Result (Unit {0}) BusFault → List ℕ → B
    → Type 0) (old : FuseState B) (cycle : Cycle) (answer : Result (Unit {0}) BusFault) (out : List ℕ) (new : FuseState B) : Type 0 where
  pub fails : is_blown old ≡ true → answer ≡ refused Device
  pub blown : is_blown old ≡ true → new ≡ record { bus = old.bus; passed = old.passed; failing = old.failing - 1; failures = counted old.failures }
  pub passes : is_blown old ≡ false → on_bus old.bus cycle answer out new.bus
  pub handed_on : is_blown old ≡ false → new ≡ record { bus = new.bus; passed = old.passed - 1; failing = old.failing; failures = old.failures }

-- how many times bytes are put out up to the one that is garbled, 0 where it is over, and which bits of which byte are turned
pub record GarbleState (B : Type 0) : Type 0 where
  pub bus : B
  pub outs : ℕ
  pub byte : ℕ
  pub mask : ℕ

-- a piece with these bits of that byte turned, where it is that long
abbrev pub with_bits_turned : ℕ → ℕ → List ℕ → List ℕ
with_bits_turned byte mask piece = slice_set piece byte (bit_xor (get_or piece byte 0) mask)

-- what comes of a piece that the bus puts out
abbrev pub garbled : {B : Type 0} → GarbleState B → List ℕ → List ℕ
garbled g piece = if g.outs == 1 then with_bits_turned g.byte g.mask piece else piece

-- the same garble round a bus, after so many pieces
abbrev pub with_outs : {B : Type 0} → GarbleState B → ℕ → B → GarbleState B
with_outs g outs bus = record { bus = bus; outs = outs; byte = g.byte; mask = g.mask }

-- ONE CALL OF A GARBLE: a call of the bus, of which a piece is garbled on its way out.
abbrev pub Garbled : {B : Type 0} → (B → Cycle → Result (Unit {0}) BusFault → List ℕ → B → Type 0) → GarbleState B → Cycle → Result (Unit {0}) BusFault → List ℕ → GarbleState B → Type 0
Garbled on_bus old (Command code) answer out new = on_bus old.bus (Command code) answer out new.bus × (new ≡ with_outs old old.outs new.bus)
Garbled on_bus old (Address byte) answer out new = on_bus old.bus (Address byte) answer out new.bus × (new ≡ with_outs old old.outs new.bus)
Garbled on_bus old (DataIn bytes) answer out new = on_bus old.bus (DataIn bytes) answer out new.bus × (new ≡ with_outs old old.outs new.bus)
Garbled on_bus old (DataOut count) answer out new =
    (piece : List ℕ) × on_bus old.bus (DataOut count) answer piece new.bus × (out ≡ garbled old piece) × (new ≡ with_outs old (old.outs - 1) new.bus)
