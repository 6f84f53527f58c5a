use Rattle.std.proofs.Common.{◌≡◌, ◌≤◌, true, drop, map, Result, []}
use Rattle.onfi_cycles.specs.declared.nand.BusFault.{BusFault}
use Rattle.onfi_cycles.specs.Cycles.{DieState, Address}
use Rattle.onfi_cycles.specs.Spelling.{Spells}
use Rattle.onfi_cycles.specs.Sent.{Sends}
use Rattle.onfi_cycles.specs.Recorded.{Calls}
use Rattle.onfi_cycles.proofs.spelling.send_addresses.Given as goal

abbrev pub invariant-loop-byte : goal.invariant-loop-byte
invariant-loop-byte g l =
    let die = g.B.Bus.die in
    record {
      same_geometry : g.B.Bus.honest l.fn.bus ≡ true → (die l.bus).flash.geometry ≡ (die l.fn.bus).flash.geometry;
      as_honest : g.B.Bus.honest l.bus ≡ g.B.Bus.honest l.fn.bus;
      as_calm : g.B.Bus.calm l.bus ≡ g.B.Bus.calm l.fn.bus;
      kept : g.B.Bus.failed l.fn.bus ≤ g.B.Bus.failed l.bus;
      on : g.B.Bus.honest l.fn.bus ≡ true → (r : Result (Unit {0}) BusFault) (end : DieState) → Spells (die l.bus) (map Address (drop l.byte-index l.bytes)) r end
          → Spells (die l.fn.bus) (map Address l.bytes) r end;
      sends_on : (r : Result (Unit {0}) BusFault) (end : _) → Sends (Calls g.B.Bus.die g.B.Bus.honest g.B.Bus.recorded g.B.Bus.called) l.bus (map Address (drop l.byte-index l.bytes)) (λ _. []) r end
          → Sends (Calls g.B.Bus.die g.B.Bus.honest g.B.Bus.recorded g.B.Bus.called) l.fn.bus (map Address l.bytes) (λ _. []) r end;
    }
