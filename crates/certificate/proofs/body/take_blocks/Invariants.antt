use Rattle.std.proofs.Common.{◌≡◌, ◌+◌, ◌*◌, ◌/◌, ◌++◌, ◌≤◌, length, vec_len, vec_capacity}
use Rattle.certificate.specs.Reading.{blocks_of}
use Rattle.certificate.proofs.body.take_blocks.Given as goal

abbrev pub invariant-loop : goal.invariant-loop
invariant-loop l = record {
  read : l.states.items ++ blocks_of l.rest ≡ l.fn.states.items ++ blocks_of l.bytes;
  left : length l.rest + 9 * l.counter ≡ length l.bytes;
  room : vec_len l.states + length l.rest / 9 ≤ vec_capacity l.states;
}
