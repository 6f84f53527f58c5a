use Rattle.std.proofs.Common.{◌≡◌, ◌+◌, ◌*◌, ◌/◌, ◌++◌, ◌≤◌, length, vec_len, vec_capacity}
use Rattle.certificate.specs.Reading.{words_of}
use Rattle.certificate.proofs.body.take_words.Given as goal

abbrev pub invariant-loop : goal.invariant-loop
invariant-loop l = record {
  read : l.words.items ++ words_of l.rest ≡ l.fn.words.items ++ words_of l.bytes;
  left : length l.rest + 4 * l.counter ≡ length l.bytes;
  room : vec_len l.words + length l.rest / 4 ≤ vec_capacity l.words;
}
