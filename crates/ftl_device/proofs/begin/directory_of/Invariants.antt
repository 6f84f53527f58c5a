use Rattle.std.proofs.Common.{◌≡◌, take, map}
use Rattle.page_layout.specs.Word.{row_of_word}
use Rattle.ftl_device.proofs.begin.directory_of.Given as goal

abbrev pub invariant-loop-key : goal.invariant-loop-key
invariant-loop-key l = map row_of_word l.words.items ≡ take l.key l.certificate.directory
