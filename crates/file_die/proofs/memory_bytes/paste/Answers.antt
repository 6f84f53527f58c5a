use Rattle.std.proofs.Common.{arith}
use Rattle.file_die.proofs.BytesLemmas.{pasted}
use Rattle.file_die.proofs.memory_bytes.paste.Goals as goal

pub returns : goal.returns
returns c = pasted c.args.start _ c.args.bytes.now c.copy_from_slice.new.self c.args.given.now c.copy_from_slice.ensures.after (omega arith)
