use Rattle.certificate.proofs.BlockLemmas.{block_read}
use Rattle.certificate.proofs.body.read_block.Goals as goal

pub returns : goal.returns
returns c = rw (c.from_le_bytes.ensures, c.from_le_bytes-2.ensures, c.from_le_bytes-3.ensures) (block_read c.args.bytes.now c.requires)
