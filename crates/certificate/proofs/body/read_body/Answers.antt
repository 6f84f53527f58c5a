use Rattle.std.proofs.Common.{ap, ◌∙◌}
use Rattle.certificate.specs.Claim.{sizes_of}
use Rattle.certificate.specs.Reading.{words_of, blocks_of}
use Rattle.certificate.proofs.BodyLemmas.{cut}
use Rattle.certificate.proofs.body.read_body.Goals as goal

pub returns : goal.returns
returns c =
    let counted = c.blocks-block_count.ensures in
    let rows = c.directory_rows-directory_count.ensures in
    let parts = cut (sizes_of c.args.geometry.now) c.args.bytes.now c.split_at.result.1.now c.split_at-2.result.0.now c.split_at-2.result.1.now c.split_at-3.result.0.now c.split_at-3.result.1.now
    c.requires c.split_at.ensures.back (rw counted at c.split_at-2.ensures.front) (rw counted at c.split_at-2.ensures.back) (rw rows at c.split_at-3.ensures.front) (rw rows at c.split_at-3.ensures.back) in
    record {
      blocks_are = c.take_blocks.ensures ∙ rw c.in_ok-blocks.ensures.items (ap blocks_of parts.blocks_are);
      directory_is = c.take_words.ensures ∙ rw c.in_ok-directory.ensures.items (ap words_of parts.directory_is);
      sectors_are = c.take_words-2.ensures ∙ rw c.in_ok-sectors.ensures.items (ap words_of parts.sectors_are);
    }
