use Rattle.std.proofs.Common.{◌/◌, ◌<◌, length, ◌∙◌, arith, rules}
use Rattle.lab_dump.proofs.ToldLemmas.{told_none, told_page}
use Rattle.lab_correct.specs.Decoded.{decoded_bytes, raw_size}
use Rattle.lab_correct.proofs.coded_look.told_decoded.Goals as goal

pub loop-row-init : goal.loop-row-init
loop-row-init g c = record {
  raw_whole = c.requires.raw_whole;
  whole = c.requires.page_whole;
  same = search rules;
  told = λ all told rows. told_none _ _ _ _ (search rules);
}

pub loop-row-preserved : goal.loop-row-preserved
loop-row-preserved g c =
    let inv = c.loop-row.invariant in
    let geo = c.args.geometry.now in
    let bytes = c.read_decoded.new.page in
    record {
      raw_whole = search rules;
      whole = search rules;
      same = c.read_decoded.ensures.same ∙ inv.same;
      told = λ all told rows.
          let within : c.loop-row.row < length all / raw_size geo.data_bytes geo.spare_bytes = omega (arith, c.loop-row-test.true, c.rows-row-end.ensures, rows) in
          told_page geo c.loop-row.row (decoded_bytes geo.data_bytes geo.spare_bytes all) bytes c.loop-row.told _ (inv.told all told rows) (c.in_ok-read_decoded.ensures.read all (inv.same ∙ told) within) (omega arith) c.noted-told.ensures;
    }
