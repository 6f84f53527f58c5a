use Rattle.std.proofs.Common.{arith}
use Rattle.lab_dump.proofs.CountLemmas.{counts_none, few_none}
use Rattle.lab_dump.proofs.KeyLemmas.{formed_start}
use Rattle.lab_dump.proofs.seeing.Seeing.new.Goals as goal

pub returns : goal.returns
returns c = record {
  stands =
      let g = c.args.geometry.now in
      record {
        geometry_is = c.in_ok-new.ensures.sized.geometry_is;
        sized = c.in_ok-new.ensures.sized;
        counts = few_none c.none.result c.none.ensures;
        formed = omega (arith, c.in_ok-vec.ensures.len);
        doubting = c.in_ok-new-2.ensures.stands;
        keys = omega (arith, c.in_ok-vec-2.ensures.len);
        scratch = c.in_ok-new-3.ensures;
        table = omega (arith, c.in_ok-blank_table.ensures);
      };
  shows = λ image.
      let g = c.args.geometry.now in
      record {
        survey = c.in_ok-new.ensures.survey image;
        counts = counts_none g image c.none.result c.none.ensures;
        formed = formed_start g image c.in_ok-vec.field-0.items (omega (arith, c.in_ok-vec.ensures.len));
        doubting = c.in_ok-new-2.ensures.is image;
      };
}
