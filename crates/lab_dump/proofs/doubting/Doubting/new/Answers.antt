use Rattle.std.proofs.Common.{◌≡◌, ◌+◌, ◌*◌, ◌∙◌, ap, arith, refl, sym, length, replicate}
use Rattle.page_layout.specs.Geometry.{key_count, table_pages}
use Rattle.page_layout.specs.Array.{marks}
use Rattle.image_check.proofs.TableLemmas.{tables_start}
use Rattle.lab_dump.specs.declared.trace.Trace.TheVariants.{Never}
use Rattle.lab_dump.proofs.CountLemmas.{unsound_start}
use Rattle.lab_dump.proofs.DoubtLemmas.{holes_start, ending_start}
use Rattle.lab_dump.proofs.SaidLemmas.{below_none}
use Rattle.lab_dump.proofs.TraceLemmas.{traces_start}
use Rattle.lab_dump.proofs.doubting.Doubting.new.Goals as goal

pub returns-clause-is : goal.returns-clause-is
returns-clause-is c = λ image.
    let g = c.args.geometry.now in
    let keys : c.sectors.result + c.translation_pages.result + c.table_pages-table_pages.result ≡ key_count g = omega arith in
    let bytes : length c.in_ok-vec-2.field-0.items ≡ c.table_pages-table_pages.result * c.data_bytes.result = omega (arith, c.in_ok-vec-2.ensures.len) in
    record {
      traces = traces_start g (marks image) c.in_ok-vec.field-0.items (c.in_ok-vec.ensures.items_if_clones_equal (λ y e. e) ∙ ap (λ n. replicate n Never) keys);
      tables = tables_start g image c.in_ok-vec-2.field-0.items (bytes ∙ (ap (λ k. k * c.data_bytes.result) c.table_pages-table_pages.ensures ∙ ap (λ k. table_pages g * k) c.data_bytes.ensures));
      unsound = unsound_start g image c.in_ok-vec-3.field-0.items (c.in_ok-vec-3.ensures.items_if_clones_equal (λ y e. e) ∙ ap (λ n. replicate n 0) c.blocks-blocks.ensures);
      holes = holes_start g image c.in_ok-vec-4.field-0.items (c.in_ok-vec-4.ensures.items_if_clones_equal (λ y e. e) ∙ ap (λ n. replicate n 0) c.blocks-blocks.ensures);
      ending_is = ending_start g image;
      said_is = c.in_ok-with_capacity.ensures.items ∙ sym (below_none g image);
      outside_is = refl;
      strange_is = refl;
    }
