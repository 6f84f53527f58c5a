use Rattle.std.proofs.Common.{◌≡◌, ◌+◌, ◌≤◌, All, length, replicate, ap, sym, subst, ◌∙◌, refl, arith}
use Rattle.std.proofs.lemmas.List.{length-replicate}
use Rattle.page_layout.specs.Geometry.{key_count}
use Rattle.page_layout.specs.Array.{marks}
use Rattle.certificate.specs.Spelling.{IsRowOf}
use Rattle.image_check.specs.Newest.{place_in}
use Rattle.image_check.proofs.SurveyLemmas.{below_start, newest_start, outside_start, pairs_none}
use Rattle.image_check.proofs.LookLemmas.{looks_start, bounded_start}
use Rattle.image_check.proofs.TableLemmas.{tables_start}
use Rattle.image_check.proofs.survey.Survey.new.Goals as goal

pub returns-clause-sized : goal.returns-clause-sized
returns-clause-sized c =
    let looks = c.in_ok-vec-2.ensures.items_if_clones_equal (λ y e. e) in
    record {
      geometry_is = refl;
      newest = omega (arith, c.in_ok-vec.ensures.len);
      within = subst (λ xs. All (λ x. IsRowOf 0 (place_in x)) xs) (sym (c.in_ok-vec.ensures.items_if_clones_equal (λ y e. e))) (below_start _ c.never.result c.never.ensures);
      looks = omega (arith, c.in_ok-vec-2.ensures.len);
      bounded = subst (λ xs. All (λ l. l.written ≤ 0) xs) (sym looks) (bounded_start c.blocks-2.result c.unseen.result c.unseen.ensures);
      tables = ap length (c.in_ok-vec-3.ensures.items_if_clones_equal (λ y e. e)) ∙ (length-replicate _ 0 ∙ rw (c.table_pages-2.ensures, c.data_bytes.ensures) refl);
      few = omega (arith, ap length c.in_ok-with_capacity.ensures.items);
      room = omega (arith, c.in_ok-with_capacity.ensures.capacity);
    }

pub returns-clause-survey : goal.returns-clause-survey
returns-clause-survey c = λ image.
    let g = c.args.geometry.now in
    let keys : c.sectors.result + c.translation_pages.result + c.table_pages.result ≡ key_count g = omega arith in
    record {
      newest = newest_start g (marks image) c.in_ok-vec.field-0.items c.never.result c.never.ensures (c.in_ok-vec.ensures.items_if_clones_equal (λ y e. e) ∙ ap (λ n. replicate n c.never.result) keys);
      outside = outside_start g (marks image);
      pairs = c.in_ok-with_capacity.ensures.items ∙ sym (pairs_none (marks image));
      looks = looks_start g image c.in_ok-vec-2.field-0.items c.unseen.result c.unseen.ensures (c.in_ok-vec-2.ensures.items_if_clones_equal (λ y e. e) ∙ ap (λ n. replicate n c.unseen.result) c.blocks-2.ensures);
      tables = tables_start g image c.in_ok-vec-3.field-0.items (ap length (c.in_ok-vec-3.ensures.items_if_clones_equal (λ y e. e)) ∙ (length-replicate _ 0 ∙ rw (c.table_pages-2.ensures, c.data_bytes.ensures) refl));
    }
