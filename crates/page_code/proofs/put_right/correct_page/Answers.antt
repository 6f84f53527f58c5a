use Rattle.std.proofs.Common.{◌≡◌, ◌++◌, ◌-◌, length, take, drop, ap, ◌∙◌, refl}
use Rattle.page_layout.specs.Page.{page}
use Rattle.page_code.specs.Corrected.{wrong_in, lost_in}
use Rattle.page_code.proofs.Parts.{tail_put}
use Rattle.page_code.proofs.PutRight.{front_of, back_of, page_put, turned_put, lost_put, codes_of_body, code_of_plain, chunks_at, sum_at, chunk_at, corrected_at}
use Rattle.page_code.proofs.put_right.correct_page.Goals.{After-correct_chunk-spare}
use Rattle.page_code.proofs.put_right.correct_page.Goals as goal

-- the two areas as they are lent, one behind the other
front_is : (c : After-correct_chunk-spare) → take (length c.args.body.now) c.put_areas.new.bytes ≡ c.args.body.now
front_is c = front_of (length c.args.body.now) c.put_areas.new.bytes c.args.body.now (take c.spare_bytes-size.result c.args.outer.now) c.put_areas.ensures refl

back_is : (c : After-correct_chunk-spare) → let all = c.correct_chunks-data.new.body ++ drop (length c.args.body.now) c.put_areas.new.bytes in
    take (length all - length c.args.body.now) (drop (length c.args.body.now) all) ≡ take c.spare_bytes-size.result c.args.outer.now
back_is c =
    back_of (length c.args.body.now) c.put_areas.new.bytes c.args.body.now (take c.spare_bytes-size.result c.args.outer.now) c.correct_chunks-data.new.body c.put_areas.ensures refl
    (c.correct_chunks-data.auto.body ∙ ap length (front_is c))

pub returns-clause-page : goal.returns-clause-page
returns-clause-page c =
    let g = c.args.geometry.now in
    let a = c.args.body.now in
    let outer = c.args.outer.now in
    let n = c.spare_bytes-size.result in
    let e = c.spare_bytes-size.ensures in
    let both = c.put_areas.new.bytes in
    let new = c.correct_chunks-data.new.body in
    let spare = c.correct_chunk-spare.new.chunk in
    let here = (goal.at.returns-clause-page c).After-correct_chunk-spare in
    let front = front_is here in
    let size : length new ≡ length a = c.correct_chunks-data.auto.body ∙ ap length front in
    let back = back_is here in
    page_put g.data_bytes g.spare_bytes (page a outer) _ new spare
    (c.correct_chunks-data.ensures.chunks ∙ chunks_at _ _ _ _ _ _ c.chunk_count.ensures front (codes_of_body n g.spare_bytes outer e))
    (c.correct_chunk-spare.ensures.chunk ∙ corrected_at _ _ _ _ (back ∙ ap (λ k. take k outer) e) (code_of_plain n g.spare_bytes outer e))
    (tail_put (length a) new (drop (length a) both) spare size)

pub returns-clause-turned : goal.returns-clause-turned
returns-clause-turned c =
    let g = c.args.geometry.now in
    let a = c.args.body.now in
    let outer = c.args.outer.now in
    let n = c.spare_bytes-size.result in
    let e = c.spare_bytes-size.ensures in
    let here = (goal.at.returns-clause-turned c).After-correct_chunk-spare in
    let front = front_is here in
    let back = back_is here in
    turned_put g.data_bytes g.spare_bytes (page a outer) _ _ _ c.with.ensures.turned
    (c.correct_chunks-data.ensures.turned ∙ sum_at wrong_in _ _ _ _ _ _ c.chunk_count.ensures front (codes_of_body n g.spare_bytes outer e))
    (c.correct_chunk-spare.ensures.turned ∙ chunk_at wrong_in _ _ _ _ (back ∙ ap (λ k. take k outer) e) (code_of_plain n g.spare_bytes outer e))

pub returns-clause-lost : goal.returns-clause-lost
returns-clause-lost c =
    let g = c.args.geometry.now in
    let a = c.args.body.now in
    let outer = c.args.outer.now in
    let n = c.spare_bytes-size.result in
    let e = c.spare_bytes-size.ensures in
    let here = (goal.at.returns-clause-lost c).After-correct_chunk-spare in
    let front = front_is here in
    let back = back_is here in
    lost_put g.data_bytes g.spare_bytes (page a outer) _ _ _ c.with.ensures.lost
    (c.correct_chunks-data.ensures.lost ∙ sum_at lost_in _ _ _ _ _ _ c.chunk_count.ensures front (codes_of_body n g.spare_bytes outer e))
    (c.correct_chunk-spare.ensures.lost ∙ chunk_at lost_in _ _ _ _ (back ∙ ap (λ k. take k outer) e) (code_of_plain n g.spare_bytes outer e))
