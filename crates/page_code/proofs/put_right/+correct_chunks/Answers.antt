use Rattle.std.proofs.Common.{◌∙◌, arith, length-take}
use Rattle.page_code.specs.Corrected.{wrong_in, lost_in}
use Rattle.page_code.proofs.PutRight.{chunks_more, sum_more}
use Rattle.page_code.proofs.put_right.+correct_chunks.Goals as goal

pub returns-clause-chunks : goal.returns-clause-chunks
returns-clause-chunks t c =
    let body = c.args.body.now in
    let s = c.min-size.result in
    let m = c.min-size.ensures in
    let new = c.correct_chunk-here.new.chunk in
    chunks_more c.args.count s body c.args.codes.now new c.correct_chunks-rest.new.body c.if-count-eq0.false m (c.correct_chunk-here.auto.chunk ∙ omega (arith, length-take s body, m)) c.correct_chunk-here.ensures.chunk c.correct_chunks-rest.ensures.chunks

pub returns-clause-turned : goal.returns-clause-turned
returns-clause-turned t c =
    let body = c.args.body.now in
    let s = c.min-size.result in
    let m = c.min-size.ensures in
    sum_more wrong_in c.args.count s body c.args.codes.now c.correct_chunk-here.new.chunk _ _ _ c.if-count-eq0.false m (c.correct_chunk-here.auto.chunk ∙ omega (arith, length-take s body, m)) c.with.ensures.turned
    c.correct_chunk-here.ensures.turned c.correct_chunks-rest.ensures.turned

pub returns-clause-lost : goal.returns-clause-lost
returns-clause-lost t c =
    let body = c.args.body.now in
    let s = c.min-size.result in
    let m = c.min-size.ensures in
    sum_more lost_in c.args.count s body c.args.codes.now c.correct_chunk-here.new.chunk _ _ _ c.if-count-eq0.false m (c.correct_chunk-here.auto.chunk ∙ omega (arith, length-take s body, m)) c.with.ensures.lost
    c.correct_chunk-here.ensures.lost c.correct_chunks-rest.ensures.lost
