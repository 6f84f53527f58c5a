use Rattle.std.proofs.Common.{sym, ◌∙◌}
use Rattle.page_code.proofs.PutRight.{found_right, none_right}
use Rattle.page_code.proofs.put_right.correct_chunk.Goals as goal

pub returns-in-Some-clause-chunk : goal.returns-in-Some-clause-chunk
returns-in-Some-clause-chunk c =
    sym (found_right c.args.chunk.now c.correct-found.new.chunk c.args.code.now c.in-Some.turned c.requires.size c.see_bytes.ensures c.see_bytes-2.ensures c.correct-found.auto.chunk c.requires.code_whole c.in-Some.ensures.found.1 c.in-Some.ensures.found.0).chunk_is

pub returns-in-Some-clause-turned : goal.returns-in-Some-clause-turned
returns-in-Some-clause-turned c =
    let r = found_right c.args.chunk.now c.correct-found.new.chunk c.args.code.now c.in-Some.turned c.requires.size c.see_bytes.ensures c.see_bytes-2.ensures c.correct-found.auto.chunk c.requires.code_whole c.in-Some.ensures.found.1 c.in-Some.ensures.found.0 in
    sym (r.wrong_is ∙ c.in-Some.ensures.found.1)

pub returns-in-Some-clause-lost : goal.returns-in-Some-clause-lost
returns-in-Some-clause-lost c =
    sym (found_right c.args.chunk.now c.correct-found.new.chunk c.args.code.now c.in-Some.turned c.requires.size c.see_bytes.ensures c.see_bytes-2.ensures c.correct-found.auto.chunk c.requires.code_whole c.in-Some.ensures.found.1 c.in-Some.ensures.found.0).lost_is

pub returns-in-None-clause-chunk : goal.returns-in-None-clause-chunk
returns-in-None-clause-chunk c = c.in-None.ensures.lost ∙ sym (none_right c.args.chunk.now c.args.code.now c.see_bytes.ensures c.in-None.ensures.far).chunk_is

pub returns-in-None-clause-turned : goal.returns-in-None-clause-turned
returns-in-None-clause-turned c = sym (none_right c.args.chunk.now c.args.code.now c.see_bytes.ensures c.in-None.ensures.far).wrong_is

pub returns-in-None-clause-lost : goal.returns-in-None-clause-lost
returns-in-None-clause-lost c = sym (none_right c.args.chunk.now c.args.code.now c.see_bytes.ensures c.in-None.ensures.far).lost_is
