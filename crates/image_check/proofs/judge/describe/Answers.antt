use Rattle.std.proofs.Common.{◌≡◌, ◌≤◌, length, slice_index, vec_capacity, ap, sym, subst, ◌∙◌}
use Rattle.std.proofs.lemmas.List.{with_items_is}
use Rattle.std.proofs.lemmas.Result.{err_from_is_err_and}
use Rattle.std.specs.Vec.{with_items}
use Rattle.page_layout.specs.declared.geometry.Geometry.{Geometry}
use Rattle.image_check.proofs.JudgeLemmas.{IsSorted, still_sized, blocks_few, sorted_of, states_known, numbers_any}
use Rattle.image_check.proofs.judge.describe.Goals as goal

pub judge_image-requires : goal.judge_image-requires
judge_image-requires c = record { newest = c.requires.sized.newest; tables = c.requires.sized.tables; blocks = c.requires.scratch.table }

pub count_live-requires : goal.count_live-requires
count_live-requires c =
    let still = still_sized c.args.survey.now c.judge_image.new.survey _ c.judge_image.ensures.others c.requires.sized in
    record {
      newest = ap length c.deref.ensures.value ∙ still.newest;
      size = ap length c.deref_mut.ensures.value ∙ (c.requires.scratch.counts ∙ ap (λ (g : Geometry). g.blocks) (sym still.geometry_is));
      zeros = λ b. ap (λ xs. slice_index xs b) c.deref_mut.ensures.value ∙ c.requires.scratch.zeros b;
    }

pub block_states-requires : goal.block_states-requires
block_states-requires c =
    let old = c.args.survey.now in
    let counts = c.count_live.new.counts in
    let still = still_sized old c.judge_image.new.survey _ c.judge_image.ensures.others c.requires.sized in
    let looks : length c.deref-2.result.now ≡ old.geometry.blocks = ap length c.deref-2.ensures.value ∙ still.looks in
    let counted : (with_items c.args.scratch.now.counts counts).items ≡ counts = with_items_is c.args.scratch.now.counts counts (c.count_live.auto.counts ∙ c.deref_mut.ensures.len) in
    record {
      few = blocks_few old.geometry _ looks;
      size = c.judge_image.ensures.size ∙ (c.requires.scratch.table ∙ sym looks);
      counts = ap length (c.deref-3.ensures.value ∙ counted) ∙ (c.count_live.auto.counts ∙ (ap length c.deref_mut.ensures.value ∙ (c.requires.scratch.counts ∙ sym looks)));
      empty = c.requires.scratch.states;
      room = subst (λ n. n ≤ vec_capacity c.args.scratch.now.states) (sym looks) c.requires.scratch.room;
    }

pub returns-in_err-judge_image : goal.returns-in_err-judge_image
returns-in_err-judge_image c =
    let p = err_from_is_err_and c.from_residual.result c.from_residual.ensures.1 in
    let bad = c.in_err-judge_image.ensures in
    let done = c.judge_image.ensures in
    rw (p.1, p.2) (record {
      ok = tt;
      states = tt;
      size = tt;
      fits = tt;
      err = bad.err;
      kind = bad.kind;
      named = bad.named;
      permutation = done.permutation;
      others = done.others;
    })

pub returns : goal.returns
returns c =
    let old = c.args.survey.now in
    let new = c.judge_image.new.survey in
    let done = c.in_ok-judge_image.ensures in
    let counts = c.count_live.new.counts in
    let counted : (with_items c.args.scratch.now.counts counts).items ≡ counts = with_items_is c.args.scratch.now.counts counts (c.count_live.auto.counts ∙ c.deref_mut.ensures.len) in
    let still = still_sized old new _ done.others c.requires.sized in
    record {
      ok = done.ok;
      states = λ image h.
          let sorted : IsSorted old.geometry image new = sorted_of image old new h done.others done.permutation in
          states_known old.geometry new.geometry image new c.deref.result.now c.deref-2.result.now counts c.deref-3.result.now c.judge_image.new.table
          c.block_states.new.states.items sorted.geometry_is sorted (numbers_any old.geometry image (λ claim. done.ok 0 image claim h)) (done.rows image h)
          c.deref.ensures.value c.deref-2.ensures.value (c.deref-3.ensures.value ∙ counted) c.count_live.ensures c.block_states.ensures.states;
      size = c.block_states.ensures.size ∙ (ap length c.deref-2.ensures.value ∙ still.looks);
      fits = c.block_states.ensures.fits;
      err = tt;
      kind = tt;
      named = tt;
      permutation = done.permutation;
      others = done.others;
    }
