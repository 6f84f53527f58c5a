use Rattle.std.proofs.Common.{refl, ◌∙◌}
use Rattle.std.proofs.lemmas.List.{with_items_is}
use Rattle.std.proofs.lemmas.List.Sorted.{IsPermutation-refl}
use Rattle.std.proofs.lemmas.Result.{err_from_is_err_and}
use Rattle.image_check.specs.Refused.{Numbers, Sequences, Tables, HoldBetween}
use Rattle.image_check.proofs.ChainLemmas.{hold_none, hold_one, hold_more, fails_here}
use Rattle.image_check.proofs.JudgeLemmas.{pairs_moved}
use Rattle.image_check.proofs.judge.judge_image.Goals as goal

pub check_tables-requires : goal.check_tables-requires
check_tables-requires c = record { newest = c.requires.newest; tables = c.requires.tables; blocks = c.requires.blocks }

pub returns-in_err-check_numbers : goal.returns-in_err-check_numbers
returns-in_err-check_numbers c =
    let p = err_from_is_err_and c.from_residual.result c.from_residual.ensures.1 in
    let bad = c.in_err-check_numbers.ensures in
    let g = c.args.survey.now.geometry in
    rw (p.1, p.2) (record {
      ok = tt;
      rows = tt;
      err = λ capacity image claim h. fails_here g capacity image claim Numbers 1 _ (hold_none g capacity image claim 1) (bad.err capacity image claim h);
      kind = bad.kind;
      named = bad.named;
      size = refl;
      permutation = IsPermutation-refl _;
      others = refl;
    })

pub returns-in_err-check_sequences : goal.returns-in_err-check_sequences
returns-in_err-check_sequences c =
    let p = err_from_is_err_and c.from_residual-in_err-check_sequences.result c.from_residual-in_err-check_sequences.ensures.1 in
    let bad = c.in_err-check_sequences.ensures in
    let g = c.args.survey.now.geometry in
    rw (p.1, p.2) (record {
      ok = tt;
      rows = tt;
      err = λ capacity image claim h.
          let numbers : HoldBetween g capacity image claim 1 2 = hold_one g capacity image claim Numbers 1 2 refl refl (c.in_ok-check_numbers.ensures.ok image h) in
          fails_here g capacity image claim Sequences 1 _ numbers (bad.err g capacity image claim h.whole (c.deref_mut.ensures.value ∙ h.survey.pairs));
      kind = bad.kind;
      named = bad.named;
      size = refl;
      permutation = pairs_moved _ c.deref_mut.result.now c.check_sequences.new.pairs _ c.deref_mut.ensures.value (with_items_is c.args.survey.now.pairs _ (c.check_sequences.auto.pairs ∙ c.deref_mut.ensures.len)) c.check_sequences.ensures.permutation;
      others = refl;
    })

pub returns-in_err-check_tables : goal.returns-in_err-check_tables
returns-in_err-check_tables c =
    let p = err_from_is_err_and c.from_residual-in_err-check_tables.result c.from_residual-in_err-check_tables.ensures.1 in
    let bad = c.in_err-check_tables.ensures in
    let g = c.args.survey.now.geometry in
    rw (p.1, p.2) (record {
      ok = tt;
      rows = tt;
      others = refl;
      kind = bad.kind;
      named = bad.named;
      size = c.check_tables.ensures.size;
      permutation = pairs_moved _ c.deref_mut.result.now c.check_sequences.new.pairs _ c.deref_mut.ensures.value (with_items_is c.args.survey.now.pairs _ (c.check_sequences.auto.pairs ∙ c.deref_mut.ensures.len)) c.check_sequences.ensures.permutation;
      err = λ capacity image claim h.
          let numbers : HoldBetween g capacity image claim 1 2 = hold_one g capacity image claim Numbers 1 2 refl refl (c.in_ok-check_numbers.ensures.ok image h) in
          let distinct = c.in_ok-check_sequences.ensures.ok g image h.whole (c.deref_mut.ensures.value ∙ h.survey.pairs) in
          let sequences : HoldBetween g capacity image claim 1 3 = hold_more g capacity image claim Sequences 1 2 3 refl refl numbers distinct in
          fails_here g capacity image claim Tables 1 _ sequences (bad.err capacity image claim (record { whole = h.whole; noted = h.survey.newest; kept = h.survey.tables }) distinct);
    })

pub returns : goal.returns
returns c =
    let g = c.args.survey.now.geometry in
    let done = c.in_ok-check_tables.ensures in
    record {
      ok = λ capacity image claim h.
          let numbers : HoldBetween g capacity image claim 1 2 = hold_one g capacity image claim Numbers 1 2 refl refl (c.in_ok-check_numbers.ensures.ok image h) in
          let sequences : HoldBetween g capacity image claim 1 3 = hold_more g capacity image claim Sequences 1 2 3 refl refl numbers (c.in_ok-check_sequences.ensures.ok g image h.whole (c.deref_mut.ensures.value ∙ h.survey.pairs)) in
          hold_more g capacity image claim Tables 1 3 4 refl refl sequences (done.ok image (record { whole = h.whole; noted = h.survey.newest; kept = h.survey.tables }));
      rows = λ image h. done.rows image (record { whole = h.whole; noted = h.survey.newest; kept = h.survey.tables });
      err = tt;
      kind = tt;
      named = tt;
      size = c.check_tables.ensures.size;
      permutation = pairs_moved _ c.deref_mut.result.now c.check_sequences.new.pairs _ c.deref_mut.ensures.value (with_items_is c.args.survey.now.pairs _ (c.check_sequences.auto.pairs ∙ c.deref_mut.ensures.len)) c.check_sequences.ensures.permutation;
      others = refl;
    }
