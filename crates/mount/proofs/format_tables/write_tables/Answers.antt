use Rattle.std.proofs.Common.{arith, ◌≡◌, ◌<◌, ◌≤◌, ◌+◌, length, set, length-set, ◌∙◌, sym, subst, refl}
use Rattle.std.proofs.lemmas.Result.{err_from_is_err_and}
use Rattle.bad_blocks.specs.declared.class.Class.TheVariants.{Grown}
use Rattle.bad_blocks.specs.Table.{good_count, retired, unworn}
use Rattle.image_check.proofs.JudgeLemmas.{blocks_few}
use Rattle.image_check.proofs.ReadLemmas.{risen_over}
use Rattle.mount.proofs.AttemptLemmas.{any_block}
use Rattle.mount.proofs.CountLemmas.{wrote_none, wrote_then, least_more, least_three, attempts_start, attempts_within, attempts_next, attempts_last, few_left}
use Rattle.mount.proofs.GoodLemmas.{good_count-retired, good_fits, some_good, fewer_good, unworn_retired, unworn_length}
use Rattle.mount.proofs.TriesLemmas.{tries-passed, tries-failed, writes_all, too_few, gives_up, failed_of, first_sequence, sequences_fit, good_not_bus, few_not_bus, write_not_bus}
use Rattle.mount.proofs.format_tables.write_tables.Goals as goal

pub loop-failures-init : goal.loop-failures-init
loop-failures-init g c = record {
  trying = λ h start other. any_block _ _ _ _ _ _ _ other start;
  whole = c.requires.classes_whole;
  just = λ some. absurd (omega (arith, some));
  untouched = λ none. refl;
  sequences = attempts_start 1 _;
  only_writes = wrote_none _ _;
  programs = attempts_start _ _;
  at_least = omega arith;
}

pub require_good-requires : goal.require_good-requires
require_good-requires g c = blocks_few c.args.geometry.now _ c.loop-failures.invariant.whole

pub lowest_good-block-requires : goal.lowest_good-block-requires
lowest_good-block-requires g c = record {
  whole = c.loop-failures.invariant.whole;
  some = some_good _ _ c.requires.some c.in_ok-require_good.ensures.ok;
}

pub write_in_block-requires : goal.write_in_block-requires
write_in_block-requires g c =
    let i = c.loop-failures.invariant in
    let lowest = c.lowest_good-block.ensures in
    record {
      geometry = i.only_writes.geometry_was ∙ c.requires.geometry;
      block_in = lowest.within;
      good = lowest.good;
      lowest = lowest.lowest;
      sequences = sequences_fit c.args.geometry.now _ _ i.sequences c.loop-failures-test.true;
      body_whole = c.loop-failures.auto.body ∙ c.requires.body_whole;
      spare_whole = c.loop-failures.auto.spare ∙ c.requires.spare_whole;
    }

pub count_good-requires : goal.count_good-requires
count_good-requires g c = blocks_few c.args.geometry.now _ c.loop-failures.invariant.whole

pub loop-failures-preserved : goal.loop-failures-preserved
loop-failures-preserved g c =
    let i = c.loop-failures.invariant in
    let made = c.in_ok-write_in_block.ensures in
    let block = c.lowest_good-block.result in
    let table = unworn c.loop-failures.classes in
    let within : block < length table = subst (λ n. block < n) (sym (unworn_length c.loop-failures.classes ∙ i.whole)) c.lowest_good-block.ensures.within in
    let retire : unworn (set c.loop-failures.classes block Grown) ≡ retired table block = unworn_retired c.loop-failures.classes block in
    let fewer : good_count (retired table block) + 1 ≡ good_count table = good_count-retired table block within c.lowest_good-block.ensures.good in
    let not_passed = sym c.if-passed.ensures in
    record {
      trying = λ h start other.
          (let tries = made.tries (i.only_writes.honest_was ∙ h) _ c.loop-failures._failures (i.trying h start block) in
          rw retire (tries-failed c.args.geometry.now _ _ table block c.write_in_block.new.sequence c.loop-failures._failures c.in_ok-write_in_block.field-0 not_passed tries other));
      whole = rw length-set i.whole;
      just = λ some. rw retire (fewer_good _ _ _ fewer c.in_ok-require_good.ensures.ok);
      untouched = λ none. absurd (omega (arith, none));
      sequences = attempts_next 1 _ _ _ _ i.sequences made.sequences;
      only_writes = wrote_then _ _ _ _ i.only_writes c.write_in_block.ensures.only_writes;
      programs = attempts_next _ _ _ _ _ i.programs made.programs;
      at_least = least_more _ _ _ _ i.at_least (made.tried (failed_of c.in_ok-write_in_block.field-0 not_passed));
    }

pub returns-in_err-require_good : goal.returns-in_err-require_good
returns-in_err-require_good g c =
    let i = c.loop-failures.invariant in
    let few = c.in_err-require_good.ensures.few in
    let p = err_from_is_err_and c.from_residual.result c.from_residual.ensures.1 in
    rw (p.1, p.2, few.1) (record {
      writes = λ h start. too_few c.args.geometry.now c.args.need _ _ (unworn c.loop-failures.classes) 0 c.loop-failures.sequence c.loop-failures._failures _ _ (i.trying h start 0) refl few.0 refl
          (omega (arith, c.loop-failures-test.true)) (first_sequence c.args.geometry.now _ _ i.sequences) i.just;
      answers = (few.0, refl, few_left _ _ _ _ _ i.untouched i.just few.0);
      only_writes = i.only_writes;
      programs = attempts_within _ _ _ _ i.programs (omega (arith, c.loop-failures-test.true));
      rose = λ is. absurd (few_not_bus _ _ is);
    })

pub returns-in_err-write_in_block : goal.returns-in_err-write_in_block
returns-in_err-write_in_block g c =
    let i = c.loop-failures.invariant in
    let made = c.write_in_block.ensures in
    let p = err_from_is_err_and c.from_residual-in_err-write_in_block.result c.from_residual-in_err-write_in_block.ensures.1 in
    rw (p.1, p.2) (record {
      writes = λ honest start. tt;
      answers = tt;
      only_writes = wrote_then _ _ _ _ i.only_writes made.only_writes;
      programs = attempts_last _ _ _ _ _ i.programs made.programs c.loop-failures-test.true;
      rose = λ is. risen_over _ _ _ i.only_writes.failed_was c.in_err-write_in_block.ensures.rose;
    })

pub returns-then-passed : goal.returns-then-passed
returns-then-passed g c =
    let i = c.loop-failures.invariant in
    let made = c.in_ok-write_in_block.ensures in
    let geo = c.args.geometry.now in
    let block = c.lowest_good-block.result in
    let lowest = c.lowest_good-block.ensures in
    let enough : c.args.need ≤ c.count_good.result = subst (λ n. c.args.need ≤ n) (sym c.count_good.ensures) c.in_ok-require_good.ensures.ok in
    record {
      writes = λ h start.
          let tries = made.tries (i.only_writes.honest_was ∙ h) _ c.loop-failures._failures (i.trying h start block) in
          writes_all geo c.args.need _ _ (unworn c.loop-failures.classes) block c.write_in_block.new.sequence c.loop-failures._failures c.count_good.result
          (tries-passed geo _ _ (unworn c.loop-failures.classes) block c.write_in_block.new.sequence c.loop-failures._failures c.in_ok-write_in_block.field-0 (sym c.if-passed.ensures) tries)
          lowest.within lowest.good lowest.lowest (omega (arith, c.loop-failures-test.true)) (attempts_last 1 _ _ _ _ i.sequences made.sequences c.loop-failures-test.true) c.count_good.ensures enough;
      answers = (enough, good_fits c.loop-failures.classes _ _ c.count_good.ensures i.whole);
      only_writes = wrote_then _ _ _ _ i.only_writes made.only_writes;
      programs = attempts_last _ _ _ _ _ i.programs made.programs c.loop-failures-test.true;
      rose = λ is. absurd (good_not_bus _ is);
    }

pub returns : goal.returns
returns g c =
    let i = c.loop-failures.invariant in
    let three : c.loop-failures._failures ≡ 3 = omega arith in
    record {
      writes = λ h start. gives_up c.args.geometry.now c.args.need _ _ (unworn c.loop-failures.classes) 0 c.loop-failures.sequence c.loop-failures._failures (i.trying h start 0) three (i.just (omega (arith, three)));
      answers = least_three _ _ _ i.at_least three;
      only_writes = i.only_writes;
      programs = attempts_within _ _ _ _ i.programs (omega (arith, three));
      rose = λ is. absurd (write_not_bus is);
    }
