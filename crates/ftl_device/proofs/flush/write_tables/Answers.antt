use Rattle.std.proofs.Common.{◌∙◌, refl}
use Rattle.std.proofs.lemmas.Result.{err_from_is_err_and}
use Rattle.collection.specs.Safe.{ram}
use Rattle.collection.proofs.Beside.{beside_then}
use Rattle.ftl_device.proofs.FlushLoops.{first_fails, later_fails, first_round, next_round, last_round, spells_first, spells_next, spells_last, keeps_refused}
use Rattle.ftl_device.proofs.FlushStepLemmas.{rounds_first, rounds_next, rounds_last}
use Rattle.ftl_device.proofs.LeaveLemmas.{leaves_then, limits_same}
use Rattle.ftl_device.proofs.AnswerLemmas.{no_err, eq_most, under_same, at_most_by, less_by, most_by}
use Rattle.ftl_device.proofs.flush.write_tables.Goals as goal

pub rounds-init : goal.rounds-init
rounds-init g c = record {
  leaves = c.in_ok-write_tables_once.ensures.leaves;
  mapping = c.write_tables_once.ensures.mapping;
  beside = c.write_tables_once.ensures.beside;
  most = eq_most _ _ c.good-good.ensures;
  fewer = under_same _ _ _ c.good-good.ensures c.write_tables_once.ensures.table.fewer;
  cost = first_round c.good-good.result (ram c.args.engine.now) (ram c.write_tables_once.new.engine) c.requires.safe.memory c.good-good.ensures c.in_ok-write_tables_once.ensures.cost;
  rounds = rounds_first g.N.PageSource.view c.good-good.result c.args.engine.now c.write_tables_once.new.engine c.good-good.ensures c.in_ok-write_tables_once.ensures.round;
  truth = λ honest w. spells_first c.good-good.result (ram c.args.engine.now) (ram c.write_tables_once.new.engine) _ _ c.good-good.ensures (c.in_ok-write_tables_once.ensures.truth honest w);
}

pub rounds-preserved : goal.rounds-preserved
rounds-preserved g c = record {
  leaves = leaves_then g.N.PageSource.view c.args.engine.now
      c.rounds.engine c.write_tables_once-in-rounds.new.engine _ _ (λ honest k. (c.rounds.invariant.truth honest k).keeps)
      (limits_same _ _ c.rounds.invariant.mapping) c.rounds.invariant.leaves c.in_ok-write_tables_once-2.ensures.leaves;
  mapping = c.write_tables_once-in-rounds.ensures.mapping ∙ c.rounds.invariant.mapping;
  beside = beside_then _ _ _ c.rounds.invariant.beside c.write_tables_once-in-rounds.ensures.beside;
  most = at_most_by _ _ _ _ c.good-good-in-rounds.ensures c.rounds.invariant.fewer c.rounds.invariant.most;
  fewer = under_same _ _ _ c.good-good-in-rounds.ensures c.write_tables_once-in-rounds.ensures.table.fewer;
  cost = next_round c.rounds.good c.good-good-in-rounds.result (ram c.args.engine.now) (ram c.rounds.engine)
      (ram c.write_tables_once-in-rounds.new.engine) c.rounds.invariant.leaves.geometry c.good-good-in-rounds.ensures
      (less_by _ _ _ _ c.good.ensures c.good-good-in-rounds.ensures c.rounds-test.true) c.rounds.invariant.cost
      c.in_ok-write_tables_once-2.ensures.cost;
  rounds = rounds_next g.N.PageSource.view c.rounds.good
      c.good-good-in-rounds.result c.args.engine.now c.rounds.engine c.write_tables_once-in-rounds.new.engine c.good-good-in-rounds.ensures
      (less_by _ _ _ _ c.good.ensures c.good-good-in-rounds.ensures c.rounds-test.true) c.rounds.invariant.rounds
      c.in_ok-write_tables_once-2.ensures.round;
  truth = λ honest w.
      let before = c.rounds.invariant.truth honest w in
      spells_next c.good-good-in-rounds.result c.args.engine.now.geometry (ram c.rounds.engine) (ram c.write_tables_once-in-rounds.new.engine) _ _ _
      c.rounds.invariant.leaves.geometry c.good-good-in-rounds.ensures before.keeps
      (c.in_ok-write_tables_once-2.ensures.truth (c.rounds.invariant.leaves.die.honest_is ∙ honest) before.keeps.truth);
}

pub returns-clause-rounds : goal.returns-clause-rounds
returns-clause-rounds g c = rounds_last g.N.PageSource.view
    c.rounds.good c.args.engine.now c.rounds.engine c.rounds.invariant.rounds (most_by _ _ _ c.good.ensures c.rounds-test.false)
    c.rounds.invariant.fewer

pub returns-clause-cost : goal.returns-clause-cost
returns-clause-cost g c = last_round c.rounds.good (ram c.args.engine.now) (ram c.rounds.engine) c.rounds.invariant.cost c.rounds.invariant.fewer

pub returns-in_err-write_tables_once-clause-out : goal.returns-in_err-write_tables_once-clause-out
returns-in_err-write_tables_once-clause-out g c =
    let p = err_from_is_err_and c.from_residual.result c.from_residual.ensures.1 in
    rw (p.1, p.2) (λ is. first_fails (ram c.args.engine.now) (ram c.write_tables_once.new.engine) c.requires.safe.memory (c.in_err-write_tables_once.ensures.out is))

pub returns-in_err-write_tables_once-2-clause-out : goal.returns-in_err-write_tables_once-2-clause-out
returns-in_err-write_tables_once-2-clause-out g c =
    let p = err_from_is_err_and c.from_residual-in_err-write_tables_once-2.result c.from_residual-in_err-write_tables_once-2.ensures.1 in
    rw (p.1, p.2)
    (λ is. later_fails c.rounds.good c.good-good-in-rounds.result (ram c.args.engine.now) (ram c.rounds.engine)
    (ram c.write_tables_once-in-rounds.new.engine) c.rounds.invariant.leaves.geometry c.good-good-in-rounds.ensures
    (less_by _ _ _ _ c.good.ensures c.good-good-in-rounds.ensures c.rounds-test.true) c.rounds.invariant.cost
    (c.in_err-write_tables_once-2.ensures.out is))

pub returns-in_err-write_tables_once-2-clause-leaves : goal.returns-in_err-write_tables_once-2-clause-leaves
returns-in_err-write_tables_once-2-clause-leaves g c =
    let p = err_from_is_err_and c.from_residual-in_err-write_tables_once-2.result c.from_residual-in_err-write_tables_once-2.ensures.1 in
    rw (p.1, p.2)
    (leaves_then g.N.PageSource.view c.args.engine.now
    c.rounds.engine c.write_tables_once-in-rounds.new.engine _ _ (λ honest k. (c.rounds.invariant.truth honest k).keeps)
    (limits_same _ _ c.rounds.invariant.mapping) c.rounds.invariant.leaves c.in_err-write_tables_once-2.ensures.leaves)

pub returns-in_err-write_tables_once-2-clause-beside : goal.returns-in_err-write_tables_once-2-clause-beside
returns-in_err-write_tables_once-2-clause-beside g c = beside_then _ _ _ c.rounds.invariant.beside c.write_tables_once-in-rounds.ensures.beside

pub returns-in_err-write_tables_once-2-clause-truth : goal.returns-in_err-write_tables_once-2-clause-truth
returns-in_err-write_tables_once-2-clause-truth g c =
    let p = err_from_is_err_and c.from_residual-in_err-write_tables_once-2.result c.from_residual-in_err-write_tables_once-2.ensures.1 in
    rw (p.1, p.2) (λ honest w.
    let before = (c.rounds.invariant.truth honest w).keeps in
    keeps_refused c.args.engine.now.geometry (ram c.rounds.engine) (ram c.write_tables_once-in-rounds.new.engine) _ _ _ _ c.rounds.invariant.leaves.geometry before (c.in_err-write_tables_once-2.ensures.truth (c.rounds.invariant.leaves.die.honest_is ∙ honest) before.truth))

pub returns-clause-truth : goal.returns-clause-truth
returns-clause-truth g c = λ honest w. spells_last c.rounds.good c.args.engine.now.geometry _ (ram c.rounds.engine) _ (c.rounds.invariant.truth honest w) (most_by _ _ _ c.good.ensures c.rounds-test.false) c.rounds.invariant.fewer

-- ---- the rest

pub returns-in_err-write_tables_once-clause-leaves : goal.returns-in_err-write_tables_once-clause-leaves
returns-in_err-write_tables_once-clause-leaves g c =
    let p = err_from_is_err_and c.from_residual.result c.from_residual.ensures.1 in
    rw (p.1, p.2) c.in_err-write_tables_once.ensures.leaves

pub returns-in_err-write_tables_once-clause-mapping : goal.returns-in_err-write_tables_once-clause-mapping
returns-in_err-write_tables_once-clause-mapping g c = c.write_tables_once.ensures.mapping

pub returns-in_err-write_tables_once-clause-beside : goal.returns-in_err-write_tables_once-clause-beside
returns-in_err-write_tables_once-clause-beside g c = c.write_tables_once.ensures.beside

pub returns-in_err-write_tables_once-clause-cost : goal.returns-in_err-write_tables_once-clause-cost
returns-in_err-write_tables_once-clause-cost g c =
    let p = err_from_is_err_and c.from_residual.result c.from_residual.ensures.1 in
    rw p.1 tt

pub returns-in_err-write_tables_once-clause-rounds : goal.returns-in_err-write_tables_once-clause-rounds
returns-in_err-write_tables_once-clause-rounds g c =
    let p = err_from_is_err_and c.from_residual.result c.from_residual.ensures.1 in
    rw p.1 tt

pub returns-in_err-write_tables_once-clause-truth : goal.returns-in_err-write_tables_once-clause-truth
returns-in_err-write_tables_once-clause-truth g c =
    let p = err_from_is_err_and c.from_residual.result c.from_residual.ensures.1 in
    rw (p.1, p.2) c.in_err-write_tables_once.ensures.truth

pub returns-in_err-write_tables_once-2-clause-mapping : goal.returns-in_err-write_tables_once-2-clause-mapping
returns-in_err-write_tables_once-2-clause-mapping g c = c.write_tables_once-in-rounds.ensures.mapping ∙ c.rounds.invariant.mapping

pub returns-in_err-write_tables_once-2-clause-cost : goal.returns-in_err-write_tables_once-2-clause-cost
returns-in_err-write_tables_once-2-clause-cost g c =
    let p = err_from_is_err_and c.from_residual-in_err-write_tables_once-2.result c.from_residual-in_err-write_tables_once-2.ensures.1 in
    rw p.1 tt

pub returns-in_err-write_tables_once-2-clause-rounds : goal.returns-in_err-write_tables_once-2-clause-rounds
returns-in_err-write_tables_once-2-clause-rounds g c =
    let p = err_from_is_err_and c.from_residual-in_err-write_tables_once-2.result c.from_residual-in_err-write_tables_once-2.ensures.1 in
    rw p.1 tt

pub returns-clause-leaves : goal.returns-clause-leaves
returns-clause-leaves g c = c.rounds.invariant.leaves

pub returns-clause-mapping : goal.returns-clause-mapping
returns-clause-mapping g c = c.rounds.invariant.mapping

pub returns-clause-beside : goal.returns-clause-beside
returns-clause-beside g c = c.rounds.invariant.beside

pub returns-clause-out : goal.returns-clause-out
returns-clause-out g c = λ is. absurd (no_err _ _ _ refl is)

-- ---- what the calls want

pub write_tables_once-requires-clause-safe : goal.write_tables_once-requires-clause-safe
write_tables_once-requires-clause-safe g c = c.requires.safe

pub write_tables_once-requires-clause-going : goal.write_tables_once-requires-clause-going
write_tables_once-requires-clause-going g c = c.requires.going

pub write_tables_once-requires-in-rounds-clause-safe : goal.write_tables_once-requires-in-rounds-clause-safe
write_tables_once-requires-in-rounds-clause-safe g c = c.rounds.invariant.leaves.safe

pub write_tables_once-requires-in-rounds-clause-going : goal.write_tables_once-requires-in-rounds-clause-going
write_tables_once-requires-in-rounds-clause-going g c = c.rounds.invariant.leaves.fault
