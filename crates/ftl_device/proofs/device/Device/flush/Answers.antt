use Rattle.std.proofs.Common.{refl, ◌∙◌, ap}
use Rattle.std.proofs.lemmas.Result.{err_from_is_err_and}
use Rattle.promises.specs.Step as step
use Rattle.collection.specs.Safe.{ram}
use Rattle.ftl_device.proofs.FlushCalls.{flush_lacks, flushed_out}
use Rattle.ftl_device.proofs.ShownLemmas.{flush_left_after}
use Rattle.ftl_device.proofs.SpentLemmas.{funded_begun}
use Rattle.ftl_device.proofs.UpkeepLemmas.{upkept_by, not_upkept, flush_pins}
use Rattle.ftl_device.proofs.ChangeLemmas.{unpinned_some}
use Rattle.ftl_device.proofs.RenewedLemmas.{flush_finishes}
use Rattle.ftl_device.proofs.FlushStepLemmas.{flushed_answer}
use Rattle.std.specs.Map.{keys_of}
use Rattle.ftl_device.proofs.AnswerLemmas.{told_scarce, told_fewer, told_spent}
use Rattle.ftl_device.proofs.device.Device.flush.Goals as goal

pub returns-in_err-may_flush : goal.returns-in_err-may_flush
returns-in_err-may_flush g c =
    let p = err_from_is_err_and c.from_residual.result c.from_residual.ensures.1 in
    record {
      upkeeps = rw (p.1, p.2) (not_upkept g.N.PageSource.view step.Flush c.args.self.now c.requires.device (λ reply s h. h) _ c.in_err-may_flush.ensures.may_not);
      device = c.requires.device;
      geometry = refl;
      cursor = refl;
      pins = λ none some. absurd (unpinned_some c.args.self.now.engine.pinned none some);
      renewed = rw p.1 (λ honest w. tt);
      keys = refl;
      programs = rw p.1 tt;
    }

pub returns-clause-upkeeps : goal.returns-clause-upkeeps
returns-clause-upkeeps g c = upkept_by g.N.PageSource.view
    step.Flush c.args.self.now c.finish.new.self c.requires.device c.finish.ensures.device c.in_ok-may_flush.ensures.may (λ reply s h. h)
    c.flush_ready-answer.new.engine c.good-good.result c.flush_ready-answer.result c.finish.result c.finish.ensures.engine c.good-good.ensures c.finish.ensures.answer (record {
      kept = c.flush_ready-answer.ensures.kept;
      no_memory = c.flush_ready-answer.ensures.memory;
      lacks = λ honest w. flush_lacks c.flush_ready-answer.result (ram c.args.self.now.engine) (ram c.flush_ready-answer.new.engine)
          (c.flush_ready-answer.ensures.count (
            honest,
            w,
            funded_begun (ram c.args.self.now.engine) c.args.self.now.read_only c.requires.device.read_only
                c.in_ok-may_flush.ensures.may.writable,
          ));
      left = λ honest w log ro flag on. flush_left_after g.N.PageSource.view step.Flush c.args.self.now.engine
          c.flush_ready-answer.new.engine c.flush_ready-answer.new.engine log c.args.self.now.read_only ro c.flush_ready-answer.result _ _ refl refl
          c.requires.device.engine.memory c.flush_ready-answer.ensures.kept.ends.safe.memory c.flush_ready-answer.ensures.kept.ends.geometry flag on refl
          (c.flush_ready-answer.ensures.count (
            honest,
            w,
            funded_begun (ram c.args.self.now.engine) c.args.self.now.read_only c.requires.device.read_only
                c.in_ok-may_flush.ensures.may.writable,
          ));
      worth = λ honest w log its. flushed_out c.flush_ready-answer.result (ram c.args.self.now.engine) (ram c.flush_ready-answer.new.engine)
          (g.N.PageSource.view.flash c.args.self.now.engine.nand) (g.N.PageSource.view.flash c.flush_ready-answer.new.engine.nand)
          c.flush_ready-answer.ensures.kept.ends.geometry c.requires.device.engine.memory c.flush_ready-answer.ensures.kept.ends.safe.memory w.truth
          (c.flush_ready-answer.ensures.kept.truth honest w) (c.flush_ready-answer.ensures.flushed honest w)
          (c.flush_ready-answer.ensures.renewed honest w) log;
    })

pub returns-clause-pins : goal.returns-clause-pins
returns-clause-pins g c = λ none some. flush_pins c.flush_ready-answer.result c.args.self.now.engine c.flush_ready-answer.new.engine
    c.finish.new.self.engine c.finish.result c.good-good.result c.flush_ready-answer.ensures.memory c.finish.ensures.engine c.finish.ensures.answer
    c.flush_ready-answer.ensures.pins none some

pub returns-clause-renewed : goal.returns-clause-renewed
returns-clause-renewed g c = flush_finishes g.N.PageSource.view c.args.self.now c.finish.new.self c.finish.result (returns-clause-upkeeps g c)

pub returns-clause-programs : goal.returns-clause-programs
returns-clause-programs g c = flushed_answer g.N.PageSource.view c.args.self.now.engine
    c.flush_ready-answer.new.engine c.finish.new.self.engine c.flush_ready-answer.result c.finish.result c.good-good.result c.finish.ensures.engine
    c.finish.ensures.answer c.flush_ready-answer.ensures.programs

-- ---- it was tried

pub returns-clause-device : goal.returns-clause-device
returns-clause-device g c = c.finish.ensures.device

pub returns-clause-geometry : goal.returns-clause-geometry
returns-clause-geometry g c = ap (λ e. e.geometry) c.finish.ensures.engine ∙ c.flush_ready-answer.ensures.kept.ends.geometry

pub returns-clause-cursor : goal.returns-clause-cursor
returns-clause-cursor g c = c.finish.ensures.cursor

pub returns-clause-keys : goal.returns-clause-keys
returns-clause-keys g c = ap (λ e. keys_of e.mapping.cached) c.finish.ensures.engine ∙ c.flush_ready-answer.ensures.keys

-- ---- what the calls want

pub finish-requires : goal.finish-requires
finish-requires g c =
    let ends = c.flush_ready-answer.ensures.kept.ends in
    record {
      safe = ends.safe;
      fault = ends.fault;
      scarce = told_scarce c.flush_ready-answer.result (ram c.args.self.now.engine) (ram c.flush_ready-answer.new.engine) ends.tells;
      fewer = told_fewer c.flush_ready-answer.result (ram c.args.self.now.engine) (ram c.flush_ready-answer.new.engine) _ c.good-good.ensures ends.tells;
      calm = ends.calm_memory;
      spent = told_spent c.flush_ready-answer.result (ram c.args.self.now.engine) (ram c.flush_ready-answer.new.engine) ends.tells;
    }

pub flush_ready-answer-requires : goal.flush_ready-answer-requires
flush_ready-answer-requires g c =
    let may = c.in_ok-may_flush.ensures.may in
    record { safe = c.requires.device.engine; going = may.going; calm = c.requires.device.calm may.going }
