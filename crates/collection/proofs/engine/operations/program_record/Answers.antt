use Rattle.collection.proofs.Stops.{program_stops}
use Rattle.collection.proofs.Programs.{means_by, program_cut, stepped}
use Rattle.std.proofs.Common.{rules, subst, sym, ◌<◌}
use Rattle.page_layout.specs.Geometry.{row_count}
use Rattle.collection.proofs.engine.operations.program_record.Goals as goal

pub returns-clause-means : goal.returns-clause-means
returns-clause-means g c = λ honest can. means_by c.args.geometry.now c.args.row c.args.written.now c.args.body.now _ _ _ _ c.program.result can c.write_record.ensures.is c.write_record.ensures.of_version c.program.ensures.step honest

pub returns-clause-stops : goal.returns-clause-stops
returns-clause-stops g c = λ honest can. program_stops c.args.geometry.now c.args.row c.args.written.now _ _ _ _ _ _ c.program.result can c.program.ensures.step c.program.ensures.recorded honest

pub returns-clause-cut : goal.returns-clause-cut
returns-clause-cut g c = λ honest can. program_cut c.args.geometry.now c.args.row c.args.written.now c.args.body.now _ _ _ _ _ c.program.result c.requires.same_geometry c.requires.row_in can c.write_record.ensures.is c.write_record.ensures.of_version c.program.ensures.cut honest

pub returns-clause-geometry : goal.returns-clause-geometry
returns-clause-geometry g c = c.program.ensures.geometry

pub returns-clause-honest : goal.returns-clause-honest
returns-clause-honest g c = c.program.ensures.honest

pub returns-clause-calm : goal.returns-clause-calm
returns-clause-calm g c = c.program.ensures.calm

pub returns-clause-reads : goal.returns-clause-reads
returns-clause-reads g c = c.program.ensures.reads

pub returns-clause-erases : goal.returns-clause-erases
returns-clause-erases g c = c.program.ensures.erases

pub returns-clause-failed : goal.returns-clause-failed
returns-clause-failed g c = c.program.ensures.failed

pub returns-clause-rose : goal.returns-clause-rose
returns-clause-rose g c = search rules

pub returns-clause-called : goal.returns-clause-called
returns-clause-called g c = c.program.ensures.called

pub returns-clause-spare : goal.returns-clause-spare
returns-clause-spare g c = c.write_record.ensures.is

pub returns-clause-step : goal.returns-clause-step
returns-clause-step g c = λ honest. stepped c.args.row _ c.args.written.now _ _ _ _ _ c.program.result c.write_record.ensures.is c.program.ensures.step c.program.ensures.recorded honest

pub returns-clause-image : goal.returns-clause-image
returns-clause-image g c = search rules

pub program-requires-clause-row_in : goal.program-requires-clause-row_in
program-requires-clause-row_in g c = subst (λ x. c.args.row < row_count x) (sym c.requires.same_geometry) c.requires.row_in
