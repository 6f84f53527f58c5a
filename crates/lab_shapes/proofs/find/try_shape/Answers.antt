use Rattle.std.proofs.Common.{subst, Some}
use Rattle.std.specs.Prelude.{IfSome}
use Rattle.lab_shapes.specs.Arranged.{IsPossibleAs}
use Rattle.lab_shapes.specs.Better.{IsFoundAs, IsShapeIn, least_turns}
use Rattle.lab_shapes.proofs.ShapeLemmas.{no_shape, none_fits, one_fits}
use Rattle.lab_shapes.proofs.TriedLemmas.{tried_of_way}
use Rattle.lab_shapes.proofs.find.try_shape.Goals as goal

pub returns-in_default-clause-better : goal.returns-in_default-clause-better
returns-in_default-clause-better g c = λ all told size.
    no_shape all c.args.way.now c.args.size _ _ _ c.args.room.now.best size (subst (IsShapeIn c.args.size c.args.way.now c.args.data_bytes c.args.spare_bytes c.args.pages) c.in_default.is c.shape_in.ensures)

pub returns-in-Some-found-clause-better : goal.returns-in-Some-found-clause-better
returns-in-Some-found-clause-better g c = λ all told size.
    let w = c.args.way.now in
    let d = c.args.data_bytes in
    let s = c.args.spare_bytes in
    let p = c.args.pages in
    let geo = c.in-Some.geometry in
    let a = c.in-Some.arrangement in
    one_fits all w geo a c.in-Some-found.found c.args.size d s p (least_turns c.args.room.now.best) c.args.room.now.best (Some c.better.result) c.requires.tried size
    (subst (IsShapeIn c.args.size w d s p) c.in-Some.is c.shape_in.ensures)
    (subst (IsFoundAs all (least_turns c.args.room.now.best) geo a) c.in-Some-found.is
    (subst (λ n. IsFoundAs all n geo a c.in_ok-found.found) c.least_turns.ensures (c.in_ok-found.ensures.found all told size)))
    c.better.ensures.better

pub returns-in_default-found-clause-better : goal.returns-in_default-found-clause-better
returns-in_default-found-clause-better g c = λ all told size.
    let w = c.args.way.now in
    let geo = c.in-Some.geometry in
    let a = c.in-Some.arrangement in
    none_fits all w geo a c.args.size _ _ _ c.args.room.now.best c.requires.tried size
    (subst (IsShapeIn c.args.size w c.args.data_bytes c.args.spare_bytes c.args.pages) c.in-Some.is c.shape_in.ensures)
    (subst (IsFoundAs all (least_turns c.args.room.now.best) geo a) c.in_default-found.is
    (subst (λ n. IsFoundAs all n geo a c.in_ok-found.found) c.least_turns.ensures (c.in_ok-found.ensures.found all told size)))

pub fit_as-requires-clause-tried : goal.fit_as-requires-clause-tried
fit_as-requires-clause-tried g c =
    let w = c.args.way.now in
    tried_of_way w c.in-Some.arrangement c.requires.tried
    (let is : IsShapeIn c.args.size w c.args.data_bytes c.args.spare_bytes c.args.pages (Some (c.in-Some.geometry, c.in-Some.arrangement)) = subst
    (IsShapeIn c.args.size w c.args.data_bytes c.args.spare_bytes c.args.pages) c.in-Some.is c.shape_in.ensures in is.of_way)

pub returns-in-Some-found-clause-possible : goal.returns-in-Some-found-clause-possible
returns-in-Some-found-clause-possible g c = c.better.ensures.possible (subst (λ o. IfSome o IsPossibleAs) c.in-Some-found.is c.in_ok-found.ensures.possible)
