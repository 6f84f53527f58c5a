use Rattle.std.proofs.Common.{◌∙◌, ap, sym, arith}
use Rattle.lab_dump.proofs.FitLemmas.{IsAsOf, area_none, area_is}
use Rattle.lab_correct.specs.Decoded.{decoded_bytes}
use Rattle.lab_correct.specs.Coded.{are_coded_pages}
use Rattle.lab_correct.proofs.CodedLemmas.{coded_none, coded_some, coded_unsound, plain_size, like_of, sample_of_areas, told_of_areas}
use Rattle.lab_correct.proofs.coded.add_coded_areas.Goals as goal

pub returns-in_default-clause-added : goal.returns-in_default-clause-added
returns-in_default-clause-added g c = λ all told size.
    coded_none c.args.data_bytes c.args.spare_bytes all _ (ap (λ n. are_coded_pages n c.args.data_bytes c.args.spare_bytes) (sym size) ∙ c.in_default.ensures.none)

pub returns-in_default-first_shape-clause-added : goal.returns-in_default-first_shape-clause-added
returns-in_default-first_shape-clause-added g c = λ all told size.
    let d = c.args.data_bytes in
    let s = c.args.spare_bytes in
    let plain = c.in-Some.plain in
    coded_some d s all _ _ (ap (λ n. are_coded_pages n d s) (sym size) ∙ c.in-Some.ensures.some)
    (area_none plain d s (decoded_bytes d s all) _ (plain_size d s c.args.size plain all size c.in-Some.ensures.plain) c.in_default-first_shape.ensures.none)

pub returns-then-sample-eq0-clause-added : goal.returns-then-sample-eq0-clause-added
returns-then-sample-eq0-clause-added g c = λ all told size.
    let geo = c.in-Some-first_shape.geometry in
    let e = c.in-Some-first_shape.ensures in
    coded_unsound geo c.args.data_bytes c.args.spare_bytes c.args.size c.in-Some.plain all c.in_ok-sample.sample _ size c.in-Some.ensures.some c.in-Some.ensures.plain (omega (arith, c.requires.data_size.least))
    (record { data_is = e.areas.0; spare_is = e.areas.1; rows_is = e.rows }) e.some (c.in_ok-sample.ensures.sample all told) c.if-sample-eq0.true

pub returns-clause-added : goal.returns-clause-added
returns-clause-added g c = λ all told size.
    let d = c.args.data_bytes in
    let s = c.args.spare_bytes in
    let plain = c.in-Some.plain in
    let geo = c.in-Some-first_shape.geometry in
    let e = c.in-Some-first_shape.ensures in
    let like : IsAsOf geo plain d s = record { data_is = e.areas.0; spare_is = e.areas.1; rows_is = e.rows } in
    let rows = like_of geo d s c.args.size plain all size c.in-Some.ensures.plain (omega (arith, c.requires.data_size.least)) like in
    let sample = sample_of_areas geo d s all c.in_ok-sample.sample e.areas.0 e.areas.1 rows (c.in_ok-sample.ensures.sample all told) in
    let read = told_of_areas geo d s all c.in_ok-told.told e.areas.0 e.areas.1 rows (c.in_ok-told.ensures.told all (c.sample_decoded.ensures.same ∙ told)) in
    coded_some d s all _ _ (ap (λ n. are_coded_pages n d s) (sym size) ∙ c.in-Some.ensures.some)
    (area_is geo plain d s (decoded_bytes d s all) c.in_ok-sample.sample c.in_ok-told.told _ _ like (plain_size d s c.args.size plain all size c.in-Some.ensures.plain) e.some sample read c.if-sample-eq0.false c.add_shapes.ensures.added)
