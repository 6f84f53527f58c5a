use Rattle.std.proofs.Common.{refl, sym, ◌+◌, ◌<◌, length}
use Rattle.std.proofs.lemmas.Bool.{ltb-false, ltb-true, ne_eqb}
use Rattle.std.proofs.lemmas.List.{get_or_read_under}
use Rattle.lab_dump.proofs.NearestLemmas.{few_at, unnamed_at}
use Rattle.lab_dump.proofs.nearest.names_version.Goals as goal

pub returns-in_default : goal.returns-in_default
returns-in_default c = λ e. few_at c.args.bytes.now c.args.place (ltb-false (c.args.place + 2) (length c.args.bytes.now) (sym (c.in_default.ensures.lookup.0)))

pub returns-else-version-eq1 : goal.returns-else-version-eq1
returns-else-version-eq1 c =
    let bytes = c.args.bytes.now in
    let at = c.args.place + 2 in
    let version = c.in-Some.version.now in
    let less : at < length bytes = ltb-true at (length bytes) (sym c.in-Some.ensures.lookup.0) in
    λ two. unnamed_at bytes c.args.place version (get_or_read_under bytes at (length bytes) version 0 c.in-Some.ensures.lookup.1 less refl) (ne_eqb version 1 c.if-version-eq1.false) two
