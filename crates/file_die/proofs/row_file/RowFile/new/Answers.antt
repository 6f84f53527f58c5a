use Rattle.std.proofs.Common.{rules, ◌≡◌, ◌∙◌, ◌*◌, ap, refl, replicate}
use Rattle.page_layout.specs.Geometry.{row_count}
use Rattle.file_die.specs.Bytes.{Bytes}
use Rattle.file_die.proofs.RowLemmas.{parts_taken, kept_first}
use Rattle.file_die.proofs.row_file.RowFile.new.Goals as goal

pub invariant_of-result : goal.invariant_of-result
invariant_of-result g c =
    let held = g.F.ByteFile.held in
    let found : c.in-Ok.found ≡ row_count c.args.geometry * c.args.size = search rules in
    let blank : c.in-Ok-vec.erased.items ≡ replicate (c.args.geometry.pages * c.args.size) 255 = search rules in
    parts_taken (g.F.ByteFile.honest c.args.file) _ (g.F.ByteFile.honest c.length.new.self) (held c.args.file) (held c.length.new.self) (held c.sync.new.self) c.args.geometry c.args.size c.in-Ok.found c.in-Ok-vec.erased.items
    c.length.ensures.honest c.sync.ensures.honest c.length.ensures.same c.in-Ok.ensures.length c.length.ensures.bytes found c.in_default.ensures.settles blank

pub returns-in-Ok-vec-clause-kept : goal.returns-in-Ok-vec-clause-kept
returns-in-Ok-vec-clause-kept g c reads =
    let held = g.F.ByteFile.held in
    let tells = g.F.ByteFile.tells in
    let size = c.args.size in
    kept_first held g.F.ByteFile.honest tells reads c.args.file _ refl (c.sync.ensures.honest ∙ c.length.ensures.honest) (c.sync.ensures.tells size reads ∙ c.length.ensures.tells size reads)
    (λ h. (c.in_default.ensures.settles (c.length.ensures.honest ∙ h)).syncs ∙ ap (λ (s : Bytes). s.failed_syncs) (c.length.ensures.same h))
