use Rattle.std.proofs.Common.{◌≡◌, ◌∙◌, List, ap, min, rules, subst, ℕ}
use Rattle.std.specs.Prelude.{filter}
use Rattle.std.specs.List.{range_with_len}
use Rattle.nand_die.specs.Made.{RefusesImage}
use Rattle.ftl_device.specs.Begin.{is_bad_in}
use Rattle.commands.specs.Check.{HasImageLength}
use Rattle.commands.specs.Serve.{bad_in}
use Rattle.commands.proofs.BadLemmas.{unmade}
use Rattle.commands.proofs.PassedLemmas.{loaded_steady}
use Rattle.commands.proofs.serve.die_of.Goals as goal

pub returns-clause-fault : goal.returns-clause-fault
returns-clause-fault c =
    let g = c.args.asked.now.geometry in
    let bytes = c.args.bytes.now in
    let claim = c.args.certificate.now in
    let named : c.deref.result.now ≡ bad_in g claim = c.deref.ensures.value ∙ (c.in-Ok.ensures ∙ ap (λ n. filter (is_bad_in claim) (range_with_len 0 (min n claim.sizes.blocks))) c.blocks-2.ensures) in
    let whole : HasImageLength g bytes = search rules in
    unmade g bytes claim c.in-Err.fault whole (subst (λ (bad : List ℕ). RefusesImage g bytes bad c.in-Err.fault) named c.in-Err.ensures.err)

pub returns-in-Ok-from_image-clause-steady : goal.returns-in-Ok-from_image-clause-steady
returns-in-Ok-from_image-clause-steady c = loaded_steady c.args.asked.now.geometry c.args.bytes.now _ c.in-Ok-from_image.die c.in-Ok-from_image.ensures.made
