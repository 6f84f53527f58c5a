use Rattle.std.proofs.Common.{sym, ap, ◌∙◌}
use Rattle.std.specs.Option.{option_and_then}
use Rattle.disk_commands.specs.Sizes.{count_from}
use Rattle.disk_commands.proofs.SizeLemmas.{count_append}
use Rattle.disk_commands.proofs.sizes.digits_of.Goals as goal

pub returns-in-Some : goal.returns-in-Some
returns-in-Some c =
    c.count-in-Some.ensures ∙ ap (option_and_then (λ k. count_from k c.args.part.now)) (sym (sym c.count.ensures ∙ c.in-Some.is)) ∙ sym (count_append 0 c.args.whole.now c.args.part.now)

pub returns-in-None : goal.returns-in-None
returns-in-None c =
    ap (option_and_then (λ k. count_from k c.args.part.now)) (sym (sym c.count.ensures ∙ c.in-None.is)) ∙ sym (count_append 0 c.args.whole.now c.args.part.now)
