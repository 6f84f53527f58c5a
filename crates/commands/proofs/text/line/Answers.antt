use Rattle.std.proofs.Common.{◌≡◌, ◌++◌, ◌∙◌, ap}
use Rattle.commands.specs.Said.{said_bytes}
use Rattle.commands.specs.Text.{area_of}
use Rattle.commands.proofs.text.line.Goals as goal

pub returns : goal.returns
returns c = ap (λ a. a ++ said_bytes c.said_of.result) c.area.ensures ∙ ap (λ r. area_of c.args.fault.now ++ r) c.said_of.ensures
