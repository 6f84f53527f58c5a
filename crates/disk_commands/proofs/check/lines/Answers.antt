use Rattle.std.proofs.Common.{◌∙◌, ap}
use Rattle.std.specs.Prelude.{codes}
use Rattle.disk_damage.specs.Numbers.{counted_lines}
use Rattle.disk_commands.specs.Info.{lost_lines}
use Rattle.disk_commands.proofs.DamageLemmas.{three}
use Rattle.disk_commands.proofs.check.lines.Goals as goal

pub returns : goal.returns
returns c =
    c.in_ok-write.ensures.bytes
    ∙ three _ _ _ _ _ _ (c.in_ok-text.ensures ∙ ap lost_lines c.deref.ensures.value) (c.in_ok-bad.ensures ∙ ap (counted_lines (codes "bad ") (codes "bad block ")) c.deref-2.ensures.value)
    (c.in_ok-unsound.ensures ∙ ap (counted_lines (codes "unsound ") (codes "unsound row ")) c.deref-3.ensures.value)
