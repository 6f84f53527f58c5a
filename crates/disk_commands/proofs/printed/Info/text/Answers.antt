use Rattle.std.proofs.Common.{string_bytes}
use Rattle.disk_commands.proofs.DamageLemmas.{json_is}
use Rattle.disk_commands.proofs.printed.Info.text.Goals as goal

pub returns-in_ok-numbers-in-Json : goal.returns-in_ok-numbers-in-Json
returns-in_ok-numbers-in-Json c =
    json_is string_bytes c.format-in-Json.result c.args.self.now c.args.form (string_bytes c.in_ok-numbers-in-Json.numbers) c.args.lost.now c.in-Json.is c.in_ok-numbers-in-Json.ensures c.format-in-Json.ensures.ok
