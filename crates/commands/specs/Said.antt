-- What a line says of a fault, as bytes.
use Rattle.std.specs.Prelude.{ℕ, List, ◌∷◌, ◌++◌, codes}
use Rattle.std.specs.Fmt.{decimal}
use Rattle.commands.specs.declared.said.Said.{Said}
use Rattle.commands.specs.declared.said.Said.TheVariants as said
use Rattle.commands.specs.Text.{device_words}

abbrev pub said_bytes : Said → List ℕ
said_bytes (said.Text text) = text.now
said_bytes (said.Texts text other) = text.now ++ other.now
said_bytes (said.One text number) = text.now ++ decimal number
said_bytes (said.Two text first other second) = text.now ++ (decimal first ++ (other.now ++ decimal second))
said_bytes (said.Device refused) = device_words refused
said_bytes (said.DeviceUnstored refused path) = device_words refused ++ (10 ∷ (codes "fault write " ++ path.now))
