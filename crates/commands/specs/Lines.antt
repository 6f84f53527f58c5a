-- Lines on standard output.
use Rattle.std.specs.Prelude.{◌≡◌, ℕ, List, codes, Option}
use Rattle.request_stream.specs.Frames.{AppendsPart}
use Rattle.commands.specs.declared.text.CommandFault.{CommandFault}
use Rattle.commands.specs.declared.text.CommandFault.TheVariants.{Write}

-- standard output could not be written: a beginning of the line stands there, or nothing, and never all of it
abbrev pub IsLineUnprinted : List ℕ → Option (List ℕ) → Option (List ℕ) → CommandFault → Type 0
IsLineUnprinted line before after (Write path) = (path.now ≡ codes "-") × AppendsPart before after line
IsLineUnprinted line before after _ = ⊥
