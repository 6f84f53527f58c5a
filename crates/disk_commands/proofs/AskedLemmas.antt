-- Why no shape was asked for.
use Rattle.std.proofs.Common.{ℕ, inr, Result, Ok, Err}
use Rattle.std.specs.Prelude.{IfErr}
use Rattle.disk_commands.specs.declared.shapes.DiskShape.{DiskShape}
use Rattle.disk_commands.specs.declared.text.DiskCommandFault.{DiskCommandFault}
use Rattle.disk_commands.specs.declared.words.CreateWords.{CreateWords}
use Rattle.disk_commands.specs.Asked.{IsNoShapeAsked, IsNoShapeAt, IsShareAsked}

-- once the share was read
pub no_shape : (words : CreateWords) (share : ℕ) (r : Result DiskShape DiskCommandFault) → IsShareAsked words.share words.make share → IfErr r (IsNoShapeAt words share) → IfErr r (IsNoShapeAsked words)
no_shape words share (Ok shape) asked h = tt
no_shape words share (Err told) asked h = inr (share, asked, h)
