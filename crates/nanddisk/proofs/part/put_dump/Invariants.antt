use Rattle.std.proofs.Common.{◌≡◌, length}
use Rattle.nanddisk.specs.Stores.{IsStoreOf}
use Rattle.nanddisk.proofs.part.put_dump.Given as goal

abbrev pub invariant-loop-row : goal.invariant-loop-row
invariant-loop-row g l = IsStoreOf l.geometry l.store × (length l.page.items ≡ l.length)
