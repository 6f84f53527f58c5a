use Rattle.std.proofs.Common.{◌<◌, ℕ, List, subst}
use Rattle.std.specs.Prelude.{slice_index}
use Rattle.file_die.proofs.memory_bytes.MemoryBytesByteFile.length.Goals as goal

pub returns-clause-bytes : goal.returns-clause-bytes
returns-clause-bytes c e =
    let fits : (k : ℕ) → slice_index c.args.self.now.bytes.items k < 256 = λ k. subst (λ (xs : List ℕ). slice_index xs k < 256) c.deref.ensures.value (c.count.ensures.fit k) in
    record { bytes_fit = fits; durable_fit = fits }
