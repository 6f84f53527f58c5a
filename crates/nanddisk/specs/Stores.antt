-- THE STORE OF A DIE IN A FILE OF THE SYSTEM, with codes or without: of it only the geometry is known.
use Rattle.std.specs.Prelude.{◌≡◌, []}
use Rattle.page_layout.specs.declared.geometry.Geometry.{Geometry}
use Rattle.file_die.specs.declared.bytes.ByteFile.{Ghosts}
use Rattle.file_die.specs.Bytes.{Bytes}
use Rattle.coded_store.specs.declared.either.MaybeCoded.{MaybeCoded}
use Rattle.coded_store.specs.Either.{held_of}

-- what is known of the bytes of such a file
abbrev pub no_bytes : {F : Type 0} → F → Bytes
no_bytes file = record { bytes = []; durable = []; failed_syncs = 0 }

abbrev pub IsStoreOf : {F : Type 0} {G : Ghosts F} → Geometry → MaybeCoded F G → Type 0
IsStoreOf g store = (held_of no_bytes store).geometry ≡ g
