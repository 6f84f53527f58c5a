-- A STORE WITH CODES, OR ONE WITHOUT: what it is, by which of them it is.
use Rattle.std.specs.Prelude.{ℕ, Bool, List}
use Rattle.page_layout.specs.Page.{Page}
use Rattle.file_die.specs.Store.{Held}
use Rattle.onfi_cycles.specs.Cycles.{page_of}
use Rattle.file_die.specs.declared.bytes.ByteFile.{Ghosts}
use Rattle.file_die.specs.Bytes.{Bytes}
use Rattle.file_die.specs.Rows.{Rows, held_in, is_kept}
use Rattle.coded_store.specs.declared.either.MaybeCoded.{MaybeCoded}
use Rattle.coded_store.specs.declared.either.MaybeCoded.TheVariants.{Plain, Coded}
use Rattle.coded_store.specs.declared.coded.Mended.{Mended}
use Rattle.coded_store.specs.Coded.{reading, is_reading_kept, mended_of, nothing_wrong}

abbrev pub held_of : {F : Type 0} {G : Ghosts F} → (F → Bytes) → MaybeCoded F G → Held
held_of held (Plain s) = held_in held (page_of s.rows.geometry) s.rows
held_of held (Coded s) = reading held s

abbrev pub honest_of : {F : Type 0} {G : Ghosts F} → (F → Bytes) → (F → Bool) → (F → ℕ → (List ℕ → Page) → Bool) → MaybeCoded F G → Bool
honest_of held honest tells (Plain s) = is_kept held honest tells (page_of s.rows.geometry) s.rows
honest_of held honest tells (Coded s) = is_reading_kept held honest tells s

-- the rows of its file
abbrev pub store_rows : {F : Type 0} {G : Ghosts F} → MaybeCoded F G → Rows F
store_rows (Plain s) = s.rows
store_rows (Coded s) = s.rows

-- what was wrong with its pages as each was last read, where they have codes
abbrev pub mended_in : {F : Type 0} {G : Ghosts F} → MaybeCoded F G → Mended
mended_in (Plain s) = nothing_wrong
mended_in (Coded s) = mended_of s.wrong
