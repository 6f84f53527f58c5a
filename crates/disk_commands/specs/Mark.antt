-- THE MARK BESIDE A DISK: up to which sequence all pages were synced, and up to which all were as the disk had been flushed. It stands in one of two slots of a file.
use Rattle.std.specs.Prelude.{◌≡◌, ◌≢◌, ◌⊎◌, ◌<◌, ◌≤◌, ◌-◌, ◌^◌, ℕ, nat_lt, Bool, true, false, not, List, ◌++◌, length, take, drop, Option, Some, None, if◌then◌else◌}
use Rattle.std.specs.Int.{w64, to_le_bytes}
use Rattle.file_die.specs.Bytes.{over}
use Rattle.disk_server.specs.declared.mark.SyncMark.{SyncMark}
use Rattle.disk_commands.specs.declared.mark.FoundMark.{FoundMark}

-- ---- a slot

-- a number: its eight bytes, the least significant first, and the same once more
abbrev pub number_text : ℕ → List ℕ
number_text n = to_le_bytes w64 n ++ to_le_bytes w64 n

-- the bytes are those of a number
pub record IsNumberText (bytes : List ℕ) (n : ℕ) : Type 0 where
  pub small : n < 2 ^ 64
  pub is : bytes ≡ number_text n

abbrev pub IsNumberRead : (bytes : List ℕ) → Option ℕ → Type 0
IsNumberRead bytes (Some n) = IsNumberText bytes n
IsNumberRead bytes None = (n : ℕ) → ¬ IsNumberText bytes n

-- a slot: two numbers
abbrev pub slot_text : SyncMark → List ℕ
slot_text m = number_text m.synced ++ number_text m.flushed

-- the bytes are those of a slot
pub record IsSlotText (bytes : List ℕ) (m : SyncMark) : Type 0 where
  pub synced : IsNumberText (take 16 bytes) m.synced
  pub flushed : IsNumberText (drop 16 bytes) m.flushed

-- WHAT IS READ OF A SLOT: the mark that its bytes are, or none
abbrev pub IsSlotRead : (bytes : List ℕ) → Option SyncMark → Type 0
IsSlotRead bytes (Some m) = IsSlotText bytes m
IsSlotRead bytes None = (m : SyncMark) → ¬ IsSlotText bytes m

-- ---- the file

-- the second slot begins in a page of its own, and ends the file
abbrev pub second_at : ℕ
second_at = 4096

abbrev pub file_length : ℕ
file_length = 4128

abbrev pub first_slot : List ℕ → List ℕ
first_slot bytes = take 32 bytes

abbrev pub second_slot : List ℕ → List ℕ
second_slot bytes = drop second_at bytes

-- where a slot begins
abbrev pub slot_at : (second : Bool) → ℕ
slot_at second = if second then second_at else 0

-- what counts where there is no mark: all pages are taken for synced, but those of the last sequence of all, and no page for flushed
abbrev pub no_mark : SyncMark
no_mark = record { synced = 2 ^ 64 - 1; flushed = 0 }

abbrev pub none_found : FoundMark
none_found = record { mark = no_mark; in_second = false }

-- of two slots the later one counts
abbrev pub found_in : (first second : Option SyncMark) → FoundMark
found_in None None = none_found
found_in (Some a) None = record { mark = a; in_second = false }
found_in None (Some b) = record { mark = b; in_second = true }
found_in (Some a) (Some b) = if nat_lt a.synced b.synced then record { mark = b; in_second = true } else record { mark = a; in_second = false }

-- of a file of this length what its slots tell
pub record HasSlots (bytes : List ℕ) (found : FoundMark) : Type 0 where
  pub first : Option SyncMark
  pub second : Option SyncMark
  pub first_is : IsSlotRead (first_slot bytes) first
  pub second_is : IsSlotRead (second_slot bytes) second
  pub is : found ≡ found_in first second

-- WHAT IS READ OF THE FILE: none where it has another length, or there is none
abbrev pub IsMarkRead : Option (List ℕ) → FoundMark → Type 0
IsMarkRead None found = found ≡ none_found
IsMarkRead (Some bytes) found = ((length bytes ≡ file_length) × HasSlots bytes found) ⊎ ((length bytes ≢ file_length) × (found ≡ none_found))

-- ---- laws

pub record IsSmall (m : SyncMark) : Type 0 where
  pub synced : m.synced < 2 ^ 64
  pub flushed : m.flushed < 2 ^ 64

-- A SLOT IS READ AS IT WAS WRITTEN
abbrev pub SlotLaw : Type 0
SlotLaw = (m : SyncMark) (read : Option SyncMark) → IsSmall m → IsSlotRead (slot_text m) read → read ≡ Some m

-- a slot that is written over another one, where the power goes after so many bytes
abbrev pub torn_slot : (count : ℕ) → (old new : SyncMark) → List ℕ
torn_slot count old new = take count (slot_text new) ++ drop count (slot_text old)

-- it is one of the two
abbrev pub IsEither : (a b n : ℕ) → Type 0
IsEither a b n = (n ≡ a) ⊎ (n ≡ b)

-- THEN NONE IS READ OF IT, or each number is the old one or the new one
abbrev pub TornSlotLaw : Type 0
TornSlotLaw = (old new m : SyncMark) (count : ℕ) → IsSmall old → IsSmall new → IsSlotRead (torn_slot count old new) (Some m) → IsEither old.synced new.synced m.synced × IsEither old.flushed new.flushed m.flushed

-- one slot of the file is whole, and in the other one a mark is being written over another
abbrev pub IsTornBeside : (bytes : List ℕ) → (kept old new : SyncMark) → (count : ℕ) → Type 0
IsTornBeside bytes kept old new count =
    ((first_slot bytes ≡ slot_text kept) × (second_slot bytes ≡ torn_slot count old new)) ⊎ ((first_slot bytes ≡ torn_slot count old new) × (second_slot bytes ≡ slot_text kept))

-- SO NO LOSS OF POWER COSTS THE MARK, NOR PUTS IT AHEAD: the mark that is found is no older than the slot that was left alone, and has a number that was written
abbrev pub TornFileLaw : Type 0
TornFileLaw = (bytes : List ℕ) (kept old new : SyncMark) (count : ℕ) (found : FoundMark) → IsSmall kept → IsSmall old → IsSmall new → length bytes ≡ file_length → IsTornBeside bytes kept old new count
    → IsMarkRead (Some bytes) found → (kept.synced ≤ found.mark.synced) × ((found.mark.synced ≡ kept.synced) ⊎ IsEither old.synced new.synced found.mark.synced)

-- the second slot of a file, or the first
abbrev pub slot_of_file : (second : Bool) → List ℕ → List ℕ
slot_of_file true bytes = second_slot bytes
slot_of_file false bytes = first_slot bytes

-- a mark is written where a slot begins
abbrev pub with_slot : (bytes : List ℕ) → (second : Bool) → SyncMark → List ℕ
with_slot bytes second m = over (slot_at second) (slot_text m) bytes

-- IT STANDS IN THAT SLOT then, and the other one is as it was
abbrev pub SlotPlaceLaw : Type 0
SlotPlaceLaw = (bytes : List ℕ) (second : Bool) (m : SyncMark) → length bytes ≡ file_length
    → (slot_of_file second (with_slot bytes second m) ≡ slot_text m) × (slot_of_file (not second) (with_slot bytes second m) ≡ slot_of_file (not second) bytes)

-- SO IT IS FOUND, or a mark that is no earlier, and stood in the other slot
abbrev pub MarkBackLaw : Type 0
MarkBackLaw = (bytes : List ℕ) (second : Bool) (m : SyncMark) (found : FoundMark) → IsSmall m → length bytes ≡ file_length → IsMarkRead (Some (with_slot bytes second m)) found
    → (found.mark ≡ m) ⊎ ((other : SyncMark) × IsSlotText (slot_of_file (not second) bytes) other × (found.mark ≡ other) × (m.synced ≤ other.synced))
