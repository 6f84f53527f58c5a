-- What the files of disks may answer, and the disks that were put in their places.
use Rattle.std.specs.Prelude.{◌≡◌, ◌⊎◌, ℕ, Bool, true, false, List, [], ◌∷◌, ◌++◌, Option, Some, None, Result, Ok, Err}
use Rattle.std.specs.Option.{option_map}
use Rattle.file_die.specs.Store.{Held}
use Rattle.disk_commands.specs.declared.files.Access.{Access}
use Rattle.disk_commands.specs.declared.files.DiskFileFault.{DiskFileFault}
use Rattle.disk_commands.specs.declared.files.DiskFileFault.TheVariants as file
use Rattle.disk_commands.specs.declared.mark.FoundMark.{FoundMark}

-- what the files may answer, by the paths as written
pub record DiskFileAnswers : Type 1 where
  -- whether something stands at the path of a disk, or beside it where its shape is told
  pub says_there : List ℕ → Bool → Type 0
  -- the bytes of the file that tells the shape of the disk at a path
  pub tells : List ℕ → List ℕ → Type 0
  -- the bytes of the file of its mark, or none where there is no such file
  pub marks : List ℕ → Option (List ℕ) → Type 0
  -- the bytes of the file of the list of its lost sectors, or the first so many of them
  pub lists : List ℕ → (most : ℕ) → List ℕ → Type 0
  -- what the file of a path holds, read as the pages of a die
  pub holds : List ℕ → Held → Type 0
  -- how a call that names a path may fail
  pub fails : List ℕ → DiskFileFault → Type 0
  -- the stores keep what they are given
  pub honest : Bool

-- files of which nothing is known
abbrev pub unknown_disk_files : DiskFileAnswers
unknown_disk_files = record {
  says_there = λ path yes. Unit {0};
  tells = λ path text. Unit {0};
  lists = λ path most text. Unit {0};
  marks = λ path text. Unit {0};
  holds = λ path held. Unit {0};
  fails = λ path fault. Unit {0};
  honest = false;
}

-- a call may fail in no new way
abbrev pub FailsNoMore : DiskFileAnswers → DiskFileAnswers → Type 0
FailsNoMore old new = (path : List ℕ) (fault : DiskFileFault) → new.fails path fault → old.fails path fault

-- nor tell another mark, or another list
pub record SaysNoMore (old new : DiskFileAnswers) : Type 0 where
  pub marks : (path : List ℕ) (text : Option (List ℕ)) → new.marks path text → old.marks path text
  pub lists : (path : List ℕ) (most : ℕ) (text : List ℕ) → new.lists path most text → old.lists path most text
  pub fails : FailsNoMore old new

-- nor anything else
pub record DiskFilesAnswerNoMore (old new : DiskFileAnswers) : Type 0 where
  pub tells : (path text : List ℕ) → new.tells path text → old.tells path text
  pub holds : (path : List ℕ) (held : Held) → new.holds path held → old.holds path held
  pub honest : new.honest ≡ old.honest
  pub says : SaysNoMore old new

-- how a copy of a dump may fail that is made beside a path: for the dump, or for what is made
abbrev pub FailsCopy : DiskFileAnswers → (path dump : List ℕ) → DiskFileFault → Type 0
FailsCopy a path dump file.Read = a.fails dump file.Read
FailsCopy a path dump (file.Length bytes) = a.fails dump (file.Length bytes)
FailsCopy a path dump file.Write = a.fails path file.Write
FailsCopy a path dump file.InUse = a.fails path file.InUse
FailsCopy a path dump file.Exists = a.fails path file.Exists
FailsCopy a path dump file.OutOfMemory = a.fails path file.OutOfMemory

-- how one is opened to be looked at: for reading alone, and at once or not at all
abbrev pub to_look : Access
to_look = record { writes = false; wait = 0 }

-- a die that was to be opened: its path, whether to be written, and how many seconds to wait for it; or the mark beside it, to be written, of which this was found
pub record Opened : Type 0 where
  pub path : List ℕ
  pub mark : Option FoundMark
  pub writes : Bool
  pub wait : ℕ

abbrev pub with_opened : Option (List Opened) → (path : List ℕ) → Access → Option (List Opened)
with_opened opened path access = option_map (λ known. known ++ (record { path = path; mark = None; writes = access.writes; wait = access.wait } ∷ [])) opened

abbrev pub with_mark_opened : Option (List Opened) → (path : List ℕ) → FoundMark → Option (List Opened)
with_mark_opened opened path found = option_map (λ known. known ++ (record { path = path; mark = Some found; writes = true; wait = 0 } ∷ [])) opened

-- this one was to be opened, once
abbrev pub OpensOnce : (path : List ℕ) → Access → (before after : Option (List Opened)) → Type 0
OpensOnce path access before after = after ≡ with_opened before path access

-- a disk: what its die holds, and the text beside it
pub record Kept : Type 0 where
  pub path : List ℕ
  pub held : Held
  pub text : List ℕ

abbrev pub with_kept_disk : Option (List Kept) → Kept → Option (List Kept)
with_kept_disk kept disk = option_map (λ known. known ++ (disk ∷ [])) kept

-- the disks after one more was to be put in its place, by the answer
abbrev pub kept_after : Option (List Kept) → Kept → Result (Unit {0}) DiskFileFault → Option (List Kept)
kept_after kept disk (Ok done) = with_kept_disk kept disk
kept_after kept disk (Err fault) = kept

-- ---- what was made beside a path, where that is known: whether it stands there yet

-- once it was made, and once it was removed or put in its place
abbrev pub made_part : (part : Option Bool) → Option Bool
made_part part = option_map (λ before. true) part

abbrev pub no_part : (part : Option Bool) → Option Bool
no_part part = option_map (λ before. false) part

-- NONE IS LEFT: it was removed, or none was made
abbrev pub LeavesNoPart : (before after : Option Bool) → Type 0
LeavesNoPart before after = (after ≡ before) ⊎ (after ≡ no_part before)
