-- WHAT IS ASKED OF THE NAMES OF FILES, and what each call came to.
use Rattle.std.specs.Prelude.{◌≡◌, Bool, true, ℕ, List, [], ◌∷◌, ◌++◌, Option, Result, Ok, Err}
use Rattle.std.specs.Option.{option_map}
use Rattle.std.specs.declared.fs.options.OpenOptions.{OpenOptions}
use Rattle.std.specs.Fs.{with_create_new, with_read, with_write, new_options}
use Rattle.part_files.specs.declared.names.PartFault.{PartFault}

-- a call: a new file of a name, which no file had; the file of a name, locked, and seen to have that name still; a name removed; one more
-- name given to a file; a file's name given up for another one; the folder of a name synced. A file that a call has opened is let go, and
-- its lock with it. And what is looked at: whether something has a name, whether two names are those of one file, whether a file has but one
pub data NameCall : Type 0 where
  Make : (name : List ℕ) → NameCall
  Claim : (name : List ℕ) → NameCall
  Remove : (name : List ℕ) → NameCall
  Link : (from to : List ℕ) → NameCall
  Rename : (from to : List ℕ) → NameCall
  SyncFolder : (name : List ℕ) → NameCall
  LetGo : NameCall
  IsThere : (name : List ℕ) → NameCall
  IsOneFile : (first second : List ℕ) → NameCall
  HasOneName : (name : List ℕ) → NameCall

-- what a call came to: it was done; a look told this; or it had this fault
pub data Came : Type 0 where
  Done : Came
  Told : (answer : Bool) → Came
  Refused : (fault : PartFault) → Came

-- of a call that gives nothing, or a file
abbrev pub call_came : {A : Type 0} → Result A PartFault → Came
call_came (Ok given) = Done
call_came (Err fault) = Refused fault

-- of a look
abbrev pub look_came : Result Bool PartFault → Came
look_came (Ok answer) = Told answer
look_came (Err fault) = Refused fault

-- a call and what it came to
pub record AskedOfNames : Type 0 where
  pub call : NameCall
  pub came : Came

abbrev pub asked : NameCall → Came → AskedOfNames
asked call came = record { call = call; came = came }

-- what was asked so far, and then these
abbrev pub and_then : Option (List AskedOfNames) → List AskedOfNames → Option (List AskedOfNames)
and_then before more = option_map (λ known. known ++ more) before

abbrev pub and_one : Option (List AskedOfNames) → NameCall → Came → Option (List AskedOfNames)
and_one before call came = and_then before (asked call came ∷ [])

-- what was asked while the file of a call was held: from that call until it was let go
pub record WhileHeld (call : NameCall) (Within : (before after : Option (List AskedOfNames)) → Type 0) (before after : Option (List AskedOfNames)) : Type 0 where
  pub last : Option (List AskedOfNames)
  pub within : Within (and_one before call Done) last
  pub let_go : after ≡ and_one last LetGo Done

-- how a file that is to be new is opened: it is made just where no file has the name, and nothing that is there is opened
abbrev pub anew : OpenOptions
anew = with_create_new (with_write (with_read new_options true) true) true

-- how a file that is there is opened: it is neither made nor cut
abbrev pub as_it_is : OpenOptions
as_it_is = with_write (with_read new_options true) true
